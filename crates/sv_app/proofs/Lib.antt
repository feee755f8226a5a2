pub mod AcceptedLaws
pub mod DrawLaws
pub mod FreshLaws
pub mod ListLaws
pub mod PlaceLaws
pub mod SchemaLaws
pub mod TestLaws
pub mod Trees
