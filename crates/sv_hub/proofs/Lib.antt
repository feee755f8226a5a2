pub mod ExtendsLaws
pub mod ListLaws
pub mod SightLaws
pub mod StepLaws
