pub mod CountLaws
pub mod FewLaws
pub mod ListingLaws
pub mod MemberLaws
pub mod NextLaws
pub mod OrderLaws
pub mod UnitLaws
pub mod WayLaws
