pub mod FindingLaws
pub mod PastLaws
pub mod PublishedLaws
pub mod ToldLaws
