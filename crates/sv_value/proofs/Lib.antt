pub mod Below
pub mod CoverLaws
pub mod OrderLaws
