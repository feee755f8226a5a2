pub mod CoverLaws
pub mod DecideLaws
pub mod FoundLaws
pub mod LeftLaws
pub mod OnceLaws
pub mod OverLaws
pub mod PathLaws
pub mod PlaceLaws
