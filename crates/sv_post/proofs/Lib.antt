pub mod LogLaws
pub mod SightLaws
