pub mod BoolLaws
pub mod DecideLaws
pub mod GuessLaws
pub mod MetLaws
pub mod RuleLaws
pub mod TryLaws
pub mod WithinLaws
