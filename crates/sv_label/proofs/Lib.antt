pub mod DecideLaws
pub mod FailLaws
pub mod FindLaws
pub mod GroupLaws
