pub mod Covers
pub mod Decided
pub mod Failures
pub mod Groups
pub mod Laws
pub mod Stored
