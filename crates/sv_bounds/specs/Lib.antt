pub mod Answers
pub mod Differences
pub mod Rounds
pub mod Settling
pub mod Walks
