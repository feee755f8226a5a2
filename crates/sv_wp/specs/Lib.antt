pub mod Answers
pub mod Cases
pub mod Decides
pub mod Gives
pub mod Laws
pub mod Listing
pub mod Reads
pub mod Told
