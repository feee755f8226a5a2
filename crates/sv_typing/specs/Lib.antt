pub mod Laws
pub mod Noted
pub mod Reached
pub mod Seconds
pub mod Standing
