pub mod Frugal
pub mod Laws
pub mod Listed
pub mod Right
pub mod TooMuch
