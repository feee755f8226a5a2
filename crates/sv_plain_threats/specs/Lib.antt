pub mod Laws
pub mod ThreatenedWithin
pub mod Tries
