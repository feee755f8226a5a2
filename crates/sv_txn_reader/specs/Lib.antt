pub mod Grammar
pub mod Laws
pub mod Reading
pub mod Refused
pub mod Standing
