pub mod Declarations
pub mod Grammar
pub mod Laws
pub mod Limits
pub mod Reading
pub mod Refused
