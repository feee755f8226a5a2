pub mod Extends
pub mod Sight
pub mod Steps
pub mod Turns
pub mod Views
