pub mod Behind
pub mod Chosen
pub mod Few
pub mod Gathers
pub mod Held
pub mod Narrow
pub mod Rest
pub mod Stand
