pub mod Chaos
pub mod Logs
pub mod Sight
