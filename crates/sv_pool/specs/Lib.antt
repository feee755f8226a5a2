pub mod Lent
pub mod Placed
pub mod Pooled
