pub mod Cuts
pub mod Names
pub mod Orders
pub mod Padded
pub mod Texts
pub mod TotalOrders
