pub mod Faults
pub mod Flows
pub mod Memory
