pub mod Keeping
pub mod Limits
pub mod Machine
pub mod Results
pub mod Turning
