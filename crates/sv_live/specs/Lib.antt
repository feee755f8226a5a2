pub mod Attempts
pub mod Crews
pub mod Dues
pub mod Fetches
pub mod Receipts
pub mod Serving
