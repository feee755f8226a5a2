pub mod Laws
pub mod Listing
pub mod Numbered
pub mod Paths
