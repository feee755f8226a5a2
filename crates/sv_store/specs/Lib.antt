pub mod CodedTables
pub mod Initial
pub mod Named
pub mod Rest
pub mod Standing
pub mod Stored
