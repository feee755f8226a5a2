pub mod Before
pub mod Findings
pub mod Grown
pub mod Told
pub mod Turns
