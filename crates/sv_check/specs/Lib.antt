pub mod Bounds
pub mod Clashes
pub mod Initial
pub mod Least
pub mod Left
pub mod Rules
pub mod Tests
pub mod Verdicts
