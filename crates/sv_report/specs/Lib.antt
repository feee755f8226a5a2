pub mod CompileText
pub mod Counting
pub mod Laws
pub mod Lines
pub mod ReplayText
pub mod Shows
pub mod Steps
pub mod Told
