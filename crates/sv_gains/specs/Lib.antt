pub mod Asked
pub mod Gains
pub mod Systems
