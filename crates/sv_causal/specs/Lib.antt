pub mod Causes
pub mod Inboxes
pub mod Missing
