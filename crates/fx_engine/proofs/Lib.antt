pub mod Answering
pub mod Following
pub mod Handing
pub mod Unchanged
