pub mod Finding
pub mod Reading
pub mod Formed
pub mod Refusals
