pub mod Tied
pub mod Told
pub mod Defined
pub mod Empty
pub mod Changes
pub mod Waits
pub mod Counted
