pub mod Joining
pub mod Counting
pub mod Composed
pub mod Uppers
