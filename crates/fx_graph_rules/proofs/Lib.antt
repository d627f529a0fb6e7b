pub mod Counts
pub mod Composing
pub mod Uppers
pub mod SameTold
