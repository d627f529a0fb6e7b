pub mod Inputs
pub mod UseText
pub mod Members
pub mod Indexes
pub mod Counts
pub mod Giving
pub mod Kept
