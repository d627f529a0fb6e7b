pub mod Inputs
pub mod Active
pub mod Node
pub mod Steps
pub mod Indexes
pub mod Rows
