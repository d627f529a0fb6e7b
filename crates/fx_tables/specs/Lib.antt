pub mod Leads
pub mod Names
pub mod Invariant
pub mod Coding
