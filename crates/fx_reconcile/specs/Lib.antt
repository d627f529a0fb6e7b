pub mod Alike
pub mod Operations
pub mod Goal
pub mod Texts
