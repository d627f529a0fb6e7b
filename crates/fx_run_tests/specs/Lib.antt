pub mod Numbers
pub mod Stepping
