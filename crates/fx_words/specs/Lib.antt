pub mod Words
pub mod Splitting
