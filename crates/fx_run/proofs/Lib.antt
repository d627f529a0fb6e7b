pub mod Runs
pub mod Writings
pub mod LineByLine
