pub mod Canonicals
pub mod Counts
pub mod Indexed
pub mod Matched
pub mod Tested
