pub mod Candidates
pub mod Canonicals
pub mod Gaining
pub mod Indexing
pub mod Keeping
pub mod Labelling
pub mod Meeting
pub mod Moving
pub mod Needing
pub mod Staying
pub mod Sums
pub mod Tested
pub mod Told
pub mod Walked
mod Replaced
