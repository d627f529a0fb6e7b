pub mod InvariantLemmas
pub mod Swapped
pub mod Exchanged
pub mod Filled
