pub mod NotedLemmas
pub mod NotedKept
pub mod Brought
pub mod Standing
pub mod Withouts
