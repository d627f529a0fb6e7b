pub mod Walks
pub mod Marks
pub mod Seen
pub mod Paths
pub mod Blocks
pub mod PortLists
pub mod Criteria
pub mod Rules
pub mod Families
mod TreeWalks
pub mod Sides
pub mod FirstPackets
pub mod TierLists
pub mod SetLookups
pub mod KnownSets
pub mod SetTruth
pub mod WantedTiers
pub mod Wanted
pub mod Agree
pub mod Whole
pub mod FromRuns
pub mod KnownWalks
mod KnownPaths
mod KnownTreePaths
pub mod Servable
