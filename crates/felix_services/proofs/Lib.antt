pub mod WrittenReads
pub mod PacketLemmas
pub mod TakingLemmas
pub mod PlacesKept
pub mod Served
pub mod Flushed
pub mod Policing
pub mod Kept
