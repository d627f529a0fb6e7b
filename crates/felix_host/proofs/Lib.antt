pub mod TakingLemmas
pub mod NodeLemmas
pub mod HostLemmas
pub mod Served
pub mod Flushed
pub mod Policing
