pub mod ClosingLemmas
pub mod Flushing
pub mod KnownFlushes
pub mod Served
pub mod Policing
pub mod KubernetesKept
pub mod SoakLemmas
