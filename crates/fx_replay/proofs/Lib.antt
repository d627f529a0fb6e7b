pub mod SendingLemmas
pub mod PortionLemmas
pub mod PacketLines
pub mod Taking
pub mod TestBounds
pub mod Pulling
