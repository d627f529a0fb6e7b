pub mod PacketRuns
pub mod Output
pub mod Portions
pub mod Standing
pub mod Stepping
pub mod Tallies
pub mod Tests
