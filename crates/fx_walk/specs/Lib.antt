pub mod WalkEnds
pub mod Endings
pub mod Serving
pub mod PacketPaths
pub mod TreeLaws
pub mod FromChain
