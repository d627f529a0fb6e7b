pub mod Digests
pub mod Names
pub mod Claims
pub mod Holding
