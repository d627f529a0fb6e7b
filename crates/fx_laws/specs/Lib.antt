pub mod ChainNames
pub mod DispatchNames
pub mod Stages
