mod Cases
pub mod Maps
pub mod Begins
pub mod FoundNames
pub mod ViewNames
pub mod OperationNames
pub mod OthersLemmas
pub mod Together
