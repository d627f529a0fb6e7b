pub mod Labelled
pub mod Spots
pub mod TextGroups
