pub mod Exchanging
pub mod ItemLemmas
pub mod Meeting
pub mod TextLemmas
