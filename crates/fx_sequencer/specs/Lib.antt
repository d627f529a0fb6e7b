pub mod Entry
pub mod Flagged
pub mod Pending
pub mod Sent
pub mod Sides
pub mod TwoSides
