pub mod Noted
pub mod Kept
pub mod Knowing
