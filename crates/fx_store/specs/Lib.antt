pub mod Changing
pub mod Checking
pub mod Items
pub mod Keeping
pub mod Same
pub mod Touched
