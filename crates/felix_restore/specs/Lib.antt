pub mod Output
pub mod Standing
pub mod Stepping
pub mod Restored
pub mod Top
pub mod Words
