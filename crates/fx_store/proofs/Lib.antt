pub mod Pushed
pub mod Checked
pub mod Stored
pub mod Touching
pub mod StoredAll
pub mod SameRecords
pub mod Leaving
