pub mod Runs
pub mod LoggedLemmas
pub mod ActiveChanges
