pub mod Run
pub mod RunFaults
pub mod Writing
pub mod Ran
pub mod Statuses
