pub mod Used
pub mod Fed
pub mod Since
pub mod InStep
pub mod BehindBy
pub mod Taking
pub mod Graphs
pub mod Testing
