pub mod Known
pub mod Resolved
pub mod Indexes
pub mod Placed
pub mod Lists
pub mod Rows
pub mod Kept
