pub mod SameWays
pub mod Ways
pub mod Differences
pub mod Narrowing
pub mod Plans
pub mod Beside
pub mod Edits
pub mod Laid
