pub mod Uses
pub mod Told
pub mod Apart
pub mod Scanned
pub mod Kept
pub mod Alone
