pub mod Orders
pub mod ClaimLists
pub mod Holdings
pub mod PlainText
