pub mod Asks
pub mod Meanings
pub mod Numbering
pub mod Answers
pub mod Frame
pub mod Ends
