pub mod States
pub mod Sound
pub mod Answers
pub mod Handing
