pub mod PathTexts
pub mod After
pub mod ShortTexts
pub mod NetLemmas
pub mod Readings
pub mod SelectorTexts
pub mod NameTexts
pub mod SideTrees
