pub mod CutLemmas
pub mod MatchLemmas
