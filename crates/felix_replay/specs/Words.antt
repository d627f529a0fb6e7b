-- What the words of the command line ask for: the node, and a replay of the input or a soak run.
use Rattle.std.specs.Prelude.{ℕ, List, [], Option, Some, None, IsSome, IsNone}
use Rattle.fx_words.specs.Words.{asked_of}
use Rattle.fx_words.specs.declared.words.Asked.{Asked}

abbrev pub node_in : Option Asked → List ℕ
node_in None = []
node_in (Some asked) = asked.node

-- the node's name, or none where the words are not in the grammar
abbrev pub node_name : List (List ℕ) → List ℕ
node_name words = node_in (asked_of words)

abbrev pub AsksReplay : Option Asked → Type 0
AsksReplay None = ⊥
AsksReplay (Some asked) = IsNone asked.soak

abbrev pub AsksSoak : Option Asked → Type 0
AsksSoak None = ⊥
AsksSoak (Some asked) = IsSome asked.soak
