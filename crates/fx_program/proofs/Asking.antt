-- What the words ask for.
use Rattle.std.proofs.Common.{◌⊎◌, inl, inr, ℕ, List, Option, Some, None, IsSome}
use Rattle.std.proofs.lemmas.Bool.{false≢true}
use Rattle.fx_program.specs.Asks.{Asks}
use Rattle.fx_words.specs.Words.{node_in}

-- what holds of all that can be asked
pub asks_any : {A : Type 0} (Q : A → Type 0) (o : Option A) → ((a : A) → Q a) → IsSome o → Asks Q o
asks_any Q None q there = false≢true there
asks_any Q (Some a) q there = q a

-- what holds of the node that the words name holds of its name
pub of_node : (Q : List ℕ → Type 0) (node : Option (List ℕ)) → Asks Q node → Q (node_in node)
of_node Q None asked = absurd asked
of_node Q (Some node) asked = asked

-- memory isn't wanted where the words are read without it
pub unwanted : {Usage Fault Memory : Type 0} → Usage ⊎ (Fault ⊎ (Memory × ⊥)) → Usage ⊎ Fault
unwanted (inl usage) = inl usage
unwanted (inr (inl fault)) = inr fault
unwanted (inr (inr wanting)) = absurd wanting.1
