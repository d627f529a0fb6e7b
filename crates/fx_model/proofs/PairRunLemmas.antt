-- Where changes of pairs lead.
use Rattle.std.proofs.Common.{◌≡◌, List, [], ◌∷◌, sym}
use Rattle.fx_model.specs.Pairs.{PolicyPairs, put}
use Rattle.fx_model.specs.PairRuns.{IsPairRun, changed_policy_pair, pairs_after}
use Rattle.fx_model.specs.declared.policy_pairs.PolicyPairChange.{PolicyPairChange}

pub run_end : (changes : List PolicyPairChange) (first last : PolicyPairs) → IsPairRun changes first last → last ≡ pairs_after changes first
run_end [] first last h = sym h
run_end (c ∷ changes) first last h = run_end changes (put first (changed_policy_pair c) c.on) last h.1
