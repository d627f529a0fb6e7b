-- A rule that is half read.
use Rattle.std.proofs.Common.{◌≡◌, ◌<◌, ◌≤◌, ◌-◌, ℕ, zero, suc, List, [], ◌∷◌, ◌++◌, length, Some, None, refl, sym, ap, ◌∙◌, arith}
use Rattle.fx_model.specs.declared.chain.Match.{Match}
use Rattle.fx_model.specs.declared.chain.Target.{Target}
use Rattle.fx_model.specs.declared.chain.Tag.TheVariants as tag
use Rattle.fx_found.specs.declared.rules.RulePart.TheVariants as part
use Rattle.fx_found.specs.RuleRows.{part_in, taken, rule_after, rule_read}

-- the parts that may follow are as many as are left of the text's bytes
pub record IsHalfRule (before : List Match) (later text : List ℕ) : Type 0 where
  pub left : ℕ
  pub enough : length later ≤ left
  pub whole : rule_after left before later ≡ rule_read text

pub rule_begun : (text : List ℕ) → IsHalfRule [] text text
unfolding rule_read
rule_begun text = record { left = length text; enough = omega arith; whole = refl }

-- one part is taken off what is left
unspent : (n : ℕ) (before : List Match) (later : List ℕ) → 0 < n → rule_after n before later ≡ taken (λ more behind. rule_after (n - 1) more behind) before (part_in later)
unspent zero before later some = absurd (omega (arith, some))
unspent (suc n) before later some =
    let e : n ≡ suc n - 1 = omega arith in
    ap (λ (k : ℕ). taken (λ more behind. rule_after k more behind) before (part_in later)) e

module _ (before : List Match) (later text : List ℕ) (half : IsHalfRule before later text) where
  pub rule_further : (m : Match) (more : List ℕ) → length more < length later → part_in later ≡ Some (part.Match m, more) → IsHalfRule (before ++ m ∷ []) more text
  rule_further m more shorter is =
      let some : 0 < half.left = omega (arith, half.enough, shorter) in
      record {
        left = half.left - 1;
        enough = omega (arith, half.enough, shorter);
        whole = sym (unspent half.left before later some ∙ ap (taken (λ ms behind. rule_after (half.left - 1) ms behind) before) is) ∙ half.whole;
      }

  pub rule_aimed : (t : Target) (more : List ℕ) → length more < length later → part_in later ≡ Some (part.Target t, more) → rule_read text ≡ Some (record { matches = before; target = t; tag = tag.Plain })
  rule_aimed t more shorter is =
      let some : 0 < half.left = omega (arith, half.enough, shorter) in
      sym half.whole ∙ unspent half.left before later some ∙ ap (taken (λ ms behind. rule_after (half.left - 1) ms behind) before) is

  stopped : (n : ℕ) → part_in later ≡ None → rule_after n before later ≡ None
  stopped zero is = refl
  stopped (suc n) is = ap (taken (λ ms behind. rule_after n ms behind) before) is

  pub rule_stopped : part_in later ≡ None → rule_read text ≡ None
  rule_stopped is = sym half.whole ∙ stopped half.left is
