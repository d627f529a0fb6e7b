use Rattle.std.proofs.Common.{◌≡◌, List, ◌∷◌, ◌++◌, ℕ, true, ap, ◌∙◌, subst, append_assoc}
use Rattle.std.specs.List.{AllByRecursion, flat_map}
use Rattle.std.specs.FinMap as maps
use Rattle.fx_model.specs.declared.view.ViewProfile.{ViewProfile}
use Rattle.fx_model.specs.Formed.{is_formed_view_profile}
use Rattle.fx_model.specs.ViewTables.{profile_chains}
use Rattle.fx_hostep.specs.HostTables.{Written}
use Rattle.fx_hostep.proofs.policies.push_profiles.Goals as goal

-- those that are left, and those that are whole with them
record AreLeft (chains whole : List Written) (left : List (List ℕ × ViewProfile)) : Type 0 where
  formed : AllByRecursion (λ e. is_formed_view_profile e ≡ true) left
  whole_is : chains ++ flat_map profile_chains left ≡ whole

-- one is pushed
one_pushed : (chains whole more : List Written) (e : List ℕ × ViewProfile) (left : List (List ℕ × ViewProfile)) → AreLeft chains whole (e ∷ left) → more ≡ chains ++ profile_chains e → AreLeft more whole left
one_pushed chains whole more e left was pushed = record {
  formed = was.formed.1;
  whole_is = ap (λ ws. ws ++ flat_map profile_chains left) pushed ∙ append_assoc chains (profile_chains e) (flat_map profile_chains left) ∙ was.whole_is;
}

pub loop-key-preserved : goal.loop-key-preserved
loop-key-preserved c =
    let whole : List Written = c.args.chains.now ++ flat_map profile_chains (maps.entries c.args.profiles.now) in
    let more =
    one_pushed c.loop-key.chains whole c.push_profile.new.chains _ c.next.new.self
    (subst (λ (es : List (List ℕ × ViewProfile)). AreLeft c.loop-key.chains whole es) c.in-Some.ensures.steps (record { formed = c.loop-key.invariant.formed; whole_is = c.loop-key.invariant.whole }))
    c.in_ok-push_profile.ensures in
    record { formed = more.formed; whole = more.whole_is }
