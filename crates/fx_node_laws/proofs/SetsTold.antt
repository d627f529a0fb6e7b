-- The sets that the members node told are those of the view of the resources.
use Rattle.std.proofs.Common.{◌≡◌, ℕ, true, List, map, Option, Some, None, is_some, refl, sym, ap, ◌∙◌}
use Rattle.std.specs.Prelude.{option_map}
use Rattle.std.specs.FinMap as maps
use Rattle.fx_base.specs.Extended.{filled}
use Rattle.fx_base.specs.Set as set
use Rattle.fx_base.proofs.Found.{each}
use Rattle.fx_base.proofs.FilledLemmas.{at_filled}
use Rattle.fx_names.specs.Digests.{Digest}
use Rattle.fx_laws.proofs.Uses.{all-map}
use Rattle.fx_laws.proofs.SetNames.{IsThere}
use Rattle.fx_laws.proofs.ViewClosed.{sets_there}
use Rattle.fx_model.specs.declared.ids.ItemKey.{ItemKey}
use Rattle.fx_model.specs.declared.resources.Resources.{Resources}
use Rattle.fx_model.specs.declared.set_use.SetUse.{SetUse}
use Rattle.fx_model.specs.Messages.{Members}
use Rattle.fx_model.specs.Sets.{use_name, set_members}
use Rattle.fx_model.specs.Sinks.{Uses}
use Rattle.fx_model.specs.Tables.{Sets}
use Rattle.fx_model.specs.Views.{wanted_uses, set_entry, view_of}
use Rattle.fx_label_index.specs.declared.held.Inputs as index
use Rattle.fx_active.specs.declared.inputs.Inputs as active
use Rattle.fx_graph_rules.specs.Composed.{holds_at}
use Rattle.fx_scanner.specs.declared.inputs.Inputs as scanner
use Rattle.fx_scanner.specs.Apart.{IsUsed, IsApart}
use Rattle.fx_scanner.specs.Scanned.{use_entry, all_uses}
use Rattle.fx_resolver.specs.declared.inputs.Inputs as resolver
use Rattle.fx_members.specs.declared.inputs.Inputs as members
use Rattle.fx_members.specs.Members.{members_for, AreMembers}
use Rattle.fx_members.specs.UseText.{text_of}
use Rattle.fx_node_laws.specs.Tied.{IsTied}
use Rattle.fx_node_laws.proofs.Given.{IsGiven}
use Rattle.fx_node_laws.proofs.Made.{nothing_there, same_made}
use Rattle.fx_node_laws.proofs.MembersTold.{members_alike}
use Rattle.fx_node_laws.proofs.Mapped.{is_mapped}
use Rattle.fx_node_laws.proofs.UsesTold.{of_wanted, wanted_used, use_named, in_uses}

mapped_there : {A B : Type 0} (f : A → B) (o : Option A) (y : B) → option_map f o ≡ Some y → (x : A) × ((o ≡ Some x) × (y ≡ f x))
mapped_there f None y h = cc
mapped_there f (Some x) y h = let same : y ≡ f x = cc in (x, (refl, same))

module _ {dg : Digest} {R : Resources} {n : index.Inputs} {a : active.Inputs} {r : resolver.Inputs} {m : members.Inputs} {s : scanner.Inputs} (uses : Uses) (sets : Sets)
    (tied : IsTied dg R n a r m) (g : IsGiven R s) (apart : IsApart dg s) (filled_are : uses ≡ filled maps.empty (map (use_entry dg) (all_uses s))) (used : m.uses ≡ uses)
    (matched : (name : List ℕ) (u : SetUse) → maps.get uses name ≡ Some u → (i : ItemKey) → set.contains m.matched (text_of u, i) ≡ holds_at n u.selector i)
    (are : AreMembers m sets) where
  abbrev wanted : Sets
  wanted = filled maps.empty (map (set_entry dg R) (wanted_uses R))

  -- a used set at its name
  abbrev IsSet : List ℕ → Members → Type 0
  IsSet k ms = (u : SetUse) × (IsUsed s u × ((use_name dg u ≡ k) × (ms ≡ set_members R u)))

  one_set : (k : List ℕ) (x y : Members) → IsSet k x → IsSet k y → x ≡ y
  one_set k x y p q =
      let same : p.0 ≡ q.0 = apart.uses_apart p.0 q.0 p.1.0 q.1.0 (p.1.1.0 ∙ sym q.1.1.0) in
      p.1.1.1 ∙ ap (set_members R) same ∙ sym q.1.1.1

  -- ---- what was told

  sets_at : (k : List ℕ) → maps.get sets k ≡ option_map (members_for m.items m.matched) (maps.get uses k)
  sets_at k = are k ∙ ap (λ (us : Uses). option_map (members_for m.items m.matched) (maps.get us k)) used

  in_wanted : (u : SetUse) → IsUsed s u → maps.contains_key wanted (use_name dg u) ≡ true
  in_wanted = of_wanted g (IsThere dg wanted) (sets_there dg R)

  told_entry : (k : List ℕ) (ms : Members) → maps.get sets k ≡ Some ms → IsSet k ms × (maps.contains_key wanted k ≡ true)
  told_entry k ms h =
      let x = mapped_there (members_for m.items m.matched) (maps.get uses k) ms (sym (sets_at k) ∙ h) in
      let named = use_named dg s uses filled_are k x.0 x.1.0 in (
        (x.0, (named.0, (named.1, x.1.1 ∙ members_alike tied x.0 (matched k x.0 x.1.0)))),
        ap (maps.contains_key wanted) (sym named.1) ∙ in_wanted x.0 named.0,
      )

  -- ---- what is wanted

  in_sets : (u : SetUse) → IsUsed s u → maps.contains_key sets (use_name dg u) ≡ true
  in_sets u is = ap is_some (sets_at (use_name dg u)) ∙ is_mapped (members_for m.items m.matched) (maps.get uses (use_name dg u)) ∙ in_uses dg s uses filled_are u is

  wanted_entry : (k : List ℕ) (ms : Members) → maps.get wanted k ≡ Some ms → IsSet k ms × (maps.contains_key sets k ≡ true)
  wanted_entry = at_filled (λ k ms. IsSet k ms × (maps.contains_key sets k ≡ true)) maps.empty (map (set_entry dg R) (wanted_uses R)) (λ q x h. nothing_there q x h)
      (all-map (λ (e : List ℕ × Members). IsSet e.0 e.1 × (maps.contains_key sets e.0 ≡ true)) (set_entry dg R) (wanted_uses R)
      (each (IsUsed s) (λ u. IsSet (use_name dg u) (set_members R u) × (maps.contains_key sets (use_name dg u) ≡ true)) (λ u is. ((u, (is, (refl, refl))), in_sets u is)) (wanted_uses R) (wanted_used g)))

  pub sets_are : sets ≡ (view_of dg R).sets
  sets_are = same_made IsSet one_set sets wanted told_entry wanted_entry
