-- Batches, worked.
use Rattle.std.proofs.Common.{◌≡◌, ℕ, Bool, true, false, cond, List, [], ◌∷◌, ◌++◌, Option, Some, None, refl, sym, ap, subst, ◌∙◌}
use Rattle.std.specs.Prelude.{codes}
use Rattle.std.specs.List.{flat_map}
use Rattle.std.specs.Ordering.{eq_by_cmp}
use Rattle.std.specs.Cmp.{Equal-is}
use Rattle.std.specs.FinMap as maps
use Rattle.fx_base.specs.declared.kernel_name.KernelName.TheVariants.{Chain}
use Rattle.fx_base.proofs.Entries.{entries-empty}
use Rattle.fx_names.specs.Digests.{Digest}
use Rattle.fx_names.specs.Claims.{Clash, first_clash}
use Rattle.fx_names.specs.declared.claim.Claim.{Claim}
use Rattle.fx_model.specs.declared.ids.ItemKey.{ItemKey}
use Rattle.fx_model.specs.declared.ids.ItemKey.TheVariants as item_key
use Rattle.fx_model.specs.declared.ids.Key.TheVariants as key
use Rattle.fx_model.specs.contracts.ids.ItemKeyOrd.TheImpl as item_cmp
use Rattle.fx_model.specs.declared.resources.Endpoint.{Endpoint}
use Rattle.fx_model.specs.declared.resources.Item.TheVariants as item
use Rattle.fx_model.specs.declared.resources.Resources.{Resources}
use Rattle.fx_model.specs.declared.resources.Update.{Update}
use Rattle.fx_model.specs.declared.resources.Update.TheVariants as update
use Rattle.fx_model.specs.Resources.{empty_resources, after}
use Rattle.fx_model.specs.Claims.{all_claims, claims_at, endpoint_claims, interface_claims, listed_claims, policy_claims, profile_claims, clash}
use Rattle.fx_model.specs.Batches.{after_all, touched_keys, clash_all}
use Rattle.fx_model.specs.Steps.{last_record, puts_of, steps_of}
use Rattle.fx_model.proofs.Orders.{item_total, exact_item}

-- ---- all resources

-- no update changes nothing, and clashes with nothing
nothing_made : (R : Resources) → after_all R [] ≡ R
nothing_made R = refl

nothing_clashes : (dg : Digest) (R : Resources) → clash_all dg R [] ≡ None
nothing_clashes dg R = refl

-- one update alone is what it is without a batch
one_made : (R : Resources) (u : Update) → after_all R (u ∷ []) ≡ after R u
one_made R u = refl

one_clashes : (dg : Digest) (R : Resources) (u : Update) → clash_all dg R (u ∷ []) ≡ clash dg R u
one_clashes dg R update.InSync = refl
one_clashes dg R (update.Put k x) = refl
one_clashes dg R (update.Delete k) = refl

-- ---- two endpoints of one node

abbrev w1 : ItemKey
w1 = item_key.Endpoint (codes "a") (codes "w1")

abbrev w4 : ItemKey
w4 = item_key.Endpoint (codes "a") (codes "w4")

-- an endpoint that has only its interface
abbrev on_interface : List ℕ → Endpoint
on_interface iface = record { node = codes "n1"; iface = iface; labels = maps.empty; addresses = []; profiles = []; ports = [] }

abbrev put_on : ItemKey → List ℕ → Update
put_on k iface = update.Put (key.Item k) (item.Endpoint (on_interface iface))

abbrev Endpoints : Type 0
Endpoints = maps.FinMap item_cmp.cmp-value.it Endpoint

abbrev holding : Endpoints → Resources
holding es = record (empty_resources (codes "n1")) { endpoints = es }

abbrev none_there : Endpoints
none_there = maps.empty

-- w1 on cali1 and w4 on cali2
abbrev both_there : Endpoints
both_there = maps.insert (maps.insert none_there w1 (on_interface (codes "cali1"))) w4 (on_interface (codes "cali2"))

-- ---- the records that are left

abbrev is_w1 : ItemKey → Bool
is_w1 q = eq_by_cmp item_cmp.cmp-value.it q w1

abbrev is_w4 : ItemKey → Bool
is_w4 q = eq_by_cmp item_cmp.cmp-value.it q w4

not_both : (q : ItemKey) → is_w1 q ≡ true → is_w4 q ≡ false
not_both q h = subst (λ k. is_w4 k ≡ false) (sym (exact_item q w1 ((Equal-is (item_cmp.cmp-value.it q w1)).0 h))) refl

not_both' : (q : ItemKey) → is_w4 q ≡ true → is_w1 q ≡ false
not_both' q h = subst (λ k. is_w1 k ≡ false) (sym (exact_item q w4 ((Equal-is (item_cmp.cmp-value.it q w4)).0 h))) refl

none_left : (p r : Bool) (x y : Endpoint) → cond r None (cond p None (cond r (Some y) (cond p (Some x) None))) ≡ None
none_left true true x y = refl
none_left true false x y = refl
none_left false true x y = refl
none_left false false x y = refl

second_left : (p r : Bool) (x y : Endpoint) → (p ≡ true → r ≡ false) → cond p None (cond r (Some y) (cond p (Some x) None)) ≡ cond r (Some y) None
second_left true r x y apart = ap (λ b. cond b (Some y) None) (sym (apart refl))
second_left false r x y apart = refl

first_left : (p r : Bool) (x y : Endpoint) → (r ≡ true → p ≡ false) → cond r None (cond r (Some y) (cond p (Some x) None)) ≡ cond p (Some x) None
first_left p true x y apart = ap (λ b. cond b (Some x) None) (sym (apart refl))
first_left p false x y apart = refl

-- what the two have at a key
at_key : (q : ItemKey) → maps.get both_there q ≡ cond (is_w4 q) (Some (on_interface (codes "cali2"))) (cond (is_w1 q) (Some (on_interface (codes "cali1"))) None)
at_key q =
    maps.get-insert item_total _ _ _ q
    ∙ ap (cond (is_w4 q) (Some (on_interface (codes "cali2")))) (maps.get-insert item_total _ _ _ q
    ∙ ap (cond (is_w1 q) (Some (on_interface (codes "cali1")))) (maps.get-empty item_cmp.cmp-value.it q))

without_both : maps.remove (maps.remove both_there w1) w4 ≡ none_there
without_both = maps.same_map item_total exact_item _ _ (λ q.
    maps.get-remove item_total _ w4 q
    ∙ ap (cond (is_w4 q) None) (maps.get-remove item_total _ w1 q ∙ ap (cond (is_w1 q) None) (at_key q))
    ∙ none_left (is_w1 q) (is_w4 q) _ _
    ∙ sym (maps.get-empty item_cmp.cmp-value.it q))

without_w1 : maps.remove both_there w1 ≡ maps.insert none_there w4 (on_interface (codes "cali2"))
without_w1 = maps.same_map item_total exact_item _ _ (λ q.
    maps.get-remove item_total _ w1 q
    ∙ ap (cond (is_w1 q) None) (at_key q)
    ∙ second_left (is_w1 q) (is_w4 q) _ _ (not_both q)
    ∙ sym (maps.get-insert item_total _ _ _ q ∙ ap (cond (is_w4 q) (Some (on_interface (codes "cali2")))) (maps.get-empty item_cmp.cmp-value.it q)))

without_w4 : maps.remove both_there w4 ≡ maps.insert none_there w1 (on_interface (codes "cali1"))
without_w4 = maps.same_map item_total exact_item _ _ (λ q.
    maps.get-remove item_total _ w4 q
    ∙ ap (cond (is_w4 q) None) (at_key q)
    ∙ first_left (is_w1 q) (is_w4 q) _ _ (not_both' q)
    ∙ sym (maps.get-insert item_total _ _ _ q ∙ ap (cond (is_w1 q) (Some (on_interface (codes "cali1")))) (maps.get-empty item_cmp.cmp-value.it q)))

abbrev nothing : Option Endpoint
nothing = None

none_at : (p r : Bool) → cond r nothing (cond p nothing nothing) ≡ nothing
none_at true true = refl
none_at true false = refl
none_at false true = refl
none_at false false = refl

still_none : maps.remove (maps.remove none_there w1) w4 ≡ none_there
still_none = maps.same_map item_total exact_item _ _ (λ q.
    maps.get-remove item_total _ w4 q
    ∙ ap (cond (is_w4 q) None) (maps.get-remove item_total _ w1 q ∙ ap (cond (is_w1 q) None) (maps.get-empty item_cmp.cmp-value.it q))
    ∙ none_at (is_w1 q) (is_w4 q)
    ∙ sym (maps.get-empty item_cmp.cmp-value.it q))

-- ---- what they claim

abbrev Listed : Type 0
Listed = List (ItemKey × Endpoint)

abbrev claims_of_these : Digest → Listed → List Claim
claims_of_these dg xs = flat_map (λ x. endpoint_claims dg (codes "n1") x.0 x.1) xs

no_others : (dg : Digest) (R : Resources) → R.profiles ≡ maps.empty → R.policies ≡ maps.empty
    → (flat_map (λ x. profile_claims dg x.0 x.1) (maps.entries R.profiles) ++ flat_map (λ x. policy_claims dg x.0 x.1) (maps.entries R.policies)) ≡ []
no_others dg R p q =
    let profiles : maps.entries R.profiles ≡ [] = ap maps.entries p ∙ entries-empty _ in
    let policies : maps.entries R.policies ≡ [] = ap maps.entries q ∙ entries-empty _ in
    λ i. flat_map (λ x. profile_claims dg x.0 x.1) (profiles i) ++ flat_map (λ x. policy_claims dg x.0 x.1) (policies i)

claims_held : (dg : Digest) (es : Endpoints) (xs : Listed) → maps.entries es ≡ xs → all_claims dg (holding es) ≡ claims_of_these dg xs ++ []
claims_held dg es xs is = λ i. claims_of_these dg (is i) ++ no_others dg (holding es) refl refl i

alone : (k : ItemKey) (e : Endpoint) → maps.entries (maps.insert none_there k e) ≡ (k, e) ∷ []
alone k e = maps.entries-insert item_total none_there k e ∙ ap (maps.put item_cmp.cmp-value.it k e) (entries-empty item_cmp.cmp-value.it)

-- ---- the worked batches

abbrev n1 : List ℕ
n1 = codes "n1"

abbrev holder_is : List ℕ → List ℕ → Option Clash
holder_is name holder = Some (record { name = Chain name; holder = holder })

-- w1 and w4 exchange their interfaces
abbrev exchange : List Update
exchange = put_on w1 (codes "cali2") ∷ put_on w4 (codes "cali1") ∷ []

-- together they clash with nothing
exchanged : (dg : Digest) → clash_all dg (holding both_there) exchange ≡ None
exchanged dg =
    let held : all_claims dg (holding (maps.remove (maps.remove both_there w1) w4)) ≡ [] = claims_held dg _ [] (ap maps.entries without_both ∙ entries-empty item_cmp.cmp-value.it) in
    let first : maps.get (maps.insert (maps.insert both_there w1 (on_interface (codes "cali2"))) w4 (on_interface (codes "cali1"))) w1 ≡ Some (on_interface (codes "cali2")) =
    maps.get-insert item_total _ w4 _ w1 ∙ maps.get-insert item_total _ w1 _ w1 in
    let second : maps.get (maps.insert (maps.insert both_there w1 (on_interface (codes "cali2"))) w4 (on_interface (codes "cali1"))) w4 ≡ Some (on_interface (codes "cali1")) =
    maps.get-insert item_total _ w4 _ w4 in
    λ i. first_clash (held i) (listed_claims dg n1 w1 (first i) ++ (listed_claims dg n1 w4 (second i) ++ []))

-- each of the two puts alone clashes
first_alone : (dg : Digest) → clash dg (holding both_there) (put_on w1 (codes "cali2")) ≡ holder_is (codes "cali-tw-cali2") (codes "endpoint a/w4")
first_alone dg =
    let held = claims_held dg (maps.remove both_there w1) _ (ap maps.entries without_w1 ∙ alone w4 (on_interface (codes "cali2"))) in
    let there : maps.get (maps.insert both_there w1 (on_interface (codes "cali2"))) w1 ≡ Some (on_interface (codes "cali2")) = maps.get-insert item_total _ w1 _ w1 in
    λ i. first_clash (held i) (listed_claims dg n1 w1 (there i) ++ [])

second_alone : (dg : Digest) → clash dg (holding both_there) (put_on w4 (codes "cali1")) ≡ holder_is (codes "cali-tw-cali1") (codes "endpoint a/w1")
second_alone dg =
    let held = claims_held dg (maps.remove both_there w4) _ (ap maps.entries without_w4 ∙ alone w1 (on_interface (codes "cali1"))) in
    let there : maps.get (maps.insert both_there w4 (on_interface (codes "cali1"))) w4 ≡ Some (on_interface (codes "cali1")) = maps.get-insert item_total _ w4 _ w4 in
    λ i. first_clash (held i) (listed_claims dg n1 w4 (there i) ++ [])

-- one key twice: first on the other's interface, which would clash, and then on one of its own
abbrev twice : List Update
twice = put_on w1 (codes "cali2") ∷ put_on w1 (codes "cali3") ∷ []

touched_once : touched_keys twice ≡ key.Item w1 ∷ []
touched_once = refl

last_there : maps.get (maps.insert (maps.insert both_there w1 (on_interface (codes "cali2"))) w1 (on_interface (codes "cali3"))) w1 ≡ Some (on_interface (codes "cali3"))
last_there = maps.get-insert item_total _ w1 _ w1

-- only the last record claims, and once
last_claims : (dg : Digest) → flat_map (claims_at dg (after_all (holding both_there) twice)) (touched_keys twice) ≡ interface_claims dg w1 (on_interface (codes "cali3"))
last_claims dg = λ i. listed_claims dg n1 w1 (last_there i) ++ []

last_counts : (dg : Digest) → clash_all dg (holding both_there) twice ≡ None
last_counts dg =
    let held = claims_held dg (maps.remove both_there w1) _ (ap maps.entries without_w1 ∙ alone w4 (on_interface (codes "cali2"))) in
    λ i. first_clash (held i) (listed_claims dg n1 w1 (last_there i) ++ [])

-- ---- the steps in which batches are handed on

-- nothing has no steps
no_steps : (R : Resources) → steps_of R [] ≡ []
no_steps R = refl

-- the last record of a key stands at the end, and none where a delete comes after it
last_put : last_record twice (key.Item w1) ≡ Some (item.Endpoint (on_interface (codes "cali3")))
last_put = refl

deleted_last : last_record (put_on w1 (codes "cali1") ∷ update.Delete (key.Item w1) ∷ []) (key.Item w1) ≡ None
deleted_last = refl

-- both records are put again, in the order of their keys
exchange_puts : puts_of exchange (touched_keys exchange) ≡ exchange
exchange_puts = refl

-- two keys of one batch want one interface: the later clashes with the earlier
inside : (dg : Digest) → clash_all dg (holding none_there) (put_on w1 (codes "cali1") ∷ put_on w4 (codes "cali1") ∷ []) ≡ holder_is (codes "cali-tw-cali1") (codes "endpoint a/w1")
inside dg =
    let held : all_claims dg (holding (maps.remove (maps.remove none_there w1) w4)) ≡ [] = claims_held dg _ [] (ap maps.entries still_none ∙ entries-empty item_cmp.cmp-value.it) in
    let first : maps.get (maps.insert (maps.insert none_there w1 (on_interface (codes "cali1"))) w4 (on_interface (codes "cali1"))) w1 ≡ Some (on_interface (codes "cali1")) =
    maps.get-insert item_total _ w4 _ w1 ∙ maps.get-insert item_total _ w1 _ w1 in
    let second : maps.get (maps.insert (maps.insert none_there w1 (on_interface (codes "cali1"))) w4 (on_interface (codes "cali1"))) w4 ≡ Some (on_interface (codes "cali1")) =
    maps.get-insert item_total _ w4 _ w4 in
    λ i. first_clash (held i) (listed_claims dg n1 w1 (first i) ++ (listed_claims dg n1 w4 (second i) ++ []))
