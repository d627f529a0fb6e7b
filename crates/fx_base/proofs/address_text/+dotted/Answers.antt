use Rattle.std.proofs.Common.{◌≡◌, ◌<◌, ◌-◌, ℕ, List, [], ◌∷◌, ◌∙◌, length, ap, length-drop, take, drop, get_or, arith}
use Rattle.std.proofs.lemmas.List.{take_rest}
use Rattle.fx_base.proofs.AddressLemmas.{fits_now, fits_next, dotted_none, dotted_last, dotted_last_leaves, dotted_more, dotted_more_leaves, dotted_no_dot, behind_dot}
use Rattle.fx_base.proofs.address_text.+dotted.Goals as goal

pub returns-in-Err : goal.returns-in-Err
returns-in-Err t c = dotted_none c.args.takes_length c.args.high c.args.more c.args.text.now c.in-Err.at c.in-Err.ensures.err.1 c.in-Err.ensures.err.0

pub overflow_mul-value : goal.overflow_mul-value
overflow_mul-value t c = let h = fits_now c.args.high c.args.more c.requires.fits in omega (arith, c.in-Ok.ensures.ok.0.most)

pub overflow_add-value : goal.overflow_add-value
overflow_add-value t c = let h = fits_now c.args.high c.args.more c.requires.fits in omega (arith, c.in-Ok.ensures.ok.0.most)

pub returns-in-Ok-behind : goal.returns-in-Ok-behind
returns-in-Ok-behind t c =
    let found = c.in-Ok.ensures.ok in
    dotted_last c.args.takes_length c.args.high c.args.more c.args.text.now c.in-Ok.found.1 c.in-Ok.found.0 found.0 found.1 c.in-Ok-behind.length c.if-more-eq0.true c.in-Ok-behind.ensures

pub returns-in-Err-behind : goal.returns-in-Err-behind
returns-in-Err-behind t c =
    let found = c.in-Ok.ensures.ok in
    dotted_last_leaves c.args.takes_length c.args.high c.args.more c.args.text.now c.in-Ok.found.1 c.in-Ok.found.0 found.0 found.1 c.in-Err-behind.further c.if-more-eq0.true c.in-Err-behind.ensures

pub dotted-requires : goal.dotted-requires
dotted-requires t c =
    let text = c.args.text.now in
    let left = take (length text - c.in-Ok.found.1) (drop c.in-Ok.found.1 text) in
    let found = c.in-Ok.ensures.ok in
    let more : take (length left - 1) (drop 1 left) ≡ drop 1 left = take_rest left 1 in
    let all : left ≡ drop c.in-Ok.found.1 text = take_rest text c.in-Ok.found.1 in (
      omega (arith, c.decreases, c.if-more-eq0.false),
      (
        omega (arith, ap length more, length-drop 1 left, ap length all, length-drop c.in-Ok.found.1 text, c.requires.text),
        fits_next c.args.high c.in-Ok.found.0 c.args.more (omega (arith, found.0.most)) (omega (arith, c.if-more-eq0.false)) c.requires.fits,
      ),
    )

pub returns-in-Ok-dotted : goal.returns-in-Ok-dotted
returns-in-Ok-dotted t c =
    let found = c.in-Ok.ensures.ok in
    dotted_more c.args.takes_length c.args.high c.args.more c.args.text.now c.in-Ok.found.1 c.in-Ok.found.0 found.0 found.1 c.if-more-eq0.false _ (behind_dot c.args.text.now c.in-Ok.found.1 c.in-len1-up.len_at_least c.if-first-eq46.true) c.in-Ok-dotted.found c.in-Ok-dotted.ensures

pub returns-in-Err-dotted : goal.returns-in-Err-dotted
returns-in-Err-dotted t c =
    let found = c.in-Ok.ensures.ok in
    dotted_more_leaves c.args.takes_length c.args.high c.args.more c.args.text.now c.in-Ok.found.1 c.in-Ok.found.0 found.0 found.1 c.if-more-eq0.false _ (behind_dot c.args.text.now c.in-Ok.found.1 c.in-len1-up.len_at_least c.if-first-eq46.true) c.in-Err-dotted.further c.in-Err-dotted.ensures

-- nothing, or another byte, stands behind the byte
no_byte : (rest left : List ℕ) → left ≡ rest → length left < 1 → get_or rest 0 0 ≡ 46 → ⊥
no_byte [] left same none e = cc
no_byte (b ∷ rest) left same none e = absurd (omega (arith, ap length same))

other_byte : (rest left : List ℕ) → left ≡ rest → (get_or left 0 0 ≡ 46 → ⊥) → get_or rest 0 0 ≡ 46 → ⊥
other_byte rest left same other e = other (ap (λ (l : List ℕ). get_or l 0 0) same ∙ e)

pub returns-in_default : goal.returns-in_default
returns-in_default t c =
    let found = c.in-Ok.ensures.ok in
    dotted_no_dot c.args.takes_length c.args.high c.args.more c.args.text.now c.in-Ok.found.1 c.in-Ok.found.0 found.0 found.1 c.if-more-eq0.false (no_byte _ _ (take_rest c.args.text.now c.in-Ok.found.1) c.in_default.len_below)

pub returns-in_default-2 : goal.returns-in_default-2
returns-in_default-2 t c =
    let found = c.in-Ok.ensures.ok in
    dotted_no_dot c.args.takes_length c.args.high c.args.more c.args.text.now c.in-Ok.found.1 c.in-Ok.found.0 found.0 found.1 c.if-more-eq0.false (other_byte _ _ (take_rest c.args.text.now c.in-Ok.found.1) c.if-first-eq46.false)
