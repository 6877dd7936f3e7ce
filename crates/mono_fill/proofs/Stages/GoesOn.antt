-- The stack of a filling while the chains are merged, and the triangles so far.
-- The stack goes on to the next vertex of its own chain.
use Rattle.std.proofs.Common.{◌≡◌, sym, ap, subst, ◌∙◌, ℕ, zero, suc, ◌+◌, ◌-◌, ◌<◌, ◌≤◌, ℤ, ◌+ℤ◌, List, length, arith, inl, inr, refl}
use Rattle.std.proofs.Common.{[], ◌∷◌, ◌++◌, take, drop}
use Rattle.std.proofs.Math.Nat.{eq-or-lt_of_le}
use Rattle.std.proofs.lemmas.Int.{ints}
use Rattle.std.proofs.lemmas.List.{drop_at, take_at, get_or-take, get_or_append_left, get_or_at, length-append, length-take-le, length_push}
use Rattle.std.proofs.lemmas.List.{take_more}
use Rattle.std.proofs.lemmas.List.Elements.{All-append, All-cons, All-drop, All-get_or, All-push, All-take}
use Rattle.std.specs.List.{All, Contains}
use Rattle.std.specs.Prelude.{slice_index}
use Rattle.plane.specs.Point.{Point}
use Rattle.meshes.proofs.Boundaries.{sides_append}
use Rattle.meshes.specs.Boundary.{IsOdd, sum_along, sum_sides}
use Rattle.meshes.specs.Fits.{IsTriOf, IsCounterclockwiseTri}
use Rattle.meshes.specs.declared.tri.Tri.{Tri}
use Rattle.mono_fill.proofs.Fans.{all_reversed, corners_in, fan_each, HasCornersIn, tri_of}
use Rattle.mono_fill.proofs.Outlines.{at, IsInward, IsOutline, sum_up_to}
use Rattle.mono_fill.proofs.Sums.{met, along_append, along_push, fan_sum, last_append, last_push, odd_met, sides_reversed}
use Rattle.mono_fill.specs.Cursors.{along_chain}
use Rattle.mono_fill.specs.Sides.{fan_from, triangle}
use Rattle.mono_fill.specs.Stacks.{last_of, ArePopped, IsSettled}
use Rattle.mono_fill.specs.declared.side.Side.{Side}
use Rattle.mono_fill.specs.declared.side.Side.TheVariants.{Lower, Upper}

-- so many edges of each chain are passed: the stack rises, its last item is the latest vertex of its own chain, and its first the latest
-- of the other one; it nowhere turns strictly inward, and all of it is inward of the edge of the other chain that runs there
pub record IsStage {corners : List Point} {ranks piece ring : List ℕ} (o : IsOutline corners ranks piece ring) (side facing : Side) (own other : ℕ)
    (stack : List ℕ) (tris : List Tri) : Type 0 where
  pub some : 0 < length stack
  pub bottom : slice_index stack 0 ≡ at ring facing other
  pub top : last_of stack ≡ at ring side own
  pub members : All (Contains piece) stack
  pub numbers : All (λ i. i < length corners) stack
  pub rises : (k : ℕ) → k + 1 < length stack → slice_index ranks (slice_index stack k) < slice_index ranks (slice_index stack (k + 1))
  pub flat : (k : ℕ) → k + 2 < length stack
      → ¬ (IsInward corners side (slice_index stack k) (slice_index stack (k + 1)) (slice_index stack (k + 2)))
  pub inward : (k : ℕ) → 0 < k → k < length stack
      → IsInward corners side (slice_index stack 0) (slice_index stack k) (at ring facing (other + 1))
  pub triangles : All (IsTriOf corners piece) tris
  pub sums : (φ : ℕ → ℕ → ℤ) → IsOdd φ
      → sum_sides φ tris +ℤ sum_along (met side φ) stack ≡ sum_up_to φ ring side own +ℤ sum_up_to φ ring facing other

module _ {corners : List Point} {ranks piece ring : List ℕ} {o : IsOutline corners ranks piece ring} {side facing : Side} {own other : ℕ}
    {stack : List ℕ} {tris : List Tri} (s : IsStage o side facing own other stack tris) where
  -- an item has no higher rank than a later one
  rises_on : (k d : ℕ) → k + d < length stack → slice_index ranks (slice_index stack k) ≤ slice_index ranks (slice_index stack (k + d))
  rises_on k zero h = let e : k + 0 ≡ k = omega arith in subst
      (λ m. slice_index ranks (slice_index stack k) ≤ slice_index ranks (slice_index stack m)) (sym e) (omega arith)
  rises_on k (suc d) h =
      let a = rises_on k d (omega arith) in
      let b = s.rises (k + d) (omega arith) in
      let e : k + d + 1 ≡ k + suc d = omega arith in
      subst (λ m. slice_index ranks (slice_index stack k) ≤ slice_index ranks (slice_index stack m)) e (omega arith)

  -- nor than the last one
  pub below_top : (k : ℕ) → k < length stack → slice_index ranks (slice_index stack k) ≤ slice_index ranks (at ring side own)
  below_top k h =
      let e : k + (length stack - 1 - k) ≡ length stack - 1 = omega arith in
      subst (λ i. slice_index ranks (slice_index stack k) ≤ slice_index ranks i) (ap (slice_index stack) e ∙ s.top)
      (rises_on k (length stack - 1 - k) (omega arith))

-- a triangle is counterclockwise exactly where its corner is inward
pub bend_of_triangle : (corners : List Point) (side : Side) (p q x : ℕ)
    → IsInward corners side p q x → IsCounterclockwiseTri corners (triangle side p q x)
bend_of_triangle corners Lower p q x h = h
bend_of_triangle corners Upper p q x h = h

-- a turn at other names of the same vertices
pub bends_at : (corners : List Point) (side : Side) {p p' q q' x x' : ℕ} → p ≡ p' → q ≡ q' → x ≡ x'
    → IsInward corners side p q x → IsInward corners side p' q' x'
bends_at corners side {p} {p'} {q} {q'} {x} {x'} e f g h =
    subst (λ i. IsInward corners side p' q' i) g
    (subst (λ i. IsInward corners side p' i x) f
    (subst (λ i. IsInward corners side i q x) e h))

-- the sum along a chain, one vertex further
pub sum_more : (φ : ℕ → ℕ → ℤ) (ring : List ℕ) (side : Side) (k : ℕ) → k + 1 < length (along_chain side ring)
    → sum_up_to φ ring side (k + 1) ≡ sum_up_to φ ring side k +ℤ met side φ (at ring side k) (at ring side (k + 1))
sum_more φ ring side k h =
    let xs = along_chain side ring in
    let n : length (take (k + 1) xs) ≡ k + 1 = length-take-le (k + 1) xs (omega arith) in
    let e : length (take (k + 1) xs) - 1 ≡ k = omega arith in
    let last : last_of (take (k + 1) xs) ≡ at ring side k = ap (slice_index (take (k + 1) xs)) e ∙ get_or-take (k + 1) xs k 0 (omega arith) in
    ap (sum_along (met side φ)) (take_more xs (k + 1) 0 h) ∙ along_push (met side φ) (take (k + 1) xs) (at ring side (k + 1)) (omega arith)
    ∙ ap (λ i. sum_up_to φ ring side k +ℤ met side φ i (at ring side (k + 1))) last

-- some items of the stack are popped, and the next vertex x of the chain pushed
module _ {corners : List Point} {ranks piece ring : List ℕ} (o : IsOutline corners ranks piece ring) (side facing : Side) (own other : ℕ)
    (stack kept : List ℕ) (tris more : List Tri) (inside : own + 1 ≤ o.edges side) (s : IsStage o side facing own other stack tris)
    (popped : ArePopped corners side (at ring side (own + 1)) stack kept more) where
  x : ℕ
  x = at ring side (own + 1)

  abbrev new : List ℕ
  new = kept ++ x ∷ []

  length_new : length new ≡ length kept + 1
  length_new = length_push kept x

  kept_within : length kept ≤ length stack
  kept_within = let e = ap length popped.parts in omega (arith, e, length-append kept popped.gone)

  -- what is kept are the first items of the old stack,
  kept_is : take (length kept) stack ≡ kept
  kept_is = ap (take (length kept)) popped.parts ∙ take_at kept popped.gone (length kept) refl

  old_item : (k : ℕ) → k < length kept → slice_index stack k ≡ slice_index kept k
  old_item k h = ap (λ xs. slice_index xs k) popped.parts ∙ get_or_append_left kept popped.gone 0 k h

  -- and of the new one
  kept_item : (k : ℕ) → k < length kept → slice_index stack k ≡ slice_index new k
  kept_item k h = old_item k h ∙ sym (get_or_append_left kept (x ∷ []) 0 k h)

  -- and then comes x
  last_item : (k : ℕ) → k ≡ length kept → slice_index new k ≡ x
  last_item k e = get_or_at kept x [] 0 k (sym e)

  item_in : (k : ℕ) → k < length kept → Contains piece (slice_index stack k)
  item_in k h = All-get_or (Contains piece) stack k 0 (omega (arith, kept_within)) s.members

  -- the popped triangles are triangles of the piece
  popped_triangles : All (IsTriOf corners piece) more
  unfolding x
  popped_triangles k d h =
      let fan = fan_from side x (last_of kept) popped.gone in
      let pile : List ℕ = last_of kept ∷ popped.gone in
      let gone_in : All (Contains piece) popped.gone =
      subst (All (Contains piece)) (ap (drop (length kept)) popped.parts ∙ drop_at kept popped.gone (length kept) refl)
      (All-drop (Contains piece) (length kept) stack s.members) in
      let last_in : Contains piece (last_of kept) = subst (Contains piece) (old_item (length kept - 1) (omega (arith, popped.some)))
      (item_in (length kept - 1) (omega (arith, popped.some))) in
      let pile_in : All (Contains piece) pile = All-cons (Contains piece) (last_of kept) popped.gone last_in gone_in in
      let has : All (HasCornersIn piece) more =
      subst (All (HasCornersIn piece)) (sym popped.fan) (all_reversed (HasCornersIn piece) fan (fan_each side x (HasCornersIn piece) pile (λ j l.
      corners_in piece side _ _ x (All-get_or (Contains piece) pile j 0 (omega arith) pile_in)
      (All-get_or (Contains piece) pile (j + 1) 0 l pile_in) (o.members side (own + 1) inside)))) in
      tri_of corners piece _ (has k d h) (popped.counterclockwise k d h)

  -- the sums stay even
  new_sums : (φ : ℕ → ℕ → ℤ) → IsOdd φ
      → sum_sides φ (tris ++ more) +ℤ sum_along (met side φ) new ≡ sum_up_to φ ring side (own + 1) +ℤ sum_up_to φ ring facing other
  unfolding x
  new_sums φ odd =
      let ψ = met side φ in
      let base = last_of kept in
      let a = sides_append φ tris more in
      let b = ap (sum_sides φ) popped.fan ∙ sides_reversed φ (fan_from side x base popped.gone) ∙ fan_sum side φ odd x base popped.gone in
      let c = ap (sum_along ψ) popped.parts ∙ along_append ψ kept popped.gone popped.some in
      let d = along_push ψ kept x popped.some in
      let e = odd_met side φ odd base x in
      let top = sym (last_append kept popped.gone popped.some) ∙ ap last_of (sym popped.parts) ∙ s.top in
      let f = ap (λ i. ψ i x) top in
      let g = sum_more φ ring side own (omega (arith, inside, o.long side)) in
      let h = s.sums φ odd in
      omega (arith, ints)

  -- the stack does not turn strictly inward to x, and x is inward of the edge of the other chain
  module _ (settled : IsSettled corners side (at ring side (own + 1)) kept)
      (later : slice_index ranks (at ring side own) < slice_index ranks (at ring side (own + 1)))
      (under : IsInward corners side (at ring facing other) (at ring side (own + 1)) (at ring facing (other + 1))) where
    new_rises : (k : ℕ) → k + 1 < length new → slice_index ranks (slice_index new k) < slice_index ranks (slice_index new (k + 1))
    unfolding x
    new_rises k h = elim (eq-or-lt_of_le {n = k + 1} {m = length kept} (omega (arith, length_new))) [
      | inl e ↦
          let a = ap (slice_index ranks) (kept_item k (omega arith)) in
          let b = ap (slice_index ranks) (last_item (k + 1) e) in
          omega (arith, below_top s k (omega (arith, kept_within)), later)
      | inr l ↦
          let a = ap (slice_index ranks) (kept_item k (omega arith)) in
          let b = ap (slice_index ranks) (kept_item (k + 1) l) in
          omega (arith, s.rises k (omega (arith, kept_within)))
    ]

    new_flat : (k : ℕ) → k + 2 < length new
        → ¬ (IsInward corners side (slice_index new k) (slice_index new (k + 1)) (slice_index new (k + 2)))
    unfolding x
    new_flat k h turns = elim (eq-or-lt_of_le {n = k + 2} {m = length kept} (omega (arith, length_new))) [
      | inl e ↦
          settled k (sym e) (bend_of_triangle corners side _ _ _
          (bends_at corners side (sym (kept_item k (omega arith)) ∙ old_item k (omega arith))
          (sym (kept_item (k + 1) (omega arith)) ∙ old_item (k + 1) (omega arith)) (last_item (k + 2) e) turns))
      | inr l ↦
          s.flat k (omega (arith, kept_within))
          (bends_at corners side (sym (kept_item k (omega arith))) (sym (kept_item (k + 1) (omega arith))) (sym (kept_item (k + 2) l)) turns)
    ]

    new_inward : (k : ℕ) → 0 < k → k < length new
        → IsInward corners side (slice_index new 0) (slice_index new k) (at ring facing (other + 1))
    unfolding x
    new_inward k some h = elim (eq-or-lt_of_le {n = k} {m = length kept} (omega (arith, length_new))) [
      | inl e ↦ bends_at corners side (sym s.bottom ∙ kept_item 0 popped.some) (sym (last_item k e)) refl under
      | inr l ↦ bends_at corners side (kept_item 0 popped.some) (kept_item k l) refl (s.inward k some (omega (arith, kept_within)))
    ]

    pub stage_goes_on : IsStage o side facing (own + 1) other (kept ++ at ring side (own + 1) ∷ []) (tris ++ more)
    unfolding x
    stage_goes_on = record {
      some = omega (arith, length_new);
      bottom = sym (kept_item 0 popped.some) ∙ s.bottom;
      top = last_push kept x;
      members = All-push (Contains piece) kept x (subst (All (Contains piece)) kept_is (All-take (Contains piece) (length kept) stack s.members))
          (o.members side (own + 1) inside);
      numbers = All-push (λ i. i < length corners) kept x (subst (All (λ i. i < length corners)) kept_is
          (All-take (λ i. i < length corners) (length kept) stack s.numbers)) (o.numbers side (own + 1) inside);
      rises = new_rises;
      flat = new_flat;
      inward = new_inward;
      triangles = All-append (IsTriOf corners piece) tris more s.triangles popped_triangles;
      sums = new_sums;
    }
