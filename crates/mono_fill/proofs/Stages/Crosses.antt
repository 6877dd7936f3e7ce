-- The stack goes over to the next vertex of the other chain, and its fan to that vertex; at the end to the greatest one.
use Rattle.std.specs.List.{All, Contains}
use Rattle.std.proofs.Common.{◌≡◌, refl, sym, ap, subst, ◌∙◌, ℕ, zero, suc, ◌+◌, ◌-◌, ◌<◌, ◌≤◌, ℤ, pos, ◌+ℤ◌, ◌<ℤ◌, List, [], ◌∷◌, ◌++◌, length}
use Rattle.std.proofs.Common.{arith}
use Rattle.std.proofs.lemmas.Int.{ints}
use Rattle.std.proofs.lemmas.List.Elements.{All-append, All-cons, All-get_or, All-nil}
use Rattle.std.specs.Prelude.{slice_index}
use Rattle.plane.specs.Order.{IsBefore}
use Rattle.plane.specs.Point.{Point}
use Rattle.rings.specs.Ring.{vertex}
use Rattle.meshes.proofs.Boundaries.{sides_append}
use Rattle.meshes.specs.Boundary.{HaveBoundary, IsOdd, sum_along, sum_round, sum_sides}
use Rattle.meshes.specs.Fits.{IsTriOf}
use Rattle.meshes.specs.declared.tri.Tri.{Tri}
use Rattle.mono_fill.specs.Sides.{fan, other_chain_side}
use Rattle.mono_fill.specs.Stacks.{last_of}
use Rattle.mono_fill.specs.declared.side.Side.{Side}
use Rattle.mono_fill.specs.declared.side.Side.TheVariants.{Lower, Upper}
use Rattle.mono_fill.proofs.Bends.{bend, inward_next}
use Rattle.mono_fill.proofs.Fans.{corners_in, fan_each, tri_of}
use Rattle.mono_fill.proofs.Stages.GoesOn.{IsStage, below_top, bend_of_triangle, bends_at, sum_more}
use Rattle.mono_fill.proofs.Outlines.{at, before, ends_of, IsInward, IsOutline, sum_up_to}
use Rattle.mono_fill.proofs.Sums.{fan_sum, met, odd_met}

-- along the other chain pairs are met the other way round
met_opposite : (side : Side) (φ : ℕ → ℕ → ℤ) (i j : ℕ) → met (other_chain_side side) φ i j ≡ met side φ j i
met_opposite Lower φ i j = refl
met_opposite Upper φ i j = refl

-- the sides of a fan over a list
fan_sum_over : (side : Side) (φ : ℕ → ℕ → ℤ) → IsOdd φ → (x : ℕ) (stack : List ℕ) → 0 < length stack
    → sum_sides φ (fan side x stack) ≡ sum_along (met side φ) stack +ℤ met side φ (last_of stack) x +ℤ met side φ x (slice_index stack 0)
fan_sum_over side φ odd x [] some = absurd (omega arith)
fan_sum_over side φ odd x (p ∷ qs) some = fan_sum side φ odd x p qs

-- both chains together
both_sums : {corners : List Point} {ranks piece ring : List ℕ} (o : IsOutline corners ranks piece ring) (side : Side) (φ : ℕ → ℕ → ℤ) → IsOdd φ
    → sum_up_to φ ring side (o.edges side) +ℤ sum_up_to φ ring (other_chain_side side) (o.edges (other_chain_side side)) ≡ sum_round φ piece
both_sums o Lower φ odd = o.sums φ odd
both_sums o Upper φ odd = let e = o.sums φ odd in omega (arith, ints)

-- the stack, and the next vertex x of the other chain, which comes after all of it
module _ {corners : List Point} {ranks piece ring : List ℕ} (o : IsOutline corners ranks piece ring) (side : Side) (own other : ℕ)
    (stack : List ℕ) (tris : List Tri) (inside : other + 1 ≤ o.edges (other_chain_side side)) (s : IsStage o side (other_chain_side side) own other stack tris)
    (later : slice_index ranks (at ring side own) < slice_index ranks (at ring (other_chain_side side) (other + 1))) where
  abbrev x : ℕ
  x = at ring (other_chain_side side) (other + 1)

  abbrev point : ℕ → Point
  point k = vertex corners (slice_index stack k)

  number_of : (k : ℕ) → k < length stack → slice_index stack k < length corners
  number_of k h = All-get_or (λ i. i < length corners) stack k 0 h s.numbers

  in_order : (k : ℕ) → k + 1 < length stack → IsBefore (point k) (point (k + 1))
  in_order k h = before o (slice_index stack k) (slice_index stack (k + 1)) (number_of k (omega arith)) (number_of (k + 1) h) (s.rises k h)

  -- x is inward of the way from each item to the next
  x_inward : (k : ℕ) → k + 1 < length stack → pos 0 <ℤ bend side (point k) (point (k + 1)) (vertex corners x)
  x_inward zero h = s.inward 1 (omega arith) h
  x_inward (suc k) h =
      let a : k + 1 < length stack = omega arith in
      let b : k + 1 + 1 < length stack = omega arith in
      let e : k + 1 ≡ suc k = omega arith in
      let f : k + 2 ≡ suc k + 1 = omega arith in
      let g : k + 1 + 1 ≡ k + 2 = omega arith in
      let x_last = before o (slice_index stack (k + 1)) x (number_of (k + 1) a) (o.numbers (other_chain_side side) (other + 1) inside)
      (omega (arith, below_top s (k + 1) a, later)) in
      bends_at corners side (ap (slice_index stack) e) (ap (slice_index stack) f) refl
      (inward_next (point k) (point (k + 1)) (point (k + 2)) (vertex corners x) (in_order k a)
      (subst (λ m. IsBefore (point (k + 1)) (point m)) g (in_order (k + 1) b)) x_last side (x_inward k a) (s.flat k (omega arith)))

  -- so the fan is made of triangles of the piece
  fan_triangles : All (IsTriOf corners piece) (fan side x stack)
  fan_triangles =
      let has = λ (k : ℕ) (h : k < length stack). All-get_or (Contains piece) stack k 0 h s.members in
      fan_each side x (IsTriOf corners piece) stack (λ k h.
      tri_of corners piece _ (corners_in piece side _ _ x (has k (omega arith)) (has (k + 1) h) (o.members (other_chain_side side) (other + 1) inside))
      (bend_of_triangle corners side _ _ x (x_inward k h)))

  -- and leaves what was met of its chain, but for the edge to x
  fan_sums : (φ : ℕ → ℕ → ℤ) → IsOdd φ → sum_sides φ (tris ++ fan side x stack)
      ≡ sum_up_to φ ring side own +ℤ sum_up_to φ ring (other_chain_side side) (other + 1) +ℤ met side φ (at ring side own) x
  fan_sums φ odd =
      let a = sides_append φ tris (fan side x stack) in
      let b = fan_sum_over side φ odd x stack s.some in
      let c = ap (λ i. met side φ i x) s.top in
      let d = ap (λ i. met side φ x i) s.bottom in
      let e = met_opposite side φ (at ring (other_chain_side side) other) x in
      let f = sum_more φ ring (other_chain_side side) other (omega (arith, inside, o.long (other_chain_side side))) in
      let g = s.sums φ odd in
      omega (arith, ints)

  abbrev crossed : List ℕ
  crossed = last_of stack ∷ x ∷ []

  -- where it is inward of the edge that runs on from the top of the stack, the stack goes over to its chain
  module _ (under : IsInward corners (other_chain_side side) (at ring side own) x (at ring side (own + 1))) where
    crossed_inward : (k : ℕ) → 0 < k → k < 2
        → IsInward corners (other_chain_side side) (last_of stack) (slice_index crossed k) (at ring side (own + 1))
    crossed_inward zero some h = absurd (omega arith)
    crossed_inward (suc zero) some h = bends_at corners (other_chain_side side) (sym s.top) refl refl under
    crossed_inward (suc (suc k)) some h = absurd (omega arith)

    crossed_rises : (k : ℕ) → k + 1 < 2 → slice_index ranks (slice_index crossed k) < slice_index ranks (slice_index crossed (k + 1))
    crossed_rises zero h = subst (λ i. slice_index ranks i < slice_index ranks x) (sym s.top) later
    crossed_rises (suc k) h = absurd (omega arith)

    crossed_sums : (φ : ℕ → ℕ → ℤ) → IsOdd φ → sum_sides φ (tris ++ fan side x stack) +ℤ sum_along (met (other_chain_side side) φ) crossed
        ≡ sum_up_to φ ring (other_chain_side side) (other + 1) +ℤ sum_up_to φ ring side own
    crossed_sums φ odd =
        let a = fan_sums φ odd in
        let b = ap (λ i. met (other_chain_side side) φ i x) s.top in
        let c = met_opposite side φ (at ring side own) x in
        let d = odd_met side φ odd (at ring side own) x in
        omega (arith, ints)

    pub stage_crosses : IsStage o (other_chain_side side) side (other + 1) own (last_of stack ∷ x ∷ []) (tris ++ fan side x stack)
    stage_crosses =
        let top = length stack - 1 in
        let is_top : top < length stack = omega (arith, s.some) in
        record {
          some = omega arith;
          bottom = s.top;
          top = refl;
          members = All-cons (Contains piece) (last_of stack) (x ∷ []) (All-get_or (Contains piece) stack top 0 is_top s.members)
              (All-cons (Contains piece) x [] (o.members (other_chain_side side) (other + 1) inside) (All-nil (Contains piece)));
          numbers = All-cons (λ i. i < length corners) (last_of stack) (x ∷ []) (number_of top is_top)
              (All-cons (λ i. i < length corners) x [] (o.numbers (other_chain_side side) (other + 1) inside) (All-nil (λ i. i < length corners)));
          rises = crossed_rises;
          flat = λ k h. absurd (omega arith);
          inward = crossed_inward;
          triangles = All-append (IsTriOf corners piece) tris (fan side x stack) s.triangles fan_triangles;
          sums = crossed_sums;
        }

  -- where it is the greatest, all is filled
  module _ (own_last : own + 1 ≡ o.edges side) (other_last : other + 1 ≡ o.edges (other_chain_side side)) where
    pub all_triangles : All (IsTriOf corners piece) (tris ++ fan side x stack)
    all_triangles = All-append (IsTriOf corners piece) tris (fan side x stack) s.triangles fan_triangles

    pub all_cancel : HaveBoundary piece (tris ++ fan side x stack)
    all_cancel φ odd =
        let a = fan_sums φ odd in
        let same : at ring side (own + 1) ≡ x = ap (at ring side) own_last ∙ ends_of o side ∙ ap (at ring (other_chain_side side)) (sym other_last) in
        let b = sum_more φ ring side own (omega (arith, own_last, o.long side)) in
        let c = ap (met side φ (at ring side own)) same in
        let d = ap (sum_up_to φ ring side) own_last in
        let e = ap (sum_up_to φ ring (other_chain_side side)) other_last in
        let f = both_sums o side φ odd in
        omega (arith, ints)
