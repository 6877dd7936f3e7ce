-- Two edges from one vertex, and the region between them.
use Rattle.std.proofs.Common.{◌≡◌, refl, ap, ℕ, zero, suc, ◌+◌, ◌<◌, ◌≤◌, List, [], ◌∷◌, length, get_or, arith}
use Rattle.std.specs.List.{All}
use Rattle.std.specs.Prelude.{slice_index}
use Rattle.plane.specs.Point.{Point}
use Rattle.rings.specs.Edge.{edge}
use Rattle.rings.specs.Ring.{vertex}
use Rattle.sweep_tri.proofs.Regions.Sides.{AreNearer, AreOpen, ArePair, IsNearer}
use Rattle.mono_fill.specs.declared.side.Side.{Side}
use Rattle.sweep_tri.specs.Open.{ComeBefore}
use Rattle.sweep_tri.specs.Region.{IsStep, RisesBy, ShareEnds}

-- ---- a path of two vertices

abbrev pub two : ℕ → ℕ → List ℕ
two u a = u ∷ a ∷ []

numbers : (n u a : ℕ) → u < n → a < n → All (λ v. v < n) (two u a)
numbers n u a h k zero d within = h
numbers n u a h k (suc zero) d within = k
numbers n u a h k (suc (suc i)) d within = absurd (omega arith)

step_at : (u a x y place : ℕ) → place + 1 < 2 → get_or (two u a) place 0 ≡ x → get_or (two u a) (place + 1) 0 ≡ y → (u ≡ x) × (a ≡ y)
step_at u a x y zero h from to = (from, to)
step_at u a x y (suc i) h from to = absurd (omega arith)

the_step : (u a x y : ℕ) → IsStep (two u a) x y → (u ≡ x) × (a ≡ y)
the_step u a x y s = step_at u a x y s.place s.in_path s.from s.to

rises : (ranks : List ℕ) (u a : ℕ) → slice_index ranks u < slice_index ranks a → RisesBy ranks (two u a)
rises ranks u a h x y s = let is = the_step u a x y s in omega (arith, ap (slice_index ranks) is.0, ap (slice_index ranks) is.1)

before : (ranks : List ℕ) (k u a : ℕ) → slice_index ranks u < k → ComeBefore ranks k (two u a)
before ranks k u a h zero within = h
before ranks k u a h (suc i) within = absurd (omega arith)

share : (u a b : ℕ) → ¬ (a ≡ b) → ShareEnds (two u a) (two u b)
share u a b other zero j i_some i_within j_some j_within e = absurd (omega arith)
share u a b other (suc i) zero i_some i_within j_some j_within e = absurd (omega arith)
share u a b other (suc zero) (suc zero) i_some i_within j_some j_within e = absurd (other e)
share u a b other (suc zero) (suc (suc j)) i_some i_within j_some j_within e = absurd (omega arith)
share u a b other (suc (suc i)) (suc j) i_some i_within j_some j_within e = absurd (omega arith)

-- ---- two of them

module _ (corners : List Point) (ranks : List ℕ) (side : Side) (u a b : ℕ) (u_within : u < length corners) (a_within : a < length corners)
    (b_within : b < length corners) (other : ¬ (a ≡ b))
    (nearer_edge : IsNearer side (edge (vertex corners u) (vertex corners a)) (edge (vertex corners u) (vertex corners b))) where
  nearer : AreNearer corners ranks side (two u a) (two u b)
  nearer p q c d s t h k =
      let first = the_step u a p q s in
      let second = the_step u b c d t in
      rw (← first.0, ← first.1, ← second.0, ← second.1) nearer_edge

  pub starts : slice_index ranks u < slice_index ranks a → slice_index ranks u < slice_index ranks b → ArePair corners ranks side (two u a) (two u b)
  starts u_a u_b = record {
    near_some = omega arith;
    far_some = omega arith;
    near_numbers = numbers (length corners) u a u_within a_within;
    far_numbers = numbers (length corners) u b u_within b_within;
    first = refl;
    near_rises = rises ranks u a u_a;
    far_rises = rises ranks u b u_b;
    nearer = nearer;
    apart = share u a b other;
  }

  -- where the others are to come, the region is open
  pub starts_open : (k : ℕ) → slice_index ranks u < k → k ≤ slice_index ranks a → k ≤ slice_index ranks b
      → AreOpen corners ranks k side (two u a) (two u b)
  starts_open k passed a_later b_later = record {
    pair = starts (omega arith) (omega arith);
    near_before = before ranks k u a passed;
    far_before = before ranks k u b passed;
    near_to_come = a_later;
    far_to_come = b_later;
  }
