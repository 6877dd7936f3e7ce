-- Cones at bends: a point is in one or not, and two neighbours decide for all.
use Rattle.std.proofs.Common.{◌≡◌, ◌⊎◌, ◌↔◌, inl, inr, refl, Bool, true, false, IsTrue, ℕ, ◌+◌, ◌-◌, ◌<◌, zero, suc, ℤ, pos, negsuc, ◌<ℤ◌, List}
use Rattle.std.proofs.Common.{length, arith}
use Rattle.std.proofs.lemmas.Int.{ints}
use Rattle.std.specs.Prelude.{not}
use Rattle.plane.proofs.Turns.{straight_swap_first}
use Rattle.plane.specs.Cone.{IsInCone}
use Rattle.plane.specs.Point.{Point, Triple, whole}
use Rattle.plane.specs.Turn.{IsStraight, determinant}
use Rattle.rings.specs.Bend.{AreNeighbours}
use Rattle.rings.specs.Chain.{IsInner, point_at}
use Rattle.rings.specs.Orientation.{IsReflex}
use Rattle.rings.specs.Ring.{vertex}
use Rattle.taut_check.specs.Sound.{IsSoundBend}
use Rattle.taut_check.specs.Verdict.{HasNoTurn, IsOnWrongSide}

-- a number is negative or not,
negative_or_not : (z : ℤ) → (z <ℤ pos 0) ⊎ (¬ (z <ℤ pos 0))
negative_or_not (pos n) = inr (λ h. omega (arith, ints))
negative_or_not (negsuc n) = inl (omega (arith, ints))

-- and positive or not
positive_or_not : (z : ℤ) → (pos 0 <ℤ z) ⊎ (¬ (pos 0 <ℤ z))
positive_or_not (pos zero) = inr (λ h. omega (arith, ints))
positive_or_not (pos (suc n)) = inl (omega (arith, ints))
positive_or_not (negsuc n) = inr (λ h. omega (arith, ints))

-- three facts that hold or not hold together or not
three_or_not : {P Q R : Type 0} → P ⊎ (¬ P) → Q ⊎ (¬ Q) → R ⊎ (¬ R) → (P × (¬ Q) × (¬ R)) ⊎ (¬ (P × (¬ Q) × (¬ R)))
three_or_not (inr n) q r = inr (λ h. n h.0)
three_or_not (inl p) (inl q) r = inr (λ h. h.1 q)
three_or_not (inl p) (inr n) (inl r) = inr (λ h. h.2 r)
three_or_not (inl p) (inr n) (inr m) = inl (p, n, m)

-- a point is in a cone or not
pub in_cone_or_not : (v a c u : Triple) → IsInCone v a c u ⊎ (¬ IsInCone v a c u)
in_cone_or_not v a c u = elim (three_or_not (positive_or_not (determinant v a c)) (negative_or_not (determinant v a u)) (negative_or_not (determinant v u c))) [
  | inl h ↦ inl (inl h)
  | inr not_left ↦ elim (three_or_not (negative_or_not (determinant v a c)) (positive_or_not (determinant v a u)) (positive_or_not (determinant v u c))) [
    | inl h ↦ inl (inr h)
    | inr not_right ↦ inr (λ h. elim h [ inl k ↦ not_left k | inr k ↦ not_right k ])
  ]
]

-- an inner point with a turn has one also on the way over it
pub turns_over : (points : List Point) (k : ℕ) → IsInner points k → ¬ HasNoTurn points k
    → ¬ IsStraight (whole (point_at points (k - 1))) (whole (point_at points k)) (whole (point_at points (k + 1)))
turns_over points k inner turns straight =
    turns (record { inner = inner; straight = straight_swap_first (whole (point_at points (k - 1))) (whole (point_at points k)) (whole (point_at points (k + 1))) straight })

module _ (ring points : List Point) (k : ℕ) where
  -- the bend, where no rule of bends is broken
  pub bend_of_kept : (i : ℕ) → i < length ring → vertex ring i ≡ point_at points k → IsReflex ring i → ¬ HasNoTurn points k → ¬ IsOnWrongSide ring points k
      → IsSoundBend ring points k
  bend_of_kept i below is_vertex reflex turns right inner = record {
    reflex = record { i = i; in_ring = below; is_vertex = is_vertex; reflex = reflex };
    turns = λ straight. turns (record { inner = inner; straight = straight });
    in_cone = λ u beside. elim (in_cone_or_not (whole (point_at points k)) (whole (point_at points (k - 1))) (whole (point_at points (k + 1))) (whole u)) [
      | inl within ↦ within
      | inr outside ↦ absurd (right (record { inner = inner; neighbour = u; beside = beside; outside = outside }))
    ];
  }

  -- two neighbours, and whether the first is in the cone
  module _ (inner : IsInner points k) (before after : Point)
      (around : (u : Point) → AreNeighbours ring (point_at points k) u ↔ ((u ≡ before) ⊎ (u ≡ after))) (is_in : Bool)
      (first : IsTrue is_in ↔ IsInCone (whole (point_at points k)) (whole (point_at points (k - 1))) (whole (point_at points (k + 1))) (whole before)) where
    -- where it is outside, the place is on the wrong side
    pub wrong_before : is_in ≡ false → IsTrue true ↔ IsOnWrongSide ring points k
    wrong_before out = (
      λ _. record { inner = inner; neighbour = before; beside = (around before).1 (inl refl); outside = λ within. absurd (cc (first.1 within, out)) },
      λ _. refl,
    )

    -- where it is in the cone, the second decides
    pub wrong_after : is_in ≡ true → (is_in' : Bool)
        → (IsTrue is_in' ↔ IsInCone (whole (point_at points k)) (whole (point_at points (k - 1))) (whole (point_at points (k + 1))) (whole after))
        → IsTrue (not is_in') ↔ IsOnWrongSide ring points k
    wrong_after within true second = (
      λ h. absurd (cc h),
      λ wrong. absurd (elim ((around wrong.neighbour).0 wrong.beside) [
        | inl e ↦ wrong.outside (rw e (first.0 within))
        | inr e ↦ wrong.outside (rw e (second.0 refl))
      ]),
    )
    wrong_after within false second = (
      λ _. record { inner = inner; neighbour = after; beside = (around after).1 (inr refl); outside = λ within. absurd (cc (second.1 within)) },
      λ _. refl,
    )
