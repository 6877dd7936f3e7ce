-- The way passes an edge of a funnel as the side of its ends tells on which the goal is, and passes the same edges of a part of the
-- funnel.
use Rattle.std.proofs.Common.{◌≡◌, ◌↔◌, inl, inr, sym, subst, ℕ, ◌-◌, ◌<◌, ◌≤◌, List, arith}
use Rattle.plane.specs.Prelude.{IsLeft, IsRight, Point, Triple, whole}
use Rattle.rings.specs.Chain.{point_at}
use Rattle.funnels.specs.Funnel.{IsPassed}

module _ (ns : List Point) (a j : ℕ) (y : Triple) where
  -- a left edge
  pub passed_left : (first second : Point) → j ≤ a → first ≡ point_at ns j → second ≡ point_at ns (j - 1)
      → (¬ IsLeft (whole first) (whole second) y) ↔ IsPassed ns a j y
  passed_left first second left first_is second_is =
      subst (λ u. (¬ IsLeft (whole u) (whole second) y) ↔ IsPassed ns a j y) (sym first_is)
      (subst (λ w. (¬ IsLeft (whole (point_at ns j)) (whole w) y) ↔ IsPassed ns a j y) (sym second_is) (
        λ h. inl (left, h),
        λ passed. elim passed [ inl l ↦ l.1 | inr r ↦ absurd (omega (arith, r.0)) ],
      ))

  -- a right edge
  pub passed_right : (first second : Point) → a < j → first ≡ point_at ns (j - 1) → second ≡ point_at ns j
      → IsRight (whole first) (whole second) y ↔ IsPassed ns a j y
  passed_right first second right first_is second_is =
      subst (λ u. IsRight (whole u) (whole second) y ↔ IsPassed ns a j y) (sym first_is)
      (subst (λ w. IsRight (whole (point_at ns (j - 1))) (whole w) y ↔ IsPassed ns a j y) (sym second_is) (
        λ h. inr (right, h),
        λ passed. elim passed [ inl l ↦ absurd (omega (arith, l.0)) | inr r ↦ r.1 ],
      ))

-- an edge with the same ends, on the same side of the apex, is passed too
pub passed_same : (ns ms : List Point) (a b j i : ℕ) (y : Triple) → (j ≤ a → i ≤ b) → (a < j → b < i) → point_at ns j ≡ point_at ms i
    → point_at ns (j - 1) ≡ point_at ms (i - 1) → IsPassed ns a j y → IsPassed ms b i y
passed_same ns ms a b j i y left right end before passed = elim passed [
  | inl l ↦ inl (
    left l.0,
    subst (λ u. ¬ IsLeft (whole u) (whole (point_at ms (i - 1))) y) end
        (subst (λ w. ¬ IsLeft (whole (point_at ns j)) (whole w) y) before l.1),
  )
  | inr r ↦ inr (
    right r.0,
    subst (λ w. IsRight (whole (point_at ms (i - 1))) (whole w) y) end
        (subst (λ u. IsRight (whole u) (whole (point_at ns j)) y) before r.1),
  )
]
