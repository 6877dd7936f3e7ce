-- How high the points of a funnel are over the diagonal: they fall along each chain from the apex, and none is beyond.
use Rattle.std.proofs.Common.{◌≡◌, inl, inr, refl, sym, subst, ap, List, length, ℕ, zero, suc, ◌+◌, ◌-◌, ◌<◌, ◌≤◌, ℤ, pos, ◌+ℤ◌, ◌-ℤ◌, neg_ℤ, ◌<ℤ◌}
use Rattle.std.proofs.Common.{◌≤ℤ◌, add-one, arith}
use Rattle.std.proofs.lemmas.Bool.{cases_lt}
use Rattle.std.proofs.lemmas.Int.{ints}
use Rattle.integer_algebra.proofs.SignSteps.{zero_not_negative}
use Rattle.plane.proofs.Turns.{areas_add, determinant_same_ends, determinant_same_last, determinant_swap_ends}
use Rattle.plane.specs.Prelude.{determinant, height_over, Point, whole}
use Rattle.rings.specs.Chain.{point_at}
use Rattle.funnels.specs.Funnel.{IsFunnel, Reaches}

-- ---- along one edge

-- two heights h and k, from the areas that add up
from_areas : (A B C D h k : ℤ) → A -ℤ B +ℤ C -ℤ D ≡ pos 0 → h ≡ neg_ℤ B → k ≡ neg_ℤ A → h ≡ k +ℤ (D -ℤ C)
from_areas A B C D h k e f g = omega (arith, ints)

-- how far an edge falls
fall : (u w l r : Point) → height_over l r (whole u)
    ≡ height_over l r (whole w) +ℤ (determinant (whole u) (whole w) (whole l) -ℤ determinant (whole u) (whole w) (whole r))
fall u w l r =
    let at = λ (x y z : Point). determinant (whole x) (whole y) (whole z) in
    from_areas (at w l r) (at u l r) (at u w r) (at u w l) (at r l u) (at r l w) (areas_add u w l r)
    (determinant_swap_ends (whole u) (whole l) (whole r)) (determinant_swap_ends (whole w) (whole l) (whole r))

-- what is more by a number that is not negative less one that is not positive is not less
not_less : (h k p q : ℤ) → h ≡ k +ℤ (p -ℤ q) → ¬ (p <ℤ pos 0) → ¬ (pos 0 <ℤ q) → k ≤ℤ h
not_less h k p q e n m = grind (arith, ints)

-- and where it is no more, both numbers are 0
no_more : (h k p q : ℤ) → h ≡ k +ℤ (p -ℤ q) → ¬ (p <ℤ pos 0) → ¬ (pos 0 <ℤ q) → h ≡ k → (p ≡ pos 0) × (q ≡ pos 0)
no_more h k p q e n m s = (grind (arith, ints), grind (arith, ints))

module _ (u w l r : Point) (h : Reaches u w l r) where
  -- an edge whose extension meets the diagonal does not rise,
  pub lower : height_over l r (whole w) ≤ℤ height_over l r (whole u)
  lower =
      let at = λ (x y z : Point). determinant (whole x) (whole y) (whole z) in
      not_less (at r l u) (at r l w) (at u w l) (at u w r) (fall u w l r) h.not_right h.not_left

  -- and where it stays as high, the ends of the diagonal are on its line
  pub level : height_over l r (whole u) ≡ height_over l r (whole w)
      → (determinant (whole u) (whole w) (whole l) ≡ pos 0) × (determinant (whole u) (whole w) (whole r) ≡ pos 0)
  level =
      let at = λ (x y z : Point). determinant (whole x) (whole y) (whole z) in
      no_more (at r l u) (at r l w) (at u w l) (at u w r) (fall u w l r) h.not_right h.not_left

-- ---- along the chains

-- what is at least a number that is not negative is not negative
at_least : {h k : ℤ} → pos 0 ≤ℤ k → k ≤ℤ h → pos 0 ≤ℤ h
at_least m n = omega (arith, ints)

module _ (ns : List Point) (a : ℕ) (l r : Point) (f : IsFunnel ns a l r) where
  -- the edges by their ends: on the left,
  pub reaches_left : (i : ℕ) → i < a → Reaches (point_at ns (i + 1)) (point_at ns i) l r
  reaches_left i h =
      let within = f.apex_within in
      let e : i ≡ i + 1 - 1 = omega arith in
      f.reaches (i + 1) (point_at ns (i + 1)) (point_at ns i) (omega arith) (omega arith) (inl (omega arith, refl, ap (point_at ns) e))

  -- and on the right
  pub reaches_right : (i : ℕ) → a ≤ i → i + 1 < length ns → Reaches (point_at ns i) (point_at ns (i + 1)) l r
  reaches_right i h k =
      let e : i ≡ i + 1 - 1 = omega arith in
      f.reaches (i + 1) (point_at ns i) (point_at ns (i + 1)) (omega arith) k (inr (omega arith, ap (point_at ns) e, refl))

  -- so the heights fall, on the left,
  pub lower_left : (i : ℕ) → i < a → height_over l r (whole (point_at ns i)) ≤ℤ height_over l r (whole (point_at ns (i + 1)))
  lower_left i h = lower (point_at ns (i + 1)) (point_at ns i) l r (reaches_left i h)

  -- and on the right
  pub lower_right : (i : ℕ) → a ≤ i → i + 1 < length ns → height_over l r (whole (point_at ns (i + 1))) ≤ℤ height_over l r (whole (point_at ns i))
  lower_right i h k = lower (point_at ns i) (point_at ns (i + 1)) l r (reaches_right i h k)

  -- the first point has no height,
  not_negative_first : pos 0 ≤ℤ height_over l r (whole (point_at ns 0))
  not_negative_first =
      subst (λ (p : Point). pos 0 ≤ℤ height_over l r (whole p)) (sym f.first) (zero_not_negative (determinant_same_last (whole r) (whole l)))

  -- nor has the last
  not_negative_last : pos 0 ≤ℤ height_over l r (whole (point_at ns (length ns - 1)))
  not_negative_last =
      subst (λ (p : Point). pos 0 ≤ℤ height_over l r (whole p)) (sym f.last) (zero_not_negative (determinant_same_ends (whole r) (whole l)))

  -- so no point of the left chain is beyond the diagonal,
  not_negative_left : (i : ℕ) → i ≤ a → pos 0 ≤ℤ height_over l r (whole (point_at ns i))
  not_negative_left zero h = not_negative_first
  not_negative_left (suc i) h =
      subst (λ n. pos 0 ≤ℤ height_over l r (whole (point_at ns n))) (add-one i)
      (at_least (not_negative_left i (omega arith)) (lower_left i (omega arith)))

  -- nor is one of the right chain, k places before the last
  not_negative_right : (k i : ℕ) → i + k + 1 ≡ length ns → a ≤ i → pos 0 ≤ℤ height_over l r (whole (point_at ns i))
  not_negative_right zero i e h =
      let same : length ns - 1 ≡ i = omega arith in
      subst (λ n. pos 0 ≤ℤ height_over l r (whole (point_at ns n))) same not_negative_last
  not_negative_right (suc k) i e h =
      at_least (not_negative_right k (i + 1) (omega arith) (omega arith)) (lower_right i h (omega arith))

  -- no point of a funnel is beyond the diagonal
  pub not_negative : (i : ℕ) → i < length ns → pos 0 ≤ℤ height_over l r (whole (point_at ns i))
  not_negative i h = elim (cases_lt i a) [
    | inl before ↦ not_negative_left i (omega arith)
    | inr after ↦ not_negative_right (length ns - 1 - i) i (omega arith) after
  ]
