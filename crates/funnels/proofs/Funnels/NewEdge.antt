-- The way to a point beyond the diagonal, from the place of the funnel that it is reached from, goes over the diagonal.
use Rattle.std.proofs.Common.{◌≡◌, inl, inr, sym, subst, List, length, ℕ, ◌+◌, ◌<◌, ℤ, pos, ◌-ℤ◌, ◌+ℤ◌, ◌*ℤ◌, neg_ℤ, ◌<ℤ◌, ◌≤ℤ◌, arith}
use Rattle.std.proofs.lemmas.Bool.{cases_eq, cases_lt}
use Rattle.std.proofs.lemmas.Int.{ints}
use Rattle.integer_algebra.proofs.SignSteps.{mean_negative, mean_positive, negative_not_zero, not_both, positive_not_zero}
use Rattle.integer_algebra.proofs.Signs.{is_negative, is_positive, is_zero, sign}
use Rattle.plane.proofs.Points.{whole_is_point}
use Rattle.plane.proofs.Segments.{on_is_straight}
use Rattle.plane.proofs.Turns.{areas_add, determinant_same_ends, determinant_same_last, determinant_swap_ends, combination_of, determinant_along}
use Rattle.plane.proofs.Turns.{weights_positive}
use Rattle.plane.specs.Prelude.{determinant, height_over, IsPoint, IsStraight, On, Point, Triple, whole}
use Rattle.rings.specs.Chain.{point_at}
use Rattle.funnels.proofs.Funnels.CrossingDiagonal.{crossing_in_window}
use Rattle.funnels.proofs.Funnels.FlatFunnels.{flat_apex, at_last, flat_off_apex}
use Rattle.funnels.proofs.Funnels.FunnelEdges.{edge_after, edge_before, window_of_reached}
use Rattle.funnels.proofs.Funnels.Heights.{not_negative}
use Rattle.funnels.specs.Funnel.{IsFunnel, IsReachedFrom, Reaches}

-- ---- numbers

module _ (k p q z f g : ℤ) (hk : pos 0 <ℤ k) (hp : pos 0 ≤ℤ p) (hq : pos 0 ≤ℤ q) (some : pos 0 <ℤ (p +ℤ q))
    (e : k *ℤ z ≡ p *ℤ f +ℤ q *ℤ g) (none : z ≡ pos 0) where
  -- of two numbers with a mean 0 the greater is not negative,
  greater_not_negative : g <ℤ f → ¬ (f <ℤ pos 0)
  greater_not_negative less h =
      negative_not_zero (mean_negative k p q z f g hk hp hq e some h (omega (arith, ints))) none

  -- and the smaller not positive
  smaller_not_positive : g <ℤ f → ¬ (pos 0 <ℤ g)
  smaller_not_positive less h =
      positive_not_zero (mean_positive k p q z f g hk hp hq e some (omega (arith, ints)) h) none

-- where the height falls from 0 or more to below 0, the one area is more than the other
more_by_fall : (A B C D h k : ℤ) → A -ℤ B +ℤ C -ℤ D ≡ pos 0 → h ≡ neg_ℤ B → k ≡ neg_ℤ A → pos 0 ≤ℤ h → k <ℤ pos 0 → C <ℤ D
more_by_fall A B C D h k e f g m n = omega (arith, ints)

-- ---- the way over the diagonal

-- a way from n over a point of the diagonal from l to r to a point beyond it has l on its left and r on its right
reaches_over : (n m l r : Point) → pos 0 ≤ℤ height_over l r (whole n) → height_over l r (whole m) <ℤ pos 0 → (x : Triple) → IsPoint x
    → On x (whole l) (whole r) → IsStraight (whole n) (whole m) x → Reaches n m l r
reaches_over n m l r above beyond x at_x on straight =
    let c = combination_of x (whole l) (whole r) at_x (whole_is_point l) (whole_is_point r) on in
    let at = λ (z : Triple). determinant (whole n) (whole m) z in
    let sum = determinant_along x (whole l) (whole r) c (whole n) (whole m) in
    let some = weights_positive x (whole l) (whole r) c at_x in
    let less = more_by_fall (determinant (whole m) (whole l) (whole r)) (determinant (whole n) (whole l) (whole r)) (at (whole r))
    (at (whole l)) (height_over l r (whole n)) (height_over l r (whole m)) (areas_add n m l r)
    (determinant_swap_ends (whole n) (whole l) (whole r)) (determinant_swap_ends (whole m) (whole l) (whole r)) above beyond in
    record {
      not_right =
          greater_not_negative c.k c.l c.m (at x) (at (whole l)) (at (whole r)) c.k_positive c.l_nonnegative c.m_nonnegative some sum
          straight less;
      not_left =
          smaller_not_positive c.k c.l c.m (at x) (at (whole l)) (at (whole r)) c.k_positive c.l_nonnegative c.m_nonnegative some sum
          straight less;
    }

module _ (ns : List Point) (a : ℕ) (l r : Point) (f : IsFunnel ns a l r) (h : ℕ) (m : Point) (beyond : height_over l r (whole m) <ℤ pos 0)
    (reached : IsReachedFrom ns a h (whole m)) where
  -- from a point of the diagonal,
  from_diagonal : On (whole (point_at ns h)) (whole l) (whole r) → Reaches (point_at ns h) m l r
  from_diagonal on =
      let n = point_at ns h in
      reaches_over n m l r (not_negative ns a l r f h reached.within) beyond (whole n) (whole_is_point n) on
      (determinant_same_ends (whole n) (whole m))

  -- or of its line,
  from_line : height_over l r (whole (point_at ns h)) ≡ pos 0 → Reaches (point_at ns h) m l r
  from_line flat = elim (cases_eq h a) [
    | inr off ↦ from_diagonal (flat_off_apex ns a l r f h reached.within off flat)
    | inl same ↦
        elim (flat_apex ns a l r f (subst (λ n. height_over l r (whole (point_at ns n)) ≡ pos 0) same flat)) [
          | inl on ↦ from_diagonal (subst (λ n. On (whole (point_at ns n)) (whole l) (whole r)) (sym same) on)
          | inr none ↦
              let here = subst (λ n. IsReachedFrom ns a n (whole m)) same reached in
              absurd (none (whole m) beyond (window_of_reached ns a a (whole m) here))
        ]
  ]

  -- a point above it is not the first,
  not_first : pos 0 <ℤ height_over l r (whole (point_at ns h)) → 0 < h
  not_first above = elim (cases_lt 0 h) [
    | inl some ↦ some
    | inr none ↦
        let e : h ≡ 0 = omega arith in
        let first = subst (λ n. pos 0 <ℤ height_over l r (whole (point_at ns n))) e above in
        absurd (positive_not_zero (subst (λ (p : Point). pos 0 <ℤ height_over l r (whole p)) f.first first)
        (determinant_same_last (whole r) (whole l)))
  ]

  -- nor the last,
  not_last : pos 0 <ℤ height_over l r (whole (point_at ns h)) → h + 1 < length ns
  not_last above = elim (cases_lt (h + 1) (length ns)) [
    | inl more ↦ more
    | inr none ↦
        let within = reached.within in
        let e = at_last ns a l r f h (omega arith) in
        absurd (positive_not_zero (subst (λ (p : Point). pos 0 <ℤ height_over l r (whole p)) e above)
        (determinant_same_ends (whole r) (whole l)))
  ]

  -- so the way goes between its edges
  from_above : pos 0 <ℤ height_over l r (whole (point_at ns h)) → Reaches (point_at ns h) m l r
  from_above above =
      let n = point_at ns h in
      let some = not_first above in
      let more = not_last above in
      let one = edge_before ns a l r f h some reached.within in
      let other = edge_after ns a l r f h more in
      let window = window_of_reached ns a h (whole m) reached in
      let (x, at_x, on, on_way, _, _) =
      crossing_in_window n l r (whole m) (whole_is_point m) above beyond one.from one.to other.from other.to one.end other.end
      one.differ other.differ one.reach other.reach (window.not_left one.from one.to some one.is)
      (window.not_right other.from other.to more other.is) in
      reaches_over n m l r (not_negative ns a l r f h reached.within) beyond x at_x on
      (on_is_straight x (whole n) (whole m) at_x (whole_is_point n) (whole_is_point m) on_way)

  -- the way from the place that a point beyond the diagonal is reached from meets the diagonal
  pub reaches_new : Reaches (point_at ns h) m l r
  reaches_new = elim (sign (height_over l r (whole (point_at ns h)))) [
    | is_negative n ↦ absurd (not_both n (not_negative ns a l r f h reached.within))
    | is_zero flat ↦ from_line flat
    | is_positive above ↦ from_above above
  ]
