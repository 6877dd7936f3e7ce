-- Points in order on a segment, so close that each edge that meets the segment ends at two of them: its breakpoints.
use Rattle.std.proofs.Common.{◌≡◌, inl, inr, subst, ℕ, zero, suc, ◌+◌, ◌-◌, ◌<◌, ◌≤◌, List, length, arith}
use Rattle.plane.proofs.Order.{NotAfter, not_after_of_precedes, not_after_of_same, not_after_or_precedes, not_after_trans}
use Rattle.plane.proofs.Points.{same_refl, same_sym}
use Rattle.plane.proofs.Segments.{on_not_after, on_not_before}
use Rattle.plane.specs.Prelude.{IsPoint, IsSame, On, Point, Triple}
use Rattle.rings.specs.Ring.{IsOnEdge}

-- z is between two of the points, and both are on edge i
pub record Enclosed (ring : List Point) (i : ℕ) (point : ℕ → Triple) (n : ℕ) (z : Triple) : Type 0 where
  pub j : ℕ
  pub k : ℕ
  pub j_below : j < n
  pub k_below : k < n
  pub first_on : IsOnEdge ring i (point j)
  pub last_on : IsOnEdge ring i (point k)
  pub between : On z (point j) (point k)

-- n points in order on the segment from a to b: both ends, and round each point on an edge two on that edge
pub record AreBreakpoints (ring : List Point) (a b : Triple) (point : ℕ → Triple) (n : ℕ) : Type 0 where
  pub several : 2 ≤ n
  pub rational : (k : ℕ) → k < n → IsPoint (point k)
  pub on_segment : (k : ℕ) → k < n → On (point k) a b
  pub ordered : (k : ℕ) → k + 1 < n → NotAfter (point k) (point (k + 1))
  pub has_first : (k : ℕ) × (k < n) × IsSame (point k) a
  pub has_last : (k : ℕ) × (k < n) × IsSame (point k) b
  pub enclosed : (i : ℕ) → i < length ring → (z : Triple) → IsPoint z → On z a b → IsOnEdge ring i z → Enclosed ring i point n z

module _ (ring : List Point) (a b : Triple) (at_a : IsPoint a) (at_b : IsPoint b) (point : ℕ → Triple) (n : ℕ)
    (breaks : AreBreakpoints ring a b point n) where
  -- later points are not before earlier ones
  in_order : (d j k : ℕ) → j + d ≡ k → k < n → NotAfter (point j) (point k)
  in_order zero j k e below =
      let same : j ≡ k = omega arith in
      not_after_of_same _ _ (subst (λ l. IsSame (point j) (point l)) same (same_refl (point j)))
  in_order (suc d) j k e below =
      let p = breaks.rational in
      not_after_trans (point j) (point (j + 1)) (point k) (p j (omega arith)) (p (j + 1) (omega arith)) (p k below)
      (breaks.ordered j (omega arith)) (in_order d (j + 1) k (omega arith) below)

  -- so by their numbers
  pub by_number : (j k : ℕ) → j ≤ k → k < n → NotAfter (point j) (point k)
  by_number j k h below = in_order (k - j) j k (omega arith) below

  -- ---- where a point of the segment is among them

  -- x is between point k and the next
  pub record Gap (x : Triple) : Type 0 where
    pub k : ℕ
    pub below : k + 1 < n
    pub first : NotAfter (point k) x
    pub last : NotAfter x (point (k + 1))

  -- a point that is not before one of them and not after the last is in a gap
  gap_from : (x : Triple) (d k : ℕ) → k + d + 2 ≡ n → NotAfter (point k) x → NotAfter x (point (n - 1)) → Gap x
  gap_from x zero k e first last =
      let same : n - 1 ≡ k + 1 = omega arith in
      record { k = k; below = omega arith; first = first; last = subst (λ l. NotAfter x (point l)) same last }
  gap_from x (suc d) k e first last = elim (not_after_or_precedes x (point (k + 1))) [
    | inl h ↦ record { k = k; below = omega arith; first = first; last = not_after_of_precedes x (point (k + 1)) h }
    | inr h ↦ gap_from x d (k + 1) (omega arith) h last
  ]

  -- each point of the segment is in one
  pub gap_of : (x : Triple) → IsPoint x → On x a b → Gap x
  gap_of x at_x on =
      let p = breaks.rational in
      let several = breaks.several in
      let (i, i_below, i_same) = breaks.has_first in
      let (j, j_below, j_same) = breaks.has_last in
      let bottom = λ (k : ℕ) (below : k < n) (h : NotAfter (point k) x).
      not_after_trans (point 0) (point k) x (p 0 (omega arith)) (p k below) at_x (by_number 0 k (omega arith) below) h in
      let top = λ (k : ℕ) (below : k < n) (h : NotAfter x (point k)).
      not_after_trans x (point k) (point (n - 1)) at_x (p k below) (p (n - 1) (omega arith)) h (by_number k (n - 1) (omega arith) (omega arith)) in
      let from = λ (k : ℕ) (below : k < n) (c : Triple) (at_c : IsPoint c) (s : IsSame (point k) c) (h : NotAfter c x).
      bottom k below (not_after_trans (point k) c x (p k below) at_c at_x (not_after_of_same (point k) c s) h) in
      let to = λ (k : ℕ) (below : k < n) (c : Triple) (at_c : IsPoint c) (s : IsSame (point k) c) (h : NotAfter x c).
      top k below (not_after_trans x c (point k) at_x at_c (p k below) h (not_after_of_same c (point k) (same_sym s))) in
      gap_from x (n - 2) 0 (omega arith)
      (elim (on_not_before x a b at_x at_a at_b on) [ inl h ↦ from i i_below a at_a i_same h | inr h ↦ from j j_below b at_b j_same h ])
      (elim (on_not_after x a b at_x at_a at_b on) [ inl h ↦ to i i_below a at_a i_same h | inr h ↦ to j j_below b at_b j_same h ])
