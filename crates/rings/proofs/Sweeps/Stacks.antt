-- Edges over one place, each below the next: two of them share no more than a common end there.
use Rattle.std.proofs.Common.{◌≡◌, ◌⊎◌, inl, inr, subst, ℕ, zero, suc, ◌+◌, ◌-◌, ◌<◌, pos, ◌<ℤ◌, List, length, get_or, arith}
use Rattle.std.proofs.lemmas.Int.{ints}
use Rattle.std.specs.List.{All, AllAdjacentBelow}
use Rattle.integer_algebra.proofs.SignSteps.{negative_not_zero, zero_not_positive}
use Rattle.plane.proofs.Order.{NotAfter}
use Rattle.plane.proofs.Points.{same_sym, same_trans, same_whole, whole_is_point}
use Rattle.plane.proofs.Segments.{same_straight}
use Rattle.plane.proofs.Turns.{determinant_same_ends, determinant_same_last}
use Rattle.plane.specs.Prelude.{IsPoint, Point, Precedes, Triple, whole}
use Rattle.rings.proofs.Sweeps.StaysBelow.{Spans, side, stays_below}
use Rattle.rings.specs.Apart.{IsCommonEnd}
use Rattle.rings.specs.Below.{IsBelow}
use Rattle.rings.specs.Edge.{Edge, HasEnd}

-- an end of an edge is on its line
end_is_straight : (e : Edge) (p : Point) → HasEnd e p → side e (whole p) ≡ pos 0
end_is_straight e p (inl h) = subst (λ (v : Point). side e (whole v) ≡ pos 0) h (determinant_same_ends (whole e.from) (whole e.to))
end_is_straight e p (inr h) = subst (λ (v : Point). side e (whole v) ≡ pos 0) h (determinant_same_last (whole e.from) (whole e.to))

-- x comes between y and z
module _ (x y z : Triple) (at_x : IsPoint x) (at_y : IsPoint y) (at_z : IsPoint z) (yz : Precedes y z)
    (yx : NotAfter y x) (xz : NotAfter x z) where
  -- a common end is on the line of the second edge
  on_second : (e f : Edge) → IsCommonEnd e f x → side f x ≡ pos 0
  on_second e f c =
      same_straight (whole f.from) (whole f.to) x (whole c.end) (whole_is_point c.end) c.same (end_is_straight f c.end c.of_second)

  -- one edge up, where x is below the edge before or shared with it
  one_up : (e f g : Edge) → Spans y z f → Spans y z g → IsBelow f g → (side f x <ℤ pos 0) ⊎ IsCommonEnd e f x
      → (side g x <ℤ pos 0) ⊎ IsCommonEnd e g x
  one_up e f g over_f over_g order (inl h) = elim (stays_below f g x y z at_x at_y at_z yz yx xz over_f over_g order (omega (arith, ints))) [
    | inl k ↦ inl k
    | inr c ↦ absurd (negative_not_zero h (on_second g f (record { end = c.end; of_first = c.of_second; of_second = c.of_first; same = c.same })))
  ]
  one_up e f g over_f over_g order (inr c) =
      elim (stays_below f g x y z at_x at_y at_z yz yx xz over_f over_g order (zero_not_positive (on_second e f c))) [
        | inl k ↦ inl k
        | inr d ↦
            let equal : c.end ≡ d.end = same_whole c.end d.end (same_trans at_x (same_sym c.same) d.same) in
            inr (record { end = d.end; of_first = subst (HasEnd e) equal c.of_first; of_second = d.of_second; same = d.same })
      ]

  -- edges by their numbers
  module _ (edge : ℕ → Edge) (es : List ℕ) (ordered : AllAdjacentBelow (λ e f. IsBelow (edge e) (edge f)) es (length es))
      (spans : All (λ e. Spans y z (edge e)) es) where
    -- the edge at a place
    abbrev at : ℕ → Edge
    at k = edge (get_or es k 0)

    -- all the way up
    climb : (i m : ℕ) → i + 1 + m < length es → side (at i) x ≡ pos 0
        → (side (at (i + 1 + m)) x <ℤ pos 0) ⊎ IsCommonEnd (at i) (at (i + 1 + m)) x
    climb i zero within on =
        let j : i + 1 + 0 ≡ i + 1 = omega arith in
        rw j
        (stays_below (at i) (at (i + 1)) x y z at_x at_y at_z yz yx xz (spans i 0 (omega arith)) (spans (i + 1) 0 (omega arith))
        (ordered i 0 (omega arith)) (zero_not_positive on))
    climb i (suc m) within on =
        let j : ℕ = i + 1 + m in
        let next : i + 1 + suc m ≡ j + 1 = omega arith in
        rw next
        (one_up (at i) (at j) (at (j + 1)) (spans j 0 (omega arith)) (spans (j + 1) 0 (omega arith))
        (ordered j 0 (omega arith)) (climb i m (omega arith) on))

    -- a point on two of the edges is an end of both
    pub shared : (i k : ℕ) → i < k → k < length es → side (at i) x ≡ pos 0 → side (at k) x ≡ pos 0 → IsCommonEnd (at i) (at k) x
    shared i k less within on_i on_k =
        let m : ℕ = k - (i + 1) in
        let is : i + 1 + m ≡ k = omega arith in
        elim (rw is at (climb i m (omega arith) on_i)) [
          | inl h ↦ absurd (negative_not_zero h on_k)
          | inr c ↦ c
        ]
