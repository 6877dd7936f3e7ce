-- Left of an edge of a ring that runs clockwise: not all points near the middle of the edge, toward a point on its left, are in the ring.
use Rattle.std.proofs.Common.{◌≡◌, ◌⊎◌, inl, inr, sym, subst, ℕ, ◌+◌, ◌<◌, ℤ, pos, negsuc, ◌+ℤ◌, List, ◌∷◌, ◌++◌, length, arith}
use Rattle.std.proofs.Common.{◌-◌}
use Rattle.std.proofs.lemmas.Int.{ints}
use Rattle.plane.proofs.Nearness.{Eventually, toward, toward_is_point}
use Rattle.plane.proofs.Points.{whole_is_point}
use Rattle.plane.proofs.Segments.{on_first_end, on_last_end, middle, middle_first, middle_is_point, middle_last, middle_on, middle_within}
use Rattle.plane.proofs.Segments.{left_not_on, right_not_on}
use Rattle.plane.specs.Prelude.{IsLeft, IsPoint, Point, Triple, whole}
use Rattle.rings.proofs.Crossings.{winding_law_crossed, right_swapped}
use Rattle.rings.proofs.Inside.{not_in_from_even}
use Rattle.rings.proofs.Simple.{proper_edges}
use Rattle.rings.proofs.Vertices.{closed_edges_of, on_some_left, on_some_right, misses_between, on_none_with}
use Rattle.rings.specs.Across.{CrossesRight, Misses}
use Rattle.rings.specs.Apart.{IsApartRing}
use Rattle.rings.specs.Prelude.{Edge, edge, edges_of, HasEdge, IsClosed, IsIn, IsOnSome, winding}
use Rattle.rings.specs.Winding.{WindsUpTo}
use Rattle.ring_laws.proofs.Triangles.{crosses_near, left_of, left_of_is_left, off_others, other_edges}

-- of two values 0 or -1 that differ by 1, the greater is 0
greater_is_zero : (x y : ℤ) → x ≡ y +ℤ pos 1 → (x ≡ pos 0) ⊎ (x ≡ negsuc 0) → (y ≡ pos 0) ⊎ (y ≡ negsuc 0) → x ≡ pos 0
greater_is_zero x y e (inl h) k = h
greater_is_zero x y e (inr h) (inl k) = absurd (omega (arith, ints))
greater_is_zero x y e (inr h) (inr k) = absurd (omega (arith, ints))

module _ (ring : List Point) (winds : WindsUpTo (negsuc 0) (edges_of ring)) (before after : List Edge) (e : Edge)
    (are : edges_of ring ≡ before ++ e ∷ after) (p q : Triple) (at_p : IsPoint p) (at_q : IsPoint q)
    (misses : Misses p q (before ++ after)) (c : CrossesRight p q e) where
  -- of a segment that crosses the edge alone, the end on the left of the edge is not in the ring
  left_is_out : ¬ IsIn ring p
  left_is_out =
      let law : winding (edges_of ring) p ≡ winding (edges_of ring) q +ℤ pos 1 =
      subst (λ es. winding es p ≡ winding es q +ℤ pos 1) (sym are)
      (winding_law_crossed p q at_p at_q before after e (subst IsClosed are (closed_edges_of ring))
      (λ z at_z on k. misses z at_z on (on_some_left z before after k))
      (λ z at_z on k. misses z at_z on (on_some_right z before after k)) c) in
      let off_p = subst (λ es. ¬ IsOnSome es p) (sym are) (on_none_with p before e after
      (left_not_on e.from e.to p at_p c.starts_left) (misses p at_p (on_first_end p q))) in
      let off_q = subst (λ es. ¬ IsOnSome es q) (sym are) (on_none_with q before e after
      (right_not_on e.from e.to q at_q c.ends_right) (misses q at_q (on_last_end p q))) in
      not_in_from_even ring p (pos 0) off_p (greater_is_zero _ _ law (winds p at_p off_p) (winds q at_q off_q))

-- so not all points near the middle of an edge, toward one on its left, are in the ring
pub not_clockwise : (ring : List Point) → IsApartRing ring → 1 < length ring → (e : Edge) → HasEdge (edges_of ring) e
    → (c : Point) → IsLeft (whole e.from) (whole e.to) (whole c)
    → Eventually (λ n. IsIn ring (toward (middle e.from e.to) (whole c) n)) → ¬ WindsUpTo (negsuc 0) (edges_of ring)
not_clockwise ring apart some e has c left inside winds =
    let proper = proper_edges ring apart some e has in
    let m = middle e.from e.to in
    let at_m = middle_is_point e.from e.to in
    let q = whole (left_of e.to e.from) in
    let at_c = whole_is_point c in
    let at_q = whole_is_point (left_of e.to e.from) in
    let right = right_swapped (whole e.to) (whole e.from) q (left_of_is_left e.to e.from (λ s. proper (sym s))) in
    let rest = other_edges ring apart e has in
    let off = off_others ring apart e has m at_m (middle_on e.from e.to) (λ s. proper (middle_first e.from e.to s))
    (λ s. proper (middle_last e.from e.to s)) in
    let between = misses_between m (whole c) q at_m at_c at_q (rest.before ++ rest.after) off in
    let across = crosses_near e m (whole c) q at_m at_c at_q (middle_within e.from e.to) left right in
    let n : ℕ = inside.start + between.start + across.start in
    left_is_out ring winds rest.before rest.after e rest.are (toward m (whole c) n) (toward m q n) (toward_is_point m (whole c) at_m at_c n)
    (toward_is_point m q at_m at_q n) (between.from_start n (omega arith)) (across.from_start n (omega arith))
    (inside.from_start n (omega arith))
