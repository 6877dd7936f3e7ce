-- Points strictly inside triangles: those near them are so too, and some of them are off a given line.
use Rattle.std.proofs.Common.{◌≡◌, sym, ap, ◌∙◌, ℕ, ◌+◌, List, ℤ, pos, ◌+ℤ◌, ◌-ℤ◌, ◌*ℤ◌, arith}
use Rattle.std.proofs.lemmas.Int.{ints}
use Rattle.integer_algebra.proofs.SignSteps.{positive_not_negative}
use Rattle.plane.proofs.Nearness.{Eventually, combination_toward, left_eventually, toward, toward_is_point}
use Rattle.plane.proofs.Points.{whole_is_point}
use Rattle.plane.proofs.Turns.{determinant_along, determinant_is_linear}
use Rattle.plane.specs.Prelude.{IsPoint, IsStraight, Point, Triple, whole}
use Rattle.rings.specs.Ring.{vertex}
use Rattle.meshes.specs.Prelude.{IsInTri, IsStrictlyInTri}
use Rattle.meshes.specs.declared.tri.Tri.{Tri}

-- a point strictly inside a triangle is in it
pub in_tri : (corners : List Point) (t : Tri) (p : Triple) → IsStrictlyInTri corners t p → IsInTri corners t p
in_tri corners t p s = record {
  not_right_of_first = positive_not_negative s.left_of_first;
  not_right_of_second = positive_not_negative s.left_of_second;
  not_right_of_third = positive_not_negative s.left_of_third;
}

-- ---- near points

-- what holds of a sum that is 0
other_zero : (n d e f : ℤ) → d ≡ pos 0 → f ≡ pos 0 → pos 1 *ℤ f ≡ n *ℤ d +ℤ pos 1 *ℤ e → e ≡ pos 0
other_zero n d e f hd hf h = omega (arith, ints, ap (λ x. n *ℤ x) hd)

module _ (p c : Triple) (n : ℕ) where
  -- where a point and one near it are on a line, so is the one that it is near
  straight_toward : (a b : Triple) → IsStraight a b p → IsStraight a b (toward p c n) → IsStraight a b c
  unfolding combination_toward
  straight_toward a b at_p near = other_zero (pos n) _ _ _ at_p near (determinant_along (toward p c n) p c (combination_toward p c n) a b)

module _ (corners : List Point) (t : Tri) (p c : Triple) (s : IsStrictlyInTri corners t p) where
  -- near a point strictly inside a triangle all points are so
  strictly_eventually : Eventually (λ n. IsStrictlyInTri corners t (toward p c n))
  strictly_eventually =
      let A = whole (vertex corners t.a) in
      let B = whole (vertex corners t.b) in
      let C = whole (vertex corners t.c) in
      let first = left_eventually p c A B s.left_of_first in
      let second = left_eventually p c B C s.left_of_second in
      let third = left_eventually p c C A s.left_of_third in
      record {
        start = first.start + second.start + third.start;
        from_start = λ n above. record {
          left_of_first = first.from_start n (omega arith);
          left_of_second = second.from_start n (omega arith);
          left_of_third = third.from_start n (omega arith);
        };
      }

-- ---- points off a line

-- the coordinates of a functional that is 0 at three points
no_functional : (α β γ : ℤ) → α *ℤ pos 0 +ℤ β *ℤ pos 0 +ℤ γ *ℤ pos 1 ≡ pos 0 → α *ℤ pos 1 +ℤ β *ℤ pos 0 +ℤ γ *ℤ pos 1 ≡ pos 0
    → α *ℤ pos 0 +ℤ β *ℤ pos 1 +ℤ γ *ℤ pos 1 ≡ pos 0 → (α ≡ pos 0) × (β ≡ pos 0)
no_functional α β γ e f g = (omega (arith, ints), omega (arith, ints))

-- where all points are on a line, its two points are one
one_point : (v z : Point) → ((c : Point) → IsStraight (whole v) (whole z) (whole c)) → v ≡ z
one_point v z all =
    let at = λ (c : Point). sym (determinant_is_linear (whole v) (whole z) (whole c)) ∙ all c in
    let α : ℤ = v.y *ℤ pos 1 -ℤ z.y *ℤ pos 1 in
    let β : ℤ = z.x *ℤ pos 1 -ℤ v.x *ℤ pos 1 in
    let γ : ℤ = v.x *ℤ z.y -ℤ z.x *ℤ v.y in
    let h = no_functional α β γ (at (record { x = pos 0; y = pos 0 })) (at (record { x = pos 1; y = pos 0 })) (at (record { x = pos 0; y = pos 1 })) in
    let ex : v.x ≡ z.x = omega (arith, ints, h.1) in
    let ey : v.y ≡ z.y = omega (arith, ints, h.0) in
    λ i. record { x = ex i; y = ey i }

-- no point is strictly inside two triangles that have only points of a line in common
pub not_in_both : (corners : List Point) (t u : Tri) (v z : Point) → ¬ (v ≡ z)
    → ((p : Triple) → IsPoint p → IsInTri corners t p → IsInTri corners u p → IsStraight (whole v) (whole z) p)
    → (p : Triple) → IsPoint p → ¬ (IsStrictlyInTri corners t p × IsStrictlyInTri corners u p)
not_in_both corners t u v z differ common p at_p h =
    differ (one_point v z (λ c.
    let first = strictly_eventually corners t p (whole c) h.0 in
    let second = strictly_eventually corners u p (whole c) h.1 in
    let n : ℕ = first.start + second.start in
    let q = toward p (whole c) n in
    let near = common q (toward_is_point p (whole c) at_p (whole_is_point c) n)
    (in_tri corners t q (first.from_start n (omega arith))) (in_tri corners u q (second.from_start n (omega arith))) in
    straight_toward p (whole c) n (whole v) (whole z) (common p at_p (in_tri corners t p h.0) (in_tri corners u p h.1)) near))
