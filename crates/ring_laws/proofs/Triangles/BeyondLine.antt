-- A rational point that is as far to one side of a line as all ends of a closed list is not wound round.
use Rattle.std.proofs.Common.{◌≡◌, inl, inr, [], ◌∷◌, refl, sym, subst, List, ℤ, pos, ◌+ℤ◌, ◌-ℤ◌, ◌*ℤ◌, ◌<ℤ◌, ◌≤ℤ◌, arith}
use Rattle.std.proofs.lemmas.Int.{ints}
use Rattle.integer_algebra.proofs.Polynomial.{lit, var, ◌⊕◌, ◌⊖◌, ◌⊗◌, same_value}
use Rattle.integer_algebra.proofs.SignSteps.{not_both, zero_not_negative, weak_order}
use Rattle.integer_algebra.proofs.Signs.{mul_nonnegative}
use Rattle.plane.proofs.Order.{same_coordinates}
use Rattle.plane.proofs.Points.{whole_is_point}
use Rattle.plane.proofs.Turns.{determinant_same_first, written_determinant}
use Rattle.plane.specs.Prelude.{determinant, IsPoint, IsRight, Point, Triple, whole}
use Rattle.rings.proofs.Inside.{extreme_point}
use Rattle.rings.proofs.Vertices.{AllEnds, all_ends_map}
use Rattle.rings.specs.Prelude.{Edge, IsClosed, IsOnSome, winding}
use Rattle.ring_laws.proofs.Triangles.Triangles.{not_right_between}

-- how far one point is to the right of another, as seen along a line
beyond : (a b v : Point) (p : Triple) →
    ((b.y -ℤ a.y) *ℤ p.X +ℤ (a.x -ℤ b.x) *ℤ p.Y) -ℤ ((b.y -ℤ a.y) *ℤ v.x +ℤ (a.x -ℤ b.x) *ℤ v.y) *ℤ p.W
    ≡ determinant (whole a) (whole b) (whole v) *ℤ p.W -ℤ determinant (whole a) (whole b) p
beyond a b v p =
    let one = lit (pos 1) in
    let side = written_determinant (var 0) (var 1) one (var 2) (var 3) one in
    same_value
    (((var 3 ⊖ var 1) ⊗ var 6 ⊕ (var 0 ⊖ var 2) ⊗ var 7) ⊖ ((var 3 ⊖ var 1) ⊗ var 4 ⊕ (var 0 ⊖ var 2) ⊗ var 5) ⊗ var 8)
    (side (var 4) (var 5) one ⊗ var 8 ⊖ side (var 6) (var 7) (var 8))
    (a.x ∷ a.y ∷ b.x ∷ b.y ∷ v.x ∷ v.y ∷ p.X ∷ p.Y ∷ p.W ∷ []) refl

-- an order from a difference
at_most_from : (x y d e : ℤ) → y -ℤ x ≡ e -ℤ d → d ≤ℤ e → x ≤ℤ y
at_most_from x y d e h k = omega (arith, ints)

-- the direction is not nothing
some_direction : (a b : Point) → ¬ (a ≡ b) → ¬ ((b.y -ℤ a.y ≡ pos 0) × (a.x -ℤ b.x ≡ pos 0))
some_direction a b differ h =
    let ey = h.0 in
    let ex = h.1 in
    differ (same_coordinates a b (omega (arith, ints)) (omega (arith, ints)))

-- a number that is not positive is at most one that is not negative, times a positive one
at_most_product : (d e w : ℤ) → d ≤ℤ pos 0 → pos 0 ≤ℤ e → pos 0 <ℤ w → d ≤ℤ (e *ℤ w)
at_most_product d e w hd he hw = omega (arith, ints, mul_nonnegative e w he (omega (arith, ints)))

module _ (a b : Point) (differ : ¬ (a ≡ b)) (es : List Edge) (closed : IsClosed es) (p : Triple) (at_p : IsPoint p)
    (off : ¬ (IsOnSome es p)) where
  -- the point is as far to the right of the line from a to b as all ends
  pub farthest_right : AllEnds (λ v. determinant (whole a) (whole b) p ≤ℤ (determinant (whole a) (whole b) (whole v) *ℤ p.W)) es
      → winding es p ≡ pos 0
  farthest_right ends =
      extreme_point (b.y -ℤ a.y) (a.x -ℤ b.x) (some_direction a b differ) es closed p at_p off
      (all_ends_map (λ v h. at_most_from _ _ _ _ (beyond a b v p) h) es ends)

  -- it is not left of the line, and no end is right of it
  beyond_line : determinant (whole a) (whole b) p ≤ℤ pos 0
      → AllEnds (λ v. pos 0 ≤ℤ determinant (whole a) (whole b) (whole v)) es → winding es p ≡ pos 0
  beyond_line side ends = farthest_right (all_ends_map (λ v h. at_most_product _ _ p.W side h at_p) es ends)

-- ---- strictly to the right of a line

-- ends that are not right of a line have no point right of it between them
pub not_right_on : (a b : Triple) (es : List Edge) → AllEnds (λ v. pos 0 ≤ℤ determinant a b (whole v)) es → (x : Triple)
    → IsPoint x → IsOnSome es x → pos 0 ≤ℤ determinant a b x
not_right_on a b (e ∷ es) (from, to, rest) x at_x (inl on) =
    not_right_between a b x (whole e.from) (whole e.to) at_x (whole_is_point e.from) (whole_is_point e.to) from to on
not_right_on a b (e ∷ es) (from, to, rest) x at_x (inr on) = not_right_on a b es rest x at_x on
not_right_on a b [] ends x at_x on = absurd on

-- a line has two different points, where something is right of it
right_differs : (a b : Point) (p : Triple) → IsRight (whole a) (whole b) p → ¬ (a ≡ b)
right_differs a b p right e =
    not_both (subst (λ (c : Point). IsRight (whole a) (whole c) p) (sym e) right) (zero_not_negative (determinant_same_first (whole a) p))

module _ (a b : Point) (es : List Edge) (p : Triple) (at_p : IsPoint p) (right : IsRight (whole a) (whole b) p)
    (ends : AllEnds (λ v. pos 0 ≤ℤ determinant (whole a) (whole b) (whole v)) es) where
  -- a point right of a line is on no edge, where no end is right of the line
  right_off : ¬ (IsOnSome es p)
  right_off on = not_both right (not_right_on (whole a) (whole b) es ends p at_p on)

  -- and it is not wound round
  pub right_of_all : IsClosed es → winding es p ≡ pos 0
  right_of_all closed = beyond_line a b (right_differs a b p right) es closed p at_p right_off (weak_order right) ends
