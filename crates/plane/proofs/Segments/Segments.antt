-- First laws of segments: their ends, their two directions, other triples of the same points, the line through them.
use Rattle.std.proofs.Common.{◌≡◌, [], ◌∷◌, refl, ◌∙◌, ◌-◌, lit≤, ℤ, pos, ◌+ℤ◌, ◌*ℤ◌, ◌<ℤ◌, arith}
use Rattle.std.proofs.lemmas.Int.{ints}
use Rattle.integer_algebra.proofs.Polynomial.{var, lit, ◌⊕◌, ◌⊗◌, same_value}
use Rattle.integer_algebra.proofs.Signs.{cancel_equal}
use Rattle.plane.proofs.Points.{same_sym, same_trans}
use Rattle.plane.proofs.Turns.{determinant_same_ends, determinant_same_last, IsCombination, combination_of, determinant_along}
use Rattle.plane.specs.Prelude.{IsPoint, IsSame, IsStraight, Meet, On, Triple}

-- ---- ends and directions

-- one coordinate of the way back: x and w of p, u and v of a, s and t of b
back : (d i j x w u v s t : ℤ) → x *ℤ ((j *ℤ v) *ℤ t) ≡ ((d *ℤ u) *ℤ t +ℤ (i *ℤ s) *ℤ v) *ℤ w
    → x *ℤ ((j *ℤ t) *ℤ v) ≡ ((i *ℤ s) *ℤ v +ℤ (d *ℤ u) *ℤ t) *ℤ w
back d i j x w u v s t e =
    let xs = d ∷ i ∷ j ∷ x ∷ w ∷ u ∷ v ∷ s ∷ t ∷ [] in
    same_value (var 3 ⊗ ((var 2 ⊗ var 8) ⊗ var 6)) (var 3 ⊗ ((var 2 ⊗ var 6) ⊗ var 8)) xs refl ∙ e
    ∙ same_value (((var 0 ⊗ var 5) ⊗ var 8 ⊕ (var 1 ⊗ var 7) ⊗ var 6) ⊗ var 4)
    (((var 1 ⊗ var 7) ⊗ var 6 ⊕ (var 0 ⊗ var 5) ⊗ var 8) ⊗ var 4) xs refl

-- a segment has two directions
pub on_reversed : (p a b : Triple) → On p a b → On p b a
on_reversed p a b on =
    let d : ℤ = pos (on.j - on.i) in
    let i : ℤ = pos on.i in
    let rest : on.j - (on.j - on.i) ≡ on.i = omega (arith, on.within) in
    record {
      i = on.j - on.i;
      j = on.j;
      positive = on.positive;
      within = omega arith;
      same = record {
        same_x = rw rest (back d i (pos on.j) p.X p.W a.X a.W b.X b.W on.same.same_x);
        same_y = rw rest (back d i (pos on.j) p.Y p.W a.Y a.W b.Y b.W on.same.same_y);
      };
    }

-- segments that meet do so where the first is read backward
pub meet_reversed_first : (a b c d : Triple) → Meet a b c d → Meet b a c d
meet_reversed_first a b c d h = record {
  point = h.point;
  rational = h.rational;
  on_first = on_reversed h.point a b h.on_first;
  on_second = h.on_second;
}

-- and where the second is
pub meet_reversed_second : (a b c d : Triple) → Meet a b c d → Meet a b d c
meet_reversed_second a b c d h = record {
  point = h.point;
  rational = h.rational;
  on_first = h.on_first;
  on_second = on_reversed h.point c d h.on_second;
}

-- one coordinate of the start of the way
start : (u v s t : ℤ) → u *ℤ ((pos 1 *ℤ v) *ℤ t) ≡ ((pos 1 *ℤ u) *ℤ t +ℤ (pos 0 *ℤ s) *ℤ v) *ℤ v
start u v s t =
    same_value (var 0 ⊗ ((lit (pos 1) ⊗ var 1) ⊗ var 3)) (((lit (pos 1) ⊗ var 0) ⊗ var 3 ⊕ (lit (pos 0) ⊗ var 2) ⊗ var 1) ⊗ var 1)
    (u ∷ v ∷ s ∷ t ∷ []) refl

-- the first end is on the segment
pub on_first_end : (a b : Triple) → On a a b
on_first_end a b = record {
  i = 0;
  j = 1;
  positive = lit≤ tt;
  within = lit≤ tt;
  same = record { same_x = start a.X a.W b.X b.W; same_y = start a.Y a.W b.Y b.W };
}

-- so is the last
pub on_last_end : (a b : Triple) → On b a b
on_last_end a b = on_reversed b b a (on_first_end b a)

-- ---- other triples of the same points

-- the same point is on the segment
pub on_same_point : {p q a b : Triple} → IsPoint p → IsSame p q → On p a b → On q a b
on_same_point h s on = record { i = on.i; j = on.j; positive = on.positive; within = on.within; same = same_trans h (same_sym s) on.same }

-- ---- the line through a segment

-- what has a weighted sum of zeros as a multiple is 0
pub zero_of : (k l m z f g : ℤ) → pos 0 <ℤ k → f ≡ pos 0 → g ≡ pos 0 → k *ℤ z ≡ l *ℤ f +ℤ m *ℤ g → z ≡ pos 0
zero_of k l m z f g h ef eg e =
    let zero : k *ℤ z ≡ k *ℤ pos 0 = e ∙ (λ i. l *ℤ ef i +ℤ m *ℤ eg i) ∙ omega (arith, ints) in
    cancel_equal z (pos 0) k h zero

-- a combination of two points is on the line through them
pub combination_is_straight : (p a b : Triple) → IsCombination p a b → IsStraight a b p
combination_is_straight p a b c =
    zero_of c.k c.l c.m _ _ _ c.k_positive (determinant_same_ends a b) (determinant_same_last a b) (determinant_along p a b c a b)

-- so is a point on the segment
pub on_is_straight : (p a b : Triple) → IsPoint p → IsPoint a → IsPoint b → On p a b → IsStraight a b p
on_is_straight p a b at_p at_a at_b on = combination_is_straight p a b (combination_of p a b at_p at_a at_b on)
