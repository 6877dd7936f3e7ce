-- Signs of directions from one point, over plain integers: ab is positive where b is left of the ray to a. The rays are to the ends
-- r and l of a side, to a bound c, to a point x, and to g, of which all the others are left.
use Rattle.std.proofs.Common.{◌≡◌, inl, inr, ℤ, pos, ◌+ℤ◌, ◌-ℤ◌, ◌*ℤ◌, neg_ℤ, ◌<ℤ◌, ◌≤ℤ◌, arith, [], ◌∷◌, refl, List}
use Rattle.std.proofs.lemmas.Int.{ints}
use Rattle.integer_algebra.proofs.Certificate.{product_zero}
use Rattle.integer_algebra.proofs.Laws.{mul_comm, neg-mul}
use Rattle.integer_algebra.proofs.Polynomial.{lit, var, ◌⊕◌, ◌⊖◌, ◌⊗◌, same_value}
use Rattle.integer_algebra.proofs.SignSteps.{positive_not_zero, weak, weak_order, at_least_unless}
use Rattle.integer_algebra.proofs.Signs.{factor_negative, factor_nonnegative, factor_nonpositive, factor_positive, factor_zero, lt_or_le}
use Rattle.integer_algebra.proofs.Signs.{mul_negative, mul_negatives, mul_nonnegative, mul_nonpositive, mul_nonpositives, mul_positive}
use Rattle.plane.proofs.Turns.{written_determinant}
use Rattle.plane.specs.Prelude.{determinant, IsLeft, IsPoint, IsRight, Point, Triple, whole}
use Rattle.rings.specs.Ring.{vertex}
use Rattle.ring_laws.proofs.Triangles.{in_triangle}
use Rattle.meshes.specs.Prelude.{IsInTri}
use Rattle.meshes.specs.declared.tri.Tri.{Tri}

-- ---- a bound and the two ends of a side, all in front

module _ (gc rl gr cl gl cr : ℤ) (e : gc *ℤ rl -ℤ gr *ℤ cl +ℤ gl *ℤ cr ≡ pos 0)
    (hc : pos 0 <ℤ gc) (hr : pos 0 <ℤ gr) (hl : pos 0 <ℤ gl) where
  -- where the right end is left of the bound, so is the left one,
  pub left_too : pos 0 ≤ℤ rl → pos 0 <ℤ cr → pos 0 <ℤ cl
  left_too h right = factor_positive gr cl hr (omega (arith, ints, mul_nonnegative gc rl (weak hc) h, mul_positive gl cr hl right))

  -- and where the left one is right of it, so is the right one
  pub right_too : pos 0 ≤ℤ rl → cl <ℤ pos 0 → cr <ℤ pos 0
  right_too h left = factor_negative gl cr hl (omega (arith, ints, mul_nonnegative gc rl (weak hc) h, mul_negative gr cl hr left))

  -- in line with each other they are on one side of it
  pub not_left_too : rl ≡ pos 0 → cr ≤ℤ pos 0 → cl ≤ℤ pos 0
  not_left_too none right = factor_nonpositive gr cl hr (omega (arith, ints, product_zero gc none, mul_nonpositive gl cr (weak hl) right))

  pub not_right_too : rl ≡ pos 0 → pos 0 ≤ℤ cl → pos 0 ≤ℤ cr
  not_right_too none left = factor_nonnegative gl cr hl (omega (arith, ints, product_zero gc none, mul_nonnegative gr cl (weak hr) left))

-- ---- two ends in line, and a point

module _ (gl rx gr lx gx lr : ℤ) (e : gl *ℤ rx -ℤ gr *ℤ lx +ℤ gx *ℤ lr ≡ pos 0)
    (hl : pos 0 <ℤ gl) (hr : pos 0 <ℤ gr) (none : lr ≡ pos 0) where
  -- not left of the one and not right of the other, it is in line with them
  pub in_line : lx ≤ℤ pos 0 → pos 0 ≤ℤ rx → lx ≡ pos 0
  in_line left right =
      factor_zero gr lx (positive_not_zero hr)
      (omega (arith, ints, product_zero gx none, mul_nonnegative gl rx (weak hl) right, mul_nonpositive gr lx (weak hr) left))

  -- in line with the one, it is in line with the other
  pub in_line_too : lx ≡ pos 0 → rx ≡ pos 0
  in_line_too left = factor_zero gl rx (positive_not_zero hl) (omega (arith, ints, product_zero gx none, product_zero gr left))

-- ---- a side, and a point beyond it

-- beyond the side, the point is more to the left of the right end than of the left one
pub beyond_side : (hx lx rx rl w : ℤ) → hx *ℤ pos 1 -ℤ lx *ℤ pos 1 +ℤ rx *ℤ pos 1 -ℤ rl *ℤ w ≡ pos 0
    → hx ≤ℤ pos 0 → pos 0 <ℤ rl → pos 0 <ℤ w → lx <ℤ rx
beyond_side hx lx rx rl w e h up at = omega (arith, ints, mul_positive rl w up at)

-- a bound that reaches the side
module _ (cr lx cl rx cx rl : ℤ) (e : cr *ℤ lx -ℤ cl *ℤ rx +ℤ cx *ℤ rl ≡ pos 0) (hr : cr ≤ℤ pos 0) (hl : pos 0 ≤ℤ cl) (apart : cr <ℤ cl)
    (up : pos 0 <ℤ rl) (more : lx <ℤ rx) where
  -- what is not left of it is not left of the left end,
  pub not_past_left : cx ≤ℤ pos 0 → lx ≤ℤ pos 0
  not_past_left hx = elim (lt_or_le (pos 0) lx) [
    | inr h ↦ h
    | inl h ↦
        let past : pos 0 <ℤ rx = omega (arith, ints) in
        let last : (cx *ℤ rl) ≤ℤ pos 0 = rw (mul_comm cx rl) (mul_nonpositive rl cx (weak up) hx) in
        elim (lt_or_le cr (pos 0)) [
          | inl k ↦
              let first : (cr *ℤ lx) <ℤ pos 0 = rw (mul_comm cr lx) (mul_negative lx cr h k) in
              absurd (omega (arith, ints, first, mul_nonnegative cl rx hl (weak past), last))
          | inr k ↦
              let first : (cr *ℤ lx) ≤ℤ pos 0 = rw (mul_comm cr lx) (mul_nonpositive lx cr (weak h) hr) in
              absurd (omega (arith, ints, first, mul_positive cl rx (omega (arith, ints)) past, last))
        ]
  ]

  -- and what is not right of it is not right of the right end
  pub not_past_right : pos 0 ≤ℤ cx → pos 0 ≤ℤ rx
  not_past_right hx = elim (lt_or_le rx (pos 0)) [
    | inr h ↦ h
    | inl h ↦
        let past : lx <ℤ pos 0 = omega (arith, ints) in
        let last : pos 0 ≤ℤ (cx *ℤ rl) = rw (mul_comm cx rl) (mul_nonnegative rl cx (weak up) hx) in
        elim (lt_or_le cr (pos 0)) [
          | inl k ↦ absurd (omega (arith, ints, mul_negatives cr lx k past, mul_nonpositive cl rx hl (weak_order h), last))
          | inr k ↦
              absurd (omega (arith, ints, mul_nonpositives cr lx hr (weak_order past), mul_negative cl rx (omega (arith, ints)) h, last))
        ]
  ]

-- ---- a point on the way to another

module _ (k l m y z x : ℤ) (hm : pos 0 <ℤ m) (none : z ≡ pos 0) (e : k *ℤ y ≡ l *ℤ z +ℤ m *ℤ x) where
  -- the other is on its side of each ray: not left,
  pub not_left_ahead : pos 0 <ℤ k → y ≤ℤ pos 0 → x ≤ℤ pos 0
  not_left_ahead hk h = factor_nonpositive m x hm (omega (arith, ints, product_zero l none, mul_nonpositive k y (weak hk) h))

  -- not right,
  pub not_right_ahead : pos 0 <ℤ k → pos 0 ≤ℤ y → pos 0 ≤ℤ x
  not_right_ahead hk h = factor_nonnegative m x hm (omega (arith, ints, product_zero l none, mul_nonnegative k y (weak hk) h))

  -- or in line
  pub in_line_ahead : y ≡ pos 0 → x ≡ pos 0
  in_line_ahead h = factor_zero m x (positive_not_zero hm) (omega (arith, ints, product_zero l none, product_zero k h))

-- ---- numbers

-- a number less a negative multiple of a positive one
pub ahead_of : (d m s w : ℤ) → d ≡ m -ℤ s *ℤ w → pos 0 ≤ℤ m → s <ℤ pos 0 → pos 0 <ℤ w → pos 0 <ℤ d
ahead_of d m s w e hm hs hw = omega (arith, ints, mul_comm s w, mul_negative w s hw hs)

-- the value f of one ray on the bound of another, where the first is not right of the second
pub bound_side : (f rl ba fr fl gr gl : ℤ) → ba *ℤ rl -ℤ gr *ℤ fl +ℤ gl *ℤ fr ≡ pos 0 → pos 1 *ℤ f ≡ neg_ℤ gr *ℤ fl +ℤ gl *ℤ fr
    → pos 0 ≤ℤ ba → pos 0 <ℤ rl → f ≤ℤ pos 0
bound_side f rl ba fr fl gr gl e sum h up = omega (arith, ints, neg-mul gr fl, mul_nonnegative ba rl h (weak up))

-- ---- a triangle in front of a point: left of one line through the point

-- the point as far from q as v is from u
abbrev pub ahead : Point → Point → Point → Point
ahead q u v = record { x = q.x +ℤ (v.x -ℤ u.x); y = q.y +ℤ (v.y -ℤ u.y) }

module _ (q u v : Point) where
  -- the turn over it is how much farther a point is from the line through u and v than q is
  pub ahead_turn : (z : Triple) → determinant (whole q) (whole (ahead q u v)) z
      ≡ determinant (whole u) (whole v) z -ℤ determinant (whole u) (whole v) (whole q) *ℤ z.W
  ahead_turn z =
      let one = lit (pos 1) in
      same_value
      (written_determinant (var 0) (var 1) one (var 0 ⊕ (var 4 ⊖ var 2)) (var 1 ⊕ (var 5 ⊖ var 3)) one (var 6) (var 7) (var 8))
      (written_determinant (var 2) (var 3) one (var 4) (var 5) one (var 6) (var 7) (var 8)
      ⊖ written_determinant (var 2) (var 3) one (var 4) (var 5) one (var 0) (var 1) one ⊗ var 8)
      (q.x ∷ q.y ∷ u.x ∷ u.y ∷ v.x ∷ v.y ∷ z.X ∷ z.Y ∷ z.W ∷ []) refl

  -- so from q on the right of that line all points that are not are in front
  pub in_front : IsRight (whole u) (whole v) (whole q) → (z : Triple) → IsPoint z → pos 0 ≤ℤ determinant (whole u) (whole v) z
      → IsLeft (whole q) (whole (ahead q u v)) z
  in_front right z at_z h = ahead_of _ _ _ _ (ahead_turn z) h right at_z

-- a triangle that q is not in is in front of q
pub triangle_in_front : (corners : List Point) (t : Tri) (q : Point) → ¬ IsInTri corners t (whole q)
    → (g : Point) × ((x : Triple) → IsPoint x → IsInTri corners t x → IsLeft (whole q) (whole g) x)
triangle_in_front corners t q off =
    let a = vertex corners t.a in
    let b = vertex corners t.b in
    let c = vertex corners t.c in
    elim (lt_or_le (determinant (whole a) (whole b) (whole q)) (pos 0)) [
      | inl right ↦ (ahead q a b, λ x at_x in_x. in_front q a b right x at_x (at_least_unless in_x.not_right_of_first))
      | inr first ↦ elim (lt_or_le (determinant (whole b) (whole c) (whole q)) (pos 0)) [
        | inl right ↦ (ahead q b c, λ x at_x in_x. in_front q b c right x at_x (at_least_unless in_x.not_right_of_second))
        | inr second ↦ elim (lt_or_le (determinant (whole c) (whole a) (whole q)) (pos 0)) [
          | inl right ↦ (ahead q c a, λ x at_x in_x. in_front q c a right x at_x (at_least_unless in_x.not_right_of_third))
          | inr third ↦ absurd (off (in_triangle a b c (whole q) first second third))
        ]
      ]
    ]
