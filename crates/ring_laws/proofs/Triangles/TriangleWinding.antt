-- A counterclockwise triangle winds once round the points inside, and not round those outside.
-- The points in a ring of three vertices that turn left are those of the closed triangle.
use Rattle.std.proofs.Common.{◌≡◌, ◌⊎◌, inl, inr, [], ◌∷◌, refl, ap, List, ℤ, pos, ◌+ℤ◌, ◌-ℤ◌, ◌*ℤ◌, ◌<ℤ◌, ◌≤ℤ◌, arith}
use Rattle.std.proofs.lemmas.Int.{ints}
use Rattle.integer_algebra.proofs.Polynomial.{var, ◌⊕◌, ◌⊖◌, ◌⊗◌, zero_value}
use Rattle.integer_algebra.proofs.SignSteps.{not_both, positive_not_zero, weak, zero_not_negative}
use Rattle.integer_algebra.proofs.Signs.{factor_zero, lt_or_le, mul_nonpositive, mul_positive}
use Rattle.plane.proofs.Order.{by_rises, rise}
use Rattle.plane.proofs.Turns.{determinant_same_ends, determinant_same_last, parts, determinant as det}
use Rattle.plane.specs.Prelude.{determinant, IsInTriangle, IsLeft, IsPoint, Point, Triple, whole}
use Rattle.rings.proofs.Crossings.{CrossingCase, crossing_cases, downward, uncrossed, upward}
use Rattle.rings.proofs.Inside.{in_from_odd, not_in_from_even}
use Rattle.rings.proofs.Vertices.{AllEnds, closed_edges_of}
use Rattle.rings.specs.Prelude.{crossing, Edge, edges_of, IsClosed, IsIn, IsOnSome, winding}
use Rattle.ring_laws.proofs.Triangles.BeyondLine.{not_right_on, right_of_all}
use Rattle.ring_laws.proofs.Triangles.TrianglePlaces.{IsBeyond, IsInside, Place, inside, on_border, on_first, on_second, on_third, outside}
use Rattle.ring_laws.proofs.Triangles.TrianglePlaces.{place_of, right_of_first, right_of_second, right_of_third, IsOnSide, outside_not_in}
use Rattle.ring_laws.proofs.Triangles.Triangles.{in_triangle, left_at_first, left_at_last}

-- the sides of a triangle
abbrev pub triangle : Point → Point → Point → List Edge
triangle u v w = edges_of (u ∷ v ∷ w ∷ [])

-- they are closed
triangle_closed : (u v w : Point) → IsClosed (triangle u v w)
triangle_closed u v w = closed_edges_of (u ∷ v ∷ w ∷ [])

-- ---- inside

-- the heights of the corners, weighed by the areas opposite, balance
heights_balance : (u v w p : Triple) →
    determinant v w p *ℤ rise u p +ℤ determinant w u p *ℤ rise v p +ℤ determinant u v p *ℤ rise w p ≡ pos 0
heights_balance u v w p =
    zero_value
    (det 1 2 3 ⊗ (var 1 ⊗ var 11 ⊖ var 10 ⊗ var 2) ⊕ det 2 0 3 ⊗ (var 4 ⊗ var 11 ⊖ var 10 ⊗ var 5)
    ⊕ det 0 1 3 ⊗ (var 7 ⊗ var 11 ⊖ var 10 ⊗ var 8)) (parts (u ∷ v ∷ w ∷ p ∷ []) []) refl

-- an edge from height f to height g is crossed upward where it rises past 0, and not at all elsewhere
data Passes (f g c : ℤ) : Type 0 where
  rises : f ≤ℤ pos 0 → pos 0 <ℤ g → c ≡ pos 1 → Passes f g c
  rests : ¬ ((f ≤ℤ pos 0) × (pos 0 <ℤ g)) → c ≡ pos 0 → Passes f g c

-- so it is with an edge that a point is left of
passes : (e : Edge) (p : Triple) → IsLeft (whole e.from) (whole e.to) p
    → Passes (rise (whole e.from) p) (rise (whole e.to) p) (crossing e p)
passes e p left = go (crossing_cases e p)
  where
    go : CrossingCase e p → Passes (rise (whole e.from) p) (rise (whole e.to) p) (crossing e p)
    go (upward h v t) =
        let a = h.begins_low in
        let b = h.ends_high in
        rises (omega (arith, ints)) (omega (arith, ints)) v
    go (downward h v t) = absurd (not_both h.on_right (weak left))
    go (uncrossed m n v t) =
        rests (λ h. m (record { begins_low = let k = h.0 in omega (arith, ints); ends_high = let k = h.1 in omega (arith, ints); on_left = left })) v

-- of three numbers that are neither all positive nor all not, one and only one is passed upward, round
once : (f g h c d e : ℤ) → Passes f g c → Passes g h d → Passes h f e → ¬ ((f ≤ℤ pos 0) × (g ≤ℤ pos 0) × (h ≤ℤ pos 0))
    → ¬ ((pos 0 <ℤ f) × (pos 0 <ℤ g) × (pos 0 <ℤ h)) → c +ℤ (d +ℤ (e +ℤ pos 0)) ≡ pos 1
once f g h c d e (rises f0 g1 x) (rises g0 h1 y) z low high = absurd (omega (arith, ints))
once f g h c d e (rises f0 g1 x) (rests m y) (rises h0 f1 z) low high = absurd (omega (arith, ints))
once f g h c d e (rises f0 g1 x) (rests m y) (rests n z) low high = omega (arith, ints)
once f g h c d e (rests k x) (rises g0 h1 y) (rises h0 f1 z) low high = absurd (omega (arith, ints))
once f g h c d e (rests k x) (rises g0 h1 y) (rests n z) low high = omega (arith, ints)
once f g h c d e (rests k x) (rests m y) (rises h0 f1 z) low high = omega (arith, ints)
once f g h c d e (rests k x) (rests m y) (rests n z) low high = absurd (none k m n low high)
  where
    none : ¬ ((f ≤ℤ pos 0) × (pos 0 <ℤ g)) → ¬ ((g ≤ℤ pos 0) × (pos 0 <ℤ h)) → ¬ ((h ≤ℤ pos 0) × (pos 0 <ℤ f))
        → ¬ ((f ≤ℤ pos 0) × (g ≤ℤ pos 0) × (h ≤ℤ pos 0)) → ¬ ((pos 0 <ℤ f) × (pos 0 <ℤ g) × (pos 0 <ℤ h)) → ⊥
    none k m n low high = elim (lt_or_le (pos 0) f) [
      | inl f1 ↦ elim (lt_or_le (pos 0) h) [
        | inl h1 ↦ elim (lt_or_le (pos 0) g) [ inl g1 ↦ high (f1, g1, h1) | inr g0 ↦ m (g0, h1) ]
        | inr h0 ↦ n (h0, f1)
      ]
      | inr f0 ↦ elim (lt_or_le (pos 0) g) [
        | inl g1 ↦ k (f0, g1)
        | inr g0 ↦ elim (lt_or_le (pos 0) h) [ inl h1 ↦ m (g0, h1) | inr h0 ↦ low (f0, g0, h0) ]
      ]
    ]

-- numbers that balance with positive weights are not all positive,
not_all_high : (l m n f g h : ℤ) → pos 0 <ℤ l → pos 0 <ℤ m → pos 0 <ℤ n → l *ℤ f +ℤ m *ℤ g +ℤ n *ℤ h ≡ pos 0
    → ¬ ((pos 0 <ℤ f) × (pos 0 <ℤ g) × (pos 0 <ℤ h))
not_all_high l m n f g h hl hm hn e k = omega (arith, ints, mul_positive l f hl k.0, mul_positive m g hm k.1, mul_positive n h hn k.2)

-- and where none is, the first and the second are 0
all_low : (l m n f g h : ℤ) → pos 0 <ℤ l → pos 0 <ℤ m → pos 0 <ℤ n → l *ℤ f +ℤ m *ℤ g +ℤ n *ℤ h ≡ pos 0
    → (f ≤ℤ pos 0) × (g ≤ℤ pos 0) × (h ≤ℤ pos 0) → (l *ℤ f ≡ pos 0) × (m *ℤ g ≡ pos 0)
all_low l m n f g h hl hm hn e k =
    let a = mul_nonpositive l f (weak hl) k.0 in
    let b = mul_nonpositive m g (weak hm) k.1 in
    let c = mul_nonpositive n h (weak hn) k.2 in
    (omega (arith, ints), omega (arith, ints))

-- no number is positive, and 0 by a positive factor
no_area : (w d r s f g : ℤ) → pos 0 <ℤ w → pos 0 <ℤ d → f ≡ pos 0 → g ≡ pos 0 → w *ℤ d ≡ r *ℤ g -ℤ s *ℤ f → ⊥
no_area w d r s f g hw hd ef eg e =
    omega (arith, ints, mul_positive w d hw hd, ap (λ z. r *ℤ z) eg, ap (λ z. s *ℤ z) ef, e)

module _ (u v w : Point) (p : Triple) (at_p : IsPoint p) where
  -- the triangle winds once round a point inside
  pub winding_inside : IsInside u v w p → winding (triangle u v w) p ≡ pos 1
  winding_inside i =
      let balance = heights_balance (whole u) (whole v) (whole w) p in
      let flat = all_low _ _ _ _ _ _ i.left_of_second i.left_of_third i.left_of_first balance in
      once _ _ _ _ _ _
      (passes (record { from = u; to = v }) p i.left_of_first) (passes (record { from = v; to = w }) p i.left_of_second)
      (passes (record { from = w; to = u }) p i.left_of_third)
      (λ h. no_area p.W _ _ _ _ _ at_p i.left_of_first
      (factor_zero _ _ (positive_not_zero i.left_of_second) (flat h).0)
      (factor_zero _ _ (positive_not_zero i.left_of_third) (flat h).1) (by_rises (whole u) (whole v) p))
      (not_all_high _ _ _ _ _ _ i.left_of_second i.left_of_third i.left_of_first balance)

-- ---- outside

-- where no corner is right of a line, no end of a side is
all_corners : (s t : Triple) (u v w : Point) → pos 0 ≤ℤ determinant s t (whole u) → pos 0 ≤ℤ determinant s t (whole v)
    → pos 0 ≤ℤ determinant s t (whole w) → AllEnds (λ a. pos 0 ≤ℤ determinant s t (whole a)) (triangle u v w)
all_corners s t u v w a b c = (a, b, (b, c, (c, a, tt)))

module _ (u v w : Point) (left : IsLeft (whole u) (whole v) (whole w)) where
  -- no corner is right of the first side,
  corners_by_first : AllEnds (λ a. pos 0 ≤ℤ determinant (whole u) (whole v) (whole a)) (triangle u v w)
  corners_by_first =
      all_corners (whole u) (whole v) u v w (zero_not_negative (determinant_same_ends (whole u) (whole v)))
      (zero_not_negative (determinant_same_last (whole u) (whole v))) (weak left)

  -- of the second,
  corners_by_second : AllEnds (λ a. pos 0 ≤ℤ determinant (whole v) (whole w) (whole a)) (triangle u v w)
  corners_by_second =
      all_corners (whole v) (whole w) u v w (weak (left_at_last u v w left)) (zero_not_negative (determinant_same_ends (whole v) (whole w)))
      (zero_not_negative (determinant_same_last (whole v) (whole w)))

  -- or of the third
  corners_by_third : AllEnds (λ a. pos 0 ≤ℤ determinant (whole w) (whole u) (whole a)) (triangle u v w)
  corners_by_third =
      all_corners (whole w) (whole u) u v w (zero_not_negative (determinant_same_last (whole w) (whole u))) (weak (left_at_first u v w left))
      (zero_not_negative (determinant_same_ends (whole w) (whole u)))

  module _ (p : Triple) (at_p : IsPoint p) where
    -- a point on the sides is in the closed triangle
    pub on_sides_in : IsOnSome (triangle u v w) p → IsInTriangle u v w p
    on_sides_in on =
        in_triangle u v w p
        (not_right_on (whole u) (whole v) (triangle u v w) corners_by_first p at_p on)
        (not_right_on (whole v) (whole w) (triangle u v w) corners_by_second p at_p on)
        (not_right_on (whole w) (whole u) (triangle u v w) corners_by_third p at_p on)

    -- the triangle does not wind round a point outside
    pub winding_outside : IsBeyond u v w p → winding (triangle u v w) p ≡ pos 0
    winding_outside (right_of_first h) = right_of_all u v (triangle u v w) p at_p h corners_by_first (triangle_closed u v w)
    winding_outside (right_of_second h) = right_of_all v w (triangle u v w) p at_p h corners_by_second (triangle_closed u v w)
    winding_outside (right_of_third h) = right_of_all w u (triangle u v w) p at_p h corners_by_third (triangle_closed u v w)

    -- off its sides the triangle winds round a point not at all or once
    pub triangle_values : ¬ (IsOnSome (triangle u v w) p) → (winding (triangle u v w) p ≡ pos 0) ⊎ (winding (triangle u v w) p ≡ pos 1)
    triangle_values off = go (place_of u v w left p at_p)
      where
        go : Place u v w p → (winding (triangle u v w) p ≡ pos 0) ⊎ (winding (triangle u v w) p ≡ pos 1)
        go (inside i) = inr (winding_inside u v w p at_p i)
        go (outside o) = inl (winding_outside o)
        go (on_border t (on_first on)) = absurd (off (inl on))
        go (on_border t (on_second on)) = absurd (off (inr (inl on)))
        go (on_border t (on_third on)) = absurd (off (inr (inr (inl on))))

-- a point on a side is on some edge
on_some_of_side : (u v w : Point) (p : Triple) → IsOnSide u v w p → IsOnSome (triangle u v w) p
on_some_of_side u v w p (on_first on) = inl on
on_some_of_side u v w p (on_second on) = inr (inl on)
on_some_of_side u v w p (on_third on) = inr (inr (inl on))

module _ (u v w : Point) (left : IsLeft (whole u) (whole v) (whole w)) (p : Triple) (at_p : IsPoint p) where
  -- a point in the ring is in the closed triangle,
  pub in_triangle_of_in : IsIn (u ∷ v ∷ w ∷ []) p → IsInTriangle u v w p
  in_triangle_of_in h = elim (place_of u v w left p at_p) [
    | inside i ↦ in_triangle u v w p (weak i.left_of_first) (weak i.left_of_second) (weak i.left_of_third)
    | on_border t s ↦ t
    | outside o ↦
        absurd (not_in_from_even (u ∷ v ∷ w ∷ []) p (pos 0) (λ on. outside_not_in u v w p o (on_sides_in u v w left p at_p on))
        (winding_outside u v w left p at_p o) h)
  ]

  -- and the other way round
  pub in_of_in_triangle : IsInTriangle u v w p → IsIn (u ∷ v ∷ w ∷ []) p
  in_of_in_triangle t = elim (place_of u v w left p at_p) [
    | inside i ↦ in_from_odd (u ∷ v ∷ w ∷ []) p (pos 0) (winding_inside u v w p at_p i)
    | on_border t s ↦ inl (on_some_of_side u v w p s)
    | outside o ↦ absurd (outside_not_in u v w p o t)
  ]
