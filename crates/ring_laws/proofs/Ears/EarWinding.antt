-- The ring without an ear winds once round the points just beyond the ear's base.
-- A ring with an ear: where the ring without the ear winds round each point not at all or once, so does the ring.
use Rattle.std.proofs.Common.{◌≡◌, ◌⊎◌, inl, inr, [], ◌∷◌, refl, ap, ◌∙◌, le_refl, ℕ, List, ℤ, pos, ◌+ℤ◌, ◌-ℤ◌, ◌≤ℤ◌, arith, neg_ℤ}
use Rattle.std.proofs.lemmas.Int.{ints}
use Rattle.integer_algebra.proofs.Polynomial.{lit, var, ◌⊕◌, ◌⊖◌, same_value}
use Rattle.integer_algebra.proofs.SignSteps.{not_both_positive, zero_not_positive, not_both, turned_negative, weak, zero_not_negative}
use Rattle.plane.proofs.Nearness.{left_toward, positive_at, toward, toward_is_point, right_toward, toward_on}
use Rattle.plane.proofs.Points.{same_refl, same_sym, same_trans, whole_is_point}
use Rattle.plane.proofs.Segments.{combination_is_straight, on_is_straight, on_last_end, on_reversed, middle, middle_first, middle_is_point}
use Rattle.plane.proofs.Segments.{middle_last, middle_on, middle_within, first_end_on_line}
use Rattle.plane.proofs.Turns.{straight_swap_first, written_determinant, determinant_swap_first}
use Rattle.plane.specs.Prelude.{determinant, IsInTriangle, IsLeft, IsPoint, IsRight, IsSame, On, Point, Triple, whole}
use Rattle.rings.proofs.Crossings.{winding_law, crossing_reversed}
use Rattle.rings.proofs.Vertices.{AllEnds, misses_eventually}
use Rattle.rings.specs.Across.{Misses}
use Rattle.rings.specs.Prelude.{crossing, Edge, edge, growth, IsClosed, IsOnSome, winding}
use Rattle.ring_laws.proofs.Ears.EarBase.{base_differs, on_others_straight, tip_is_right, winding_at_tip, winding_below}
use Rattle.ring_laws.proofs.Ears.UpToOne.{none_and, one_and_none}
use Rattle.ring_laws.proofs.Triangles.{across_edge, on_sides_in, between_in_triangle, left_at_first, middle_in_triangle, IsBeyond, IsInside}
use Rattle.ring_laws.proofs.Triangles.{Place, inside, on_border, on_first, on_second, on_third, outside, outside_not_in, place_of, triangle}
use Rattle.ring_laws.proofs.Triangles.{winding_inside, winding_outside, in_triangle}

-- ---- the other side of the base

-- the corner opposite the tip, across the base
abbrev opposite : Point → Point → Point → Point
opposite u v w = record { x = u.x +ℤ w.x -ℤ v.x; y = u.y +ℤ w.y -ℤ v.y }

-- it is as far to the left of the base as the tip to the right
opposite_side : (u v w : Point) → determinant (whole u) (whole w) (whole (opposite u v w)) ≡ determinant (whole u) (whole v) (whole w)
opposite_side u v w =
    let one = lit (pos 1) in
    same_value (written_determinant (var 0) (var 1) one (var 4) (var 5) one (var 0 ⊕ var 4 ⊖ var 2) (var 1 ⊕ var 5 ⊖ var 3) one)
    (written_determinant (var 0) (var 1) one (var 2) (var 3) one (var 4) (var 5) one)
    (u.x ∷ u.y ∷ v.x ∷ v.y ∷ w.x ∷ w.y ∷ []) refl

-- a number is 0 or s, and 1, so s is 1
one_of : (z s : ℤ) → z ≡ pos 0 +ℤ pos 1 → (z ≡ pos 0) ⊎ (z ≡ s) → s ≡ pos 1
one_of z s e (inl h) = absurd (omega (arith, ints))
one_of z s e (inr h) = omega (arith, ints)

-- ---- beyond the base

-- the edges es close the base; no end is left of the tip in x, and no edge enters the triangle
module _ (u v w : Point) (es : List Edge) (left : IsLeft (whole u) (whole v) (whole w)) (closed : IsClosed (edge u w ∷ es))
    (least : AllEnds (λ a. v.x ≤ℤ a.x) (edge u w ∷ es))
    (outside : (x : Triple) → IsPoint x → IsOnSome es x → IsInTriangle u v w x → IsSame x (whole u) ⊎ IsSame x (whole w)) where
  -- the middle of the base is in the triangle,
  middle_in : IsInTriangle u v w (middle u w)
  middle_in =
      on_sides_in u v w left (middle u w) (middle_is_point u w)
      (inr (inr (inl (on_reversed (middle u w) (whole u) (whole w) (middle_on u w)))))

  -- and the others that are the same as it are on no other edge
  off_middle : (x : Triple) → IsPoint x → IsInTriangle u v w x → IsSame x (middle u w) → ¬ (IsOnSome es x)
  off_middle x at_x t same on = elim (outside x at_x on t) [
    | inl s ↦ base_differs u v w left (middle_first u w (same_trans at_x (same_sym same) s))
    | inr s ↦ base_differs u v w left (middle_last u w (same_trans at_x (same_sym same) s))
  ]

  -- from the middle to the tip no other edge is met
  misses_to_tip : Misses (middle u w) (whole v) es
  misses_to_tip x at_x on h =
      let m = middle u w in
      let at_m = middle_is_point u w in
      let t = between_in_triangle u v w x m (whole v) at_x at_m (whole_is_point v) middle_in (middle_in_triangle u v w left) on in
      let straight = on_others_straight u v w es left closed least outside x at_x h t in
      let same = first_end_on_line x m (whole v) (whole w) (whole u) at_x at_m (whole_is_point v) on
      (straight_swap_first (whole u) (whole w) m (on_is_straight m (whole u) (whole w) at_m (whole_is_point u) (whole_is_point w) (middle_on u w)))
      (left_at_first u v w left) (zero_not_positive (straight_swap_first (whole u) (whole w) x straight)) in
      off_middle x at_x t same h

  -- the corner opposite the tip is on the other side
  opposite_left : IsLeft (whole u) (whole w) (whole (opposite u v w))
  opposite_left = positive_at (opposite_side u v w) left

  -- so where the winding number is 0 or s at all points on no edge, s is 1
  pub sign_is_one : (s : ℤ) → ((p : Triple) → IsPoint p → ¬ (IsOnSome (edge u w ∷ es) p)
      → (winding (edge u w ∷ es) p ≡ pos 0) ⊎ (winding (edge u w ∷ es) p ≡ s)) → s ≡ pos 1
  sign_is_one s values =
      let m = middle u w in
      let c = whole (opposite u v w) in
      let at_m = middle_is_point u w in
      let at_c = whole_is_point (opposite u v w) in
      let near = misses_eventually m c at_m at_c es (off_middle m at_m middle_in (same_refl m)) in
      let n : ℕ = near.start in
      let q = toward m c n in
      let at_q = toward_is_point m c at_m at_c n in
      let misses = near.from_start n (le_refl n) in
      let straight = combination_is_straight m (whole u) (whole w) (middle_within u w).combination in
      let q_left = left_toward (whole u) (whole w) m c straight opposite_left n in
      let off : ¬ (IsOnSome (edge u w ∷ es) q) = λ h. elim h [
        | inl on ↦
            not_both_positive q_left
            (zero_not_positive (on_is_straight q (whole u) (whole w) at_q (whole_is_point u) (whole_is_point w) on))
        | inr on ↦ misses q at_q (on_last_end m q) on
      ] in
      let rises = across_edge (edge u w) m q (whole v) at_m at_q (whole_is_point v) (middle_within u w) q_left
      (tip_is_right u v w left) es closed misses misses_to_tip in
      one_of _ s (rises ∙ ap (λ z. z +ℤ pos 1) (winding_at_tip u v w es left closed least outside)) (values q at_q off)

-- ---- sums

-- the growth along two sides and the others, from the growth along the base and the others
growth_sum : (gu gv gw g : ℤ) → (gw -ℤ gu) +ℤ g ≡ pos 0 → (gv -ℤ gu) +ℤ ((gw -ℤ gv) +ℤ g) ≡ pos 0
growth_sum gu gv gw g e = omega (arith, ints)

-- a side and its opposite cancel
cancel_sides : (a b c d n : ℤ) → d ≡ neg_ℤ c → a +ℤ (b +ℤ n) ≡ (a +ℤ (b +ℤ (d +ℤ pos 0))) +ℤ (c +ℤ n)
cancel_sides a b c d n e = omega (arith, ints)

-- with two sides in place of the base, the edges are closed
ear_closed : (u v w : Point) (es : List Edge) → IsClosed (edge u w ∷ es) → IsClosed (edge u v ∷ edge v w ∷ es)
ear_closed u v w es closed g = growth_sum (g u) (g v) (g w) (growth g es) (closed g)

-- and wind round a point as the triangle and the ring without the ear do together
ear_winding : (u v w : Point) (es : List Edge) (p : Triple)
    → winding (edge u v ∷ edge v w ∷ es) p ≡ winding (triangle u v w) p +ℤ winding (edge u w ∷ es) p
ear_winding u v w es p =
    cancel_sides (crossing (edge u v) p) (crossing (edge v w) p) (crossing (edge u w) p) (crossing (edge w u) p) (winding es p)
    (crossing_reversed (edge u w) p)

-- ---- the ring with the ear

module _ (u v w : Point) (es : List Edge) (left : IsLeft (whole u) (whole v) (whole w)) (closed : IsClosed (edge u w ∷ es))
    (least : AllEnds (λ a. v.x ≤ℤ a.x) (edge u w ∷ es))
    (enters_not : (x : Triple) → IsPoint x → IsOnSome es x → IsInTriangle u v w x → IsSame x (whole u) ⊎ IsSame x (whole w))
    (s : ℤ) (values : (p : Triple) → IsPoint p → ¬ (IsOnSome (edge u w ∷ es) p)
    → (winding (edge u w ∷ es) p ≡ pos 0) ⊎ (winding (edge u w ∷ es) p ≡ s)) where
  -- without the ear the values are 0 and 1
  zero_or_one : (p : Triple) → IsPoint p → ¬ (IsOnSome (edge u w ∷ es) p)
      → (winding (edge u w ∷ es) p ≡ pos 0) ⊎ (winding (edge u w ∷ es) p ≡ pos 1)
  zero_or_one p at_p off = elim (values p at_p off) [
    | inl e ↦ inl e
    | inr e ↦ inr (e ∙ sign_is_one u v w es left closed least enters_not s values)
  ]

  module _ (p : Triple) (at_p : IsPoint p) (off : ¬ (IsOnSome (edge u v ∷ edge v w ∷ es) p)) where
    -- inside the ear the value is 1,
    at_inside : IsInside u v w p → winding (edge u v ∷ edge v w ∷ es) p ≡ pos 1
    at_inside i =
        let t = in_triangle u v w p (weak i.left_of_first) (weak i.left_of_second) (weak i.left_of_third) in
        one_and_none _ _ _ (ear_winding u v w es p) (winding_inside u v w p at_p i)
        (winding_below u v w es left closed least enters_not p at_p t
        (turned_negative (determinant_swap_first (whole w) (whole u) p) i.left_of_third))

    -- and so it is right of the base in the closed ear,
    right_of_base : IsInTriangle u v w p → IsRight (whole u) (whole w) p → winding (edge u v ∷ edge v w ∷ es) p ≡ pos 1
    right_of_base t right = go (place_of u v w left p at_p)
      where
        go : Place u v w p → winding (edge u v ∷ edge v w ∷ es) p ≡ pos 1
        go (inside i) = at_inside i
        go (outside o) = absurd (outside_not_in u v w p o t)
        go (on_border k (on_first on)) = absurd (off (inl on))
        go (on_border k (on_second on)) = absurd (off (inr (inl on)))
        go (on_border k (on_third on)) =
            absurd (not_both right (zero_not_negative (on_is_straight p (whole u) (whole w) at_p (whole_is_point u) (whole_is_point w)
            (on_reversed p (whole w) (whole u) on))))

    -- outside the ear it is that without the ear
    at_outside : IsBeyond u v w p
        → (winding (edge u v ∷ edge v w ∷ es) p ≡ pos 0) ⊎ (winding (edge u v ∷ edge v w ∷ es) p ≡ pos 1)
    at_outside o =
        let not_on : ¬ (IsOnSome (edge u w ∷ es) p) = λ h. elim h [
          | inl on ↦
              outside_not_in u v w p o (on_sides_in u v w left p at_p (inr (inr (inl (on_reversed p (whole u) (whole w) on)))))
          | inr on ↦ off (inr (inr on))
        ] in
        none_and _ _ _ (ear_winding u v w es p) (winding_outside u v w left p at_p o) (zero_or_one p at_p not_on)

  -- on the base it is that of a near point inside the ear
  on_base : (p : Triple) → IsPoint p → ¬ (IsOnSome (edge u v ∷ edge v w ∷ es) p) → IsInTriangle u v w p
      → On p (whole u) (whole w) → winding (edge u v ∷ edge v w ∷ es) p ≡ pos 1
  on_base p at_p off t on =
      let at_v = whole_is_point v in
      let near = misses_eventually p (whole v) at_p at_v (edge u v ∷ edge v w ∷ es) off in
      let n : ℕ = near.start in
      let q = toward p (whole v) n in
      let at_q = toward_is_point p (whole v) at_p at_v n in
      let misses = near.from_start n (le_refl n) in
      let straight = on_is_straight p (whole u) (whole w) at_p (whole_is_point u) (whole_is_point w) on in
      winding_law p q at_p at_q (edge u v ∷ edge v w ∷ es) (ear_closed u v w es closed) misses
      ∙ right_of_base q at_q (misses q at_q (on_last_end p q))
      (between_in_triangle u v w q p (whole v) at_q at_p at_v t (middle_in_triangle u v w left) (toward_on p (whole v) at_p at_v n))
      (right_toward (whole u) (whole w) p (whole v) straight (tip_is_right u v w left) n)

  -- the ring with the ear winds round each point not at all, or once
  pub ear_values : (p : Triple) → IsPoint p → ¬ (IsOnSome (edge u v ∷ edge v w ∷ es) p)
      → (winding (edge u v ∷ edge v w ∷ es) p ≡ pos 0) ⊎ (winding (edge u v ∷ edge v w ∷ es) p ≡ pos 1)
  ear_values p at_p off = go (place_of u v w left p at_p)
    where
      go : Place u v w p → (winding (edge u v ∷ edge v w ∷ es) p ≡ pos 0) ⊎ (winding (edge u v ∷ edge v w ∷ es) p ≡ pos 1)
      go (inside i) = inr (at_inside p at_p off i)
      go (outside o) = at_outside p at_p off o
      go (on_border k (on_first on)) = absurd (off (inl on))
      go (on_border k (on_second on)) = absurd (off (inr (inl on)))
      go (on_border k (on_third on)) = inr (on_base p at_p off k (on_reversed p (whole w) (whole u) on))
