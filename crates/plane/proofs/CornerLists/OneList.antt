-- Two corner lists of one set have the same corners in the same order.
use Rattle.std.proofs.Common.{◌≡◌, inl, inr, refl, ℕ, zero, suc, ◌+◌, ◌-◌, ◌<◌, ◌≤◌, List, [], ◌∷◌, length, arith}
use Rattle.std.proofs.lemmas.Bool.{cases_lt, cases_order}
use Rattle.integer_algebra.proofs.SignSteps.{not_both, not_both_positive, zero_not_negative, zero_not_positive}
use Rattle.plane.proofs.CornerLists.PolygonCorners.{IsNext, corner_right_of_none, first_is_least, left_of_side, polygon_side}
use Rattle.plane.proofs.CornerLists.SidesOfSets.{IsLeast, IsSide, least_agree, sides_agree}
use Rattle.plane.proofs.Order.{NotAfter, not_after_from, not_after_of_same, not_after_trans}
use Rattle.plane.proofs.Points.{same_refl, same_sym, same_trans}
use Rattle.plane.proofs.Segments.{on_first_end, on_is_straight, on_last_end, on_not_before, same_straight, straight_on}
use Rattle.plane.proofs.Turns.{determinant_same_ends, straight_shift}
use Rattle.plane.specs.Prelude.{IsPoint, IsSame, IsStraight, On, Triple}
use Rattle.plane.specs.Region.{AreCorners, IsCornerList, IsInRegion, IsRightOfNone, corner_at}

-- two lists of the same corners in the same order
pub record AreSameCorners (c d : List Triple) : Type 0 where
  pub one_length : length c ≡ length d
  pub same_corner : (i : ℕ) → i < length c → IsSame (corner_at c i) (corner_at d i)

-- ---- corners of one list

-- each corner is in the region,
in_region : (c : List Triple) → AreCorners c → (i : ℕ) → i < length c → IsInRegion c (corner_at c i)
in_region [] are i h = absurd (omega arith)
in_region (a ∷ []) are zero h = same_refl a
in_region (a ∷ []) are (suc i) h = absurd (omega arith)
in_region (a ∷ b ∷ []) are zero h = on_first_end a b
in_region (a ∷ b ∷ []) are (suc zero) h = on_last_end a b
in_region (a ∷ b ∷ []) are (suc (suc i)) h = absurd (omega arith)
in_region (a ∷ b ∷ e ∷ c) are i h = corner_right_of_none (a ∷ b ∷ e ∷ c) are (omega arith) i h

module _ (set : Triple → Type 0) (c : List Triple) (list : IsCornerList set c) where
  -- so it is in the set
  corner_in : (i : ℕ) → i < length c → set (corner_at c i)
  corner_in i h = (list.exact (corner_at c i) (list.are_corners.rational i h)).0 (in_region c list.are_corners i h)

-- three corners of a polygon are not on one line
not_in_line : (c : List Triple) → AreCorners c → 3 ≤ length c → ¬ IsStraight (corner_at c 0) (corner_at c 1) (corner_at c 2)
not_in_line c are three straight =
    let left = left_of_side c are three 0 1 2 (omega arith) (omega arith) (omega arith) (inl refl) (λ e. omega arith) (λ e. omega arith) in
    not_both_positive left (zero_not_positive straight)

-- the first two corners differ
first_two_differ : (c : List Triple) → AreCorners c → 2 ≤ length c → ¬ IsSame (corner_at c 0) (corner_at c 1)
first_two_differ c are two same = elim (cases_lt 2 (length c)) [
  | inr end ↦ are.different (omega arith) same
  | inl three ↦
      let at = are.rational 1 (omega arith) in
      let a = corner_at c 0 in
      let b = corner_at c 1 in
      let e = corner_at c 2 in
      -- the third would be in line with them
      let flat = same_straight b e a b at same (determinant_same_ends b e) in
      not_in_line c are three (straight_shift e a b (straight_shift b e a flat))
]

-- no corner of a polygon but the first is the first
not_first_again : (c : List Triple) → AreCorners c → (i : ℕ) → 3 ≤ i → i < length c → ¬ IsSame (corner_at c 0) (corner_at c i)
not_first_again c are i far h same =
    let three : 3 ≤ length c = omega arith in
    let a = corner_at c 0 in
    let b = corner_at c 1 in
    let left = left_of_side c are three 0 1 i (omega arith) (omega arith) h (inl refl) (λ e. omega arith) (λ e. omega arith) in
    not_both_positive left
    (zero_not_positive (same_straight a b (corner_at c i) a (are.rational 0 (omega arith)) (same_sym same) (determinant_same_ends a b)))

-- ---- the least point

-- the first corner is the least point of the region
least_in_region : (c : List Triple) → AreCorners c → (p : Triple) → IsPoint p → IsInRegion c p → NotAfter (corner_at c 0) p
least_in_region [] are p at none = absurd none
least_in_region (a ∷ []) are p at same = not_after_of_same a p (same_sym same)
least_in_region (a ∷ b ∷ []) are p at on =
    let at_a = are.rational 0 (omega arith) in
    let at_b = are.rational 1 (omega arith) in
    elim (on_not_before p a b at at_a at_b on) [
      | inl h ↦ h
      | inr h ↦ not_after_trans a b p at_a at_b at (not_after_from a b (are.least 1 (omega arith))) h
    ]
least_in_region (a ∷ b ∷ e ∷ c) are p at none = first_is_least (a ∷ b ∷ e ∷ c) are (omega arith) p at none

-- ---- two lists

module _ (set : Triple → Type 0) where
  -- so it is the least of the set
  least_corner : (c : List Triple) → IsCornerList set c → 0 < length c → IsLeast set (corner_at c 0)
  least_corner c list some = record {
    in_set = corner_in set c list 0 some;
    rational = list.are_corners.rational 0 some;
    not_after = λ p at h. least_in_region c list.are_corners p at ((list.exact p at).1 h);
  }

  -- a side of the region is one of the set
  side_of_set : (region : Triple → Type 0) → ((p : Triple) → IsPoint p → region p → set p) → ((p : Triple) → IsPoint p → set p → region p)
      → (a b : Triple) → IsSide region a b → IsSide set a b
  side_of_set region to back a b side = record {
    first_rational = side.first_rational;
    last_rational = side.last_rational;
    last_in_set = to b side.last_rational side.last_in_set;
    none_right = λ p at h. side.none_right p at (back p at h);
    on_line = λ p at h. side.on_line p at (back p at h);
  }

  -- ---- polygons

  -- in a list of three corners or more the ways from each corner to the next are sides
  corner_side : (c : List Triple) → IsCornerList set c → 3 ≤ length c → (i j : ℕ) → i < length c → j < length c → IsNext (length c) i j
      → IsSide set (corner_at c i) (corner_at c j)
  corner_side [] list three i j in_i in_j next = absurd (omega arith)
  corner_side (a ∷ []) list three i j in_i in_j next = absurd (omega arith)
  corner_side (a ∷ b ∷ []) list three i j in_i in_j next = absurd (omega arith)
  corner_side (a ∷ b ∷ e ∷ c) list three i j in_i in_j next =
      let all = a ∷ b ∷ e ∷ c in
      side_of_set (IsRightOfNone all) (λ p at. (list.exact p at).0) (λ p at. (list.exact p at).1) (corner_at all i) (corner_at all j)
      (polygon_side all list.are_corners three i j in_i in_j next)

  module _ (c d : List Triple) (one : IsCornerList set c) (other : IsCornerList set d) (three : 3 ≤ length c)
      (three_too : 3 ≤ length d) where
    -- two polygons of one set have the same corners,
    same_corners : (i : ℕ) → i < length c → i < length d → IsSame (corner_at c i) (corner_at d i)
    same_corners zero in_c in_d = least_agree set (corner_at c 0) (corner_at d 0) (least_corner c one in_c) (least_corner d other in_d)
    same_corners (suc i) in_c in_d =
        let next : i + 1 ≡ suc i = omega arith in
        let side = corner_side c one three i (suc i) (omega arith) in_c (inl next) in
        let side_too = corner_side d other three_too i (suc i) (omega arith) in_d (inl next) in
        sides_agree set (corner_at c i) (corner_at c (suc i)) (corner_at d i) (corner_at d (suc i)) side side_too
        (same_corners i (omega arith) (omega arith))

    -- and the second has no more of them
    no_more_corners : ¬ (length c < length d)
    no_more_corners more =
        let n : ℕ = length c in
        let last : ℕ = n - 1 in
        let next : last + 1 ≡ n = omega arith in
        let side = corner_side c one three last 0 (omega arith) (omega arith) (inr (next, refl)) in
        let side_too = corner_side d other three_too last n (omega arith) more (inl next) in
        let again = sides_agree set (corner_at c last) (corner_at c 0) (corner_at d last) (corner_at d n) side side_too
        (same_corners last (omega arith) (omega arith)) in
        let first = same_corners 0 (omega arith) (omega arith) in
        not_first_again d other.are_corners n three more
        (same_trans (one.are_corners.rational 0 (omega arith)) (same_sym first) again)

  -- so they are one list
  one_polygon : (c d : List Triple) → IsCornerList set c → IsCornerList set d → 3 ≤ length c → 3 ≤ length d → AreSameCorners c d
  one_polygon c d one other three three_too = elim (cases_order (length c) (length d)) [
    | inl e ↦ record { one_length = e; same_corner = λ i h. same_corners c d one other three three_too i h (omega arith) }
    | inr (inl less) ↦ absurd (no_more_corners c d one other three three_too less)
    | inr (inr more) ↦ absurd (no_more_corners d c other one three_too three more)
  ]

  -- ---- flat regions

  -- a flat region has no list with more corners
  no_fewer : (c d : List Triple) → IsCornerList set c → IsCornerList set d → length c < 3 → ¬ (length c < length d)
  no_fewer [] d one other flat less =
      let at = other.are_corners.rational 0 less in
      (one.exact (corner_at d 0) at).1 (corner_in set d other 0 less)
  no_fewer (a ∷ []) d one other flat less =
      let at = λ (i : ℕ) (h : i < length d). (one.exact (corner_at d i) (other.are_corners.rational i h)).1 (corner_in set d other i h) in
      first_two_differ d other.are_corners (omega arith)
      (same_trans (one.are_corners.rational 0 (omega arith)) (at 0 (omega arith)) (same_sym (at 1 (omega arith))))
  no_fewer (a ∷ b ∷ []) d one other flat less =
      let at = λ (i : ℕ) (h : i < length d). (one.exact (corner_at d i) (other.are_corners.rational i h)).1 (corner_in set d other i h) in
      let rational = other.are_corners.rational in
      not_in_line d other.are_corners less
      (straight_on (corner_at d 0) (corner_at d 1) (corner_at d 2) a b (rational 0 (omega arith)) (rational 1 (omega arith))
      (rational 2 less) (one.are_corners.rational 0 (omega arith)) (one.are_corners.rational 1 (omega arith)) (at 0 (omega arith))
      (at 1 (omega arith)) (at 2 less))
  no_fewer (a ∷ b ∷ e ∷ c) d one other flat less = omega arith

  -- a segment is a side of itself
  own_side : (c : List Triple) → IsCornerList set c → length c ≡ 2 → IsSide set (corner_at c 0) (corner_at c 1)
  own_side [] list two = absurd (omega arith)
  own_side (a ∷ []) list two = absurd (omega arith)
  own_side (a ∷ b ∷ []) list two =
      let at_a = list.are_corners.rational 0 (omega arith) in
      let at_b = list.are_corners.rational 1 (omega arith) in
      side_of_set (λ p. On p a b) (λ p at. (list.exact p at).0) (λ p at. (list.exact p at).1) a b (record {
        first_rational = at_a;
        last_rational = at_b;
        last_in_set = on_last_end a b;
        none_right = λ p at on right. not_both right (zero_not_negative (on_is_straight p a b at at_a at_b on));
        on_line = λ p at on straight. on;
      })
  own_side (a ∷ b ∷ e ∷ c) list two = absurd (omega arith)

  -- two flat lists of as many corners are one
  one_flat : (c d : List Triple) → IsCornerList set c → IsCornerList set d → length c < 3 → length c ≡ length d
      → (i : ℕ) → i < length c → IsSame (corner_at c i) (corner_at d i)
  one_flat c d one other flat long zero h =
      least_agree set (corner_at c 0) (corner_at d 0) (least_corner c one h) (least_corner d other (omega arith))
  one_flat c d one other flat long (suc zero) h =
      let first = least_agree set (corner_at c 0) (corner_at d 0) (least_corner c one (omega arith)) (least_corner d other (omega arith)) in
      sides_agree set (corner_at c 0) (corner_at c 1) (corner_at d 0) (corner_at d 1) (own_side c one (omega arith))
      (own_side d other (omega arith)) first
  one_flat c d one other flat long (suc (suc i)) h = absurd (omega arith)

-- two corner lists of one set have the same corners in the same order
pub corners_are_one : (set : Triple → Type 0) (c d : List Triple) → IsCornerList set c → IsCornerList set d → AreSameCorners c d
corners_are_one set c d one other = elim (cases_lt (length c) 3) [
  | inr three ↦ elim (cases_lt (length d) 3) [
    | inr three_too ↦ one_polygon set c d one other (omega arith) (omega arith)
    | inl flat ↦ absurd (no_fewer set d c other one flat (omega arith))
  ]
  | inl flat ↦ elim (cases_order (length c) (length d)) [
    | inl e ↦ record { one_length = e; same_corner = one_flat set c d one other flat e }
    | inr (inl less) ↦ absurd (no_fewer set c d one other flat less)
    | inr (inr more) ↦ absurd (no_fewer set d c other one (omega arith) more)
  ]
]
