-- The way from a corner of a triangle to the end in it that is farthest from the opposite side meets the edges only at its ends.
use Rattle.std.proofs.Common.{◌≡◌, ◌⊎◌, inl, inr, refl, sym, subst, List, ℤ, pos, ◌+ℤ◌, ◌-ℤ◌, ◌*ℤ◌, neg_ℤ, ◌<ℤ◌, ◌≤ℤ◌, arith}
use Rattle.std.proofs.lemmas.Int.{ints}
use Rattle.integer_algebra.proofs.SignSteps.{at_least_unless, mean_last_positive, mean_not_negative, mean_not_positive, not_below, not_both}
use Rattle.integer_algebra.proofs.SignSteps.{not_both_positive, positive_not_zero, weak, zero_not_negative}
use Rattle.integer_algebra.proofs.Signs.{factor_positive, is_negative, is_positive, is_zero, lt_or_le, mul_positive, sign}
use Rattle.integer_algebra.proofs.Weights.{offset_along, offset_from_last}
use Rattle.plane.proofs.Points.{same_whole, whole_is_point}
use Rattle.plane.proofs.Segments.{combination_is_straight, on_last_end, on_same_point, same_without_first, same_without_last}
use Rattle.plane.proofs.Turns.{areas_add, determinant_same_ends, determinant_same_last, determinant_shift, determinant_swap_first, IsCombination}
use Rattle.plane.proofs.Turns.{combination_of_ends, determinant_along}
use Rattle.plane.specs.Prelude.{height_over, IsInTriangle, IsLeft, IsPoint, IsSame, Point, Triple, whole}
use Rattle.rings.specs.Apart.{AreApart, IsCommonEnd, MeetAtEnds}
use Rattle.rings.specs.Edge.{Edge, HasEdge, HasEnd, IsOn}
use Rattle.ring_laws.proofs.Triangles.SidesAtVertex.{end_is_on, at_first, at_last, at_middle, end_of_other, way_out}
use Rattle.ring_laws.proofs.Triangles.Triangles.{height_of_first, height_of_last, height_of_middle, in_or_not, left_of_first, left_of_second}

-- ---- numbers

-- a part of an area that has another part is less than the area
less_than_area : (a b c h d : ℤ) → b -ℤ c +ℤ a -ℤ d ≡ pos 0 → h ≡ neg_ℤ c → pos 0 <ℤ a → pos 0 <ℤ b → h <ℤ d
less_than_area a b c h d e f ha hb = omega (arith, ints)

-- a mean of a number and a smaller one, where the first has weight, is above the second
above_last : (k l m X W u s : ℤ) → k *ℤ X ≡ l *ℤ u +ℤ m *ℤ s → k *ℤ W ≡ l *ℤ pos 1 +ℤ m *ℤ pos 1 → pos 0 <ℤ k → pos 0 <ℤ l → s <ℤ u
    → pos 0 <ℤ (X -ℤ s *ℤ W)
above_last k l m X W u s e f hk hl h =
    let up = mul_positive l (u -ℤ s) hl (omega (arith, ints)) in
    factor_positive k (X -ℤ s *ℤ W) hk (omega (arith, ints, offset_from_last k l m X W u s e f, up))

-- where a mean is above a number, one of its two numbers is
one_above : (k l m X W u s n : ℤ) → k *ℤ X ≡ l *ℤ u +ℤ m *ℤ s → k *ℤ W ≡ l *ℤ pos 1 +ℤ m *ℤ pos 1 → pos 0 <ℤ k → pos 0 ≤ℤ l → pos 0 ≤ℤ m
    → pos 0 <ℤ (X -ℤ n *ℤ W) → (n <ℤ u) ⊎ (n <ℤ s)
one_above k l m X W u s n e f hk hl hm h = elim (lt_or_le n u) [
  | inl first ↦ inl first
  | inr no_first ↦ elim (lt_or_le n s) [
    | inl last ↦ inr last
    | inr no_last ↦
        let offset = offset_along k l m X W u s e f n in
        absurd (not_both_positive h (mean_not_positive k l m _ _ _ hk hl hm offset (omega (arith, ints)) (omega (arith, ints))))
  ]
]

-- a number above one that is not negative is positive
positive_above : {g h : ℤ} → pos 0 ≤ℤ g → g <ℤ h → pos 0 <ℤ h
positive_above p q = omega (arith, ints)

-- ---- the farthest end

module _ (es : List Edge) (apart : AreApart es) (u v w : Point) (left : IsLeft (whole u) (whole v) (whole w))
    (first : HasEdge es (record { from = u; to = v })) (second : HasEdge es (record { from = v; to = w }))
    (z : Point) (z_inside : IsInTriangle u v w (whole z)) (not_u : ¬ (z ≡ u)) (not_v : ¬ (z ≡ v)) (not_w : ¬ (z ≡ w))
    (f : Edge) (has_f : HasEdge es f) (z_end : HasEnd f z) where
  -- z is strictly left of the first side,
  pub first_piece_turns : IsLeft (whole u) (whole v) (whole z)
  first_piece_turns =
      left_of_first u v w left (whole z) (whole_is_point z) z_inside
      (λ on. elim (end_of_other es apart f (record { from = u; to = v }) has_f first z z_end on) [
        | inl h ↦ not_u (sym h)
        | inr h ↦ not_v (sym h)
      ])

  -- and of the second
  left_of_other : IsLeft (whole v) (whole w) (whole z)
  left_of_other =
      left_of_second u v w left (whole z) (whole_is_point z) z_inside
      (λ on. elim (end_of_other es apart f (record { from = v; to = w }) has_f second z z_end on) [
        | inl h ↦ not_v (sym h)
        | inr h ↦ not_w (sym h)
      ])

  -- so the turn over v from z to w is left too
  pub second_piece_turns : IsLeft (whole z) (whole v) (whole w)
  second_piece_turns = rw (← determinant_shift (whole z) (whole v) (whole w)) left_of_other

  -- z is not as high as v
  pub below_middle : height_over u w (whole z) <ℤ height_over u w (whole v)
  below_middle =
      rw (height_of_middle u v w)
      (less_than_area _ _ _ _ _ (areas_add u v w z) (determinant_swap_first (whole u) (whole w) (whole z)) first_piece_turns left_of_other)

  -- a point on the way from v to z, by its weights
  module _ (x : Triple) (c : IsCombination x (whole v) (whole z)) where
    -- off v it is strictly left of the first side,
    way_left_of_first : pos 0 <ℤ c.m → IsLeft (whole u) (whole v) x
    way_left_of_first some =
        mean_last_positive c.k c.l c.m _ _ _ c.k_positive c.l_nonnegative some (determinant_along x (whole v) (whole z) c (whole u) (whole v))
        (zero_not_negative (determinant_same_last (whole u) (whole v))) first_piece_turns

    -- and of the second
    way_left_of_second : pos 0 <ℤ c.m → IsLeft (whole v) (whole w) x
    way_left_of_second some =
        mean_last_positive c.k c.l c.m _ _ _ c.k_positive c.l_nonnegative some (determinant_along x (whole v) (whole z) c (whole v) (whole w))
        (zero_not_negative (determinant_same_ends (whole v) (whole w))) left_of_other

    -- and not below the third
    way_not_low : pos 0 ≤ℤ height_over u w x
    way_not_low =
        let z_high = at_least_unless z_inside.not_right_of_third in
        mean_not_negative c.k c.l c.m _ _ _ c.k_positive c.l_nonnegative c.m_nonnegative
        (determinant_along x (whole v) (whole z) c (whole w) (whole u)) (weak (positive_above z_high below_middle)) z_high

  module _ (at_v : (e : Edge) → HasEdge es e → HasEnd e v → (e ≡ record { from = u; to = v }) ⊎ (e ≡ record { from = v; to = w }))
      (farthest : (e : Edge) → HasEdge es e → (y : Point) → HasEnd e y → IsInTriangle u v w (whole y)
      → (y ≡ u) ⊎ (y ≡ v) ⊎ (y ≡ w) ⊎ (height_over u w (whole y) ≤ℤ height_over u w (whole z))) where
    module _ (e : Edge) (has : HasEdge es e) (x : Triple) (at_x : IsPoint x) (on_edge : IsOn e x)
        (c : IsCombination x (whole v) (whole z)) where
      -- where x is an end of the way
      at_end : (g : Edge) → HasEdge es g → (p : Point) → HasEnd g p → IsSame x (whole p) → HasEnd (record { from = v; to = z }) p
          → IsCommonEnd e (record { from = v; to = z }) x
      at_end g has_g p end same of_way = record {
        end = p;
        of_first = end_of_other es apart g e has_g has p end (on_same_point at_x same on_edge);
        of_second = of_way;
        same = same;
      }

      -- the first
      at_middle_end : c.m ≡ pos 0 → IsCommonEnd e (record { from = v; to = z }) x
      at_middle_end none =
          at_end (record { from = u; to = v }) first v (inr refl) (same_without_last x (whole v) (whole z) c none) (inl refl)

      -- an edge with the end v has no other point of the way
      not_beyond : HasEnd e v → ¬ (pos 0 <ℤ c.m)
      not_beyond end some = elim (at_v e has end) [
        | inl same ↦
            let on = combination_of_ends x u v at_x (subst (λ (g : Edge). IsOn g x) same on_edge) in
            positive_not_zero (way_left_of_first x c some) (combination_is_straight x (whole u) (whole v) on)
        | inr same ↦
            let on = combination_of_ends x v w at_x (subst (λ (g : Edge). IsOn g x) same on_edge) in
            positive_not_zero (way_left_of_second x c some) (combination_is_straight x (whole v) (whole w) on)
      ]

      -- nor has an edge with an end that is higher than z
      not_higher : pos 0 <ℤ c.m → (a : Point) → HasEnd e a → ¬ (height_over u w (whole z) <ℤ height_over u w (whole a))
      not_higher some a end above =
          let high = positive_above (at_least_unless z_inside.not_right_of_third) above in
          let at = λ (p : Point) (same : a ≡ p). subst (λ (q : Point). pos 0 <ℤ height_over u w (whole q)) same high in
          elim (in_or_not u v w (whole a)) [
            | inl inside ↦ elim (farthest e has a end inside) [
              | inl same ↦ positive_not_zero (at u same) (height_of_first u v w)
              | inr (inl same) ↦ not_beyond (subst (λ (q : Point). HasEnd e q) same end) some
              | inr (inr (inl same)) ↦ positive_not_zero (at w same) (height_of_last u v w)
              | inr (inr (inr low)) ↦ not_below low above
            ]
            | inr outside ↦ elim (way_out es apart u v w first second e has left x at_x on_edge (way_left_of_first x c some)
                (way_left_of_second x c some) (way_not_low x c) a end outside (weak high)) [
                  | at_middle h ↦ not_beyond h some
                  | at_first h right flat ↦ flat high
                  | at_last h right flat ↦ flat high
                ]
          ]

      -- and each edge with a point strictly between v and z has one
      not_between : pos 0 <ℤ c.l → ¬ (pos 0 <ℤ c.m)
      not_between nearer some =
          let d = combination_of_ends x e.from e.to at_x on_edge in
          let up = above_last c.k c.l c.m (height_over u w x) x.W (height_over u w (whole v)) (height_over u w (whole z))
          (determinant_along x (whole v) (whole z) c (whole w) (whole u)) c.in_W c.k_positive nearer below_middle
          in
          elim (one_above d.k d.l d.m (height_over u w x) x.W (height_over u w (whole e.from)) (height_over u w (whole e.to))
          (height_over u w (whole z)) (determinant_along x (whole e.from) (whole e.to) d (whole w) (whole u)) d.in_W
          d.k_positive d.l_nonnegative d.m_nonnegative up) [
            | inl h ↦ not_higher some e.from (inl refl) h
            | inr h ↦ not_higher some e.to (inr refl) h
          ]

    -- no end beside z is higher
    pub none_higher_beside : (e : Edge) → HasEdge es e → HasEnd e z → (a : Point) → HasEnd e a
        → ¬ (height_over u w (whole z) <ℤ height_over u w (whole a))
    none_higher_beside e has at a end =
        let c = combination_of_ends (whole z) v z (whole_is_point z) (on_last_end (whole v) (whole z)) in
        elim (sign c.m) [
          | is_negative h ↦ absurd (not_both h c.m_nonnegative)
          | is_zero none ↦ absurd (not_v (same_whole z v (same_without_last (whole z) (whole v) (whole z) c none)))
          | is_positive some ↦ not_higher e has (whole z) (whole_is_point z) (end_is_on e z at) c some a end
        ]

    -- the way from v to z meets each edge only at common ends
    pub farthest_is_diagonal : (e : Edge) → HasEdge es e → MeetAtEnds e (record { from = v; to = z })
    farthest_is_diagonal e has x at_x on_edge on_way =
        let c = combination_of_ends x v z at_x on_way in
        elim (sign c.m) [
          | is_negative h ↦ absurd (not_both h c.m_nonnegative)
          | is_zero none ↦ at_middle_end e has x at_x on_edge c none
          | is_positive some ↦ elim (sign c.l) [
            | is_negative h ↦ absurd (not_both h c.l_nonnegative)
            | is_zero none ↦ at_end e has x at_x on_edge c f has_f z z_end (same_without_first x (whole v) (whole z) c none) (inr refl)
            | is_positive nearer ↦ absurd (not_between e has x at_x on_edge c nearer some)
          ]
        ]
