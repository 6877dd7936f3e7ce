-- No edge enters an empty triangle at a vertex: it meets the triangle at ends of the third side at most, and so does each edge that side.
use Rattle.std.proofs.Common.{◌≡◌, ◌⊎◌, inl, inr, refl, sym, subst, ap, List, ℤ, pos, ◌+ℤ◌, ◌*ℤ◌, ◌<ℤ◌, ◌≤ℤ◌, arith}
use Rattle.std.proofs.lemmas.Int.{ints}
use Rattle.integer_algebra.proofs.Decisions.{either_or_not}
use Rattle.integer_algebra.proofs.Laws.{mul-zero, zero-mul}
use Rattle.integer_algebra.proofs.SignSteps.{at_least_unless, mean_last_positive, mean_negative, mean_not_positive, not_both, not_both_positive}
use Rattle.integer_algebra.proofs.SignSteps.{positive_not_zero, weak, weak_order, zero_not_negative, zero_not_positive}
use Rattle.integer_algebra.proofs.Signs.{factor_nonpositive, is_negative, is_positive, is_zero, lt_or_le, mul_negative, mul_nonnegative}
use Rattle.integer_algebra.proofs.Signs.{mul_nonpositive, sign}
use Rattle.plane.proofs.Order.{point_or_other}
use Rattle.plane.proofs.Points.{whole_is_point}
use Rattle.plane.proofs.Segments.{combination_is_straight, on_reversed, same_without_last}
use Rattle.plane.proofs.Turns.{combination_of, combination_of_ends, determinant_along, determinant_same_ends, determinant_same_last}
use Rattle.plane.proofs.Turns.{determinant_shift, weights_positive}
use Rattle.plane.specs.Prelude.{determinant, height_over, IsInTriangle, IsLeft, IsPoint, IsSame, IsStraight, On, Point, Triple, whole}
use Rattle.rings.specs.Apart.{AreApart, IsCommonEnd, MeetAtEnds}
use Rattle.rings.specs.Edge.{Edge, HasEdge, HasEnd, IsOn}
use Rattle.ring_laws.proofs.Triangles.SidesAtVertex.{at_first, at_last, at_middle, meets_first, meets_second, way_out}
use Rattle.ring_laws.proofs.Triangles.Triangles.{between_in_triangle, first_in_triangle, height_of_first, height_of_last, in_or_not}
use Rattle.ring_laws.proofs.Triangles.Triangles.{last_in_triangle, on_first_side, on_second_side}

-- ---- numbers

-- what is neither negative nor positive is 0
zero_between : {z : ℤ} → pos 0 ≤ℤ z → ¬ (pos 0 <ℤ z) → z ≡ pos 0
zero_between {z} h n = elim (sign z) [
  | is_negative k ↦ absurd (not_both k h)
  | is_zero e ↦ e
  | is_positive k ↦ absurd (n k)
]

-- a negative number has no weight in a mean with 0 that is not negative
weightless : (k l m z f g : ℤ) → pos 0 <ℤ k → pos 0 ≤ℤ l → f <ℤ pos 0 → g ≡ pos 0 → pos 0 ≤ℤ z
    → k *ℤ z ≡ l *ℤ f +ℤ m *ℤ g → ¬ (pos 0 <ℤ l)
weightless k l m z f g hk hl hf hg hz e some =
    let none = ap (λ n. m *ℤ n) hg in
    omega (arith, ints, e, mul_negative l f some hf, none, mul-zero m, mul_nonnegative k z (weak hk) hz)

-- a mean is not positive where one number has no weight and the other is not positive
other_alone : (k l m z f g : ℤ) → pos 0 <ℤ k → l ≡ pos 0 → pos 0 ≤ℤ m → g ≤ℤ pos 0
    → k *ℤ z ≡ l *ℤ f +ℤ m *ℤ g → z ≤ℤ pos 0
other_alone k l m z f g hk none hm hg e =
    let nothing = ap (λ n. n *ℤ f) none in
    factor_nonpositive k z hk (omega (arith, ints, e, nothing, zero-mul f, mul_nonpositive m g hm hg))

-- ---- a segment from a line

-- a point on the line through a from which c is left, and on the segment from a to c, is a
only_at_first : (s t : Triple) (a c : Point) (x : Triple) → IsPoint x → IsStraight s t (whole a) → IsLeft s t (whole c)
    → IsStraight s t x → On x (whole a) (whole c) → IsSame x (whole a)
only_at_first s t a c x at_x line turns straight on =
    let d = combination_of_ends x a c at_x on in
    elim (sign d.m) [
      | is_negative h ↦ absurd (not_both h d.m_nonnegative)
      | is_zero none ↦ same_without_last x (whole a) (whole c) d none
      | is_positive some ↦ absurd (positive_not_zero
          (mean_last_positive d.k d.l d.m _ _ _ d.k_positive d.l_nonnegative some (determinant_along x (whole a) (whole c) d s t)
          (zero_not_negative line) turns) straight)
    ]

-- ---- edges

module _ (es : List Edge) (apart : AreApart es) (u v w : Point) (left : IsLeft (whole u) (whole v) (whole w))
    (first : HasEdge es (record { from = u; to = v })) (second : HasEdge es (record { from = v; to = w }))
    (at_v : (e : Edge) → HasEdge es e → HasEnd e v → (e ≡ record { from = u; to = v }) ⊎ (e ≡ record { from = v; to = w }))
    (empty : (e : Edge) → HasEdge es e → (y : Point) → HasEnd e y → IsInTriangle u v w (whole y)
    → (y ≡ u) ⊎ (y ≡ v) ⊎ (y ≡ w))
    (no_base : (e : Edge) → HasEdge es e → HasEnd e u → ¬ HasEnd e w) where
  module _ (e : Edge) (has : HasEdge es e) (off : ¬ HasEnd e v) (x : Triple) (at_x : IsPoint x) (on_edge : IsOn e x) where
    -- an end that is not below the third side is on its line, and an end of the side is on the edge before it
    data Reach (a : Point) : Type 0 where
      by_first : height_over u w (whole a) ≡ pos 0 → HasEnd e u → determinant (whole u) (whole v) (whole a) ≤ℤ pos 0 → Reach a
      by_last : height_over u w (whole a) ≡ pos 0 → HasEnd e w → determinant (whole v) (whole w) (whole a) ≤ℤ pos 0 → Reach a

    -- x is strictly left of the sides at v
    module _ (x_first : IsLeft (whole u) (whole v) x) (x_second : IsLeft (whole v) (whole w) x)
        (low : pos 0 ≤ℤ height_over u w x) where
      -- so it is where x is on the edge
      reach : (a : Point) → HasEnd e a → pos 0 ≤ℤ height_over u w (whole a) → Reach a
      reach a end high = elim (in_or_not u v w (whole a)) [
        | inl inside ↦ elim (empty e has a end inside) [
          | inl same ↦ by_first
              (subst (λ (z : Point). height_over u w (whole z) ≡ pos 0) (sym same) (height_of_first u v w))
              (subst (λ (z : Point). HasEnd e z) same end)
              (subst (λ (z : Point). determinant (whole u) (whole v) (whole z) ≤ℤ pos 0) (sym same)
              (zero_not_positive (determinant_same_ends (whole u) (whole v))))
          | inr (inl same) ↦ absurd (off (subst (λ (z : Point). HasEnd e z) same end))
          | inr (inr same) ↦ by_last
              (subst (λ (z : Point). height_over u w (whole z) ≡ pos 0) (sym same) (height_of_last u v w))
              (subst (λ (z : Point). HasEnd e z) same end)
              (subst (λ (z : Point). determinant (whole v) (whole w) (whole z) ≤ℤ pos 0) (sym same)
              (zero_not_positive (determinant_same_last (whole v) (whole w))))
        ]
        | inr outside ↦ elim (way_out es apart u v w first second e has left x at_x on_edge x_first x_second low a end outside
            high) [
              | at_middle h ↦ absurd (off h)
              | at_first h right flat ↦ by_first (zero_between high flat) h (weak_order right)
              | at_last h right flat ↦ by_last (zero_between high flat) h (weak_order right)
            ]
      ]

      -- no end is below the third side, where the other is q
      none_below : (p q : Point) → HasEnd e q → On x (whole p) (whole q) → ¬ (height_over u w (whole p) <ℤ pos 0)
      none_below p q end on below =
          let c = combination_of x (whole p) (whole q) at_x (whole_is_point p) (whole_is_point q) on in
          let along = determinant_along x (whole p) (whole q) c in
          let some = weights_positive x (whole p) (whole q) c at_x in
          let alone = λ (s t : Triple) (flat : height_over u w (whole q) ≡ pos 0) (h : determinant s t (whole q) ≤ℤ pos 0).
          other_alone c.k c.l c.m _ _ _ c.k_positive
          (zero_between c.l_nonnegative
          (weightless c.k c.l c.m _ _ _ c.k_positive c.l_nonnegative below flat low (along (whole w) (whole u))))
          c.m_nonnegative h (along s t)
          in
          elim (lt_or_le (height_over u w (whole q)) (pos 0)) [
            | inl k ↦
                not_both
                (mean_negative c.k c.l c.m _ _ _ c.k_positive c.l_nonnegative c.m_nonnegative (along (whole w) (whole u)) some
                below k) low
            | inr high ↦ elim (reach q end high) [
              | by_first flat h beside ↦ not_both_positive x_first (alone (whole u) (whole v) flat beside)
              | by_last flat h beside ↦ not_both_positive x_second (alone (whole v) (whole w) flat beside)
            ]
          ]

      -- nor are both on its line
      not_level : Reach e.from → Reach e.to → ⊥
      not_level (by_first f h k) (by_last g i l) = no_base e has h i
      not_level (by_last f h k) (by_first g i l) = no_base e has i h
      not_level (by_first f h k) (by_first g i l) =
          let c = combination_of x (whole e.from) (whole e.to) at_x (whole_is_point e.from) (whole_is_point e.to) on_edge in
          not_both_positive x_first
          (mean_not_positive c.k c.l c.m _ _ _ c.k_positive c.l_nonnegative c.m_nonnegative
          (determinant_along x (whole e.from) (whole e.to) c (whole u) (whole v)) k l)
      not_level (by_last f h k) (by_last g i l) =
          let c = combination_of x (whole e.from) (whole e.to) at_x (whole_is_point e.from) (whole_is_point e.to) on_edge in
          not_both_positive x_second
          (mean_not_positive c.k c.l c.m _ _ _ c.k_positive c.l_nonnegative c.m_nonnegative
          (determinant_along x (whole e.from) (whole e.to) c (whole v) (whole w)) k l)

      -- so no edge without the end v has such a point
      not_inner : ⊥
      not_inner = elim (lt_or_le (height_over u w (whole e.from)) (pos 0)) [
        | inl below ↦ none_below e.from e.to (inr refl) on_edge below
        | inr from_high ↦ elim (lt_or_le (height_over u w (whole e.to)) (pos 0)) [
          | inl below ↦ none_below e.to e.from (inl refl) (on_reversed x (whole e.from) (whole e.to) on_edge) below
          | inr to_high ↦ not_level (reach e.from (inl refl) from_high) (reach e.to (inr refl) to_high)
        ]
      ]

    -- an edge without the end v meets the triangle at ends of the third side
    pub meets_at_base : IsInTriangle u v w x → IsCommonEnd e (record { from = u; to = w }) x
    meets_at_base inside = elim (sign (determinant (whole u) (whole v) x)) [
      | is_negative h ↦ absurd (inside.not_right_of_first h)
      | is_zero straight ↦ elim (meets_first es apart u v w first second e has x at_x on_edge
          (on_first_side u v w left x at_x inside straight)) [
            | inl h ↦ absurd (off h)
            | inr h ↦ record { end = u; of_first = h.0; of_second = inl refl; same = h.1 }
          ]
      | is_positive x_first ↦ elim (sign (determinant (whole v) (whole w) x)) [
        | is_negative h ↦ absurd (inside.not_right_of_second h)
        | is_zero straight ↦ elim (meets_second es apart u v w first second e has x at_x on_edge
            (on_second_side u v w left x at_x inside straight)) [
              | inl h ↦ absurd (off h)
              | inr h ↦ record { end = w; of_first = h.0; of_second = inr refl; same = h.1 }
            ]
        | is_positive x_second ↦ absurd (not_inner x_first x_second (at_least_unless inside.not_right_of_third))
      ]
    ]

  -- no edge but the two at v enters the triangle
  pub none_enters : (e : Edge) → HasEdge es e → ¬ (e ≡ record { from = u; to = v }) → ¬ (e ≡ record { from = v; to = w })
      → (x : Triple) → IsPoint x → IsOn e x → IsInTriangle u v w x → IsCommonEnd e (record { from = u; to = w }) x
  none_enters e has not_first not_second x at_x on_edge inside =
      let off : ¬ HasEnd e v = λ h. elim (at_v e has h) [ inl same ↦ not_first same | inr same ↦ not_second same ] in
      meets_at_base e has off x at_x on_edge inside

  -- ---- the side across from v

  module _ (e : Edge) (has : HasEdge es e) (x : Triple) (at_x : IsPoint x) (on_edge : IsOn e x)
      (on_base : On x (whole u) (whole w)) where
    -- the side of an edge with the end v meets the third side at u or at w
    base_at_sides : HasEnd e v → IsCommonEnd e (record { from = u; to = w }) x
    base_at_sides end = elim (at_v e has end) [
      | inl same ↦
          let on = combination_of_ends x u v at_x (subst (λ (g : Edge). IsOn g x) same on_edge) in
          record {
            end = u;
            of_first = subst (λ (g : Edge). HasEnd g u) (sym same) (inl refl);
            of_second = inl refl;
            same =
                only_at_first (whole u) (whole v) u w x at_x (determinant_same_ends (whole u) (whole v)) left
                (combination_is_straight x (whole u) (whole v) on) on_base;
          }
      | inr same ↦
          let on = combination_of_ends x v w at_x (subst (λ (g : Edge). IsOn g x) same on_edge) in
          let turns : IsLeft (whole v) (whole w) (whole u) = rw (determinant_shift (whole u) (whole v) (whole w)) left in
          record {
            end = w;
            of_first = subst (λ (g : Edge). HasEnd g w) (sym same) (inr refl);
            of_second = inr refl;
            same =
                only_at_first (whole v) (whole w) w u x at_x (determinant_same_last (whole v) (whole w)) turns
                (combination_is_straight x (whole v) (whole w) on) (on_reversed x (whole u) (whole w) on_base);
          }
    ]

  -- the third side meets each edge only at common ends
  pub base_is_diagonal : (e : Edge) → HasEdge es e → MeetAtEnds e (record { from = u; to = w })
  base_is_diagonal e has x at_x on_edge on_base = elim (either_or_not (point_or_other e.from v) (point_or_other e.to v)) [
    | inl end ↦ base_at_sides e has x at_x on_edge on_base end
    | inr off ↦
        meets_at_base e has off x at_x on_edge
        (between_in_triangle u v w x (whole u) (whole w) at_x (whole_is_point u) (whole_is_point w)
        (first_in_triangle u v w left) (last_in_triangle u v w left) on_base)
  ]
