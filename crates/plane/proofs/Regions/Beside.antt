-- Corners, meetings and points beside lines: regions of one corner and of two, corners against sides, points of one line.
use Rattle.std.proofs.Common.{◌≡◌, inl, inr, sym, subst, ap, ◌∙◌, ℕ, ◌+◌, ◌-◌, ◌<◌, arith, List, [], ◌∷◌, ◌++◌, length, ℤ, pos, ◌+ℤ◌, ◌-ℤ◌, ◌*ℤ◌, ◌≤ℤ◌, ◌<ℤ◌}
use Rattle.std.proofs.lemmas.Bool.{cases_eq, cases_lt}
use Rattle.std.proofs.lemmas.Int.{ints}
use Rattle.std.proofs.lemmas.List.{append-nil}
use Rattle.integer_algebra.proofs.Laws.{mul-zero, mul_comm, zero-mul}
use Rattle.integer_algebra.proofs.SameSigns.{same_nonnegative}
use Rattle.integer_algebra.proofs.SignSteps.{mean_not_negative, weak, weak_order, zero_not_negative}
use Rattle.integer_algebra.proofs.Signs.{lt_or_le, mul_negatives, mul_nonpositive}
use Rattle.plane.proofs.Regions.Corners.{all_more, left_shift, left_shift_back}
use Rattle.plane.proofs.Regions.LineMeetings.{Ends, IsMeeting, at_corner, at_meeting}
use Rattle.plane.proofs.Regions.Fans.{IsMeanOfThree, four_beside}
use Rattle.plane.proofs.Regions.Sides.{IsNotRight}
use Rattle.plane.proofs.Segments.{same_without_last}
use Rattle.plane.proofs.Turns.{IsCombination, determinant_along, determinant_same_ends, determinant_same_last}
use Rattle.plane.specs.Convex.{AreConvex, corner}
use Rattle.plane.specs.Prelude.{determinant, IsLeft, IsRight, IsSame, IsStraight, On, Triple}
use Rattle.plane.specs.Region.{IsInRegion}

-- ---- regions of one corner and of two

-- the region of one corner is that point
pub region_of_one : (cs : List Triple) (p : Triple) → length cs ≡ 1 → IsSame p (corner cs 0) → IsInRegion cs p
region_of_one [] p one h = absurd (omega (arith, one))
region_of_one (a ∷ []) p one h = h
region_of_one (a ∷ b ∷ cs) p one h = absurd (omega (arith, one))

-- the region of two corners is the segment between them
pub region_of_two : (cs : List Triple) (p : Triple) → length cs ≡ 2 → On p (corner cs 0) (corner cs 1) → IsInRegion cs p
region_of_two [] p two h = absurd (omega (arith, two))
region_of_two (a ∷ []) p two h = absurd (omega (arith, two))
region_of_two (a ∷ b ∷ []) p two h = h
region_of_two (a ∷ b ∷ c ∷ cs) p two h = absurd (omega (arith, two))

-- and the other way round
pub two_of_region : (cs : List Triple) (p : Triple) → length cs ≡ 2 → IsInRegion cs p → On p (corner cs 0) (corner cs 1)
two_of_region [] p two h = absurd (omega (arith, two))
two_of_region (a ∷ []) p two h = absurd (omega (arith, two))
two_of_region (a ∷ b ∷ []) p two h = h
two_of_region (a ∷ b ∷ c ∷ cs) p two h = absurd (omega (arith, two))

-- ---- the corners against the sides

-- no corner is right of a side,
pub corner_beside : (cs : List Triple) → AreConvex cs → (i j : ℕ) → i + 1 < length cs → j < length cs
    → IsNotRight (corner cs i) (corner cs (i + 1)) (corner cs j)
corner_beside cs convex i j more in_j = elim (cases_lt j i) [
  | inl before ↦ weak (left_shift (corner cs j) (corner cs i) (corner cs (i + 1)) (convex.left j i (i + 1) before (omega arith) more))
  | inr not ↦ elim (cases_lt (i + 1) j) [
    | inl after ↦ weak (convex.left i (i + 1) j (omega arith) after in_j)
    | inr within ↦ elim (cases_eq j i) [
      | inl e ↦ zero_not_negative (ap (λ k. determinant (corner cs i) (corner cs (i + 1)) (corner cs k)) e ∙ determinant_same_ends
          (corner cs i) (corner cs (i + 1)))
      | inr n ↦
          let e : j ≡ i + 1 = omega (arith, not, within, n) in
          zero_not_negative (ap (λ k. determinant (corner cs i) (corner cs (i + 1)) (corner cs k)) e ∙ determinant_same_last (corner cs i)
          (corner cs (i + 1)))
    ]
  ]
]

-- nor of the last
pub corner_beside_last : (cs : List Triple) → AreConvex cs → (j : ℕ) → j < length cs
    → IsNotRight (corner cs (length cs - 1)) (corner cs 0) (corner cs j)
corner_beside_last cs convex j in_j =
    let last = corner cs (length cs - 1) in
    let first = corner cs 0 in
    elim (cases_lt 0 j) [
      | inr not ↦
          let e : j ≡ 0 = omega (arith, not) in
          zero_not_negative (ap (λ k. determinant last first (corner cs k)) e ∙ determinant_same_last last first)
      | inl some ↦ elim (cases_lt j (length cs - 1)) [
        | inl more ↦ weak (left_shift_back first (corner cs j) last (convex.left 0 j (length cs - 1) some more (omega (arith, in_j))))
        | inr not ↦
            let e : j ≡ length cs - 1 = omega (arith, not, in_j) in
            zero_not_negative (ap (λ k. determinant last first (corner cs k)) e ∙ determinant_same_ends last first)
      ]
    ]

-- ---- what holds of all corners

-- what holds of the corners that stay and of a meeting holds of the list with what a cut adds
pub all_with : (P : Triple → Type 0) (a b c d : Triple) (cs es : List Triple) → Ends a b c d es → ((x : Triple) → IsMeeting a b c d x → P x)
    → ((i : ℕ) → i < length cs → P (corner cs i)) → (i : ℕ) → i < length (cs ++ es) → P (corner (cs ++ es) i)
all_with P a b c d cs es (at_corner straight none) added all =
    subst (λ (t : List Triple). (i : ℕ) → i < length t → P (corner t i)) (sym (ap (λ t. cs ++ t) none ∙ append-nil cs)) all
all_with P a b c d cs es (at_meeting x left h one) added all =
    subst (λ (t : List Triple). (i : ℕ) → i < length (cs ++ t) → P (corner (cs ++ t) i)) (sym one) (all_more P cs x all (added x h))

-- a meeting is not right of a line that neither end is right of
pub meeting_beside : (a b c d x y z : Triple) → IsMeeting a b c d z → IsNotRight x y c → IsNotRight x y d → IsNotRight x y z
meeting_beside a b c d x y z h hc hd =
    mean_not_negative h.mean.k h.mean.l h.mean.m _ _ _ h.mean.k_positive h.mean.l_nonnegative h.mean.m_nonnegative
    (determinant_along z c d h.mean x y) hc hd

-- ---- two points on the line

-- the relation of four triples of which two are on a line
two_on_line : (r t d e s w z v : ℤ) → z ≡ pos 0 → v ≡ pos 0 → r *ℤ z -ℤ t *ℤ v +ℤ d *ℤ s -ℤ e *ℤ w ≡ pos 0 → s *ℤ d ≡ e *ℤ w
two_on_line r t d e s w z v hz hv h =
    omega (arith, ints, h, ap (λ k. r *ℤ k) hz, ap (λ k. t *ℤ k) hv, mul-zero r, mul-zero t, mul_comm d s)

-- numbers that agree through negative factors are not negative together
beside_right : (d e s w : ℤ) → s *ℤ d ≡ e *ℤ w → d <ℤ pos 0 → w <ℤ pos 0 → pos 0 ≤ℤ s → pos 0 ≤ℤ e
beside_right d e s w h hd hw hs = elim (lt_or_le e (pos 0)) [
  | inr n ↦ n
  | inl n ↦ absurd (omega (arith, ints, h, mul_negatives e w n hw, mul_nonpositive s d hs (weak_order hd)))
]

module _ (a b u v w p : Triple) (on_u : IsStraight a b u) (on_v : IsStraight a b v) (above : IsNotRight a b p) where
  -- the sides of p are as those of w
  same_sides : determinant a b p *ℤ determinant u v w ≡ determinant u v p *ℤ determinant a b w
  same_sides =
      two_on_line (determinant v p w) (determinant u p w) (determinant u v w) (determinant u v p) (determinant a b p) (determinant a b w)
      _ _
      on_u on_v (four_beside u v p w a b)

  -- p is not right of the way from u to v on the line, where what is left of the line is left of it,
  pub not_right_by_left : IsLeft u v w → IsLeft a b w → IsNotRight u v p
  not_right_by_left turned left = same_nonnegative _ _ (determinant a b w) (determinant u v w) left turned same_sides above

  -- or what is right of the one is right of the other
  pub not_right_by_right : IsRight u v w → IsRight a b w → IsNotRight u v p
  not_right_by_right turned right = beside_right _ _ _ _ same_sides turned right above

-- ---- means of three with a weight 0

-- one coordinate
without_last : (k u v w z f g h : ℤ) → k *ℤ z ≡ u *ℤ f +ℤ v *ℤ g +ℤ w *ℤ h → w ≡ pos 0 → k *ℤ z ≡ u *ℤ f +ℤ v *ℤ g
without_last k u v w z f g h e none = omega (arith, ints, e, ap (λ t. t *ℤ h) none, zero-mul h)

-- a mean of three without the last is a combination of two
pub two_of_three : (p a b c : Triple) (m : IsMeanOfThree p a b c) → m.w ≡ pos 0 → IsCombination p a b
two_of_three p a b c m none = record {
  k = m.k;
  l = m.u;
  m = m.v;
  k_positive = m.k_positive;
  l_nonnegative = m.u_nonnegative;
  m_nonnegative = m.v_nonnegative;
  in_X = without_last m.k m.u m.v m.w _ _ _ _ m.in_X none;
  in_Y = without_last m.k m.u m.v m.w _ _ _ _ m.in_Y none;
  in_W = without_last m.k m.u m.v m.w _ _ _ _ m.in_W none;
}

-- and without the second too it is the first point
pub first_of_three : (p a b c : Triple) (m : IsMeanOfThree p a b c) → m.w ≡ pos 0 → m.v ≡ pos 0 → IsSame p a
unfolding two_of_three
first_of_three p a b c m none second = same_without_last p a b (two_of_three p a b c m none) second
