-- Each point past a diagonal is reached from one place of its funnel.
-- Two points past a diagonal, reached from two places of its funnel: the places from the one to the other are right of the way between them.
use Rattle.std.proofs.Common.{◌≡◌, ◌⊎◌, inl, inr, List, length, ℕ, zero, suc, ◌+◌, ◌-◌, ◌<◌, pos, ◌≤ℤ◌, arith, sym, subst, ◌≤◌, ℤ, ◌<ℤ◌}
use Rattle.std.proofs.lemmas.Bool.{cases_lt}
use Rattle.std.proofs.lemmas.Int.{ints}
use Rattle.integer_algebra.proofs.SignSteps.{not_both, not_both_positive, positive_not_negative, zero_of_neither}
use Rattle.integer_algebra.proofs.Signs.{lt_or_le}
use Rattle.plane.proofs.Points.{whole_is_point}
use Rattle.plane.specs.Prelude.{determinant, height_over, IsLeft, IsPoint, IsRight, On, Point, Triple, whole}
use Rattle.rings.specs.Chain.{point_at}
use Rattle.meshes.proofs.Cones.{not_left_between}
use Rattle.funnels.proofs.Funnels.{not_passed_from, passed_to, IsFlat, flat_left, flat_right, left_of_apex, lower_left, lower_right}
use Rattle.funnels.proofs.Funnels.{not_negative, passed_from, passed_of, right_of_apex}
use Rattle.funnels.specs.Funnel.{IsFunnel, IsPassed, IsReachedFrom}
use Rattle.hulls.proofs.Gates.PartedByEdges.{not_passed_along, passed_along, end_not_left, ends_right, first_on_line, left_end_not_left}
use Rattle.hulls.proofs.Gates.PartedByEdges.{right_end_not_left, second_on_line}
use Rattle.hulls.proofs.Gates.PastSides.{IsPastDiagonal, past_not_above, past_on_line}

-- ---- some place

module _ (ns : List Point) (a : ℕ) (z : Triple) where
  -- the way to a point passes an edge, or not
  passed_or_not : (j : ℕ) → IsPassed ns a j z ⊎ (¬ IsPassed ns a j z)
  passed_or_not j = elim (cases_lt a j) [
    | inl right ↦ elim (lt_or_le (determinant (whole (point_at ns (j - 1))) (whole (point_at ns j)) z) (pos 0)) [
      | inl is ↦ inl (inr (right, is))
      | inr not ↦ inr (λ passed. elim passed [ inl k ↦ omega (arith, k.0, right) | inr k ↦ not_both k.1 not ])
    ]
    | inr left ↦ elim (lt_or_le (pos 0) (determinant (whole (point_at ns j)) (whole (point_at ns (j - 1))) z)) [
      | inl is ↦ inr (λ passed. elim passed [ inl k ↦ k.1 is | inr k ↦ omega (arith, k.0, left) ])
      | inr not ↦ inl (inl (left, λ is. not_both_positive is not))
    ]
  ]

  -- from a passed edge on there is a place with no passed edge after it
  found : (n j : ℕ) → j + n + 1 ≡ length ns → (0 < j → IsPassed ns a j z) → (h : ℕ) × IsReachedFrom ns a h z
  found zero j e passed = (j, record { within = omega (arith, e); passed = passed; not_passed = λ more. absurd (omega (arith, e, more)) })
  found (suc n) j e passed = elim (passed_or_not (j + 1)) [
    | inl also ↦ found n (j + 1) (omega (arith, e)) (λ _. also)
    | inr not ↦ (j, record { within = omega (arith, e); passed = passed; not_passed = λ _. not })
  ]

-- each point is reached from some place
pub some_gate : (ns : List Point) (a : ℕ) (l r : Point) → IsFunnel ns a l r → (z : Triple) → (j : ℕ) × IsReachedFrom ns a j z
some_gate ns a l r f z =
    let within = f.apex_within in found ns a z (length ns - 1) 0 (omega (arith, within)) (λ none. absurd (omega (arith, none)))

-- ---- one place

module _ (ns : List Point) (a : ℕ) (l r : Point) (f : IsFunnel ns a l r) (z : Triple) (at_z : IsPoint z) (low : height_over l r z ≤ℤ pos 0) where
  -- no point that is not above the diagonal is reached from a place and from one after it
  not_twice : (j k : ℕ) → IsReachedFrom ns a j z → IsReachedFrom ns a k z → ¬ (j < k)
  not_twice j k first second less =
      let within = second.within in
      not_passed_from ns a l r f z at_z low j first (j + 1) (omega arith) (omega (arith, less, within))
      (passed_to ns a l r f z at_z low k second (j + 1) (omega arith) (omega (arith, less)))

  -- so two places from which it is reached are one
  one_gate_low : (j k : ℕ) → IsReachedFrom ns a j z → IsReachedFrom ns a k z → j ≡ k
  one_gate_low j k first second = elim (cases_lt j k) [
    | inl less ↦ absurd (not_twice j k first second less)
    | inr not_less ↦ elim (cases_lt k j) [
      | inl more ↦ absurd (not_twice k j second first more)
      | inr not_more ↦ omega (arith, not_less, not_more)
    ]
  ]

-- two places from which a point past the diagonal is reached are one
pub one_gate : (ns : List Point) (a : ℕ) (l r : Point) → IsFunnel ns a l r → (z : Triple) → IsPoint z → IsPastDiagonal l r z → (j k : ℕ)
    → IsReachedFrom ns a j z → IsReachedFrom ns a k z → j ≡ k
one_gate ns a l r f z at_z past = one_gate_low ns a l r f z at_z (past_not_above l r z at_z past)

-- and what is not positive is below a positive number, and what is negative below one that is not
apart_left : {d e : ℤ} → pos 0 <ℤ d → ¬ (pos 0 <ℤ e) → e <ℤ d
apart_left h k = grind (arith, ints)

apart_right : {d e : ℤ} → ¬ (d <ℤ pos 0) → e <ℤ pos 0 → e <ℤ d
apart_right h k = grind (arith, ints)

module _ (ns : List Point) (a : ℕ) (l r : Point) (f : IsFunnel ns a l r) (x y : Triple) (at_x : IsPoint x) (at_y : IsPoint y)
    (past_x : IsPastDiagonal l r x) (past_y : IsPastDiagonal l r y) (j k : ℕ) (from_x : IsReachedFrom ns a j x)
    (from_y : IsReachedFrom ns a k y) where
  -- neither point is above the diagonal
  low_x : height_over l r x ≤ℤ pos 0
  low_x = past_not_above l r x at_x past_x

  low_y : height_over l r y ≤ℤ pos 0
  low_y = past_not_above l r y at_y past_y

  -- the way to y passes each edge before place k,
  passed_second : (i : ℕ) → i < k → IsPassed ns a (i + 1) y
  passed_second i before = passed_to ns a l r f y at_y low_y k from_y (i + 1) (omega arith) (omega (arith, before))

  -- and that to x none after place j
  not_passed_first : (i : ℕ) → j ≤ i → i + 1 < length ns → ¬ IsPassed ns a (i + 1) x
  not_passed_first i after within = not_passed_from ns a l r f x at_x low_x j from_x (i + 1) (omega (arith, after)) within

  -- a place on the way from x to y is on the line of the diagonal
  flat_on : (i : ℕ) → i < length ns → On (whole (point_at ns i)) x y → IsFlat ns l r i
  flat_on i within on =
      zero_of_neither (not_left_between (whole r) (whole l) (whole (point_at ns i)) x y (whole_is_point (point_at ns i)) at_x at_y low_x low_y on)
      (not_negative ns a l r f i within)

  module _ (off_j : j < a → ¬ On (whole (point_at ns j)) x y) (off_k : a < k → ¬ On (whole (point_at ns k)) x y)
      (i : ℕ) (after : j ≤ i) (before : i < k) where
    -- ---- an edge on the left

    module _ (on_left : i < a) where
      -- it has x on its left,
      x_left : IsLeft (whole (point_at ns (i + 1))) (whole (point_at ns i)) x
      x_left = elim (lt_or_le (pos 0) (determinant (whole (point_at ns (i + 1))) (whole (point_at ns i)) x)) [
        | inl is ↦ is
        | inr none ↦
            let within = from_y.within in
            absurd (not_passed_first i after (omega arith) (passed_of ns a x i (inl (on_left, λ left. not_both_positive left none))))
      ]

      -- and y not,
      y_not_left : ¬ IsLeft (whole (point_at ns (i + 1))) (whole (point_at ns i)) y
      y_not_left = elim (passed_from ns a y i (passed_second i before)) [ inl is ↦ is.1 | inr is ↦ absurd (omega (arith, is.0, on_left)) ]

      -- and ends not left of the way,
      left_end_low : determinant (whole (point_at ns i)) x y ≤ℤ pos 0
      left_end_low =
          let within = f.apex_within in
          let p = point_at ns (i + 1) in
          let q = point_at ns i in
          elim (lt_or_le (pos 0) (height_over l r (whole p))) [
            | inl above ↦
                end_not_left p q l r x y at_x at_y (positive_not_negative x_left) y_not_left low_x low_y (apart_left x_left y_not_left) above
                (not_negative ns a l r f i (omega arith)) (lower_left ns a l r f i on_left)
            | inr low ↦
                let flat = zero_of_neither low (not_negative ns a l r f (i + 1) (omega arith)) in
                elim (cases_lt (i + 1) a) [
                  | inl inner ↦ absurd (not_passed_first i after (omega arith) (passed_along ns a l r f i x low_x inner flat))
                  | inr top ↦
                      let same : i + 1 ≡ a = omega arith in
                      let end = left_of_apex ns a l r f (subst (IsFlat ns l r) same flat) i same in
                      let level = second_on_line p q l r x y at_x at_y (positive_not_negative x_left) y_not_left low_x low_y flat
                      (flat_left ns a l r f i on_left flat) x_left in
                      rw end (left_end_not_left l r x y at_y (past_on_line l r y past_y level) low_x)
                ]
          ]

      -- and off it
      left_end_off : ¬ On (whole (point_at ns i)) x y
      left_end_off on =
          let within = f.apex_within in
          elim (cases_lt j i) [
            | inr none ↦ let same : i ≡ j = omega (arith, after) in off_j (omega arith) (subst (λ n. On (whole (point_at ns n)) x y) same on)
            | inl later ↦
                let same : i ≡ i - 1 + 1 = omega arith in
                let flat = subst (IsFlat ns l r) same (flat_on i (omega arith) on) in
                not_passed_first (i - 1) (omega arith) (omega arith) (passed_along ns a l r f (i - 1) x low_x (omega arith) flat)
          ]

      -- so its ends are right of the way
      beside_left : IsRight x y (whole (point_at ns i)) × IsRight x y (whole (point_at ns (i + 1)))
      beside_left =
          let both = ends_right (point_at ns (i + 1)) (point_at ns i) l r x y at_x at_y (positive_not_negative x_left) y_not_left low_x low_y
          (apart_left x_left y_not_left) left_end_low left_end_off in
          (both.1, both.0)

    -- ---- an edge on the right

    module _ (on_right : a ≤ i) where
      -- it has x not on its right,
      x_not_right : ¬ IsRight (whole (point_at ns i)) (whole (point_at ns (i + 1))) x
      x_not_right right =
          let within = from_y.within in not_passed_first i after (omega arith) (passed_of ns a x i (inr (on_right, right)))

      -- and y on it,
      y_right : IsRight (whole (point_at ns i)) (whole (point_at ns (i + 1))) y
      y_right = elim (passed_from ns a y i (passed_second i before)) [ inr is ↦ is.1 | inl is ↦ absurd (omega (arith, is.0, on_right)) ]

      -- and ends not left of the way,
      right_end_low : determinant (whole (point_at ns (i + 1))) x y ≤ℤ pos 0
      right_end_low =
          let within = from_y.within in
          let p = point_at ns i in
          let q = point_at ns (i + 1) in
          elim (lt_or_le (pos 0) (height_over l r (whole p))) [
            | inl above ↦
                end_not_left p q l r x y at_x at_y x_not_right (λ h. positive_not_negative h y_right) low_x low_y
                (apart_right x_not_right y_right) above (not_negative ns a l r f (i + 1) (omega arith))
                (lower_right ns a l r f i on_right (omega arith))
            | inr low ↦
                let flat = zero_of_neither low (not_negative ns a l r f i (omega arith)) in
                elim (cases_lt a i) [
                  | inl inner ↦
                      let same : i ≡ i - 1 + 1 = omega arith in
                      absurd (not_passed_along ns a l r f (i - 1) y low_y (omega arith) (omega arith) (subst (IsFlat ns l r) same flat)
                      (subst (λ n. IsPassed ns a (n + 1) y) same (passed_second i before)))
                  | inr top ↦
                      let same : i ≡ a = omega arith in
                      let at_a = subst (IsFlat ns l r) same flat in
                      let end = subst (λ n. point_at ns (n + 1) ≡ r) (sym same) (right_of_apex ns a l r f at_a (omega arith)) in
                      let level = first_on_line p q l r x y at_x at_y x_not_right (λ h. positive_not_negative h y_right) low_x low_y flat
                      (flat_right ns a l r f i on_right (omega arith) flat) y_right in
                      rw end (right_end_not_left l r x y at_x (past_on_line l r x past_x level) low_y)
                ]
          ]

      -- and off it
      right_end_off : ¬ On (whole (point_at ns (i + 1))) x y
      right_end_off on =
          let within = from_y.within in
          elim (cases_lt (i + 1) k) [
            | inr none ↦ let same : i + 1 ≡ k = omega (arith, before) in off_k (omega arith) (subst (λ n. On (whole (point_at ns n)) x y) same on)
            | inl more ↦
                not_passed_along ns a l r f i y low_y on_right (omega arith) (flat_on (i + 1) (omega arith) on) (passed_second (i + 1) more)
          ]

      -- so its ends are right of the way
      beside_right : IsRight x y (whole (point_at ns i)) × IsRight x y (whole (point_at ns (i + 1)))
      beside_right =
          ends_right (point_at ns i) (point_at ns (i + 1)) l r x y at_x at_y x_not_right (λ h. positive_not_negative h y_right) low_x low_y
          (apart_right x_not_right y_right) right_end_low right_end_off

    -- ---- either

    beside_edge : IsRight x y (whole (point_at ns i)) × IsRight x y (whole (point_at ns (i + 1)))
    beside_edge = elim (cases_lt i a) [ inl on_left ↦ beside_left on_left | inr on_right ↦ beside_right on_right ]

-- two points past the diagonal, reached from places j and k, have all points from the one place to the other on the right of the way between
-- them, where each of the two places is off that way or is the apex
pub gates_beside : (ns : List Point) (a : ℕ) (l r : Point) → IsFunnel ns a l r → (x y : Triple) → IsPoint x → IsPoint y → IsPastDiagonal l r x
    → IsPastDiagonal l r y → (j k : ℕ) → j < k → IsReachedFrom ns a j x → IsReachedFrom ns a k y
    → (j < a → ¬ On (whole (point_at ns j)) x y) → (a < k → ¬ On (whole (point_at ns k)) x y) → (i : ℕ) → j ≤ i → i ≤ k
    → IsRight x y (whole (point_at ns i))
gates_beside ns a l r f x y at_x at_y past_x past_y j k less from_x from_y off_j off_k i after before = elim (cases_lt i k) [
  | inl inner ↦ (beside_edge ns a l r f x y at_x at_y past_x past_y j k from_x from_y off_j off_k i after inner).0
  | inr last ↦
      let same : i - 1 + 1 ≡ i = omega (arith, less, after, last) in
      subst (λ n. IsRight x y (whole (point_at ns n))) same
      (beside_edge ns a l r f x y at_x at_y past_x past_y j k from_x from_y off_j off_k (i - 1) (omega (arith, less, last))
      (omega (arith, less, before))).1
]
