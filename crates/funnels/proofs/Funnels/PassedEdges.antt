-- The two edges at the apex of a funnel: no point that is not above the diagonal is left of the left one and right of the right one.
-- Where the way to a point that is not above the diagonal passes an edge of a funnel, it passes all edges before it: those to the place
-- from which the point is reached, and no others.
-- On which side of the way over a place of a funnel a point is that is reached from there, where the place is not the apex.
use Rattle.std.proofs.Common.{◌≡◌, refl, sym, subst, List, length, ℕ, ◌+◌, ◌-◌, ◌<◌, pos, ◌≤ℤ◌, arith, ◌⊎◌, inl, inr, zero, suc, ◌≤◌}
use Rattle.std.proofs.lemmas.Bool.{cases_lt}
use Rattle.integer_algebra.proofs.SignSteps.{negative_not_zero, positive_not_zero, not_both_positive, at_most_unless, turned_negative}
use Rattle.integer_algebra.proofs.SignSteps.{turned_not_negative, weak, weak_order}
use Rattle.integer_algebra.proofs.Signs.{lt_or_le}
use Rattle.plane.proofs.Regions.{four_beside}
use Rattle.plane.proofs.Turns.{determinant_same_ends, determinant_swap_first}
use Rattle.plane.specs.Prelude.{determinant, height_over, IsLeft, IsPoint, IsRight, IsStraight, Point, Triple, whole}
use Rattle.rings.specs.Chain.{point_at}
use Rattle.funnels.proofs.Funnels.CrossingDiagonal.{straight_on_line, areas_with}
use Rattle.funnels.proofs.Funnels.FlatFunnels.{left_of_apex, right_of_apex, IsFlat, flat_left, flat_right, turn_left, turn_right}
use Rattle.funnels.proofs.Funnels.Heights.{level, lower_left, lower_right, not_negative, reaches_left}
use Rattle.funnels.proofs.Funnels.TestSigns.{level_at_apex, level_left, level_right, not_beside_all}
use Rattle.funnels.specs.Funnel.{IsFunnel, IsPassed, IsReachedFrom}

-- ---- two edges at a common point, and a point that is not above the diagonal: where it is left of the outer one alone, or right of it

module _ (p o q l r : Point) (y : Triple) (at_y : IsPoint y) (above : pos 0 ≤ℤ height_over l r (whole o)) (low : height_over l r y ≤ℤ pos 0) where
  -- of two left edges y is left of the outer alone only on the line of the diagonal,
  pub outer_left : IsLeft (whole p) (whole o) (whole q) → height_over l r (whole o) ≤ℤ height_over l r (whole p)
      → height_over l r (whole q) ≤ℤ height_over l r (whole o) → ¬ IsLeft (whole p) (whole o) y → IsLeft (whole o) (whole q) y
      → (height_over l r (whole o) ≡ pos 0) × (height_over l r y ≡ pos 0)
  outer_left turn first second not_left left =
      level_left (determinant (whole o) (whole q) y) (determinant (whole p) (whole q) y) (determinant (whole p) (whole o) y)
      (determinant (whole p) (whole o) (whole q)) y.W (height_over l r (whole p)) (height_over l r (whole o)) (height_over l r (whole q)) (height_over l r y)
      (four_beside (whole p) (whole o) (whole q) y (whole r) (whole l)) (areas_with p o q y) at_y above low
      (weak left) (at_most_unless not_left) turn first second

  -- of two right edges it is right of the outer alone only there,
  pub outer_right : IsRight (whole p) (whole o) (whole q) → height_over l r (whole o) ≤ℤ height_over l r (whole p)
      → height_over l r (whole q) ≤ℤ height_over l r (whole o) → pos 0 ≤ℤ determinant (whole p) (whole o) y → IsRight (whole o) (whole q) y
      → (height_over l r (whole o) ≡ pos 0) × (height_over l r y ≡ pos 0)
  outer_right turn first second not_right right =
      level_right (determinant (whole o) (whole q) y) (determinant (whole p) (whole q) y) (determinant (whole p) (whole o) y)
      (determinant (whole p) (whole o) (whole q)) y.W (height_over l r (whole p)) (height_over l r (whole o)) (height_over l r (whole q)) (height_over l r y)
      (four_beside (whole p) (whole o) (whole q) y (whole r) (whole l)) (areas_with p o q y) at_y above low
      (weak_order right) not_right turn first second

  module _ (opening : ¬ IsLeft (whole o) (whole p) (whole q)) (left : IsLeft (whole o) (whole p) y) (right : IsRight (whole o) (whole q) y) where
    -- and where it is left of the left edge at the apex, and right of the right one, the left one does not fall,
    pub level_between : height_over l r (whole p) ≤ℤ height_over l r (whole o) → height_over l r (whole q) ≤ℤ height_over l r (whole o)
        → height_over l r (whole o) ≡ height_over l r (whole p)
    level_between first second =
        level_at_apex (determinant (whole o) (whole q) y) (determinant (whole p) (whole q) y) (determinant (whole p) (whole o) y)
        (determinant (whole p) (whole o) (whole q)) y.W (height_over l r (whole p)) (height_over l r (whole o)) (height_over l r (whole q)) (height_over l r y)
        (four_beside (whole p) (whole o) (whole q) y (whole r) (whole l)) (areas_with p o q y) at_y above low right
        (weak_order (turned_negative (determinant_swap_first (whole o) (whole p) y) left))
        (turned_not_negative (determinant_swap_first (whole o) (whole p) (whole q)) (at_most_unless opening)) first second

    -- and their ends are not those of the diagonal
    pub not_ends : p ≡ l → q ≡ r → ⊥
    not_ends is_l is_r =
        not_beside_all (determinant (whole o) (whole q) y) (determinant (whole p) (whole q) y) (determinant (whole p) (whole o) y)
        (determinant (whole p) (whole o) (whole q)) y.W (height_over l r (whole p)) (height_over l r (whole o)) (height_over l r (whole q)) (height_over l r y)
        (four_beside (whole p) (whole o) (whole q) y (whole r) (whole l)) (areas_with p o q y) at_y right
        (weak_order (turned_negative (determinant_swap_first (whole o) (whole p) y) left))
        (turned_not_negative (determinant_swap_first (whole o) (whole p) (whole q)) (at_most_unless opening))
        (rw (is_l, is_r) (turned_not_negative (determinant_swap_first (whole r) (whole l) y) low))

-- ---- the two edges at the apex of a funnel: no point that is not above the diagonal is left of the left one and right of the right one. Where the way to a point that is not above the diagonal passes an edge of a funnel, it passes all edges before it: those to the place from which the point is reached, and no others. On which side of the way over a place of a funnel a point is that is reached from there, where the place is not the apex

module _ (ns : List Point) (i : ℕ) (l r : Point) (f : IsFunnel ns (i + 1) l r) where
  -- where the apex is as high as the point before it, it is on the line of the diagonal
  flat_where_level : height_over l r (whole (point_at ns (i + 1))) ≡ height_over l r (whole (point_at ns i)) → IsFlat ns l r (i + 1)
  flat_where_level same =
      let o = point_at ns (i + 1) in
      let p = point_at ns i in
      let ends = level o p l r (reaches_left ns (i + 1) l r f i (omega arith)) same in
      straight_on_line o p (λ s. f.differ i f.apex_within (sym s)) (whole r) (whole l) (whole o) ends.1 ends.0
      (determinant_same_ends (whole o) (whole p))

  -- the way from the apex to the left end, over it to the right end, does not turn left
  opening_by_points : i + 1 + 1 < length ns
      → ¬ IsLeft (whole (point_at ns (i + 1))) (whole (point_at ns i)) (whole (point_at ns (i + 1 + 1)))
  opening_by_points h =
      let e : i + 1 - 1 ≡ i = omega arith in
      subst (λ n. ¬ IsLeft (whole (point_at ns (i + 1))) (whole (point_at ns n)) (whole (point_at ns (i + 1 + 1)))) e
      (f.opening (omega arith) h)

  -- no point that is not above the diagonal is left of the left edge and right of the right one
  pub not_between_edges : (y : Triple) → IsPoint y → height_over l r y ≤ℤ pos 0 → i + 1 + 1 < length ns
      → IsRight (whole (point_at ns (i + 1))) (whole (point_at ns (i + 1 + 1))) y
      → ¬ IsLeft (whole (point_at ns (i + 1))) (whole (point_at ns i)) y
  not_between_edges y at_y low h right left =
      let o = point_at ns (i + 1) in
      let p = point_at ns i in
      let q = point_at ns (i + 1 + 1) in
      let above = not_negative ns (i + 1) l r f (i + 1) f.apex_within in
      let same = level_between p o q l r y at_y above low (opening_by_points h) left right (lower_left ns (i + 1) l r f i (omega arith))
      (lower_right ns (i + 1) l r f (i + 1) (omega arith) h) in
      let flat = flat_where_level same in
      not_ends p o q l r y at_y above low (opening_by_points h) left right (left_of_apex ns (i + 1) l r f flat i refl)
      (right_of_apex ns (i + 1) l r f flat h)

-- ---- the test of one edge

module _ (ns : List Point) (a : ℕ) (y : Triple) where
  -- what it is that edge i + 1 is passed
  abbrev pub IsPassedFrom : ℕ → Type 0
  IsPassedFrom i =
      ((i < a) × (¬ IsLeft (whole (point_at ns (i + 1))) (whole (point_at ns i)) y))
      ⊎ ((a ≤ i) × IsRight (whole (point_at ns i)) (whole (point_at ns (i + 1))) y)

  -- the same by the number of the edge,
  pub passed_of : (i : ℕ) → IsPassedFrom i → IsPassed ns a (i + 1) y
  passed_of i h =
      let e : i ≡ i + 1 - 1 = omega arith in
      elim h [
        | inl k ↦ inl (omega (arith, k.0), subst (λ n. ¬ IsLeft (whole (point_at ns (i + 1))) (whole (point_at ns n)) y) e k.1)
        | inr k ↦ inr (omega (arith, k.0), subst (λ n. IsRight (whole (point_at ns n)) (whole (point_at ns (i + 1))) y) e k.1)
      ]

  -- and back
  pub passed_from : (i : ℕ) → IsPassed ns a (i + 1) y → IsPassedFrom i
  passed_from i h =
      let e : i + 1 - 1 ≡ i = omega arith in
      elim h [
        | inl k ↦ inl (omega (arith, k.0), subst (λ n. ¬ IsLeft (whole (point_at ns (i + 1))) (whole (point_at ns n)) y) e k.1)
        | inr k ↦ inr (omega (arith, k.0), subst (λ n. IsRight (whole (point_at ns n)) (whole (point_at ns (i + 1))) y) e k.1)
      ]

-- ---- the tests of two edges

module _ (ns : List Point) (a : ℕ) (l r : Point) (f : IsFunnel ns a l r) (y : Triple) (at_y : IsPoint y) (low : height_over l r y ≤ℤ pos 0) where
  -- points of the funnel on the line of the diagonal are in line with y, where it is there too
  on_line : (i j : ℕ) → IsFlat ns l r i → IsFlat ns l r j → height_over l r y ≡ pos 0
      → IsStraight (whole (point_at ns i)) (whole (point_at ns j)) y
  on_line i j = straight_on_line r l (λ s. f.ends_differ (sym s)) (whole (point_at ns i)) (whole (point_at ns j)) y

  -- of two left edges the one nearer to the left end is passed, where the other is,
  before_left : (i : ℕ) → i + 1 < a → ¬ IsLeft (whole (point_at ns (i + 1 + 1))) (whole (point_at ns (i + 1))) y
      → ¬ IsLeft (whole (point_at ns (i + 1))) (whole (point_at ns i)) y
  before_left i h not_left left =
      let within = f.apex_within in
      let both = outer_left (point_at ns (i + 1 + 1)) (point_at ns (i + 1)) (point_at ns i) l r y at_y
      (not_negative ns a l r f (i + 1) (omega arith)) low (turn_left ns a l r f i h)
      (lower_left ns a l r f (i + 1) h) (lower_left ns a l r f i (omega arith)) not_left left in
      positive_not_zero left (on_line (i + 1) i both.0 (flat_left ns a l r f i (omega arith) both.0) both.1)

  -- of two right edges the one nearer to the apex,
  before_right : (i : ℕ) → a ≤ i → i + 1 + 1 < length ns → IsRight (whole (point_at ns (i + 1))) (whole (point_at ns (i + 1 + 1))) y
      → IsRight (whole (point_at ns i)) (whole (point_at ns (i + 1))) y
  before_right i h k right = elim (lt_or_le (determinant (whole (point_at ns i)) (whole (point_at ns (i + 1))) y) (pos 0)) [
    | inl also ↦ also
    | inr not ↦
        let both = outer_right (point_at ns i) (point_at ns (i + 1)) (point_at ns (i + 1 + 1)) l r y at_y
        (not_negative ns a l r f (i + 1) (omega arith)) low (turn_right ns a l r f i h k)
        (lower_right ns a l r f i h (omega arith)) (lower_right ns a l r f (i + 1) (omega arith) k) not right in
        absurd (negative_not_zero right
        (on_line (i + 1) (i + 1 + 1) both.0 (flat_right ns a l r f (i + 1) (omega arith) k both.0) both.1))
  ]

  -- and of two edges each the one before the other
  before : (i : ℕ) → i + 1 + 1 < length ns → IsPassedFrom ns a y (i + 1) → IsPassedFrom ns a y i
  before i h (inl k) = inl (omega (arith, k.0), before_left i k.0 k.1)
  before i h (inr k) = elim (cases_lt i a) [
    | inr right ↦ inr (right, before_right i right h k.1)
    | inl apex ↦
        let e : a ≡ i + 1 = omega (arith, k.0) in
        inl (apex, not_between_edges ns i l r (subst (λ n. IsFunnel ns n l r) e f) y at_y low h k.1)
  ]

  -- so with an edge all so many places before it are passed,
  passed_back : (k i : ℕ) → i + k + 1 < length ns → IsPassedFrom ns a y (i + k) → IsPassedFrom ns a y i
  passed_back zero i h passed = let same : i + 0 ≡ i = omega arith in subst (IsPassedFrom ns a y) same passed
  passed_back (suc k) i h passed =
      let same : i + suc k ≡ i + k + 1 = omega arith in
      passed_back k i (omega arith) (before (i + k) (omega arith) (subst (IsPassedFrom ns a y) same passed))

  -- and all before it,
  passed_each_before : (i k : ℕ) → i < k → k < length ns → IsPassed ns a k y → IsPassed ns a (i + 1) y
  passed_each_before i k h within passed =
      let last : k ≡ k - 1 + 1 = omega arith in
      let far : k - 1 ≡ i + (k - 1 - i) = omega arith in
      passed_of ns a y i (passed_back (k - 1 - i) i (omega arith)
      (subst (IsPassedFrom ns a y) far (passed_from ns a y (k - 1) (subst (λ n. IsPassed ns a n y) last passed))))

  module _ (h : ℕ) (reached : IsReachedFrom ns a h y) where
    -- so it passes each edge to the place from which the point is reached,
    pub passed_to : (j : ℕ) → 0 < j → j ≤ h → IsPassed ns a j y
    passed_to j some at = elim (cases_lt j h) [
      | inl before ↦
          let same : j - 1 + 1 ≡ j = omega arith in
          subst (λ n. IsPassed ns a n y) same (passed_each_before (j - 1) h (omega arith) reached.within (reached.passed (omega arith)))
      | inr last ↦ let same : h ≡ j = omega arith in subst (λ n. IsPassed ns a n y) same (reached.passed (omega arith))
    ]

    -- and none after it
    pub not_passed_from : (j : ℕ) → h < j → j < length ns → ¬ IsPassed ns a j y
    not_passed_from j after within passed = reached.not_passed (omega arith) (passed_each_before h j after within passed)

module _ (ns : List Point) (a : ℕ) (l r : Point) (f : IsFunnel ns a l r) (h : ℕ) (y : Triple) (reached : IsReachedFrom ns a h y) where
  -- from a place of the left chain the point is left of the way over that place,
  pub left_of_way : h < a → IsLeft (whole (point_at ns (h + 1))) (whole (point_at ns h)) y
  left_of_way on_left = elim (lt_or_le (pos 0) (determinant (whole (point_at ns (h + 1))) (whole (point_at ns h)) y)) [
    | inl is ↦ is
    | inr none ↦
        let top = f.apex_within in
        absurd (reached.not_passed (omega arith) (passed_of ns a y h (inl (on_left, λ left. not_both_positive left none))))
  ]

  -- and from one of the right chain right of it
  pub right_of_way : a < h → IsRight (whole (point_at ns (h - 1))) (whole (point_at ns h)) y
  right_of_way on_right = elim (reached.passed (omega arith)) [ inr is ↦ is.1 | inl is ↦ absurd (omega (arith, is.0)) ]
