-- At an end of a shared side, and a point of the triangle beyond it: a bend from the end to the other one goes on to the point, and turns
-- the same way; and a fan from a point round to the side makes a bend, where the way over the end turns off past the side.
-- At the corner of a triangle beyond the diagonal fans begin with the way back to the point of the funnel that it is reached from.
-- The ends of the next funnel, on the side from the corner beyond the diagonal to its right end, or to its left end.
use Rattle.std.proofs.Common.{◌≡◌, Bool, refl, sym, ℕ, ◌<◌, pos, ◌<ℤ◌, ◌≤ℤ◌, List, length, true, false, subst, inl, inr, ap, ◌∙◌, [], ◌∷◌}
use Rattle.std.proofs.Common.{◌++◌, drop, take, ◌+◌, ◌-◌, min, arith}
use Rattle.std.proofs.lemmas.Bool.{cases_lt}
use Rattle.integer_algebra.proofs.SignSteps.{not_both, turned_positive, zero_not_positive, at_least_unless, at_most_unless, turned_negative}
use Rattle.integer_algebra.proofs.SignSteps.{turned_not_negative, positive_not_negative}
use Rattle.integer_algebra.proofs.Signs.{is_negative, is_positive, is_zero, sign}
use Rattle.plane.proofs.Points.{same_whole, whole_is_point}
use Rattle.plane.proofs.Segments.{on_reversed}
use Rattle.plane.proofs.Turns.{determinant_shift, determinant_swap_first}
use Rattle.plane.specs.Prelude.{height_over, IsLeft, IsRight, IsSame, Point, whole}
use Rattle.rings.specs.Prelude.{IsBend, point_at, Sees, vertex}
use Rattle.meshes.proofs.TreeLeaves.{turns_left}
use Rattle.meshes.specs.Prelude.{Fits, HasSide, IsInTri, tri_at}
use Rattle.meshes.specs.declared.tri.Tri.{Tri}
use Rattle.funnels.proofs.Bends.{AreOnRay, bend_of_fan, corner_in_ring, corner_turns, grown_bend, grown_turning, in_angle, last_step}
use Rattle.funnels.proofs.Bends.{on_after, on_ray_back, turning_differs_first, turning_swap, turning_to_ray, wider_bend, fan_begins}
use Rattle.funnels.proofs.Bends.{within_back, fan_goes_on}
use Rattle.funnels.proofs.Chains.WaysBefore.{before_apex_left, before_apex_right, before_last_left, before_last_right}
use Rattle.funnels.proofs.Funnels.{not_negative, reaches_new, left_place, next_left_length, next_right_length, next_right_old}
use Rattle.funnels.proofs.Vertices.{IsSharedSide, fitted_counterclockwise, fitted_long, fitted_simple, shared_side_back}
use Rattle.funnels.specs.Corner.{HasCornerOn, IsInAngle}
use Rattle.funnels.specs.Fanned.{IsFanned, turning, IsOpenToward}
use Rattle.funnels.specs.Funnel.{IsFunnel, IsReachedFrom, IsPassed}
use Rattle.funnels.specs.OpenFunnel.{HasOpenEnds, IsBeforeFirst, IsBeforeLast, left_behind, right_behind}

module _ (corners : List Point) (tris : List Tri) (fits : Fits corners tris) (k : ℕ) (within : k < length tris)
    (side : Bool) (before v after : ℕ) (corner : HasCornerOn side (tri_at tris k) before v after)
    (y : Point) (inside : IsInTri corners (tri_at tris k) (whole y)) where
  -- the end, and the other one
  abbrev V : Point
  V = vertex corners v

  abbrev A : Point
  A = vertex corners after

  -- y is within the angle at the end
  angle : IsInAngle side corners before v after (whole y)
  angle = in_angle corners tris fits k within side before v after corner (whole y) inside

  -- in line with the side, it is on the ray along it
  on_ray : ¬ IsSame (whole y) (whole V) → turning side V (whole A) (whole y) ≡ pos 0 → AreOnRay (whole V) (whole A) (whole y)
  on_ray differs level = on_ray_back (record {
    first_rational = whole_is_point y;
    last_rational = whole_is_point A;
    first_differs = differs;
    last_differs = turning_differs_first side V (whole A) (whole (vertex corners before))
        (corner_turns corners tris fits k within side before v after corner);
    on_ray = on_after corners tris fits k within side before v after corner (whole y) (whole_is_point y) differs level angle.to_before;
  })

  -- a bend at the end goes on to y,
  pub bend_goes_on : IsSharedSide tris v after → ¬ (V ≡ y) → (q : Point) → IsBend corners q V A
      → turning side V (whole q) (whole A) <ℤ pos 0 → (turning side V (whole q) (whole y) <ℤ pos 0) × IsBend corners q V y
  bend_goes_on shared other q bend wide = elim (sign (turning side V (whole A) (whole y))) [
    | is_negative h ↦ absurd (not_both h angle.from_after)
    | is_zero h ↦
        let ray = on_ray (λ same. other (sym (same_whole y V same))) h in
        let turns = (turning_to_ray V side (whole A) (whole y) (whole q) ray).negative wide in
        (turns, wider_bend side corners q V A y bend wide turns (zero_not_positive h))
    | is_positive h ↦ (
      grown_turning corners tris fits k within side before v after corner shared q y bend wide inside h,
      grown_bend corners tris fits k within side before v after corner shared q y bend wide inside h,
    )
  ]

  module _ (x : Point) (behind : turning side V (whole x) (whole y) <ℤ pos 0) (reach : pos 0 ≤ℤ turning side V (whole x) (whole A)) where
    -- where the way from x over the end to y turns off past the side, y is beyond that,
    past_side : pos 0 <ℤ turning side V (whole A) (whole y)
    past_side = elim (sign (turning side V (whole A) (whole y))) [
      | is_negative h ↦ absurd (not_both h angle.from_after)
      | is_zero h ↦
          let differs = turning_differs_first side V (whole y) (whole x)
          (turned_positive (turning_swap side V (whole x) (whole y)) behind) in
          absurd (not_both behind ((turning_to_ray V side (whole A) (whole y) (whole x) (on_ray differs h)).not_negative reach))
      | is_positive h ↦ h
    ]

    -- so a fan from x makes a bend there
    pub bend_from_fan : IsFanned side corners V (whole x) (whole A) → ¬ (x ≡ V) → Sees corners (whole V) (whole y) → IsBend corners x V y
    bend_from_fan fanned differ seen =
        bend_of_fan corners (fitted_simple corners tris fits) (fitted_long corners tris fits) (fitted_counterclockwise corners tris fits) v
        (corner_in_ring corners tris fits k within side before v after corner) side V refl x y (whole A) fanned
        (last_step corners tris fits k within side before v after corner (whole y) inside past_side) (whole_is_point y, seen) differ behind

module _ (corners : List Point) (tris : List Tri) (fits : Fits corners tris) (k i j m : ℕ) (within : k < length tris)
    (first : HasSide (tri_at tris k) i j) (second : HasSide (tri_at tris k) j m) (third : HasSide (tri_at tris k) m i) where
  -- its corner m is left of the side from i to j,
  pub corner_left : IsLeft (whole (vertex corners i)) (whole (vertex corners j)) (whole (vertex corners m))
  corner_left = turns_left corners (tri_at tris k) (fits.triangles k within).counterclockwise i j m first second

  -- and so beyond it
  pub corner_beyond : height_over (vertex corners i) (vertex corners j) (whole (vertex corners m)) <ℤ pos 0
  corner_beyond =
      turned_negative
      (determinant_swap_first (whole (vertex corners i)) (whole (vertex corners j)) (whole (vertex corners m))) corner_left

  module _ (ns : List Point) (a : ℕ) (f : IsFunnel ns a (vertex corners i) (vertex corners j)) (h : ℕ)
      (reached : IsReachedFrom ns a h (whole (vertex corners m))) where
    -- the point that it is reached from is another point,
    pub corner_differs : ¬ (point_at ns h ≡ vertex corners m)
    corner_differs same =
        let l = vertex corners i in
        let r = vertex corners j in
        not_both corner_beyond (subst (λ (p : Point). pos 0 ≤ℤ height_over l r (whole p)) same (not_negative ns a l r f h reached.within))

    -- and the way from there meets the diagonal, so seen from m it is between i and j
    within_corner : IsInAngle true corners j m i (whole (point_at ns h))
    within_corner =
        let M = whole (vertex corners m) in
        let P = whole (point_at ns h) in
        let meets = reaches_new ns a (vertex corners i) (vertex corners j) f h (vertex corners m) corner_beyond reached in
        record {
          from_after = subst (λ d. pos 0 ≤ℤ d) (sym (determinant_shift P M (whole (vertex corners i)))) (at_least_unless meets.not_right);
          to_before = turned_not_negative (determinant_swap_first P M (whole (vertex corners j))) (at_most_unless meets.not_left);
        }

    module _ (sees : Sees corners (whole (point_at ns h)) (whole (vertex corners m))) where
      -- the ring is open to it,
      open_back : IsOpenToward corners (vertex corners m) (whole (point_at ns h))
      open_back = (
        whole_is_point (point_at ns h),
        λ x at_x on. sees x at_x (on_reversed x (whole (vertex corners m)) (whole (point_at ns h)) on),
      )

      -- so a fan begins there on to j, where the side to j is shared,
      pub fan_to_right : IsSharedSide tris m j → IsFanned true corners (vertex corners m) (whole (point_at ns h)) (whole (vertex corners j))
      fan_to_right shared =
          fan_begins corners tris fits k within true j m i (second, third) shared (whole (point_at ns h)) open_back
          (λ same. corner_differs (same_whole (point_at ns h) (vertex corners m) same)) within_corner

      -- and a clockwise one to i, where the side to i is
      pub fan_to_left : IsSharedSide tris m i → IsFanned false corners (vertex corners m) (whole (point_at ns h)) (whole (vertex corners i))
      fan_to_left shared =
          fan_begins corners tris fits k within false i m j (third, second) shared (whole (point_at ns h)) open_back
          (λ same. corner_differs (same_whole (point_at ns h) (vertex corners m) same))
          (within_back true corners j m i (whole (point_at ns h)) within_corner)

-- ---- the points beside the ends of the next funnel on the left

module _ (before ns : List Point) (a h : ℕ) (m x : Point) (apex : a < length ns) (within : h < length ns) where
  -- the point at place h comes after the first of the next funnel,
  first_is_old : IsBeforeFirst (before ++ right_behind ns a (h - a)) (m ∷ drop h ns) (a - h + 1) x → x ≡ point_at ns h
  first_is_old (inl e) =
      let place : h + 1 - 1 ≡ h = omega arith in
      e.1 ∙ left_place ns m h 1 (omega arith) ∙ ap (point_at ns) place
  first_is_old (inr e) = absurd (omega (arith, e.0))

  -- and what comes before the last came before it in the old one
  before_last_next : IsBeforeLast (before ++ right_behind ns a (h - a)) (m ∷ drop h ns) (a - h + 1) x → IsBeforeLast before ns a x
  before_last_next (inl e) =
      let count = next_left_length ns m h within in
      let many = length (m ∷ drop h ns) in
      let place : h + (many - 2) - 1 ≡ length ns - 2 = omega (arith, e.0) in
      inl (omega (arith, e.0), e.1 ∙ left_place ns m h (many - 2) (omega (arith, e.0)) ∙ ap (point_at ns) place)
  before_last_next (inr e) =
      let count = next_left_length ns m h within in
      elim (cases_lt a h) [
        | inr all ↦ inr (omega (arith, e.0), before_apex_right ns before a h x all e.1)
        | inl some ↦
            let place : h - 1 ≡ length ns - 2 = omega (arith, e.0) in
            inl (omega (arith, e.0), before_last_right ns before a h x some e.1 ∙ ap (point_at ns) place)
      ]

-- an only edge on the left is passed by the way to each point beyond
passed_only : (ns : List Point) (a : ℕ) (l r m : Point) → IsFunnel ns a l r → a ≡ 1 → length ns ≡ 2
    → height_over l r (whole m) <ℤ pos 0 → IsPassed ns a 1 (whole m)
passed_only ns a l r m f one two beyond =
    let end : length ns - 1 ≡ 1 = omega arith in
    let last : point_at ns 1 ≡ r = ap (point_at ns) (sym end) ∙ f.last in
    let left = λ (p q : Point). IsLeft (whole p) (whole q) (whole m) in
    inl (
      omega arith,
      subst (λ q. ¬ left (point_at ns 1) q) (sym f.first)
          (subst (λ p. ¬ left p l) (sym last) (λ is. positive_not_negative is beyond)),
    )

-- ---- and on the right

module _ (before ns : List Point) (a h : ℕ) (m x : Point) (within : h < length ns) where
  -- what comes before the first point of the next funnel came before it in the old one
  before_first_next : IsBeforeFirst (before ++ left_behind ns a (a - h)) (take (h + 1) ns ++ m ∷ []) (min a h) x
      → IsBeforeFirst before ns a x
  before_first_next (inl e) = inl (omega (arith, e.0), e.1 ∙ next_right_old ns m h within 1 (omega (arith, e.0)))
  before_first_next (inr e) = elim (cases_lt h a) [
    | inr all ↦ inr (omega (arith, e.0), before_apex_left ns before a h x all e.1)
    | inl some ↦
        let place : h + 1 ≡ 1 = omega (arith, e.0) in
        inl (omega arith, before_last_left ns before a h x some e.1 ∙ ap (point_at ns) place)
  ]

  -- and the point at place h comes before the last
  last_is_old : IsBeforeLast (before ++ left_behind ns a (a - h)) (take (h + 1) ns ++ m ∷ []) (min a h) x
      → x ≡ point_at ns h
  last_is_old (inl e) =
      let count = next_right_length ns m h within in
      let place : length (take (h + 1) ns ++ m ∷ []) - 2 ≡ h = omega arith in
      e.1 ∙ ap (point_at (take (h + 1) ns ++ m ∷ [])) place ∙ next_right_old ns m h within h (omega arith)
  last_is_old (inr e) =
      let count = next_right_length ns m h within in
      absurd (omega (arith, e.0))

-- a left turn at an only edge is not passed on the right
not_passed_only : (ns : List Point) (a : ℕ) (l r m : Point) → IsFunnel ns a l r → a ≡ 0 → length ns ≡ 2
    → IsLeft (whole l) (whole r) (whole m) → ¬ IsPassed ns a 1 (whole m)
not_passed_only ns a l r m f none two left (inl e) = absurd (omega (arith, e.0))
not_passed_only ns a l r m f none two left (inr e) =
    let end : length ns - 1 ≡ 1 = omega arith in
    let last : point_at ns 1 ≡ r = ap (point_at ns) (sym end) ∙ f.last in
    let right = λ (p q : Point). IsRight (whole p) (whole q) (whole m) in
    positive_not_negative left (subst (λ p. right p r) f.first (subst (λ q. right (point_at ns 0) q) last e.1))

-- ---- the ends

module _ (corners : List Point) (tris : List Tri) (fits : Fits corners tris) (k i j m : ℕ) (in_list : k < length tris)
    (first : HasSide (tri_at tris k) i j) (second : HasSide (tri_at tris k) j m) (third : HasSide (tri_at tris k) m i)
    (before ns : List Point) (a : ℕ) (f : IsFunnel ns a (vertex corners i) (vertex corners j))
    (ends : HasOpenEnds corners before ns a (vertex corners i) (vertex corners j))
    (h : ℕ) (reached : IsReachedFrom ns a h (whole (vertex corners m)))
    (sees : Sees corners (whole (point_at ns h)) (whole (vertex corners m))) where
  -- where the side from m to j is shared, the ring is open at the ends of the next funnel there,
  pub ends_left : IsSharedSide tris m j
      → HasOpenEnds corners (before ++ right_behind ns a (h - a)) (vertex corners m ∷ drop h ns) (a - h + 1)
      (vertex corners m) (vertex corners j)
  ends_left shared =
      let p = vertex corners m in
      let apex = f.apex_within in
      let within = reached.within in
      let count = next_left_length ns p h within in
      record {
        left = λ q is.
            subst (λ (n : Point). IsFanned true corners p (whole n) (whole (vertex corners j)))
            (sym (first_is_old before ns a h p q apex within is))
            (fan_to_right corners tris fits k i j m in_list first second third ns a f h reached sees shared);
        right = λ q is.
            fan_goes_on corners tris fits k in_list false m j i (second, first) (shared_side_back shared) (whole q)
            (ends.right q (before_last_next before ns a h p q apex within is));
        short_left = λ none. absurd (omega arith);
        short_right = λ all. elim (cases_lt h a) [
          | inr after ↦ omega arith
          | inl some ↦
              let two = ends.short_right (omega arith) in
              let one : a ≡ 1 = omega arith in
              let next : h + 1 ≡ 1 = omega arith in
              absurd (reached.not_passed (omega arith) (subst (λ n. IsPassed ns a n (whole p)) (sym next)
              (passed_only ns a (vertex corners i) (vertex corners j) p f one two
              (corner_beyond corners tris fits k i j m in_list first second third))))
        ];
      }

  -- and where that from i to m is, at the ends of the next funnel there
  pub ends_right : IsSharedSide tris i m
      → HasOpenEnds corners (before ++ left_behind ns a (a - h)) (take (h + 1) ns ++ vertex corners m ∷ []) (min a h)
      (vertex corners i) (vertex corners m)
  ends_right shared =
      let p = vertex corners m in
      let within = reached.within in
      let count = next_right_length ns p h within in
      record {
        left = λ q is.
            fan_goes_on corners tris fits k in_list true m i j (third, first) shared (whole q)
            (ends.left q (before_first_next before ns a h p q within is));
        right = λ q is.
            subst (λ (n : Point). IsFanned false corners p (whole n) (whole (vertex corners i)))
            (sym (last_is_old before ns a h p q within is))
            (fan_to_left corners tris fits k i j m in_list first second third ns a f h reached sees
            (shared_side_back shared));
        short_left = λ none. elim (cases_lt 0 h) [
          | inr start ↦ omega arith
          | inl some ↦
              let apex : a ≡ 0 = omega arith in
              let two = ends.short_left apex in
              let one : h ≡ 1 = omega arith in
              absurd (not_passed_only ns a (vertex corners i) (vertex corners j) p f apex two
              (corner_left corners tris fits k i j m in_list first second third)
              (subst (λ n. IsPassed ns a n (whole p)) one (reached.passed some)))
        ];
        short_right = λ all. absurd (omega arith);
      }
