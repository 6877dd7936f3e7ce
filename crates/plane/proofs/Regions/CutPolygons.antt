-- A polygon of which a line cuts some corners away: what is left has the points that are not right of the line, no more and no less.
use Rattle.std.proofs.Common.{◌≡◌, inl, inr, sym, subst, ◌∙◌, ℕ, ◌+◌, ◌-◌, ◌<◌, ◌≤◌, arith, List, [], ◌∷◌, ◌++◌, length, take, ℤ, pos, ◌≤ℤ◌, ◌<ℤ◌}
use Rattle.std.proofs.lemmas.Bool.{cases_eq, cases_lt}
use Rattle.std.proofs.lemmas.Int.{ints}
use Rattle.std.proofs.lemmas.List.{append-nil, length_push}
use Rattle.integer_algebra.proofs.SignSteps.{mean_not_negative, positive_not_zero, turned_negative, zero_not_negative, zero_not_positive}
use Rattle.plane.proofs.Points.{same_sym}
use Rattle.plane.proofs.Regions.Beside.{all_with, corner_beside, corner_beside_last, first_of_three, meeting_beside, not_right_by_left, not_right_by_right}
use Rattle.plane.proofs.Regions.Beside.{region_of_one, region_of_two, two_of_three}
use Rattle.plane.proofs.Regions.Corners.{all_first, first_corner, left_shift, left_shift_back, length_first}
use Rattle.plane.proofs.Regions.CutCorners.{convex_both, left_of_back, left_of_both, left_of_front}
use Rattle.plane.proofs.Regions.LineMeetings.{Ends, IsMeeting, at_corner, at_meeting}
use Rattle.plane.proofs.Regions.Fans.{IsFanned, fanned, region_not_right}
use Rattle.plane.proofs.Regions.Sides.{IsInSides, IsNotRight, along_first, along_more, region_of_sides, sides_of_along, sides_of_region}
use Rattle.plane.proofs.Regions.Weighing.{no_last_weight, no_middle_weight}
use Rattle.plane.proofs.Segments.{on_first_end, on_same_point}
use Rattle.plane.proofs.Turns.{determinant_along, determinant_along_first, determinant_same_first, determinant_same_last, determinant_shift_back}
use Rattle.plane.proofs.Turns.{determinant_swap_first, on_of_combination}
use Rattle.plane.specs.Convex.{AreConvex, corner}
use Rattle.plane.specs.Prelude.{IsLeft, IsPoint, IsRight, IsSame, IsStraight, On, Triple}
use Rattle.plane.specs.Region.{IsInRegion}

-- what is negative is not positive
below_not_above : {z : ℤ} → z <ℤ pos 0 → z ≤ℤ pos 0
below_not_above h = omega (arith, ints)

module _ (a b : Triple) (cs : List Triple) (convex : AreConvex cs) (many : 3 ≤ length cs) (m : ℕ) (some : 0 < m) (rest : m < length cs)
    (kept : (i : ℕ) → i < m → IsNotRight a b (corner cs i)) (gone : (i : ℕ) → m ≤ i → i < length cs → IsRight a b (corner cs i))
    (es fs : List Triple) (back : Ends a b (corner cs (m - 1)) (corner cs m) es)
    (front : Ends a b (corner cs 0) (corner cs (length cs - 1)) fs) where
  abbrev left_over : List Triple
  left_over = (take m cs ++ es) ++ fs

  -- ---- no point more

  -- a line that no corner is right of has no new corner to its right
  not_right_of_new : (x y : Triple) → ((i : ℕ) → i < length cs → IsNotRight x y (corner cs i))
      → (i : ℕ) → i < length left_over → IsNotRight x y (corner left_over i)
  not_right_of_new x y all =
      all_with (IsNotRight x y) a b _ _ (take m cs ++ es) fs front
      (λ z h. meeting_beside a b _ _ x y z h (all 0 (omega (arith, many))) (all (length cs - 1) (omega (arith, many))))
      (all_with (IsNotRight x y) a b _ _ (take m cs) es back
      (λ z h. meeting_beside a b _ _ x y z h (all (m - 1) (omega (arith, rest))) (all m rest))
      (all_first cs m rest (IsNotRight x y) (λ i less. all i (omega (arith, less, rest)))))

  -- no new corner is right of the line of the cut
  new_not_right : (i : ℕ) → i < length left_over → IsNotRight a b (corner left_over i)
  new_not_right =
      all_with (IsNotRight a b) a b _ _ (take m cs ++ es) fs front (λ z h. zero_not_negative h.straight)
      (all_with (IsNotRight a b) a b _ _ (take m cs) es back (λ z h. zero_not_negative h.straight)
      (all_first cs m rest (IsNotRight a b) kept))

  -- so what is left is part of the polygon, and not right of the line
  module _ (p : Triple) (at_p : IsPoint p) (h : IsInRegion left_over p) where
    new_not_right_of : (x y : Triple) → ((i : ℕ) → i < length left_over → IsNotRight x y (corner left_over i)) → IsNotRight x y p
    new_not_right_of x y = region_not_right x y left_over p (convex_both a b cs convex m some rest many es fs back front) at_p h

    pub polygon_no_more : IsInRegion cs p × IsNotRight a b p
    polygon_no_more = (
      region_of_sides cs p many (record {
        along = λ i more.
            let x = corner cs i in
            let y = corner cs (i + 1) in
            new_not_right_of x y (not_right_of_new x y (λ j in_j. corner_beside cs convex i j more in_j));
        closing =
            let x = corner cs (length cs - 1) in
            let y = corner cs 0 in
            new_not_right_of x y (not_right_of_new x y (corner_beside_last cs convex));
      }),
      new_not_right_of a b new_not_right,
    )

  -- ---- no point less

  module _ (p : Triple) (at_p : IsPoint p) (sides : IsInSides cs p) (above : IsNotRight a b p) where
    -- p is not right of what is left of the side after the last that stays,
    beside_back : (x : Triple) → IsMeeting a b (corner cs (m - 1)) (corner cs m) x → IsNotRight (corner cs (m - 1)) x p
    beside_back x h =
        let c = corner cs (m - 1) in
        let d = corner cs m in
        let side : IsNotRight c d p = subst (λ k. IsNotRight c (corner cs k) p) (omega (arith, some))
        (sides.along (m - 1) (omega (arith, some, rest))) in
        subst (λ (z : ℤ). pos 0 ≤ℤ z) (determinant_shift_back c x p)
        (mean_not_negative h.mean.k h.mean.l h.mean.m _ _ _ h.mean.k_positive h.mean.l_nonnegative h.mean.m_nonnegative
        (determinant_along x c d h.mean p c) (zero_not_negative (determinant_same_last p c))
        (subst (λ (z : ℤ). pos 0 ≤ℤ z) (sym (determinant_shift_back c d p)) side))

    -- nor of the side before the first
    beside_front : (y : Triple) → IsMeeting a b (corner cs 0) (corner cs (length cs - 1)) y → IsNotRight y (corner cs 0) p
    beside_front y h =
        let c = corner cs 0 in
        mean_not_negative h.mean.k h.mean.l h.mean.m _ _ _ h.mean.k_positive h.mean.l_nonnegative h.mean.m_nonnegative
        (determinant_along_first y c (corner cs (length cs - 1)) h.mean c p) (zero_not_negative (determinant_same_first c p)) sides.closing

    -- where no side is on the line, two corners stay at most: p is the first or between them
    few_on : m ≤ 2 → IsStraight a b (corner cs 0) → IsStraight a b (corner cs (m - 1)) → IsFanned cs p → IsInRegion (take m cs) p
    few_on few first last fan =
        let f = fan.mean in
        let inner = fan.inner in
        let farther : IsRight a b (corner cs (fan.j + 1)) = gone (fan.j + 1) (omega (arith, few, inner)) fan.within in
        let count = length_first cs m rest in
        elim (cases_lt fan.j m) [
          | inl less ↦
              let two : m ≡ 2 = omega (arith, less, inner, few) in
              let next : m - 1 ≡ fan.j = omega (arith, two, less, inner) in
              let straight : IsStraight a b (corner cs fan.j) = subst (λ k. IsStraight a b (corner cs k)) next last in
              let none = no_last_weight f.k f.u f.v f.w _ _ _ _ f.k_positive f.u_nonnegative f.v_nonnegative f.w_nonnegative (f.beside a b)
              first (zero_not_positive straight) farther above in
              let on : On p (corner cs 0) (corner cs fan.j) = on_of_combination p _ _ at_p (convex.rational 0 (omega (arith, many)))
              (convex.rational fan.j (omega (arith, less, rest))) (two_of_three p _ _ _ f none) in
              let second : fan.j ≡ 1 = omega (arith, two, less, inner) in
              region_of_two (take m cs) p (count ∙ two)
              (subst (λ (t : Triple). On p t (corner (take m cs) 1)) (sym (first_corner cs m rest 0 some))
              (subst (λ (t : Triple). On p (corner cs 0) t) (sym (first_corner cs m rest 1 (omega (arith, two))))
              (subst (λ k. On p (corner cs 0) (corner cs k)) second on)))
          | inr not ↦
              let right : IsRight a b (corner cs fan.j) = gone fan.j not (omega (arith, fan.within)) in
              let none = no_last_weight f.k f.u f.v f.w _ _ _ _ f.k_positive f.u_nonnegative f.v_nonnegative f.w_nonnegative (f.beside a b)
              first (below_not_above right) farther above in
              let second = no_middle_weight f.k f.u f.v f.w _ _ _ _ f.k_positive f.u_nonnegative f.v_nonnegative f.w_nonnegative
              (f.beside a b)
              first right (below_not_above farther) above in
              let same : IsSame p (corner cs 0) = first_of_three p _ _ _ f none second in
              elim (cases_eq m 1) [
                | inl one ↦ region_of_one (take m cs) p (count ∙ one)
                    (subst (λ (t : Triple). IsSame p t) (sym (first_corner cs m rest 0 some)) same)
                | inr n ↦
                    region_of_two (take m cs) p (omega (arith, count, n, some, few))
                    (subst (λ (t : Triple). On p t (corner (take m cs) 1)) (sym (first_corner cs m rest 0 some))
                    (on_same_point (convex.rational 0 (omega (arith, many))) (same_sym same)
                    (on_first_end (corner cs 0) (corner (take m cs) 1))))
              ]
        ]

    -- ---- with neither meeting, one of them, or both

    kept_only : IsStraight a b (corner cs 0) → IsStraight a b (corner cs (m - 1)) → IsInRegion (take m cs) p
    kept_only first last = elim (cases_lt 2 m) [
      | inr few ↦ few_on few first last (fanned cs p convex many sides)
      | inl more ↦
          region_of_sides (take m cs) p (omega (arith, more, length_first cs m rest))
          (sides_of_along _ _ (take m cs) p (along_first cs p m some rest sides)
          (not_right_by_right a b (corner cs (m - 1)) (corner cs 0) (corner cs m) p last first above
          (turned_negative (determinant_swap_first (corner cs 0) (corner cs (m - 1)) (corner cs m))
          (convex.left 0 (m - 1) m (omega (arith, more)) (omega (arith, some)) rest)) (gone m (omega arith) rest)))
    ]

    kept_and_back : (x : Triple) → IsStraight a b (corner cs 0) → IsLeft a b (corner cs (m - 1))
        → IsMeeting a b (corner cs (m - 1)) (corner cs m) x → IsInRegion (take m cs ++ x ∷ []) p
    kept_and_back x first left h =
        let two : 1 < m = elim (cases_lt 1 m) [
          | inl more ↦ more
          | inr one ↦
              let e : m - 1 ≡ 0 = omega (arith, one) in
              absurd (positive_not_zero left (subst (λ k. IsStraight a b (corner cs k)) (sym e) first))
        ] in
        region_of_sides (take m cs ++ x ∷ []) p (omega (arith, two, length_first cs m rest, length_push (take m cs) x))
        (sides_of_along _ _ (take m cs ++ x ∷ []) p
        (along_more _ _ x (take m cs) p (along_first cs p m some rest sides) (beside_back x h))
        (not_right_by_left a b x (corner cs 0) (corner cs (m - 1)) p h.straight first above
        (left_shift_back (corner cs 0) (corner cs (m - 1)) x
        (left_of_back a b cs convex m some rest x h 0 (m - 1) (omega (arith, two)) (omega (arith, some))))
        left))

    kept_and_front : (y : Triple) → IsStraight a b (corner cs (m - 1)) → IsLeft a b (corner cs 0)
        → IsMeeting a b (corner cs 0) (corner cs (length cs - 1)) y → IsInRegion (take m cs ++ y ∷ []) p
    kept_and_front y last left h =
        let two : 1 < m = elim (cases_lt 1 m) [
          | inl more ↦ more
          | inr one ↦
              let e : m - 1 ≡ 0 = omega (arith, one) in
              absurd (positive_not_zero left (subst (λ k. IsStraight a b (corner cs k)) e last))
        ] in
        region_of_sides (take m cs ++ y ∷ []) p (omega (arith, two, length_first cs m rest, length_push (take m cs) y))
        (sides_of_along _ _ (take m cs ++ y ∷ []) p
        (along_more _ _ y (take m cs) p (along_first cs p m some rest sides)
        (not_right_by_left a b (corner cs (m - 1)) y (corner cs 0) p last h.straight above
        (left_shift (corner cs 0) (corner cs (m - 1)) y
        (left_of_front a b cs convex m some rest y h 0 (m - 1) (omega (arith, two)) (omega (arith, some))))
        left))
        (beside_front y h))

    kept_and_both : (x y : Triple) → IsLeft a b (corner cs 0) → IsMeeting a b (corner cs (m - 1)) (corner cs m) x
        → IsMeeting a b (corner cs 0) (corner cs (length cs - 1)) y → IsInRegion ((take m cs ++ x ∷ []) ++ y ∷ []) p
    kept_and_both x y left hx hy =
        region_of_sides ((take m cs ++ x ∷ []) ++ y ∷ []) p
        (omega (arith, some, length_first cs m rest, length_push (take m cs) x, length_push (take m cs ++ x ∷ []) y))
        (sides_of_along _ _ ((take m cs ++ x ∷ []) ++ y ∷ []) p
        (along_more _ _ y (take m cs ++ x ∷ []) p
        (along_more _ _ x (take m cs) p (along_first cs p m some rest sides) (beside_back x hx))
        (not_right_by_left a b x y (corner cs 0) p hx.straight hy.straight above
        (left_shift (corner cs 0) x y (left_of_both a b cs convex m some rest many x y hx hy 0 some)) left))
        (beside_front y hy))

    -- what a cut leaves, where both ends are known
    kept_with : (es fs : List Triple) → Ends a b (corner cs (m - 1)) (corner cs m) es → Ends a b (corner cs 0) (corner cs (length cs - 1))
        fs
        → IsInRegion ((take m cs ++ es) ++ fs) p
    kept_with es fs (at_corner last without) (at_corner first none) =
        subst (λ (t : List Triple). IsInRegion ((take m cs ++ t) ++ fs) p) (sym without)
        (subst (λ (t : List Triple). IsInRegion ((take m cs ++ []) ++ t) p) (sym none)
        (subst (λ (t : List Triple). IsInRegion t p) (sym (append-nil (take m cs ++ []) ∙ append-nil (take m cs))) (kept_only first last)))
    kept_with es fs (at_meeting x left h one) (at_corner first none) =
        subst (λ (t : List Triple). IsInRegion ((take m cs ++ t) ++ fs) p) (sym one)
        (subst (λ (t : List Triple). IsInRegion ((take m cs ++ x ∷ []) ++ t) p) (sym none)
        (subst (λ (t : List Triple). IsInRegion t p) (sym (append-nil (take m cs ++ x ∷ []))) (kept_and_back x first left h)))
    kept_with es fs (at_corner last without) (at_meeting y left h one) =
        subst (λ (t : List Triple). IsInRegion ((take m cs ++ t) ++ fs) p) (sym without)
        (subst (λ (t : List Triple). IsInRegion ((take m cs ++ []) ++ t) p) (sym one)
        (subst (λ (t : List Triple). IsInRegion (t ++ y ∷ []) p) (sym (append-nil (take m cs))) (kept_and_front y last left h)))
    kept_with es fs (at_meeting x left_x hx one_x) (at_meeting y left_y hy one_y) =
        subst (λ (t : List Triple). IsInRegion ((take m cs ++ t) ++ fs) p) (sym one_x)
        (subst (λ (t : List Triple). IsInRegion ((take m cs ++ x ∷ []) ++ t) p) (sym one_y) (kept_and_both x y left_y hx hy))

  -- so what is in the polygon and not right of the line is left
  pub polygon_no_less : (p : Triple) → IsPoint p → IsInRegion cs p → IsNotRight a b p → IsInRegion left_over p
  polygon_no_less p at_p h above = kept_with p at_p (sides_of_region cs p many h) above es fs back front
