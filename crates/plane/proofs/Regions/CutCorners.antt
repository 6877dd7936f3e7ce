-- The corners of a polygon of which a line cuts some away: the first m stay, and where they leave the line, the meetings come.
use Rattle.std.proofs.Common.{◌≡◌, ◌⊎◌, inl, inr, refl, sym, subst, ap, ◌∙◌, ℕ, ◌-◌, ◌<◌, ◌≤◌, arith, List, [], ◌∷◌, ◌++◌, length, take, pos, ◌≤ℤ◌, ◌<ℤ◌}
use Rattle.std.proofs.lemmas.Bool.{cases_lt}
use Rattle.std.proofs.lemmas.List.{append-nil, length_push}
use Rattle.integer_algebra.proofs.SignSteps.{mean_last_positive, mean_not_negative, weak, zero_not_negative}
use Rattle.plane.proofs.Regions.Corners.{convex_first, convex_more, first_corner, left_at, left_shift, left_shift_back, length_first, new_corner, no_product, old_corner}
use Rattle.plane.proofs.Regions.LineMeetings.{Ends, IsMeeting, at_corner, at_meeting}
use Rattle.plane.proofs.Regions.Weighing.{mean_some_positive}
use Rattle.plane.proofs.Turns.{determinant_along, determinant_same, determinant_same_ends, determinant_same_last, determinant_shift_back}
use Rattle.plane.specs.Convex.{AreConvex, corner}
use Rattle.plane.specs.Prelude.{determinant, IsLeft, IsPoint, IsSame, IsStraight, Triple}

-- a point left of a line is none on it
pub left_not_straight : (a b c x : Triple) → IsPoint x → IsLeft a b c → IsStraight a b x → ¬ (IsSame c x)
left_not_straight a b c x at_x left straight same =
    no_product (determinant a b c) x.W (determinant a b x) c.W (determinant_same a b c x same) straight left at_x

module _ (a b : Triple) (cs : List Triple) (convex : AreConvex cs) (m : ℕ) (some : 0 < m) (rest : m < length cs) where
  abbrev c : ℕ → Triple
  c i = corner cs i

  abbrev n : ℕ
  n = length cs

  -- any two that stay, and the meeting after the last
  pub left_of_back : (x : Triple) → IsMeeting a b (c (m - 1)) (c m) x → (i j : ℕ) → i < j → j < m → IsLeft (c i) (c j) x
  left_of_back x h i j before less =
      mean_last_positive h.mean.k h.mean.l h.mean.m _ _ _ h.mean.k_positive h.mean.l_nonnegative h.last_weighs
      (determinant_along x (c (m - 1)) (c m) h.mean (c i) (c j))
      (elim (cases_lt j (m - 1)) [
        | inl more ↦ weak (convex.left i j (m - 1) before more (omega (arith, rest)))
        | inr not ↦
            let last : m - 1 ≡ j = omega (arith, not, less) in
            zero_not_negative (ap (λ k. determinant (c i) (c j) (c k)) last ∙ determinant_same_last (c i) (c j))
      ])
      (convex.left i j m before less rest)

  -- any two that stay, and the meeting before the first
  pub left_of_front : (x : Triple) → IsMeeting a b (c 0) (c (n - 1)) x → (i j : ℕ) → i < j → j < m → IsLeft (c i) (c j) x
  left_of_front x h i j before less =
      mean_last_positive h.mean.k h.mean.l h.mean.m _ _ _ h.mean.k_positive h.mean.l_nonnegative h.last_weighs
      (determinant_along x (c 0) (c (n - 1)) h.mean (c i) (c j))
      (elim (cases_lt 0 i) [
        | inl more ↦ weak (left_shift (c 0) (c i) (c j) (convex.left 0 i j more before (omega (arith, less, rest))))
        | inr not ↦
            let first : i ≡ 0 = omega (arith, not) in
            zero_not_negative (ap (λ k. determinant (c k) (c j) (c 0)) first ∙ determinant_same_ends (c 0) (c j))
      ])
      (convex.left i j (n - 1) before (omega (arith, less, rest)) (omega (arith, rest)))

  module _ (many : 3 ≤ length cs) (x y : Triple) (back : IsMeeting a b (c (m - 1)) (c m) x) (front : IsMeeting a b (c 0) (c (n - 1)) y)
    where
      -- one that stays, the meeting after the last, and the first: none where it is the first
      past_first : (i : ℕ) → i < m → pos 0 ≤ℤ determinant (c i) x (c 0)
      past_first i less = elim (cases_lt 0 i) [
        | inl more ↦ weak (left_shift (c 0) (c i) x (left_of_back x back 0 i more less))
        | inr not ↦
            let first : i ≡ 0 = omega (arith, not) in
            zero_not_negative (ap (λ k. determinant (c k) x (c 0)) first ∙ determinant_same_ends (c 0) x)
      ]

      -- one that stays, the last that stays, and the last of all
      kept_and_last : (i : ℕ) → i < m → pos 0 ≤ℤ determinant (c (n - 1)) (c i) (c (m - 1))
      kept_and_last i less = elim (cases_lt i (m - 1)) [
        | inl more ↦ weak (left_shift_back (c i) (c (m - 1)) (c (n - 1))
            (convex.left i (m - 1) (n - 1) more (omega (arith, rest)) (omega (arith, rest))))
        | inr not ↦
            let last : m - 1 ≡ i = omega (arith, not, less) in
            zero_not_negative (ap (λ k. determinant (c (n - 1)) (c i) (c k)) last ∙ determinant_same_last (c (n - 1)) (c i))
      ]

      -- one that stays, the first that goes, and the last of all
      gone_and_last : (i : ℕ) → i < m → pos 0 ≤ℤ determinant (c (n - 1)) (c i) (c m)
      gone_and_last i less = elim (cases_lt m (n - 1)) [
        | inl more ↦ weak (left_shift_back (c i) (c m) (c (n - 1)) (convex.left i m (n - 1) less more (omega (arith, rest))))
        | inr not ↦
            let last : m ≡ n - 1 = omega (arith, not, rest) in
            zero_not_negative (ap (λ k. determinant (c (n - 1)) (c i) (c k)) last ∙ determinant_same_ends (c (n - 1)) (c i))
      ]

      -- one that stays, the meeting after the last, and the last of all
      past_last : (i : ℕ) → i < m → pos 0 ≤ℤ determinant (c i) x (c (n - 1))
      past_last i less =
          subst (λ z. pos 0 ≤ℤ z) (determinant_shift_back (c i) x (c (n - 1)))
          (mean_not_negative back.mean.k back.mean.l back.mean.m _ _ _ back.mean.k_positive back.mean.l_nonnegative back.mean.m_nonnegative
          (determinant_along x (c (m - 1)) (c m) back.mean (c (n - 1)) (c i)) (kept_and_last i less) (gone_and_last i less))

      -- which is to the left where another corner is between
      left_past_last : (i : ℕ) → i < m → (pos 0 <ℤ determinant (c (n - 1)) (c i) (c (m - 1))) ⊎ (pos 0 <ℤ determinant (c (n - 1)) (c i) (c m))
          → pos 0 <ℤ determinant (c i) x (c (n - 1))
      left_past_last i less h =
          subst (λ z. pos 0 <ℤ z) (determinant_shift_back (c i) x (c (n - 1)))
          (mean_some_positive back.mean.k back.mean.l back.mean.m _ _ _ back.mean.k_positive back.first_weighs back.last_weighs
          (determinant_along x (c (m - 1)) (c m) back.mean (c (n - 1)) (c i)) (kept_and_last i less) (gone_and_last i less) h)

      -- the one or the other is to the left
      left_past_some : (i : ℕ) → i < m → (pos 0 <ℤ determinant (c i) x (c 0)) ⊎ (pos 0 <ℤ determinant (c i) x (c (n - 1)))
      left_past_some i less = elim (cases_lt i (m - 1)) [
        | inl more ↦ inr (left_past_last i less
            (inl (left_shift_back (c i) (c (m - 1)) (c (n - 1))
            (convex.left i (m - 1) (n - 1) more (omega (arith, rest)) (omega (arith, rest))))))
        | inr last ↦ elim (cases_lt m (n - 1)) [
          | inl more ↦ inr (left_past_last i less
              (inr (left_shift_back (c i) (c m) (c (n - 1)) (convex.left i m (n - 1) less more (omega (arith, rest))))))
          | inr not ↦ inl (left_shift (c 0) (c i) x (left_of_back x back 0 i (omega (arith, last, not, many, less, rest)) less))
        ]
      ]

      -- one that stays and both meetings
      pub left_of_both : (i : ℕ) → i < m → IsLeft (c i) x y
      left_of_both i less =
          mean_some_positive front.mean.k front.mean.l front.mean.m _ _ _ front.mean.k_positive front.first_weighs front.last_weighs
          (determinant_along y (c 0) (c (n - 1)) front.mean (c i) x) (past_first i less) (past_last i less) (left_past_some i less)

  -- ---- the lists

  -- the corners that stay, and a point left of the way between any two
  convex_with : (x : Triple) → IsPoint x → ((i j : ℕ) → i < j → j < m → IsLeft (c i) (c j) x) → (m ≡ 1 → ¬ (IsSame (c 0) x))
      → AreConvex (take m cs ++ x ∷ [])
  convex_with x at_x left differs =
      convex_more (take m cs) x (convex_first cs m rest convex) at_x
      (λ i j before less.
      let in_m : j < m = omega (arith, less, length_first cs m rest) in
      left_at (first_corner cs m rest i (omega (arith, before, in_m))) (first_corner cs m rest j in_m) refl (left i j before in_m))
      (λ alone. subst (λ (t : Triple). ¬ (IsSame t x)) (sym (first_corner cs m rest 0 some))
      (differs (omega (arith, alone, length_first cs m rest))))

  -- the corners that stay, and the meeting after the last
  pub convex_back : (es : List Triple) → Ends a b (c (m - 1)) (c m) es → AreConvex (take m cs ++ es)
  convex_back es (at_corner straight none) =
      subst AreConvex (sym (ap (λ t. take m cs ++ t) none ∙ append-nil (take m cs))) (convex_first cs m rest convex)
  convex_back es (at_meeting x left h one) =
      subst (λ (t : List Triple). AreConvex (take m cs ++ t)) (sym one)
      (convex_with x h.rational (left_of_back x h)
      (λ alone same.
      let only : m - 1 ≡ 0 = omega (arith, alone) in
      left_not_straight a b (c (m - 1)) x h.rational left h.straight (subst (λ k. IsSame (c k) x) (sym only) same)))

  -- and the meeting before the first
  pub convex_both : 3 ≤ length cs → (es fs : List Triple) → Ends a b (c (m - 1)) (c m) es → Ends a b (c 0) (c (n - 1)) fs
      → AreConvex ((take m cs ++ es) ++ fs)
  convex_both many es fs back (at_corner straight none) =
      subst AreConvex (sym (ap (λ t. (take m cs ++ es) ++ t) none ∙ append-nil (take m cs ++ es))) (convex_back es back)
  convex_both many es fs (at_corner straight none) (at_meeting y left h one) =
      subst (λ (t : List Triple). AreConvex ((take m cs ++ es) ++ t)) (sym one)
      (subst (λ (t : List Triple). AreConvex (t ++ y ∷ [])) (sym (ap (λ t. take m cs ++ t) none ∙ append-nil (take m cs)))
      (convex_with y h.rational (left_of_front y h) (λ alone. left_not_straight a b (c 0) y h.rational left h.straight)))
  convex_both many es fs (at_meeting x left_x hx one_x) (at_meeting y left_y hy one_y) =
      let kept = take m cs in
      subst (λ (t : List Triple). AreConvex ((kept ++ es) ++ t)) (sym one_y)
      (subst (λ (t : List Triple). AreConvex ((kept ++ t) ++ y ∷ [])) (sym one_x)
      (convex_more (kept ++ x ∷ []) y (subst (λ (t : List Triple). AreConvex (kept ++ t)) one_x
      (convex_back es (at_meeting x left_x hx one_x))) hy.rational
      (λ i j before less. elim (cases_lt j m) [
        | inl in_m ↦
            left_at (old_corner kept x i (omega (arith, before, in_m, length_first cs m rest)) ∙ first_corner cs m rest i
            (omega (arith, before, in_m)))
            (old_corner kept x j (omega (arith, in_m, length_first cs m rest)) ∙ first_corner cs m rest j in_m) refl
            (left_of_front y hy i j before in_m)
        | inr not ↦
            let here : length kept ≡ j = omega (arith, not, less, length_push kept x, length_first cs m rest) in
            let in_m : i < m = omega (arith, before, here, length_first cs m rest) in
            left_at (old_corner kept x i (omega (arith, in_m, length_first cs m rest)) ∙ first_corner cs m rest i in_m)
            (new_corner kept x j here) refl
            (left_of_both many x y hx hy i in_m)
      ])
      (λ alone same. absurd (omega (arith, alone, some, length_push kept x, length_first cs m rest)))))
