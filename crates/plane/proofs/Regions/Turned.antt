-- Corners read from another one on: they are convex as before, and have the same region.
use Rattle.std.proofs.Common.{◌≡◌, inl, inr, refl, sym, subst, ap, ◌∙◌, ℕ, ◌+◌, ◌-◌, ◌<◌, arith, List, [], ◌∷◌, ◌++◌, length}
use Rattle.std.proofs.lemmas.Bool.{cases_lt}
use Rattle.std.proofs.lemmas.List.{append-nil, get_or-append-add, get_or_append_left, length-append}
use Rattle.plane.proofs.Points.{same_sym}
use Rattle.plane.proofs.Regions.Corners.{left_at, left_shift, left_shift_back}
use Rattle.plane.proofs.Regions.Sides.{IsInSides, not_right_at, region_of_sides, sides_of_region}
use Rattle.plane.proofs.Segments.{on_reversed}
use Rattle.plane.specs.Convex.{AreConvex, corner}
use Rattle.plane.specs.Prelude.{IsLeft, IsPoint, IsSame, Triple}
use Rattle.plane.specs.Region.{IsInRegion}

module _ (xs ys : List Triple) where
  -- first come those that were last,
  turned_first : (i k : ℕ) → i < length ys → k ≡ length xs + i → corner (ys ++ xs) i ≡ corner (xs ++ ys) k
  turned_first i k less e = get_or_append_left ys xs _ i less ∙ sym (ap (λ n. corner (xs ++ ys) n) e ∙ get_or-append-add xs ys i _)

  -- then those that were first
  turned_last : (i k : ℕ) → k < length xs → i ≡ length ys + k → corner (ys ++ xs) i ≡ corner (xs ++ ys) k
  turned_last i k less e = ap (λ n. corner (ys ++ xs) n) e ∙ get_or-append-add ys xs k _ ∙ sym (get_or_append_left xs ys _ k less)

  -- ---- convex corners

  module _ (convex : AreConvex (xs ++ ys)) where
    turned_left : (i j l : ℕ) → i < j → j < l → l < length (ys ++ xs) → IsLeft (corner (ys ++ xs) i) (corner (ys ++ xs) j)
        (corner (ys ++ xs) l)
    turned_left i j l before after within =
        let count = length-append xs ys in
        let total = length-append ys xs in
        elim (cases_lt l (length ys)) [
          | inl in_l ↦
              left_at (turned_first i (length xs + i) (omega (arith, before, after, in_l)) refl)
              (turned_first j (length xs + j) (omega (arith, after, in_l)) refl) (turned_first l (length xs + l) in_l refl)
              (convex.left (length xs + i) (length xs + j) (length xs + l) (omega (arith, before)) (omega (arith, after))
              (omega (arith, in_l, count)))
          | inr past_l ↦
              let t = l - length ys in
              let at_l = turned_last l t (omega (arith, past_l, within, total)) (omega (arith, past_l)) in
              elim (cases_lt j (length ys)) [
                | inl in_j ↦
                    left_at (turned_first i (length xs + i) (omega (arith, before, in_j)) refl) (turned_first j (length xs + j) in_j refl)
                    at_l
                    (left_shift (corner (xs ++ ys) t) (corner (xs ++ ys) (length xs + i)) (corner (xs ++ ys) (length xs + j))
                    (convex.left t (length xs + i) (length xs + j) (omega (arith, past_l, within, total)) (omega (arith, before))
                    (omega (arith, in_j, count))))
                | inr past_j ↦
                    let s = j - length ys in
                    let at_j = turned_last j s (omega (arith, past_j, after, within, total)) (omega (arith, past_j)) in
                    elim (cases_lt i (length ys)) [
                      | inl in_i ↦
                          left_at (turned_first i (length xs + i) in_i refl) at_j at_l
                          (left_shift_back (corner (xs ++ ys) s) (corner (xs ++ ys) t) (corner (xs ++ ys) (length xs + i))
                          (convex.left s t (length xs + i) (omega (arith, past_j, after)) (omega (arith, past_l, within, total))
                          (omega (arith, in_i, count))))
                      | inr past_i ↦
                          let r = i - length ys in
                          left_at (turned_last i r (omega (arith, past_i, before, after, within, total)) (omega (arith, past_i))) at_j at_l
                          (convex.left r s t (omega (arith, past_i, before)) (omega (arith, past_j, after))
                          (omega (arith, past_l, within, total, count)))
                    ]
              ]
        ]

    turned_rational : (i : ℕ) → i < length (ys ++ xs) → IsPoint (corner (ys ++ xs) i)
    turned_rational i within = elim (cases_lt i (length ys)) [
      | inl less ↦
          subst IsPoint (sym (turned_first i (length xs + i) less refl))
          (convex.rational (length xs + i) (omega (arith, less, length-append xs ys)))
      | inr past ↦
          subst IsPoint (sym (turned_last i (i - length ys) (omega (arith, past, within, length-append ys xs)) (omega (arith, past))))
          (convex.rational (i - length ys) (omega (arith, past, within, length-append xs ys, length-append ys xs)))
    ]

-- of two corners that differ either may be the first
two_differ : (xs ys : List Triple) → (length (xs ++ ys) ≡ 2 → ¬ (IsSame (corner (xs ++ ys) 0) (corner (xs ++ ys) 1)))
    → length (ys ++ xs) ≡ 2 → ¬ (IsSame (corner (ys ++ xs) 0) (corner (ys ++ xs) 1))
two_differ [] ys h = subst (λ (t : List Triple). length t ≡ 2 → ¬ (IsSame (corner t 0) (corner t 1))) (sym (append-nil ys)) h
two_differ (a ∷ xs) [] h = subst (λ (t : List Triple). length t ≡ 2 → ¬ (IsSame (corner t 0) (corner t 1))) (append-nil (a ∷ xs)) h
two_differ (a ∷ []) (b ∷ []) h = λ two same. h two (same_sym same)
two_differ (a ∷ []) (b ∷ c ∷ ys) h = λ two. absurd (omega (arith, two, length-append ys (a ∷ [])))
two_differ (a ∷ c ∷ xs) (b ∷ ys) h = λ two. absurd (omega (arith, two, length-append ys (a ∷ c ∷ xs)))

-- convex corners are convex from another one on
pub convex_turned : (xs ys : List Triple) → AreConvex (xs ++ ys) → AreConvex (ys ++ xs)
convex_turned xs ys convex = record {
  rational = turned_rational xs ys convex;
  left = turned_left xs ys convex;
  different = two_differ xs ys convex.different;
}

-- ---- the region

-- no side has p to its right
sides_turned : (a b : Triple) (xs ys : List Triple) (p : Triple) → IsInSides ((a ∷ xs) ++ (b ∷ ys)) p → IsInSides ((b ∷ ys) ++ (a ∷ xs)) p
sides_turned a b xs ys p sides =
    let us = a ∷ xs in
    let vs = b ∷ ys in
    let count = length-append us vs in
    let total = length-append vs us in
    record {
      along = λ i more. elim (cases_lt (i + 1) (length vs)) [
        | inl less ↦
            not_right_at p (turned_first us vs i (length us + i) (omega (arith, less)) refl)
            (turned_first us vs (i + 1) (length us + i + 1) less (omega arith)) (sides.along (length us + i) (omega (arith, less, count)))
        | inr past ↦ elim (cases_lt i (length vs)) [
          | inl last ↦
              not_right_at p (turned_first us vs i (length (us ++ vs) - 1) last (omega (arith, past, last, count)))
              (turned_last us vs (i + 1) 0 (omega arith) (omega (arith, past, last))) sides.closing
          | inr beyond ↦
              let k = i - length vs in
              not_right_at p (turned_last us vs i k (omega (arith, beyond, more, total)) (omega (arith, beyond)))
              (turned_last us vs (i + 1) (k + 1) (omega (arith, beyond, more, total)) (omega (arith, beyond)))
              (sides.along k (omega (arith, beyond, more, total, count)))
        ]
      ];
      closing =
          not_right_at p (turned_last us vs (length (vs ++ us) - 1) (length us - 1) (omega arith) (omega (arith, total)))
          (turned_first us vs 0 (length us - 1 + 1) (omega arith) (omega arith)) (sides.along (length us - 1) (omega (arith, count)));
    }

-- the region stays
pub region_turned : (xs ys : List Triple) (p : Triple) → IsInRegion (xs ++ ys) p → IsInRegion (ys ++ xs) p
region_turned [] ys p h = subst (λ (t : List Triple). IsInRegion t p) (sym (append-nil ys)) h
region_turned (a ∷ xs) [] p h = subst (λ (t : List Triple). IsInRegion t p) (append-nil (a ∷ xs)) h
region_turned (a ∷ []) (b ∷ []) p h = on_reversed p a b h
region_turned (a ∷ []) (b ∷ c ∷ ys) p h =
    region_of_sides ((b ∷ c ∷ ys) ++ a ∷ []) p (omega (arith, length-append ys (a ∷ [])))
    (sides_turned a b [] (c ∷ ys) p (sides_of_region (a ∷ b ∷ c ∷ ys) p (omega arith) h))
region_turned (a ∷ c ∷ xs) (b ∷ ys) p h =
    region_of_sides ((b ∷ ys) ++ (a ∷ c ∷ xs)) p (omega (arith, length-append ys (a ∷ c ∷ xs)))
    (sides_turned a b (c ∷ xs) ys p (sides_of_region (a ∷ c ∷ (xs ++ b ∷ ys)) p (omega (arith, length-append xs (b ∷ ys))) h))
