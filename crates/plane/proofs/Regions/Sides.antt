-- The points that are right of no side of a polygon, by its corners one after another.
use Rattle.std.proofs.Common.{◌≡◌, inl, inr, sym, subst, ap, ◌∙◌, ℕ, ◌+◌, ◌-◌, ◌<◌, ◌≤◌, arith, List, [], ◌∷◌, ◌++◌, length, take, ℤ, pos, ◌≤ℤ◌, ◌<ℤ◌}
use Rattle.std.proofs.lemmas.Bool.{cases_lt}
use Rattle.std.proofs.lemmas.Int.{ints}
use Rattle.std.proofs.lemmas.List.{length_push}
use Rattle.integer_algebra.proofs.SignSteps.{at_least_unless}
use Rattle.plane.proofs.Regions.Corners.{corner_within, at_first, first_corner, length_first, new_corner, old_corner}
use Rattle.plane.specs.Convex.{corner}
use Rattle.plane.specs.Prelude.{determinant, Triple}
use Rattle.plane.specs.Region.{IsInRegion, IsRightOfNone}

-- p is not right of the way from a to b
abbrev pub IsNotRight : Triple → Triple → Triple → Type 0
IsNotRight a b p = pos 0 ≤ℤ determinant a b p

-- p is right of no side
pub record IsInSides (cs : List Triple) (p : Triple) : Type 0 where
  pub along : (i : ℕ) → i + 1 < length cs → IsNotRight (corner cs i) (corner cs (i + 1)) p
  pub closing : IsNotRight (corner cs (length cs - 1)) (corner cs 0) p

-- what is 0 or more is not negative
pub at_least_zero : {z : ℤ} → pos 0 ≤ℤ z → ¬ (z <ℤ pos 0)
at_least_zero h k = omega (arith, ints)

-- equal points are not right of a way together
pub not_right_at : (p : Triple) {a b d e : Triple} → d ≡ a → e ≡ b → IsNotRight a b p → IsNotRight d e p
not_right_at p ea eb h = subst (λ (z : ℤ). pos 0 ≤ℤ z) (sym (λ k. determinant (ea k) (eb k) p)) h

-- ---- a region of three corners or more

module _ (cs : List Triple) (p : Triple) where
  -- the sides by their numbers,
  sides_of : 0 < length cs → IsRightOfNone cs p → IsInSides cs p
  sides_of some none = record {
    along = λ i more.
        not_right_at p (sym (corner_within cs i (omega (arith, more)))) (sym (corner_within cs (i + 1) more))
        (at_least_unless (none i (omega (arith, more))));
    closing =
        not_right_at p (sym (corner_within cs (length cs - 1) (omega (arith, some))))
        (sym (at_first cs (length cs - 1 + 1) (omega (arith, some))))
        (at_least_unless (none (length cs - 1) (omega (arith, some))));
  }

  -- and back
  none_of_sides : IsInSides cs p → IsRightOfNone cs p
  none_of_sides sides i less = elim (cases_lt (i + 1) (length cs)) [
    | inl more ↦ at_least_zero (not_right_at p (corner_within cs i less) (corner_within cs (i + 1) more) (sides.along i more))
    | inr end ↦
        let last : i ≡ length cs - 1 = omega (arith, end, less) in
        at_least_zero (not_right_at p (corner_within cs i less) (at_first cs (i + 1) (omega (arith, end, less)))
        (subst (λ k. IsNotRight (corner cs k) (corner cs 0) p) (sym last) sides.closing))
  ]

-- a region with three corners or more is what is right of no side
pub sides_of_region : (cs : List Triple) (p : Triple) → 3 ≤ length cs → IsInRegion cs p → IsInSides cs p
sides_of_region [] p many h = absurd (omega (arith, many))
sides_of_region (a ∷ []) p many h = absurd (omega (arith, many))
sides_of_region (a ∷ b ∷ []) p many h = absurd (omega (arith, many))
sides_of_region (a ∷ b ∷ c ∷ cs) p many h = sides_of (a ∷ b ∷ c ∷ cs) p (omega (arith, many)) h

-- in both directions
pub region_of_sides : (cs : List Triple) (p : Triple) → 3 ≤ length cs → IsInSides cs p → IsInRegion cs p
region_of_sides [] p many h = absurd (omega (arith, many))
region_of_sides (a ∷ []) p many h = absurd (omega (arith, many))
region_of_sides (a ∷ b ∷ []) p many h = absurd (omega (arith, many))
region_of_sides (a ∷ b ∷ c ∷ cs) p many h = none_of_sides (a ∷ b ∷ c ∷ cs) p h

-- ---- some corners one after another

-- from the first to the last of these corners p is right of no side
pub record IsAlong (first last : Triple) (cs : List Triple) (p : Triple) : Type 0 where
  pub some : 0 < length cs
  pub begins : corner cs 0 ≡ first
  pub ends : corner cs (length cs - 1) ≡ last
  pub along : (i : ℕ) → i + 1 < length cs → IsNotRight (corner cs i) (corner cs (i + 1)) p

-- one more corner
pub along_more : (first last x : Triple) (cs : List Triple) (p : Triple) → IsAlong first last cs p → IsNotRight last x p
    → IsAlong first x (cs ++ x ∷ []) p
along_more first last x cs p h next = record {
  some = omega (arith, length_push cs x);
  begins = old_corner cs x 0 h.some ∙ h.begins;
  ends = new_corner cs x (length (cs ++ x ∷ []) - 1) (omega (arith, length_push cs x));
  along = λ i more. elim (cases_lt (i + 1) (length cs)) [
    | inl less ↦ not_right_at p (old_corner cs x i (omega (arith, less))) (old_corner cs x (i + 1) less) (h.along i less)
    | inr not ↦
        let here : length cs ≡ i + 1 = omega (arith, not, more, length_push cs x) in
        let before : i ≡ length cs - 1 = omega (arith, here) in
        not_right_at p (old_corner cs x i (omega (arith, here)) ∙ ap (λ k. corner cs k) before ∙ h.ends) (new_corner cs x (i + 1) here) next
  ];
}

-- the first some corners of a region
pub along_first : (cs : List Triple) (p : Triple) (m : ℕ) → 0 < m → m < length cs → IsInSides cs p
    → IsAlong (corner cs 0) (corner cs (m - 1)) (take m cs) p
along_first cs p m some rest sides =
    let count = length_first cs m rest in record {
      some = omega (arith, count, some);
      begins = first_corner cs m rest 0 some;
      ends = ap (λ k. corner (take m cs) (k - 1)) count ∙ first_corner cs m rest (m - 1) (omega (arith, some));
      along = λ i more.
          let less : i + 1 < m = omega (arith, more, count) in
          not_right_at p (first_corner cs m rest i (omega (arith, less))) (first_corner cs m rest (i + 1) less)
          (sides.along i (omega (arith, less, rest)));
    }

-- with the side from the last to the first they are a polygon
pub sides_of_along : (first last : Triple) (cs : List Triple) (p : Triple) → IsAlong first last cs p → IsNotRight last first p
    → IsInSides cs p
sides_of_along first last cs p h next = record { along = h.along; closing = not_right_at p h.ends h.begins next }
