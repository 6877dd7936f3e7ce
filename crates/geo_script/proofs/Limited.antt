-- Questions in numbers within the limit of a version, and past it.
use Rattle.std.proofs.Common.{◌≡◌, Bool, true, false, if◌then◌else◌, ℕ, ◌+◌, ◌≤◌, ℤ, List, [], ◌∷◌, length, Option, Some, None, Result, Ok, Err, Vec, Global, refl, subst, arith}
use Rattle.std.specs.Option.{option_or}
use Rattle.std.specs.Prelude.{IfOk, nat_le, unsigned_abs}
use Rattle.plane.specs.Point.{Point}
use Rattle.geo_text.specs.Limits.{limits_of}
use Rattle.geo_text.specs.Reading.{range_fault, unless}
use Rattle.geo_text.specs.Version.{by_version}
use Rattle.geo_text.specs.declared.command.Bad.{Bad}
use Rattle.geo_text.specs.declared.command.Bad.TheVariants as bad
use Rattle.geo_text.specs.declared.version.Version.{Version}
use Rattle.geo_text.specs.declared.version.Version.TheVariants as version
use Rattle.geo_script.specs.Asked.{IsAskedWithin, IsRefusedOr}

abbrev point_at : ℤ → ℤ → Point
point_at x y = record { x = x; y = y }

-- a number past the limit is refused,
past_limit : {T : Type 0} (fault : Option Bad) (p : Point) (refusal : Bad) (Holds : Result T Bad → Type 0) → Err refusal ≡ unless fault p
    → IsRefusedOr fault Holds (Err refusal)
past_limit None p refusal Holds is = absurd cc
past_limit (Some fault) p refusal Holds is = cc

-- and where none is past it, the point is theirs
within_limit : {T : Type 0} (fault : Option Bad) (p q : Point) (Holds : Point → Result T Bad → Type 0) (found : Result T Bad) → Ok q ≡ unless fault p
    → Holds q found → IsRefusedOr fault (Holds p) found
within_limit None p q Holds found is holds =
    let same : q ≡ p = cc in
    subst (λ (r : Point). Holds r found) same holds
within_limit (Some fault) p q Holds found is holds = absurd cc

-- so it is asked about
pub one_point : {T E : Type 0} (version : Version) (x y : ℤ) (q : Point) (Holds : Point → Result T Bad → Type 0) (r : Result (Result T Bad) E)
    → Ok q ≡ unless (range_fault (limits_of version).coordinate 1 (x ∷ y ∷ [])) (point_at x y) → IfOk r (Holds q)
    → IfOk r (IsAskedWithin version (x ∷ y ∷ []) (Holds (point_at x y)))
one_point version x y q Holds (Ok found) is holds = within_limit (range_fault (limits_of version).coordinate 1 (x ∷ y ∷ [])) (point_at x y) q Holds found is holds
one_point version x y q Holds (Err e) is holds = tt

-- the numbers of two points are looked at in turn
numbers_of_two : (limit : ℕ) (a b : ℤ) (others : List ℤ)
    → range_fault limit 1 (a ∷ b ∷ others) ≡ option_or (range_fault limit 1 (a ∷ b ∷ [])) (range_fault limit 3 others)
numbers_of_two limit a b others = by_tests (nat_le (unsigned_abs a) limit) (nat_le (unsigned_abs b) limit)
  where
    by_tests : (p q : Bool) → (if p then (if q then range_fault limit 3 others else Some (bad.Range 2)) else Some (bad.Range 1))
        ≡ option_or (if p then (if q then None else Some (bad.Range 2)) else Some (bad.Range 1)) (range_fault limit 3 others)
    by_tests true true = refl
    by_tests true false = refl
    by_tests false q = refl

module _ (version : Version) (a b c d : ℤ) where
  abbrev first_fault : Option Bad
  first_fault = range_fault (limits_of version).coordinate 1 (a ∷ b ∷ [])

  abbrev second_fault : Option Bad
  second_fault = range_fault (limits_of version).coordinate 3 (c ∷ d ∷ [])

  -- the second of two points is refused,
  pub second_past : {T : Type 0} (s : Point) (refusal : Bad) (Holds : Result T Bad → Type 0) → Ok s ≡ unless first_fault (point_at a b)
      → Err refusal ≡ unless second_fault (point_at c d) → IsAskedWithin version (a ∷ b ∷ c ∷ d ∷ []) Holds (Err refusal)
  second_past s refusal Holds passes is = rw (numbers_of_two (limits_of version).coordinate a b (c ∷ d ∷ [])) (by_fault first_fault passes)
    where
      by_fault : (fault : Option Bad) → Ok s ≡ unless fault (point_at a b) → IsRefusedOr (option_or fault second_fault) Holds (Err refusal)
      by_fault None passes = past_limit second_fault (point_at c d) refusal Holds is
      by_fault (Some fault) passes = absurd cc

  both_within : {T : Type 0} (s t : Point) (Holds : Point → Point → Result T Bad → Type 0) (found : Result T Bad) → Ok s ≡ unless first_fault (point_at a b)
      → Ok t ≡ unless second_fault (point_at c d) → Holds s t found → IsAskedWithin version (a ∷ b ∷ c ∷ d ∷ []) (Holds (point_at a b) (point_at c d)) found
  both_within s t Holds found passes passes' holds =
      rw (numbers_of_two (limits_of version).coordinate a b (c ∷ d ∷ [])) (by_fault first_fault passes)
    where
      by_fault : (fault : Option Bad) → Ok s ≡ unless fault (point_at a b)
          → IsRefusedOr (option_or fault second_fault) (Holds (point_at a b) (point_at c d)) found
      by_fault None passes =
          let same : s ≡ point_at a b = cc in
          within_limit second_fault (point_at c d) t (Holds (point_at a b)) found passes' (subst (λ (r : Point). Holds r t found) same holds)
      by_fault (Some fault) passes = absurd cc

  -- or both are asked about
  pub two_points : {T E : Type 0} (s t : Point) (Holds : Point → Point → Result T Bad → Type 0) (r : Result (Result T Bad) E)
      → Ok s ≡ unless first_fault (point_at a b) → Ok t ≡ unless second_fault (point_at c d) → IfOk r (Holds s t)
      → IfOk r (IsAskedWithin version (a ∷ b ∷ c ∷ d ∷ []) (Holds (point_at a b) (point_at c d)))
  two_points s t Holds (Ok found) passes passes' holds = both_within s t Holds found passes passes' holds
  two_points s t Holds (Err e) passes passes' holds = tt

-- no path has more points than one of version 2
pub few_points : {E : Type 0} (version : Version) (most : ℕ) (r : Result (Result (Vec Point Global) Bad) E)
    → IfOk r (λ found. IfOk found (λ points. length points.items ≤ most + by_version version 1 2))
    → IfOk r (λ found. IfOk found (λ points. length points.items ≤ most + 2))
few_points version.Two most r few = few
few_points version.One most (Ok (Ok points)) few = omega (arith, few)
few_points version.One most (Ok (Err fault)) few = tt
few_points version.One most (Err e) few = tt
