-- A buffer that is filled item by item.
use Rattle.std.proofs.Common.{◌≡◌, refl, ap, ℕ, ◌+◌, List, [], ◌∷◌, ◌++◌, length, ◌<◌, ◌≤◌, slice_set, slice_index_or, arith, inl, inr}
use Prim.Native.Nat.{zero, suc}
use Rattle.std.proofs.lemmas.List.{drop_all, take_all}
use Rattle.std.specs.Prelude.{take, drop, ◌⊎◌}
use native.Mathlib.Numerals.{unary_clauses}
use Rattle.std.specs.Ordering.{ord_min, nat_cmp}
use Rattle.geo_c.specs.Filled.{filled_by}

-- one more item is put in
pub one_more : {X : Type 0} (ps os : List X) (i : ℕ) (p : X) → i < length ps → i < length os → p ≡ slice_index_or ps i p
    → slice_set (take i ps ++ drop i os) i p ≡ take (i + 1) ps ++ drop (i + 1) os
one_more [] os i p few fits is = let no : ⊥ = omega (arith, few) in absurd no
one_more (q ∷ ps) [] i p few fits is = let no : ⊥ = omega (arith, fits) in absurd no
one_more {X = X} (q ∷ ps) (o ∷ os) zero p few fits is = ap (λ (x : X). x ∷ os) is
one_more {X = X} (q ∷ ps) (o ∷ os) (suc i) p few fits is =
    let back = one_more ps os i p (omega (arith, few)) (omega (arith, fits)) is in
    let both : slice_set (take i ps ++ drop i os) i p ≡ take (suc i) ps ++ drop (suc i) os = simp unary_clauses at back in
    simp unary_clauses (ap (λ (xs : List X). q ∷ xs) both)

-- where one of the two is at its end, all is filled
pub all_of : {X : Type 0} (ps os : List X) (n : ℕ) → n ≤ length ps → n ≤ length os → (length ps ≤ n) ⊎ (length os ≤ n) → take n ps ++ drop n os ≡ filled_by ps os
all_of ps os n few fits (inl short) =
    let is : n ≡ length ps = omega (arith, few, short) in
    rw (is, take_all (length ps) ps (omega arith), take_all (length os) ps (omega (arith, fits, is))) refl
all_of ps os n few fits (inr short) =
    let is : n ≡ length os = omega (arith, fits, short) in
    rw (is, drop_all (length os) os (omega arith), drop_all (length ps) os (omega (arith, few, is))) refl

-- the lesser of two numbers is at most each, and at least one
pub least_of : (a b n : ℕ) → n ≡ ord_min nat_cmp a b → (n ≤ a) × (n ≤ b)
least_of a b n is = grind (arith, is)

pub least_is : (a b n : ℕ) → n ≡ ord_min nat_cmp a b → (b ≤ n) ⊎ (a ≤ n)
least_is a b n is = grind (arith, is)
