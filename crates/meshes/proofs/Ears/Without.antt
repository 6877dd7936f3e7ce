-- The numbers of a list of triangles and of the list without one of them.
use Rattle.std.proofs.Common.{◌≡◌, refl, ap, ℕ, zero, suc, ◌+◌, ◌<◌, List, [], ◌∷◌, length, arith}
use Rattle.meshes.proofs.Ears.LeafTaken.{IsRest}
use Rattle.meshes.specs.Laws.{without}
use Rattle.meshes.specs.Prelude.{tri_at}
use Rattle.meshes.specs.declared.tri.Tri.{Tri}

-- the number in the list of triangle m of the rest
abbrev pub old_number : ℕ → ℕ → ℕ
old_number zero m = suc m
old_number (suc k) zero = zero
old_number (suc k) (suc m) = suc (old_number k m)

-- the number in the rest of triangle n of the list, where that is not k
abbrev pub new_number : ℕ → ℕ → ℕ
new_number zero zero = zero
new_number zero (suc n) = n
new_number (suc k) zero = zero
new_number (suc k) (suc n) = suc (new_number k n)

-- it is not that of the triangle that is missing,
old_not : (k m : ℕ) → ¬ (old_number k m ≡ k)
old_not zero m e = omega arith
old_not (suc k) zero e = omega arith
old_not (suc k) (suc m) e = old_not k m (omega arith)

-- and the two go there
there : (k n : ℕ) → ¬ (n ≡ k) → old_number k (new_number k n) ≡ n
there zero zero not = absurd (not refl)
there zero (suc n) not = refl
there (suc k) zero not = refl
there (suc k) (suc n) not = ap suc (there k n (λ e. not (ap suc e)))

-- and back
back : (k m : ℕ) → new_number k (old_number k m) ≡ m
back zero m = refl
back (suc k) zero = refl
back (suc k) (suc m) = ap suc (back k m)

-- one triangle is missing
count : (k : ℕ) (tris : List Tri) → k < length tris → length (without k tris) + 1 ≡ length tris
count k [] h = absurd (omega arith)
count zero (t ∷ tris) h = omega arith
count (suc k) (t ∷ tris) h = omega (arith, count k tris (omega arith))

-- the others are the same
same : (k : ℕ) (tris : List Tri) (m : ℕ) → m < length (without k tris) → tri_at tris (old_number k m) ≡ tri_at (without k tris) m
same k [] m h = absurd (omega arith)
same zero (t ∷ tris) m h = refl
same (suc k) (t ∷ tris) zero h = refl
same (suc k) (t ∷ tris) (suc m) h = same k tris m (omega arith)

-- the numbers are numbers of the list,
old_in : (k : ℕ) (tris : List Tri) (m : ℕ) → m < length (without k tris) → old_number k m < length tris
old_in k [] m h = absurd (omega arith)
old_in zero (t ∷ tris) m h = omega arith
old_in (suc k) (t ∷ tris) zero h = omega arith
old_in (suc k) (t ∷ tris) (suc m) h = omega (arith, old_in k tris m (omega arith))

-- and of the rest
new_in : (k : ℕ) (tris : List Tri) (n : ℕ) → n < length tris → ¬ (n ≡ k) → new_number k n < length (without k tris)
new_in k [] n h not = absurd (omega arith)
new_in zero (t ∷ tris) zero h not = absurd (not refl)
new_in zero (t ∷ tris) (suc n) h not = omega arith
new_in (suc k) (t ∷ tris) zero h not = omega arith
new_in (suc k) (t ∷ tris) (suc n) h not = omega (arith, new_in k tris n (omega arith) (λ e. not (ap suc e)))

-- the list without triangle k is the rest
pub is_rest : (k : ℕ) (tris : List Tri) → k < length tris → IsRest tris (without k tris) k (old_number k) (new_number k)
is_rest k tris h = record {
  count = count k tris h;
  old_in = old_in k tris;
  old_not = old_not k;
  same = same k tris;
  new_in = new_in k tris;
  there = there k;
  back = back k;
}
