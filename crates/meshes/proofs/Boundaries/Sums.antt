-- Sums over the sides of triangles, from the least that each triangle adds.
use Rattle.std.proofs.Common.{◌≡◌, ℕ, zero, suc, ◌<◌, ℤ, pos, ◌+ℤ◌, ◌≤ℤ◌, List, [], ◌∷◌, length, arith, refl, ◌++◌}
use Rattle.std.proofs.Math.IntN.{+ℤ_comm}
use Rattle.std.proofs.lemmas.Int.{ints}
use Rattle.meshes.specs.Boundary.{sum_sides}
use Rattle.meshes.specs.Prelude.{tri_at}
use Rattle.meshes.specs.declared.tri.Tri.{Tri}

-- the sum round one triangle
abbrev pub sum_of_tri : (ℕ → ℕ → ℤ) → Tri → ℤ
sum_of_tri φ t = φ t.a t.b +ℤ (φ t.b t.c +ℤ φ t.c t.a)

-- ---- numbers

-- two parts that are at least something
pub both_parts : (a b m n k : ℤ) → m ≤ℤ a → n ≤ℤ b → k ≡ m +ℤ n → k ≤ℤ (a +ℤ b)
both_parts a b m n k h g e = omega (arith, ints)

-- sums with 0 and in another order
nothing_first : (n : ℤ) → n ≡ pos 0 +ℤ n
nothing_first n = omega (arith, ints)

nothing_last : (n : ℤ) → n ≡ n +ℤ pos 0
nothing_last n = omega (arith, ints)

module _ (φ : ℕ → ℕ → ℤ) where
  -- triangle m of a list adds at least n, where it has that number,
  abbrev pub AddsAtLeast : List Tri → ℤ → ℕ → Type 0
  AddsAtLeast tris n m = n ≤ℤ sum_of_tri φ (tri_at tris m)

  -- triangles and more triangles
  pub sides_append : (ts us : List Tri) → sum_sides φ (ts ++ us) ≡ sum_sides φ ts +ℤ sum_sides φ us
  sides_append [] us = omega (arith, ints)
  sides_append (t ∷ ts) us = omega (arith, ints, sides_append ts us)

  -- ---- each triangle

  -- triangles that add nothing
  pub sum_zero : (tris : List Tri) → ((m : ℕ) → m < length tris → sum_of_tri φ (tri_at tris m) ≡ pos 0) → sum_sides φ tris ≡ pos 0
  sum_zero [] h = refl
  sum_zero (t ∷ ts) h =
      let others = sum_zero ts (λ m within. h (suc m) (omega (arith, within))) in
      omega (arith, ints, h 0 (omega arith), others)

  -- where no triangle adds a negative number, the sum is none
  pub sum_not_negative : (tris : List Tri) → ((m : ℕ) → m < length tris → AddsAtLeast tris (pos 0) m) → pos 0 ≤ℤ sum_sides φ tris
  sum_not_negative [] h = omega (arith, ints)
  sum_not_negative (t ∷ ts) h =
      both_parts (sum_of_tri φ t) (sum_sides φ ts) (pos 0) (pos 0) (pos 0) (h 0 (omega arith))
      (sum_not_negative ts (λ m within. h (suc m) (omega (arith, within)))) refl

  -- ---- one triangle and the others

  -- where triangle k adds at least n, and no other one a negative number, the sum is at least n
  pub sum_with_one : (tris : List Tri) (n : ℤ) (k : ℕ) → k < length tris → AddsAtLeast tris n k
      → ((m : ℕ) → m < length tris → ¬ (m ≡ k) → AddsAtLeast tris (pos 0) m) → n ≤ℤ sum_sides φ tris
  sum_with_one [] n k below here others = absurd (omega (arith, below))
  sum_with_one (t ∷ ts) n zero below here others =
      both_parts (sum_of_tri φ t) (sum_sides φ ts) n (pos 0) n here
      (sum_not_negative ts (λ m within. others (suc m) (omega (arith, within)) (λ e. omega (arith, e)))) (nothing_last n)
  sum_with_one (t ∷ ts) n (suc k) below here others =
      both_parts (sum_of_tri φ t) (sum_sides φ ts) (pos 0) n n (others 0 (omega arith) (λ e. omega (arith, e)))
      (sum_with_one ts n k (omega (arith, below)) here
      (λ m within not. others (suc m) (omega (arith, within)) (λ e. not (omega (arith, e))))) (nothing_first n)

  -- where triangle k adds at least n, triangle l at least m, and no other one a negative number, the sum is at least both
  pub sum_with_two : (tris : List Tri) (n m : ℤ) (k l : ℕ) → k < length tris → l < length tris → ¬ (k ≡ l)
      → AddsAtLeast tris n k → AddsAtLeast tris m l
      → ((o : ℕ) → o < length tris → ¬ (o ≡ k) → ¬ (o ≡ l) → AddsAtLeast tris (pos 0) o) → (n +ℤ m) ≤ℤ sum_sides φ tris
  sum_with_two [] n m k l k_below l_below differ first second others = absurd (omega (arith, k_below))
  sum_with_two (t ∷ ts) n m zero zero k_below l_below differ first second others = absurd (differ refl)
  sum_with_two (t ∷ ts) n m zero (suc l) k_below l_below differ first second others =
      both_parts (sum_of_tri φ t) (sum_sides φ ts) n m (n +ℤ m) first
      (sum_with_one ts m l (omega (arith, l_below)) second
      (λ o within not. others (suc o) (omega (arith, within)) (λ e. omega (arith, e)) (λ e. not (omega (arith, e))))) refl
  sum_with_two (t ∷ ts) n m (suc k) zero k_below l_below differ first second others =
      both_parts (sum_of_tri φ t) (sum_sides φ ts) m n (n +ℤ m) second
      (sum_with_one ts n k (omega (arith, k_below)) first
      (λ o within not. others (suc o) (omega (arith, within)) (λ e. not (omega (arith, e))) (λ e. omega (arith, e)))) (+ℤ_comm n m)
  sum_with_two (t ∷ ts) n m (suc k) (suc l) k_below l_below differ first second others =
      both_parts (sum_of_tri φ t) (sum_sides φ ts) (pos 0) (n +ℤ m) (n +ℤ m)
      (others 0 (omega arith) (λ e. omega (arith, e)) (λ e. omega (arith, e)))
      (sum_with_two ts n m k l (omega (arith, k_below)) (omega (arith, l_below)) (λ e. differ (omega (arith, e))) first second
      (λ o within not also. others (suc o) (omega (arith, within)) (λ e. not (omega (arith, e))) (λ e. also (omega (arith, e)))))
      (nothing_first (n +ℤ m))
