-- Sums round a piece: read from another vertex on, and without one of the vertices.
use Rattle.std.proofs.Common.{◌≡◌, inl, inr, sym, ap, ◌∙◌, ℕ, ℤ, pos, ◌+ℤ◌, neg_ℤ, List, [], ◌∷◌, ◌++◌, arith}
use Rattle.std.proofs.Math.IntN.{+ℤ_comm}
use Rattle.std.proofs.lemmas.Int.{ints}
use Rattle.std.proofs.lemmas.List.{append-nil, append_assoc}
use Rattle.rings.specs.Edge.{Has}
use Rattle.meshes.proofs.Sides.{IsStep}
use Rattle.meshes.specs.Boundary.{IsOdd, sum_from, sum_round}

-- ---- numbers

-- a sum of three
sum_apart : (a b c s : ℤ) → s ≡ b +ℤ c → a +ℤ s ≡ (a +ℤ b) +ℤ c
sum_apart a b c s e = omega (arith, ints)

-- 0 is beside, before or after
nothing_beside : (a b : ℤ) → a +ℤ b ≡ (a +ℤ pos 0) +ℤ b
nothing_beside a b = omega (arith, ints)

nothing_around : (a : ℤ) → a +ℤ pos 0 ≡ pos 0 +ℤ a
nothing_around a = omega (arith, ints)

-- two ways instead of one: over v from u to w, with the way back from w to u
two_ways : (vw s uv uw wu r q : ℤ) → r ≡ s +ℤ uv → q ≡ s +ℤ uw → wu ≡ neg_ℤ uw → vw +ℤ r ≡ (uv +ℤ (vw +ℤ wu)) +ℤ q
two_ways vw s uv uw wu r q e d f = omega (arith, ints)

-- ---- the last of some numbers

abbrev pub last_of : ℕ → List ℕ → ℕ
last_of a [] = a
last_of a (b ∷ bs) = last_of b bs

-- a step from a number is from one of them
step_from : (a : ℕ) (bs : List ℕ) (last i j : ℕ) → IsStep a bs last i j → Has (a ∷ bs) i
step_from a [] last i j s = inl s.0
step_from a (b ∷ bs) last i j (inl s) = inl s.0
step_from a (b ∷ bs) last i j (inr s) = inr (step_from b bs last i j s)

-- where v is not among them, a step to it at the end is from the last,
from_last : (v a : ℕ) (bs : List ℕ) (u : ℕ) → ¬ Has bs v → IsStep a bs v u v → last_of a bs ≡ u
from_last v a [] u new s = s.0
from_last v a (b ∷ bs) u new (inl s) = absurd (new (inl s.1))
from_last v a (b ∷ bs) u new (inr s) = from_last v b bs u (λ h. new (inr h)) s

module _ (v a : ℕ) (bs : List ℕ) (new : ¬ Has (a ∷ bs) v) where
  -- so round v and them, from the last to v
  pub last_before : (u : ℕ) → IsStep v (a ∷ bs) v u v → last_of a bs ≡ u
  last_before u (inl s) = absurd (new (inl s.1))
  last_before u (inr s) = from_last v a bs u (λ h. new (inr h)) s

  -- and from v to the first
  pub first_after : (w : ℕ) → IsStep v (a ∷ bs) v v w → a ≡ w
  first_after w (inl s) = s.1
  first_after w (inr s) = absurd (new (step_from a bs v v w s))

-- ---- sums

module _ (φ : ℕ → ℕ → ℤ) where
  -- the sum up to a number and from it on
  pub sum_parted : (a : ℕ) (bs : List ℕ) (z : ℕ) (cs : List ℕ) → sum_from φ a (bs ++ z ∷ cs) ≡ sum_from φ a (bs ++ z ∷ []) +ℤ sum_from φ z cs
  sum_parted a [] z cs = nothing_beside (φ a z) (sum_from φ z cs)
  sum_parted a (b ∷ bs) z cs = sum_apart (φ a b) (sum_from φ b (bs ++ z ∷ [])) (sum_from φ z cs) (sum_from φ b (bs ++ z ∷ cs)) (sum_parted b bs z cs)

  -- the way to the last number
  sum_to_last : (a : ℕ) (bs : List ℕ) (z : ℕ) → sum_from φ a (bs ++ z ∷ []) ≡ sum_from φ a bs +ℤ φ (last_of a bs) z
  sum_to_last a [] z = nothing_around (φ a z)
  sum_to_last a (b ∷ bs) z = sum_apart (φ a b) (sum_from φ b bs) (φ (last_of b bs) z) (sum_from φ b (bs ++ z ∷ [])) (sum_to_last b bs z)

  -- the sum round two lists
  sum_of_both : (x : ℕ) (xs : List ℕ) (y : ℕ) (ys : List ℕ)
      → sum_round φ ((x ∷ xs) ++ y ∷ ys) ≡ sum_from φ x (xs ++ y ∷ []) +ℤ sum_from φ y (ys ++ x ∷ [])
  sum_of_both x xs y ys = ap (sum_from φ x) (append_assoc xs (y ∷ ys) (x ∷ [])) ∙ sum_parted x xs y (ys ++ x ∷ [])

  -- read from another vertex on, a piece has the same sum
  pub sum_rotated : (xs ys : List ℕ) → sum_round φ (xs ++ ys) ≡ sum_round φ (ys ++ xs)
  sum_rotated [] ys = ap (sum_round φ) (sym (append-nil ys))
  sum_rotated (x ∷ xs) [] = ap (sum_round φ) (append-nil (x ∷ xs))
  sum_rotated (x ∷ xs) (y ∷ ys) =
      sum_of_both x xs y ys ∙ +ℤ_comm (sum_from φ x (xs ++ y ∷ [])) (sum_from φ y (ys ++ x ∷ [])) ∙ sym (sum_of_both y ys x xs)

  -- with one vertex more it has the sum round a triangle more
  pub sum_with_vertex : IsOdd φ → (v w : ℕ) (ms : List ℕ)
      → sum_round φ (v ∷ w ∷ ms) ≡ (φ (last_of w ms) v +ℤ (φ v w +ℤ φ w (last_of w ms))) +ℤ sum_round φ (w ∷ ms)
  sum_with_vertex odd v w ms =
      two_ways (φ v w) (sum_from φ w ms) (φ (last_of w ms) v) (φ (last_of w ms) w) (φ w (last_of w ms)) (sum_from φ w (ms ++ v ∷ []))
      (sum_from φ w (ms ++ w ∷ [])) (sum_to_last w ms v) (sum_to_last w ms w) (odd (last_of w ms) w)
