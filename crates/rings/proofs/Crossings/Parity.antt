-- The number of crossed edges is odd exactly if the winding number is.
use Rattle.std.proofs.Common.{◌≡◌, Bool, ℕ, ◌+◌, ◌*◌, ◌/◌, ◌%◌, ℤ, pos, negsuc, ◌+ℤ◌, ◌-ℤ◌, ◌*ℤ◌, ap, ◌∙◌, refl, List, [], ◌∷◌, arith}
use Rattle.std.proofs.lemmas.Int.{ints}
use Rattle.std.specs.Prelude.{cond}
use Rattle.plane.specs.Point.{Triple}
use Rattle.rings.proofs.Crossings.Crossings.{crossings-cons, CrossingCase, crossing_cases, downward, uncrossed, upward}
use Rattle.rings.specs.Prelude.{crossings, Edge, is_crossed, winding}

-- the number of crossed edges is the winding number and twice some number: that of the edges crossed downward
record SameParity (w : ℤ) (n : ℕ) : Type 0 where
  pub half : ℕ
  pub doubled : w +ℤ pos (2 * half) ≡ pos n

-- a step over an edge that is crossed upward, downward or not
one_more : (c w : ℤ) (m n k j : ℕ) → c ≡ pos 1 → m ≡ 1 + n → j ≡ k → w +ℤ pos (2 * k) ≡ pos n
    → (c +ℤ w) +ℤ pos (2 * j) ≡ pos m
one_more c w m n k j ec em ej h = omega (arith, ints)

-- downward,
one_less : (c w : ℤ) (m n k j : ℕ) → c ≡ negsuc 0 → m ≡ 1 + n → j ≡ k + 1 → w +ℤ pos (2 * k) ≡ pos n
    → (c +ℤ w) +ℤ pos (2 * j) ≡ pos m
one_less c w m n k j ec em ej h = omega (arith, ints)

-- or not at all
no_more : (c w : ℤ) (m n k j : ℕ) → c ≡ pos 0 → m ≡ 0 + n → j ≡ k → w +ℤ pos (2 * k) ≡ pos n
    → (c +ℤ w) +ℤ pos (2 * j) ≡ pos m
no_more c w m n k j ec em ej h = omega (arith, ints)

-- the two numbers of a list have one parity
parity : (es : List Edge) (p : Triple) → SameParity (winding es p) (crossings es p)
parity [] p = record { half = 0; doubled = refl }
parity (e ∷ es) p = go (crossing_cases e p) (parity es p)
  where
    count : (t : Bool) → is_crossed e p ≡ t → crossings (e ∷ es) p ≡ cond t 1 0 + crossings es p
    count t h = crossings-cons p e es ∙ ap (λ b. cond b 1 0 + crossings es p) h

    go : CrossingCase e p → SameParity (winding es p) (crossings es p) → SameParity (winding (e ∷ es) p) (crossings (e ∷ es) p)
    go (upward h c t) k = record { half = k.half; doubled = one_more _ _ _ _ _ _ c (count _ t) refl k.doubled }
    go (downward h c t) k = record { half = k.half + 1; doubled = one_less _ _ _ _ _ _ c (count _ t) refl k.doubled }
    go (uncrossed h i c t) k = record { half = k.half; doubled = no_more _ _ _ _ _ _ c (count _ t) refl k.doubled }

-- ---- over numbers

module _ (v w : ℤ) (m n : ℕ) (h : SameParity v m) (k : SameParity w n) where
  -- an even number apart the numbers have one parity,
  even_apart : (z : ℤ) → v ≡ w +ℤ pos 2 *ℤ z → m % 2 ≡ n % 2
  even_apart z e = let a = h.doubled in let b = k.doubled in omega (arith, ints)

  -- and 1 apart they have not
  odd_apart : v ≡ w +ℤ pos 1 → m % 2 ≡ (n + 1) % 2
  odd_apart e = let a = h.doubled in let b = k.doubled in omega (arith, ints)

module _ (w : ℤ) (n : ℕ) (h : SameParity w n) where
  -- the number is even where the integer is,
  even_number : (z : ℤ) → w ≡ pos 2 *ℤ z → n % 2 ≡ 0
  even_number z e = let a = h.doubled in omega (arith, ints)

  -- odd where it is odd,
  odd_number : (z : ℤ) → w ≡ pos 2 *ℤ z +ℤ pos 1 → n % 2 ≡ 1
  odd_number z e = let a = h.doubled in omega (arith, ints)

  -- and only there
  odd_integer : n % 2 ≡ 1 → (z : ℤ) × (w ≡ pos 2 *ℤ z +ℤ pos 1)
  odd_integer e = let a = h.doubled in (pos (n / 2) -ℤ pos h.half, omega (arith, ints))

-- ---- crossings and winding numbers

module _ (es fs : List Edge) (p q : Triple) where
  -- with equal winding numbers the numbers of crossings have one parity
  pub same_parity : winding es p ≡ winding fs q → crossings es p % 2 ≡ crossings fs q % 2
  same_parity e = even_apart _ _ _ _ (parity es p) (parity fs q) (pos 0) (omega (arith, ints))

  -- where they are 1 apart, exactly one of the numbers is odd
  pub other_parity : winding es p ≡ winding fs q +ℤ pos 1 → crossings es p % 2 ≡ (crossings fs q + 1) % 2
  other_parity e = odd_apart _ _ _ _ (parity es p) (parity fs q) e

module _ (es : List Edge) (p : Triple) where
  -- the number of crossings is even where the winding number is
  pub crossings_even : (z : ℤ) → winding es p ≡ pos 2 *ℤ z → crossings es p % 2 ≡ 0
  crossings_even z e = even_number _ _ (parity es p) z e

  -- and odd where the winding number is odd
  pub crossings_odd : (z : ℤ) → winding es p ≡ pos 2 *ℤ z +ℤ pos 1 → crossings es p % 2 ≡ 1
  crossings_odd z e = odd_number _ _ (parity es p) z e

  -- the other way round
  pub winding_odd : crossings es p % 2 ≡ 1 → (z : ℤ) × (winding es p ≡ pos 2 *ℤ z +ℤ pos 1)
  winding_odd e = odd_integer _ _ (parity es p) e
