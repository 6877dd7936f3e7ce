-- Numbers that are 0 or 1, or 0 and one of 1 and -1: winding numbers of rings that run once round, and sums of two.
use Rattle.std.proofs.Common.{◌≡◌, ◌⊎◌, inl, inr, ℤ, pos, negsuc, neg_ℤ, ◌+ℤ◌, ◌*ℤ◌, arith}
use Rattle.std.proofs.lemmas.Int.{ints}

-- 1 or -1
abbrev pub IsUnit : ℤ → Type 0
IsUnit s = (s ≡ pos 1) ⊎ (s ≡ negsuc 0)

-- 0 or s
abbrev IsUpTo : ℤ → ℤ → Type 0
IsUpTo s n = (n ≡ pos 0) ⊎ (n ≡ s)

-- a value is 0 or 1
abbrev pub IsZeroOrOne : ℤ → Type 0
IsZeroOrOne n = IsUpTo (pos 1) n

-- no number is 0 and 1
pub not_zero_and_one : {n : ℤ} → n ≡ pos 0 → n ≡ pos 1 → ⊥
not_zero_and_one e h = omega (arith, ints)

-- of two values 0 or 1 that differ by 1, the greater is 1,
pub greater_is_one : (x y : ℤ) → x ≡ y +ℤ pos 1 → IsZeroOrOne x → IsZeroOrOne y → x ≡ pos 1
greater_is_one x y e (inl h) (inl k) = absurd (omega (arith, ints))
greater_is_one x y e (inl h) (inr k) = absurd (omega (arith, ints))
greater_is_one x y e (inr h) k = h

-- and the smaller is 0
pub smaller_is_zero : (x y : ℤ) → x ≡ y +ℤ pos 1 → IsZeroOrOne x → IsZeroOrOne y → y ≡ pos 0
smaller_is_zero x y e h (inl k) = k
smaller_is_zero x y e (inl h) (inr k) = absurd (omega (arith, ints))
smaller_is_zero x y e (inr h) (inr k) = absurd (omega (arith, ints))

-- 1 and 0 make 1
pub one_and_none : (n a b : ℤ) → n ≡ a +ℤ b → a ≡ pos 1 → b ≡ pos 0 → n ≡ pos 1
one_and_none n a b e h k = omega (arith, ints)

-- a sum of 0 and such a value is one
pub none_and : (z a b : ℤ) → z ≡ a +ℤ b → a ≡ pos 0 → (b ≡ pos 0) ⊎ (b ≡ pos 1) → (z ≡ pos 0) ⊎ (z ≡ pos 1)
none_and z a b e ea (inl h) = inl (omega (arith, ints))
none_and z a b e ea (inr h) = inr (omega (arith, ints))

-- 1 is not the sum of 1 and 1
pub one_and_two : (n a b : ℤ) → n ≡ a +ℤ b → a ≡ pos 1 → b ≡ pos 1 → n ≡ pos 1 → ⊥
one_and_two n a b e h k l = omega (arith, ints)

-- a sum of two values 0 or 1 that are not both 1
pub sum_value : (n a b : ℤ) → n ≡ a +ℤ b → IsZeroOrOne a → IsZeroOrOne b → ¬ ((a ≡ pos 1) × (b ≡ pos 1)) → IsZeroOrOne n
sum_value n a b e (inl h) (inl k) none = inl (omega (arith, ints))
sum_value n a b e (inl h) (inr k) none = inr (omega (arith, ints))
sum_value n a b e (inr h) (inl k) none = inr (omega (arith, ints))
sum_value n a b e (inr h) (inr k) none = absurd (none (h, k))

-- left and right of a diagonal: two numbers that make s on both sides, where the second falls by 1, are up to s
pub same_units : (s t r c d f g : ℤ) → IsUnit s → IsUnit t → IsUnit r → s ≡ c +ℤ f → s ≡ d +ℤ g → f ≡ g +ℤ pos 1
    → IsUpTo t c → IsUpTo t d → IsUpTo r f → IsUpTo r g → (t ≡ s) × (r ≡ s)
same_units s t r c d f g hs ht hr left right falls hc hd hf hg = (grind (arith, ints), grind (arith, ints))

-- left and right of an edge: a number that falls by 1 and has s as a part on both sides is not up to s, or its other part isn't
pub no_units : (s l r c d : ℤ) → IsUnit s → l ≡ s +ℤ c → r ≡ s +ℤ d → l ≡ r +ℤ pos 1 → IsUpTo s l → IsUpTo s r → IsUpTo s c → IsUpTo s d → ⊥
no_units s l r c d hs left right falls hl hr hc hd = grind (arith, ints)

-- left and right of a diagonal: two numbers up to 1 that make n on both sides, where the second falls by 1, make 1
pub both_up_to_one : (n c d f g : ℤ) → n ≡ c +ℤ f → n ≡ d +ℤ g → f ≡ g +ℤ pos 1
    → IsUpTo (pos 1) c → IsUpTo (pos 1) d → IsUpTo (pos 1) f → IsUpTo (pos 1) g → n ≡ pos 1
both_up_to_one n c d f g left right falls hc hd hf hg = grind (arith, ints)

-- an odd number up to s is s
pub odd_unit : (s n z : ℤ) → n ≡ pos 2 *ℤ z +ℤ pos 1 → IsUpTo s n → n ≡ s
odd_unit s n z odd (inl e) = absurd (omega (arith, ints))
odd_unit s n z odd (inr e) = e

-- of two parts of s up to s one is s,
pub one_is : (s n a b : ℤ) → n ≡ a +ℤ b → n ≡ s → IsUpTo s a → (a ≡ s) ⊎ (b ≡ s)
one_is s n a b sum e (inl zero) = inr (omega (arith, ints))
one_is s n a b sum e (inr is) = inl is

-- and they are not both s
pub not_twice : (s n a b : ℤ) → IsUnit s → n ≡ a +ℤ b → IsUpTo s n → a ≡ s → b ≡ s → ⊥
not_twice s n a b unit sum h ea eb = grind (arith, ints)

-- a part that is s makes s with another up to s
pub sum_is : (s n a b : ℤ) → IsUnit s → n ≡ a +ℤ b → IsUpTo s n → IsUpTo s b → a ≡ s → n ≡ s
sum_is s n a b unit sum h hb ea = grind (arith, ints)

-- numbers whose opposites are 0 or 1
pub opposites : (a b : ℤ) → b ≡ neg_ℤ a → (b ≡ pos 0) ⊎ (b ≡ pos 1) → (a ≡ pos 0) ⊎ (a ≡ negsuc 0)
opposites a b e (inl h) = inl (omega (arith, ints))
opposites a b e (inr h) = inr (omega (arith, ints))
