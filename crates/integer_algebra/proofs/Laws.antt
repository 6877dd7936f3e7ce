-- Laws of sums and products of integers.
use Rattle.std.proofs.Common.{◌≡◌, ℕ, ◌*◌, ℤ, pos, negsuc, ◌+ℤ◌, ◌-ℤ◌, ◌*ℤ◌, neg_ℤ, arith, sym, ap, ◌∙◌}
use Rattle.std.proofs.lemmas.Int.{ints}
use borrow.Author.Differences.{up, down, same_in, product_is, sum_is_lem}
use lib.IntN.{*ℤ_comm}

-- the order of factors is free
pub mul_comm : (a b : ℤ) → a *ℤ b ≡ b *ℤ a
mul_comm = *ℤ_comm

-- so is their grouping
pub mul_assoc : (a b c : ℤ) → (a *ℤ b) *ℤ c ≡ a *ℤ (b *ℤ c)
mul_assoc a b c =
    let by = λ (k m n : ℕ) (e : m ≡ n). ap (λ x. x * k) e in
    let ab = product_is a b in
    let bc = product_is b c in
    let left = product_is (a *ℤ b) c in
    let right = product_is a (b *ℤ c) in
    same_in _ _ (omega (arith, by (up c) _ _ ab.0, by (down c) _ _ ab.1, by (up a) _ _ bc.0, by (down a) _ _ bc.1, by (down c) _ _ ab.0, by (up c) _ _ ab.1, by (down a) _ _ bc.0, by (up a) _ _ bc.1))

-- two factors change places before a third
pub mul_left_comm : (a b c : ℤ) → a *ℤ (b *ℤ c) ≡ b *ℤ (a *ℤ c)
mul_left_comm a b c = sym (mul_assoc a b c) ∙ ap (λ x. x *ℤ c) (mul_comm a b) ∙ mul_assoc b a c

-- a factor goes into a sum from the right
pub add-mul : (a b c : ℤ) → (a +ℤ b) *ℤ c ≡ a *ℤ c +ℤ b *ℤ c
add-mul a b c =
    let by = λ (k m n : ℕ) (e : m ≡ n). ap (λ x. x * k) e in
    let ab = sum_is_lem a b in
    let left = product_is (a +ℤ b) c in
    let ac = product_is a c in
    let bc = product_is b c in
    let right = sum_is_lem (a *ℤ c) (b *ℤ c) in
    same_in _ _ (omega (arith, by (up c) _ _ ab, by (down c) _ _ ab))

-- and from the left
pub mul-add : (a b c : ℤ) → a *ℤ (b +ℤ c) ≡ a *ℤ b +ℤ a *ℤ c
mul-add a b c = mul_comm a (b +ℤ c) ∙ add-mul b c a ∙ (λ i. mul_comm b a i +ℤ mul_comm c a i)

-- zero times a number
pub zero-mul : (a : ℤ) → pos 0 *ℤ a ≡ pos 0
zero-mul a = omega (arith, ints)

-- a number times zero
pub mul-zero : (a : ℤ) → a *ℤ pos 0 ≡ pos 0
mul-zero a = omega (arith, ints)

-- one times a number
pub one-mul : (a : ℤ) → pos 1 *ℤ a ≡ a
one-mul a = omega (arith, ints)

-- a product with minus one
pub minus_one-mul : (a : ℤ) → negsuc 0 *ℤ a ≡ neg_ℤ a
minus_one-mul a = omega (arith, ints)

-- a minus goes out of a product from the left
pub neg-mul : (a b : ℤ) → neg_ℤ a *ℤ b ≡ neg_ℤ (a *ℤ b)
neg-mul a b = ap (λ x. x *ℤ b) (sym (minus_one-mul a)) ∙ mul_assoc (negsuc 0) a b ∙ minus_one-mul (a *ℤ b)

-- and from the right
pub mul-neg : (a b : ℤ) → a *ℤ neg_ℤ b ≡ neg_ℤ (a *ℤ b)
mul-neg a b = mul_comm a (neg_ℤ b) ∙ neg-mul b a ∙ ap neg_ℤ (mul_comm b a)

-- a factor goes into a difference from the right
pub sub-mul : (a b c : ℤ) → (a -ℤ b) *ℤ c ≡ a *ℤ c -ℤ b *ℤ c
sub-mul a b c = add-mul a (neg_ℤ b) c ∙ ap (λ x. a *ℤ c +ℤ x) (neg-mul b c)

-- and from the left
pub mul-sub : (a b c : ℤ) → a *ℤ (b -ℤ c) ≡ a *ℤ b -ℤ a *ℤ c
mul-sub a b c = mul-add a b (neg_ℤ c) ∙ ap (λ x. a *ℤ b +ℤ x) (mul-neg a c)

-- a number less itself is nothing
pub sub_self : (a : ℤ) → a -ℤ a ≡ pos 0
sub_self a = omega (arith, ints)

-- numbers whose difference is nothing are equal
pub eq_of_sub-zero : (a b : ℤ) → a -ℤ b ≡ pos 0 → a ≡ b
eq_of_sub-zero a b h = omega (arith, ints)

-- two minus signs are none
pub neg_neg : (a : ℤ) → neg_ℤ (neg_ℤ a) ≡ a
neg_neg a = omega (arith, ints)
