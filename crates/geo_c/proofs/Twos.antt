-- Lists that have two items of each of another.
use Rattle.std.proofs.Common.{◌≡◌, ℕ, zero, suc, ◌+◌, ◌*◌, ◌/◌, ◌%◌, ◌<◌, ◌==◌, if◌then◌else◌, List, [], ◌∷◌, length, slice_index_or, refl, sym, ap, ◌∙◌, subst, arith}
use Rattle.std.specs.List.{flat_map}
use Rattle.plane.specs.Point.{Triple}
use Rattle.rings.specs.Visible.{Part}
use Rattle.geo_c.specs.Fractions.{Fraction, end_at, fraction_at, fraction_x, fraction_y, fractions_of_parts}

abbrev pub twos : {X A : Type 0} → (X → A) → (X → A) → List X → List A
twos f g xs = flat_map (λ x. f x ∷ g x ∷ []) xs

pub length_twos : {X A : Type 0} (f g : X → A) (xs : List X) → length (twos f g xs) ≡ 2 * length xs
length_twos f g [] = refl
length_twos f g (x ∷ xs) = omega (arith, length_twos f g xs)

-- item r of the two of the k-th
twos_at : {X A : Type 0} (f g : X → A) (xs : List X) (k r : ℕ) (x : X) (a : A) → k < length xs → x ≡ slice_index_or xs k x → r < 2
    → slice_index_or (twos f g xs) (2 * k + r) a ≡ (if r == 0 then f x else g x)
twos_at f g [] k r x a few is two = let no : ⊥ = omega (arith, few) in absurd no
twos_at f g (y ∷ xs) zero zero x a few is two = let same : y ≡ x = sym is in ap f same
twos_at f g (y ∷ xs) zero (suc zero) x a few is two = let same : y ≡ x = sym is in ap g same
twos_at f g (y ∷ xs) zero (suc (suc r)) x a few is two = let no : ⊥ = omega (arith, two) in absurd no
twos_at f g (y ∷ xs) (suc k) r x a few is two =
    let next : suc (suc (2 * k + r)) ≡ 2 * suc k + r = omega arith in
    subst (λ n. slice_index_or (twos f g (y ∷ xs)) n a ≡ (if r == 0 then f x else g x)) next (twos_at f g xs k r x a (omega (arith, few)) is two)

-- item i is of the one with half its number
pub two_of : {X A : Type 0} (f g : X → A) (xs : List X) (i : ℕ) (x : X) (a : A) → i / 2 < length xs → x ≡ slice_index_or xs (i / 2) x
    → slice_index_or (twos f g xs) i a ≡ (if (i % 2) == 0 then f x else g x)
two_of f g xs i x a few is =
    let parted : 2 * (i / 2) + i % 2 ≡ i = omega arith in
    let two : i % 2 < 2 = omega arith in
    subst (λ n. slice_index_or (twos f g xs) n a ≡ (if (i % 2) == 0 then f x else g x)) parted (twos_at f g xs (i / 2) (i % 2) x a few is two)

-- the ends of some parts, two of each
abbrev ends_of : List Part → List Triple
ends_of parts = twos (λ part. part.first) (λ part. part.last) parts

pub fractions_length : (parts : List Part) → length (fractions_of_parts parts) ≡ 4 * length parts
fractions_length parts =
    let ends : length (ends_of parts) ≡ 2 * length parts = length_twos (λ part. part.first) (λ part. part.last) parts in
    let both : length (fractions_of_parts parts) ≡ 2 * length (ends_of parts) = length_twos fraction_x fraction_y (ends_of parts) in
    omega (arith, ends, both)

-- fraction i of some parts
pub fraction_of : (parts : List Part) (i : ℕ) (part : Part) (p : Triple) (q : Fraction) → (i / 2) / 2 < length parts → part ≡ slice_index_or parts ((i / 2) / 2) part
    → p ≡ end_at (i / 2) part → q ≡ fraction_at i p → q ≡ slice_index_or (fractions_of_parts parts) i q
fraction_of parts i part p q there is_part is_end is =
    let many : length (ends_of parts) ≡ 2 * length parts = length_twos (λ part. part.first) (λ part. part.last) parts in
    let there' : i / 2 < length (ends_of parts) = omega (arith, many, there) in
    let end : p ≡ slice_index_or (ends_of parts) (i / 2) p = is_end ∙ sym (two_of (λ part. part.first) (λ part. part.last) parts (i / 2) part p there is_part) in
    is ∙ sym (two_of fraction_x fraction_y (ends_of parts) i p q there' end)
