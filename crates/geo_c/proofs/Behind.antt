-- What is put behind the items that fill the front of a buffer.
use Rattle.std.proofs.Common.{◌≡◌, refl, sym, ap, subst, ℕ, zero, suc, ◌+◌, List, [], ◌∷◌, ◌++◌, length, map, ◌∙◌, ◌<◌, ◌≤◌, slice_set, slice_index_or, arith}
use Rattle.std.proofs.lemmas.List.{length-map, map-append}
use Rattle.std.specs.List.{AllZip}
use Rattle.std.specs.Prelude.{take, drop}
use Rattle.geo_c.specs.Filled.{filled_by}

-- one more item
pub one_behind : {X : Type 0} (items before : List X) (i : ℕ) (x : X) → length items ≡ i → i < length before
    → slice_set (filled_by items before) i x ≡ filled_by (items ++ x ∷ []) before
one_behind items [] i x many fits = let no : ⊥ = omega (arith, fits) in absurd no
one_behind [] (b ∷ []) zero x many fits = refl
one_behind [] (b ∷ c ∷ before) zero x many fits = refl
one_behind [] (b ∷ before) (suc i) x many fits = let no : ⊥ = omega (arith, many) in absurd no
one_behind (y ∷ items) (b ∷ before) zero x many fits = let no : ⊥ = omega (arith, many) in absurd no
one_behind {X = X} (y ∷ items) (b ∷ before) (suc i) x many fits =
    ap (λ (xs : List X). y ∷ xs) (one_behind items before i x (omega (arith, many)) (omega (arith, fits)))

-- some more items, which are put into the rest of the buffer
pub some_behind : {X : Type 0} (all items before : List X) → length all ≤ length before
    → take (length all) (filled_by all before) ++ filled_by items (drop (length all) (filled_by all before)) ≡ filled_by (all ++ items) before
some_behind [] items [] fit = refl
some_behind [] items (b ∷ before) fit = refl
some_behind (a ∷ all) items [] fit = let no : ⊥ = omega (arith, fit) in absurd no
some_behind {X = X} (a ∷ all) items (b ∷ before) fit = ap (λ (xs : List X). a ∷ xs) (some_behind all items before (omega (arith, fit)))

-- what is left of the buffer is as long as it was
pub length_filled : {X : Type 0} (items before : List X) → length (filled_by items before) ≡ length before
length_filled [] [] = refl
length_filled [] (b ∷ before) = refl
length_filled (y ∷ items) [] = refl
length_filled (y ∷ items) (b ∷ before) = ap (λ (n : ℕ). suc n) (length_filled items before)

-- a relation that holds of one item more
pub all_zip_more : {A B : Type 0} (R : A → B → Type 0) (xs : List A) (ys : List B) (i : ℕ) (x : A) (y : B)
    → i < length xs → x ≡ slice_index_or xs i x → AllZip R (take i xs) ys → R x y → AllZip R (take (i + 1) xs) (ys ++ y ∷ [])
all_zip_more R [] ys i x y few is all one = let no : ⊥ = omega (arith, few) in absurd no
all_zip_more R (z ∷ xs) [] zero x y few is all one = (subst (λ a. R a y) is one, tt)
all_zip_more R (z ∷ xs) (w ∷ ys) zero x y few is all one = absurd all
all_zip_more R (z ∷ xs) [] (suc i) x y few is all one = absurd all
all_zip_more R (z ∷ xs) (w ∷ ys) (suc i) x y few is all one =
    let next : suc (i + 1) ≡ suc i + 1 = omega arith in
    subst (λ n. AllZip R (take n (z ∷ xs)) (w ∷ (ys ++ y ∷ []))) next (all.0, all_zip_more R xs ys i x y (omega (arith, few)) is all.1 one)

-- nothing is put into a buffer
pub none_filled : {X : Type 0} (before : List X) → before ≡ filled_by [] before
none_filled [] = refl
none_filled (b ∷ before) = refl

pub all_zip_length : {A B : Type 0} (R : A → B → Type 0) (xs : List A) (ys : List B) → AllZip R xs ys → length xs ≡ length ys
all_zip_length R [] [] all = refl
all_zip_length R [] (y ∷ ys) all = absurd all
all_zip_length R (x ∷ xs) [] all = absurd all
all_zip_length R (x ∷ xs) (y ∷ ys) all = ap (λ (n : ℕ). suc n) (all_zip_length R xs ys all.1)

-- one more item, of what is found
pub one_mapped : {X A : Type 0} (f : X → A) (founds : List X) (found : X) (before now : List A) (k : ℕ) (value : A) → length founds ≡ k → k < length before
    → value ≡ f found → now ≡ filled_by (map f founds) before → slice_set now k value ≡ filled_by (map f (founds ++ found ∷ [])) before
one_mapped {A = A} f founds found before now k value many fits is told =
    let items = map f founds in
    let same : items ++ value ∷ [] ≡ map f (founds ++ found ∷ []) = ap (λ (x : A). items ++ x ∷ []) is ∙ sym (map-append f founds (found ∷ [])) in
    ap (λ (xs : List A). slice_set xs k value) told ∙ one_behind items before k value (length-map founds f ∙ many) fits ∙ ap (λ (xs : List A). filled_by xs before) same
