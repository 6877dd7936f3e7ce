-- Lists of all numbers below one, and of keys with all these.
use Rattle.std.proofs.Common.{◌≡◌, ◌∙◌, sym, ap, subst, inl, inr, ℕ, suc, ◌+◌, ◌<◌, List, [], ◌∷◌, ◌++◌, map, length, get_or, arith}
use Rattle.std.proofs.lemmas.Bool.{cases_lt}
use Rattle.std.proofs.lemmas.List.{get_or-map, length-map, map-append}
use Rattle.std.proofs.lemmas.List.Elements.{All-cons, All-push, Contains-append_left, Contains-push}
use Rattle.std.proofs.lemmas.List.Sorted.{All-permutation, Contains-permutation, IsPermutation-insert, IsPermutation-map}
use Rattle.std.specs.List.{All, Contains, insert}
use Rattle.std.specs.Prelude.{IsPermutation}
use Rattle.shared_walks.specs.Several.{AreAllNumbers}
use Rattle.shared_walks.specs.declared.outward.Key.{Key}

-- what is read where there is no key
abbrev pub no_key : Key
no_key = record { farther = 0; number = 0 }

-- none are all numbers below 0,
pub numbers_of_none : AreAllNumbers 0 []
numbers_of_none = record { below = λ k d within. absurd (omega (arith, within)); each = λ k below. absurd (omega (arith, below)) }

-- with the next they are all below it and that,
numbers_more : (n : ℕ) (numbers : List ℕ) → AreAllNumbers n numbers → AreAllNumbers (n + 1) (numbers ++ n ∷ [])
numbers_more n numbers all = record {
  below = All-push (λ k. k < n + 1) numbers n (λ k d within. let less = all.below k d within in omega (arith, less)) (omega arith);
  each = λ k below. elim (cases_lt k n) [
    | inl less ↦ Contains-append_left numbers (n ∷ []) k (all.each k less)
    | inr not_less ↦
        let at : n ≡ k = omega (arith, below, not_less) in
        subst (Contains (numbers ++ n ∷ [])) at (Contains-push numbers n)
  ];
}

-- also those of keys,
pub keys_more : (n : ℕ) (before after : List Key) (key : Key) → after ≡ before ++ key ∷ [] → key.number ≡ n
    → AreAllNumbers n (map (λ k. k.number) before) → AreAllNumbers (n + 1) (map (λ k. k.number) after)
keys_more n before after key is number all =
    let numbers : List ℕ = map (λ k. k.number) before in
    let more : map (λ k. k.number) after ≡ numbers ++ n ∷ [] =
    ap (map (λ k. k.number)) is ∙ map-append (λ k. k.number) before (key ∷ []) ∙ ap (λ i. numbers ++ i ∷ []) number in
    subst (AreAllNumbers (n + 1)) (sym more) (numbers_more n numbers all)

-- and those in another order;
pub keys_moved : (n : ℕ) (before after : List Key) → IsPermutation before after → AreAllNumbers n (map (λ k. k.number) before)
    → AreAllNumbers n (map (λ k. k.number) after)
keys_moved n before after moved all =
    let same = IsPermutation-map (λ k. k.number) before after moved in
    record {
      below = All-permutation (λ k. k < n) _ _ same all.below;
      each = λ k below. Contains-permutation _ _ k same (all.each k below);
    }

-- each of their numbers is below,
pub keys_below : (n : ℕ) (keys : List Key) → AreAllNumbers n (map (λ k. k.number) keys) → All (λ (k : Key). k.number < n) keys
keys_below n keys all = λ i key within.
    subst (λ k. k < n) (get_or-map (λ k. k.number) keys i key 0 within) (all.below i 0 (omega (arith, within, length-map keys (λ (k : Key). k.number))))

-- and with one of them once more
pub keys_again : (n : ℕ) (keys : List Key) (j i : ℕ) (key : Key) → j < length keys → key ≡ get_or keys j key
    → AreAllNumbers n (map (λ k. k.number) keys) → AreAllNumbers n (map (λ k. k.number) (insert keys i key))
keys_again n keys j i key within is all =
    let numbers : List ℕ = map (λ k. k.number) keys in
    let less : key.number < n = subst (λ (k : Key). k.number < n) (sym is) (keys_below n keys all j key within) in
    let same = IsPermutation-map (λ k. k.number) (key ∷ keys) (insert keys i key) (IsPermutation-insert keys i key) in
    record {
      below = All-permutation (λ k. k < n) _ _ same (All-cons (λ k. k < n) key.number numbers less all.below);
      each = λ k below. let (place, inside, found) = all.each k below in Contains-permutation _ _ k same (suc place, omega (arith, inside), found);
    }
