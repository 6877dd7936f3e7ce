-- How many numbers below a bound a list has.
use Rattle.std.proofs.Common.{◌≡◌, ℕ, ◌<◌, ◌≤◌, inl, inr, true, false, List, length, get_or, sym, arith, ◌∙◌}
use Rattle.std.proofs.Math.Dec.{eqb}
use Rattle.std.proofs.lemmas.Bool.{cases_lt, ne_eqb, true≢false}
use Rattle.std.proofs.lemmas.List.{get_or_default}
use Rattle.std.proofs.lemmas.List.Elements.{All-from_get_or}
use Rattle.std.proofs.lemmas.List.Folds.{list_any_none}
use Rattle.std.proofs.lemmas.Map.Keys.{IsDistinct-from_apart}
use Rattle.std.proofs.lemmas.Map.Steps.{length-le_from_distinct_below}
use Rattle.std.specs.List.{list_any}

module _ (xs : List ℕ) (n : ℕ) (below : (i : ℕ) → i < length xs → get_or xs i 0 < n) where
  -- a number that is among numbers below n is below n
  below_of_any : (q : ℕ) → list_any (eqb q) xs ≡ true → q < n
  below_of_any q among = elim (cases_lt q n) [
    | inl h ↦ h
    | inr h ↦
        let apart = λ (i : ℕ) (within : i < length xs). ne_eqb q (get_or xs i 0) (λ same. omega (arith, below i within)) in
        let none : list_any (eqb q) xs ≡ false = list_any_none (eqb q) xs (All-from_get_or (λ x. eqb q x ≡ false) xs 0 apart) in
        absurd (true≢false (sym among ∙ none))
  ]

  -- a list that has none of them twice has n at most
  pub few_numbers : ((i j : ℕ) → i < j → j < length xs → ¬ (get_or xs i 0 ≡ get_or xs j 0)) → length xs ≤ n
  few_numbers once =
      let differ = λ (i j d : ℕ) (before : i < j) (within : j < length xs).
      ne_eqb (get_or xs i d) (get_or xs j d) (λ same. once i j before within
      (get_or_default xs i 0 d (omega arith) ∙ same ∙ get_or_default xs j d 0 within)) in
      length-le_from_distinct_below xs n (IsDistinct-from_apart eqb xs differ) below_of_any
