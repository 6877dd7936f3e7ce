-- The numbers from one on, below another.
use Rattle.std.proofs.Common.{◌≡◌, ◌∙◌, sym, ap, ℕ, ◌+◌, ◌-◌, ◌<◌, ◌≤◌, [], ◌∷◌, ◌++◌, arith}
use Rattle.std.proofs.lemmas.List.{map-id}
use Rattle.std.proofs.lemmas.List.FromFn.{get_or-range_with_len, length-range_with_len, map-range_with_len_more}
use Rattle.std.specs.List.{Contains, range_with_len}

-- each number from a on, below the end, is among them,
pub in_range_from : (a n x : ℕ) → a ≤ x → x < a + n → Contains (range_with_len a n) x
in_range_from a n x low high =
    let at = get_or-range_with_len a n (x - a) x (omega (arith, low, high)) in
    (x - a, omega (arith, length-range_with_len a n, low, high), omega (arith, at, low))

-- from 0 on
pub in_range : (n x : ℕ) → x < n → Contains (range_with_len 0 n) x
in_range n x h = in_range_from 0 n x (omega arith) (omega (arith, h))

-- one more number at the end,
pub range_grown : (a n : ℕ) → range_with_len a (n + 1) ≡ range_with_len a n ++ (a + n) ∷ []
range_grown a n =
    sym (map-id (range_with_len a (n + 1)))
    ∙ map-range_with_len_more (λ k. k) a n (a + n) (omega arith)
    ∙ ap (λ xs. xs ++ (a + n) ∷ []) (map-id (range_with_len a n))

-- from 0 on
pub range_more : (n : ℕ) → range_with_len 0 (n + 1) ≡ range_with_len 0 n ++ n ∷ []
range_more n =
    let same : 0 + n ≡ n = omega arith in
    range_grown 0 n ∙ ap (λ k. range_with_len 0 n ++ k ∷ []) same
