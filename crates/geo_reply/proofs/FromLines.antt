-- The lines of a tree, as a loop writes them.
use Rattle.std.proofs.Common.{◌≡◌, ◌∙◌, sym, ap, arith, append_assoc, ℕ, ◌+◌, ◌<◌, List, [], ◌∷◌, ◌++◌, get_or, length, take}
use Rattle.std.proofs.lemmas.List.{append-nil, length-take-le, take_more}
use Rattle.geo_reply.specs.ReplyText.{from_text, froms_text}
use Rattle.geo_reply.specs.declared.reply.Before.{Before}

-- the lines of a list with one more
froms_push : (i : ℕ) (befores : List Before) (before : Before)
    → froms_text i (befores ++ before ∷ []) ≡ froms_text i befores ++ from_text (i + length befores) before
froms_push i [] before = append-nil (from_text i before) ∙ ap (λ k. from_text k before) (omega arith)
froms_push i (first ∷ rest) before =
    ap (λ t. from_text i first ++ t) (froms_push (i + 1) rest before)
    ∙ sym (append_assoc (from_text i first) (froms_text (i + 1) rest) (from_text (i + 1 + length rest) before))
    ∙ ap (λ k. (from_text i first ++ froms_text (i + 1) rest) ++ from_text k before) (omega arith)

module _ (befores : List Before) (old front : List ℕ) where
  pub froms_none : (mid : List ℕ) → mid ≡ old ++ front → mid ≡ old ++ (front ++ froms_text 0 (take 0 befores))
  froms_none mid written = written ∙ ap (λ t. old ++ t) (sym (append-nil front))

  module _ (k : ℕ) (mid : List ℕ) (inside : mid ≡ old ++ (front ++ froms_text 0 (take k befores))) where
    pub froms_pushed : (d before : Before) (out : List ℕ) → k < length befores → before ≡ get_or befores k d → out ≡ mid ++ from_text k before
        → out ≡ old ++ (front ++ froms_text 0 (take (k + 1) befores))
    froms_pushed d before out below is written =
        let longer : take k befores ++ before ∷ [] ≡ take (k + 1) befores = ap (λ v. take k befores ++ v ∷ []) is ∙ sym (take_more befores k d below) in
        let count : length (take k befores) ≡ k = length-take-le k befores (omega arith) in
        let line : froms_text 0 (take (k + 1) befores) ≡ froms_text 0 (take k befores) ++ from_text k before =
        ap (froms_text 0) (sym longer) ∙ froms_push 0 (take k befores) before
        ∙ ap (λ n. froms_text 0 (take k befores) ++ from_text n before) (omega (arith, count)) in
        written
        ∙ ap (λ t. t ++ from_text k before) inside
        ∙ append_assoc old (front ++ froms_text 0 (take k befores)) (from_text k before)
        ∙ ap (λ t. old ++ t) (append_assoc front (froms_text 0 (take k befores)) (from_text k before) ∙ ap (λ t. front ++ t) (sym line))
