-- What is read at a place of a table that has its rows one after another.
use Rattle.std.proofs.Common.{◌≡◌, ℕ, ◌+◌, ◌*◌, ◌<◌, List, [], get_or, length, map, sym, ap, ◌∙◌, arith}
use Rattle.std.proofs.lemmas.List.{get_or-map, length-map}
use Rattle.std.proofs.lemmas.Nat.{mul-add-lt}

-- the chain that is held there
pub chain_read : {V X : Type 0} (f : V → List X) (held : List V) (v : V) (chain : List X) (count i j k : ℕ) → chain ≡ f v
    → v ≡ get_or held k v → k ≡ i * count + j → i < count → j < count → length (map f held) ≡ count * count
    → chain ≡ get_or (map f held) (i * count + j) []
chain_read f held v chain count i j k is read place at_i at_j square =
    let within : k < length held = omega (arith, mul-add-lt i count j count at_i at_j, length-map held f) in
    is ∙ ap f read ∙ sym (get_or-map f held k v [] within) ∙ ap (λ (p : ℕ). get_or (map f held) p []) place
