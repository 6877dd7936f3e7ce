-- The edges of a ring in another order: each is there.
use Rattle.std.proofs.Common.{◌≡◌, ◌∙◌, ap, subst, sym, ℕ, ◌+◌, ◌-◌, ◌<◌, List, length, arith, get_or}
use Rattle.std.proofs.lemmas.List.{get_or_default, get_or_read}
use Rattle.std.proofs.lemmas.List.Elements.{All-from_get_or, All-get_or, Contains-get_or}
use Rattle.std.proofs.lemmas.List.Sorted.{All-permutation, Contains-permutation, length_permutation}
use Rattle.std.specs.List.{All}
use Rattle.std.specs.Prelude.{IsPermutation}
use Rattle.star_kernel.specs.HalfPlanes.{AreAllEdges, AreEdges, edge_number_at}
use Rattle.star_kernel.specs.declared.directions.Edge.{Edge}

-- an edge beside those of a list
abbrev none : Edge
none = record { quarter = 0; turned = 0; number = 0 }

module _ (first n : ℕ) (edges moved : List Edge) (are : AreEdges first n edges) (is_moved : IsPermutation edges moved) where
  below : All (λ (e : Edge). e.number < n) edges
  below = All-from_get_or (λ (e : Edge). e.number < n) edges none (λ i within.
      subst (λ k. k < n) (sym (are.numbered i within)) (omega (arith, are.as_many, within)))

  pub edges_moved : AreAllEdges first n moved
  edges_moved =
      let count = length_permutation edges moved is_moved in
      record {
        as_many = omega (arith, are.as_many, count);
        within = λ i less.
            All-get_or (λ (e : Edge). e.number < n) moved i none less
            (All-permutation (λ (e : Edge). e.number < n) edges moved is_moved below);
        all = λ k from less.
            let j : ℕ = k - first in
            let in_list : j < length edges = omega (arith, are.as_many, from, less) in
            let sum : first + j ≡ k = omega (arith, from) in
            let edge = get_or edges j none in
            let (i, within, is) = Contains-permutation edges moved edge is_moved (Contains-get_or edges j none in_list) in (
              i,
              (within, ap (λ (e : Edge). e.number) (get_or_default moved i none edge within ∙ is) ∙ are.numbered j in_list ∙ sum),
            );
      }

-- an edge that is read from them
pub read_edge : (first n : ℕ) (edges : List Edge) → AreAllEdges first n edges → (i : ℕ) → i < length edges → (edge : Edge)
    → edge ≡ get_or edges i edge → (edge.number ≡ edge_number_at edges i) × (edge.number < n)
read_edge first n edges are i within edge is =
    let same : edge.number ≡ edge_number_at edges i = ap (λ (e : Edge). e.number) (get_or_read edges i edge within is none) in
    (same, subst (λ k. k < n) (sym same) (are.within i within))
