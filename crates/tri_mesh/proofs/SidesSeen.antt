-- The sides at a corner are seen one after another, the last one first.
use Rattle.std.proofs.Common.{◌≡◌, ℕ, ◌+◌, ◌<◌, inl, inr, List, length, arith, Some}
use Rattle.std.proofs.lemmas.Bool.{cases_eq}
use Rattle.std.specs.Prelude.{Option}
use Rattle.tri_mesh.proofs.RowPairs.{first_has, linked_after, more_after}
use Rattle.tri_mesh.specs.Neighbours.{ArePaired, AreSeen, AreShared, mark_at, rows_linked, side_at}
use Rattle.tri_mesh.specs.declared.sides.Side.{Side}

module _ (m n : ℕ) (sides : List Side) (paired : ArePaired m n sides) (rows : List (List (Option ℕ))) (marks : List ℕ) where
  module _ (p : ℕ) (p_below : p < length sides) (seen : AreSeen sides (side_at sides p).high (p + 1) m n rows marks) where
    abbrev s : Side
    s = side_at sides p

    -- with the side that is marked at the corner
    pub seen_linked : (q : ℕ) → mark_at marks s.low ≡ Some q → AreShared s (side_at sides q)
        → AreSeen sides s.high p m n (rows_linked rows s (side_at sides q)) marks
    seen_linked q mark shared =
        let q_below = seen.in_list s.low q mark in
        record {
          linked = linked_after m n sides paired rows seen.linked p q p_below q_below shared;
          count = seen.count;
          in_list = seen.in_list;
          seen = λ x from below high. elim (cases_eq x p) [
            | inl same ↦ rw same (inl (first_has m n sides paired rows seen.linked p q p_below q_below shared))
            | inr other ↦ elim (seen.seen x (omega (arith, from)) below high) [
              | inl owner ↦ inl (more_after m n sides paired rows seen.linked p q p_below q_below shared (side_at sides x) owner)
              | inr marked ↦ inr marked
            ]
          ];
        }
