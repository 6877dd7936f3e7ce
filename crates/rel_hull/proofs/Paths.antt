-- The paths of a table of a ring.
use Rattle.std.proofs.Common.{◌≡◌, ◌≢◌, inl, inr, sym, ◌∙◌, ℕ, ◌<◌, ◌≤◌, List, length, arith}
use Rattle.std.proofs.lemmas.Bool.{cases_lt}
use Rattle.std.proofs.lemmas.List.FromFn.{length-map-range_with_len}
use Rattle.hulls.proofs.Joined.{on_step_to, one_front, path_is_taut, path_steps}
use Rattle.plane.specs.Point.{Point}
use Rattle.rel_hull.specs.Table.{IsTableOf, Table, chain_at, table_points}
use Rattle.rel_hull.specs.Told.{KeepsChains}
use Rattle.rings.specs.Chain.{IsTaut, point_at}
use Rattle.rings.specs.Simple.{IsSimple}

-- there are as many points as the table says
pub length-points_of : (table : Table) → length (table_points table) ≡ table.count
length-points_of table = length-map-range_with_len (λ (i : ℕ). point_at (chain_at table i i) 0) 0 table.count

module _ (ring : List Point) (table : Table) (is : IsTableOf ring table) where
  -- the chain from a point of the table to another is taut
  pub taut_chain : (i j : ℕ) → i < table.count → j < table.count
      → IsTaut ring (point_at (table_points table) i) (point_at (table_points table) j) (chain_at table i j)
  taut_chain i j at_i at_j = path_is_taut ring _ _ _ (is.paths i j at_i at_j)

  -- different numbers are of different points
  points_differ : (a s : ℕ) → a < table.count → s < table.count → a ≢ s → point_at (table_points table) a ≢ point_at (table_points table) s
  points_differ a s at_a at_s apart = elim (cases_lt a s) [
    | inl before ↦ is.distinct a s before (rw length-points_of at_s)
    | inr not ↦ λ same. is.distinct s a (omega arith) (rw length-points_of at_a) (sym same)
  ]

  module _ (some : 3 ≤ length ring) (simple : IsSimple ring) where
    -- so a table of a simple ring keeps its chains
    pub keeps_chains : KeepsChains table
    keeps_chains = record {
      few = is.few;
      square = is.square;
      some = λ i j at_i at_j. (taut_chain i j at_i at_j).bent.chain.some;
      begins = λ i j at_i at_j. (taut_chain i j at_i at_j).first;
      stepping = λ i j at_i at_j. (taut_chain i j at_i at_j).bent.chain.distinct;
      long = λ a s at_a at_s apart.
          path_steps ring some simple _ (point_at (table_points table) a) _ (chain_at table a a) (chain_at table a s) (is.paths a a at_a at_a)
          (is.paths a s at_a at_s) (points_differ a s at_a at_s apart);
      on_step = λ a b s at_a at_b at_s apart on.
          let step = on_step_to ring some simple _ _ _ (chain_at table a b) (chain_at table a s) (is.paths a b at_a at_b) (is.paths a s at_a at_s)
          (points_differ a s at_a at_s apart) on.place on.within on.on in
          record { within = step.0; on = step.1 };
      fronts = λ s t u at_s at_t at_u.
          let first = taut_chain s t at_s at_t in
          let second = taut_chain s u at_s at_u in
          one_front ring some simple (chain_at table s t) (chain_at table s u) first.bent second.bent (first.first ∙ sym second.first);
    }
