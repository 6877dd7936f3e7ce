-- In a table a point is on a chain from another point exactly if it is on one step of it.
use Rattle.std.proofs.Common.{◌≡◌, ◌≢◌, ◌↔◌, ℕ, ◌+◌, ◌-◌, ◌<◌, length, arith}
use Rattle.rel_hull.specs.Table.{Table, chain_at, table_points}
use Rattle.rel_hull.specs.Told.{IsOnChain, IsOnStep, KeepsChains}
use Rattle.rings.specs.Chain.{point_at}

pub on_step_iff : (table : Table) → KeepsChains table → (a b s : ℕ) → a < table.count → b < table.count → s < table.count → a ≢ s
    → IsOnStep (chain_at table a b) (length (chain_at table a s)) (point_at (table_points table) s)
    ↔ IsOnChain (chain_at table a b) (point_at (table_points table) s)
on_step_iff table keeps a b s at_a at_b at_s apart =
    let to = length (chain_at table a s) in
    let long = keeps.long a s at_a at_s apart in
    let next : to - 2 + 1 ≡ to - 1 = omega (arith, long) in (
      λ step. record { place = to - 2; within = omega (arith, long, step.within); on = rw next step.on },
      keeps.on_step a b s at_a at_b at_s apart,
    )
