use Rattle.std.proofs.Common.{◌≡◌}
use Rattle.geo_c.specs.Held.{talk_of}
use Rattle.geo_c.specs.Many.{Buffers, asked_pairs}
use Rattle.geo_c.proofs.Paths.{AreToldSoFar}
use Rattle.geo_c.proofs.many.tell_paths.Given as goal

-- the first pairs have their paths
abbrev pub invariant-pairs : goal.invariant-pairs
invariant-pairs g l =
    let before : Buffers = record { points = l.fn.points; statuses = l.fn.statuses; lengths = l.fn.lengths } in
    let now : Buffers = record { points = l.points; statuses = l.statuses; lengths = l.lengths } in
    record {
      same : l.session.held ≡ l.fn.session.held;
      counted : l.done ≡ l.k;
      told : AreToldSoFar (talk_of l.fn.session.held) (asked_pairs l.ends before) l.k l.used before now;
    }
