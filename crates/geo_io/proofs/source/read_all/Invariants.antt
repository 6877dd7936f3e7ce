use Rattle.std.proofs.Common.{◌≡◌, ◌+◌, ◌-◌, ◌≤◌, vec_len}
use Rattle.std.specs.Io.KnownBytes.{Consumes}
use Rattle.geo_io.proofs.source.read_all.Given as goal

abbrev pub invariant-loop-source : goal.invariant-loop-source
invariant-loop-source g l = record {
  given : Consumes (g.S.Source.left l.fn.source) (g.S.Source.left l.source) l.bytes.items;
  room : vec_len l.piece ≡ 65536;
  few : vec_len l.bytes ≤ l.limit + 65536;
  counts : g.S.Source.faults l.source ≡ g.S.Source.faults l.fn.source;
}

abbrev pub decreases-loop-source : goal.decreases-loop-source
decreases-loop-source g l = l.limit + 1 - vec_len l.bytes
