use Rattle.std.proofs.Common.{◌≡◌, take}
use Rattle.funnel_walk.proofs.funnel.Funnel.copied.Given as goal

abbrev pub invariant-loop-i : goal.invariant-loop-i
invariant-loop-i l = record {
  copied : l.names.items ≡ take l.i l.self.names.items;
  room : l.names.capacity ≡ l.n;
}
