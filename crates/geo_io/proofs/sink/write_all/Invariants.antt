use Rattle.std.proofs.Common.{◌≡◌, [], length}
use Rattle.geo_io.proofs.HandedOver.{HandedOver}
use Rattle.geo_io.proofs.sink.write_all.Given as goal

abbrev pub invariant-loop-rest : goal.invariant-loop-rest
invariant-loop-rest g l = record {
  handed : HandedOver l.bytes l.rest (g.K.Sink.taken l.fn.sink) (g.K.Sink.taken l.sink);
  counts : g.K.Sink.faults l.sink ≡ g.K.Sink.faults l.fn.sink;
  untouched : l.bytes ≡ [] → l.sink ≡ l.fn.sink;
}

abbrev pub decreases-loop-rest : goal.decreases-loop-rest
decreases-loop-rest g l = length l.rest
