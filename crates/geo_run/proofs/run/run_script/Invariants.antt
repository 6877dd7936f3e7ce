use Rattle.std.proofs.Common.{length}
use Rattle.geo_run.proofs.run.run_script.Given as goal
use Rattle.geo_run.specs.Progress.{WrittenSoFar}

abbrev pub invariant-records : goal.invariant-records
invariant-records g l =
    WrittenSoFar l.bytes l.script l.session.state (g.K.Sink.taken l.fn.sink) (g.K.Sink.taken l.sink) (g.K.Sink.faults l.fn.sink) (g.K.Sink.faults l.sink) l.out.items

abbrev pub decreases-records : goal.decreases-records
decreases-records g l = length l.script.left
