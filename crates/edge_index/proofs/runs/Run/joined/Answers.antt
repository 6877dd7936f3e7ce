use Rattle.std.proofs.Common.{refl, rules, arith}
use Rattle.edge_index.proofs.EdgeRuns.{run_with_run}
use Rattle.edge_index.proofs.runs.Run.joined.Goals as goal

pub returns : goal.returns
returns c = λ ring edges first second.
    let self = c.args.self.now in
    let next = c.args.next.now in
    run_with_run ring edges self next _ (search rules) refl refl (omega (arith, c.max.ensures)) (omega (arith, c.max.ensures))
    c.joined.ensures.first c.joined.ensures.second first second
