use Rattle.std.proofs.Common.{◌∙◌, ◌+◌, ◌/◌, arith}
use Rattle.std.proofs.lemmas.List.{length-set}
use Rattle.std.proofs.lemmas.List.Elements.{All-set}
use Rattle.edge_index.proofs.index.refill.Goals as goal
use Rattle.edge_index.specs.Runs.{IsRun}

pub loop-k-preserved : goal.loop-k-preserved
loop-k-preserved g c =
    let had = c.loop-k.invariant in
    let runs = c.loop-k.runs.items in
    let at = c.len-half.result / 2 + c.loop-k.k in
    record {
      runs = All-set (IsRun c.args.points.now c.args.edges.now) runs at c.over.result c.over.ensures.run had.runs;
      count = length-set runs at _ ∙ had.count;
      steps = omega (arith, had.steps, c.over.ensures.steps, c.longest-slab.ensures);
    }
