use Rattle.std.proofs.Common.{[], ◌∷◌, length-append, arith}
use Rattle.std.proofs.lemmas.List.Elements.{All-push}
use Rattle.edge_index.proofs.index.empty_runs.Goals as goal
use Rattle.edge_index.specs.Runs.{IsRun}

pub loop-made-preserved : goal.loop-made-preserved
loop-made-preserved c =
    let had = c.loop-made.invariant in
    let runs = c.loop-made.runs.items in
    rw c.push_reserved.ensures.items (record {
      runs = λ ring edges. All-push (IsRun ring edges) runs c.none.result (had.runs ring edges) (c.none.ensures ring edges);
      count = omega (arith, had.count, length-append runs (c.none.result ∷ []));
      room = omega (arith, had.room, c.push_reserved.ensures.capacity);
    })
