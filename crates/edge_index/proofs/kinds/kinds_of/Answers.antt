use Rattle.std.proofs.Common.{[], ◌∷◌, ◌<◌, length-append, arith}
use Rattle.std.proofs.lemmas.List.Elements.{All-push}
use Rattle.edge_index.proofs.kinds.kinds_of.Goals as goal

pub loop-e-preserved : goal.loop-e-preserved
loop-e-preserved g c =
    let had = c.loop-e.invariant in
    let kinds = c.loop-e.kinds.items in
    rw c.push_reserved.ensures.items (record {
      count = omega (arith, had.count, length-append kinds (c.kind_of.result ∷ []));
      kinds = All-push (λ kind. kind < 17) kinds c.kind_of.result had.kinds c.kind_of.ensures.kind;
      room = omega (arith, had.room, c.push_reserved.ensures.capacity);
      within = omega (arith, c.loop-e-test.true);
      steps = omega (arith, had.steps, c.kind_of.ensures.steps);
    })
