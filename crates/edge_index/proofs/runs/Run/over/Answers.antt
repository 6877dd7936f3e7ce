use Rattle.std.proofs.Common.{◌∙◌, refl, sym, arith}
use Rattle.edge_index.proofs.EdgeRuns.{run_with_edge}
use Rattle.edge_index.proofs.runs.Run.over.Goals as goal

pub loop-k-preserved : goal.loop-k-preserved
loop-k-preserved g c =
    let had = c.loop-k.invariant in
    let probe = c.of-edge.ensures.probe in
    let covered = c.with.ensures.ends _ _ probe in
    record {
      run = run_with_edge c.args.points.now c.args.edges.now c.loop-k.run _ c.loop-k.k had.end (sym had.first) refl
          (omega (arith, c.max.ensures)) (omega (arith, c.max.ensures)) c.with.ensures.old (record { from = covered.0; to = covered.1 })
          (λ equal. absurd (cc (c.is_point.ensures (probe.from ∙ equal ∙ sym probe.to), c.if-is_point.false))) had.run;
      first = refl;
      end = refl;
      within = omega (arith, had.within, c.loop-k-test.true);
      steps = omega (arith, had.steps, c.of-edge.ensures.steps, c.loop-k.auto.k);
    }
