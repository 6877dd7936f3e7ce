use Rattle.std.proofs.Common.{◌≢◌, ℕ, arith, below_more}
use Rattle.std.proofs.lemmas.Bool.{false≢true}
use Rattle.rel_hull.proofs.Costs.{one_more}
use Rattle.rel_hull.proofs.hull.is_inner.Goals as goal
use Rattle.rel_hull.proofs.hull.is_inner.Goals.{else-a-s-via-else-a-s, else-a-s-via-then-a-s+else-is_on_path_from}
use Rattle.rel_hull.specs.Told.{IsPassedFrom}

pub loop-a-preserved : goal.loop-a-preserved
loop-a-preserved g c = record {
  none =
      below_more (λ (a : ℕ). a ≢ c.args.s → ¬ IsPassedFrom c.args.chains.now a c.args.s) c.loop-a.a c.loop-a.invariant.none
      (elim c.else-a-s.branch [
        | else-a-s-via-then-a-s+else-is_on_path_from w ↦
            λ not_s passed. absurd (cc (w.is_on_path_from.ensures.passed.1 passed, w.if-is_on_path_from.false))
        | else-a-s-via-else-a-s w ↦ λ not_s passed. not_s w.if-a-s.false
      ]);
  steps = elim c.else-a-s.branch [
    | else-a-s-via-then-a-s+else-is_on_path_from w ↦
        rw w.steps-is (one_more _ _ _ c.loop-a.a _ c.loop-a.invariant.steps w.is_on_path_from.ensures.steps)
    | else-a-s-via-else-a-s w ↦ rw w.steps-is (omega (arith, c.loop-a.invariant.steps))
  ];
}

pub returns-clause-inner : goal.returns-clause-inner
returns-clause-inner g c =
    (λ e. absurd (false≢true e), λ passed. absurd (c.loop-a.invariant.none passed.a (omega (arith, passed.in_table)) passed.not_s passed.passes))
