use Rattle.std.proofs.Common.{arith}
use Rattle.std.proofs.lemmas.List.{length_push}
use Rattle.rel_hull.proofs.Costs.{one_more}
use Rattle.rel_hull.proofs.Outer.{others_more, others_same}
use Rattle.rel_hull.proofs.hull.outer_points.Goals as goal
use Rattle.rel_hull.proofs.hull.outer_points.Goals.{else-not-is_inner, then-not-is_inner+in_ok-push}
use Rattle.rel_hull.specs.Told.{IsOnSomeChain}

pub loop-s-preserved : goal.loop-s-preserved
loop-s-preserved g c =
    let paid = one_more _ _ _ c.loop-s.s _ c.loop-s.invariant.steps c.is_inner.ensures.steps in
    elim c.if-not-is_inner.branch [
      | then-not-is_inner+in_ok-push w ↦
          rw (w.outer-is, w.in_ok-push.ensures.items)
          (record {
            few = omega (arith, length_push c.loop-s.outer.items c.loop-s.s, c.loop-s.invariant.few);
            steps = paid;
            outer = others_more (IsOnSomeChain c.args.chains.now) c.loop-s.s c.loop-s.outer.items c.loop-s.invariant.outer
                (λ passed. absurd (cc (c.is_inner.ensures.inner.1 passed, w.if-not-is_inner.true)));
          })
      | else-not-is_inner w ↦
          rw w.outer-is
          (record {
            few = omega (arith, c.loop-s.invariant.few);
            steps = paid;
            outer = others_same (IsOnSomeChain c.args.chains.now) c.loop-s.s c.loop-s.outer.items c.loop-s.invariant.outer
                (c.is_inner.ensures.inner.0 w.if-not-is_inner.false);
          })
    ]
