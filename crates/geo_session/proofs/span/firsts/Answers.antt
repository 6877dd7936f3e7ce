use Rattle.std.proofs.Common.{◌≡◌, ◌+◌, ℕ, arith, length, subst}
use Rattle.std.proofs.lemmas.List.{length_push}
use Rattle.rel_hull.proofs.Costs.{one_more, within_rounds}
use Rattle.geo_session.proofs.Spanned.{firsts_all, firsts_more, firsts_same}
use Rattle.geo_session.proofs.span.firsts.Goals as goal
use Rattle.geo_session.proofs.span.firsts.Goals.{else-not-is_repeated, then-not-is_repeated+in_ok-push}
use Rattle.geo_session.specs.Span.{AreFirstsBelow}

pub loop-i-preserved : goal.loop-i-preserved
loop-i-preserved g c =
    let points = c.args.points.now in
    let i = c.loop-i.i in
    let numbers = c.loop-i.numbers.items in
    let are = c.loop-i.invariant.are in
    let few = c.loop-i.invariant.few in
    let paid = one_more _ _ _ i (length points) c.loop-i.invariant.steps (omega (arith, c.is_repeated.ensures.steps)) in
    elim c.if-not-is_repeated.branch [
      | then-not-is_repeated+in_ok-push w ↦ record {
        are = rw (w.numbers-is, w.in_ok-push.ensures.items)
            (firsts_more points i numbers are (λ repeated. absurd (cc (c.is_repeated.ensures.repeated.1 repeated, w.if-not-is_repeated.true))));
        few = rw (w.numbers-is, w.in_ok-push.ensures.items) (omega (arith, length_push numbers i, few));
        steps = paid;
      }
      | else-not-is_repeated w ↦ record {
        are = rw w.numbers-is (firsts_same points i numbers are (c.is_repeated.ensures.repeated.0 w.if-not-is_repeated.false));
        few = rw w.numbers-is (omega (arith, few));
        steps = paid;
      }
    ]

pub returns-clause-firsts : goal.returns-clause-firsts
returns-clause-firsts g c =
    let end : c.loop-i.i ≡ length c.args.points.now = omega arith in
    firsts_all c.args.points.now c.loop-i.numbers.items
    (subst (λ (n : ℕ). AreFirstsBelow c.args.points.now n c.loop-i.numbers.items) end c.loop-i.invariant.are)

pub returns-in_err-push-clause-steps : goal.returns-in_err-push-clause-steps
returns-in_err-push-clause-steps g c =
    within_rounds _ _ (c.loop-i.i + 1) _ _ (one_more _ _ _ c.loop-i.i (length c.args.points.now) c.loop-i.invariant.steps (omega (arith, c.is_repeated.ensures.steps)))
    (omega arith)

pub returns-clause-steps : goal.returns-clause-steps
returns-clause-steps g c = within_rounds _ _ c.loop-i.i _ _ c.loop-i.invariant.steps (omega arith)
