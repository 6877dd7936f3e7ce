use Rattle.std.proofs.Common.{◌≡◌, sym, ap, ◌∙◌, ◌-◌, length, vec_capacity, arith}
use Rattle.std.proofs.lemmas.Bool.{false≢true}
use Rattle.plane.specs.Point.{whole}
use Rattle.funnels.specs.Funnel.{IsPassed}
use Rattle.exact_plane.specs.Names.{name_at, named_points}
use Rattle.exact_plane.specs.Spot.{point_named}
use Rattle.funnel_walk.proofs.PathNames.{count_left}
use Rattle.funnel_walk.proofs.NarrowedRight.{apex_goes, other_goes, right_ends}
use Rattle.funnel_walk.proofs.funnel.place_from_right.Goals as goal
use Rattle.funnel_walk.proofs.funnel.place_from_right.Goals.{else-last-apex, then-last-apex}

pub push_reserved-requires : goal.push_reserved-requires
push_reserved-requires g c =
    let n = c.loop-last.invariant.sought in
    let count = ap length n.behind ∙ count_left c.args.out.now.items c.args.names.now.items c.args.apex (c.args.apex - c.loop-last.last) in
    omega (arith, count, c.requires.room, c.loop-last.out.ok.0, c.loop-last.invariant.same_out)

pub loop-last-preserved : goal.loop-last-preserved
loop-last-preserved g c =
    let inv = c.loop-last.invariant in
    let at = point_named (g.T.Turns.corners c.args.board.now) (g.T.Turns.start c.args.board.now) (g.T.Turns.goal c.args.board.now) in
    let names = c.args.names.now.items in
    let given = c.args.out.now.items in
    let y = whole (at c.args.y) in
    let last = c.loop-last.last in
    let out = c.loop-last.out.items in
    let past = λ (passed : IsPassed (named_points at names) c.args.apex last y).
    false≢true (sym c.if-not-is_passed.true ∙ c.is_passed.ensures.passed.1 passed) in
    record {
      sought = elim c.if-last-apex.branch [
        | then-last-apex w ↦
            let here = w.name_at.ensures in
            let named : w.name_at.result ≡ name_at names last = cc in
            rw (w.out-is, w.push_reserved.ensures.items, named)
            (apex_goes at names c.args.apex given y last out inv.sought c.loop-last-test.true past w.if-last-apex.true)
        | else-last-apex w ↦ rw w.out-is
            (other_goes at names c.args.apex given y last out inv.sought c.loop-last-test.true past w.if-last-apex.false)
      ];
      same_out = elim c.if-last-apex.branch [
        | then-last-apex w ↦ ap (λ v. vec_capacity v) w.out-is ∙ w.push_reserved.ensures.capacity ∙ inv.same_out
        | else-last-apex w ↦ ap (λ v. vec_capacity v) w.out-is ∙ inv.same_out
      ];
      steps = omega (arith, c.is_passed.ensures.steps, inv.steps);
    }

pub returns-else-not-is_passed-clause-reached : goal.returns-else-not-is_passed-clause-reached
returns-else-not-is_passed-clause-reached g c =
    let at = point_named (g.T.Turns.corners c.args.board.now) (g.T.Turns.start c.args.board.now) (g.T.Turns.goal c.args.board.now) in
    right_ends at c.args.names.now.items c.args.apex c.args.out.now.items (whole (at c.args.y)) c.loop-last.last c.loop-last.out.items
    c.loop-last.invariant.sought (λ inner. c.is_passed.ensures.passed.0 c.if-not-is_passed.false)
