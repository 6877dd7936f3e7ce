use Rattle.std.proofs.Common.{sym, ap, ◌∙◌, ◌-◌, ◌<◌, length, vec_capacity, arith}
use Rattle.std.proofs.lemmas.Bool.{false≢true}
use Rattle.std.proofs.lemmas.List.{length-drop}
use Rattle.plane.specs.Point.{whole}
use Rattle.funnels.specs.Funnel.{IsPassed}
use Rattle.exact_plane.specs.Names.{named_points}
use Rattle.exact_plane.specs.Spot.{point_named}
use Rattle.funnel_walk.proofs.PathNames.{count_right}
use Rattle.funnel_walk.proofs.NarrowedLeft.{apex_goes, left_ends, other_goes}
use Rattle.funnel_walk.proofs.funnel.narrow_left.Goals as goal
use Rattle.funnel_walk.proofs.funnel.narrow_left.Goals.{else-apex-eq0, then-apex-eq0}

pub push_reserved-requires : goal.push_reserved-requires
push_reserved-requires g c =
    let n = c.loop-names.invariant.narrowed in
    let given = c.args.out.now.items in
    let names = c.args.names.now.items in
    let count = ap length n.behind ∙ count_right given names c.args.apex ((length names - length c.loop-names.names.items) - c.args.apex) in
    omega (
      arith,
      count,
      n.some,
      n.fewer,
      c.len.ensures.len,
      c.requires.room,
      c.requires.apex,
      c.loop-names.out.ok.0,
      c.loop-names.invariant.same_out,
    )

pub loop-names-preserved : goal.loop-names-preserved
loop-names-preserved g c =
    let inv = c.loop-names.invariant in
    let at = point_named (g.T.Turns.corners c.args.board.now) (g.T.Turns.start c.args.board.now) (g.T.Turns.goal c.args.board.now) in
    let names = c.args.names.now.items in
    let given = c.args.out.now.items in
    let y = whole (at c.args.y) in
    let left = c.loop-names.names.items in
    let now = c.loop-names.apex in
    let out = c.loop-names.out.items in
    let more : 1 < length left = omega (arith, c.len.ensures.len) in
    let passed : IsPassed (named_points at left) c.loop-names.apex 1 y = c.is_passed.ensures.passed.0 c.if-is_passed.true in
    record {
      narrowed = rw c.pop_front.ensures.items (elim c.if-apex-eq0.branch [
        | then-apex-eq0 w ↦ rw (w.out-is, w.apex-is, w.if-apex-eq0.true, w.push_reserved.ensures.items, w.name_at.ensures)
            (apex_goes at names c.args.apex given y left now out inv.narrowed more passed w.if-apex-eq0.true)
        | else-apex-eq0 w ↦ rw (w.out-is, w.apex-is)
            (other_goes at names c.args.apex given y left now out inv.narrowed more passed w.if-apex-eq0.false)
      ]);
      same_room = ap (λ b. b.capacity) c.pop_front.ensures.items ∙ inv.same_room;
      same_out = elim c.if-apex-eq0.branch [
        | then-apex-eq0 w ↦ ap (λ v. vec_capacity v) w.out-is ∙ w.push_reserved.ensures.capacity ∙ inv.same_out
        | else-apex-eq0 w ↦ ap (λ v. vec_capacity v) w.out-is ∙ inv.same_out
      ];
      steps = rw c.pop_front.ensures.items (omega (arith, c.is_passed.ensures.steps, inv.steps, length-drop 1 left));
    }

pub returns-else-is_passed-clause-reached : goal.returns-else-is_passed-clause-reached
returns-else-is_passed-clause-reached g c =
    let at = point_named (g.T.Turns.corners c.args.board.now) (g.T.Turns.start c.args.board.now) (g.T.Turns.goal c.args.board.now) in
    left_ends at c.args.names.now.items c.args.apex c.args.out.now.items (whole (at c.args.y))
    c.loop-names.names.items c.loop-names.apex c.loop-names.out.items c.loop-names.invariant.narrowed
    (λ more passed. false≢true (sym c.if-is_passed.false ∙ c.is_passed.ensures.passed.1 passed))
