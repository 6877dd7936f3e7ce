use Rattle.std.proofs.Common.{false, sym, true, ◌∙◌, arith}
use Rattle.rings.proofs.Vertices.{on_some_from}
use Rattle.rings.specs.Ring.{IsOnEdge}
use Rattle.inside_test.proofs.Odd.{not_other, not_same, over_more, over_none}
use Rattle.inside_test.proofs.position.odd_by_edges.Goals as goal
use Rattle.inside_test.proofs.position.odd_by_edges.Goals.{in-Crossed, in-Missed}

pub loop-i-init : goal.loop-i-init
loop-i-init g c = (over_none c.args.ring.now.corners c.args.p.now c.args.first, c.of-a.ensures.at ∙ c.corner.ensures, c.of-a.ensures.beside _ c.requires.levels, omega arith)

pub meeting_of-requires-clause-last : goal.meeting_of-requires-clause-last
meeting_of-requires-clause-last g c = c.of-b.ensures.beside _ c.requires.levels

pub returns-in-On : goal.returns-in-On
returns-in-On g c =
    let ring = c.args.ring.now.corners in
    let p = c.args.p.now in
    let (_, at_a, _, steps) = c.loop-i.invariant in
    let at_b = c.of-b.ensures.at ∙ c.next.ensures in
    let here : IsOnEdge ring c.loop-i.i p = rw (at_a, at_b) at (c.meeting_of.ensures.meeting.on.0 c.in-On.is) in
    record { on = on_some_from p ring c.loop-i.i (omega arith) here; odd = tt; steps = omega (arith, steps, c.of-b.ensures.steps, c.meeting_of.ensures.steps) }

pub loop-i-preserved : goal.loop-i-preserved
loop-i-preserved g c =
    let ring = c.args.ring.now.corners in
    let p = c.args.p.now in
    let (odd, at_a, _, steps) = c.loop-i.invariant in
    let at_b = c.of-b.ensures.at ∙ c.next.ensures in
    let beside = c.of-b.ensures.beside _ c.requires.levels in
    elim c.match-meeting_of.branch [
      | in-Crossed w ↦ (
        over_more ring p c.args.first c.loop-i.i c.loop-i.is_odd true _ (omega arith) odd
            (λ on. absurd (cc (c.meeting_of.ensures.meeting.on.1 (rw (at_a, at_b) on), w.in-Crossed.is)))
            (rw (at_a, at_b) at (c.meeting_of.ensures.meeting.crossed w.in-Crossed.is)) (w.is_odd-is ∙ sym (not_same c.loop-i.is_odd)),
        at_b,
        beside,
        omega (arith, steps, c.of-b.ensures.steps, c.meeting_of.ensures.steps),
      )
      | in-Missed w ↦ (
        over_more ring p c.args.first c.loop-i.i c.loop-i.is_odd false _ (omega arith) odd
            (λ on. absurd (cc (c.meeting_of.ensures.meeting.on.1 (rw (at_a, at_b) on), w.in-Missed.is)))
            (rw (at_a, at_b) at (c.meeting_of.ensures.meeting.missed w.in-Missed.is)) (w.is_odd-is ∙ sym (not_other c.loop-i.is_odd)),
        at_b,
        beside,
        omega (arith, steps, c.of-b.ensures.steps, c.meeting_of.ensures.steps),
      )
    ]
