use Rattle.std.proofs.Common.{◌∷◌, [], ◌++◌, rules, arith}
use Rattle.std.proofs.lemmas.Result.{on_ok_weaker}
use Rattle.mono_fill.specs.Filled.{IsFilled}
use Rattle.mono_fill.specs.declared.side.Side.TheVariants.{Upper}
use Rattle.sweep_tri.proofs.Closing.{all_but_last, filled_last, of_last}
use Rattle.sweep_tri.proofs.Work.{accounted, met_work, removed_paid}
use Rattle.sweep_tri.specs.Entries.{event_work}
use Rattle.sweep_tri.specs.Gaps.{gap_at}
use Rattle.sweep_tri.specs.Meeting.{AreFilled, closed_at, left_at}
use Rattle.sweep_tri.specs.Region.{IsClosedRegion, boundary}
use Rattle.sweep_tri.proofs.event.Sweep.end.Goals as goal

pub meet-requires-clause-closed : goal.meet-requires-clause-closed
meet-requires-clause-closed g c =
    let gap = gap_at c.args.self.now.status c.args.j in
    rw c.in_ok-gap.ensures.gap
    (all_but_last (IsClosedRegion (g.T.Turns.corners c.args.ring.now.board.now) c.args.ring.now.rank.now) (closed_at Upper gap.low gap.high c.args.v)
    (left_at Upper gap.low gap.high c.args.v) c.requires.closed)

pub returns-in_err-region-clause-work : goal.returns-in_err-region-clause-work
returns-in_err-region-clause-work g c =
    let met = met_work c.args.self.now.status c.args.j c.args.steps.now c.requires.place Upper c.args.v _ c.in_ok-gap.ensures.gap _ c.meet.ensures.steps in
    (omega (arith, met), search rules)

pub close-requires-clause-closed : goal.close-requires-clause-closed
close-requires-clause-closed g c =
    let gap = gap_at c.args.self.now.status c.args.j in
    rw (c.in_ok-region.ensures.left, c.in_ok-gap.ensures.gap)
    (of_last (IsClosedRegion (g.T.Turns.corners c.args.ring.now.board.now) c.args.ring.now.rank.now) (closed_at Upper gap.low gap.high c.args.v)
    (left_at Upper gap.low gap.high c.args.v) c.requires.closed)

pub returns-clause-filled : goal.returns-clause-filled
returns-clause-filled g c =
    let corners = g.T.Turns.corners c.args.ring.now.board.now in
    let gap = gap_at c.args.self.now.status c.args.j in
    let closed = closed_at Upper gap.low gap.high c.args.v in
    let region = left_at Upper gap.low gap.high c.args.v in
    let old = c.args.self.now.tris.items in
    let between = c.meet.new.tris.items in
    let new = c.close.new.tris.items in
    on_ok_weaker {P = IsFilled corners (boundary region) between new} {Q = AreFilled corners (closed ++ region ∷ []) old new} c.close.result
    (λ last. filled_last corners closed region old between new (rw c.in_ok-gap.ensures.gap at c.in_ok-region.ensures.filled) last)
    (rw (c.in_ok-region.ensures.left, c.in_ok-gap.ensures.gap) at c.close.ensures.filled)

pub returns-clause-work : goal.returns-clause-work
returns-clause-work g c =
    let met = removed_paid c.args.self.now.status c.args.j c.args.steps.now c.requires.place Upper c.args.v _ c.in_ok-gap.ensures.gap _ c.meet.ensures.steps
    _ _ c.in_ok-region.ensures.left c.in_ok-gap.ensures.gaps in
    accounted c.close.result c.args.self.now.status c.remove.new.self event_work c.args.steps.now c.close.new.steps (omega (arith, met, c.close.ensures.steps))
