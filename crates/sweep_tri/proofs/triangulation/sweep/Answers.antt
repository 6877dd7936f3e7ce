use Rattle.std.proofs.Common.{◌≡◌, sym, ap, subst, List, ℕ, ◌+◌, length, arith}
use Rattle.std.specs.Prelude.{slice_index}
use Rattle.rings.specs.Events.{AreEvents}
use Rattle.sweep_tri.proofs.Passes.{event_passed, next_event, swept_of_none}
use Rattle.sweep_tri.proofs.Swept.{swept_at_end}
use Rattle.sweep_tri.proofs.triangulation.sweep.Goals as goal
use Rattle.sweep_tri.specs.Entries.{status_entries}
use Rattle.sweep_tri.specs.Passing.{IsNextEvent}
use Rattle.sweep_tri.specs.Swept.{IsSwept}

pub loop-v-init : goal.loop-v-init
loop-v-init g c = record {
  swept = swept_of_none (g.T.Turns.corners c.args.board.now) c.in_ok-rank.rank.items c.new-state.ensures.gaps c.new-state.ensures.triangles;
  steps = omega (arith, ap status_entries c.new-state.ensures.gaps);
}

pub pass-requires : goal.pass-requires
pass-requires g c =
    let k : ℕ = slice_index c.args.order.now c.loop-v.v-index in
    record {
      next = subst (λ (ranks : List ℕ). IsNextEvent (g.T.Turns.corners c.args.board.now) ranks c.loop-v.state.status c.loop-v.state.tris.items k)
          (sym c.deref.ensures.value)
          (next_event _ _ _ (c.in_ok-rank.ensures _ c.requires.order) c.loop-v.v-index (omega (arith, c.loop-v-test.true, c.requires.order.all))
          c.loop-v.state.status c.loop-v.state.tris.items c.requires.some c.requires.simple c.requires.few c.loop-v.invariant.swept);
    }

pub loop-v-preserved : goal.loop-v-preserved
loop-v-preserved g c =
    let corners = g.T.Turns.corners c.args.board.now in
    let k : ℕ = slice_index c.args.order.now c.loop-v.v-index in
    record {
      swept = event_passed _ _ _ (c.in_ok-rank.ensures _ c.requires.order) c.loop-v.v-index (omega (arith, c.loop-v-test.true, c.requires.order.all))
          c.pass.new.self.status c.pass.new.self.tris.items
          (subst (λ (ranks : List ℕ). IsSwept corners ranks (slice_index ranks k + 1) c.pass.new.self.status c.pass.new.self.tris.items)
          c.deref.ensures.value c.in_ok-pass.ensures.swept);
      steps = omega (arith, c.in_ok-pass.ensures.work.1, c.loop-v.invariant.steps);
    }

pub returns-clause-fits : goal.returns-clause-fits
returns-clause-fits g c =
    let corners = g.T.Turns.corners c.args.board.now in
    let order = c.args.order.now in
    let are : AreEvents corners order c.in_ok-rank.rank.items = c.in_ok-rank.ensures corners c.requires.order in
    let all : c.loop-v.v-index ≡ length corners = omega (arith, c.loop-v-test.false, c.loop-v.auto.v-index-end, c.requires.order.all) in
    swept_at_end corners order c.in_ok-rank.rank.items are c.requires.some c.requires.simple c.loop-v.state.status c.loop-v.state.tris.items
    (subst (λ k. IsSwept corners c.in_ok-rank.rank.items k c.loop-v.state.status c.loop-v.state.tris.items) all c.loop-v.invariant.swept)
    c.requires.counterclockwise
