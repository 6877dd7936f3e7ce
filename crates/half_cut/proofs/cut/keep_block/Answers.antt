use Rattle.std.proofs.Common.{sym, subst, arith}
use Rattle.std.proofs.Math.Nat.{mod-eq_of_lt}
use Rattle.half_cut.proofs.Beside.{beside_kept}
use Rattle.half_cut.proofs.LeastCorners.{begins_there, ends_there, stays_there}
use Rattle.half_cut.proofs.TurnedBlocks.{cut_there, tail_there}
use Rattle.half_cut.proofs.cut.keep_block.Goals as goal
use Rattle.half_cut.proofs.cut.keep_block.Goals.{else-n-eq2+else-moved-count+else-rises, else-n-eq2+else-moved-count+then-rises, else-n-eq2+then-moved-count, then-n-eq2}
use Rattle.half_cut.specs.Outline.{IsLeast}

pub cut_tail-side-requires-clause-tail : goal.cut_tail-side-requires-clause-tail
cut_tail-side-requires-clause-tail g c =
    rw (c.rotate_left.ensures.items, c.rotate_left-2.ensures.items)
    (tail_there c.requires.differ c.requires.kept.convex c.requires.kept.round c.requires.block)

pub returns-clause-cut : goal.returns-clause-cut
returns-clause-cut g c = cut_there _ c.args.block.start (rw c.rotate_left.ensures.items at c.cut_tail-side.ensures.cut)

pub returns-clause-beside : goal.returns-clause-beside
returns-clause-beside g c =
    beside_kept c.cut_tail-side.new.lines.items c.args.block.start c.requires.kept (omega (arith, c.requires.block.within))
    (rw c.rotate_left.ensures.items at c.cut_tail-side.ensures.cut) (rw c.rotate_left-2.ensures.items at c.cut_tail-side.ensures.lines)

pub returns-clause-least : goal.returns-clause-least
returns-clause-least g c =
    let r = c.requires in
    let after = c.cut_tail-side.ensures in
    let left = rw c.rotate_left.ensures.items at after.cut in
    let side = rw (c.rotate_left.ensures.items, c.rotate_left-2.ensures.items) at after.side in
    subst (IsLeast c.cut_tail-side.new.corners.items) (sym c.round.ensures) (elim c.if-n-eq2.branch [
      | then-n-eq2 w ↦ rw (w.place-is, mod-eq_of_lt w.least_of_all-place.ensures.within) w.least_of_all-place.ensures.least
      | else-n-eq2+then-moved-count w ↦
          rw w.place-is
          (stays_there r.differ r.kept r.block c.round-moved.ensures (omega arith) (omega arith) left (omega arith) (rw c.rotate_left.ensures.items at after.kept)
          w.if-moved-count.true)
      | else-n-eq2+else-moved-count+then-rises w ↦
          rw w.place-is
          (begins_there r.differ r.kept r.block c.round-moved.ensures (omega arith) (omega arith) left w.if-moved-count.false side
          (w.rises.ensures.up.0 w.if-rises.true))
      | else-n-eq2+else-moved-count+else-rises w ↦
          rw w.place-is
          (ends_there r.differ r.kept r.block c.round-moved.ensures (omega arith) (omega arith) left w.if-moved-count.false side
          (λ up. absurd (cc (w.rises.ensures.up.1 up, w.if-rises.false))))
    ])
