use Rattle.std.proofs.Common.{◌+◌, ℕ, sym, subst, arith}
use Rattle.cut_tri.proofs.Candidates.{IsBestBelow, best_more, best_past, farthest_of_all}
use Rattle.cut_tri.proofs.farthest.farthest.Goals as goal
use Rattle.cut_tri.proofs.farthest.farthest.Goals.{in-Some, in_default}

pub loop-place-preserved : goal.loop-place-preserved
loop-place-preserved g c =
    let corners = c.args.ring.now.corners in
    let piece = c.args.piece.now in
    let n : ℕ = c.loop-place.place in
    elim c.match-candidate.branch [
      | in-Some w ↦
          let inside = rw (c.corner.ensures, c.corner-2.ensures, c.corner-3.ensures) at w.in-Some.ensures.inside in
          let is = rw (c.corner.ensures, c.corner-3.ensures) at w.in-Some.ensures.candidate in
          let chosen = rw is at w.farther.ensures in
          record {
            best = subst (IsBestBelow corners piece (n + 1)) (sym w.best-is)
                (best_more corners piece n c.loop-place.best c.loop-place.invariant.best w.farther.result chosen
                (record { after_second = omega arith; before_last = omega arith; in_triangle = inside }));
            steps = omega (arith, c.loop-place.invariant.steps, w.in-Some.ensures.steps);
          }
      | in_default w ↦
          let outside = rw (c.corner.ensures, c.corner-2.ensures, c.corner-3.ensures) at w.in_default.ensures.outside in
          record {
            best = subst (IsBestBelow corners piece (n + 1)) (sym w.best-is)
                (best_past corners piece n c.loop-place.best c.loop-place.invariant.best (λ h. outside h.in_triangle));
            steps = omega (arith, c.loop-place.invariant.steps, w.in_default.ensures.steps);
          }
    ]

pub returns-clause-farthest : goal.returns-clause-farthest
returns-clause-farthest g c =
    farthest_of_all c.args.ring.now.corners c.args.piece.now c.loop-place.place c.in_ok-best.field-0.place c.loop-place-test.false
    (c.loop-place.invariant.best.farthest c.in_ok-best.field-0 c.in_ok-best.was)
