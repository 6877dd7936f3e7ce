use Rattle.std.proofs.Common.{◌≡◌, ◌+◌, length, vec_capacity}
use Rattle.plane.specs.Point.{whole}
use Rattle.exact_plane.specs.Spot.{point_named}
use Rattle.funnel_walk.proofs.NarrowedRight.{IsSoughtRight}
use Rattle.funnel_walk.proofs.funnel.place_from_right.Given as goal

abbrev pub invariant-loop-last : goal.invariant-loop-last
invariant-loop-last g l =
    let at = point_named (g.T.Turns.corners l.board) (g.T.Turns.start l.board) (g.T.Turns.goal l.board) in
    record {
      sought : IsSoughtRight at l.names.items l.apex l.fn.out.items (whole (at l.y)) l.last l.out.items;
      same_out : vec_capacity l.out ≡ vec_capacity l.fn.out;
      steps : l.steps + l.last + 1 ≡ l.fn.steps + length l.names.items;
    }

abbrev pub decreases-loop-last : goal.decreases-loop-last
decreases-loop-last g l = l.last
