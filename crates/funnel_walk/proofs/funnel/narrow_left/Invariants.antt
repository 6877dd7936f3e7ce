use Rattle.std.proofs.Common.{◌≡◌, ◌+◌, length, vec_capacity}
use Rattle.plane.specs.Point.{whole}
use Rattle.exact_plane.specs.Spot.{point_named}
use Rattle.funnel_walk.proofs.NarrowedLeft.{IsNarrowedLeft}
use Rattle.funnel_walk.proofs.funnel.narrow_left.Given as goal

abbrev pub invariant-loop-names : goal.invariant-loop-names
invariant-loop-names g l =
    let at = point_named (g.T.Turns.corners l.board) (g.T.Turns.start l.board) (g.T.Turns.goal l.board) in
    record {
      narrowed : IsNarrowedLeft at l.fn.names.items l.fn.apex l.fn.out.items (whole (at l.y)) l.names.items l.apex l.out.items;
      same_room : l.names.capacity ≡ l.fn.names.capacity;
      same_out : vec_capacity l.out ≡ vec_capacity l.fn.out;
      steps : l.steps + length l.names.items ≡ l.fn.steps + length l.fn.names.items;
    }

abbrev pub decreases-loop-names : goal.decreases-loop-names
decreases-loop-names g l = length l.names.items
