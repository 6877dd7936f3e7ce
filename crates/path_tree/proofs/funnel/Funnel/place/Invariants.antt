use Rattle.std.proofs.Common.{◌+◌, ◌-◌, ◌*◌, ◌≤◌, length}
use Rattle.plane.specs.Point.{whole}
use Rattle.exact_plane.specs.Spot.{point_named}
use Rattle.shared_seq.proofs.Searches.{IsPartOf}
use Rattle.shared_seq.specs.Digits.{binary_digits}
use Rattle.path_tree.proofs.Halving.{IsHalved}
use Rattle.path_tree.proofs.funnel.Funnel.place.Given as goal
use Rattle.path_tree.specs.Listed.{listed_points}
use Rattle.path_tree.specs.Preceding.{IsPrecededBy}

abbrev pub invariant-loop-halves : goal.invariant-loop-halves
invariant-loop-halves g l =
    let corners = g.T.Turns.corners l.board in
    let start = g.T.Turns.start l.board in
    let b = binary_digits (length l.self.list) in
    record {
      halved : IsHalved (listed_points corners start l.self.list) l.self.apex (whole (point_named corners start (g.T.Turns.goal l.board) l.y))
          (l.search.low - 1) (l.search.low + length l.search.items);
      part : IsPartOf l.self.list l.search;
      passed : IsPrecededBy l.self.list l.search.low l.passed;
      steps : l.steps + l.search.levels * (l.search.levels + 1) ≤ l.fn.steps + 2 * b * (2 * b + 1);
    }

abbrev pub decreases-loop-halves : goal.decreases-loop-halves
decreases-loop-halves g l = l.search.levels
