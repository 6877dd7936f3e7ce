use Rattle.std.proofs.Common.{ℕ, ◌+◌, ◌-◌, length}
use Rattle.plane.specs.Point.{Point}
use Rattle.rings.specs.Ring.{vertex}
use Rattle.pair_cut.proofs.Climbs.{IsUp}
use Rattle.pair_cut.proofs.climb.climb.Given as goal
use Rattle.pair_cut.specs.Climbs.{IsClimb}

abbrev pub invariant-loop-at : goal.invariant-loop-at
invariant-loop-at g l =
    let corners = g.T.Turns.corners l.board in
    (points : ℕ → Point) (count : ℕ) → IsClimb corners l.before l.ascent.end l.ascent.apex points count
    → IsUp corners points count (vertex corners l.third) l.side l.fn.steps l.at l.steps

abbrev pub decreases-loop-at : goal.decreases-loop-at
decreases-loop-at g l = l.fn.steps + length l.before - l.steps
