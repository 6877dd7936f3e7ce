use Rattle.std.proofs.Common.{arith}
use Rattle.shared_walks.proofs.ShortPaths.{arrived_at_once, arrived_path}
use Rattle.shared_walks.proofs.serving.names_behind.Goals as goal
use Rattle.shared_walks.proofs.serving.names_behind.Goals.{else-same, then-same}

pub returns-clause-path : goal.returns-clause-path
returns-clause-path g c = elim c.if-same.branch [
  | then-same w ↦
      rw (w.out-is, w.push_reserved.ensures.items, w.clear.ensures.items)
      (arrived_at_once _ _ _ _ _ _ c.requires.arrived (c.same.ensures.same.0 w.if-same.true))
  | else-same w ↦ rw w.out-is (arrived_path _ _ _ _ _ _ c.requires.arrived _ (rw c.requires.given at w.reach_goal.ensures.taut))
]

pub returns-clause-few : goal.returns-clause-few
returns-clause-few g c = elim c.if-same.branch [
  | then-same w ↦ rw (w.out-is, w.push_reserved.ensures.items, w.clear.ensures.items) (omega arith)
  | else-same w ↦ rw w.out-is (omega (arith, w.reach_goal.ensures.same_out, c.in_ok-out.ensures.room, w.reach_goal.new.out.ok.0, w.reach_goal.new.out.ok.1))
]
