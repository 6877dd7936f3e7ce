use Rattle.std.proofs.Common.{◌≤◌, ◌∙◌, length, arith}
use Rattle.plane.specs.Convex.{corner}
use Rattle.half_cut.proofs.Seeking.{facing_at, none_right}
use Rattle.half_cut.proofs.seek.seek.Goals as goal
use Rattle.half_cut.proofs.seek.seek.Goals.{else-n-near+else-not-is_facing, then-n-near}
use Rattle.half_cut.specs.Outline.{IsRightOf}

pub returns-else-is_right_at-clause-none : goal.returns-else-is_right_at-clause-none
returns-else-is_right_at-clause-none g c =
    let kept = c.requires.kept in
    let three : 3 ≤ length c.args.corners.now.items = omega arith in
    let here : ¬ IsRightOf c.args.line.now (corner c.args.corners.now.items c.if-n-near.near) =
    λ h. absurd (cc (c.is_right_at.ensures.right.1 h, c.if-is_right_at.false)) in
    elim c.if-n-near.branch [
      | then-n-near w ↦
          let found = facing_at kept three c.args.line.now c.requires.differ w.sides_before.ensures.before _ (w.near-is ∙ w.round.ensures) in
          none_right kept three _ found.0 c.args.line.now found.1 here
      | else-n-near+else-not-is_facing w ↦
          none_right kept three _ (rw w.near-is (omega arith)) c.args.line.now
          (rw w.near-is (w.is_facing.ensures.facing (grind (arith, w.if-not-is_facing.false)))) here
    ]
