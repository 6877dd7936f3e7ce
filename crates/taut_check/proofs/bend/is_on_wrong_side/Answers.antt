use Rattle.taut_check.proofs.Bends.{turns_over, wrong_after, wrong_before}
use Rattle.taut_check.proofs.bend.is_on_wrong_side.Goals as goal

pub in_cone-requires : goal.in_cone-requires
in_cone-requires g c = rw (c.point-p.ensures, c.point-v.ensures, c.point-q.ensures) (record { turns = turns_over c.args.points.now c.args.k c.requires.inner c.requires.turns })

pub in_cone-requires-2 : goal.in_cone-requires-2
in_cone-requires-2 g c = rw (c.point-p.ensures, c.point-v.ensures, c.point-q.ensures) (record { turns = turns_over c.args.points.now c.args.k c.requires.inner c.requires.turns })

pub returns-then-not-in_cone-clause-wrong : goal.returns-then-not-in_cone-clause-wrong
returns-then-not-in_cone-clause-wrong g c =
    wrong_before c.args.ring.now.corners c.args.points.now c.args.k c.requires.inner c.neighbours-before.result.0 c.neighbours-before.result.1
    (rw c.requires.vertex at c.neighbours-before.ensures) _ (rw (c.point-p.ensures, c.point-v.ensures, c.point-q.ensures) at c.in_cone.ensures.cone) c.if-not-in_cone.true

pub returns-clause-wrong : goal.returns-clause-wrong
returns-clause-wrong g c =
    wrong_after c.args.ring.now.corners c.args.points.now c.args.k c.requires.inner c.neighbours-before.result.0 c.neighbours-before.result.1
    (rw c.requires.vertex at c.neighbours-before.ensures) _ (rw (c.point-p.ensures, c.point-v.ensures, c.point-q.ensures) at c.in_cone.ensures.cone) c.if-not-in_cone.false
    _ (rw (c.point-p.ensures, c.point-v.ensures, c.point-q.ensures) at c.in_cone-2.ensures.cone)
