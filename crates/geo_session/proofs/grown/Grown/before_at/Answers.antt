use Rattle.std.proofs.Common.{ap, ◌∙◌}
use Rattle.std.specs.Prelude.{None, Some}
use Rattle.rings.specs.Ring.{vertex}
use Rattle.exact_plane.specs.declared.turns.Spot.TheVariants.{Corner, Start}
use Rattle.ring_check.specs.Oriented.{given_of}
use Rattle.geo_session.proofs.Befores.{from_named, simple_given}
use Rattle.geo_session.proofs.GivenTree.{corner_given, goal_not_given, none_given, number_below, start_given}
use Rattle.geo_session.proofs.grown.Grown.before_at.Goals as goal

pub given_index-requires-in-Some-Corner : goal.given_index-requires-in-Some-Corner
given_index-requires-in-Some-Corner c =
    number_below c.args.ring.now c.args.self.now.source c.args.i c.requires.vertex c.parent.result
    (rw c.given_index.ensures.number at c.parent.ensures _ _ _ c.requires.grown.1.tree) c.in-Some-Corner.c
    (c.in-Some-Corner.is ∙ ap Some c.in-Some-Corner.field-0-is)

pub returns-in-Some-Corner : goal.returns-in-Some-Corner
returns-in-Some-Corner c =
    let ring = c.args.ring.now in
    from_named (given_of ring) c.args.self.now.source (vertex (given_of ring) c.args.i) (simple_given ring c.len-ring_is_simple.ensures.simple)
    (Some (Corner c.given_index-in-Some-Corner.result))
    (corner_given ring c.args.self.now.source c.args.i c.requires.vertex c.parent.result
    (rw c.given_index.ensures.number at c.parent.ensures _ _ _ c.requires.grown.1.tree) c.in-Some-Corner.c
    (c.in-Some-Corner.is ∙ ap Some c.in-Some-Corner.field-0-is) c.given_index-in-Some-Corner.result
    c.given_index-in-Some-Corner.ensures.number c.given_index-in-Some-Corner.ensures.same)

pub returns-in-Some-Start : goal.returns-in-Some-Start
returns-in-Some-Start c =
    let ring = c.args.ring.now in
    from_named (given_of ring) c.args.self.now.source (vertex (given_of ring) c.args.i) (simple_given ring c.len-ring_is_simple.ensures.simple) (Some Start)
    (start_given ring c.args.self.now.source c.args.i c.requires.vertex c.parent.result
    (rw c.given_index.ensures.number at c.parent.ensures _ _ _ c.requires.grown.1.tree) (c.in-Some-Start.is ∙ ap Some c.in-Some-Start.field-0-is))

pub returns-in-Some-Goal : goal.returns-in-Some-Goal
returns-in-Some-Goal c =
    absurd (goal_not_given c.args.ring.now c.args.self.now.source c.args.i c.requires.vertex c.parent.result
    (rw c.given_index.ensures.number at c.parent.ensures _ _ _ c.requires.grown.1.tree) (c.in-Some-Goal.is ∙ ap Some c.in-Some-Goal.field-0-is))

pub returns-in-None : goal.returns-in-None
returns-in-None c =
    let ring = c.args.ring.now in
    from_named (given_of ring) c.args.self.now.source (vertex (given_of ring) c.args.i) (simple_given ring c.len-ring_is_simple.ensures.simple) None
    (none_given ring c.args.self.now.source c.args.i c.requires.vertex c.parent.result
    (rw c.given_index.ensures.number at c.parent.ensures _ _ _ c.requires.grown.1.tree) c.in-None.is)
