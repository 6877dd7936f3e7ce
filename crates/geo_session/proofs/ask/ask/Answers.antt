use Rattle.std.proofs.Common.{refl}
use Rattle.std.proofs.lemmas.Result.{IfOk-weaker}
use Rattle.geo_text.specs.declared.command.Command.TheVariants as command
use Rattle.geo_session.proofs.Asks.{begun}
use Rattle.geo_session.proofs.Paces.{held_paced, reach_paced}
use Rattle.geo_session.specs.Paced.{guards_steps, inside_steps, kernel_steps, view_steps}
use Rattle.geo_session.proofs.ask.ask.Goals as goal

pub returns-in_default-clause-paced : goal.returns-in_default-clause-paced
returns-in_default-clause-paced g c = rw c.in_default.is (c.ask_without.ensures.paced c.args.version)

pub returns-in-Two-clause-asked : goal.returns-in-Two-clause-asked
returns-in-Two-clause-asked g c = rw (c.in-Two.is, c.begun.ensures) (begun c.args.version c.args.held.now)

pub returns-in-Polygon-clause-asked : goal.returns-in-Polygon-clause-asked
returns-in-Polygon-clause-asked g c =
    rw c.in-Polygon.is (IfOk-weaker c.ask_polygon.result _ _ (λ asked h. h c.args.version c.args.held.now) c.ask_polygon.ensures.asked)

pub returns-in-Polygon-clause-paced : goal.returns-in-Polygon-clause-paced
returns-in-Polygon-clause-paced g c = rw c.in-Polygon.is c.ask_polygon.ensures.steps

pub returns-in-Tree-clause-paced : goal.returns-in-Tree-clause-paced
returns-in-Tree-clause-paced g c = rw (c.in-Some.is, c.in-Tree.is) (c.tree.ensures.paced c.args.version)

pub returns-in-Sights-clause-paced : goal.returns-in-Sights-clause-paced
returns-in-Sights-clause-paced g c = rw (c.in-Some.is, c.in-Sights.is) (c.sights.ensures.paced c.args.version)

pub returns-in-Inside-clause-paced : goal.returns-in-Inside-clause-paced
returns-in-Inside-clause-paced g c =
    rw (c.in-Some.is, c.in-Inside.is)
    (held_paced c.args.version c.in-Some.held (command.Inside c.in-Inside.p) c.args.steps.now c.place.new.steps inside_steps refl c.place.ensures.steps)

pub returns-in-Reach-clause-paced : goal.returns-in-Reach-clause-paced
returns-in-Reach-clause-paced g c =
    rw (c.in-Some.is, c.in-Reach.is) (reach_paced c.args.version c.in-Some.held c.args.steps.now c.reach.new.steps c.in-Reach.t c.reach.ensures.steps)

pub returns-in-See-clause-paced : goal.returns-in-See-clause-paced
returns-in-See-clause-paced g c =
    rw (c.in-Some.is, c.in-See.is)
    (held_paced c.args.version c.in-Some.held (command.See c.in-See.q) c.args.steps.now c.view.new.steps view_steps refl c.view.ensures.steps)

pub returns-in-Kernel-clause-paced : goal.returns-in-Kernel-clause-paced
returns-in-Kernel-clause-paced g c =
    rw (c.in-Some.is, c.in-Kernel.is)
    (held_paced c.args.version c.in-Some.held command.Kernel c.args.steps.now c.kernel.new.steps kernel_steps refl c.kernel.ensures.steps)

pub returns-in-Guards-clause-paced : goal.returns-in-Guards-clause-paced
returns-in-Guards-clause-paced g c =
    rw (c.in-Some.is, c.in-Guards.is)
    (held_paced c.args.version c.in-Some.held command.Guards c.args.steps.now c.guards.new.steps guards_steps refl c.guards.ensures.steps)
