use Rattle.std.proofs.Common.{refl, inl, inr, ap, ◌∙◌, ◌-◌, ◌++◌, [], ◌∷◌, length, take, drop, arith}
use Rattle.std.proofs.lemmas.List.{append_assoc}
use Rattle.plane.proofs.Order.{point_or_other}
use Rattle.exact_plane.specs.declared.turns.Spot.TheVariants.{Goal}
use Rattle.exact_plane.specs.Names.{name_at}
use Rattle.exact_plane.specs.Spot.{point_named}
use Rattle.funnel_walk.proofs.Appended.{two_appended, way_appended}
use Rattle.funnel_walk.proofs.Closed.{names_on_way}
use Rattle.funnel_walk.proofs.PathNames.{apex_below, count_left}
use Rattle.funnel_walk.proofs.ShortWalks.{taut_on, taut_there}
use Rattle.funnel_walk.proofs.funnel.Funnel.reach_goal.Goals as goal

pub place_from_right-last-requires-clause-apex : goal.place_from_right-last-requires-clause-apex
place_from_right-last-requires-clause-apex g c = apex_below c.requires.arrived.walked

pub place_from_right-last-requires-clause-named : goal.place_from_right-last-requires-clause-named
place_from_right-last-requires-clause-named g c = c.requires.arrived.walked.named

pub place_from_right-last-requires-clause-room : goal.place_from_right-last-requires-clause-room
place_from_right-last-requires-clause-room g c = omega (arith, apex_below c.requires.arrived.walked, c.requires.room)

pub close-requires-clause-named : goal.close-requires-clause-named
close-requires-clause-named g c = c.requires.arrived.walked.named

pub close-requires-clause-room : goal.close-requires-clause-room
close-requires-clause-room g c =
    let count = ap length c.place_from_right-last.ensures.behind
    ∙ count_left c.args.out.now.items c.args.self.now.names.items c.args.self.now.apex (c.args.self.now.apex - c.place_from_right-last.result) in
    omega (arith, count, c.place_from_right-last.ensures.within, c.place_from_right-last.ensures.same_out, c.requires.room, apex_below c.requires.arrived.walked)

pub returns-clause-taut : goal.returns-clause-taut
returns-clause-taut g c =
    let goal_point = g.T.Turns.goal c.args.board.now in
    let at = point_named (g.T.Turns.corners c.args.board.now) (g.T.Turns.start c.args.board.now) goal_point in
    let come = c.requires.arrived in
    let found = c.place_from_right-last in
    let names = c.args.self.now.names.items in
    let out = c.args.out.now.items in
    let given = c.args.self.now.given in
    let a = c.args.self.now.apex in
    let h = found.result in
    let first = take given out in
    let way = names_on_way (drop given out) names a h in
    let appended = way_appended first out found.new.out.items names given a h c.min.result found.ensures.behind refl c.min.ensures in
    elim (point_or_other (at (name_at names h)) goal_point) [
      | inl same ↦
          taut_there _ come.tris come.fits come.sleeve come.of_mesh _ goal_point c.requires.differ come.i come.below come.in_goal
          (drop given out) names a come.walked h found.ensures.reached same first c.close.new.out.items
          (c.close.ensures.at_goal same ∙ ap (λ ns. ns ++ Goal ∷ []) appended ∙ append_assoc first way (Goal ∷ []))
      | inr other ↦
          taut_on _ come.tris come.fits come.sleeve come.of_mesh _ goal_point c.requires.differ come.i come.below come.in_goal
          (drop given out) names a come.walked h found.ensures.reached other first c.close.new.out.items
          (c.close.ensures.to_goal other ∙ two_appended _ first way (name_at names h) Goal appended)
    ]
