use Rattle.std.proofs.Common.{◌≡◌, ap, subst, ◌∙◌, ◌+◌, ◌-◌, length, take, arith}
use Rattle.std.proofs.lemmas.List.{take_all}
use Rattle.funnel_walk.proofs.chain.walk_on.Goals as goal
use Rattle.funnel_walk.specs.Walked.{AppendsTaut}

pub go_on-requires-clause-sleeve : goal.go_on-requires-clause-sleeve
go_on-requires-clause-sleeve g c = record {
  tris = c.args.mesh.now;
  fits = c.requires.fits;
  of_mesh = c.requires.of_mesh;
}

pub reach_goal-requires-clause-arrived : goal.reach_goal-requires-clause-arrived
reach_goal-requires-clause-arrived g c =
    let sleeve = c.args.sleeve.now in
    let at = c.go_on.new.self.at in
    let next : length sleeve.walk - 1 ≡ at + 1 =
    omega (arith, c.go_on.ensures.at, c.len-2.ensures.number, c.requires.some, c.requires.of_mesh.count) in
    record {
      tris = c.args.mesh.now;
      fits = c.requires.fits;
      sleeve = sleeve;
      of_mesh = c.requires.of_mesh;
      i = at;
      below = omega (arith, c.go_on.ensures.at, c.len-2.ensures.number, c.requires.some);
      in_goal = rw next at c.requires.goal;
      walked = c.go_on.ensures.walked;
    }

pub returns-clause-taut : goal.returns-clause-taut
returns-clause-taut g c =
    let out = c.args.out.now.items in
    let given : c.open.new.self.given ≡ length out = omega (arith, c.open.ensures.given, c.len.ensures) in
    let whole : take c.open.new.self.given out ≡ out = take_all _ _ (omega (arith, given)) in
    subst (λ first. AppendsTaut (g.T.Turns.corners c.args.board.now) (g.T.Turns.start c.args.board.now) (g.T.Turns.goal c.args.board.now) first
    c.reach_goal.new.out.items) (ap (λ k. take k c.go_on.new.out.items) c.go_on.ensures.same_given ∙ c.go_on.ensures.before ∙ whole)
    c.reach_goal.ensures.taut
