use Rattle.geo_session.proofs.PathAlong.{goal_held, own_path, start_held}
use Rattle.geo_session.proofs.held.Held.full_along.Goals as goal

pub touched-requires-clause-path : goal.touched-requires-clause-path
touched-requires-clause-path g c = own_path c.self.inside.ring.corners c.self.inside.mesh c.args.sleeve.now c.args.chain.now (rw (← c.self.view_is) at c.requires)

pub touched-requires-clause-start : goal.touched-requires-clause-start
touched-requires-clause-start g c = start_held c.self.inside.ring.corners c.self.inside.mesh c.args.sleeve.now c.args.chain.now (rw (← c.self.view_is) at c.requires)

pub touched-requires-clause-goal : goal.touched-requires-clause-goal
touched-requires-clause-goal g c = goal_held c.self.inside.ring.corners c.self.inside.mesh c.args.sleeve.now c.args.chain.now (rw (← c.self.view_is) at c.requires)
