use Rattle.std.proofs.Common.{sym, ◌∙◌, arith}
use Rattle.geo_session.proofs.AlonePath.{alone_path}
use Rattle.geo_session.proofs.LocatedIn.{held_in}
use Rattle.geo_session.proofs.ReachedNames.{is_before}
use Rattle.geo_session.proofs.WalkedNames.{names_named}
use Rattle.geo_session.proofs.grown.Grown.chain_to.Goals as goal
use Rattle.geo_reply.proofs.Fronts.{none_of_err, no_more}

pub returns-in_default-clause-path : goal.returns-in_default-clause-path
returns-in_default-clause-path g c =
    let same = sym c.new-board.ensures.goal ∙ c.in_default.ensures.before ∙ c.new-board.ensures.start in
    let within = held_in c.args.ring.now.corners c.args.goal.point c.args.mesh.now c.args.goal.tri c.requires.fits c.requires.goal in
    rw (c.push_reserved.ensures.items, c.in_ok-points.ensures.items)
    (alone_path c.args.ring.now.corners c.args.self.now.source c.args.goal.point same within)

pub put_points-requires-clause-named : goal.put_points-requires-clause-named
put_points-requires-clause-named g c =
    let walked = c.chain_into.ensures.path c.args.ring.now.corners c.args.self.now.source c.args.mesh.now c.requires.fits c.requires.grown.tree in
    rw (c.deref.ensures.value, c.new-on_the_way.ensures.corners) (names_named _ _ _ c.chain_into.new.out.items _ c.in_ok-names.ensures.items walked)

pub returns-clause-path : goal.returns-clause-path
returns-clause-path g c =
    let before = is_before c.args.ring.now.corners _ c.args.self.now.source _ c.args.goal.point _ c.in-Some.last
    c.new-board.ensures.corners c.new-board.ensures.start c.new-board.ensures.goal c.in-Some.ensures.before in
    let on = c.chain_into.ensures.on c.args.ring.now.corners c.args.self.now.source c.args.mesh.now c.requires.fits c.requires.grown.tree
    c.args.goal.point before in
    rw (
      c.push_reserved-2.ensures.items,
      c.put_points.ensures.points,
      c.in_ok-points.ensures.items,
      c.deref.ensures.value,
      c.new-on_the_way.ensures.corners,
      c.new-on_the_way.ensures.start,
      c.new-on_the_way.ensures.goal,
    ) (rw c.in_ok-names.ensures.items at on)

pub returns-clause-steps : goal.returns-clause-steps
returns-clause-steps g c = rw c.new-board.ensures.corners at c.in-Some.ensures.steps

pub returns-in_default-clause-steps : goal.returns-in_default-clause-steps
returns-in_default-clause-steps g c = rw c.new-board.ensures.corners at c.in_default.ensures.steps

pub returns-in_err-names-clause-path : goal.returns-in_err-names-clause-path
returns-in_err-names-clause-path g c =
    none_of_err _ c.from_residual.result c.from_residual.ensures.0

pub returns-in_err-names-clause-few : goal.returns-in_err-names-clause-few
returns-in_err-names-clause-few g c =
    none_of_err _ c.from_residual.result c.from_residual.ensures.0

pub returns-in_err-names-clause-steps : goal.returns-in_err-names-clause-steps
returns-in_err-names-clause-steps g c =
    no_more c.args.steps.now _

pub returns-in_err-points-clause-path : goal.returns-in_err-points-clause-path
returns-in_err-points-clause-path g c =
    none_of_err _ c.from_residual-in_err-points.result c.from_residual-in_err-points.ensures.0

pub returns-in_err-points-clause-few : goal.returns-in_err-points-clause-few
returns-in_err-points-clause-few g c =
    none_of_err _ c.from_residual-in_err-points.result c.from_residual-in_err-points.ensures.0

pub returns-in_err-points-clause-steps : goal.returns-in_err-points-clause-steps
returns-in_err-points-clause-steps g c =
    no_more c.args.steps.now _

pub reach-requires : goal.reach-requires
reach-requires g c =
    rw (c.new-board.ensures.corners, c.new-board.ensures.start, c.new-board.ensures.goal)
    (record {
      fits = c.requires.fits;
      grown = c.requires.grown.tree;
      in_list = c.requires.goal.in_list;
      goal = c.requires.goal.holds;
    })

pub push_reserved-requires : goal.push_reserved-requires
push_reserved-requires g c =
    omega (arith, c.in_ok-points.ensures.len, c.in_ok-points.ensures.capacity)
