use Rattle.std.proofs.Common.{arith}
use Rattle.rings.specs.Ring.{vertex}
use Rattle.pair_cut.proofs.Climbs.{found_here, more_above, next_above, none_found, up_begins, up_on}
use Rattle.pair_cut.proofs.climb.climb.Goals as goal

pub loop-at-init : goal.loop-at-init
loop-at-init g c = λ points count climb.
    up_begins (g.T.Turns.corners c.args.board.now) c.args.before.now c.args.ascent.end c.args.ascent.apex points count climb
    (vertex (g.T.Turns.corners c.args.board.now) c.args.third) c.args.side c.args.steps.now

pub bounds-before-at : goal.bounds-before-at
bounds-before-at g c =
    let (points, count, climb) = c.requires.climb in
    let up = c.loop-at.invariant points count climb in
    let below = up.is.0 in
    omega (arith, below, climb.vertices)

pub bends-requires-clause-a : goal.bends-requires-clause-a
bends-requires-clause-a g c =
    let (points, count, climb) = c.requires.climb in
    (next_above _ _ _ _ points count climb _ _ _ _ _ (c.loop-at.invariant points count climb) c.loop-at-test.true).0

pub bends-requires-clause-b : goal.bends-requires-clause-b
bends-requires-clause-b g c =
    let (points, count, climb) = c.requires.climb in (c.loop-at.invariant points count climb).is.0

pub returns-then-bends-clause-found : goal.returns-then-bends-clause-found
returns-then-bends-clause-found g c = λ points count climb.
    found_here _ _ _ _ points count climb _ _ _ _ _ (c.loop-at.invariant points count climb) c.loop-at-test.true
    (c.bends.ensures.bends.0 c.if-bends.true)

pub returns-then-bends-clause-steps : goal.returns-then-bends-clause-steps
returns-then-bends-clause-steps g c = λ points count climb.
    let up = c.loop-at.invariant points count climb in
    omega (arith, more_above _ _ _ _ points count climb _ _ _ _ _ up c.loop-at-test.true, up.paid, c.bends.ensures.steps)

pub loop-at-smaller : goal.loop-at-smaller
loop-at-smaller g c =
    let (points, count, climb) = c.requires.climb in
    let up = c.loop-at.invariant points count climb in
    omega (arith, up.below, up.paid, climb.few, climb.vertices, c.bends.ensures.steps)

pub loop-at-preserved : goal.loop-at-preserved
loop-at-preserved g c = λ points count climb.
    rw c.bends.ensures.steps
    (up_on _ _ _ _ points count climb _ _ _ _ _ (c.loop-at.invariant points count climb) c.loop-at-test.true
    (λ turns. let yes = c.bends.ensures.bends.1 turns in let no = c.if-bends.false in cc))

pub returns-clause-found : goal.returns-clause-found
returns-clause-found g c = λ points count climb.
    none_found _ _ _ _ points count climb _ _ _ _ _ (c.loop-at.invariant points count climb) c.loop-at-test.false

pub returns-clause-steps : goal.returns-clause-steps
returns-clause-steps g c = λ points count climb.
    let up = c.loop-at.invariant points count climb in
    omega (arith, up.below, up.paid)
