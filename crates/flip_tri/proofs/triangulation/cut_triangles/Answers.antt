use Rattle.std.proofs.Common.{sym, ap, subst, ◌∙◌, ◌<◌, length, arith}
use Rattle.std.specs.List.{range_with_len}
use Rattle.meshes.specs.Fits.{Fits}
use Rattle.flip_tri.proofs.Progress.{after_flip, after_none, looks_fall_flipped, looks_fall_same, settled, steps_enough, under_way}
use Rattle.flip_tri.proofs.SettledIsCut.{settled_is_cut}
use Rattle.flip_tri.proofs.triangulation.cut_triangles.Goals as goal
use Rattle.flip_tri.specs.Flips.{KnowsNeighbours}

pub loop-near-init : goal.loop-near-init
loop-near-init g c =
    let tris = c.in_ok-flips.ensures.tris in
    let size = ap length tris in
    under_way c.args.ring.now.corners c.in_ok-flips.flips.tris.items c.in_ok-flips.flips.neighbours.items c.in_ok-waiting.waiting c.args.steps.now
    (subst (Fits c.args.ring.now.corners) (sym tris) c.requires)
    (subst (λ ts. KnowsNeighbours ts c.in_ok-flips.flips.neighbours.items) (sym tris) c.in_ok-flips.ensures.knows)
    (c.in_ok-waiting.ensures.numbers ∙ ap (range_with_len 0) (c.count.ensures.number ∙ sym size))
    (c.in_ok-waiting.ensures.count ∙ c.count.ensures.number ∙ sym size)

pub flip_at-requires-clause-flips : goal.flip_at-requires-clause-flips
flip_at-requires-clause-flips g c = c.loop-near.invariant.flips

pub flip_at-requires-clause-near : goal.flip_at-requires-clause-near
flip_at-requires-clause-near g c = subst (λ m. c.in-Some.near < m) c.loop-near.invariant.count c.in-Some.ensures.below

pub push-requires : goal.push-requires
push-requires g c =
    let count = c.loop-near.invariant.count in
    let popped = c.in-Some.ensures.count in
    let within = c.in-Some-flip_at.ensures.some.within in
    omega arith

pub returns-in_err-push-clause-steps : goal.returns-in_err-push-clause-steps
returns-in_err-push-clause-steps g c =
    steps_enough c.args.ring.now.corners _ _ _ _ _ c.loop-near.invariant c.in-Some.near c.pop.new.self c.in-Some.ensures.count c.in-Some.ensures.others
    c.in-Some.ensures.fewer _ c.flip_at.ensures.steps

pub loop-near-smaller-in-Continue-branch-4 : goal.loop-near-smaller-in-Continue-branch-4
loop-near-smaller-in-Continue-branch-4 g c =
    looks_fall_flipped c.args.ring.now.corners c.loop-near.flips.tris.items _ c.pop.new.self.numbers c.in-Some.near c.in-Some.ensures.others
    c.in-Some.ensures.fewer c.flip_at.new.self.tris.items c.in-Some-flip_at.far c.in-Some-flip_at.ensures.some c.push-in-Some-flip_at.new.self.numbers
    (λ i has. c.in_ok-push-2.ensures.others i (c.in_ok-push.ensures.others i has)) (omega (arith, c.in_ok-push.ensures.more, c.in_ok-push-2.ensures.more))

pub loop-near-preserved-in-Continue-branch-4 : goal.loop-near-preserved-in-Continue-branch-4
loop-near-preserved-in-Continue-branch-4 g c =
    after_flip c.args.ring.now.corners _ _ _ _ _ c.loop-near.invariant c.in-Some.near c.pop.new.self c.in-Some.ensures.count c.in-Some.ensures.others
    c.in-Some.ensures.fewer _ c.flip_at.ensures.steps c.flip_at.new.self.tris.items c.flip_at.new.self.neighbours.items c.in-Some-flip_at.far
    c.push-in-Some-flip_at.new.self c.in-Some-flip_at.ensures.flips c.in-Some-flip_at.ensures.some
    (c.in_ok-push-2.ensures.count ∙ c.in_ok-push.ensures.count)
    (λ i has. c.in_ok-push-2.ensures.others i (c.in_ok-push.ensures.others i has)) (omega (arith, c.in_ok-push.ensures.more, c.in_ok-push-2.ensures.more))
    c.in_ok-push-2.ensures.there (c.in_ok-push-2.ensures.others c.in-Some-flip_at.far c.in_ok-push.ensures.there)

pub returns-in_err-push-2-clause-steps : goal.returns-in_err-push-2-clause-steps
returns-in_err-push-2-clause-steps g c =
    steps_enough c.args.ring.now.corners _ _ _ _ _ c.loop-near.invariant c.in-Some.near c.pop.new.self c.in-Some.ensures.count c.in-Some.ensures.others
    c.in-Some.ensures.fewer _ c.flip_at.ensures.steps

pub loop-near-smaller : goal.loop-near-smaller
loop-near-smaller g c =
    looks_fall_same c.args.ring.now.corners c.loop-near.flips.tris.items _ c.pop.new.self.numbers c.in-Some.near c.in-Some.ensures.others
    c.in-Some.ensures.fewer c.flip_at.new.self.tris.items c.in_default-flip_at.ensures.none.0

pub loop-near-preserved : goal.loop-near-preserved
loop-near-preserved g c =
    after_none c.args.ring.now.corners _ _ _ _ _ c.loop-near.invariant c.in-Some.near c.pop.new.self c.in-Some.ensures.count c.in-Some.ensures.others
    c.in-Some.ensures.fewer _ c.flip_at.ensures.steps c.flip_at.new.self.tris.items c.flip_at.new.self.neighbours.items
    c.in_default-flip_at.ensures.none.0 c.flip_at.ensures.flips c.in_default-flip_at.ensures.none.1

pub returns-clause-fits : goal.returns-clause-fits
returns-clause-fits g c = c.loop-near.invariant.flips.fits

pub returns-clause-cut : goal.returns-clause-cut
returns-clause-cut g c =
    let corners = c.args.ring.now.corners in
    let ring = c.len-is_simple.ensures in
    settled_is_cut corners c.loop-near.flips.tris.items ring.size.0 ring.simple ring.counterclockwise c.loop-near.invariant.flips.fits
    (settled corners c.loop-near.flips.tris.items c.loop-near.waiting.numbers c.in_default.ensures.none c.loop-near.invariant.wait)

pub returns-clause-steps : goal.returns-clause-steps
returns-clause-steps g c = let few = c.loop-near.invariant.few in omega arith
