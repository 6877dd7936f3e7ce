use Rattle.std.proofs.Common.{rules, ◌≡◌, ◌∙◌, ap, sym, ℕ, ◌<◌, length, arith}
use Rattle.plane.specs.Convex.{corner}
use Rattle.plane.specs.Point.{whole}
use Rattle.plane.specs.Turn.{IsRight}
use Rattle.half_cut.proofs.Links.{length_rotated}
use Rattle.half_cut.proofs.TurnedBlocks.{list_left, list_of_all, list_of_none}
use Rattle.half_cut.proofs.region.Region.cut_away.Goals as goal
use Rattle.half_cut.specs.Outline.{Outline, from_place}

pub returns-in_default-clause-cut : goal.returns-in_default-clause-cut
returns-in_default-clause-cut g c =
    let cs = c.self.inside.corners.items in
    let is : from_place c.self.inside.least cs ≡ c.args.self.now.corners = ap (λ (r : Outline). r.corners) c.self.view_is in
    let stay : (i : ℕ) → i < length cs → ¬ IsRight (whole c.args.a.now) (whole c.args.b.now) (corner cs i) = search rules in
    rw (← is)
    (list_of_all (whole c.args.a.now) (whole c.args.b.now) cs c.self.inside.least c.self.inside.lines.items c.self.invariant stay)

pub returns-in-None-clause-cut : goal.returns-in-None-clause-cut
returns-in-None-clause-cut g c =
    let cs = c.self.inside.corners.items in
    let is : from_place c.self.inside.least cs ≡ c.args.self.now.corners = ap (λ (r : Outline). r.corners) c.self.view_is in
    rw (← is, c.clear.ensures.corners)
    (list_of_none (whole c.args.a.now) (whole c.args.b.now) cs c.self.inside.least c.self.invariant.convex
    (rw c.reserve.ensures.corners at c.in-None.ensures.none))

pub returns-in-None-clause-steps : goal.returns-in-None-clause-steps
returns-in-None-clause-steps g c d below =
    let cs = c.self.inside.corners.items in
    let count : length cs ≡ length c.args.self.now.corners =
    sym (length_rotated cs c.self.inside.least c.self.invariant.within) ∙ ap (λ (r : Outline). length r.corners) c.self.view_is in
    let found = c.seek.ensures.steps d (omega (arith, below, count)) in
    let taken = rw c.reserve.ensures.corners at c.in-None.ensures.steps_of_none in
    let none = ap length c.clear.ensures.corners in
    omega (arith, count, found, taken, none)

pub returns-in-Some-block_of-clause-cut : goal.returns-in-Some-block_of-clause-cut
returns-in-Some-block_of-clause-cut g c =
    let kept = c.keep_block.ensures in
    let is : from_place c.self.inside.least c.self.inside.corners.items ≡ c.args.self.now.corners = ap (λ (r : Outline). r.corners) c.self.view_is in
    rw (← is)
    (list_left (whole c.args.a.now) (whole c.args.b.now) c.self.inside.corners.items c.self.inside.least
    c.keep_block.new.corners.items
    c.keep_block.new.least (rw c.reserve.ensures.corners at kept.cut) (omega (arith, kept.within)) (λ some. kept.within) kept.least)

pub returns-in-Some-block_of-clause-steps : goal.returns-in-Some-block_of-clause-steps
returns-in-Some-block_of-clause-steps g c d below =
    let cs = c.self.inside.corners.items in
    let kept = c.keep_block.ensures in
    let count : length cs ≡ length c.args.self.now.corners =
    sym (length_rotated cs c.self.inside.least c.self.invariant.within) ∙ ap (λ (r : Outline). length r.corners) c.self.view_is in
    let found = c.seek.ensures.steps d (omega (arith, below, count)) in
    let taken = rw c.reserve.ensures.corners at c.in-Some-block_of.ensures.steps in
    let left = length_rotated c.keep_block.new.corners.items c.keep_block.new.least (omega (arith, kept.within)) in
    omega (arith, count, found, taken, left, kept.steps, kept.few)
