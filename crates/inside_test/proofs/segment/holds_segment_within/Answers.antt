use Rattle.std.proofs.Common.{◌+◌, ◌*◌, ◌-◌, ◌≤◌, ap, arith, length, min, rules}
use Rattle.std.proofs.Math.Nat.{mul-le-mul_left}
use Rattle.std.proofs.lemmas.List.Sorted.{IsPermutation-map, length_permutation}
use Rattle.plane.proofs.Points.{whole_is_point}
use Rattle.plane.specs.Point.{whole}
use Rattle.inside_test.proofs.Neighbours.{lists_permuted, sees_by_list}
use Rattle.inside_test.proofs.Sorting.{sorted_points}
use Rattle.inside_test.proofs.segment.holds_segment_within.Goals as goal
use Rattle.inside_test.specs.Breakpoints.{breakpoint_points}

pub returns-clause-holds : goal.returns-clause-holds
returns-clause-holds g c =
    let ring = c.args.ring.now.corners in
    let a = whole c.args.a.now in
    let b = whole c.args.b.now in
    let old = c.in-Some.points.items in
    let new = c.sort_unstable_by.new.self.items in
    let listed = rw c.in-Some.is at c.in_ok-points.ensures.points in
    let moved = IsPermutation-map (λ k. k.point) old new c.sort_unstable_by.ensures.permutation in
    let lists = lists_permuted ring (length ring) a b (breakpoint_points old) (breakpoint_points new) moved listed in
    let sorted = sorted_points new c.sort_unstable_by.ensures.sorted (λ p r f' k. search rules) in
    let law = sees_by_list ring a b new lists sorted (whole_is_point c.args.a.now) (whole_is_point c.args.b.now) in
    let mediants = rw c.deref.ensures.value at c.holds_mediants.ensures.hold in
    (λ h. law.0 (mediants.0 h), λ sees. mediants.1 (law.1 sees))

pub returns-clause-steps : goal.returns-clause-steps
returns-clause-steps g c =
    let n = length c.args.ring.now.corners in
    let each = 1280 * n + 65 in
    let old = c.in-Some.points.items in
    let new = c.sort_unstable_by.new.self.items in
    let count = length c.deref.result.now - 1 in
    let same = length_permutation old new c.sort_unstable_by.ensures.permutation in
    let listed = ap length c.deref.ensures.value in
    let few = rw c.in-Some.is at c.in_ok-points.ensures.few in
    let within = rw c.in-Some.is at c.in_ok-points.ensures.within in
    let fewer : count ≤ min c.args.most (2 * n + 2) = omega (arith, same, listed, few, within) in
    omega (arith, c.breakpoints.ensures.steps, c.holds_mediants.ensures.steps, mul-le-mul_left each fewer)
