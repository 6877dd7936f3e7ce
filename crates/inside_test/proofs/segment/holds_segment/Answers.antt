use Rattle.std.proofs.Common.{ℕ, ◌+◌, ◌*◌, ◌≤◌, arith, length, min}
use Rattle.std.proofs.Math.Nat.{mul-le-mul_left}
use Rattle.inside_test.proofs.segment.holds_segment.Goals as goal

-- a placing for each point that can be listed
all_listed : (n d most before after : ℕ) → 3 ≤ n → after ≤ before + (1179 * n + 386 + min most (2 * n + 2) * (1280 * n + 65))
    → after ≤ before + (2560 * (n * n) + 3000 * (n * (d + 2)))
all_listed n d most before after some steps =
    let each = 1280 * n + 65 in
    let fewer : min most (2 * n + 2) ≤ 2 * n + 2 = omega arith in
    omega (arith, some, steps, mul-le-mul_left each fewer)

pub returns-in_err-holds-clause-steps : goal.returns-in_err-holds-clause-steps
returns-in_err-holds-clause-steps g c = λ d below.
    all_listed (length c.args.ring.now.corners) d _ c.args.steps.now _ c.len-ring_has_vertices.ensures.size.0 c.holds_segment_within.ensures.steps

pub returns-clause-steps : goal.returns-clause-steps
returns-clause-steps g c = λ d below.
    all_listed (length c.args.ring.now.corners) d _ c.args.steps.now _ c.len-ring_has_vertices.ensures.size.0 c.holds_segment_within.ensures.steps
