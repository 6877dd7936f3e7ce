use Rattle.std.specs.Int.{w128}
use Rattle.exact_frac.proofs.Quotients.{divides}
use Rattle.exact_frac.proofs.frac.lowest_of_long.Goals as goal

pub overflow_cast-divisor : goal.overflow_cast-divisor
overflow_cast-divisor c =
    let h = divides w128 _ _ _ _ _ c.requires c.ranges.num c.ranges.den c.unsigned_abs.ensures.value
    c.unsigned_abs-2.ensures.value c.common_divisor-divisor.ensures in
    h.fits

pub nonzero_div-result : goal.nonzero_div-result
nonzero_div-result c =
    let h = divides w128 _ _ _ _ _ c.requires c.ranges.num c.ranges.den c.unsigned_abs.ensures.value
    c.unsigned_abs-2.ensures.value c.common_divisor-divisor.ensures in
    (h.some, h.num_fits)

pub nonzero_div-result-2 : goal.nonzero_div-result-2
nonzero_div-result-2 c =
    let h = divides w128 _ _ _ _ _ c.requires c.ranges.num c.ranges.den c.unsigned_abs.ensures.value
    c.unsigned_abs-2.ensures.value c.common_divisor-divisor.ensures in
    (h.some, h.den_fits)

pub invariant_of-result : goal.invariant_of-result
invariant_of-result c =
    let h = divides w128 _ _ _ _ _ c.requires c.ranges.num c.ranges.den c.unsigned_abs.ensures.value
    c.unsigned_abs-2.ensures.value c.common_divisor-divisor.ensures in
    record { in_lowest_terms = h.lowest }

pub returns : goal.returns
returns c =
    let h = divides w128 _ _ _ _ _ c.requires c.ranges.num c.ranges.den c.unsigned_abs.ensures.value
    c.unsigned_abs-2.ensures.value c.common_divisor-divisor.ensures in
    record { value = h.value; zero = h.zero }
