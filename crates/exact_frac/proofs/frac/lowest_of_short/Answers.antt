use Rattle.std.proofs.Common.{◌≡◌, ℤ, pos, negsuc, FitsSigned, to_z, of_z, arith}
use Rattle.std.proofs.lemmas.Int.{to_z-of_z}
use Rattle.std.specs.Int.{w64, w128}
use Rattle.exact_frac.proofs.Quotients.{divides}
use Rattle.exact_frac.proofs.frac.lowest_of_short.Goals as goal

-- a number of 64 bits is one of 128
wide : (z : ℤ) → FitsSigned w64 z → to_z w128 (of_z w128 z) ≡ z
wide (pos n) h = to_z-of_z w128 (pos n) (record { sfits = omega (arith, h.sfits) })
wide (negsuc n) h = to_z-of_z w128 (negsuc n) (record { sfits = omega (arith, h.sfits) })

widened : (z : ℤ) → FitsSigned w64 z → to_z w128 (of_z w128 (to_z w64 (of_z w64 z))) ≡ to_z w64 (of_z w64 z)
widened z h = rw (to_z-of_z w64 z h) (wide z h)

pub overflow_cast-divisor : goal.overflow_cast-divisor
overflow_cast-divisor c =
    let h = divides w64 _ _ _ _ _ c.requires c.ranges.num c.ranges.den c.unsigned_abs.ensures.value
    c.unsigned_abs-2.ensures.value c.short_divisor-divisor.ensures in
    h.fits

pub nonzero_div-result : goal.nonzero_div-result
nonzero_div-result c =
    let h = divides w64 _ _ _ _ _ c.requires c.ranges.num c.ranges.den c.unsigned_abs.ensures.value
    c.unsigned_abs-2.ensures.value c.short_divisor-divisor.ensures in
    (h.some, h.num_fits)

pub nonzero_div-result-2 : goal.nonzero_div-result-2
nonzero_div-result-2 c =
    let h = divides w64 _ _ _ _ _ c.requires c.ranges.num c.ranges.den c.unsigned_abs.ensures.value
    c.unsigned_abs-2.ensures.value c.short_divisor-divisor.ensures in
    (h.some, h.den_fits)

pub invariant_of-result : goal.invariant_of-result
invariant_of-result c =
    let h = divides w64 _ _ _ _ _ c.requires c.ranges.num c.ranges.den c.unsigned_abs.ensures.value
    c.unsigned_abs-2.ensures.value c.short_divisor-divisor.ensures in
    record { in_lowest_terms = rw (widened _ h.num_fits, widened _ h.den_fits) h.lowest }

pub returns : goal.returns
returns c =
    let h = divides w64 _ _ _ _ _ c.requires c.ranges.num c.ranges.den c.unsigned_abs.ensures.value
    c.unsigned_abs-2.ensures.value c.short_divisor-divisor.ensures in
    rw (widened _ h.num_fits, widened _ h.den_fits) record { value = h.value; zero = h.zero }
