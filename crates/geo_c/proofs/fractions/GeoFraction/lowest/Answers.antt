use Rattle.std.proofs.Common.{◌≡◌, ◌^◌, ◌∙◌, pos, FitsSigned, to_z, of_z, rules, ap₂}
use Rattle.std.proofs.lemmas.Int.{to_z-of_z}
use Rattle.std.specs.Int.{int_rem_euclid, w128}
use Rattle.std.specs.Prelude.{unsigned_abs}
use Rattle.exact_frac.specs.Lowest.{lowest_den}
use Rattle.exact_frac.proofs.LowestTerms.{lowest_of}
use Rattle.geo_c.specs.Fractions.{high_word}
use Rattle.geo_c.proofs.Words.{den_fits, fraction, numerator_is, size_is}
use Rattle.geo_c.proofs.fractions.GeoFraction.lowest.Goals as goal

pub overflow_cast-result-3 : goal.overflow_cast-result-3
overflow_cast-result-3 c =
    let frac = c.lowest-frac.result in
    let fits_num : FitsSigned w128 c.args.num = c.ranges.num in
    let fits_den : FitsSigned w128 c.args.den = c.ranges.den in
    let fits : FitsSigned w128 frac.den = search rules in
    let value = simp to_z-of_z at c.lowest-frac.ensures.value in
    let is = lowest_of c.args.num c.args.den frac.num frac.den c.requires.positive frac.in_lowest_terms value in
    rw (to_z-of_z w128 frac.den fits) (den_fits c.args.num c.args.den frac.den c.requires.positive c.requires.small frac.in_lowest_terms.positive is.1)

pub returns : goal.returns
returns c =
    let frac = c.lowest-frac.result in
    let fits_num : FitsSigned w128 c.args.num = c.ranges.num in
    let fits_den : FitsSigned w128 c.args.den = c.ranges.den in
    let fits : FitsSigned w128 frac.num = search rules in
    let fits' : FitsSigned w128 frac.den = search rules in
    let fits_hi : FitsSigned w128 c.div_euclid.result = search rules in
    let fits_lo : FitsSigned w128 c.rem_euclid.result = search rules in
    let value = simp to_z-of_z at c.lowest-frac.ensures.value in
    let is = lowest_of c.args.num c.args.den frac.num frac.den c.requires.positive frac.in_lowest_terms value in
    let hi : c.div_euclid.result ≡ high_word frac.num = simp to_z-of_z at c.div_euclid.ensures in
    let lo : c.rem_euclid.result ≡ int_rem_euclid frac.num (pos (2 ^ 64)) = simp to_z-of_z at c.rem_euclid.ensures.value in
    let numerator = numerator_is frac.num _ _ fits fits_hi fits_lo hi lo in
    let denominator : pos (unsigned_abs (to_z w128 (of_z w128 frac.den))) ≡ lowest_den c.args.num c.args.den = rw (to_z-of_z w128 frac.den fits') (size_is frac.den frac.in_lowest_terms.positive ∙ is.1) in
    ap₂ fraction (numerator ∙ is.0) denominator
