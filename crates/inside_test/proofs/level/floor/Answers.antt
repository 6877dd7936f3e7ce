use Rattle.std.proofs.Common.{◌≡◌, w64, arith, rules}
use Rattle.std.proofs.lemmas.Int.{ints, to_z-of_z}
use Rattle.std.specs.Prelude.{FitsSigned}
use mir.Syntax.{w128}
use Rattle.std.specs.Int.{int_div_euclid, int_rem_euclid}
use Rattle.exact_plane.proofs.Registers.{read, wide}
use Rattle.inside_test.proofs.Levels.{below_is, kept, quotient_is}
use Rattle.inside_test.proofs.level.floor.Goals as goal

pub returns-clause-below : goal.returns-clause-below
returns-clause-below c =
    let part = c.args.part in
    let weight = c.args.weight in
    let fits_part : FitsSigned w128 part = omega (arith, ints, c.requires.part) in
    let fits_weight : FitsSigned w128 weight = omega (arith, ints, c.requires.weight) in
    let is_part : wide part ≡ part = to_z-of_z w128 part fits_part in
    let is_weight : wide weight ≡ weight = to_z-of_z w128 weight fits_weight in
    let q : c.quotient.result ≡ int_div_euclid part weight = rw (is_part, is_weight) at c.quotient.ensures in
    let fits_q : FitsSigned w128 c.quotient.result = search rules in
    let is_q : wide c.quotient.result ≡ c.quotient.result = to_z-of_z w128 _ fits_q in
    let clamped : c.clamp.result ≡ kept (int_div_euclid part weight) = rw (is_q, q) at c.clamp.ensures.value in
    let fits_f : FitsSigned w128 c.clamp.result = omega (arith, ints, c.clamp.ensures.lower_bound, c.clamp.ensures.upper_bound) in
    let fits_g : FitsSigned w64 c.clamp.result = omega (arith, ints, c.clamp.ensures.lower_bound, c.clamp.ensures.upper_bound) in
    let is_f : wide c.clamp.result ≡ c.clamp.result = to_z-of_z w128 _ fits_f in
    let is_g : read c.clamp.result ≡ c.clamp.result = to_z-of_z w64 _ fits_g in
    rw (is_f, is_g, clamped) (below_is part weight _ (int_rem_euclid part weight) (quotient_is part weight c.requires.positive))
