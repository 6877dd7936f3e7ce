use Rattle.std.proofs.Common.{◌≡◌, ◌+◌, ◌*◌, ◌/◌, ◌<◌, ◌≤◌, ◌∙◌, List, ap, inl, arith, length, slice_index_or, slice_set}
use Rattle.geo_c.specs.Fractions.{Fraction, fractions_of_parts}
use Rattle.geo_c.proofs.Filling.{all_of, one_more}
use Rattle.geo_c.proofs.Twos.{fractions_length, fraction_of}
use Rattle.geo_c.proofs.fractions.fill_parts.Goals as goal

pub fractions-preserved : goal.fractions-preserved
fractions-preserved g c =
    let parts = c.args.parts.now in
    let items = fractions_of_parts parts in
    let i = c.fractions.i in
    let result = c.coordinate.result in
    let many : length items ≡ 4 * length parts = fractions_length parts in
    let there : (i / 2) / 2 < length parts = omega (arith, c.if-parts-number.false) in
    let few : i + 1 ≤ length items = omega (arith, many, there) in
    let fits : i < length c.args.out.now = omega arith in
    let is : result ≡ slice_index_or items i result = fraction_of parts i c.index-parts-number.result c.end.result result there c.index-parts-number.is c.end.ensures c.coordinate.ensures in
    record {
      few = few;
      filled = ap (λ (xs : List Fraction). slice_set xs i result) c.fractions.invariant.filled ∙ one_more items c.args.out.now i result (omega (arith, few)) fits is;
    }

pub returns-then-parts-number : goal.returns-then-parts-number
returns-then-parts-number g c =
    let parts = c.args.parts.now in
    let items = fractions_of_parts parts in
    let i = c.fractions.i in
    let many : length items ≡ 4 * length parts = fractions_length parts in
    let fits : i ≤ length c.args.out.now = omega arith in
    let ended : length items ≤ i = omega (arith, many, c.if-parts-number.true) in
    c.fractions.invariant.filled ∙ all_of items c.args.out.now i c.fractions.invariant.few fits (inl ended)
