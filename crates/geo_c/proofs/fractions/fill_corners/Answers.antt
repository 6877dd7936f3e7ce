use Rattle.std.proofs.Common.{◌≡◌, ◌+◌, ◌*◌, ◌/◌, ◌<◌, ◌≤◌, ◌∙◌, List, ap, sym, inl, arith, length, slice_index_or, slice_set}
use Rattle.geo_c.specs.Fractions.{Fraction, fraction_x, fraction_y, fractions_of_corners}
use Rattle.geo_c.proofs.Filling.{all_of, one_more}
use Rattle.geo_c.proofs.Twos.{length_twos, two_of}
use Rattle.geo_c.proofs.fractions.fill_corners.Goals as goal

pub fractions-preserved : goal.fractions-preserved
fractions-preserved g c =
    let corners = c.args.corners.now in
    let items = fractions_of_corners corners in
    let i = c.fractions.i in
    let result = c.coordinate.result in
    let many : length items ≡ 2 * length corners = length_twos fraction_x fraction_y corners in
    let there : i / 2 < length corners = omega (arith, c.if-corners-i.false) in
    let few : i + 1 ≤ length items = omega (arith, many, there) in
    let fits : i < length c.args.out.now = omega arith in
    let is : result ≡ slice_index_or items i result = c.coordinate.ensures ∙ sym (two_of fraction_x fraction_y corners i c.index-corners-i.result result there c.index-corners-i.is) in
    record {
      few = few;
      filled = ap (λ (xs : List Fraction). slice_set xs i result) c.fractions.invariant.filled ∙ one_more items c.args.out.now i result (omega (arith, few)) fits is;
    }

pub returns-then-corners-i : goal.returns-then-corners-i
returns-then-corners-i g c =
    let corners = c.args.corners.now in
    let items = fractions_of_corners corners in
    let i = c.fractions.i in
    let many : length items ≡ 2 * length corners = length_twos fraction_x fraction_y corners in
    let fits : i ≤ length c.args.out.now = omega arith in
    let ended : length items ≤ i = omega (arith, many, c.if-corners-i.true) in
    c.fractions.invariant.filled ∙ all_of items c.args.out.now i c.fractions.invariant.few fits (inl ended)
