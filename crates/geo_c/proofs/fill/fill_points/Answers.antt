use Rattle.std.proofs.Common.{ap, ◌∙◌, arith, ◌≡◌, ℕ, length, ◌++◌}
use Rattle.std.specs.Prelude.{take, drop}
use Rattle.geo_c.proofs.Filling.{one_more, all_of, least_is, least_of}
use Rattle.geo_c.proofs.fill.fill_points.Goals as goal

pub points-preserved : goal.points-preserved
points-preserved g c = grind (arith, one_more)

pub returns : goal.returns
returns g c =
    let items = c.args.points.now in
    let out = c.args.out.now in
    let n = c.min-count.result in
    let at_end : c.points.i ≡ n = omega (arith, c.points.auto.i-end, c.points-test.false) in
    let fits = least_of (length out) (length items) n c.min-count.ensures in
    let filled = all_of items out n fits.1 fits.0 (least_is (length out) (length items) n c.min-count.ensures) in
    c.points.invariant ∙ ap (λ (k : ℕ). take k items ++ drop k out) at_end ∙ filled
