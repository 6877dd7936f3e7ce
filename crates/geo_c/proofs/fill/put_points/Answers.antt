use Rattle.std.proofs.Common.{◌≡◌, ◌++◌, [], ◌∷◌, ◌∙◌, FitsSigned, ap₂, get_or, rules, subst, take, w64}
use Rattle.plane.specs.Point.{Point}
use Rattle.geo_c.specs.Put.{IsPut}
use Rattle.geo_c.proofs.Crossed.{two_back}
use Rattle.geo_c.proofs.Putting.{items_put}
use Rattle.geo_c.proofs.fill.put_points.Goals as goal

pub loop-point-preserved : goal.loop-point-preserved
loop-point-preserved g c = λ items before so.
    let points = c.args.points.now in
    let k = c.loop-point.point-index in
    let point = c.point-item.result in
    let made : Point = record { x = c.parts-x.result.0; y = c.parts-x.result.1 } in
    let is : made ≡ get_or points k point = ap₂ (λ x y. record { x = x; y = y }) c.parts-x.ensures.x c.parts-x.ensures.y ∙ c.point-item.is in
    let fits_x : FitsSigned w64 c.parts-x.result.0 = search rules in
    let fits_y : FitsSigned w64 c.parts-x.result.1 = search rules in
    let put = two_back (λ x y. IsPut (items ++ take k points ++ record { x = x; y = y } ∷ []) before c.put.new.out c.put.new.next)
    c.parts-x.result.0 c.parts-x.result.1 fits_x fits_y (c.put.ensures (items ++ take k points) before (c.loop-point.invariant items before so)) in
    items_put items points k point before _ _ c.loop-point-test.true
    (subst (λ (p : Point). IsPut (items ++ take k points ++ p ∷ []) before c.put.new.out c.put.new.next) is put)
