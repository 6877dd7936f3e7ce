use Rattle.std.proofs.Common.{◌≡◌, ◌∙◌, ap, ◌+◌, arith}
use Rattle.rings.specs.Ring.{vertex}
use Rattle.exact_plane.proofs.CrossProduct.{difference_read, difference_small, fits_half}
use Rattle.edge_index.proofs.ProbeNumbers.{first_here, last_here}
use Rattle.edge_index.proofs.place.Probe.of.Goals as goal

pub invariant_of-result : goal.invariant_of-result
invariant_of-result g c =
    let from = c.of-from.result in
    let way = c.to-way.result in
    record { here_fits = difference_small way.up from.x way.across from.y way.up_fits (omega (arith, from.x_fits)) way.across_fits (omega (arith, from.y_fits)) }

pub returns-clause-probe : goal.returns-clause-probe
returns-clause-probe g c =
    let p = vertex c.args.points.now c.args.e in
    let q = vertex c.args.points.now (c.args.e + 1) in
    let from = c.of-from.result in
    let to = c.of-to.result in
    let way = c.to-way.result in
    let from_x : from.x ≡ p.x = c.of-from.ensures.x ∙ ap (λ v. v.x) c.corner.ensures in
    let from_y : from.y ≡ p.y = c.of-from.ensures.y ∙ ap (λ v. v.y) c.corner.ensures in
    let to_x : to.x ≡ q.x = c.of-to.ensures.x ∙ ap (λ v. v.x) c.corner-2.ensures in
    let to_y : to.y ≡ q.y = c.of-to.ensures.y ∙ ap (λ v. v.y) c.corner-2.ensures in
    let x_half = fits_half from.x (omega (arith, from.x_fits)) in
    let y_half = fits_half from.y (omega (arith, from.y_fits)) in
    let here = difference_read way.up from.x way.across from.y way.up_fits x_half way.across_fits y_half in
    let encloses = c.box_of_edge-bounds.ensures.encloses in
    record {
      from = λ i. record { x = from_x i; y = from_y i };
      to = λ i. record { x = to_x i; y = to_y i };
      from_in_box = encloses.from;
      to_in_box = encloses.to;
      from_on_line = first_here way.across way.up from.x from.y p.x p.y _ from_x from_y here;
      to_on_line = last_here way.across way.up from.x from.y to.x to.y q.x q.y _ to_x to_y c.to-way.ensures.across c.to-way.ensures.up here;
    }
