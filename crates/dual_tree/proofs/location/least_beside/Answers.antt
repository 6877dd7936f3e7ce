use Rattle.std.proofs.Common.{◌<◌, length, refl, arith}
use Rattle.plane.specs.Point.{whole}
use Rattle.plane.proofs.Points.{whole_is_point}
use Rattle.meshes.specs.Mesh.{side_begin, side_end}
use Rattle.meshes.specs.Side.{tri_at}
use Rattle.funnels.proofs.Bends.{corner_in}
use Rattle.funnels.proofs.Corners.{side_corners}
use Rattle.tri_mesh.proofs.Neighbours.{has_side_numbered}
use Rattle.dual_tree.proofs.CornerHits.{corner_within, held_corner}
use Rattle.dual_tree.proofs.SideHits.{least_of_side}
use Rattle.dual_tree.proofs.StrictHits.{strictly_one}
use Rattle.dual_tree.proofs.location.least_beside.Goals as goal

pub returns-in-Some-clause-least : goal.returns-in-Some-clause-least
returns-in-Some-clause-least g c =
    let corners = c.args.ring.now.corners in
    let tris = c.args.mesh.now in
    let fits = c.requires.fits in
    let least = c.triangle_at.result in
    let v = c.in-Some.v in
    let is_point = c.in-Some.ensures.point in
    let in_list : least < length tris = c.triangle_at.ensures.in_list in
    let within = corner_within corners tris fits c.args.k v c.requires.within c.in-Some.ensures.corner in
    record {
      in_list = in_list;
      holds = rw is_point (corner_in corners tris fits least in_list v c.triangle_at.ensures.corner);
      least = λ l below held. c.triangle_at.ensures.first l below
          (held_corner corners tris fits l v (omega (arith, in_list)) within (rw is_point at held));
    }

pub returns-in-Some-side_at-clause-least : goal.returns-in-Some-side_at-clause-least
returns-in-Some-side_at-clause-least g c =
    let t = tri_at c.args.mesh.now c.args.k in
    let side = c.in-Some-side_at.side in
    let has = has_side_numbered t side c.in-Some-side_at.ensures.number in
    let none = c.in_default.ensures.none refl in
    least_of_side c.args.ring.now.corners c.args.mesh.now c.requires.fits c.args.p.now (side_begin t side) (side_end t side)
    (record {
      on = c.in-Some-side_at.ensures.on;
      not_first = none _ (side_corners t _ _ has).0;
      not_last = none _ (side_corners t _ _ has).1;
    })
    c.args.k c.requires.within has c.requires.held c.across.result c.across.ensures.none c.across.ensures.some c.lesser.result
    c.lesser.ensures.alone c.lesser.ensures.both

pub returns-in-None-clause-least : goal.returns-in-None-clause-least
returns-in-None-clause-least g c =
    record {
      in_list = c.requires.within;
      holds = c.requires.held;
      least = λ l below held. strictly_one c.args.ring.now.corners c.args.mesh.now c.requires.fits (whole c.args.p.now) (whole_is_point c.args.p.now)
          c.args.k l c.requires.within (omega (arith, c.requires.within)) (c.in-None.ensures.strictly refl) held below;
    }
