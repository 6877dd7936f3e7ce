use Rattle.std.proofs.Common.{◌≤◌, subst, length, arith}
use Rattle.std.proofs.lemmas.Result.{IfOk-weaker}
use Rattle.plane.proofs.Points.{whole_is_point}
use Rattle.plane.specs.Point.{whole}
use Rattle.rings.proofs.Views.{view_law}
use Rattle.rings.specs.Simple.{IsSimple}
use Rattle.meshes.proofs.Sides.{piece_points_all, two_fewer}
use Rattle.dual_tree.proofs.LocationFits.{covered}
use Rattle.see_cone.proofs.EdgesTold.{are_told}
use Rattle.see_cone.proofs.view.see.Goals as goal
use Rattle.see_cone.specs.Reached.{AreSorted}

pub edges_of-requires-clause-fits : goal.edges_of-requires-clause-fits
edges_of-requires-clause-fits g c = (c.args.ring.now.corners, c.requires.fits)

pub edges_of-requires-clause-different : goal.edges_of-requires-clause-different
edges_of-requires-clause-different g c =
    let are = c.in_ok-reached.ensures.reached.are in
    rw c.deref.ensures.value (record { in_list = λ p h. (are.at_places p h).in_list; once = are.once })

pub parts_through-requires : goal.parts_through-requires
parts_through-requires g c =
    let corners = c.args.ring.now.corners in
    let tris = c.args.mesh.now in
    let q = c.args.q.now in
    let reached = c.in_ok-reached.reached.items in
    let edges = c.in_ok-edges.edges.items in
    let sorted : AreSorted tris reached edges = subst (λ rs. AreSorted tris rs edges) c.deref.ensures.value c.in_ok-edges.ensures in
    rw (c.deref-2.ensures.value, c.deref-3.ensures.value)
    (are_told corners tris c.requires.fits q reached edges c.in_ok-reached.ensures.reached sorted)

pub returns-clause-view : goal.returns-clause-view
returns-clause-view g c =
    let corners = c.args.ring.now.corners in
    let q = c.args.q.now in
    let fits = c.requires.fits in
    let some : 3 ≤ length corners = omega (arith, two_fewer corners c.args.mesh.now fits, c.requires.home) in
    let simple : IsSimple corners = subst IsSimple (piece_points_all corners) fits.simple in
    let inside = (covered corners c.args.mesh.now fits (whole q) (whole_is_point q)).1 (c.args.home, c.requires.home, c.requires.place) in
    let view = view_law corners some simple q inside in
    IfOk-weaker c.parts_through.result _ _ (λ parts are. view parts.items are) c.parts_through.ensures.parts
