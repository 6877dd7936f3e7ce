use Rattle.std.proofs.Common.{◌≡◌, ap, None, get_or, rules}
use Rattle.std.proofs.lemmas.List.{get_or_default}
use Rattle.std.specs.Prelude.{IsNone}
use Rattle.meshes.specs.Fits.{IsSideOfOne}
use Rattle.meshes.specs.Mesh.{side_begin, side_end}
use Rattle.meshes.specs.Side.{tri_at}
use Rattle.see_cone.proofs.EdgesMore.{edges_more, edges_same}
use Rattle.see_cone.proofs.edges.push_side.Goals as goal
use Rattle.see_cone.specs.Reached.{reached_at, tri_there}

pub returns-in_ok-push : goal.returns-in_ok-push
returns-in_ok-push c =
    let reached = c.args.reached.now in
    let p = c.args.place in
    let x = c.index-reached-place.result in
    let here : get_or reached p x ≡ reached_at reached p = get_or_default reached p x (record { tri = 0; from = 0; cone = None }) c.requires.place in
    let one = rw here at (c.across.ensures.none.0 (search rules)) in
    rw (c.in_ok-push.ensures.items, ap (λ p. p.0) c.side_ends-edge.ensures, c.tri.ensures, here)
    (edges_more c.args.mesh.now reached p c.args.edges.now.items c.args.side c.requires.before c.requires.fits.0 c.requires.fits.1
    c.requires.different c.requires.place c.requires.side one)

pub returns-else-is_none : goal.returns-else-is_none
returns-else-is_none c =
    let reached = c.args.reached.now in
    let tris = c.args.mesh.now in
    let p = c.args.place in
    let side = c.args.side in
    let x = c.index-reached-place.result in
    let here : get_or reached p x ≡ reached_at reached p = get_or_default reached p x (record { tri = 0; from = 0; cone = None }) c.requires.place in
    let not_none : ¬ IsNone c.across.result = search rules in
    let k = tri_there reached p in
    let not_one : ¬ IsSideOfOne tris (side_begin (tri_at tris k) side) (side_end (tri_at tris k) side) k =
    λ one. not_none (c.across.ensures.none.1 (rw here one)) in
    edges_same tris reached p c.args.edges.now.items side c.requires.before not_one
