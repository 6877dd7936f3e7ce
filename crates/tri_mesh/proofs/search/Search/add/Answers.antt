use Rattle.std.proofs.Common.{◌≡◌, ◌<◌, length, arith}
use Rattle.tri_mesh.proofs.SearchSteps.{fewer_reached, search_more}
use Rattle.tri_mesh.proofs.search.Search.add.Goals as goal
use Rattle.tri_mesh.specs.Search.{IsReached}

pub push_reserved-requires : goal.push_reserved-requires
push_reserved-requires c =
    let tris = c.args.tris.now in
    let order = c.args.self.now.order.items in
    let new : ¬ IsReached order c.args.k = λ reached. absurd (cc (c.has.ensures.1 reached)) in
    let side = rw c.unwrap-side.ensures at c.side_number.ensures.some in
    let fewer : length order < length tris =
    fewer_reached tris order c.args.self.now.places.items c.requires.search c.args.k c.args.place c.unwrap-side.result
    c.requires.in_list new c.requires.place side.below (rw (side.ends, side.begins) c.requires.back) in
    omega (arith, fewer, c.requires.room, c.args.self.now.order.ok.0)

pub returns-then-not-has-clause-search : goal.returns-then-not-has-clause-search
returns-then-not-has-clause-search c =
    let tris = c.args.tris.now in
    let order = c.args.self.now.order.items in
    let number : c.len.result ≡ length order = omega (arith, c.len.ensures, c.args.self.now.order.ok.0) in
    let new : ¬ IsReached order c.args.k = λ reached. absurd (cc (c.has.ensures.1 reached)) in
    let side = rw c.unwrap-side.ensures at c.side_number.ensures.some in
    rw (c.push_reserved.ensures.items, number)
    (search_more tris order c.args.self.now.places.items c.requires.search c.args.k c.args.place c.unwrap-side.result
    c.requires.in_list new c.requires.place
    side.below (rw (side.ends, side.begins) c.requires.back))
