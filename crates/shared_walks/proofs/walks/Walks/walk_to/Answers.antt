use Rattle.std.proofs.Common.{◌≡◌, sym, ap, subst, ◌∙◌, ◌+◌, ◌-◌, ◌*◌, ◌<◌, length, get_or, slice_index, set, arith}
use Rattle.std.proofs.lemmas.List.{get_or_default, map-set}
use Rattle.rings.specs.Chain.{point_at}
use Rattle.rings.specs.Ring.{origin}
use Rattle.meshes.specs.Side.{HasSide, tri_at}
use Rattle.meshes.specs.Sleeve.{diagonal_at}
use Rattle.shared_walks.proofs.FoundPaths.{cost_left, finds_more, finds_none, there, walk_broken, walk_finds}
use Rattle.shared_walks.proofs.walks.Walks.walk_to.Goals as goal
use Rattle.shared_walks.proofs.walks.Walks.walk_to.Goals.{then-len-eq0+in_ok-path, else-len-eq0+in_ok-walk_along}
use Rattle.shared_walks.specs.Several.{IsPathOfFewPoints, listed}

pub returns-clause-served : goal.returns-clause-served
returns-clause-served g c =
    let corners = c.args.self.now.stops.now.ring.now.corners in
    let s = c.args.self.now.stops.now.start.now in
    let points = c.args.self.now.stops.now.points.now in
    let k = c.args.k in
    let old = listed c.args.found.now.items in
    elim c.if-len-eq0.branch [
      | then-len-eq0+in_ok-path w ↦
          let path = w.in_ok-path.path.items in
          let put : listed w.put.new.found.items ≡ set old k path = ap listed w.put.ensures ∙ map-set (λ chain. chain.items) c.args.found.now.items k w.in_ok-path.path in
          rw (w.found-is, put) (there corners s points 0 old 0 old 0 (finds_none corners s points 0 old 0 c.requires.found) k c.requires.within c.requires.none path
          w.in_ok-path.ensures.path.some)
      | else-len-eq0+in_ok-walk_along w ↦
          let sleeve = c.in_ok-sleeve.sleeve in
          let of_mesh = c.in_ok-sleeve.ensures.of_mesh in
          let d = length sleeve.diagonals in
          let some : 0 < d = omega (arith, w.if-len-eq0.false, c.len.ensures.number) in
          let last : length sleeve.walk - 1 ≡ d - 1 + 1 = omega (arith, of_mesh.count, some) in
          let same : get_or sleeve.walk (d - 1 + 1) 0 ≡ slice_index c.args.self.now.stops.now.tris.now k =
          ap (λ i. get_or sleeve.walk i 0) (sym last) ∙ c.in_ok-sleeve.ensures.between.last in
          rw w.found-is (w.in_ok-walk_along.ensures.served k c.requires.within
          (subst (λ t. HasSide (tri_at c.args.self.now.stops.now.mesh.now t) (diagonal_at sleeve (d - 1)).left (diagonal_at sleeve (d - 1)).right) same
          (of_mesh.diagonals (d - 1) (omega (arith, some))).of_second))
    ]

pub returns-clause-fronts : goal.returns-clause-fronts
returns-clause-fronts g c =
    elim c.if-len-eq0.branch [
      | then-len-eq0+in_ok-path w ↦ rw w.fronts-is c.requires.fronts
      | else-len-eq0+in_ok-walk_along w ↦ rw w.fronts-is w.in_ok-walk_along.ensures.fronts
    ]

pub returns-clause-found : goal.returns-clause-found
returns-clause-found g c =
    let corners = c.args.self.now.stops.now.ring.now.corners in
    let s = c.args.self.now.stops.now.start.now in
    let points = c.args.self.now.stops.now.points.now in
    let k = c.args.k in
    let old = listed c.args.found.now.items in
    let n = length corners in
    let some = c.len-few_vertices.ensures.size.0 in
    let served = returns-clause-served g c in
    elim c.if-len-eq0.branch [
      | then-len-eq0+in_ok-path w ↦
          let path = w.in_ok-path.path.items in
          let put : listed w.put.new.found.items ≡ set old k path = ap listed w.put.ensures ∙ map-set (λ chain. chain.items) c.args.found.now.items k w.in_ok-path.path in
          let point = get_or_default points k origin w.index-self-k.result c.requires.within in
          let is : IsPathOfFewPoints corners s (point_at points k) path = subst (λ p. IsPathOfFewPoints corners s p path) (sym point) w.in_ok-path.ensures.path in
          rw (w.found-is, w.steps-is, put) (finds_more corners s points (4 * n) old c.args.steps.now old c.args.steps.now
          (finds_none corners s points (4 * n) old c.args.steps.now c.requires.found) k c.requires.within c.requires.none path _ is
          (omega (arith, some, w.in_ok-path.ensures.steps)))
      | else-len-eq0+in_ok-walk_along w ↦
          rw (w.found-is, w.steps-is) (walk_finds corners s points n old _ c.args.steps.now _ some w.in_ok-walk_along.ensures.found c.requires.found k
          c.requires.within c.requires.none (rw w.found-is at served))
    ]

pub returns-clause-steps : goal.returns-clause-steps
returns-clause-steps g c = omega (arith, (returns-clause-found g c).paid)

pub returns-in_err-path-clause-steps : goal.returns-in_err-path-clause-steps
returns-in_err-path-clause-steps g c =
    let old = listed c.args.found.now.items in
    let left = cost_left old c.args.k (omega (arith, c.requires.within, c.requires.found.count)) c.requires.none (4 * length c.args.self.now.stops.now.ring.now.corners) in
    omega (arith, left, c.path_at_home.ensures.steps, c.len-few_vertices.ensures.size.0)

pub returns-in_err-walk_along-clause-steps : goal.returns-in_err-walk_along-clause-steps
returns-in_err-walk_along-clause-steps g c =
    let old = listed c.args.found.now.items in
    let one = cost_left old c.args.k (omega (arith, c.requires.within, c.requires.found.count)) c.requires.none 1 in
    walk_broken (length c.args.self.now.stops.now.ring.now.corners) c.args.steps.now _ _ c.len-few_vertices.ensures.size.0 c.walk_along.ensures.steps (omega (arith, one))
