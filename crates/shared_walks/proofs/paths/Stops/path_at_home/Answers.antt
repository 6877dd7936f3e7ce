use Rattle.std.proofs.Common.{◌∙◌, ◌+◌, ◌≤◌, [], ap, sym, subst, length, arith}
use Rattle.std.proofs.lemmas.Result.{IfOk-weaker}
use Rattle.meshes.proofs.Sides.{two_fewer}
use Rattle.rings.specs.Chain.{IsPath}
use Rattle.exact_plane.specs.Names.{AppendsNames, named_points}
use Rattle.exact_plane.specs.Spot.{point_named}
use Rattle.shared_walks.proofs.ShortPaths.{short_path}
use Rattle.shared_walks.proofs.paths.Stops.path_at_home.Goals as goal
use Rattle.shared_walks.specs.Several.{IsPathOfFewPoints}

pub returns-clause-path : goal.returns-clause-path
returns-clause-path g c =
    let corners = c.args.self.now.ring.now.corners in
    let s = c.args.self.now.start.now in
    let t = c.args.t.now in
    let board = c.new-board.result in
    let at = point_named board.ring.now.corners board.start board.goal in
    let names = c.walk.new.out.items in
    let path : AppendsNames board.ring.now.corners board.start board.goal (IsPath board.ring.now.corners board.start board.goal) [] names =
    subst (λ old. AppendsNames board.ring.now.corners board.start board.goal (IsPath board.ring.now.corners board.start board.goal) old names)
    c.in_ok-names.ensures.items c.walk.ensures.path in
    let some = two_fewer corners _ c.requires.fits in
    let triangles = c.requires.of_mesh.walk.in_list 0 c.requires.of_mesh.walk.some in
    let few : length names ≤ length corners + 1 =
    omega (arith, c.walk.ensures.same_out, c.in_ok-names.ensures.exact, c.walk.new.out.ok.0, c.walk.new.out.ok.1, some, triangles) in
    let short : IsPathOfFewPoints corners s t (named_points at names) =
    short_path _ _ _ _ path corners s t c.new-board.ensures.corners c.new-board.ensures.start c.new-board.ensures.goal few in
    IfOk-weaker c.points_of.result _ _
    (λ points is. subst (IsPathOfFewPoints corners s t) (sym (is ∙ ap (named_points at) c.deref.ensures.value)) short) c.points_of.ensures
