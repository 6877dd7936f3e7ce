use Rattle.std.proofs.Common.{◌∙◌, ◌+◌, ◌≤◌, ap, sym, subst, length, arith}
use Rattle.std.proofs.lemmas.Result.{IfOk-weaker}
use Rattle.exact_plane.specs.Names.{named_points}
use Rattle.exact_plane.specs.Spot.{point_named}
use Rattle.shared_walks.proofs.ShortPaths.{all_named, short_path}
use Rattle.shared_walks.proofs.paths.Stops.path_behind.Goals as goal
use Rattle.shared_walks.specs.Several.{IsPathOfFewPoints}

pub points_of-requires : goal.points_of-requires
points_of-requires g c = rw c.deref.ensures.value (all_named _ _ _ _ c.in_ok-out.ensures.path)

pub returns-clause-path : goal.returns-clause-path
returns-clause-path g c =
    let corners = c.args.self.now.ring.now.corners in
    let s = c.args.self.now.start.now in
    let t = c.args.t.now in
    let at = point_named c.new-board.result.ring.now.corners c.new-board.result.start c.new-board.result.goal in
    let few : length c.in_ok-out.out.items ≤ length corners + 1 =
    omega (arith, c.in_ok-out.ensures.few, c.requires.few) in
    let short : IsPathOfFewPoints corners s t (named_points at c.in_ok-out.out.items) =
    short_path _ _ _ _ c.in_ok-out.ensures.path corners s t c.new-board.ensures.corners c.new-board.ensures.start c.new-board.ensures.goal few in
    IfOk-weaker c.points_of.result _ _
    (λ points is. subst (IsPathOfFewPoints corners s t) (sym (is ∙ ap (named_points at) c.deref.ensures.value)) short) c.points_of.ensures
