use Rattle.std.proofs.Common.{◌≡◌, ◌∙◌, sym, subst, [], ◌∷◌, ◌++◌}
use Rattle.std.proofs.lemmas.List.{append-nil}
use Rattle.plane.proofs.Regions.{square, square_corners}
use Rattle.plane.specs.Region.{IsCornerList}
use Rattle.plane.specs.Square.{IsInSquare}
use Rattle.half_cut.proofs.region.Region.all.Goals as goal

pub returns-clause-square : goal.returns-clause-square
returns-clause-square c =
    let is : c.from_vec.result.items ++ [] ≡ square =
    append-nil c.from_vec.result.items ∙ c.from_vec.ensures.items ∙ c.in_ok-corners.ensures.items
    ∙ (λ i. c.corner_at-a.ensures i ∷ c.corner_at-b.ensures i ∷ c.corner_at-c.ensures i ∷ c.corner_at-d.ensures i ∷ []) in
    subst (IsCornerList IsInSquare) (sym is) square_corners
