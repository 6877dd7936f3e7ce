use Rattle.std.proofs.Common.{refl, sym, ◌∙◌}
use Rattle.exact_plane.proofs.Directions.{left_of_positive, positive_of_left}
use Rattle.dual_tree.proofs.location.is_left.Goals as goal

pub returns-in-Left-clause-left : goal.returns-in-Left-clause-left
returns-in-Left-clause-left g c = (λ h. positive_of_left _ (sym c.turn.ensures.turn ∙ c.in-Left.is), λ is. refl)

pub returns-in_default-clause-left : goal.returns-in_default-clause-left
returns-in_default-clause-left g c = (λ h. absurd cc, λ is. absurd (c.in_default.not-Left (c.turn.ensures.turn ∙ left_of_positive _ is)))
