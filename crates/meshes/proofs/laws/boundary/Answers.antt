use Rattle.meshes.proofs.Boundaries.{fits_bounded, sides_cancel}
use Rattle.meshes.proofs.laws.boundary.Goals as goal

pub returns-clause-fits : goal.returns-clause-fits
returns-clause-fits c = fits_bounded

pub returns-clause-cancel : goal.returns-clause-cancel
returns-clause-cancel c = sides_cancel
