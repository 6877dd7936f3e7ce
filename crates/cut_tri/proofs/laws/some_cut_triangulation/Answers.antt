use Rattle.cut_tri.proofs.SomeCut.{some_cut_triangulation}
use Rattle.cut_tri.proofs.laws.some_cut_triangulation.Goals as goal

pub returns : goal.returns
returns c = some_cut_triangulation
