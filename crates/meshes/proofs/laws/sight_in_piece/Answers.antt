use Rattle.meshes.proofs.Sight.{piece_sleeve_law}
use Rattle.meshes.proofs.laws.sight_in_piece.Goals as goal

pub returns : goal.returns
returns c = piece_sleeve_law
