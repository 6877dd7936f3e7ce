-- The piece of all vertices of a ring.
use Rattle.std.proofs.Common.{◌≤◌, List, length, arith}
use Rattle.std.proofs.lemmas.List.FromFn.{get_or-range_with_len, length-range_with_len}
use Rattle.std.specs.List.{range_with_len}
use Rattle.plane.specs.Point.{Point}
use Rattle.rings.specs.Orientation.{IsCounterclockwise}
use Rattle.rings.specs.Simple.{IsSimple}
use Rattle.meshes.proofs.Triangulations.{ring_is_piece}
use Rattle.cut_tri.specs.Piece.{IsPiece}

-- all vertices of a simple ring with a positive area are a piece
pub all_is_piece : (corners : List Point) → 3 ≤ length corners → IsSimple corners → IsCounterclockwise corners → IsPiece corners (range_with_len 0 (length corners))
all_is_piece corners some simple way = record {
  polygon = ring_is_piece corners some simple way;
  numbers = λ k h. omega (arith, h, length-range_with_len 0 (length corners), get_or-range_with_len 0 (length corners) k 0);
}
