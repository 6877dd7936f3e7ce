-- Which diagonals of a triangulation are flipped, and what is left where none is. Flips: Lawson 1977; which are made is this project's own.
use Rattle.std.specs.Prelude.{ℕ, ◌<◌, List, length}
use Rattle.plane.specs.Order.{IsBefore}
use Rattle.plane.specs.Point.{Point, whole}
use Rattle.plane.specs.Turn.{IsLeft}
use Rattle.rings.specs.Ring.{vertex}
use Rattle.meshes.specs.Side.{tri_at}
use Rattle.meshes.specs.declared.tri.Tri.{Tri}
use Rattle.cut_tri.specs.Triangles.{HasRound}

-- the diagonal from i to j of two triangles, with the corner c on its left and d on its right, is to be flipped: the least of the four is
-- i, and their quadrilateral turns left at j
pub record IsToFlip (corners : List Point) (t u : Tri) (i j c d : ℕ) : Type 0 where
  pub left : HasRound t i j c
  pub right : HasRound u j i d
  pub before_end : IsBefore (vertex corners i) (vertex corners j)
  pub before_left : IsBefore (vertex corners i) (vertex corners c)
  pub before_right : IsBefore (vertex corners i) (vertex corners d)
  pub convex : IsLeft (whole (vertex corners d)) (whole (vertex corners j)) (whole (vertex corners c))

-- no diagonal is to be flipped
abbrev pub HasNoFlips : List Point → List Tri → Type 0
HasNoFlips corners tris =
    (k l i j c d : ℕ) → k < length tris → l < length tris → ¬ IsToFlip corners (tri_at tris k) (tri_at tris l) i j c d
