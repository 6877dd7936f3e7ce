-- The triangles round the least vertex of a tiled piece. No public clause cites this module. This project's own.
use Rattle.std.specs.Prelude.{ℕ, ◌<◌, List, length}
use Rattle.meshes.specs.Side.{tri_at}
use Rattle.meshes.specs.declared.tri.Tri.{Tri}
use Rattle.cut_tri.specs.Triangles.{HasRound}

-- of triangles with numbers in P one runs round v, p and c
pub record IsAbout (tris : List Tri) (P : ℕ → Type 0) (v p c : ℕ) : Type 0 where
  pub tri : ℕ
  pub in_part : P tri
  pub in_list : tri < length tris
  pub round : HasRound (tri_at tris tri) v p c

-- triangles with numbers in P fill the angle at v from p counterclockwise to u: the last one has u as a corner, and each other one shares
-- the side from its third corner to v with the next
pub data Fan (tris : List Tri) (P : ℕ → Type 0) (v u : ℕ) : ℕ → Type 0 where
  last : (p : ℕ) → IsAbout tris P v p u → Fan tris P v u p
  next : (p c : ℕ) → IsAbout tris P v p c → Fan tris P v u c → Fan tris P v u p
