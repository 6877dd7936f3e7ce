-- The first triangle of a list with a corner. This project's own.
use Rattle.std.specs.Prelude.{ℕ, ◌<◌, ◌≤◌, List, length, slice_index_or}
use Rattle.meshes.specs.Side.{HasCorner, tri_at}
use Rattle.meshes.specs.declared.tri.Tri.{Tri}

-- of the triangles from triangle n on none before triangle k has corner i, and that one has it if it is in the list
pub record IsFirstAt (tris : List Tri) (n i k : ℕ) : Type 0 where
  pub has : k < length tris → HasCorner (tri_at tris k) i
  pub least : (l : ℕ) → n ≤ l → l < length tris → HasCorner (tri_at tris l) i → k ≤ l

-- for each number of a list of corners the first of these triangles
abbrev pub AreFirstsFrom : List Tri → ℕ → List ℕ → Type 0
AreFirstsFrom tris n firsts = (i : ℕ) → i < length firsts → IsFirstAt tris n i (slice_index_or firsts i 0)

-- the first of all triangles, for all corners
pub record KeepsFirsts (tris : List Tri) (firsts : List ℕ) : Type 0 where
  pub within : (i k : ℕ) → k < length tris → HasCorner (tri_at tris k) i → i < length firsts
  pub all : AreFirstsFrom tris 0 firsts
