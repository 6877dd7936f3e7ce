-- What a search over the triangles of a mesh keeps, from one of them outward. No public clause cites this module. This project's own.
use Rattle.std.specs.Prelude.{◌≡◌, ℕ, ◌<◌, ◌≤◌, ◌^◌, List, [], ◌∷◌, ◌++◌, Option, Some, None, length, slice_index}
use Rattle.meshes.specs.Side.{HasSide, ShareSide, tri_at}
use Rattle.meshes.specs.declared.tri.Tri.{Tri}
use Rattle.tri_mesh.specs.Outward.{IsJoined, outward_at}
use Rattle.tri_mesh.specs.declared.outward.Outward.{Outward}

-- the triangle was reached
abbrev pub IsReached : List Outward → ℕ → Type 0
IsReached order k = (p : ℕ) × (p < length order) × ((outward_at order p).tri ≡ k)

-- each triangle that was reached is joined to an earlier one, and has its place; the others have any
pub record IsSearch (tris : List Tri) (order : List Outward) (places : List ℕ) : Type 0 where
  pub few : length tris < 2 ^ 30
  pub size : length places ≡ length tris
  pub count : length order ≤ length tris
  pub in_list : (p : ℕ) → p < length order → (outward_at order p).tri < length tris
  pub within : (k : ℕ) → k < length tris → slice_index places k < length order
  pub known : (p : ℕ) → p < length order → slice_index places (outward_at order p).tri ≡ p
  pub joined : (p : ℕ) → 0 < p → p < length order → IsJoined tris order p

-- what was reached stays where it is
pub record IsGrown (before after : List Outward) : Type 0 where
  pub longer : length before ≤ length after
  pub kept : (p : ℕ) → p < length before → outward_at after p ≡ outward_at before p

-- the triangle with the side from i to j was reached, if there is one
abbrev pub IsSideDone : List Tri → List Outward → ℕ → ℕ → Type 0
IsSideDone tris order i j = (l : ℕ) → l < length tris → HasSide (tri_at tris l) i j → IsReached order l

-- the triangles that share a side with triangle k were
abbrev pub IsDone : List Tri → List Outward → ℕ → Type 0
IsDone tris order k = (l : ℕ) → l < length tris → ShareSide (tri_at tris k) (tri_at tris l) → IsReached order l

-- the places that were reached and not gone on from, of which one is the next; none is left where there is no next one
abbrev pub waiting : Option ℕ → List ℕ → List ℕ
waiting None later = []
waiting (Some next) later = later ++ next ∷ []
