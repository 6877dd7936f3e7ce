-- Orders of triangles outward from a home: each later triangle shares a side with an earlier one. This project's own.
use Rattle.std.specs.Prelude.{◌≡◌, ℕ, ◌<◌, List, length, slice_index, slice_index_or}
use Rattle.meshes.specs.Mesh.{side_begin, side_end}
use Rattle.meshes.specs.Side.{HasSide, tri_at}
use Rattle.meshes.specs.declared.tri.Tri.{Tri}
use Rattle.tri_mesh.specs.declared.outward.Outward.{Outward}

-- what is at a place of the order
abbrev pub outward_at : List Outward → ℕ → Outward
outward_at order p = slice_index_or order p (record { tri = 0; toward = 0; side = 0 })

-- the triangle there
abbrev pub at_place : List Outward → ℕ → ℕ
at_place order p = (outward_at order p).tri

-- the triangle at a place is reached from one at an earlier place, across a side that both have, in opposite directions
pub record IsJoined (tris : List Tri) (order : List Outward) (p : ℕ) : Type 0 where
  pub earlier : (outward_at order p).toward < p
  pub side : (outward_at order p).side < 3
  pub shared : let here = outward_at order p in let t = tri_at tris here.tri in
      HasSide (tri_at tris (outward_at order here.toward).tri) (side_end t here.side) (side_begin t here.side)

-- an order of the triangles outward from home: each is at one place, home at the first, and the later ones are joined
pub record IsOutward (tris : List Tri) (home : ℕ) (order : List Outward) : Type 0 where
  pub count : length order ≡ length tris
  pub first : (outward_at order 0).tri ≡ home
  pub in_list : (p : ℕ) → p < length order → (outward_at order p).tri < length tris
  pub all : (k : ℕ) → k < length tris → (p : ℕ) × (p < length order) × ((outward_at order p).tri ≡ k)
  pub once : (p q : ℕ) → p < length order → q < length order → (outward_at order p).tri ≡ (outward_at order q).tri → p ≡ q
  pub joined : (p : ℕ) → 0 < p → p < length order → IsJoined tris order p

-- such an order, with the place of each triangle in it
pub record IsRooted (tris : List Tri) (home : ℕ) (order : List Outward) (places : List ℕ) : Type 0 where
  pub outward : IsOutward tris home order
  pub size : length places ≡ length tris
  pub within : (k : ℕ) → k < length tris → slice_index places k < length order
  pub placed : (k : ℕ) → k < length tris → (outward_at order (slice_index places k)).tri ≡ k
