-- What cones tell of the edges of a ring. No public clause cites this module.
use Rattle.std.specs.Prelude.{◌≡◌, ◌⊎◌, ℕ, ◌+◌, ◌%◌, ◌<◌, List, length, slice_index_or, Option, Some, None}
use Rattle.plane.specs.Point.{Point, Triple, whole}
use Rattle.rings.specs.Ring.{vertex}
use Rattle.rings.specs.Visible.{IsPart, IsUnseen, Part, part_at}
use Rattle.meshes.specs.Cone.{Cone, IsPartEnd, narrowed}
use Rattle.see_cone.specs.Reached.{cone_there, placed_at}
use Rattle.see_cone.specs.declared.edges.Placed.{Placed}
use Rattle.see_cone.specs.declared.reached.Reached.{Reached}

-- the vertex where edge i ends
abbrev pub end_of : List Point → ℕ → Point
end_of corners i = vertex corners ((i + 1) % length corners)

-- a cone, narrowed to edge i
abbrev pub edge_cone : List Point → Point → ℕ → Option Cone → Option Cone
edge_cone corners q i cone = narrowed q cone (end_of corners i) (vertex corners i)

-- it tells what q sees of the edge: nothing, or the part between its ends
pub record IsConeTold (corners : List Point) (q : Point) (i : ℕ) (cone : Option Cone) : Type 0 where
  pub unseen : edge_cone corners q i cone ≡ None → IsUnseen corners (whole q) i
  pub part : (c : Cone) → edge_cone corners q i cone ≡ Some c → (first last : Triple)
      → IsPartEnd q c.right (vertex corners i) (end_of corners i) (vertex corners i) first
      → IsPartEnd q c.left (vertex corners i) (end_of corners i) (end_of corners i) last
      → IsPart corners (whole q) i first last

-- the number of an edge, and that of all edges after the last one
abbrev pub edge_or : ℕ → List Placed → ℕ → ℕ
edge_or n edges j = (slice_index_or edges j (record { edge = n; place = 0 })).edge

-- these edges, in their order, are told by the cones at their places, and of the others nothing is seen
pub record AreTold (corners : List Point) (q : Point) (reached : List Reached) (edges : List Placed) : Type 0 where
  pub in_ring : (j : ℕ) → j < length edges → (placed_at edges j).edge < length corners
  pub below : (j : ℕ) → j < length edges → (placed_at edges j).place < length reached
  pub told : (j : ℕ) → j < length edges → IsConeTold corners q (placed_at edges j).edge (cone_there reached (placed_at edges j).place)
  pub rising : (j l : ℕ) → j < l → l < length edges → (placed_at edges j).edge < (placed_at edges l).edge
  pub others : (i : ℕ) → i < length corners → ((j : ℕ) → j < length edges → ¬ ((placed_at edges j).edge ≡ i)) → IsUnseen corners (whole q) i

-- what q sees of the first edges: a part of each edge of which it sees a point, in their order
pub record AreFirstParts (ring : List Point) (q : Triple) (count : ℕ) (parts : List Part) : Type 0 where
  pub in_front : (k : ℕ) → k < length parts → (part_at parts k).edge < count
  pub parts_seen : (k : ℕ) → k < length parts → IsPart ring q (part_at parts k).edge (part_at parts k).first (part_at parts k).last
  pub rising : (k : ℕ) → k + 1 < length parts → (part_at parts k).edge < (part_at parts (k + 1)).edge
  pub complete : (i : ℕ) → i < count → ((k : ℕ) × (k < length parts) × ((part_at parts k).edge ≡ i)) ⊎ IsUnseen ring q i
