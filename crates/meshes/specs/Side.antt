-- Lists of triangles, their corners and sides, and walks over triangles that share sides. This project's own.
use Rattle.std.specs.Prelude.{◌≡◌, ◌⊎◌, ℕ, ◌+◌, ◌-◌, ◌<◌, List, length, slice_index_or}
use Rattle.meshes.specs.declared.tri.Tri.{Tri}

-- triangle k of a list
abbrev pub tri_at : List Tri → ℕ → Tri
tri_at tris k = slice_index_or tris k (record { a = 0; b = 0; c = 0 })

-- i is a corner of the triangle
abbrev pub HasCorner : Tri → ℕ → Type 0
HasCorner t i = (t.a ≡ i) ⊎ (t.b ≡ i) ⊎ (t.c ≡ i)

-- the triangle has a side from corner i to corner j
abbrev pub HasSide : Tri → ℕ → ℕ → Type 0
HasSide t i j = ((t.a ≡ i) × (t.b ≡ j)) ⊎ ((t.b ≡ i) × (t.c ≡ j)) ⊎ ((t.c ≡ i) × (t.a ≡ j))

-- in one direction or the other
abbrev pub HasSideBetween : Tri → ℕ → ℕ → Type 0
HasSideBetween t i j = HasSide t i j ⊎ HasSide t j i

-- a side in one direction belongs to one triangle at most, and no triangle has a side in both directions
pub record HasSidesOnce (tris : List Tri) : Type 0 where
  pub once : (i j k l : ℕ) → k < length tris → l < length tris → HasSide (tri_at tris k) i j → HasSide (tri_at tris l) i j → k ≡ l
  pub one_way : (i j k : ℕ) → k < length tris → HasSide (tri_at tris k) i j → ¬ HasSide (tri_at tris k) j i

-- a side of the one is a side of the other
pub record ShareSide (t u : Tri) : Type 0 where
  pub i : ℕ
  pub j : ℕ
  pub of_first : HasSide t i j
  pub of_second : HasSideBetween u i j

-- a walk: triangles of the list by their numbers, at least one, none twice, each sharing a side with the next
pub record IsWalk (tris : List Tri) (walk : List ℕ) : Type 0 where
  pub some : 0 < length walk
  pub in_list : (i : ℕ) → i < length walk → slice_index_or walk i 0 < length tris
  pub once : (i j : ℕ) → i < j → j < length walk → ¬ (slice_index_or walk i 0 ≡ slice_index_or walk j 0)
  pub sharing : (i : ℕ) → i + 1 < length walk → ShareSide (tri_at tris (slice_index_or walk i 0)) (tri_at tris (slice_index_or walk (i + 1) 0))

-- from one triangle to another
pub record IsWalkBetween (tris : List Tri) (from to : ℕ) (walk : List ℕ) : Type 0 where
  pub is_walk : IsWalk tris walk
  pub first : slice_index_or walk 0 0 ≡ from
  pub last : slice_index_or walk (length walk - 1) 0 ≡ to

-- the one walk between two triangles
pub record OneWalk (tris : List Tri) (from to : ℕ) : Type 0 where
  pub walk : List ℕ
  pub between : IsWalkBetween tris from to walk
  pub only : (other : List ℕ) → IsWalkBetween tris from to other → other ≡ walk

-- sharing a side makes the triangles a tree
abbrev pub IsTree : List Tri → Type 0
IsTree tris = (from to : ℕ) → from < length tris → to < length tris → OneWalk tris from to
