-- The laws of chains with bends, as statements: where they bend, and that there is one between two points. This project's own.
use Rattle.std.specs.Prelude.{◌≡◌, ◌⊎◌, ℕ, ◌-◌, ◌<◌, ◌≤◌, List, length}
use Rattle.plane.specs.Point.{Point, whole}
use Rattle.rings.specs.Prelude.{IsBentChain, IsInner, IsPath, IsSimple, IsTaut, point_at, vertex}
use Rattle.meshes.specs.Prelude.{Fits, IsInTri, IsWalk}
use Rattle.meshes.specs.declared.tri.Tri.{Tri}
use Rattle.meshes.specs.Laws.{walk_tri}

-- the point is a corner of the triangle
abbrev pub IsCornerOf : List Point → Tri → Point → Type 0
IsCornerOf corners t v = (vertex corners t.a ≡ v) ⊎ (vertex corners t.b ≡ v) ⊎ (vertex corners t.c ≡ v)

-- the law of dead ends: a chain with bends, from a point in the first triangle of a walk to a point in the last, has as its inner
-- points corners of triangles of the walk
abbrev pub DeadEndLaw : Type 0
DeadEndLaw = (corners : List Point) (tris : List Tri) → Fits corners tris → (walk : List ℕ) → IsWalk tris walk
    → (chain : List Point) → IsBentChain corners chain
    → IsInTri corners (walk_tri tris walk 0) (whole (point_at chain 0))
    → IsInTri corners (walk_tri tris walk (length walk - 1)) (whole (point_at chain (length chain - 1)))
    → (k : ℕ) → IsInner chain k → (m : ℕ) × (m < length walk) × IsCornerOf corners (walk_tri tris walk m) (point_at chain k)

-- in a simple ring, two chains with bends between the same points are equal;
abbrev pub OneBentChainLaw : Type 0
OneBentChainLaw = (ring : List Point) → 3 ≤ length ring → IsSimple ring → (one other : List Point) → IsBentChain ring one → IsBentChain ring other
    → point_at one 0 ≡ point_at other 0 → point_at one (length one - 1) ≡ point_at other (length other - 1) → one ≡ other

-- and such a chain of two points or more does not end where it begins
abbrev pub NoClosedChainLaw : Type 0
NoClosedChainLaw = (ring : List Point) → 3 ≤ length ring → IsSimple ring → (chain : List Point) → IsBentChain ring chain
    → point_at chain 0 ≡ point_at chain (length chain - 1) → length chain ≡ 1

-- so a taut chain is the path, there being no other
abbrev pub OneTautChainLaw : Type 0
OneTautChainLaw = (ring : List Point) → 3 ≤ length ring → IsSimple ring → (s t : Point) (chain : List Point) → IsTaut ring s t chain
    → IsPath ring s t chain
