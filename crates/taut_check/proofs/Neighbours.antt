-- The neighbours of a vertex of a simple ring.
use Rattle.std.proofs.Common.{◌≡◌, ◌⊎◌, ◌↔◌, inl, inr, true, false, sym, subst, ℕ, ◌+◌, ◌-◌, ◌<◌, ◌≤◌, List, length}
use Rattle.plane.specs.Point.{Point}
use Rattle.rings.specs.Bend.{AreNeighbours}
use Rattle.rings.specs.Ring.{vertex}
use Rattle.rings.specs.Simple.{IsSimple}
use Rattle.ring_laws.proofs.Vertices.{beside_next, neighbour_is}

-- the neighbours of vertex i are the vertices before and after it
pub neighbour_iff : (ring : List Point) → 3 ≤ length ring → IsSimple ring → (i : ℕ) → i < length ring → (u : Point)
    → AreNeighbours ring (vertex ring i) u ↔ ((u ≡ vertex ring (i + (length ring - 1))) ⊎ (u ≡ vertex ring (i + 1)))
neighbour_iff ring three simple i below u = (
  neighbour_is ring simple three i below u,
  λ h. elim h [
    | inl e ↦ subst (λ (w : Point). AreNeighbours ring (vertex ring i) w) (sym e) (beside_next ring simple three i below false)
    | inr e ↦ subst (λ (w : Point). AreNeighbours ring (vertex ring i) w) (sym e) (beside_next ring simple three i below true)
  ],
)
