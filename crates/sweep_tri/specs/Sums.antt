-- Sums along the chains of open regions, and over the edges of the ring, each with a sign. No public clause cites this module.
use Rattle.std.specs.Prelude.{◌≡◌, ◌⊎◌, ℕ, zero, suc, ◌<◌, ◌≤◌, ℤ, pos, negsuc, ◌+ℤ◌, ◌-ℤ◌, ◌*ℤ◌, Option, Some, None, List, [], ◌∷◌, length}
use Rattle.rings.specs.Events.{first_rank, next}
use Rattle.meshes.specs.Boundary.{IsOdd, sum_along, sum_sides}
use Rattle.meshes.specs.declared.tri.Tri.{Tri}
use Rattle.sweep_tri.specs.Region.{Chains}
use Rattle.sweep_tri.specs.declared.gap.Gap.{Gap}

-- along the lower chain and back along the upper one
abbrev pub sum_region : (ℕ → ℕ → ℤ) → Chains → ℤ
sum_region φ c = sum_along φ c.lower -ℤ sum_along φ c.upper

abbrev pub sum_high : (ℕ → ℕ → ℤ) → Option Chains → ℤ
sum_high φ None = pos 0
sum_high φ (Some high) = sum_region φ high

abbrev pub sum_gap : (ℕ → ℕ → ℤ) → Gap → ℤ
sum_gap φ g = sum_region φ g.low +ℤ sum_high φ g.high

abbrev pub sum_gaps : (ℕ → ℕ → ℤ) → List Gap → ℤ
sum_gaps φ [] = pos 0
sum_gaps φ (g ∷ gs) = sum_gap φ g +ℤ sum_gaps φ gs

-- over the first m of n edges, each times its sign
abbrev pub sum_edges : (ℕ → ℕ → ℤ) → (ℕ → ℤ) → ℕ → ℕ → ℤ
sum_edges φ signs n zero = pos 0
sum_edges φ signs n (suc m) = (signs m *ℤ φ m (next n m)) +ℤ sum_edges φ signs n m

-- the sign of an edge that has begun before event k is 1 or -1, and 0 that of an edge to come
pub record AreSigns (ranks : List ℕ) (k : ℕ) (signs : ℕ → ℤ) : Type 0 where
  pub begun : (e : ℕ) → e < length ranks → first_rank ranks e < k → (signs e ≡ pos 1) ⊎ (signs e ≡ negsuc 0)
  pub to_come : (e : ℕ) → e < length ranks → k ≤ first_rank ranks e → signs e ≡ pos 0

-- the triangles and the open regions have the sides of the edges that have begun, in one direction or the other
pub record AreBalanced (ranks : List ℕ) (k : ℕ) (gaps : List Gap) (tris : List Tri) : Type 0 where
  pub signs : ℕ → ℤ
  pub are_signs : AreSigns ranks k signs
  pub balance : (φ : ℕ → ℕ → ℤ) → IsOdd φ → sum_sides φ tris +ℤ sum_gaps φ gaps ≡ sum_edges φ signs (length ranks) (length ranks)
