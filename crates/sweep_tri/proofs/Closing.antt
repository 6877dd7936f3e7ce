-- The regions that an event closes, and those that stay open: what is known of each, and how they are filled.
use Rattle.std.proofs.Common.{◌≡◌, ℕ, zero, suc, Option, Some, List, [], ◌∷◌, ◌++◌, refl, subst, arith}
use Rattle.std.specs.List.{All}
use Rattle.plane.specs.Point.{Point}
use Rattle.meshes.specs.declared.tri.Tri.{Tri}
use Rattle.mono_fill.specs.Filled.{IsFilled}
use Rattle.sweep_tri.proofs.Balance.{filled-append}
use Rattle.sweep_tri.specs.Meeting.{AreFilled, at_edge, closed_at, with_vertex}
use Rattle.mono_fill.specs.Sides.{other_chain_side}
use Rattle.mono_fill.specs.declared.side.Side.{Side}
use Rattle.sweep_tri.specs.Region.{Chains, boundary}

-- of a list of one
only_one : (P : Chains → Type 0) (c : Chains) → All P (c ∷ []) → P c
only_one P c all = all 0 c (omega arith)

-- of two regions the one at the edge that ends
pub closed_one : (P : Chains → Type 0) (side : Side) (low : Chains) (high : Option Chains) (h : Chains) (v : ℕ) → high ≡ Some h
    → All P (closed_at side low high v) → P (with_vertex (other_chain_side side) (at_edge side low h) v)
closed_one P side low high h v is all = only_one P _ (subst (λ o. All P (closed_at side low o v)) is all)

-- of the first regions, and of the last
pub all_but_last : (P : Chains → Type 0) (cs : List Chains) (c : Chains) → All P (cs ++ c ∷ []) → All P cs
all_but_last P [] c all k d h = absurd (omega (arith, h))
all_but_last P (b ∷ cs) c all zero d h = all 0 d (omega arith)
all_but_last P (b ∷ cs) c all (suc k) d h = all_but_last P cs c (λ i e less. all (suc i) e (omega (arith, less))) k d (omega (arith, h))

pub of_last : (P : Chains → Type 0) (cs : List Chains) (c : Chains) → All P (cs ++ c ∷ []) → P c
of_last P [] c all = only_one P c all
of_last P (b ∷ cs) c all = of_last P cs c (λ i e less. all (suc i) e (omega (arith, less)))

-- ---- the triangles

-- a region after those of a list
pub filled_last : (corners : List Point) (cs : List Chains) (c : Chains) (old between new : List Tri)
    → AreFilled corners cs old between → IsFilled corners (boundary c) between new → AreFilled corners (cs ++ c ∷ []) old new
filled_last corners cs c old between new first last = filled-append corners cs (c ∷ []) old between new first (new, last, refl)
