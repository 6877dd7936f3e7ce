-- The laws of chains with bends and what they touch, as statements. This project's own.
use Rattle.std.specs.Prelude.{◌≡◌, ℕ, ◌<◌, ◌≤◌, List, length}
use Rattle.plane.specs.Point.{Point}
use Rattle.rings.specs.Chain.{IsBentChain, point_at}
use Rattle.rings.specs.Full.{IsFull}
use Rattle.rings.specs.Simple.{IsSimple}
use Rattle.dual_tree.specs.Straight.{without_straight}

-- in a simple ring, a chain with bends comes to no point twice
abbrev pub NoPointTwiceLaw : Type 0
NoPointTwiceLaw = (ring : List Point) → 3 ≤ length ring → IsSimple ring → (chain : List Point) → IsBentChain ring chain
    → (i j : ℕ) → i < j → j < length chain → ¬ (point_at chain i ≡ point_at chain j)

-- a chain with bends is had back from its list with all vertices that it touches
abbrev pub FullWithoutStraightLaw : Type 0
FullWithoutStraightLaw = (ring chain full : List Point) → IsBentChain ring chain → IsFull ring chain full → without_straight full ≡ chain
