-- The laws of simple rings, as statements. As in the textbooks.
use Rattle.std.specs.Prelude.{◌↔◌, ℕ, ◌<◌, ◌≤◌, List, length}
use Rattle.plane.specs.Point.{IsPoint, Point, Triple}
use Rattle.rings.specs.Kernel.{IsInKernel, IsRightOfNoEdge}
use Rattle.rings.specs.Prelude.{IsCounterclockwise, IsSimple, vertex}
use Rattle.rings.specs.Winding.{IsLeastVertex, RunsAsItTurns}
use Rattle.ring_laws.specs.CutRule.{IsCutAt}
use Rattle.ring_laws.specs.Diagonal.{IsDiagonal}
use Rattle.ring_laws.specs.Pieces.{IsCutInTwo, first_piece, second_piece}

-- a simple ring runs once round: counterclockwise where it turns left at its least vertex, else it turns right there and runs
-- clockwise
abbrev pub SimpleRingLaw : Type 0
SimpleRingLaw = (ring : List Point) → 3 ≤ length ring → IsSimple ring → (i : ℕ) → i < length ring → IsLeastVertex ring i
    → RunsAsItTurns ring i

-- at its least vertex each simple ring has a cut,
abbrev pub SomeCutLaw : Type 0
SomeCutLaw = (ring : List Point) → 3 ≤ length ring → IsSimple ring → (i : ℕ) → i < length ring → IsLeastVertex ring i
    → (a : Point) × (b : Point) × IsCutAt ring i a b

-- and each cut there is a diagonal, where there are more than three vertices
abbrev pub CutRuleLaw : Type 0
CutRuleLaw = (ring : List Point) → 3 < length ring → IsSimple ring → (i : ℕ) → i < length ring → IsLeastVertex ring i
    → (a b : Point) → IsCutAt ring i a b → IsDiagonal ring a b

-- a diagonal cuts a simple ring into two simple pieces, which together are the ring and share only points of the diagonal
abbrev pub CutLaw : Type 0
CutLaw = (ring : List Point) → 3 ≤ length ring → IsSimple ring → (i j : ℕ) → i < j → j < length ring
    → IsDiagonal ring (vertex ring i) (vertex ring j)
    → IsCutInTwo ring (first_piece ring i j) (second_piece ring i j) (vertex ring i) (vertex ring j)

-- a rational point sees all of a simple ring that runs counterclockwise exactly if it is right of no edge. Lee and Preparata 1979
abbrev pub KernelLaw : Type 0
KernelLaw = (ring : List Point) → 3 ≤ length ring → IsSimple ring → IsCounterclockwise ring → (p : Triple) → IsPoint p
    → IsInKernel ring p ↔ IsRightOfNoEdge ring p
