-- Laws of points that paths join over a point, and of how paths turn against each other, as statements. This project's own.
use Rattle.std.specs.Prelude.{◌↔◌, ◌≤◌, ◌≢◌, ◌⊎◌, ℕ, List, length}
use Rattle.plane.specs.Prelude.{IsLeft, IsRight, IsStraight, Point, whole}
use Rattle.rings.specs.Prelude.{IsIn, IsPath, IsSimple}
use Rattle.hulls.specs.Inner.{AreAllIn, AreDistinct, IsOuterPair}
use Rattle.hulls.specs.Joined.{AreJoined, IsFirstStep, IsOnPath}
use Rattle.hulls.specs.Steps.{SeesSteps}
use Rattle.hulls.specs.Turning.{AreFree, IsToLeft, IsToRight, StartsRight}

-- v is on the path from a to b exactly if the first steps from v to the two are joined over it
abbrev pub JoinedPathsLaw : Type 0
JoinedPathsLaw = (ring : List Point) → 3 ≤ length ring → IsSimple ring → (v a b p q : Point) → IsFirstStep ring v a p → IsFirstStep ring v b q
    → (AreJoined ring v p q ↔ IsOnPath ring a b v)

-- two points that are joined with o are not strictly on two sides of the line of o and v
abbrev pub OneSideLaw : Type 0
OneSideLaw = (ring : List Point) → IsSimple ring → 3 ≤ length ring → (v p q o : Point) → AreJoined ring v p o → AreJoined ring v q o
    → ¬ (IsLeft (whole v) (whole o) (whole p) × IsRight (whole v) (whole o) (whole q))

-- no three points are joined two by two
abbrev pub NoThreeJoinedLaw : Type 0
NoThreeJoinedLaw = (ring : List Point) → IsSimple ring → 3 ≤ length ring → (v p q o : Point) → AreJoined ring v p q → AreJoined ring v q o
    → ¬ AreJoined ring v o p

-- a point that is joined with neither of two that are, and is on no line with one of them, is on one side of the way over v between them
abbrev pub SameSideLaw : Type 0
SameSideLaw = (ring : List Point) (v u w n : Point) → AreJoined ring v u w → ¬ AreJoined ring v u n → ¬ AreJoined ring v w n
    → ¬ IsStraight (whole v) (whole u) (whole n) → ¬ IsStraight (whole v) (whole w) (whole n)
    → (IsLeft (whole u) (whole v) (whole n) ↔ IsLeft (whole v) (whole w) (whole n))
    × (IsRight (whole u) (whole v) (whole n) ↔ IsRight (whole v) (whole w) (whole n))

-- seen from a, c is to the left of b exactly if b is to the right of c, and never to both sides
abbrev pub ExchangeLaw : Type 0
ExchangeLaw = (ring : List Point) (a b c : Point) → (IsToLeft ring a b c ↔ IsToRight ring a c b) × (IsToLeft ring a b c → ¬ IsToRight ring a b c)

-- of a free triple in a simple ring, seen from one point, one of the others is to the left of the other
abbrev pub OneWayLaw : Type 0
OneWayLaw = (ring : List Point) → 3 ≤ length ring → IsSimple ring → (a b c : Point) (ab ac : List Point) → IsPath ring a b ab → IsPath ring a c ac
    → AreFree ring a b c → IsToLeft ring a b c ⊎ IsToRight ring a b c

-- seen from t, "to the left of" is one order of points to which the paths start along one ray or to the right of it
abbrev pub OrderLaw : Type 0
OrderLaw = (ring : List Point) → 3 ≤ length ring → IsSimple ring → (t e u v w : Point) → t ≢ e → StartsRight ring t e u → StartsRight ring t e v
    → StartsRight ring t e w → IsToLeft ring t u v → IsToLeft ring t v w → IsToLeft ring t u w

-- in a simple ring a free triple that turns left seen from a turns left seen from c
abbrev pub ThirdLaw : Type 0
ThirdLaw = (ring : List Point) → 3 ≤ length ring → IsSimple ring → (a b c : Point) → AreFree ring a b c
    → (ab ac : List Point) → IsPath ring a b ab → IsPath ring a c ac
    → (IsToLeft ring a b c → IsToLeft ring c a b) × (IsToRight ring a b c → IsToRight ring c a b)

-- in a simple ring there is a path between each two points
abbrev pub PathsLaw : Type 0
PathsLaw = (ring : List Point) → 3 ≤ length ring → IsSimple ring → (s t : Point) → IsIn ring (whole s) → IsIn ring (whole t)
    → (path : List Point) × IsPath ring s t path

-- seen from a point of a simple ring, each step past no vertex goes away, or towards it, or has the ends of the paths on one side
abbrev pub StepsLaw : Type 0
StepsLaw = (ring : List Point) → 3 ≤ length ring → IsSimple ring → (b : Point) → IsIn ring (whole b) → SeesSteps ring b

-- of two or more points of a simple ring some pair has all others to the left
abbrev pub OuterPairLaw : Type 0
OuterPairLaw = (ring : List Point) → 3 ≤ length ring → IsSimple ring → (points : List Point) → 2 ≤ length points → AreDistinct points → AreAllIn ring points
    → (s : ℕ) × (t : ℕ) × IsOuterPair ring points s t
