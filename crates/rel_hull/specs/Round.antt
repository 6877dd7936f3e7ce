-- The sides of a relative hull as one closed round. This project's own, after Toussaint 1986.
use Rattle.std.specs.Prelude.{◌≡◌, ◌≢◌, ◌↔◌, ℕ, ◌<◌, ◌≤◌, List, [], length, slice_index}
use Rattle.plane.specs.Point.{Point}
use Rattle.rings.specs.Simple.{IsSimple}
use Rattle.hulls.specs.Inner.{AreAllIn, AreDistinct}
use Rattle.hulls.specs.Round.{Follows}
use Rattle.rel_hull.specs.Hull.{IsSide}

-- point s starts a side
abbrev pub StartsSide : List Point → List Point → ℕ → Type 0
StartsSide ring points s = (t : ℕ) × IsSide ring points s t

-- a list of different numbers that begins with the least that starts a side; the sides are exactly the pairs that follow each other in it,
-- read round
pub record IsClosedRound (ring points : List Point) (round : List ℕ) : Type 0 where
  pub distinct : (i j : ℕ) → i < j → j < length round → slice_index round i ≢ slice_index round j
  pub sides : (s t : ℕ) → IsSide ring points s t ↔ Follows round s t
  pub starts : StartsSide ring points (slice_index round 0)
  pub least : (s : ℕ) → StartsSide ring points s → slice_index round 0 ≤ s

-- the round of some points: of one point there is none
pub record IsRound (ring points : List Point) (round : List ℕ) : Type 0 where
  pub alone : length points ≡ 1 → round ≡ []
  pub closed : 2 ≤ length points → IsClosedRound ring points round

-- points of a simple ring have just one round
abbrev pub OneRoundLaw : Type 0
OneRoundLaw = (ring : List Point) → 3 ≤ length ring → IsSimple ring → (points : List Point) → 1 ≤ length points → AreDistinct points
    → AreAllIn ring points → ((round : List ℕ) × IsRound ring points round)
    × ((one other : List ℕ) → IsRound ring points one → IsRound ring points other → one ≡ other)
