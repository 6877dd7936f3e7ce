-- The verdict on a list of points as a bent chain: the least place at which a rule is broken, and the first broken rule
-- there. This project's own.
use Rattle.std.specs.Prelude.{◌≡◌, ◌⊎◌, ℕ, ◌+◌, ◌-◌, ◌<◌, List, [], length}
use Rattle.plane.specs.Cone.{IsInCone}
use Rattle.plane.specs.Point.{Point, whole}
use Rattle.plane.specs.Turn.{IsStraight}
use Rattle.rings.specs.Bend.{AreNeighbours, IsReflexVertex}
use Rattle.rings.specs.Chain.{IsInner, point_at}
use Rattle.rings.specs.Inside.{IsIn}
use Rattle.rings.specs.Sees.{Sees}
use Rattle.taut_check.specs.declared.verdict.Verdict.{Verdict}
use Rattle.taut_check.specs.declared.verdict.Verdict.TheVariants as verdict

-- the point at place k is the same as the next
pub record IsRepeat (points : List Point) (k : ℕ) : Type 0 where
  pub not_last : k + 1 < length points
  pub same : point_at points k ≡ point_at points (k + 1)

-- the point at place k doesn't see the next
pub record IsNextUnseen (ring : List Point) (points : List Point) (k : ℕ) : Type 0 where
  pub not_last : k + 1 < length points
  pub unseen : ¬ Sees ring (whole (point_at points k)) (whole (point_at points (k + 1)))

-- the point at place k isn't in the ring, or doesn't see the next
abbrev pub IsLeaving : List Point → List Point → ℕ → Type 0
IsLeaving ring points k = (¬ IsIn ring (whole (point_at points k))) ⊎ IsNextUnseen ring points k

-- an inner point is no reflex vertex
pub record IsNotReflex (ring : List Point) (points : List Point) (k : ℕ) : Type 0 where
  pub inner : IsInner points k
  pub not_reflex : ¬ IsReflexVertex ring (point_at points k)

-- an inner point is on one line with the points beside it
pub record HasNoTurn (points : List Point) (k : ℕ) : Type 0 where
  pub inner : IsInner points k
  pub straight : IsStraight (whole (point_at points k)) (whole (point_at points (k - 1))) (whole (point_at points (k + 1)))

-- a ring neighbour of an inner point is outside the closed cone there between the rays to the points beside it
pub record IsOnWrongSide (ring : List Point) (points : List Point) (k : ℕ) : Type 0 where
  pub inner : IsInner points k
  pub neighbour : Point
  pub beside : AreNeighbours ring (point_at points k) neighbour
  pub outside : ¬ IsInCone (whole (point_at points k)) (whole (point_at points (k - 1))) (whole (point_at points (k + 1))) (whole neighbour)

-- some rule is broken at place k
abbrev pub IsBroken : List Point → List Point → ℕ → Type 0
IsBroken ring points k =
    IsRepeat points k ⊎ IsLeaving ring points k ⊎ IsNotReflex ring points k ⊎ HasNoTurn points k ⊎ IsOnWrongSide ring points k

-- some rule is broken at place k, and none at a lesser place
pub record IsLeastBroken (ring : List Point) (points : List Point) (k : ℕ) : Type 0 where
  pub in_list : k < length points
  pub broken : IsBroken ring points k
  pub least : (l : ℕ) → l < k → ¬ IsBroken ring points l

-- some point, and no rule is broken at any
pub record IsUnbroken (ring : List Point) (points : List Point) : Type 0 where
  pub some : 0 < length points
  pub none : (k : ℕ) → k < length points → ¬ IsBroken ring points k

-- at place k this is the first broken rule, in the order of `Verdict`
abbrev pub IsFirstRule : List Point → List Point → Verdict → Type 0
IsFirstRule ring points verdict.Empty = ⊥
IsFirstRule ring points verdict.Taut = ⊥
IsFirstRule ring points (verdict.Repeat k) = IsRepeat points k
IsFirstRule ring points (verdict.Leaves k) = (¬ IsRepeat points k) × IsLeaving ring points k
IsFirstRule ring points (verdict.NotReflex k) = (¬ IsRepeat points k) × (¬ IsLeaving ring points k) × IsNotReflex ring points k
IsFirstRule ring points (verdict.Straight k) =
    (¬ IsRepeat points k) × (¬ IsLeaving ring points k) × (¬ IsNotReflex ring points k) × HasNoTurn points k
IsFirstRule ring points (verdict.WrongSide k) =
    (¬ IsRepeat points k) × (¬ IsLeaving ring points k) × (¬ IsNotReflex ring points k) × (¬ HasNoTurn points k) × IsOnWrongSide ring points k

-- the verdict on a list
abbrev pub IsVerdict : List Point → List Point → Verdict → Type 0
IsVerdict ring points verdict.Empty = points ≡ []
IsVerdict ring points verdict.Taut = IsUnbroken ring points
IsVerdict ring points (verdict.Repeat k) = IsLeastBroken ring points k × IsFirstRule ring points (verdict.Repeat k)
IsVerdict ring points (verdict.Leaves k) = IsLeastBroken ring points k × IsFirstRule ring points (verdict.Leaves k)
IsVerdict ring points (verdict.NotReflex k) = IsLeastBroken ring points k × IsFirstRule ring points (verdict.NotReflex k)
IsVerdict ring points (verdict.Straight k) = IsLeastBroken ring points k × IsFirstRule ring points (verdict.Straight k)
IsVerdict ring points (verdict.WrongSide k) = IsLeastBroken ring points k × IsFirstRule ring points (verdict.WrongSide k)
