-- Points that a path joins over a point. This project's own.
use Rattle.std.specs.Prelude.{◌≡◌, ◌≢◌, ◌⊎◌, ℕ, ◌+◌, ◌<◌, List, length}
use Rattle.plane.specs.Prelude.{On, Point, whole}
use Rattle.rings.specs.Prelude.{IsBend, IsPath, point_at}

-- v is strictly between p and q, or the way from p over v to q has a bend there
abbrev pub AreJoined : List Point → Point → Point → Point → Type 0
AreJoined ring v p q = ((v ≢ p) × (v ≢ q) × On (whole v) (whole p) (whole q)) ⊎ IsBend ring p v q

-- x is on the path from a to b
pub record IsOnPath (ring : List Point) (a b x : Point) : Type 0 where
  pub path : List Point
  pub is_path : IsPath ring a b path
  pub place : ℕ
  pub within : place + 1 < length path
  pub on : On (whole x) (whole (point_at path place)) (whole (point_at path (place + 1)))

-- the path from v to a goes to p first
pub record IsFirstStep (ring : List Point) (v a p : Point) : Type 0 where
  pub path : List Point
  pub is_path : IsPath ring v a path
  pub more : 1 < length path
  pub is_next : point_at path 1 ≡ p
