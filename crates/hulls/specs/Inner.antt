-- Points on paths between others, and pairs of points that all others are to the left of. This project's own, after Toussaint 1986.
use Rattle.std.specs.Prelude.{◌≢◌, ℕ, ◌<◌, List, length}
use Rattle.plane.specs.Point.{Point, whole}
use Rattle.rings.specs.Prelude.{IsIn, point_at}
use Rattle.hulls.specs.Joined.{IsOnPath}
use Rattle.hulls.specs.Turning.{IsToLeft}

-- each point is in the list once
abbrev pub AreDistinct : List Point → Type 0
AreDistinct points = (i j : ℕ) → i < j → j < length points → point_at points i ≢ point_at points j

-- each point is in the ring
abbrev pub AreAllIn : List Point → List Point → Type 0
AreAllIn ring points = (k : ℕ) → k < length points → IsIn ring (whole (point_at points k))

-- point s of the points is inner: it is on the path between two of the others
pub record IsInnerPoint (ring points : List Point) (s : ℕ) : Type 0 where
  pub a : ℕ
  pub b : ℕ
  pub a_in_list : a < length points
  pub b_in_list : b < length points
  pub different : a ≢ b
  pub not_a : a ≢ s
  pub not_b : b ≢ s
  pub passes : IsOnPath ring (point_at points a) (point_at points b) (point_at points s)

-- points s and t aren't inner, and seen from s all others that aren't are to the left of t
pub record IsOuterPair (ring points : List Point) (s t : ℕ) : Type 0 where
  pub s_in_list : s < length points
  pub t_in_list : t < length points
  pub different : s ≢ t
  pub s_outer : ¬ IsInnerPoint ring points s
  pub t_outer : ¬ IsInnerPoint ring points t
  pub left : (u : ℕ) → u < length points → u ≢ s → u ≢ t → ¬ IsInnerPoint ring points u
      → IsToLeft ring (point_at points s) (point_at points t) (point_at points u)
