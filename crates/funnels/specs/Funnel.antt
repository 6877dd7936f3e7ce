-- Funnels: two convex chains from an apex to the ends of a diagonal. Lee and Preparata 1984.
use Rattle.std.specs.Prelude.{◌≡◌, ◌⊎◌, List, length, ℕ, ◌+◌, ◌-◌, ◌<◌, ◌≤◌}
use Rattle.plane.specs.Prelude.{IsLeft, IsRight, Point, Triple, whole}
use Rattle.rings.specs.Chain.{point_at}

-- the extension of the edge from u to w meets the diagonal from l, on the left, to r
pub record Reaches (u w l r : Point) : Type 0 where
  pub not_right : ¬ IsRight (whole u) (whole w) (whole l)
  pub not_left : ¬ IsLeft (whole u) (whole w) (whole r)

-- edge j of a funnel, for 0 < j < length ns, goes from u to w, away from the apex at place a
abbrev pub IsFunnelEdge : List Point → ℕ → ℕ → Point → Point → Type 0
IsFunnelEdge ns a j u w =
    ((j ≤ a) × (u ≡ point_at ns j) × (w ≡ point_at ns (j - 1))) ⊎ ((a < j) × (u ≡ point_at ns (j - 1)) × (w ≡ point_at ns j))

-- two convex chains from an apex, at place a, to the ends of the diagonal from l, on the left, to r
pub record IsFunnel (ns : List Point) (a : ℕ) (l r : Point) : Type 0 where
  pub apex_within : a < length ns
  pub first : point_at ns 0 ≡ l
  pub last : point_at ns (length ns - 1) ≡ r
  pub ends_differ : ¬ (l ≡ r)
  pub differ : (i : ℕ) → i + 1 < length ns → ¬ (point_at ns i ≡ point_at ns (i + 1))
  pub left_turns : (i : ℕ) → 0 < i → i < a → IsLeft (whole (point_at ns (i + 1))) (whole (point_at ns i)) (whole (point_at ns (i - 1)))
  pub right_turns : (i : ℕ) → a < i → i + 1 < length ns
      → IsRight (whole (point_at ns (i - 1))) (whole (point_at ns i)) (whole (point_at ns (i + 1)))
  pub opening : 0 < a → a + 1 < length ns → ¬ IsLeft (whole (point_at ns a)) (whole (point_at ns (a - 1))) (whole (point_at ns (a + 1)))
  pub reaches : (j : ℕ) (u w : Point) → 0 < j → j < length ns → IsFunnelEdge ns a j u w → Reaches u w l r

-- x is in the window of the point at place i: not left of edge i, not right of edge i + 1, where there are such edges
pub record IsInWindow (ns : List Point) (a i : ℕ) (x : Triple) : Type 0 where
  pub not_left : (u w : Point) → 0 < i → IsFunnelEdge ns a i u w → ¬ IsLeft (whole u) (whole w) x
  pub not_right : (u w : Point) → i + 1 < length ns → IsFunnelEdge ns a (i + 1) u w → ¬ IsRight (whole u) (whole w) x

-- the way to y passes edge j: y is not left of a left edge, or right of a right edge
abbrev pub IsPassed : List Point → ℕ → ℕ → Triple → Type 0
IsPassed ns a j y =
    ((j ≤ a) × (¬ IsLeft (whole (point_at ns j)) (whole (point_at ns (j - 1))) y))
    ⊎ ((a < j) × IsRight (whole (point_at ns (j - 1))) (whole (point_at ns j)) y)

-- the way to y comes from the point at place h: it passes the edge before that place and not the one after it
pub record IsReachedFrom (ns : List Point) (a h : ℕ) (y : Triple) : Type 0 where
  pub within : h < length ns
  pub passed : 0 < h → IsPassed ns a h y
  pub not_passed : h + 1 < length ns → ¬ IsPassed ns a (h + 1) y
