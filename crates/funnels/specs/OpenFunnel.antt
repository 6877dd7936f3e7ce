-- The funnel of a source at a diagonal of a triangulated ring, with what its points see and how the chains to them bend. Lee and
-- Preparata 1984.
use Rattle.std.specs.Prelude.{◌≡◌, ◌⊎◌, ℕ, zero, suc, ◌+◌, ◌-◌, ◌<◌, Bool, true, false, pos, ◌<ℤ◌, List, [], ◌∷◌, ◌++◌, length}
use Rattle.plane.specs.Prelude.{IsPoint, On, Point, Triple, whole}
use Rattle.rings.specs.Prelude.{IsBend, IsBentChain, point_at, Sees, vertex}
use Rattle.funnels.specs.Fanned.{IsFanned, turning}
use Rattle.funnels.specs.Funnel.{IsFunnel, IsFunnelEdge, IsInWindow}

-- q is the last of some points
abbrev pub IsLastOf : List Point → Point → Type 0
IsLastOf points q = (front : List Point) × (points ≡ front ++ q ∷ [])

-- x comes before the first point of a funnel on the way from the source
abbrev pub IsBeforeFirst : List Point → List Point → ℕ → Point → Type 0
IsBeforeFirst before ns a x = ((0 < a) × (x ≡ point_at ns 1)) ⊎ ((a ≡ 0) × IsLastOf before x)

-- before the last point
abbrev pub IsBeforeLast : List Point → List Point → ℕ → Point → Type 0
IsBeforeLast before ns a x = ((a + 1 < length ns) × (x ≡ point_at ns (length ns - 2))) ⊎ ((a + 1 ≡ length ns) × IsLastOf before x)

-- on the way from q over the apex to the funnel's other points the chain turns to the left, and there is an edge on the right; or
-- it turns to the right, and there is one on the left
abbrev pub IsApexSide : List Point → ℕ → Point → Bool → Type 0
IsApexSide ns a q true = (a + 1 < length ns)
    × (turning true (point_at ns a) (whole q) (whole (point_at ns (a + 1))) <ℤ pos 0)
    × (0 < a → turning true (point_at ns a) (whole q) (whole (point_at ns (a - 1))) <ℤ pos 0)
IsApexSide ns a q false = (0 < a)
    × (turning false (point_at ns a) (whole q) (whole (point_at ns (a - 1))) <ℤ pos 0)
    × (a + 1 < length ns → turning false (point_at ns a) (whole q) (whole (point_at ns (a + 1))) <ℤ pos 0)

-- what is at so many places, from place a on to the left, or to the right
abbrev pub leftward : {A : Type 0} → (ℕ → A) → ℕ → ℕ → List A
leftward at a zero = []
leftward at a (suc c) = at a ∷ leftward at (a - 1) c

abbrev pub rightward : {A : Type 0} → (ℕ → A) → ℕ → ℕ → List A
rightward at a zero = []
rightward at a (suc c) = at a ∷ rightward at (a + 1) c

-- the points that the way from the apex leaves behind: so many from the apex on
abbrev pub left_behind : List Point → ℕ → ℕ → List Point
left_behind ns a c = leftward (point_at ns) a c

abbrev pub right_behind : List Point → ℕ → ℕ → List Point
right_behind ns a c = rightward (point_at ns) a c

-- what the points of the funnel see: each sees what is in its window on the diagonal from l to r, and its edges lie in the ring
pub record IsOpenSight (ring ns : List Point) (a : ℕ) (l r : Point) : Type 0 where
  pub window : (h : ℕ) → h < length ns → (x : Triple) → IsPoint x → On x (whole l) (whole r) → IsInWindow ns a h x
      → Sees ring (whole (point_at ns h)) x
  pub edge : (e : ℕ) (u w : Point) → 0 < e → e < length ns → IsFunnelEdge ns a e u w → Sees ring (whole u) (whole w)

-- how the chains from the source bend on the way to its points; `before` are the points before the apex
pub record IsBentFunnel (ring before ns : List Point) (a : ℕ) : Type 0 where
  pub chain : IsBentChain ring (before ++ point_at ns a ∷ [])
  pub left_bends : (h : ℕ) → 0 < h → h < a → IsBend ring (point_at ns (h + 1)) (point_at ns h) (point_at ns (h - 1))
  pub right_bends : (h : ℕ) → a < h → h + 1 < length ns → IsBend ring (point_at ns (h - 1)) (point_at ns h) (point_at ns (h + 1))
  pub apex_left : (q : Point) → IsLastOf before q → 0 < a → IsBend ring q (point_at ns a) (point_at ns (a - 1))
  pub apex_right : (q : Point) → IsLastOf before q → a + 1 < length ns → IsBend ring q (point_at ns a) (point_at ns (a + 1))
  pub apex_side : (q : Point) → IsLastOf before q → (side : Bool) × IsApexSide ns a q side

-- at both ends the ring is open from the point before to the other end
pub record HasOpenEnds (ring before ns : List Point) (a : ℕ) (l r : Point) : Type 0 where
  pub left : (x : Point) → IsBeforeFirst before ns a x → IsFanned true ring l (whole x) (whole r)
  pub right : (x : Point) → IsBeforeLast before ns a x → IsFanned false ring r (whole x) (whole l)
  pub short_left : a ≡ 0 → length ns ≡ 2
  pub short_right : a + 1 ≡ length ns → length ns ≡ 2

-- the funnel at the diagonal from vertex i, on the left, to vertex j
pub record IsOpenFunnel (ring before ns : List Point) (a i j : ℕ) : Type 0 where
  pub funnel : IsFunnel ns a (vertex ring i) (vertex ring j)
  pub sight : IsOpenSight ring ns a (vertex ring i) (vertex ring j)
  pub bent : IsBentFunnel ring before ns a
  pub ends : HasOpenEnds ring before ns a (vertex ring i) (vertex ring j)
