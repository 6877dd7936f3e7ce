-- Directed edges, and lists of them. This project's own.
use Rattle.std.specs.Prelude.{◌≡◌, ◌⊎◌, ℤ, pos, ◌+ℤ◌, ◌-ℤ◌, List, [], ◌∷◌}
use Rattle.plane.specs.Prelude.{On, Point, Triple, whole}

pub record Edge : Type 0 where
  pub from : Point
  pub to : Point

-- the edges from v along some points and on to the last one
abbrev pub edges_along : Point → List Point → Point → List Edge
edges_along v [] last = record { from = v; to = last } ∷ []
edges_along v (w ∷ ws) last = record { from = v; to = w } ∷ edges_along w ws last

-- the edges of a ring: from each vertex to the next, and from the last back to the first
abbrev pub edges_of : List Point → List Edge
edges_of [] = []
edges_of (v ∷ vs) = edges_along v vs v

-- the edge from one point to another
abbrev pub edge : Point → Point → Edge
edge p q = record { from = p; to = q }

-- x is one of the items
abbrev pub Has : {A : Type 0} → List A → A → Type 0
Has [] x = ⊥
Has (y ∷ ys) x = (y ≡ x) ⊎ Has ys x

-- e is one of the edges
abbrev pub HasEdge : List Edge → Edge → Type 0
HasEdge es e = Has es e

-- v is an end of the edge
abbrev pub HasEnd : Edge → Point → Type 0
HasEnd e v = (e.from ≡ v) ⊎ (e.to ≡ v)

-- the rational point x is on the edge
abbrev pub IsOn : Edge → Triple → Type 0
IsOn e x = On x (whole e.from) (whole e.to)

-- the rational point is on some edge of the list
abbrev pub IsOnSome : List Edge → Triple → Type 0
IsOnSome [] p = ⊥
IsOnSome (e ∷ es) p = On p (whole e.from) (whole e.to) ⊎ IsOnSome es p

-- how much a function of points grows along the edges, in all
abbrev pub growth : (Point → ℤ) → List Edge → ℤ
growth g [] = pos 0
growth g (e ∷ es) = (g e.to -ℤ g e.from) +ℤ growth g es

-- no function grows along a closed list of edges, as along those of a ring, or of several rings together
abbrev pub IsClosed : List Edge → Type 0
IsClosed es = (g : Point → ℤ) → growth g es ≡ pos 0
