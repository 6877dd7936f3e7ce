-- What lies between two edges that the sweep line meets: one open region, or two that a merge vertex parts. No public clause
-- cites this module.
use Rattle.std.specs.Prelude.{ℕ, ◌-◌, Option, Some, None, List, [], ◌∷◌, length, slice_index_or}
use Rattle.plane.specs.Point.{Point}
use Rattle.rings.specs.Edge.{Edge, edge}
use Rattle.rings.specs.Ring.{vertex}
use Rattle.sweep_tri.specs.Region.{Chains}
use Rattle.sweep_tri.specs.declared.gap.Gap.{Gap}

-- the last item of a list, and the one before it
abbrev pub last : List ℕ → ℕ
last path = slice_index_or path (length path - 1) 0

abbrev pub before_last : List ℕ → ℕ
before_last path = slice_index_or path (length path - 2) 0

-- the edge at the end of a chain, by the numbers of its ends
pub record Front : Type 0 where
  pub from : ℕ
  pub to : ℕ

abbrev pub front_of : List ℕ → Front
front_of path = record { from = before_last path; to = last path }

-- as an edge
abbrev pub front_edge : List Point → Front → Edge
front_edge corners f = edge (vertex corners f.from) (vertex corners f.to)

-- the region of a gap that reaches up to its upper edge
abbrev pub highest : Chains → Option Chains → Chains
highest low None = low
highest low (Some high) = high

-- the edges below and above a gap
abbrev pub low_front : Gap → Front
low_front g = front_of g.low.lower

abbrev pub up_front : Gap → Front
up_front g = front_of (highest g.low g.high).upper

-- all edges that the sweep line meets, upward
abbrev pub fronts : List Gap → List Front
fronts [] = []
fronts (g ∷ gs) = low_front g ∷ up_front g ∷ fronts gs

-- a gap with nothing in it, where a list ends
abbrev pub no_gap : Gap
no_gap = record { low = record { lower = []; upper = [] }; high = None }

-- the gap at a place
abbrev pub gap_at : List Gap → ℕ → Gap
gap_at gaps j = slice_index_or gaps j no_gap
