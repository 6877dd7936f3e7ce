-- Points and edges in the box and the slab of a cover. This project's own. No public clause cites this module.
use Rattle.std.specs.Prelude.{◌⊎◌, ℕ, ◌+◌, List, ℤ, pos, ◌+ℤ◌, ◌-ℤ◌, ◌*ℤ◌, ◌<ℤ◌, ◌≤ℤ◌}
use Rattle.plane.specs.Point.{IsInBounds, Point, whole}
use Rattle.plane.specs.Segment.{Meet}
use Rattle.rings.specs.Ring.{vertex}
use Rattle.exact_plane.specs.Boxes.{Encloses}
use Rattle.edge_index.specs.Probes.{IsProbe}
use Rattle.edge_index.specs.Slabs.{IsInSlab}
use Rattle.edge_index.specs.declared.cover.Cover.{Cover}
use Rattle.edge_index.specs.declared.place.Probe.{Probe}

-- the point is within the limits, and in both
pub record IsInCover (cover : Cover) (p : Point) : Type 0 where
  pub in_bounds : IsInBounds p
  pub in_box : Encloses cover.bounds p
  pub in_slab : IsInSlab cover.slab p

-- both ends of edge e are
pub record CoversEdge (ring : List Point) (cover : Cover) (e : ℕ) : Type 0 where
  pub from : IsInCover cover (vertex ring e)
  pub to : IsInCover cover (vertex ring (e + 1))

-- the segment from p to q meets no segment of two points in the cover
abbrev pub IsApart : Point → Point → Cover → Type 0
IsApart p q cover = (a b : Point) → IsInCover cover a → IsInCover cover b → ¬ Meet (whole p) (whole q) (whole a) (whole b)

-- so it is with an edge by its ends
abbrev pub AreDisjoint : Cover → Probe → Type 0
AreDisjoint cover edge = (p q : Point) → IsProbe edge p q → IsApart p q cover

-- of a number t and another h: where one is a coordinate of a point and one its offset, this is how far the point is to a side of a line
abbrev pub side_from_line : ℤ → ℤ → ℤ → ℤ → ℤ → ℤ
side_from_line slope by line t h = slope *ℤ t -ℤ by *ℤ h +ℤ line

-- that has one sign, and is not zero, for all numbers from low to high and from least to greatest
abbrev pub KeepSide : ℤ → ℤ → ℤ → ℤ → ℤ → ℤ → ℤ → Type 0
KeepSide slope by line low high least greatest =
    ((t h : ℤ) → low ≤ℤ t → t ≤ℤ high → least ≤ℤ h → h ≤ℤ greatest → pos 0 <ℤ side_from_line slope by line t h)
    ⊎ ((t h : ℤ) → low ≤ℤ t → t ≤ℤ high → least ≤ℤ h → h ≤ℤ greatest → side_from_line slope by line t h <ℤ pos 0)
