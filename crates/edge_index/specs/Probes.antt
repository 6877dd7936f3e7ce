-- Edges by the coordinates of their ends. This project's own. Of these a public clause cites `IsProbe` alone.
use Rattle.std.specs.Prelude.{◌≡◌, ℕ, ◌+◌, List, ℤ, ◌-ℤ◌, ◌*ℤ◌}
use Rattle.plane.specs.Point.{IsInBounds, Point}
use Rattle.rings.specs.Ring.{vertex}
use Rattle.exact_plane.specs.Boxes.{Encloses}
use Rattle.exact_plane.specs.declared.bounding_box.BoundingBox.{BoundingBox}
use Rattle.edge_index.specs.declared.place.Place.{Place}
use Rattle.edge_index.specs.declared.place.Probe.{Probe}

-- the point at a place
abbrev pub at : Place → Point
at place = record { x = place.x; y = place.y }

-- how far right of a way through the origin a place is, where the way goes so far across and upward
abbrev pub offset : ℤ → ℤ → ℤ → ℤ → ℤ
offset across up x y = up *ℤ x -ℤ across *ℤ y

-- the ends are these points, in the box and on the line
pub record IsProbe (probe : Probe) (p q : Point) : Type 0 where
  pub from : at probe.from ≡ p
  pub to : at probe.to ≡ q
  pub from_in_box : Encloses probe.bounds p
  pub to_in_box : Encloses probe.bounds q
  pub from_on_line : offset probe.way.across probe.way.up p.x p.y ≡ probe.here
  pub to_on_line : offset probe.way.across probe.way.up q.x q.y ≡ probe.here

-- both ends of edge e are within the limits and in the box
pub record EnclosesEdge (ring : List Point) (box : BoundingBox) (e : ℕ) : Type 0 where
  pub from_bounds : IsInBounds (vertex ring e)
  pub to_bounds : IsInBounds (vertex ring (e + 1))
  pub from : Encloses box (vertex ring e)
  pub to : Encloses box (vertex ring (e + 1))
