-- Slabs: the points between two parallel lines. This project's own. No public clause cites this module.
use Rattle.std.specs.Prelude.{◌⊎◌, ℤ, ◌<ℤ◌, ◌≤ℤ◌}
use Rattle.plane.specs.Point.{Point}
use Rattle.edge_index.specs.Probes.{offset}
use Rattle.edge_index.specs.declared.slab.Slab.{Slab}

-- how far right of the way of the slab a point is
abbrev pub slab_offset : Slab → Point → ℤ
slab_offset slab p = offset slab.across slab.up p.x p.y

-- the point is on one of its lines or between them
pub record IsInSlab (slab : Slab) (p : Point) : Type 0 where
  pub from : slab.least ≤ℤ slab_offset slab p
  pub to : slab_offset slab p ≤ℤ slab.greatest

-- two points are beyond one of the lines
abbrev pub AreBeyond : Slab → Point → Point → Type 0
AreBeyond slab p q =
    ((slab_offset slab p <ℤ slab.least) × (slab_offset slab q <ℤ slab.least))
    ⊎ ((slab.greatest <ℤ slab_offset slab p) × (slab.greatest <ℤ slab_offset slab q))
