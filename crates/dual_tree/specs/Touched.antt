-- What a call appends that gives a chain with all vertices that it touches. This project's own.
use Rattle.std.specs.Prelude.{◌≡◌, List, ◌++◌}
use Rattle.plane.specs.Point.{Point}
use Rattle.rings.specs.Full.{IsFull}

-- the new list is the old one and then the chain with all vertices of the ring that it touches
pub record AppendsFull (ring chain old new : List Point) : Type 0 where
  pub full : List Point
  pub is_full : IsFull ring chain full
  pub appended : new ≡ old ++ full
