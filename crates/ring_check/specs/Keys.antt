-- The keys by which the vertices of a ring are sorted. No public clause cites this module.
use Rattle.std.specs.Prelude.{◌≡◌, ℕ, ℤ, ◌+◌, ◌*◌, ◌+ℤ◌, ◌<◌, ◌%◌, List, length, pos, slice_index_or, unsigned_abs}
use Rattle.plane.specs.Point.{IsInBounds, Point}
use Rattle.rings.specs.Ring.{vertex}

-- a coordinate as a number of 24 bits
abbrev pub raised : ℤ → ℕ
raised z = unsigned_abs (z +ℤ pos 8388608)

-- the key of vertex v: its x, its y and v
abbrev pub key_of : List Point → ℕ → ℕ
key_of ring v = (raised (vertex ring v).x * 16777216 + raised (vertex ring v).y) * 65536 + v

-- the vertex of a key
abbrev pub keyed_number : ℕ → ℕ
keyed_number key = key % 65536

-- the keys of the first vertices, `count` of them
pub record AreKeys (ring : List Point) (count : ℕ) (keys : List ℕ) : Type 0 where
  pub all : length keys ≡ count
  pub each : (v d : ℕ) → v < count → slice_index_or keys v d ≡ key_of ring v
  pub bounds : (v : ℕ) → v < count → IsInBounds (vertex ring v)
