-- What a tree answers: for each vertex what comes before it on its path from the source. This project's own, after Guibas and others 1987.
use Rattle.std.specs.Prelude.{◌≡◌, ◌≢◌, ℕ, ◌<◌, List, length, slice_index_or}
use Rattle.plane.specs.Point.{Point}
use Rattle.rings.specs.From.{IsPredecessor}
use Rattle.rings.specs.Ring.{vertex}
use Rattle.geo_reply.specs.declared.reply.Before.{Before}
use Rattle.geo_reply.specs.declared.reply.Before.TheVariants as before

-- vertex j is at x, and no other vertex is
pub record IsNumber (ring : List Point) (x : Point) (j : ℕ) : Type 0 where
  pub in_ring : j < length ring
  pub at : vertex ring j ≡ x
  pub only : (k : ℕ) → k < length ring → vertex ring k ≡ x → k ≡ j

-- another vertex than one at s comes before a vertex, and has this number
pub record IsVertexBefore (ring : List Point) (s vertex : Point) (j : ℕ) : Type 0 where
  pub x : Point
  pub before : IsPredecessor ring s vertex x
  pub not_source : x ≢ s
  pub number : IsNumber ring x j

-- nothing comes before a vertex that is at s, or s does on its path from s, or another vertex
abbrev pub IsFrom : List Point → Point → Point → Before → Type 0
IsFrom ring s vertex before.Nothing = vertex ≡ s
IsFrom ring s vertex before.Source = IsPredecessor ring s vertex s
IsFrom ring s vertex (before.Vertex j) = IsVertexBefore ring s vertex j

-- so it is for each vertex, in order
pub record AreFrom (ring : List Point) (s : Point) (befores : List Before) : Type 0 where
  pub one_each : length befores ≡ length ring
  pub each : (i : ℕ) → i < length ring → IsFrom ring s (vertex ring i) (slice_index_or befores i before.Nothing)
