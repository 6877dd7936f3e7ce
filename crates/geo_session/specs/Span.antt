-- What is known of a hull while it is found. No public clause cites this module.
use Rattle.std.specs.List.{Contains}
use Rattle.std.specs.Prelude.{◌≡◌, ◌≢◌, ◌↔◌, ℕ, ◌+◌, ◌*◌, ◌/◌, ◌%◌, ◌<◌, ◌≤◌, List, [], ◌++◌, length, reverse, slice_index, slice_index_or}
use Rattle.std.specs.Prelude.{Result, Ok, Err, Vec}
use Rattle.std.specs.declared.alloc.Global.{Global}
use Rattle.plane.specs.Pairs.{pair_at}
use Rattle.plane.specs.Point.{Point, whole}
use Rattle.plane.specs.declared.limits.TheConstants.{MAX_CORNERS, MAX_HULL}
use Rattle.rings.specs.Chain.{IsPath, point_at}
use Rattle.meshes.specs.declared.tri.Tri.{Tri}
use Rattle.geo_text.specs.declared.command.Bad.{Bad}
use Rattle.geo_text.specs.declared.version.Version.{Version}
use Rattle.dual_tree.specs.Location.{IsLeastHolding}
use Rattle.rel_hull.specs.Table.{Table, chain_at}
use Rattle.geo_session.specs.Hull.{AreFirsts, hull_side_at}
use Rattle.geo_session.specs.Shown.{IsShown}
use Rattle.geo_session.specs.Told.{NamesOutside}
use Rattle.geo_session.specs.declared.span.Span.{Span}
use Rattle.geo_reply.specs.declared.reply.Side.{Side}

-- an earlier point is equal to point i
abbrev pub IsRepeated : List Point → ℕ → Type 0
IsRepeated points i = (j : ℕ) × (j < i) × (point_at points j ≡ point_at points i)

-- the numbers below n of the points that no earlier one is equal to, in order
pub record AreFirstsBelow (points : List Point) (n : ℕ) (numbers : List ℕ) : Type 0 where
  pub rising : (k l : ℕ) → k < l → l < length numbers → slice_index numbers k < slice_index numbers l
  pub first : (i : ℕ) → Contains numbers i ↔ ((i < n) × ((j : ℕ) → j < i → point_at points j ≢ point_at points i))

-- the first n of the points are in these triangles
pub record AreHeld (ring : List Point) (tris : List Tri) (points : List Point) (n : ℕ) (found : List ℕ) : Type 0 where
  pub one_each : length found ≡ n
  pub each : (k : ℕ) → k < n → IsLeastHolding ring tris (whole (point_at points k)) (slice_index found k)

-- the triangles of the points, or the refusal of the first point that is in none
abbrev pub AreLocated : List Point → List Tri → List Point → Result (Vec ℕ Global) Bad → Type 0
AreLocated ring tris points (Ok found) = AreHeld ring tris points (length points) found.items
AreLocated ring tris points (Err fault) = NamesOutside ring points fault

-- the point whose number is at a place
abbrev pub numbered : List Point → List ℕ → ℕ → Point
numbered points numbers k = point_at points (slice_index numbers k)

-- a chain of not too many points, which is the path
pub record IsShortPath (ring : List Point) (s t : Point) (path : List Point) : Type 0 where
  pub is_path : IsPath ring s t path
  pub short : length path ≤ MAX_CORNERS + 1

-- the chain at place k of those between each two of m numbered points, row by row
abbrev pub IsChainAt : List Point → List Point → List ℕ → ℕ → List Point → Type 0
IsChainAt ring points numbers k =
    IsShortPath ring (numbered points numbers (k / length numbers)) (numbered points numbers (k % length numbers))

-- the first n of them
pub record AreChains (ring points : List Point) (numbers : List ℕ) (n : ℕ) (chains : List (List Point)) : Type 0 where
  pub count : length chains ≡ n
  pub each : (k : ℕ) → k < n → IsChainAt ring points numbers k (slice_index_or chains k [])

-- after the chains of r rows of m places come c chains more: those at place r of these rows, read backward
pub record AreTurned (m r c : ℕ) (chains chains' : List (List Point)) : Type 0 where
  pub back : List (List Point)
  pub appended : chains' ≡ chains ++ back
  pub count : length back ≡ c
  pub each : (k : ℕ) → k < c → slice_index_or back k [] ≡ reverse (slice_index_or chains (k * m + r) [])

-- the table of the chains between each two of the numbered points
pub record IsNumberedTable (ring points : List Point) (numbers : List ℕ) (table : Table) : Type 0 where
  pub count : table.count ≡ length numbers
  pub are : AreChains ring points numbers (length numbers * length numbers) table.chains

-- the triangles of some points, their first numbers, and the table of the chains between these
pub record IsSpan (ring : List Point) (tris : List Tri) (points : List Point) (span : Span) : Type 0 where
  pub some : 1 ≤ length points
  pub held : AreHeld ring tris points (length points) span.tris.items
  pub firsts : AreFirsts points span.numbers.items
  pub few : length span.numbers.items ≤ MAX_HULL
  pub no_more : length span.numbers.items ≤ length points
  pub table : IsNumberedTable ring points span.numbers.items span.chains

-- these, or the refusal of the first point that is in no triangle
abbrev pub AreNumbered : List Point → List Tri → List Point → Result Span Bad → Type 0
AreNumbered ring tris points (Ok span) = IsSpan ring tris points span
AreNumbered ring tris points (Err fault) = NamesOutside ring points fault

-- the side joins the numbered points at two places, with what is told of the chain between these
pub record IsSideTold (version : Version) (ring : List Point) (span : Span) (pair : ℕ × ℕ) (side : Side) : Type 0 where
  pub start : side.start ≡ slice_index span.numbers.items pair.0
  pub end : side.end ≡ slice_index span.numbers.items pair.1
  pub shown : IsShown version ring (chain_at span.chains pair.0 pair.1) side.path

-- so do the first n sides
pub record AreSidesTold (version : Version) (ring : List Point) (span : Span) (pairs : List (ℕ × ℕ)) (n : ℕ) (told : List Side) : Type 0 where
  pub count : length told ≡ n
  pub each : (k : ℕ) → k < n → IsSideTold version ring span (pair_at pairs k) (hull_side_at told k)
