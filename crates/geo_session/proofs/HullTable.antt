-- The table of the chains between the points of a hull, and its sides.
use Rattle.std.proofs.Common.{◌≡◌, ◌∙◌, refl, sym, subst, ℕ, ◌+◌, ◌*◌, ◌<◌, ◌≤◌, List, [], length, arith}
use Rattle.std.proofs.lemmas.List.{ext_get_or, get_or-map, length-map}
use Rattle.std.proofs.lemmas.List.Elements.{Contains-get_or}
use Rattle.std.proofs.lemmas.List.FromFn.{get_or-map-range_with_len, length-map-range_with_len}
use Rattle.std.specs.Prelude.{map, slice_index, slice_index_or}
use Rattle.plane.specs.Pairs.{pair_at}
use Rattle.plane.specs.Point.{Point}
use Rattle.rings.specs.Chain.{IsPath, point_at}
use Rattle.rings.specs.Ring.{origin}
use Rattle.meshes.specs.declared.tri.Tri.{Tri}
use Rattle.hulls.specs.Inner.{AreDistinct}
use Rattle.rel_hull.specs.Table.{AreSides, IsTableOf, Table, chain_at, table_points}
use Rattle.geo_session.proofs.Spanned.{chain_between_places}
use Rattle.geo_session.specs.Hull.{AreFirsts}
use Rattle.geo_session.specs.Sleeves.{IsPathBetween}
use Rattle.geo_session.specs.Span.{IsNumberedTable, IsShortPath, IsSpan, numbered}
use Rattle.geo_session.specs.declared.span.Span.{Span}

-- the ends of a side of the numbered points are numbered
pub side_numbered : (ring points : List Point) (numbers : List ℕ) (sides : List (ℕ × ℕ)) → AreSides ring (map (point_at points) numbers) sides
    → (k : ℕ) → k < length sides → ((pair_at sides k).0 < length numbers) × ((pair_at sides k).1 < length numbers)
side_numbered ring points numbers sides are k below =
    let side = are.sides k below in
    let long = length-map numbers (point_at points) in
    (omega (arith, side.s_in_list, long), omega (arith, side.t_in_list, long))

module _ (points : List Point) (numbers : List ℕ) (firsts : AreFirsts points numbers) where
  -- the first point has the first number
  pub some_numbers : 1 ≤ length points → 1 ≤ length numbers
  some_numbers some = let h = ((firsts.first 0).1 (omega arith, λ j less. absurd (omega (arith, less)))).1 in omega arith

  -- each number is of a point,
  pub number_in_list : (k : ℕ) → k < length numbers → slice_index numbers k < length points
  number_in_list k below = ((firsts.first (slice_index numbers k)).0 (Contains-get_or numbers k 0 below)).0

  at_number : (k : ℕ) → k < length numbers → point_at (map (point_at points) numbers) k ≡ numbered points numbers k
  at_number k below = get_or-map (point_at points) numbers k 0 origin below

  -- and no two are of equal ones
  numbered_distinct : AreDistinct (map (point_at points) numbers)
  numbered_distinct i j less below =
      let at_j : j < length numbers = omega (arith, below, length-map numbers (point_at points)) in
      let first = ((firsts.first (slice_index numbers j)).0 (Contains-get_or numbers j 0 at_j)).1 in
      rw (at_number i (omega (arith, less, at_j)), at_number j at_j) (first (slice_index numbers i) (firsts.rising i j less at_j))

  module _ (ring : List Point) (table : Table) (is : IsNumberedTable ring points numbers table) where
    -- the chain from one place to another is the path between their points
    chain_of_table : (s t : ℕ) → s < length numbers → t < length numbers
        → IsShortPath ring (numbered points numbers s) (numbered points numbers t) (chain_at table s t)
    chain_of_table s t at_s at_t =
        subst (λ (m : ℕ). IsShortPath ring (numbered points numbers s) (numbered points numbers t) (slice_index_or table.chains (s * m + t) []))
        (sym is.count) (chain_between_places ring points numbers table.chains is.are s t at_s at_t)

    -- so the points of the table are those with the numbers,
    pub points_of_table : table_points table ≡ map (point_at points) numbers
    points_of_table =
        let long = length-map-range_with_len (λ (i : ℕ). point_at (chain_at table i i) 0) 0 table.count in
        ext_get_or origin (table_points table) (map (point_at points) numbers) (long ∙ is.count ∙ sym (length-map numbers (point_at points)))
        (λ i below.
        let at_i : i < table.count = omega (arith, long, below) in
        let at_number_i : i < length numbers = omega (arith, is.count, at_i) in
        get_or-map-range_with_len (λ (i : ℕ). point_at (chain_at table i i) 0) 0 table.count i i origin at_i (omega arith)
        ∙ (((chain_of_table i i at_number_i at_number_i).is_path (chain_at table i i)).1 refl).first
        ∙ sym (at_number i at_number_i))

    -- and it is a table of the ring
    pub table_of_ring : 1 ≤ length points → length numbers ≤ 64 → IsTableOf ring table
    table_of_ring some few = record {
      some = omega (arith, is.count, some_numbers some);
      few = omega (arith, is.count, few);
      square = rw is.count is.are.count;
      distinct = subst AreDistinct (sym points_of_table) numbered_distinct;
      paths = λ i j at_i at_j.
          let within_i : i < length numbers = omega (arith, is.count, at_i) in
          let within_j : j < length numbers = omega (arith, is.count, at_j) in
          subst (λ (ps : List Point). IsPath ring (point_at ps i) (point_at ps j) (chain_at table i j)) (sym points_of_table)
          (rw (at_number i within_i, at_number j within_j) (chain_of_table i j within_i within_j).is_path);
    }

    -- and its sides are those of the points with the numbers
    pub sides_numbered : (sides : List (ℕ × ℕ)) → AreSides ring (table_points table) sides → AreSides ring (map (point_at points) numbers) sides
    sides_numbered sides are = subst (λ (ps : List Point). AreSides ring ps sides) points_of_table are

-- the chains of a span are the paths between the triangles of the points
module _ (ring : List Point) (tris : List Tri) (points : List Point) (span : Span) (is : IsSpan ring tris points span) where
  pub span_table : IsTableOf ring span.chains
  span_table = table_of_ring points span.numbers.items is.firsts ring span.chains is.table is.some is.few

  -- a number is of a point that is in a triangle
  pub place_located : (s : ℕ) → s < length span.numbers.items → slice_index span.numbers.items s < length span.tris.items
  place_located s at_s = rw is.held.one_each (number_in_list points span.numbers.items is.firsts s at_s)

  module _ (s t : ℕ) (at_s : s < length span.numbers.items) (at_t : t < length span.numbers.items) where
    pub short_chain : IsShortPath ring (numbered points span.numbers.items s) (numbered points span.numbers.items t) (chain_at span.chains s t)
    short_chain = chain_of_table points span.numbers.items is.firsts ring span.chains is.table s t at_s at_t

    pub walked : IsPathBetween ring tris (slice_index span.tris.items (slice_index span.numbers.items s))
        (slice_index span.tris.items (slice_index span.numbers.items t)) (chain_at span.chains s t)
    walked = record {
      s = numbered points span.numbers.items s;
      t = numbered points span.numbers.items t;
      start = is.held.each _ (number_in_list points span.numbers.items is.firsts s at_s);
      goal = is.held.each _ (number_in_list points span.numbers.items is.firsts t at_t);
      is_path = short_chain.is_path;
    }
