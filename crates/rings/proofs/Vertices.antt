-- Vertices and edges of a ring, by their numbers and as lists.

-- The edges of a ring by their numbers: edge i goes from vertex i to the next.
mod Indexing
pub use Rattle.rings.proofs.Vertices.Indexing.{crossings_more, edge_at, on_some_edge, on_some_from, on_some_more, take_all_edges}
pub use Rattle.rings.proofs.Vertices.Indexing.{edge_number, edge_with, has_edge_at, has_edge_backward, on_each, on_some_among, on_some_of}
pub use Rattle.rings.proofs.Vertices.Indexing.{vertex_after_last, vertex_in_range, vertex_mod, vertex_round}
-- The items of a list, of appended lists and of a list in the other order, and their numbers.
mod Items
pub use Rattle.rings.proofs.Vertices.Items.{has_cases, has_in_order, has_left, has_number, has_reversed, has_right, has_swapped, number_of}
pub use Rattle.rings.proofs.Vertices.Items.{next_round, one_to_one, parts_at, reverse-cons}
pub use Rattle.rings.proofs.Vertices.DistinctPoints.{all_ends_along, edges_along_append, first_on_along, last_on_along, member_on_along}
pub use Rattle.rings.proofs.Vertices.DistinctPoints.{AreDistinct, HasPoint, distinct_between, distinct_left, distinct_right}
pub use Rattle.rings.proofs.Vertices.DistinctPoints.{distinct_swapped, distinct_vertices, edge_from, end_of_ring, ends_along}
pub use Rattle.rings.proofs.Vertices.DistinctPoints.{vertices_differ}
-- Laws of lists of edges: appended lists, edges read backward, closed lists.
mod Edges
pub use Rattle.rings.proofs.Vertices.Edges.{AllEnds, all_ends_from, all_ends_map, backward, closed_edges_of, growth-append}
pub use Rattle.rings.proofs.Vertices.Edges.{growth-edges_along, on_some_backward, on_none_with, on_some_cases, on_some_left, on_some_right}
pub use Rattle.rings.proofs.Vertices.Edges.{on_some_same, reversed, sum_regrouped, apart_among, apart_more, common_end_swapped}
pub use Rattle.rings.proofs.Vertices.Edges.{end_of_first, end_of_second, meet_reversed, meet_swapped}
-- Lists of different points, by recursion on the list and by numbers.
mod DistinctPoints
-- Near a rational point: the way from it to another point misses all edges that it is not on.
mod NearEdges
pub use Rattle.rings.proofs.Vertices.NearEdges.{each_eventually, misses_between, misses_eventually, shrink}
-- Of the chosen points of a list, one with the greatest value.
mod FarthestPoint
pub use Rattle.rings.proofs.Vertices.FarthestPoint.{Farthest, farthest_of, farthest_or_none}
-- The first hit: on the way from one rational point to another, the first point that is on some edge of a list.
mod FirstHits
pub use Rattle.rings.proofs.Vertices.FirstHits.{FirstHit, first_hit, first_hit_or_misses, misses_before}
