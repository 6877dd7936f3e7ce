-- A ring that triangles fit is simple, has three vertices or more, and runs counterclockwise: the points of a triangle beside its
-- first edge are in it, and they are on the left.
use Rattle.std.proofs.Common.{◌≡◌, inl, inr, subst, ap, ◌∙◌, ℕ, ◌%◌, ◌<◌, ◌≤◌, List, length, get_or, arith}
use Rattle.std.proofs.Math.Nat.{mod-eq_of_lt}
use Rattle.std.proofs.lemmas.List.FromFn.{get_or-range_with_len, length-range_with_len}
use Rattle.std.specs.List.{range_with_len}
use Rattle.plane.proofs.Nearness.{Eventually, toward, toward_is_point}
use Rattle.plane.proofs.Points.{whole_is_point}
use Rattle.plane.proofs.Segments.{middle, middle_first, middle_is_point, middle_last, middle_on}
use Rattle.plane.specs.Prelude.{IsLeft, Point, whole}
use Rattle.rings.proofs.Simple.{apart_of_simple, proper_edges}
use Rattle.rings.proofs.Vertices.{edge_at, has_edge_at}
use Rattle.rings.specs.Prelude.{IsCounterclockwise, IsIn, IsSimple, vertex}
use Rattle.ring_laws.proofs.Simple.{runs_round}
use Rattle.meshes.proofs.Joins.{in_tri}
use Rattle.meshes.proofs.Parts.{near_side, opposite}
use Rattle.meshes.proofs.Sides.{piece_points_all, two_fewer}
use Rattle.meshes.proofs.Sight.{triangle_in_ring}
use Rattle.meshes.specs.Prelude.{Fits, IsPieceEdge, IsSideOfOne, tri_at}
use Rattle.meshes.specs.declared.tri.Tri.{Tri}
use Rattle.funnels.proofs.Vertices.ClockwiseEdges.{not_clockwise}

-- the first edge of a ring goes from vertex 0 to vertex 1
first_edge : (n : ℕ) → 1 < n → IsPieceEdge (range_with_len 0 n) 0 1
first_edge n some =
    let piece = range_with_len 0 n in
    let long : length piece ≡ n = length-range_with_len 0 n in
    let second : 1 % length piece ≡ 1 = mod-eq_of_lt (omega arith) in
    record {
      place = 0;
      in_piece = omega arith;
      from = get_or-range_with_len 0 n 0 0 (omega arith);
      to = ap (λ k. get_or piece k 0) second ∙ get_or-range_with_len 0 n 1 0 some;
    }

module _ (corners : List Point) (tris : List Tri) (fits : Fits corners tris) where
  -- a triangle has the first edge of the ring,
  first_triangle : (k : ℕ) × IsSideOfOne tris 0 1 k
  first_triangle = fits.edges 0 1 (first_edge (length corners) (omega (arith, two_fewer corners tris fits)))

  -- so the ring has three vertices or more,
  pub fitted_long : 3 ≤ length corners
  fitted_long = let (k, one) = first_triangle in omega (arith, two_fewer corners tris fits, one.in_list)

  -- and it is simple;
  pub fitted_simple : IsSimple corners
  fitted_simple = subst IsSimple (piece_points_all corners) fits.simple

  -- it has the points near the first edge on its left,
  near_first : (c : Point) × IsLeft (whole (vertex corners 0)) (whole (vertex corners 1)) (whole c)
      × Eventually (λ n. IsIn corners (toward (middle (vertex corners 0) (vertex corners 1)) (whole c) n))
  near_first =
      let (k, one) = first_triangle in
      let t = tri_at tris k in
      let a = vertex corners 0 in
      let b = vertex corners 1 in
      let m = middle a b in
      let at_m = middle_is_point a b in
      let (c, o) = opposite corners t (fits.triangles k one.in_list).counterclockwise 0 1 one.has in
      let proper = proper_edges corners (apart_of_simple corners fitted_simple) (omega (arith, fitted_long)) (edge_at corners 0)
      (has_edge_at corners 0 (omega (arith, fitted_long))) in
      let near = near_side corners t a b c o m at_m (middle_on a b)
      (λ s. proper (middle_first a b s)) (λ s. proper (middle_last a b s)) in (
        c,
        o.left,
        record {
          start = near.start;
          from_start = λ n above.
              let x = toward m (whole c) n in
              let at_x = toward_is_point m (whole c) at_m (whole_is_point c) n in
              triangle_in_ring corners tris fits k one.in_list x at_x (in_tri corners t x (near.from_start n above));
        },
      )

  -- and it runs counterclockwise
  pub fitted_counterclockwise : IsCounterclockwise corners
  fitted_counterclockwise =
      let apart = apart_of_simple corners fitted_simple in
      let (c, left, inside) = near_first in
      elim (runs_round corners fitted_long apart) [
        | inl h ↦ h.area
        | inr h ↦ absurd (not_clockwise corners apart (omega (arith, fitted_long)) (edge_at corners 0)
            (has_edge_at corners 0 (omega (arith, fitted_long))) c left inside h.windings)
      ]
