-- Triangles whose sides cancel to the boundary of a simple piece: the points of the piece are those of the triangles.
-- Counterclockwise triangles whose sides cancel to the boundary of a simple piece tile it.
use Rattle.std.proofs.Common.{◌≡◌, ◌⊎◌, inl, inr, refl, sym, subst, ◌∙◌, ℕ, ◌<◌, ◌*ℤ◌, ℤ, pos, ◌+ℤ◌, ◌≤ℤ◌, List, [], ◌∷◌, length, arith}
use Rattle.std.proofs.Common.{le_refl}
use Rattle.std.proofs.lemmas.Int.{ints}
use Rattle.plane.proofs.Nearness.{toward, toward_is_point}
use Rattle.plane.specs.Prelude.{IsPoint, On, Point, Triple, whole}
use Rattle.rings.proofs.Crossings.{crossings_odd, winding_odd}
use Rattle.rings.proofs.Inside.{on_some_or_not}
use Rattle.rings.proofs.Vertices.{closed_edges_of}
use Rattle.rings.specs.Prelude.{edges_along, edges_of, IsIn, IsOnSome, vertex, winding}
use Rattle.ring_laws.proofs.Triangles.{in_or_not}
use Rattle.meshes.proofs.Boundaries.OffEdges.{both_open, left_open, off_edges, wound_open}
use Rattle.meshes.proofs.Boundaries.Overlaps.{all_proper, all_sides, off_sides, turns_left_at, no_overlap}
use Rattle.meshes.proofs.Boundaries.SideCounts.{edges_at, inner_sides_at}
use Rattle.meshes.proofs.Boundaries.SomeTriangle.{SomeHas, some_or_none}
use Rattle.meshes.proofs.Boundaries.Sums.{AddsAtLeast, sum_with_one, sum_zero}
use Rattle.meshes.proofs.Boundaries.Windings.{AreBounded, crossing_at, sum_inside, sum_off_sides, sum_outside, winding_is_sum}
use Rattle.meshes.proofs.Parts.{IsLeftOfAll, inside_sides, left_of_sides, mean, mean_inside, mean_is_point, opposite, sides, toward_inside}
use Rattle.meshes.proofs.Sides.{IsStep, edge_of_step}
use Rattle.meshes.specs.Boundary.{HaveBoundary}
use Rattle.meshes.specs.Prelude.{IsInTri, IsPieceEdge, IsStrictlyInTri, IsTriOf, piece_points, tri_at}
use Rattle.meshes.specs.declared.tri.Tri.{Tri}
use Rattle.meshes.specs.Piece.{IsPolygonPiece}
use Rattle.meshes.specs.Tiling.{IsTiling}

-- ---- numbers

-- of 0 and 1 only 1 is at least 1, and it is odd
one_of_two : (w s : ℤ) → (w ≡ pos 0) ⊎ (w ≡ pos 1) → pos 1 ≤ℤ s → s ≡ w → w ≡ pos 2 *ℤ pos 0 +ℤ pos 1
one_of_two w s (inl e) h d = absurd (omega (arith, ints))
one_of_two w s (inr e) h d = omega (arith, ints)

-- 0 is not odd
zero_not_odd : (w z : ℤ) → w ≡ pos 0 → w ≡ pos 2 *ℤ z +ℤ pos 1 → ⊥
zero_not_odd w z e d = omega (arith, ints)

-- ---- points of the edges and of the triangles

module _ (corners : List Point) (p : Triple) where
  -- a point on the edges along some numbers is on the way of a step,
  on_step : (a : ℕ) (bs : List ℕ) (last : ℕ) → IsOnSome (edges_along (vertex corners a) (piece_points corners bs) (vertex corners last)) p
      → (i : ℕ) × (j : ℕ) × IsStep a bs last i j × On p (whole (vertex corners i)) (whole (vertex corners j))
  on_step a [] last (inl on) = (a, last, (refl, refl), on)
  on_step a [] last (inr none) = absurd none
  on_step a (b ∷ bs) last (inl on) = (a, b, inl (refl, refl), on)
  on_step a (b ∷ bs) last (inr there) = let (i, j, s, on) = on_step b bs last there in (i, j, inr s, on)

  -- so one on the boundary of a piece is on an edge of it
  on_piece_edge : (piece : List ℕ) → IsOnSome (edges_of (piece_points corners piece)) p
      → (i : ℕ) × (j : ℕ) × IsPieceEdge piece i j × On p (whole (vertex corners i)) (whole (vertex corners j))
  on_piece_edge [] on = absurd on
  on_piece_edge (v ∷ vs) on = let (i, j, s, here) = on_step v vs v on in (i, j, edge_of_step v vs i j s, here)

  -- some triangle holds the point
  abbrev IsInSome : List Tri → Type 0
  IsInSome tris = SomeHas (λ t. IsInTri corners t p) tris

-- ---- points of the piece

-- the piece winds round a point that is strictly inside a triangle, and off all sides
winds_inside : (corners : List Point) (piece : List ℕ) (tris : List Tri) → AreBounded corners piece tris → (k : ℕ) → k < length tris
    → (z : Triple) → IsPoint z → ¬ IsOnSome (all_sides corners tris) z → IsStrictlyInTri corners (tri_at tris k) z
    → pos 1 ≤ℤ winding (edges_of (piece_points corners piece)) z
winds_inside corners piece tris b k below z at_z off strictly =
    let φ = crossing_at corners z in
    let left = turns_left_at corners piece tris b in
    let e = sum_inside corners z at_z (tri_at tris k) (left k below) strictly in
    let here : AddsAtLeast φ tris (pos 1) k = omega (arith, ints, e) in
    subst (λ s. pos 1 ≤ℤ s) (winding_is_sum corners z piece tris b.bounded)
    (sum_with_one φ tris (pos 1) k below here
    (λ o within not. sum_off_sides corners z at_z (tri_at tris o) (left o within) (off_sides corners tris o z within off)))

module _ (corners : List Point) (piece : List ℕ) (tris : List Tri) (b : AreBounded corners piece tris) (p : Triple) (at_p : IsPoint p) where
  -- a point is in a triangle or not
  in_or_out : (t : Tri) → IsInTri corners t p ⊎ (¬ IsInTri corners t p)
  in_or_out t = in_or_not (vertex corners t.a) (vertex corners t.b) (vertex corners t.c) p

  -- a point of the boundary is in some triangle,
  on_edge_in : IsOnSome (edges_of (piece_points corners piece)) p → IsInSome corners p tris
  on_edge_in on =
      let (i, j, e, here) = on_piece_edge corners p piece on in
      let (k, one) = edges_at corners piece tris b i j e in
      let (c, o) = opposite corners (tri_at tris k) (turns_left_at corners piece tris b k one.in_list) i j one.has in
      (k, one.in_list, o.side p at_p here)

  -- and so is each point of the piece: round one that is in none the piece would not wind
  pub in_triangles : IsIn (piece_points corners piece) p → IsInSome corners p tris
  in_triangles (inl on) = on_edge_in on
  in_triangles (inr odd) = elim (some_or_none (λ t. IsInTri corners t p) in_or_out tris) [
    | inl h ↦ h
    | inr none ↦
        let es = edges_of (piece_points corners piece) in
        let (z, is) = winding_odd es p odd in
        let zero_sum = sum_zero (crossing_at corners p) tris
        (λ k below. sum_outside corners p at_p (tri_at tris k) (turns_left_at corners piece tris b k below) (none k below)) in
        absurd (zero_not_odd (winding es p) z (sym (winding_is_sum corners p piece tris b.bounded) ∙ zero_sum) is)
  ]

  -- off the boundary, a point of a triangle is in the piece: near it there is one strictly inside, and off all sides
  in_piece_off : ¬ IsOnSome (edges_of (piece_points corners piece)) p → (k : ℕ) → k < length tris → IsInTri corners (tri_at tris k) p
      → IsIn (piece_points corners piece) p
  in_piece_off off k below in_it =
      let es = edges_of (piece_points corners piece) in
      let t = tri_at tris k in
      let left = turns_left_at corners piece tris b k below in
      let g = mean corners t in
      let at_g = mean_is_point corners t left in
      let w = winding es p in
      let wound = wound_open es (closed_edges_of (piece_points corners piece)) w in
      let first = wound p g at_p at_g (off, refl) in
      let n : ℕ = first.start in
      let y = toward p g n in
      let in_y = toward_inside corners t left p g in_it (mean_inside corners t left) n in
      let Q = λ (x : Triple). (¬ IsOnSome es x) × (winding es x ≡ w) in
      let R = IsLeftOfAll (sides corners t) in
      let near = off_edges (λ x. R x × Q x) (both_open R Q (left_open (sides corners t)) wound)
      (all_sides corners tris) (all_proper corners tris (turns_left_at corners piece tris b)) y (toward_is_point p g at_p at_g n)
      (left_of_sides corners t y in_y, first.from_start n (le_refl n)) in
      let z = near.point in
      let winds = winds_inside corners piece tris b k below z near.rational near.off (inside_sides corners t z near.holds.0) in
      inr (crossings_odd es p (pos 0) (one_of_two w (winding es z) (b.polygon.counterclockwise.windings p at_p off) winds near.holds.1.1))

  -- and on the boundary each point is, so that the points of the triangles are in the piece
  pub in_piece : IsInSome corners p tris → IsIn (piece_points corners piece) p
  in_piece (k, below, in_it) = elim (on_some_or_not (edges_of (piece_points corners piece)) p at_p) [
    | inl on ↦ inl on
    | inr off ↦ in_piece_off off k below in_it
  ]

pub tiling : (corners : List Point) (piece : List ℕ) (tris : List Tri) → IsPolygonPiece corners piece
    → ((k : ℕ) → k < length tris → IsTriOf corners piece (tri_at tris k)) → HaveBoundary piece tris → IsTiling corners piece tris
tiling corners piece tris polygon triangles bounded =
    let b : AreBounded corners piece tris = record { polygon = polygon; triangles = triangles; bounded = bounded } in
    record {
      some = polygon.some;
      simple = polygon.simple;
      triangles = triangles;
      edges = edges_at corners piece tris b;
      inner_sides = inner_sides_at corners piece tris b;
      covers = λ p at_p. (in_triangles corners piece tris b p at_p, in_piece corners piece tris b p at_p);
      apart = λ p at_p k l less below both.
          no_overlap corners piece tris b k l (omega (arith, less, below)) below (λ same. omega (arith, less, same)) p at_p both.0 both.1;
    }
