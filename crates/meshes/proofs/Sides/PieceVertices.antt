-- The vertices of a piece: they are different where it is simple. Its edges as edges of its points.
use Rattle.std.proofs.Common.{◌≡◌, refl, sym, ap, subst, ◌∙◌, ℕ, ◌+◌, ◌%◌, ◌<◌, List, length, get_or, arith, mod-lt}
use Rattle.std.proofs.lemmas.List.{get_or-map, length-map}
use Rattle.std.proofs.lemmas.List.FromFn.{fill_by_all}
use Rattle.std.specs.List.{range_with_len}
use Rattle.plane.specs.Point.{Point}
use Rattle.rings.proofs.Vertices.{has_edge_at, one_to_one, vertex_in_range}
use Rattle.rings.specs.Prelude.{edge, edges_of, HasEdge, IsSimple, origin, vertex}
use Rattle.rings.proofs.Simple.{apart_of_simple}
use Rattle.meshes.specs.Fits.{IsPieceEdge, piece_points}

-- ---- simple pieces

module _ (corners : List Point) (piece : List ℕ) where
  -- a piece has as many points as numbers,
  pub length_points : length (piece_points corners piece) ≡ length piece
  length_points = length-map piece (λ k. vertex corners k)

  -- and vertex p of it is that with its number
  pub vertex_of_piece : (p : ℕ) → p < length piece → vertex (piece_points corners piece) p ≡ vertex corners (get_or piece p 0)
  vertex_of_piece p h =
      vertex_in_range (piece_points corners piece) p origin (omega (arith, length_points))
      ∙ get_or-map (λ k. vertex corners k) piece p 0 origin h

  module _ (simple : IsSimple (piece_points corners piece)) where
    -- a vertex of a simple piece stands at one place,
    pub one_place : (p q : ℕ) → p < length piece → q < length piece → vertex corners (get_or piece p 0) ≡ vertex corners (get_or piece q 0) → p ≡ q
    one_place p q h k same =
        let ring = piece_points corners piece in
        one_to_one (vertex ring) (length ring) (apart_of_simple ring simple).distinct p q (omega (arith, length_points)) (omega (arith, length_points))
        (vertex_of_piece p h ∙ same ∙ sym (vertex_of_piece q k))

    -- as its number does
    pub one_number : (p q : ℕ) → p < length piece → q < length piece → get_or piece p 0 ≡ get_or piece q 0 → p ≡ q
    one_number p q h k same = one_place p q h k (ap (vertex corners) same)

-- the piece of all vertices has the points of the ring
pub piece_points_all : (corners : List Point) → piece_points corners (range_with_len 0 (length corners)) ≡ corners
piece_points_all corners =
    sym (fill_by_all (λ k. vertex corners k) corners (length corners) origin refl (λ k h. sym (vertex_in_range corners k origin h)))

-- ---- edges

-- an edge of a piece is an edge of its points
pub edge_of_piece : (corners : List Point) (piece : List ℕ) (i j : ℕ) → IsPieceEdge piece i j
    → HasEdge (edges_of (piece_points corners piece)) (edge (vertex corners i) (vertex corners j))
edge_of_piece corners piece i j e =
    let ring = piece_points corners piece in
    let p : ℕ = e.place in
    let long = length_points corners piece in
    let q : ℕ = (p + 1) % length piece in
    let in_q : q < length piece = mod-lt (p + 1) (omega (arith, e.in_piece)) in
    let from : vertex ring p ≡ vertex corners i = vertex_of_piece corners piece p e.in_piece ∙ ap (vertex corners) e.from in
    let to : vertex ring (p + 1) ≡ vertex corners j =
    ap (λ n. get_or ring ((p + 1) % n) origin) long ∙ get_or-map (λ k. vertex corners k) piece q 0 origin in_q ∙ ap (vertex corners) e.to in
    subst (HasEdge (edges_of ring)) (λ k. edge (from k) (to k)) (has_edge_at ring p (omega (arith, e.in_piece, long)))
