-- A piece that a shared side cuts in two parts: the triangles that lie in a part tile it.
use Rattle.std.proofs.Common.{◌≡◌, ◌⊎◌, inl, inr, sym, subst, ℕ, List, arith}
use Rattle.std.specs.List.{Contains}
use Rattle.plane.proofs.Points.{whole_is_point}
use Rattle.plane.specs.Point.{Point, whole}
use Rattle.rings.specs.Ring.{vertex}
use Rattle.ring_laws.proofs.Diagonals.{AreBoth}
use Rattle.ring_laws.proofs.Triangles.{first_in_triangle, last_in_triangle, middle_in_triangle}
use Rattle.meshes.proofs.Boundaries.PartTilings.{IsEdgeBetween, IsPartTiling, IsSideOfOneIn}
use Rattle.meshes.proofs.Boundaries.CutTilings.{CoverPiece, IsBeside, IsPartOf, LiesInPart}
use Rattle.meshes.proofs.Ears.{edge_ends}
use Rattle.meshes.proofs.Joins.{between_at, ends_back}
use Rattle.meshes.proofs.Parts.{IsPaved, IsShared, LiesIn, covered_swapped, end_of_side, ends_in, ends_of_both, lies_in_both, lies_in_one}
use Rattle.meshes.proofs.Parts.{shared_is_this, side_in, side_numbers, vertex_in_piece}
use Rattle.meshes.specs.Prelude.{HasSide, HasSideBetween, IsInTri, IsPieceEdge, IsSideOfTwo, IsTriOf, piece_points, tri_at}
use Rattle.meshes.specs.declared.tri.Tri.{Tri}

module _ (corners : List Point) (piece : List ℕ) (tris : List Tri) (P : ℕ → Type 0) (tiling : IsPartTiling corners piece tris P)
    (a b k l : ℕ) (s : IsShared corners piece tris P a b k l) (inner : ¬ IsEdgeBetween piece a b) where
  -- an edge of the piece is not the diagonal
  no_diagonal : (x y : ℕ) → IsPieceEdge piece x y → ¬ AreBoth a b x y
  no_diagonal x y e (inl h) = inner (inl (subst (λ z. IsPieceEdge piece z b) h.0 (subst (λ z. IsPieceEdge piece x z) h.1 e)))
  no_diagonal x y e (inr h) = inner (inr (subst (λ z. IsPieceEdge piece z a) h.0 (subst (λ z. IsPieceEdge piece x z) h.1 e)))

  -- a triangle in one part does not have an edge of the piece that is one of the other part
  not_across : (first second : List ℕ) → CoverPiece corners piece first second a b → (x y n : ℕ) → IsPieceEdge piece x y → IsPieceEdge first x y → P n
      → HasSideBetween (tri_at tris n) x y → ¬ LiesIn corners tris (piece_points corners second) n
  not_across first second c x y n outer e within has lies =
      let ends = edge_ends first x y e in
      let numbers = side_numbers corners piece tris tiling.cover n x y within has in
      let there = ends_in corners piece tris tiling.cover (piece_points corners second) n x y within has lies in
      no_diagonal x y outer
      (ends_of_both corners piece tris tiling.cover a b k l s (piece_points corners first) (piece_points corners second) c x y
      numbers.0 numbers.1 numbers.2 (vertex_in_piece corners first x ends.0) there.0 (vertex_in_piece corners first y ends.1) there.1)

  module _ (part other : List ℕ) (c : CoverPiece corners piece part other a b)
      (h : IsPartOf corners piece part other a b) (m n : ℕ) (here : IsBeside corners tris P part a b m) (there : IsBeside corners tris P other a b n)
      (only : (o : ℕ) → P o → HasSideBetween (tri_at tris o) a b → (o ≡ m) ⊎ (o ≡ n)) where
    -- each triangle lies in one part,
    pub lies_cases : (o : ℕ) → P o → LiesIn corners tris (piece_points corners part) o ⊎ LiesIn corners tris (piece_points corners other) o
    lies_cases o within =
        lies_in_one corners piece tris tiling.cover a b k l s (piece_points corners part) (piece_points corners other) c o within

    -- and in no more
    pub lies_once : (o : ℕ) → LiesInPart corners tris P part o → LiesInPart corners tris P other o → ⊥
    lies_once o in_part in_other =
        lies_in_both corners piece tris tiling.cover a b k l s (piece_points corners part) (piece_points corners other) c o
        in_part.0 in_part.1 in_other.1

    -- the one beside the diagonal is the only one of the part that has it as a side
    pub only_here : (o : ℕ) → LiesInPart corners tris P part o → HasSideBetween (tri_at tris o) a b → o ≡ m
    only_here o in_part has = elim (only o in_part.0 has) [
      | inl e ↦ e
      | inr e ↦ absurd (lies_once o in_part (subst (LiesInPart corners tris P other) (sym e) there.in_part))
    ]

    -- ---- corners

    -- a corner of a triangle of the part is a vertex of the part,
    corner_here : (o i : ℕ) → LiesInPart corners tris P part o → Contains piece i → IsInTri corners (tri_at tris o) (whole (vertex corners i))
        → Contains part i
    corner_here o i in_part has t = elim (h.member_cases i has) [
      | inl found ↦ found
      | inr found ↦
          let v = whole (vertex corners i) in
          let at_v = whole_is_point (vertex corners i) in
          elim (end_of_side corners piece tris tiling.cover a b k l s (piece_points corners part) (piece_points corners other) c i has
          (c.common v at_v (in_part.1 v at_v t) (vertex_in_piece corners other i found))) [
            | inl e ↦ subst (Contains part) (sym e) h.has_first
            | inr e ↦ subst (Contains part) (sym e) h.has_last
          ]
    ]

    -- so it is a triangle of the part
    tri_here : (o : ℕ) → LiesInPart corners tris P part o → IsTriOf corners part (tri_at tris o)
    tri_here o in_part =
        let t = tri_at tris o in
        let is = tiling.cover.triangles o in_part.0 in
        let A = vertex corners t.a in
        let B = vertex corners t.b in
        let C = vertex corners t.c in
        record {
          has_a = corner_here o t.a in_part is.has_a (first_in_triangle A B C is.counterclockwise);
          has_b = corner_here o t.b in_part is.has_b (middle_in_triangle A B C is.counterclockwise);
          has_c = corner_here o t.c in_part is.has_c (last_in_triangle A B C is.counterclockwise);
          counterclockwise = is.counterclockwise;
        }

    -- ---- points

    -- the triangles of the part cover it without overlap
    cover_here : IsPaved corners part tris (LiesInPart corners tris P part)
    cover_here = record {
      long = omega (arith, h.some);
      simple = h.simple;
      triangles = tri_here;
      covers = λ p at_p. (
        λ in_p.
            let (o, within, t) = (tiling.cover.covers p at_p).0 (h.within p at_p in_p) in
            elim (lies_cases o within) [
              | inl lies ↦ (o, (within, lies), t)
              | inr lies ↦ (
                m,
                here.in_part,
                side_in corners piece tris tiling.cover m a b here.in_part.0 here.has p at_p (c.common p at_p in_p (lies p at_p t)),
              )
            ],
        λ held. let (o, in_part, t) = held in in_part.1 p at_p t,
      );
      apart = λ p at_p x y order in_x in_y. tiling.cover.apart p at_p x y order in_x.0 in_y.0;
    }

    -- ---- sides

    -- an edge of the part is a side of one of them
    edges_here : (x y : ℕ) → IsPieceEdge part x y → (o : ℕ) × IsSideOfOneIn tris (LiesInPart corners tris P part) x y o
    edges_here x y e = elim (h.edge_cases x y e) [
      | inl outer ↦
          let (o, one) = tiling.edges x y outer in
          elim (lies_cases o one.in_part) [
            | inl lies ↦ (o, record { in_part = (one.in_part, lies); has = one.has; only = λ q in_q t. one.only q in_q.0 t })
            | inr lies ↦ absurd (not_across part other c x y o outer e one.in_part one.has lies)
          ]
      | inr ends ↦ (
        m,
        record { in_part = here.in_part; has = between_at (ends_back ends) here.has; only = λ q in_q t. only_here q in_q (between_at ends t) },
      )
    ]

    -- an edge of the piece that is a side of one of them is an edge of the part
    edge_kept : (x y o : ℕ) → LiesInPart corners tris P part o → HasSideBetween (tri_at tris o) x y → IsPieceEdge piece x y → IsPieceEdge part x y
    edge_kept x y o in_part has outer = elim (h.part_of_edge x y outer) [
      | inl e ↦ e
      | inr e ↦ absurd (not_across other part (covered_swapped c) x y o outer e in_part.0 has in_part.1)
    ]

    -- and any other side is one of two of them
    inner_here : (x y o : ℕ) → LiesInPart corners tris P part o → HasSide (tri_at tris o) x y → ¬ IsEdgeBetween part x y
        → (q : ℕ) × LiesInPart corners tris P part q × IsSideOfTwo tris x y o q
    inner_here x y o in_part has not =
        let (q, within, two) = tiling.inner_sides x y o in_part.0 has (λ e. not (elim e [
          | inl outer ↦ inl (edge_kept x y o in_part (inl has) outer)
          | inr outer ↦ inr (edge_kept y x o in_part (inr has) outer)
        ])) in
        elim (lies_cases q within) [
          | inl lies ↦ (q, (within, lies), two)
          | inr lies ↦
              let ends = shared_is_this corners piece tris tiling.cover a b k l s (piece_points corners part) (piece_points corners other) c o q x y
              in_part.0 within (inl has) (inr two.other_has) in_part.1 lies in
              absurd (not (edge_at_ends x y ends))
        ]
      where
        edge_at_ends : (x y : ℕ) → AreBoth a b x y → IsEdgeBetween part x y
        edge_at_ends x y (inl e) = subst (λ z. IsEdgeBetween part z y) (sym e.0) (subst (λ z. IsEdgeBetween part a z) (sym e.1) h.diagonal)
        edge_at_ends x y (inr e) =
            subst (λ z. IsEdgeBetween part z y) (sym e.0) (subst (λ z. IsEdgeBetween part b z) (sym e.1)
            (elim h.diagonal [ inl d ↦ inr d | inr d ↦ inl d ]))

    -- so the triangles that lie in the part tile it
    pub part_tiled : IsPartTiling corners part tris (LiesInPart corners tris P part)
    part_tiled = record {
      some = h.some;
      in_list = λ o in_part. tiling.in_list o in_part.0;
      cover = cover_here;
      edges = edges_here;
      inner_sides = inner_here;
    }
