-- The triangles and sides of two meshes that fit the parts of a piece cut by a diagonal.
-- Two meshes that fit the parts of a piece cut by a diagonal fit the piece together.
use Rattle.std.proofs.Common.{◌⊎◌, inl, inr, sym, ap, subst, ◌∙◌, ℕ, ◌<◌, List, [], ◌∷◌, ◌++◌, length, arith, ◌≡◌, ◌+◌}
use Rattle.std.proofs.lemmas.List.{length-append}
use Rattle.std.specs.Prelude.{◌↔◌}
use Rattle.plane.proofs.Points.{whole_is_point}
use Rattle.plane.proofs.Segments.{on_is_straight}
use Rattle.plane.specs.Point.{IsPoint, Point, Triple, whole}
use Rattle.rings.specs.Prelude.{IsIn, vertex}
use Rattle.meshes.proofs.Joins.Cuts.{IsCut, both_parts, common_ends, contains_first_part, contains_second_part, first_diagonal, first_part}
use Rattle.meshes.proofs.Joins.Cuts.{first_part_cases, part_of_edge, second_diagonal, second_part, second_part_cases, ends_differ, not_edge}
use Rattle.meshes.proofs.Joins.Halves.{IsHalf, half_edges, half_inner_sides, between_back, common_side, between_at}
use Rattle.meshes.proofs.Joins.OffDiagonal.{not_in_both}
use Rattle.meshes.proofs.Joins.TwoLists.{are_parts, as_first, as_second, at_first, at_second, parts_back, IsPlaceOf, tree_joined}
use Rattle.meshes.specs.Prelude.{FitsPiece, HasSide, IsInTri, IsPieceEdge, IsSideOfOne, IsSideOfTwo, IsStrictlyInTri, IsTree, IsTriOf}
use Rattle.meshes.specs.Prelude.{piece_points, tri_at}
use Rattle.meshes.specs.declared.tri.Tri.{Tri}

-- two cases the other way round
cases_back : {A B : Type 0} → A ⊎ B → B ⊎ A
cases_back (inl h) = inr h
cases_back (inr h) = inl h

module _ (corners : List Point) (v : ℕ) (ps : List ℕ) (z : ℕ) (qs : List ℕ) (ts us : List Tri) (cut : IsCut corners v ps z qs)
    (first : FitsPiece corners (first_part v ps z) ts) (second : FitsPiece corners (second_part v z qs) us) where
  -- each part has a vertex beside the diagonal's ends
  some_before : 0 < length ps
  some_before =
      let (k, one) = first.edges z v (first_diagonal v ps z qs) in
      omega (arith, one.in_list, first.count, length-append ps (z ∷ []))

  some_after : 0 < length qs
  some_after =
      let (k, one) = second.edges v z (second_diagonal v ps z qs) in
      omega (arith, one.in_list, second.count)

  -- the first part is a half of the piece,
  pub first_half : IsHalf corners (both_parts v ps z qs) (first_part v ps z) (second_part v z qs) ts us z v
  first_half = record {
    fits = first;
    other_fits = second;
    diagonal = first_diagonal v ps z qs;
    other_diagonal = second_diagonal v ps z qs;
    common = λ i h k. cases_back (common_ends v ps z qs corners cut.simple i h k);
    edge_cases = first_part_cases v ps z qs;
    not_edge = λ i j e ends. not_edge corners v ps z qs cut.simple some_before some_after i j e (cases_back ends);
  }

  -- and the second one the other
  second_half : IsHalf corners (both_parts v ps z qs) (second_part v z qs) (first_part v ps z) us ts v z
  second_half = record {
    fits = second;
    other_fits = first;
    diagonal = second_diagonal v ps z qs;
    other_diagonal = first_diagonal v ps z qs;
    common = λ i h k. common_ends v ps z qs corners cut.simple i k h;
    edge_cases = second_part_cases v ps z qs;
    not_edge = not_edge corners v ps z qs cut.simple some_before some_after;
  }

  -- the triangles are triangles of the piece
  pub joined_triangles : (k : ℕ) → k < length (ts ++ us) → IsTriOf corners (both_parts v ps z qs) (tri_at (ts ++ us) k)
  joined_triangles k h = elim ((are_parts ts us).cases k h) [
    | inl at ↦
        let is = first.triangles at.k at.in_part in
        subst (λ n. IsTriOf corners (both_parts v ps z qs) (tri_at (ts ++ us) n)) at.is
        (subst (IsTriOf corners (both_parts v ps z qs)) (sym (at_first ts us at.k at.in_part)) (record {
          has_a = contains_first_part v ps z qs _ is.has_a;
          has_b = contains_first_part v ps z qs _ is.has_b;
          has_c = contains_first_part v ps z qs _ is.has_c;
          counterclockwise = is.counterclockwise;
        }))
    | inr at ↦
        let is = second.triangles at.k at.in_part in
        subst (λ n. IsTriOf corners (both_parts v ps z qs) (tri_at (ts ++ us) n)) at.is
        (subst (IsTriOf corners (both_parts v ps z qs)) (sym (at_second ts us at.k)) (record {
          has_a = contains_second_part v ps z qs _ is.has_a;
          has_b = contains_second_part v ps z qs _ is.has_b;
          has_c = contains_second_part v ps z qs _ is.has_c;
          counterclockwise = is.counterclockwise;
        }))
  ]

  -- an edge of the piece is a side of one triangle
  pub joined_edges : (i j : ℕ) → IsPieceEdge (both_parts v ps z qs) i j → (k : ℕ) × IsSideOfOne (ts ++ us) i j k
  joined_edges i j e = elim (part_of_edge v ps z qs i j e) [
    | inl h ↦
        half_edges corners (both_parts v ps z qs) (first_part v ps z) (second_part v z qs) ts us z v first_half (ts ++ us)
        as_first (as_second ts) (are_parts ts us) i j h e
    | inr h ↦
        half_edges corners (both_parts v ps z qs) (second_part v z qs) (first_part v ps z) us ts v z second_half (ts ++ us)
        (as_second ts) as_first (parts_back (are_parts ts us)) i j h e
  ]

  -- any other side is one of two
  pub joined_inner_sides : (i j k : ℕ) → k < length (ts ++ us) → HasSide (tri_at (ts ++ us) k) i j → ¬ IsPieceEdge (both_parts v ps z qs) i j
      → (l : ℕ) × IsSideOfTwo (ts ++ us) i j k l
  joined_inner_sides i j k h side inner = elim ((are_parts ts us).cases k h) [
    | inl at ↦
        let same = sym (ap (tri_at (ts ++ us)) at.is) ∙ at_first ts us at.k at.in_part in
        let (l, two) =
        half_inner_sides corners (both_parts v ps z qs) (first_part v ps z) (second_part v z qs) ts us z v first_half (ts ++ us)
        as_first (as_second ts) (are_parts ts us) i j at.k at.in_part (subst (λ t. HasSide t i j) same side) inner in
        (l, subst (λ n. IsSideOfTwo (ts ++ us) i j n l) at.is two)
    | inr at ↦
        let same = sym (ap (tri_at (ts ++ us)) at.is) ∙ at_second ts us at.k in
        let (l, two) =
        half_inner_sides corners (both_parts v ps z qs) (second_part v z qs) (first_part v ps z) us ts v z second_half (ts ++ us)
        (as_second ts) as_first (parts_back (are_parts ts us)) i j at.k at.in_part (subst (λ t. HasSide t i j) same side) inner in
        (l, subst (λ n. IsSideOfTwo (ts ++ us) i j n l) at.is two)
  ]

module _ (corners : List Point) (v : ℕ) (ps : List ℕ) (z : ℕ) (qs : List ℕ) (ts us : List Tri) (cut : IsCut corners v ps z qs)
    (first : FitsPiece corners (first_part v ps z) ts) (second : FitsPiece corners (second_part v z qs) us) where
  -- triangle n of the joined list, as one of the first,
  triangle_first : (n : ℕ) (at : IsPlaceOf ts as_first n) → tri_at (ts ++ us) n ≡ tri_at ts at.k
  triangle_first n at = sym (ap (tri_at (ts ++ us)) at.is) ∙ at_first ts us at.k at.in_part

  -- or of the second
  triangle_second : (n : ℕ) (at : IsPlaceOf us (as_second ts) n) → tri_at (ts ++ us) n ≡ tri_at us at.k
  triangle_second n at = sym (ap (tri_at (ts ++ us)) at.is) ∙ at_second ts us at.k

  -- what is in the piece is in a triangle, and the other way round
  joined_covers : (p : Triple) → IsPoint p → IsIn (piece_points corners (both_parts v ps z qs)) p
      ↔ ((k : ℕ) × (k < length (ts ++ us)) × IsInTri corners (tri_at (ts ++ us) k) p)
  joined_covers p at_p = (
    λ h. elim ((cut.inside p at_p).0 h) [
      | inl in_first ↦
          let (k, within, in_tri) = (first.covers p at_p).0 in_first in
          (k, omega (arith, length-append ts us, within), subst (λ t. IsInTri corners t p) (sym (at_first ts us k within)) in_tri)
      | inr in_second ↦
          let (k, within, in_tri) = (second.covers p at_p).0 in_second in
          (length ts + k, omega (arith, length-append ts us, within), subst (λ t. IsInTri corners t p) (sym (at_second ts us k)) in_tri)
    ],
    λ h. let (k, within, in_tri) = h in (cut.inside p at_p).1 (elim ((are_parts ts us).cases k within) [
      | inl at ↦ inl ((first.covers p at_p).1 (at.k, at.in_part, subst (λ t. IsInTri corners t p) (triangle_first k at) in_tri))
      | inr at ↦ inr ((second.covers p at_p).1 (at.k, at.in_part, subst (λ t. IsInTri corners t p) (triangle_second k at) in_tri))
    ]),
  )

  -- no point is strictly inside a triangle of each part,
  apart_across : (m n : ℕ) → m < length ts → n < length us → (p : Triple) → IsPoint p
      → ¬ (IsStrictlyInTri corners (tri_at ts m) p × IsStrictlyInTri corners (tri_at us n) p)
  apart_across m n h k =
      let a = vertex corners v in
      let b = vertex corners z in
      not_in_both corners (tri_at ts m) (tri_at us n) a b (ends_differ v ps z qs corners cut.simple)
      (λ q at_q in_t in_u.
      on_is_straight q (whole a) (whole b) at_q (whole_is_point a) (whole_is_point b)
      (cut.common q at_q ((first.covers q at_q).1 (m, h, in_t)) ((second.covers q at_q).1 (n, k, in_u))))

  -- or strictly inside two triangles
  joined_apart : (p : Triple) → IsPoint p → (k l : ℕ) → k < l → l < length (ts ++ us)
      → ¬ (IsStrictlyInTri corners (tri_at (ts ++ us) k) p × IsStrictlyInTri corners (tri_at (ts ++ us) l) p)
  joined_apart p at_p k l order within h =
      let in_first = λ (n : ℕ) (at : IsPlaceOf ts as_first n) (s : IsStrictlyInTri corners (tri_at (ts ++ us) n) p).
      subst (λ t. IsStrictlyInTri corners t p) (triangle_first n at) s in
      let in_second = λ (n : ℕ) (at : IsPlaceOf us (as_second ts) n) (s : IsStrictlyInTri corners (tri_at (ts ++ us) n) p).
      subst (λ t. IsStrictlyInTri corners t p) (triangle_second n at) s in
      elim ((are_parts ts us).cases k (omega arith)) [
        | inl at ↦ elim ((are_parts ts us).cases l within) [
          | inl to ↦ first.apart p at_p at.k to.k (omega (arith, at.is, to.is)) to.in_part (in_first k at h.0, in_first l to h.1)
          | inr to ↦ apart_across at.k to.k at.in_part to.in_part p at_p (in_first k at h.0, in_second l to h.1)
        ]
        | inr at ↦ elim ((are_parts ts us).cases l within) [
          | inl to ↦ absurd (omega (arith, at.is, to.is, to.in_part))
          | inr to ↦ second.apart p at_p at.k to.k (omega (arith, at.is, to.is)) to.in_part (in_second k at h.0, in_second l to h.1)
        ]
      ]

  -- ---- the tree

  -- the two triangles at the diagonal share it, and no others across the parts share a side
  joined_tree : IsTree (ts ++ us)
  joined_tree =
      let (k, one) = first.edges z v (first_diagonal v ps z qs) in
      let (l, other) = second.edges v z (second_diagonal v ps z qs) in
      let half = first_half corners v ps z qs ts us cut first second in
      tree_joined ts us k l (record {
        in_first = one.in_list;
        in_second = other.in_list;
        share = record { i = z; j = v; of_first = one.has; of_second = inr other.has };
        only = λ m n h i s.
            let ends =
            common_side corners (both_parts v ps z qs) (first_part v ps z) (second_part v z qs) ts us z v half m n s.i s.j h i (inl s.of_first) s.of_second in
            (one.only m h (between_at ends (inl s.of_first)), other.only n i (between_back (between_at ends s.of_second)));
      }) first.tree second.tree

  -- so the meshes fit the piece together
  pub fits_joined : FitsPiece corners (both_parts v ps z qs) (ts ++ us)
  fits_joined = record {
    simple = cut.simple;
    count = omega (arith, length-append ts us, length-append ps (z ∷ qs), length-append ps (z ∷ []), first.count, second.count);
    triangles = joined_triangles corners v ps z qs ts us cut first second;
    edges = joined_edges corners v ps z qs ts us cut first second;
    inner_sides = joined_inner_sides corners v ps z qs ts us cut first second;
    covers = joined_covers;
    apart = joined_apart;
    tree = joined_tree;
  }
