-- Triangles that tile a piece are a tree, and two fewer than the piece has vertices: a side that two of them share cuts the piece in
-- two, and by induction it is so in each part.
use Rattle.std.proofs.Common.{◌≡◌, inl, inr, refl, sym, ap, subst, ℕ, zero, suc, ◌+◌, ◌<◌, List, [], ◌∷◌, ◌++◌, length, arith}
use Rattle.std.proofs.lemmas.List.{length-append}
use Rattle.std.specs.List.{Contains}
use Rattle.plane.specs.Point.{Point}
use Rattle.meshes.proofs.Boundaries.Counts.{all_count}
use Rattle.meshes.proofs.Boundaries.CutTilings.{LiesInPart, beside_both, first_is_part, side_covered, some_after}
use Rattle.meshes.proofs.Boundaries.CutTilings.{some_before}
use Rattle.meshes.proofs.Boundaries.OneTriangle.{one_is_tree, third_corner, three_vertices}
use Rattle.meshes.proofs.Boundaries.PartTilings.{IsEdgeBetween, IsPartTiling, IsSideOfOneIn, all_tile, edge_between_or_not, tiling_rotated}
use Rattle.meshes.proofs.Boundaries.SideCuts.{first_tiled, second_tiled}
use Rattle.meshes.proofs.Boundaries.TwoParts.{IsTreeFor, tree_of_parts}
use Rattle.meshes.proofs.Joins.{both_parts, contains_cases, edge_rotated, first_part, same_rotated, second_part}
use Rattle.meshes.proofs.Parts.{IsShared, shared_of, side_numbers}
use Rattle.meshes.proofs.Sides.{edge_of_step}
use Rattle.meshes.proofs.Walks.{IsPlace, tree_of_paths}
use Rattle.meshes.specs.Prelude.{FitsPiece, HasSideBetween, IsPieceEdge, IsSideOfTwo, tri_at}
use Rattle.meshes.specs.declared.tri.Tri.{Tri}
use Rattle.meshes.specs.Piece.{IsPolygonPiece}
use Rattle.meshes.specs.Tiling.{IsTiling}

-- a list at one of its members
split_member : (xs : List ℕ) (i : ℕ) → Contains xs i → (before : List ℕ) × (after : List ℕ) × (xs ≡ before ++ i ∷ after)
split_member [] i h = absurd (omega (arith, h.1))
split_member (x ∷ xs) i h = elim (contains_cases x xs i h) [
  | inl e ↦ ([], xs, ap (λ y. y ∷ xs) e)
  | inr h ↦ let (before, after, is) = split_member xs i h in (x ∷ before, after, ap (λ ys. x ∷ ys) is)
]

module _ (corners : List Point) (tris : List Tri) where
  -- the triangles that tile a piece of fewer than n vertices are a tree
  abbrev Fewer : ℕ → Type 1
  Fewer n = (piece : List ℕ) (P : ℕ → Type 0) → length piece < n → IsPartTiling corners piece tris P → IsTreeFor tris P (length piece)

  -- ---- at a shared side

  -- from the first vertex of the piece to another one,
  cut_from_first : (v : ℕ) (ps : List ℕ) (z : ℕ) (qs : List ℕ) (P : ℕ → Type 0) (tiling : IsPartTiling corners (both_parts v ps z qs) tris P)
      (k l : ℕ) → IsShared corners (both_parts v ps z qs) tris P v z k l → ¬ IsEdgeBetween (both_parts v ps z qs) v z → Fewer (length (both_parts v ps z qs))
      → IsTreeFor tris P (length (both_parts v ps z qs))
  cut_from_first v ps z qs P tiling k l s inner fewer =
      let whole : List ℕ = both_parts v ps z qs in
      let first : List ℕ = first_part v ps z in
      let second : List ℕ = second_part v z qs in
      let (m, n, here, there, only) = beside_both corners v ps z qs tris P tiling k l s inner in
      let c = side_covered corners v ps z qs tris P tiling k l s inner in
      let is_first = first_is_part corners v ps z qs tris P tiling k l s inner in
      let before = some_before corners v ps z qs tris P tiling k l s inner in
      let after = some_after corners v ps z qs tris P tiling k l s inner in
      let whole_long = length-append ps (z ∷ qs) in
      let first_long = length-append ps (z ∷ []) in
      tree_of_parts corners whole tris P tiling v z k l s inner first second c is_first m n here there only (length first) (length second)
      (length whole) (omega (arith, whole_long, first_long))
      (fewer first (LiesInPart corners tris P first) (omega (arith, whole_long, first_long, after))
      (first_tiled corners v ps z qs tris P tiling k l s inner))
      (fewer second (LiesInPart corners tris P second) (omega (arith, whole_long, before))
      (second_tiled corners v ps z qs tris P tiling k l s inner))

  -- and between any two vertices
  cut_between : (piece : List ℕ) (P : ℕ → Type 0) (tiling : IsPartTiling corners piece tris P) (i j k l : ℕ) → IsSideOfTwo tris i j k l → P k → P l
      → ¬ IsEdgeBetween piece i j → Fewer (length piece) → IsTreeFor tris P (length piece)
  cut_between piece P tiling i j k l two in_k in_l inner fewer =
      let s = shared_of corners piece tris tiling.cover i j k l two in_k in_l in
      let (xs, ys, is) = split_member piece i s.from_within in
      let here = subst (λ ns. IsPartTiling corners ns tris P) is tiling in
      let same = same_rotated corners xs (i ∷ ys) here.cover.simple in
      let after : Contains (ys ++ xs) j = elim (contains_cases i (ys ++ xs) j (same.members j (subst (λ ns. Contains ns j) is s.to_within))) [
        | inl e ↦ absurd (s.differ e)
        | inr h ↦ h
      ] in
      let (ps, qs, is_after) = split_member (ys ++ xs) j after in
      let turned : (i ∷ ys) ++ xs ≡ both_parts i ps j qs = ap (λ ns. i ∷ ns) is_after in
      let size : length (both_parts i ps j qs) ≡ length piece =
      omega (arith, ap length turned, ap length is, length-append (i ∷ ys) xs, length-append xs (i ∷ ys)) in
      let there = subst (λ ns. IsPartTiling corners ns tris P) turned (tiling_rotated corners xs (i ∷ ys) tris P here) in
      let back = λ (x y : ℕ) (e : IsPieceEdge (both_parts i ps j qs) x y).
      subst (λ ns. IsPieceEdge ns x y) (sym is) (edge_rotated (i ∷ ys) xs x y (subst (λ ns. IsPieceEdge ns x y) (sym turned) e)) in
      subst (IsTreeFor tris P) size
      (cut_from_first i ps j qs P there k l (shared_of corners (both_parts i ps j qs) tris there.cover i j k l two in_k in_l)
      (λ e. inner (elim e [ inl outer ↦ inl (back i j outer) | inr outer ↦ inr (back j i outer) ]))
      (λ part Q less tiled. fewer part Q (omega (arith, less, size)) tiled))

  -- a side of a triangle that is no edge of the piece is shared
  at_side : (piece : List ℕ) (P : ℕ → Type 0) (tiling : IsPartTiling corners piece tris P) (i j k : ℕ) → P k → HasSideBetween (tri_at tris k) i j
      → ¬ IsEdgeBetween piece i j → Fewer (length piece) → IsTreeFor tris P (length piece)
  at_side piece P tiling i j k within (inl has) inner fewer =
      let (l, in_l, two) = tiling.inner_sides i j k within has inner in
      cut_between piece P tiling i j k l two within in_l inner fewer
  at_side piece P tiling i j k within (inr has) inner fewer =
      let other = λ (e : IsEdgeBetween piece j i). inner (elim e [ inl outer ↦ inr outer | inr outer ↦ inl outer ]) in
      let (l, in_l, two) = tiling.inner_sides j i k within has other in
      cut_between piece P tiling j i k l two within in_l other fewer

  -- ---- all pieces

  -- a piece of three vertices,
  of_three : (v w : ℕ) (rest : List ℕ) (P : ℕ → Type 0) → IsPartTiling corners (v ∷ w ∷ rest) tris P → (k : ℕ) → IsSideOfOneIn tris P v w k
      → length rest ≡ 1 → IsTreeFor tris P (length (v ∷ w ∷ rest))
  of_three v w [] P tiling k one three = absurd (omega (arith, three))
  of_three v w (u ∷ []) P tiling k one three = one_is_tree corners v w u tris P tiling k one
  of_three v w (u ∷ x ∷ xs) P tiling k one three = absurd (omega (arith, three))

  -- and any other, at a side of the triangle at its first edge
  tree_step : (piece : List ℕ) (P : ℕ → Type 0) → IsPartTiling corners piece tris P → Fewer (length piece) → IsTreeFor tris P (length piece)
  tree_step [] P tiling fewer = absurd (omega (arith, tiling.some))
  tree_step (v ∷ []) P tiling fewer = absurd (omega (arith, tiling.some))
  tree_step (v ∷ w ∷ rest) P tiling fewer =
      let piece : List ℕ = v ∷ w ∷ rest in
      let (k, one) = tiling.edges v w (edge_of_step v (w ∷ rest) v w (inl (refl, refl))) in
      let (c, second, third) = third_corner (tri_at tris k) v w one.has in
      elim (edge_between_or_not piece w c) [
        | inr inner ↦ at_side piece P tiling w c k one.in_part second inner fewer
        | inl outer ↦ elim (edge_between_or_not piece c v) [
          | inr inner ↦ at_side piece P tiling c v k one.in_part third inner fewer
          | inl last ↦
              let ends = side_numbers corners piece tris tiling.cover k c v one.in_part third in
              of_three v w rest P tiling k one (three_vertices corners v w rest tris P tiling c ends.0 ends.2 outer last)
        ]
      ]

  -- so the triangles that tile a piece are a tree
  all_trees : (n : ℕ) → Fewer n
  all_trees zero = λ piece P less tiling. absurd (omega (arith, less))
  all_trees (suc n) = λ piece P less tiling.
      tree_step piece P tiling (λ part Q shorter tiled. all_trees n part Q (omega (arith, less, shorter)) tiled)

-- triangles that tile a piece fit it
pub fits_tiled : (corners : List Point) (piece : List ℕ) (tris : List Tri) → IsPolygonPiece corners piece → IsTiling corners piece tris
    → FitsPiece corners piece tris
fits_tiled corners piece tris polygon tiling =
    let tree = all_trees corners tris (length piece + 1) piece (IsPlace tris) (omega arith) (all_tile corners piece tris tiling) in
    record {
      simple = tiling.simple;
      count = omega (arith, tree.two_fewer, all_count (IsPlace tris) (length tris) tree.count (λ k h. h) tree.counted);
      triangles = tiling.triangles;
      edges = tiling.edges;
      inner_sides = tiling.inner_sides;
      covers = tiling.covers;
      apart = tiling.apart;
      tree = tree_of_paths tris tree.tree;
    }
