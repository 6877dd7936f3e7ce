-- Triangles that tile a piece and have its edges as sides in the direction of the piece: so it is with a mesh, and with the triangles of
-- each part into which a shared side cuts the piece.
use Rattle.std.proofs.Common.{◌≡◌, inl, inr, refl, sym, ap, subst, ◌∙◌, ℕ, suc, ◌+◌, ◌-◌, ◌<◌, ◌≤◌, List, [], ◌∷◌, ◌++◌, length, get_or}
use Rattle.std.proofs.Common.{arith}
use Rattle.std.proofs.lemmas.List.{append_assoc}
use Rattle.std.specs.List.{Contains}
use Rattle.plane.specs.Order.{IsBefore}
use Rattle.plane.specs.Point.{Point}
use Rattle.rings.specs.Ring.{vertex}
use Rattle.rings.specs.Simple.{IsSimple}
use Rattle.meshes.proofs.Boundaries.{IsEdgeBetween, IsPartTiling, LiesInPart, all_tile, beside_both, first_tiled, second_tiled, tiling_rotated}
use Rattle.meshes.proofs.Joins.{both_parts, contains_first_part, edge_places, edge_rotated, first_diagonal, first_part, first_part_cases}
use Rattle.meshes.proofs.Joins.{next_place, place_of, second_diagonal, second_part, second_part_cases}
use Rattle.meshes.proofs.Parts.{IsShared, shared_of, side_numbers}
use Rattle.meshes.proofs.Sides.{corners_differ, edge_of_step, one_direction, one_number}
use Rattle.meshes.proofs.Walks.{IsPlace}
use Rattle.meshes.specs.Fits.{FitsPiece, IsPieceEdge, IsSideOfTwo, piece_points}
use Rattle.meshes.specs.Side.{HasSide, HasSideBetween, tri_at}
use Rattle.meshes.specs.declared.tri.Tri.{Tri}
use Rattle.cut_tri.proofs.Shapes.{ends_length, last_is}
use Rattle.flip_tri.proofs.Fans.{fan_at_first, last_triangle}
use Rattle.flip_tri.specs.Fan.{IsAbout}

-- the triangles with numbers in P tile the piece, and where one has a side between the ends of an edge, it has it in the edge's direction
pub record IsDirectedTiling (corners : List Point) (piece : List ℕ) (tris : List Tri) (P : ℕ → Type 0) : Type 0 where
  pub tiling : IsPartTiling corners piece tris P
  pub directed : (i j k : ℕ) → IsPieceEdge piece i j → P k → HasSideBetween (tri_at tris k) i j → HasSide (tri_at tris k) i j

-- all triangles of a mesh do
pub mesh_tiles : (corners : List Point) (piece : List ℕ) (tris : List Tri) → 3 ≤ length piece → FitsPiece corners piece tris
    → IsDirectedTiling corners piece tris (IsPlace tris)
mesh_tiles corners piece tris some fits = record {
  tiling = all_tile corners piece tris (record {
    some = some;
    simple = fits.simple;
    triangles = fits.triangles;
    edges = fits.edges;
    inner_sides = fits.inner_sides;
    covers = fits.covers;
    apart = fits.apart;
  });
  directed = λ i j k e within has.
      let (l, one) = fits.edges i j e in
      subst (λ (n : ℕ). HasSide (tri_at tris n) i j) (sym (one.only k within has)) one.has;
}

-- a piece read from another vertex on is tiled by the same ones
pub directed_rotated : (corners : List Point) (xs ys : List ℕ) (tris : List Tri) (P : ℕ → Type 0) → IsDirectedTiling corners (xs ++ ys) tris P
    → IsDirectedTiling corners (ys ++ xs) tris P
directed_rotated corners xs ys tris P is = record {
  tiling = tiling_rotated corners xs ys tris P is.tiling;
  directed = λ i j k e. is.directed i j k (edge_rotated ys xs i j e);
}

-- no edge of a simple piece is between the vertices at two places that are not next to each other
pub not_next : (corners : List Point) (piece : List ℕ) → IsSimple (piece_points corners piece) → (p q i j : ℕ) → p + 1 < q → q < length piece
    → ¬ ((p ≡ 0) × (q + 1 ≡ length piece)) → get_or piece p 0 ≡ i → get_or piece q 0 ≡ j → ¬ IsEdgeBetween piece i j
not_next corners piece simple p q i j apart within not_ends at_p at_q (inl e) =
    let at = edge_places corners piece simple p q i j (omega (arith, apart, within)) within at_p at_q e in
    elim (next_place e.place (length piece) e.in_piece) [
      | inl k ↦ absurd (omega (arith, k.1, at.0, at.1, apart))
      | inr k ↦ absurd (omega (arith, k.1, at.0, at.1, apart))
    ]
not_next corners piece simple p q i j apart within not_ends at_p at_q (inr e) =
    let at = edge_places corners piece simple q p j i within (omega (arith, apart, within)) at_q at_p e in
    elim (next_place e.place (length piece) e.in_piece) [
      | inl k ↦ absurd (omega (arith, k.1, at.0, at.1, apart))
      | inr k ↦ absurd (not_ends (omega (arith, k.1, at.1), omega (arith, k.0, at.0)))
    ]

-- a side between two numbers is one between them in the other order
side_between_back : (t : Tri) (i j : ℕ) → HasSideBetween t i j → HasSideBetween t j i
side_between_back t i j (inl h) = inr h
side_between_back t i j (inr h) = inl h

-- no triangle of a tiling has a side in both directions
one_way : (corners : List Point) (piece : List ℕ) (tris : List Tri) (P : ℕ → Type 0) → IsPartTiling corners piece tris P → (i j k : ℕ) → P k
    → HasSide (tri_at tris k) i j → ¬ HasSide (tri_at tris k) j i
one_way corners piece tris P tiling i j k within has =
    let t = tri_at tris k in
    let differ = corners_differ corners t (tiling.cover.triangles k within).counterclockwise in
    one_direction t.a t.b t.c i j differ.0 differ.1 differ.2 has

-- ---- without the first vertex

module _ (corners : List Point) (tris : List Tri) (v w : ℕ) (ms : List ℕ) (u : ℕ) (P : ℕ → Type 0)
    (is : IsDirectedTiling corners (v ∷ w ∷ (ms ++ u ∷ [])) tris P) (some : 0 < length ms) (about : IsAbout tris P v w u) where
  -- the side across from the first vertex is no edge
  across_inner : ¬ IsEdgeBetween (v ∷ w ∷ (ms ++ u ∷ [])) w u
  across_inner =
      let size = ends_length v w ms u in
      not_next corners (v ∷ w ∷ (ms ++ u ∷ [])) is.tiling.cover.simple 1 (length (v ∷ w ∷ (ms ++ u ∷ [])) - 1) w u
      (omega (arith, some, size)) (omega arith) (λ h. omega (arith, h.0)) refl (last_is v w ms u)

  -- the piece read from the second vertex on
  turned : (w ∷ (ms ++ u ∷ [])) ++ v ∷ [] ≡ both_parts w ms u (v ∷ [])
  turned = ap (λ xs. w ∷ xs) (append_assoc ms (u ∷ []) (v ∷ []))

  from_second : IsDirectedTiling corners (both_parts w ms u (v ∷ [])) tris P
  from_second = subst (λ xs. IsDirectedTiling corners xs tris P) turned (directed_rotated corners (v ∷ []) (w ∷ (ms ++ u ∷ [])) tris P is)

  inner_from_second : ¬ IsEdgeBetween (both_parts w ms u (v ∷ [])) w u
  inner_from_second h =
      let back = λ (i j : ℕ) (e : IsPieceEdge (both_parts w ms u (v ∷ [])) i j).
      edge_rotated (w ∷ (ms ++ u ∷ [])) (v ∷ []) i j (subst (λ xs. IsPieceEdge xs i j) (sym turned) e) in
      across_inner (elim h [ inl e ↦ inl (back w u e) | inr e ↦ inr (back u w e) ])

  -- another triangle has that side
  beyond : (l : ℕ) × P l × IsSideOfTwo tris w u about.tri l
  beyond = is.tiling.inner_sides w u about.tri about.in_part about.round.second across_inner

  shared : IsShared corners (both_parts w ms u (v ∷ [])) tris P w u about.tri beyond.0
  shared = shared_of corners (both_parts w ms u (v ∷ [])) tris from_second.tiling.cover w u about.tri beyond.0 beyond.2 about.in_part beyond.1

  -- the other triangles of the piece tile what is left of it
  abbrev Rest : ℕ → Type 0
  Rest = LiesInPart corners tris P (w ∷ (ms ++ u ∷ []))

  rest_tiled : IsPartTiling corners (w ∷ (ms ++ u ∷ [])) tris Rest
  rest_tiled = first_tiled corners w ms u (v ∷ []) tris P from_second.tiling about.tri beyond.0 shared inner_from_second

  -- the triangle at the first vertex is none of them
  not_in_rest : ¬ Rest about.tri
  not_in_rest within =
      let ends = side_numbers corners (w ∷ (ms ++ u ∷ [])) tris rest_tiled.cover about.tri v w within (inl about.round.first) in
      let (p, in_p, at_p) = place_of (w ∷ (ms ++ u ∷ [])) v ends.0 in
      let same = one_number corners (v ∷ w ∷ (ms ++ u ∷ [])) is.tiling.cover.simple 0 (suc p) (omega arith) (omega (arith, in_p)) (sym at_p) in
      omega (arith, same)

  -- the side across is an edge of the rest in the other direction, and that of the triangle beyond
  rest_directed : (i j k : ℕ) → IsPieceEdge (w ∷ (ms ++ u ∷ [])) i j → Rest k → HasSideBetween (tri_at tris k) i j → HasSide (tri_at tris k) i j
  rest_directed i j k e within has = elim (first_part_cases w ms u (v ∷ []) i j e) [
    | inl outer ↦ from_second.directed i j k outer within.0 has
    | inr ends ↦
        let there : HasSideBetween (tri_at tris k) u w = subst (λ (m : ℕ). HasSideBetween (tri_at tris k) m w) ends.0
        (subst (λ (m : ℕ). HasSideBetween (tri_at tris k) i m) ends.1 has) in
        elim (beyond.2.only k (is.tiling.in_list k within.0) (side_between_back (tri_at tris k) u w there)) [
          | inl near ↦ absurd (not_in_rest (subst Rest near within))
          | inr far ↦
              subst (λ (m : ℕ). HasSide (tri_at tris k) m j) (sym ends.0)
              (subst (λ (m : ℕ). HasSide (tri_at tris k) u m) (sym ends.1)
              (subst (λ (n : ℕ). HasSide (tri_at tris n) u w) (sym far) beyond.2.other_has))
        ]
  ]

  pub rest_tiles : IsDirectedTiling corners (w ∷ (ms ++ u ∷ [])) tris (LiesInPart corners tris P (w ∷ (ms ++ u ∷ [])))
  rest_tiles = record { tiling = rest_tiled; directed = rest_directed }

-- ---- two parts

module _ (corners : List Point) (tris : List Tri) (v w : ℕ) (cs : List ℕ) (z : ℕ) (qs : List ℕ) (P : ℕ → Type 0)
    (is : IsDirectedTiling corners (both_parts v (w ∷ cs) z qs) tris P)
    (least : (i : ℕ) → Contains (both_parts v (w ∷ cs) z qs) i → ¬ (i ≡ v) → IsBefore (vertex corners v) (vertex corners i))
    (k l : ℕ) (two : IsSideOfTwo tris v z k l) (in_k : P k) (in_l : P l) (inner : ¬ IsEdgeBetween (both_parts v (w ∷ cs) z qs) v z) where
  side : IsShared corners (both_parts v (w ∷ cs) z qs) tris P v z k l
  side = shared_of corners (both_parts v (w ∷ cs) z qs) tris is.tiling.cover v z k l two in_k in_l

  -- the triangles of each part
  abbrev First : ℕ → Type 0
  First = LiesInPart corners tris P (first_part v (w ∷ cs) z)

  abbrev Second : ℕ → Type 0
  Second = LiesInPart corners tris P (second_part v z qs)

  in_first : IsPartTiling corners (first_part v (w ∷ cs) z) tris First
  in_first = first_tiled corners v (w ∷ cs) z qs tris P is.tiling k l side inner

  in_second : IsPartTiling corners (second_part v z qs) tris Second
  in_second = second_tiled corners v (w ∷ cs) z qs tris P is.tiling k l side inner

  -- the last triangle at v in the first part has the side from z to v
  last_in_first : (m : ℕ) × First m × HasSide (tri_at tris m) z v
  last_in_first =
      let (m, one) = in_first.edges v w (edge_of_step v (w ∷ (cs ++ z ∷ [])) v w (inl (refl, refl))) in
      let has = is.directed v w m (edge_of_step v (w ∷ (cs ++ z ∷ qs)) v w (inl (refl, refl))) one.in_part.0 one.has in
      let fan = fan_at_first corners tris v w cs z First in_first (λ i h. least i (contains_first_part v (w ∷ cs) z qs i h)) m one.in_part has in
      let (q, about) = last_triangle tris First v z w fan in
      (about.tri, about.in_part, about.round.third)

  -- and no other one has a side between them
  only_last : (n : ℕ) → First n → HasSideBetween (tri_at tris n) z v → n ≡ last_in_first.0
  only_last n within has =
      let (m, one) = in_first.edges z v (first_diagonal v (w ∷ cs) z qs) in
      one.only n within has ∙ sym (one.only last_in_first.0 last_in_first.1 (inl last_in_first.2))

  first_directed : (i j n : ℕ) → IsPieceEdge (first_part v (w ∷ cs) z) i j → First n → HasSideBetween (tri_at tris n) i j → HasSide (tri_at tris n) i j
  first_directed i j n e within has = elim (first_part_cases v (w ∷ cs) z qs i j e) [
    | inl outer ↦ is.directed i j n outer within.0 has
    | inr ends ↦
        let there : HasSideBetween (tri_at tris n) z v = subst (λ (m : ℕ). HasSideBetween (tri_at tris n) m v) ends.0
        (subst (λ (m : ℕ). HasSideBetween (tri_at tris n) i m) ends.1 has) in
        subst (λ (m : ℕ). HasSide (tri_at tris n) m j) (sym ends.0)
        (subst (λ (m : ℕ). HasSide (tri_at tris n) z m) (sym ends.1)
        (subst (λ (m : ℕ). HasSide (tri_at tris m) z v) (sym (only_last n within there)) last_in_first.2))
  ]

  -- so it is the second one of the two, which is not in the second part
  second_is_last : l ≡ last_in_first.0
  second_is_last = elim (two.only last_in_first.0 (is.tiling.in_list last_in_first.0 last_in_first.1.0) (inr last_in_first.2)) [
    | inl near ↦ absurd (one_way corners (both_parts v (w ∷ cs) z qs) tris P is.tiling v z k in_k two.has
        (subst (λ (m : ℕ). HasSide (tri_at tris m) z v) near last_in_first.2))
    | inr far ↦ sym far
  ]

  second_not_in : ¬ Second l
  second_not_in within =
      let (m, n, here, there, only) = beside_both corners v (w ∷ cs) z qs tris P is.tiling k l side inner in
      let (o, one) = in_second.edges v z (second_diagonal v (w ∷ cs) z qs) in
      let l_is_n : l ≡ n = one.only l within (inr two.other_has) ∙ sym (one.only n there.in_part there.has) in
      let l_is_m : l ≡ m = second_is_last ∙ sym (only_last m here.in_part (side_between_back (tri_at tris m) v z here.has)) in
      two.different (elim (only k in_k (inl two.has)) [ inl e ↦ e ∙ sym l_is_m | inr e ↦ e ∙ sym l_is_n ])

  second_directed : (i j n : ℕ) → IsPieceEdge (second_part v z qs) i j → Second n → HasSideBetween (tri_at tris n) i j → HasSide (tri_at tris n) i j
  second_directed i j n e within has = elim (second_part_cases v (w ∷ cs) z qs i j e) [
    | inl outer ↦ is.directed i j n outer within.0 has
    | inr ends ↦
        let there : HasSideBetween (tri_at tris n) v z = subst (λ (m : ℕ). HasSideBetween (tri_at tris n) m z) ends.0
        (subst (λ (m : ℕ). HasSideBetween (tri_at tris n) i m) ends.1 has) in
        elim (two.only n (is.tiling.in_list n within.0) there) [
          | inl near ↦
              subst (λ (m : ℕ). HasSide (tri_at tris n) m j) (sym ends.0)
              (subst (λ (m : ℕ). HasSide (tri_at tris n) v m) (sym ends.1) (subst (λ (m : ℕ). HasSide (tri_at tris m) v z) (sym near) two.has))
          | inr far ↦ absurd (second_not_in (subst Second far within))
        ]
  ]

  pub first_tiles : IsDirectedTiling corners (first_part v (w ∷ cs) z) tris (LiesInPart corners tris P (first_part v (w ∷ cs) z))
  first_tiles = record { tiling = in_first; directed = first_directed }

  pub second_tiles : IsDirectedTiling corners (second_part v z qs) tris (LiesInPart corners tris P (second_part v z qs))
  second_tiles = record { tiling = in_second; directed = second_directed }
