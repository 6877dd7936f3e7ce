-- The parts of a piece that a diagonal cuts in two, and the triangles that lie in them.
-- A tiled piece that a shared side cuts from its first vertex to another one: the two parts, and the triangles beside the side in them.
use Rattle.std.proofs.Common.{◌⊎◌, ℕ, ◌≤◌, List, length, ◌≡◌, inl, inr, refl, sym, subst, ap, ◌<◌, [], ◌∷◌, ◌++◌, arith}
use Rattle.std.proofs.lemmas.List.{length-append, map-append}
use Rattle.std.proofs.lemmas.List.Elements.{Contains-append_cases, Contains-append_left, Contains-append_right}
use Rattle.std.specs.List.{Contains}
use Rattle.plane.proofs.Segments.{middle, middle_on, on_reversed}
use Rattle.plane.specs.Point.{IsPoint, Point, Triple, whole}
use Rattle.rings.proofs.Simple.{apart_of_simple}
use Rattle.rings.specs.Apart.{IsApartRing}
use Rattle.rings.specs.Prelude.{edge, edges_of, HasEdge, IsIn, IsSimple, vertex}
use Rattle.ring_laws.proofs.Cuts.{cut_from_first}
use Rattle.ring_laws.proofs.Diagonals.{AreBoth}
use Rattle.ring_laws.specs.Diagonal.{IsDiagonal}
use Rattle.ring_laws.specs.Pieces.{IsCutInTwo}
use Rattle.meshes.proofs.Boundaries.PartTilings.{IsEdgeBetween, IsPartTiling}
use Rattle.meshes.proofs.Joins.{both_parts, contains_cases, contains_first, contains_rest, first_diagonal, first_part}
use Rattle.meshes.proofs.Joins.{first_part_cases, part_of_edge, second_diagonal, second_part, second_part_cases}
use Rattle.meshes.proofs.Parts.{IsCovered, LiesIn, IsShared, last_edge, lies_in_one, not_in_one, ring_apart, shared_is_diagonal}
use Rattle.meshes.proofs.Sides.{length_points}
use Rattle.meshes.specs.Prelude.{HasSideBetween, IsPieceEdge, piece_points, tri_at}
use Rattle.meshes.specs.declared.tri.Tri.{Tri}

-- one of the two parts of a piece that the diagonal between a and b cuts
pub record IsPartOf (corners : List Point) (piece part other : List ℕ) (a b : ℕ) : Type 0 where
  pub some : 3 ≤ length part
  pub simple : IsSimple (piece_points corners part)
  pub within : (p : Triple) → IsPoint p → IsIn (piece_points corners part) p → IsIn (piece_points corners piece) p
  pub has_first : Contains part a
  pub has_last : Contains part b
  pub member_cases : (i : ℕ) → Contains piece i → Contains part i ⊎ Contains other i
  pub diagonal : IsEdgeBetween part a b
  pub edge_cases : (i j : ℕ) → IsPieceEdge part i j → IsPieceEdge piece i j ⊎ AreBoth a b i j
  pub part_of_edge : (i j : ℕ) → IsPieceEdge piece i j → IsPieceEdge part i j ⊎ IsPieceEdge other i j

-- two parts cover the piece and share only points of the diagonal
abbrev pub CoverPiece : List Point → List ℕ → List ℕ → List ℕ → ℕ → ℕ → Type 0
CoverPiece corners piece first second a b =
    IsCovered (piece_points corners piece) (piece_points corners first) (piece_points corners second) (whole (vertex corners a)) (whole (vertex corners b))

-- of the triangles with numbers in P those that lie in a part
abbrev pub LiesInPart : List Point → List Tri → (ℕ → Type 0) → List ℕ → ℕ → Type 0
LiesInPart corners tris P part n = P n × LiesIn corners tris (piece_points corners part) n

-- triangle n is one of them, and has the diagonal as a side
pub record IsBeside (corners : List Point) (tris : List Tri) (P : ℕ → Type 0) (part : List ℕ) (a b n : ℕ) : Type 0 where
  pub in_part : LiesInPart corners tris P part n
  pub has : HasSideBetween (tri_at tris n) a b

module _ (corners : List Point) (v : ℕ) (ps : List ℕ) (z : ℕ) (qs : List ℕ) (tris : List Tri) (P : ℕ → Type 0)
    (tiling : IsPartTiling corners (both_parts v ps z qs) tris P) (k l : ℕ) (s : IsShared corners (both_parts v ps z qs) tris P v z k l)
    (inner : ¬ IsEdgeBetween (both_parts v ps z qs) v z) where
  -- the points of the piece and its parts
  abbrev ring : List Point
  ring = piece_points corners (both_parts v ps z qs)

  abbrev first_ring : List Point
  first_ring = piece_points corners (first_part v ps z)

  abbrev second_ring : List Point
  second_ring = piece_points corners (second_part v z qs)

  -- the side cuts the piece
  side_cut : IsCutInTwo ring first_ring second_ring (vertex corners v) (vertex corners z)
  side_cut =
      let at = λ (i : ℕ). vertex corners i in
      let whole_is : ring ≡ at v ∷ (piece_points corners ps ++ at z ∷ piece_points corners qs) = ap (λ rs. at v ∷ rs) (map-append at ps (z ∷ qs)) in
      let first_is : first_ring ≡ at v ∷ (piece_points corners ps ++ at z ∷ []) = ap (λ rs. at v ∷ rs) (map-append at ps (z ∷ [])) in
      let diagonal = shared_is_diagonal corners (both_parts v ps z qs) tris tiling.cover v z k l s in
      let apart = ring_apart corners (both_parts v ps z qs) tris tiling.cover in
      subst (λ rs. IsCutInTwo rs first_ring second_ring (at v) (at z)) (sym whole_is)
      (subst (λ rs. IsCutInTwo (at v ∷ (piece_points corners ps ++ at z ∷ piece_points corners qs)) rs second_ring (at v) (at z)) (sym first_is)
      (cut_from_first (at v) (piece_points corners ps) (at z) (piece_points corners qs) (subst IsApartRing whole_is apart)
      (subst (λ rs. IsDiagonal rs (at v) (at z)) whole_is diagonal)))

  pub side_covered : CoverPiece corners (both_parts v ps z qs) (first_part v ps z) (second_part v z qs) v z
  side_covered = record { covers = λ x at. (side_cut.covers x at).0; common = side_cut.common }

  -- ---- the parts

  -- there are vertices on both sides of it
  pub some_before : 0 < length ps
  some_before = positive ps (λ e. inner (inl (subst (λ xs. IsPieceEdge (both_parts v xs z qs) v z) (sym e) (second_diagonal v [] z qs))))
    where
      positive : (xs : List ℕ) → ¬ (xs ≡ []) → 0 < length xs
      positive [] not = absurd (not refl)
      positive (x ∷ xs) not = omega arith

  pub some_after : 0 < length qs
  some_after = positive qs (λ e. inner (inr (subst (λ xs. IsPieceEdge (both_parts v ps z xs) z v) (sym e) (first_diagonal v ps z []))))
    where
      positive : (xs : List ℕ) → ¬ (xs ≡ []) → 0 < length xs
      positive [] not = absurd (not refl)
      positive (x ∷ xs) not = omega arith

  -- a vertex of the piece is one of a part
  member_of_part : (i : ℕ) → Contains (both_parts v ps z qs) i → Contains (first_part v ps z) i ⊎ Contains (second_part v z qs) i
  member_of_part i h = elim (contains_cases v (ps ++ z ∷ qs) i h) [
    | inl e ↦ inl (subst (Contains (first_part v ps z)) e (contains_first v (ps ++ z ∷ [])))
    | inr after ↦ elim (Contains-append_cases ps (z ∷ qs) i after) [
      | inl found ↦ inl (contains_rest v (ps ++ z ∷ []) i (Contains-append_left ps (z ∷ []) i found))
      | inr found ↦ inr (contains_rest v (z ∷ qs) i found)
    ]
  ]

  pub first_is_part : IsPartOf corners (both_parts v ps z qs) (first_part v ps z) (second_part v z qs) v z
  first_is_part = record {
    some = omega (arith, some_before, length-append ps (z ∷ []));
    simple = side_cut.first_simple;
    within = λ p at in_p. (side_cut.covers p at).1 (inl in_p);
    has_first = contains_first v (ps ++ z ∷ []);
    has_last = contains_rest v (ps ++ z ∷ []) z (Contains-append_right ps (z ∷ []) z (contains_first z []));
    member_cases = member_of_part;
    diagonal = inr (first_diagonal v ps z qs);
    edge_cases = λ i j e. elim (first_part_cases v ps z qs i j e) [ inl outer ↦ inl outer | inr ends ↦ inr (inr ends) ];
    part_of_edge = part_of_edge v ps z qs;
  }

  pub second_is_part : IsPartOf corners (both_parts v ps z qs) (second_part v z qs) (first_part v ps z) v z
  second_is_part = record {
    some = omega (arith, some_after);
    simple = side_cut.second_simple;
    within = λ p at in_p. (side_cut.covers p at).1 (inr in_p);
    has_first = contains_first v (z ∷ qs);
    has_last = contains_rest v (z ∷ qs) z (contains_first z qs);
    member_cases = λ i h. elim (member_of_part i h) [ inl found ↦ inr found | inr found ↦ inl found ];
    diagonal = inl (second_diagonal v ps z qs);
    edge_cases = λ i j e. elim (second_part_cases v ps z qs i j e) [ inl outer ↦ inl outer | inr ends ↦ inr (inl ends) ];
    part_of_edge = λ i j e. elim (part_of_edge v ps z qs i j e) [ inl first ↦ inr first | inr second ↦ inl second ];
  }

  -- ---- the triangles beside the side

  -- not both lie in the first part,
  not_both_first : LiesIn corners tris first_ring k → LiesIn corners tris first_ring l → ⊥
  not_both_first =
      let a = vertex corners v in
      let b = vertex corners z in
      let at = λ (i : ℕ). vertex corners i in
      let has : HasEdge (edges_of first_ring) (edge b a) =
      subst (λ rs. HasEdge (edges_of (a ∷ rs)) (edge b a)) (sym (map-append at ps (z ∷ []))) (last_edge a (piece_points corners ps) b) in
      not_in_one corners (both_parts v ps z qs) tris tiling.cover v z k l s first_ring (apart_of_simple first_ring side_cut.first_simple)
      (omega (arith, length_points corners (first_part v ps z), length-append ps (z ∷ []))) (edge b a) has
      (on_reversed (middle a b) (whole a) (whole b) (middle_on a b))

  -- or in the second
  not_both_second : LiesIn corners tris second_ring k → LiesIn corners tris second_ring l → ⊥
  not_both_second =
      let a = vertex corners v in
      let b = vertex corners z in
      not_in_one corners (both_parts v ps z qs) tris tiling.cover v z k l s second_ring (apart_of_simple second_ring side_cut.second_simple)
      (omega arith) (edge a b) (inl refl) (middle_on a b)

  -- so one lies in each
  pub beside_both : (m : ℕ) × (n : ℕ) × IsBeside corners tris P (first_part v ps z) v z m × IsBeside corners tris P (second_part v z qs) v z n
      × ((o : ℕ) → P o → HasSideBetween (tri_at tris o) v z → (o ≡ m) ⊎ (o ≡ n))
  beside_both =
      let lies = lies_in_one corners (both_parts v ps z qs) tris tiling.cover v z k l s first_ring second_ring side_covered in
      let only = λ (o : ℕ) (within : P o) (has : HasSideBetween (tri_at tris o) v z). s.two.only o (tiling.in_list o within) has in
      elim (lies k s.near_in) [
        | inl near ↦ elim (lies l s.far_in) [
          | inl far ↦ absurd (not_both_first near far)
          | inr far ↦ (
            k,
            l,
            record { in_part = (s.near_in, near); has = inl s.two.has },
            record { in_part = (s.far_in, far); has = inr s.two.other_has },
            only,
          )
        ]
        | inr near ↦ elim (lies l s.far_in) [
          | inl far ↦ (
            l,
            k,
            record { in_part = (s.far_in, far); has = inr s.two.other_has },
            record { in_part = (s.near_in, near); has = inl s.two.has },
            λ o within has. elim (only o within has) [ inl e ↦ inr e | inr e ↦ inl e ],
          )
          | inr far ↦ absurd (not_both_second near far)
        ]
      ]
