-- What a row of the table of neighbours says of the triangle on the other side of a side.
use Rattle.std.proofs.Common.{◌≡◌, refl, sym, ℕ, zero, suc, ◌<◌, ◌↔◌, inl, inr, List, [], length, get_or, arith, Some, None, IfSome}
use Rattle.std.proofs.lemmas.List.{get_or_read}
use Rattle.std.specs.List.{range_with_len}
use Rattle.std.specs.Prelude.{IsNone, Option, slice_index_or}
use Rattle.plane.specs.Point.{Point}
use Rattle.meshes.proofs.Sides.{edge_or_not}
use Rattle.meshes.specs.Fits.{Fits, IsPieceEdge, IsSideOfOne, IsSideOfTwo}
use Rattle.meshes.specs.Mesh.{side_begin, side_end}
use Rattle.meshes.specs.Side.{HasSidesOnce, HasSide, tri_at}
use Rattle.meshes.specs.declared.tri.Tri.{Tri}
use Rattle.tri_mesh.specs.Neighbours.{IsOwner, KeepsNeighbours}

-- a triangle has its sides
pub has_side_numbered : (t : Tri) (side : ℕ) → side < 3 → HasSide t (side_begin t side) (side_end t side)
has_side_numbered t zero h = inl (refl, refl)
has_side_numbered t (suc zero) h = inr (inl (refl, refl))
has_side_numbered t (suc (suc zero)) h = inr (inr (refl, refl))
has_side_numbered t (suc (suc (suc n))) h = absurd (omega arith)

-- a side has a number
pub numbered_side : (t : Tri) (i j : ℕ) → HasSide t i j → (side : ℕ) × (side < 3) × (side_begin t side ≡ i) × (side_end t side ≡ j)
numbered_side t i j (inl h) = (0, omega arith, h.0, h.1)
numbered_side t i j (inr (inl h)) = (1, omega arith, h.0, h.1)
numbered_side t i j (inr (inr h)) = (2, omega arith, h.0, h.1)

module _ (tris : List Tri) (i j k : ℕ) (sides : HasSidesOnce tris) (in_list : k < length tris) (has : HasSide (tri_at tris k) i j) where
  -- no triangle has the side in the other direction: triangle k is alone with it
  alone : ((l : ℕ) → l < length tris → ¬ HasSide (tri_at tris l) j i) → IsSideOfOne tris i j k
  alone missing = record {
    in_list = in_list;
    has = has;
    only = λ l below between. elim between [
      | inl along ↦ sides.once i j l k below in_list along has
      | inr back ↦ absurd (missing l below back)
    ];
  }

  -- triangle l has it
  shared : (l : ℕ) → l < length tris → HasSide (tri_at tris l) j i → IsSideOfTwo tris i j k l
  shared l below back = record {
    in_list = in_list;
    other_in_list = below;
    different = λ same. sides.one_way i j k in_list has (rw (← same) at back);
    has = has;
    other_has = back;
    only = λ m m_below between. elim between [
      | inl along ↦ inl (sides.once i j m k m_below in_list along has)
      | inr m_back ↦ inr (sides.once j i m l m_below below m_back back)
    ];
  }

  -- an answer that is none
  none_iff_alone : (answer : Option ℕ) → IsOwner tris j i answer → IsNone answer ↔ IsSideOfOne tris i j k
  none_iff_alone None owner = (λ _. alone (owner.none refl), λ _. refl)
  none_iff_alone (Some l) owner =
      let is = owner.some l refl in
      (λ e. absurd cc, λ one. absurd ((shared l is.0 is.1).different (sym (one.only l is.0 (inr is.1)))))

  -- an answer that is some
  some_is_shared : (answer : Option ℕ) → IsOwner tris j i answer → IfSome answer (IsSideOfTwo tris i j k)
  some_is_shared None owner = tt
  some_is_shared (Some l) owner = let is = owner.some l refl in shared l is.0 is.1

-- where the triangles fit a ring, a side belongs to one triangle exactly where it is an edge of the ring
alone_iff_edge : (corners : List Point) (tris : List Tri) (i j k : ℕ) → Fits corners tris → k < length tris → HasSide (tri_at tris k) i j
    → IsSideOfOne tris i j k ↔ IsPieceEdge (range_with_len 0 (length corners)) i j
alone_iff_edge corners tris i j k fits in_list has = (
  λ one. elim (edge_or_not (range_with_len 0 (length corners)) i j) [
    | inl edge ↦ edge
    | inr inner ↦ let two = fits.inner_sides i j k in_list has inner in
        absurd (two.1.different (sym (one.only two.0 two.1.other_in_list (inr two.1.other_has))))
  ],
  λ edge. let one = fits.edges i j edge in
      let same : k ≡ one.0 = one.1.only k in_list (inl has) in
      rw same one.1,
)

-- the answer that the table of a mesh has for a side of triangle k, by its row
module _ (tris : List Tri) (table : List (List (Option ℕ))) (row : List (Option ℕ)) (k side : ℕ) (keeps : KeepsNeighbours tris table)
    (in_list : k < length tris) (in_row : side < 3) (is : row ≡ get_or table k row) where
  abbrev begin : ℕ
  begin = side_begin (tri_at tris k) side

  abbrev end : ℕ
  end = side_end (tri_at tris k) side

  has : HasSide (tri_at tris k) begin end
  has = has_side_numbered (tri_at tris k) side in_row

  owner : IsOwner tris end begin (slice_index_or row side None)
  owner =
      let below : k < length table = omega (arith, keeps.count) in
      rw (get_or_read table k row below is []) (keeps.rows.across k side below in_row)

  pub kept_none : IsNone (slice_index_or row side None) ↔ IsSideOfOne tris begin end k
  kept_none = none_iff_alone tris begin end k keeps.sides in_list has _ owner

  pub kept_some : IfSome (slice_index_or row side None) (IsSideOfTwo tris begin end k)
  kept_some = some_is_shared tris begin end k keeps.sides in_list has _ owner

  pub kept_edge : (corners : List Point) → Fits corners tris
      → IsNone (slice_index_or row side None) ↔ IsPieceEdge (range_with_len 0 (length corners)) begin end
  kept_edge corners fits =
      let edge = alone_iff_edge corners tris begin end k fits in_list has in
      (λ none. edge.0 (kept_none.0 none), λ on_edge. kept_none.1 (edge.1 on_edge))
