-- A triangle of a mesh at one of its corners: no neighbour of the corner in the ring is strictly inside the angle there, nor on the ray along
-- a side that two triangles share.
use Rattle.std.proofs.Common.{◌≡◌, ◌⊎◌, inl, inr, sym, subst, ◌∙◌, ℕ, List, le_refl, ◌<◌, length}
use Rattle.integer_algebra.proofs.SignSteps.{turned_positive}
use Rattle.plane.proofs.Nearness.{left_toward, left_eventually, toward, toward_is_point, toward_on}
use Rattle.plane.proofs.Points.{same_whole, whole_is_point}
use Rattle.plane.proofs.Segments.{on_last_end, middle, middle_first, middle_is_point, middle_last, middle_on}
use Rattle.plane.proofs.Turns.{determinant_same_ends, determinant_same_last, determinant_swap_first}
use Rattle.plane.specs.Prelude.{IsLeft, IsRight, On, Point, Triple, whole}
use Rattle.rings.proofs.Vertices.{end_of_second, on_some_of}
use Rattle.rings.specs.Prelude.{AreNeighbours, edge, edges_of, vertex}
use Rattle.ring_laws.proofs.Triangles.{end_is_on, left_at_first}
use Rattle.ring_laws.proofs.Vertices.{edge_between, neighbours_differ}
use Rattle.ring_laws.specs.Diagonal.{IsDiagonal}
use Rattle.meshes.proofs.Joins.{between_back}
use Rattle.meshes.proofs.Parts.{one_vertex, ring_apart, ring_long, shared_is_diagonal, shared_of, paved, inside_off_edges}
use Rattle.meshes.proofs.TreeLeaves.{by_turns, turns_left}
use Rattle.meshes.specs.Prelude.{FitsPiece, HasSide, IsSideOfTwo, IsStrictlyInTri, piece_points, tri_at}
use Rattle.meshes.specs.declared.tri.Tri.{Tri}

-- ---- a diagonal of a ring

module _ (ring : List Point) (a b : Point) (diagonal : IsDiagonal ring a b) (differ : ¬ (a ≡ b)) where
  -- the ends of a diagonal are no neighbours,
  diagonal_not_edge : ¬ AreNeighbours ring a b
  diagonal_not_edge n =
      let (e, between) = edge_between ring a b n in
      let x = middle a b in
      let on = middle_on a b in
      let c = diagonal.meets e between.has x (middle_is_point a b) (between.on x on) on in
      elim (end_of_second e (edge a b) x c) [
        | inl s ↦ differ (middle_first a b s)
        | inr s ↦ differ (middle_last a b s)
      ]

  -- so no neighbour of the one is on the ray to the other
  pub neighbour_off_diagonal : (u : Point) → AreNeighbours ring a u → ¬ (a ≡ u)
      → ¬ (On (whole u) (whole a) (whole b) ⊎ On (whole b) (whole a) (whole u))
  neighbour_off_diagonal u n proper on =
      let (e, between) = edge_between ring a u n in
      let other : ¬ (u ≡ b) = λ same. diagonal_not_edge (subst (AreNeighbours ring a) same n) in
      elim on [
        | inl near ↦
            let c = diagonal.meets e between.has (whole u) (whole_is_point u) (end_is_on e u between.last_end) near in
            let is = same_whole u c.end c.same in
            elim c.of_second [ inl first ↦ proper (first ∙ sym is) | inr last ↦ other (is ∙ sym last) ]
        | inr near ↦
            let c = diagonal.meets e between.has (whole b) (whole_is_point b) (between.on (whole b) near)
            (on_last_end (whole a) (whole b)) in
            let is = same_whole b c.end c.same in
            elim (between.ends c.end c.of_first) [ inl first ↦ differ (sym (is ∙ first)) | inr last ↦ other (sym (is ∙ last)) ]
      ]

-- ---- a shared side

-- a shared side is one in the other direction
pub shared_back : (tris : List Tri) (i j k l : ℕ) → IsSideOfTwo tris i j k l → IsSideOfTwo tris j i l k
shared_back tris i j k l s = record {
  in_list = s.other_in_list;
  other_in_list = s.in_list;
  different = λ e. s.different (sym e);
  has = s.other_has;
  other_has = s.has;
  only = λ m h between. elim (s.only m h (between_back between)) [ inl e ↦ inr e | inr e ↦ inl e ];
}

-- two triangles of the list, x and y, share the side between corners i and j
abbrev pub IsSharedSide : List Tri → ℕ → ℕ → Type 0
IsSharedSide tris i j = (x : ℕ) × (y : ℕ) × (IsSideOfTwo tris i j x y ⊎ IsSideOfTwo tris j i x y)

-- from either end
pub shared_side_back : {tris : List Tri} {i j : ℕ} → IsSharedSide tris i j → IsSharedSide tris j i
shared_side_back (x, y, inl two) = (x, y, inr two)
shared_side_back (x, y, inr two) = (x, y, inl two)

module _ (corners : List Point) (piece : List ℕ) (tris : List Tri) (fits : FitsPiece corners piece tris) where
  -- no neighbour of the first end of a shared side is on the ray to the last,
  off_first : (k l i j : ℕ) → IsSideOfTwo tris i j k l → (u : Point)
      → AreNeighbours (piece_points corners piece) (vertex corners i) u
      → ¬ (On (whole u) (whole (vertex corners i)) (whole (vertex corners j))
      ⊎ On (whole (vertex corners j)) (whole (vertex corners i)) (whole u))
  off_first k l i j two u n =
      let s = shared_of corners piece tris (paved fits) i j k l two two.in_list two.other_in_list in
      let ring = piece_points corners piece in
      let apart = ring_apart corners piece tris (paved fits) in
      let some = ring_long corners piece tris (paved fits) in
      let differ : ¬ (vertex corners i ≡ vertex corners j) =
      λ same. s.differ (one_vertex corners piece tris (paved fits) i j s.from_within s.to_within same) in
      neighbour_off_diagonal ring (vertex corners i) (vertex corners j) (shared_is_diagonal corners piece tris (paved fits) i j k l s) differ u n
      (neighbours_differ ring apart some (vertex corners i) u n)

  -- so none of an end is on the ray along the side
  pub off_shared : (i j : ℕ) → IsSharedSide tris i j → (u : Point) → AreNeighbours (piece_points corners piece) (vertex corners i) u
      → ¬ (On (whole u) (whole (vertex corners i)) (whole (vertex corners j))
      ⊎ On (whole (vertex corners j)) (whole (vertex corners i)) (whole u))
  off_shared i j (x, y, inl two) = off_first x y i j two
  off_shared i j (x, y, inr two) = off_first y x i j (shared_back tris j i x y two)

-- ---- A triangle of a mesh at one of its corners: no neighbour of the corner in the ring is strictly inside the angle there

-- what is left of all sides of a triangle, by the numbers of its corners, is strictly inside
strictly_by_sides : (corners : List Point) (t : Tri)
    → IsLeft (whole (vertex corners t.a)) (whole (vertex corners t.b)) (whole (vertex corners t.c))
    → (j i m : ℕ) → HasSide t j i → HasSide t i m → (y : Triple) → IsLeft (whole (vertex corners j)) (whole (vertex corners i)) y
    → IsLeft (whole (vertex corners i)) (whole (vertex corners m)) y → IsLeft (whole (vertex corners m)) (whole (vertex corners j)) y
    → IsStrictlyInTri corners t y
strictly_by_sides corners t left j i m last next y =
    let is_left = λ (a b : ℕ). IsLeft (whole (vertex corners a)) (whole (vertex corners b)) y in
    by_turns corners t left j i m last next (λ a b c. is_left a b → is_left b c → is_left c a → IsStrictlyInTri corners t y)
    (λ a b c h second third first. h first second third)
    (λ first second third. record { left_of_first = first; left_of_second = second; left_of_third = third })

module _ (corners : List Point) (piece : List ℕ) (tris : List Tri) (fits : FitsPiece corners piece tris) (k i j m : ℕ)
    (within : k < length tris) (next : HasSide (tri_at tris k) i m) (last : HasSide (tri_at tris k) j i) where
  -- no neighbour of vertex i is strictly inside the angle of the triangle there
  pub neighbour_not_inside : (u : Point) → AreNeighbours (piece_points corners piece) (vertex corners i) u
      → ¬ (IsLeft (whole (vertex corners i)) (whole (vertex corners m)) (whole u)
      × IsRight (whole (vertex corners i)) (whole (vertex corners j)) (whole u))
  neighbour_not_inside u n (left, right) =
      let left_turn = (fits.triangles k within).counterclockwise in
      let (e, between) = edge_between (piece_points corners piece) (vertex corners i) u n in
      let I = whole (vertex corners i) in
      let J = whole (vertex corners j) in
      let M = whole (vertex corners m) in
      let U = whole u in
      let at_I = whole_is_point (vertex corners i) in
      let at_U = whole_is_point u in
      let near = left_eventually I U M J (left_at_first (vertex corners j) (vertex corners i) (vertex corners m)
      (turns_left corners (tri_at tris k) left_turn j i m last next)) in
      let s : ℕ = near.start in
      let y = toward I U s in
      let inside = strictly_by_sides corners (tri_at tris k) left_turn j i m last next y
      (left_toward J I I U (determinant_same_last J I) (turned_positive (determinant_swap_first I J U) right) s)
      (left_toward I M I U (determinant_same_ends I M) left s) (near.from_start s (le_refl s)) in
      inside_off_edges corners piece tris (paved fits) k within y (toward_is_point I U at_I at_U s) inside
      (on_some_of y e (edges_of (piece_points corners piece)) between.has (between.on y (toward_on I U at_I at_U s)))
