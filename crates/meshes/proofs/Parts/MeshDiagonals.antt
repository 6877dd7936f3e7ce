-- The vertices of a piece, by their numbers: their places, and the edges that begin there.
-- The side that two triangles of a mesh, or of a part of one, share is a diagonal of the ring.
use Rattle.std.proofs.Common.{◌≡◌, inl, subst, ◌∙◌, ap, List, length, get_or, ℕ, ◌<◌, arith, ◌⊎◌, inr, refl, sym, [], ◌∷◌, pos}
use Rattle.std.proofs.lemmas.Int.{ints}
use Rattle.std.proofs.lemmas.List.{get_or_default}
use Rattle.std.specs.List.{Contains}
use Rattle.integer_algebra.proofs.SignSteps.{not_both, positive_not_negative}
use Rattle.integer_algebra.proofs.Signs.{lt_or_le}
use Rattle.plane.proofs.Segments.{on_first_end, on_reversed, on_same_point}
use Rattle.plane.proofs.Turns.{determinant_swap_first}
use Rattle.plane.specs.Prelude.{determinant, IsPoint, IsRight, IsSame, On, Point, Triple, whole}
use Rattle.rings.proofs.Simple.{apart_of_simple, same_or_not}
use Rattle.rings.proofs.Vertices.{edge_at, has_edge_at, on_some_of}
use Rattle.rings.specs.Apart.{IsApartRing}
use Rattle.rings.specs.Prelude.{Edge, edge, edges_of, HasEdge, HasEnd, IsIn, IsOn, IsOnSome, vertex}
use Rattle.ring_laws.proofs.Triangles.{end_of_other}
use Rattle.ring_laws.specs.Diagonal.{IsDiagonal}
use Rattle.meshes.proofs.Joins.{between_ends}
use Rattle.meshes.proofs.Parts.OpenRegions.{IsLeftOfAll, region_off_edges}
use Rattle.meshes.proofs.Parts.Opposite.{IsOpposite, left_of_next, left_of_previous, opposite}
use Rattle.meshes.proofs.Parts.Paved.{IsPaved}
use Rattle.meshes.proofs.Sides.{length_points, vertex_of_piece, one_place}
use Rattle.meshes.specs.Prelude.{IsInTri, IsSideOfTwo, piece_points, tri_at}
use Rattle.meshes.specs.declared.tri.Tri.{Tri}

-- an edge that begins at a vertex has it on it
pub on_from : (e : Edge) (v : Point) → e.from ≡ v → IsOn e (whole v)
on_from e v is = subst (λ (x : Point). IsOn e (whole x)) is (on_first_end (whole e.from) (whole e.to))

module _ (corners : List Point) (piece : List ℕ) (i : ℕ) (h : Contains piece i) where
  -- the place of a vertex in the piece
  pub vertex_place : (r : ℕ) × (r < length (piece_points corners piece)) × (vertex (piece_points corners piece) r ≡ vertex corners i)
      × (get_or piece r 0 ≡ i)
  vertex_place =
      let r = h.0 in
      let is = get_or_default piece r 0 i h.1 ∙ h.2 in
      (r, omega (arith, h.1, length_points corners piece), vertex_of_piece corners piece r h.1 ∙ ap (vertex corners) is, is)

  -- an edge of the piece begins there
  pub edge_at_vertex : (e : Edge) × HasEdge (edges_of (piece_points corners piece)) e × (e.from ≡ vertex corners i)
  edge_at_vertex =
      let (r, within, is, _) = vertex_place in
      (edge_at (piece_points corners piece) r, has_edge_at (piece_points corners piece) r within, is)

  -- so the vertex is on an edge,
  pub vertex_on_ring : IsOnSome (edges_of (piece_points corners piece)) (whole (vertex corners i))
  vertex_on_ring =
      let (f, has_f, is) = edge_at_vertex in
      on_some_of (whole (vertex corners i)) f (edges_of (piece_points corners piece)) has_f (on_from f (vertex corners i) is)

  -- and in the piece
  pub vertex_in_piece : IsIn (piece_points corners piece) (whole (vertex corners i))
  vertex_in_piece = inl vertex_on_ring

-- ---- two triangles beside a segment

-- the four outer sides of two triangles with corners c and d beside the segment from a to b
abbrev pub outer_sides : Point → Point → Point → Point → List Edge
outer_sides a b c d = edge b c ∷ edge c a ∷ edge a d ∷ edge d b ∷ []

-- what is negative is so in one direction alone
not_right_back : (a b y : Triple) → IsRight a b y → ¬ IsRight b a y
not_right_back a b y h k = let e = determinant_swap_first a b y in omega (arith, ints)

module _ (corners : List Point) (t u : Tri) (a b c d : Point) (o : IsOpposite corners t a b c) (p : IsOpposite corners u b a d) where
  -- what is left of the outer sides is in one of the triangles
  pub in_one : (y : Triple) → IsLeftOfAll (outer_sides a b c d) y → IsInTri corners t y ⊎ IsInTri corners u y
  in_one y (bc, (ca, (ad, (db, _)))) = elim (lt_or_le (determinant (whole a) (whole b) y) (pos 0)) [
    | inl right ↦ inr (p.closed y (record {
      not_right_of_first = not_right_back (whole a) (whole b) y right;
      not_right_of_second = positive_not_negative ad;
      not_right_of_third = positive_not_negative db;
    }))
    | inr left ↦ inl (o.closed y (record {
      not_right_of_first = λ r. not_both r left;
      not_right_of_second = positive_not_negative bc;
      not_right_of_third = positive_not_negative ca;
    }))
  ]

  -- a point strictly inside the segment is left of them
  pub left_of_outer : (x : Triple) → IsPoint x → On x (whole a) (whole b) → ¬ IsSame x (whole a) → ¬ IsSame x (whole b)
      → IsLeftOfAll (outer_sides a b c d) x
  left_of_outer x at_x on not_first not_last =
      let back = on_reversed x (whole a) (whole b) on in (
        left_of_next corners t a b c o x at_x on not_first not_last,
        (
          left_of_previous corners t a b c o x at_x on not_first not_last,
          (
            left_of_next corners u b a d p x at_x back not_last not_first,
            (left_of_previous corners u b a d p x at_x back not_last not_first, tt),
          ),
        ),
      )

-- ---- pieces

module _ (corners : List Point) (piece : List ℕ) (tris : List Tri) {P : ℕ → Type 0} (fits : IsPaved corners piece tris P) where
  -- the edges of the piece are apart
  pub ring_apart : IsApartRing (piece_points corners piece)
  ring_apart = apart_of_simple (piece_points corners piece) fits.simple

  -- vertices with different numbers are different
  pub one_vertex : (i j : ℕ) → Contains piece i → Contains piece j → vertex corners i ≡ vertex corners j → i ≡ j
  one_vertex i j h k same =
      let (r, in_r, _, is_i) = vertex_place corners piece i h in
      let (t, in_t, _, is_j) = vertex_place corners piece j k in
      let one = one_place corners piece fits.simple r t (omega (arith, in_r, length_points corners piece))
      (omega (arith, in_t, length_points corners piece)) (ap (vertex corners) is_i ∙ same ∙ sym (ap (vertex corners) is_j)) in
      sym is_i ∙ ap (λ n. get_or piece n 0) one ∙ is_j

  -- a vertex on an edge is an end of it
  pub vertex_is_end : (i : ℕ) → Contains piece i → (e : Edge) → HasEdge (edges_of (piece_points corners piece)) e → IsOn e (whole (vertex corners i))
      → HasEnd e (vertex corners i)
  vertex_is_end i h e has on =
      let (f, has_f, is) = edge_at_vertex corners piece i h in
      end_of_other (edges_of (piece_points corners piece)) ring_apart.apart f e has_f has (vertex corners i) (inl is) on

  -- a piece has more than one vertex
  pub ring_long : 1 < length (piece_points corners piece)
  ring_long = omega (arith, fits.long, length_points corners piece)

-- ---- a side of two triangles

-- triangle k has the side from vertex i to vertex j, and triangle l has it in the other direction; c and d are opposite to it
pub record IsShared (corners : List Point) (piece : List ℕ) (tris : List Tri) (P : ℕ → Type 0) (i j k l : ℕ) : Type 0 where
  pub two : IsSideOfTwo tris i j k l
  pub near_in : P k
  pub far_in : P l
  pub from_within : Contains piece i
  pub to_within : Contains piece j
  pub differ : ¬ (i ≡ j)
  pub c : Point
  pub d : Point
  pub near : IsOpposite corners (tri_at tris k) (vertex corners i) (vertex corners j) c
  pub far : IsOpposite corners (tri_at tris l) (vertex corners j) (vertex corners i) d

-- a side of two triangles is so
pub shared_of : (corners : List Point) (piece : List ℕ) (tris : List Tri) {P : ℕ → Type 0} → IsPaved corners piece tris P → (i j k l : ℕ)
    → IsSideOfTwo tris i j k l → P k → P l → IsShared corners piece tris P i j k l
shared_of corners piece tris fits i j k l two near_in far_in =
    let is = fits.triangles k near_in in
    let ends = between_ends corners piece (tri_at tris k) is i j (inl two.has) in
    let (c, near) = opposite corners (tri_at tris k) is.counterclockwise i j two.has in
    let (d, far) = opposite corners (tri_at tris l) (fits.triangles l far_in).counterclockwise j i two.other_has in
    record {
      two = two;
      near_in = near_in;
      far_in = far_in;
      from_within = ends.0;
      to_within = ends.1;
      differ = ends.2;
      c = c;
      d = d;
      near = near;
      far = far;
    }

module _ (corners : List Point) (piece : List ℕ) (tris : List Tri) {P : ℕ → Type 0} (fits : IsPaved corners piece tris P) (i j k l : ℕ)
    (s : IsShared corners piece tris P i j k l) where
  -- what is left of the outer sides is in the ring,
  beside_in : (y : Triple) → IsPoint y → IsLeftOfAll (outer_sides (vertex corners i) (vertex corners j) s.c s.d) y → IsIn (piece_points corners piece) y
  beside_in y at_y h =
      (fits.covers y at_y).1
      (elim (in_one corners (tri_at tris k) (tri_at tris l) (vertex corners i) (vertex corners j) s.c s.d s.near s.far y h) [
        | inl t ↦ (k, s.near_in, t)
        | inr t ↦ (l, s.far_in, t)
      ])

  -- so a point strictly inside the side is on no edge
  side_off_edges : (x : Triple) → IsPoint x → On x (whole (vertex corners i)) (whole (vertex corners j)) → ¬ IsSame x (whole (vertex corners i))
      → ¬ IsSame x (whole (vertex corners j)) → ¬ IsOnSome (edges_of (piece_points corners piece)) x
  side_off_edges x at_x on not_first not_last =
      region_off_edges (piece_points corners piece) (ring_apart corners piece tris fits) (ring_long corners piece tris fits)
      (outer_sides (vertex corners i) (vertex corners j) s.c s.d) beside_in x at_x
      (left_of_outer corners (tri_at tris k) (tri_at tris l) (vertex corners i) (vertex corners j) s.c s.d s.near s.far x at_x on not_first not_last)

  -- the side is a diagonal of the ring
  pub shared_is_diagonal : IsDiagonal (piece_points corners piece) (vertex corners i) (vertex corners j)
  shared_is_diagonal = record {
    meets = λ e has x at_x on_e on. elim (same_or_not x (whole (vertex corners i))) [
      | inl same ↦ record {
        end = vertex corners i;
        of_first = vertex_is_end corners piece tris fits i s.from_within e has (on_same_point at_x same on_e);
        of_second = inl refl;
        same = same;
      }
      | inr not_first ↦ elim (same_or_not x (whole (vertex corners j))) [
        | inl same ↦ record {
          end = vertex corners j;
          of_first = vertex_is_end corners piece tris fits j s.to_within e has (on_same_point at_x same on_e);
          of_second = inr refl;
          same = same;
        }
        | inr not_last ↦ absurd (side_off_edges x at_x on not_first not_last (on_some_of x e (edges_of (piece_points corners piece)) has on_e))
      ]
    ];
    inside = λ x at_x on. (fits.covers x at_x).1 (k, s.near_in, s.near.side x at_x on);
  }
