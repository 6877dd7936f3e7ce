-- A piece read from another vertex on: the same triangles fit it.
use Rattle.std.proofs.Common.{◌≡◌, inl, inr, sym, subst, ◌∙◌, ℕ, List, [], ◌∷◌, ◌++◌, length, arith}
use Rattle.std.proofs.lemmas.List.{append-nil, length-append, map-append}
use Rattle.std.proofs.lemmas.List.Elements.{Contains-append_cases, Contains-append_left, Contains-append_right}
use Rattle.std.specs.List.{Contains}
use Rattle.std.specs.Prelude.{◌↔◌}
use Rattle.plane.specs.Prelude.{IsLeft, IsPoint, Point, Triple, whole}
use Rattle.rings.proofs.Inside.{apart_rotated, in_rotated}
use Rattle.rings.proofs.Simple.{apart_of_simple, simple_of_apart}
use Rattle.rings.specs.Prelude.{IsIn, IsSimple, vertex}
use Rattle.meshes.proofs.Joins.Cuts.{IsCut}
use Rattle.meshes.proofs.Joins.Joined.{fits_joined}
use Rattle.meshes.proofs.Sides.{edge_of_step, step_after, step_before, step_cases, step_of_edge, fits_triangle}
use Rattle.meshes.specs.Prelude.{FitsPiece, IsPieceEdge, IsTriOf, piece_points, tri_at}
use Rattle.meshes.specs.declared.tri.Tri.{Tri}

-- another piece with the same edges, vertices and points
pub record IsSamePiece (corners : List Point) (piece other : List ℕ) : Type 0 where
  pub simple : IsSimple (piece_points corners other)
  pub as_long : length other ≡ length piece
  pub members : (i : ℕ) → Contains piece i → Contains other i
  pub edges : (i j : ℕ) → IsPieceEdge piece i j → IsPieceEdge other i j
  pub edges_back : (i j : ℕ) → IsPieceEdge other i j → IsPieceEdge piece i j
  pub points : (p : Triple) → IsPoint p → IsIn (piece_points corners piece) p ↔ IsIn (piece_points corners other) p

module _ (corners : List Point) (piece other : List ℕ) (same : IsSamePiece corners piece other) (ts : List Tri) where
  -- a triangle of the one is one of the other
  pub tri_of_same : (t : Tri) → IsTriOf corners piece t → IsTriOf corners other t
  tri_of_same t is = record {
    has_a = same.members t.a is.has_a;
    has_b = same.members t.b is.has_b;
    has_c = same.members t.c is.has_c;
    counterclockwise = is.counterclockwise;
  }

  -- so what fits the one fits the other
  fits_same : FitsPiece corners piece ts → FitsPiece corners other ts
  fits_same f = record {
    simple = same.simple;
    count = f.count ∙ sym same.as_long;
    triangles = λ k h. tri_of_same (tri_at ts k) (f.triangles k h);
    edges = λ i j e. f.edges i j (same.edges_back i j e);
    inner_sides = λ i j k h s inner. f.inner_sides i j k h s (λ e. inner (same.edges i j e));
    covers = λ p at_p. (λ h. (f.covers p at_p).0 ((same.points p at_p).1 h), λ h. (same.points p at_p).0 ((f.covers p at_p).1 h));
    apart = f.apart;
    tree = f.tree;
  }

-- ---- the edges of a piece read from another vertex on

-- they are the same
pub edge_rotated : (xs ys : List ℕ) (i j : ℕ) → IsPieceEdge (xs ++ ys) i j → IsPieceEdge (ys ++ xs) i j
edge_rotated [] ys i j e = subst (λ zs. IsPieceEdge zs i j) (sym (append-nil ys)) e
edge_rotated (x ∷ xs) [] i j e = subst (λ zs. IsPieceEdge zs i j) (append-nil (x ∷ xs)) e
edge_rotated (x ∷ xs) (y ∷ ys) i j e = elim (step_cases y ys x i j x xs (step_of_edge x (xs ++ y ∷ ys) i j e)) [
  | inl s ↦ edge_of_step y (ys ++ x ∷ xs) i j (step_after x xs y i j y ys s)
  | inr s ↦ edge_of_step y (ys ++ x ∷ xs) i j (step_before x xs y i j y ys s)
]

-- so are the members
member_rotated : (xs ys : List ℕ) (i : ℕ) → Contains (xs ++ ys) i → Contains (ys ++ xs) i
member_rotated xs ys i h = elim (Contains-append_cases xs ys i h) [
  | inl k ↦ Contains-append_right ys xs i k
  | inr k ↦ Contains-append_left ys xs i k
]

-- ---- rotated pieces

-- the points of a piece of two parts
points_append : (corners : List Point) (xs ys : List ℕ) → piece_points corners (xs ++ ys) ≡ piece_points corners xs ++ piece_points corners ys
points_append corners xs ys = map-append (λ k. vertex corners k) xs ys

module _ (corners : List Point) (xs ys : List ℕ) where
  -- what is in a piece is in the rotated one,
  in_piece_rotated : (p : Triple) → IsIn (piece_points corners (xs ++ ys)) p → IsIn (piece_points corners (ys ++ xs)) p
  in_piece_rotated p h =
      subst (λ r. IsIn r p) (sym (points_append corners ys xs))
      (in_rotated (piece_points corners xs) (piece_points corners ys) p (subst (λ r. IsIn r p) (points_append corners xs ys) h))

  -- which is simple where the piece is
  simple_rotated : IsSimple (piece_points corners (xs ++ ys)) → IsSimple (piece_points corners (ys ++ xs))
  simple_rotated h =
      subst IsSimple (sym (points_append corners ys xs))
      (simple_of_apart (piece_points corners ys ++ piece_points corners xs)
      (apart_rotated (piece_points corners xs) (piece_points corners ys)
      (apart_of_simple (piece_points corners xs ++ piece_points corners ys) (subst IsSimple (points_append corners xs ys) h))))

-- the rotated piece is the same piece
pub same_rotated : (corners : List Point) (xs ys : List ℕ) → IsSimple (piece_points corners (xs ++ ys)) → IsSamePiece corners (xs ++ ys) (ys ++ xs)
same_rotated corners xs ys simple = record {
  simple = simple_rotated corners xs ys simple;
  as_long = omega (arith, length-append xs ys, length-append ys xs);
  members = member_rotated xs ys;
  edges = edge_rotated xs ys;
  edges_back = edge_rotated ys xs;
  points = λ p at_p. (in_piece_rotated corners xs ys p, in_piece_rotated corners ys xs p);
}

-- so the triangles that fit a piece fit the rotated one
pub fits_rotated : (corners : List Point) (xs ys : List ℕ) (ts : List Tri) → FitsPiece corners (xs ++ ys) ts → FitsPiece corners (ys ++ xs) ts
fits_rotated corners xs ys ts f = fits_same corners (xs ++ ys) (ys ++ xs) (same_rotated corners xs ys f.simple) ts f

-- ---- a mesh with one more triangle: an ear at a vertex of the piece

module _ (corners : List Point) (u v w : ℕ) (ms : List ℕ) (ts : List Tri)
    (left : IsLeft (whole (vertex corners u)) (whole (vertex corners v)) (whole (vertex corners w)))
    (cut : IsCut corners u (v ∷ []) w ms) where
  -- where the side from u to w cuts the piece u v w .. in the triangle and the rest, a mesh that fits the rest fits the piece
  -- with the triangle before it
  fits_ear_from : FitsPiece corners (u ∷ w ∷ ms) ts → FitsPiece corners (u ∷ v ∷ w ∷ ms) (record { a = u; b = v; c = w } ∷ ts)
  fits_ear_from rest = fits_joined corners u (v ∷ []) w ms (record { a = u; b = v; c = w } ∷ []) ts cut (fits_triangle corners u v w left) rest

  -- so it is with the piece read from the tip on, and the rest from the vertex after it
  pub fits_ear : FitsPiece corners (w ∷ (ms ++ u ∷ [])) ts
      → FitsPiece corners (v ∷ w ∷ (ms ++ u ∷ [])) (record { a = u; b = v; c = w } ∷ ts)
  fits_ear rest =
      fits_rotated corners (u ∷ []) (v ∷ w ∷ ms) (record { a = u; b = v; c = w } ∷ ts)
      (fits_ear_from (fits_rotated corners (w ∷ ms) (u ∷ []) ts rest))
