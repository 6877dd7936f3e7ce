-- Triangles whose sides cancel to the boundary of a simple piece: the winding number of the piece is the sum of theirs.
use Rattle.std.proofs.Common.{◌≡◌, ◌⊎◌, inl, inr, refl, ap, ◌∙◌, ℕ, ◌<◌, ℤ, pos, ◌+ℤ◌, ◌≤ℤ◌, List, [], ◌∷◌, ◌++◌, length, arith}
use Rattle.std.proofs.lemmas.Int.{ints}
use Rattle.integer_algebra.proofs.SignSteps.{positive_not_negative}
use Rattle.plane.specs.Prelude.{IsLeft, IsPoint, Point, Triple, whole}
use Rattle.rings.proofs.Crossings.{crossing_reversed}
use Rattle.rings.specs.Prelude.{crossing, edge, edges_along, edges_of, IsOnSome, vertex, winding}
use Rattle.ring_laws.proofs.Triangles.{inside, on_border, outside, place_of, triangle_values, winding_inside, winding_outside}
use Rattle.meshes.proofs.Boundaries.Sums.{sum_of_tri}
use Rattle.meshes.proofs.Parts.{sides}
use Rattle.meshes.specs.Boundary.{HaveBoundary, IsOdd, sum_from, sum_round, sum_sides}
use Rattle.meshes.specs.Prelude.{IsInTri, IsStrictlyInTri, IsTriOf, piece_points, tri_at}
use Rattle.meshes.specs.declared.tri.Tri.{Tri}
use Rattle.meshes.specs.Piece.{IsPolygonPiece}

-- counterclockwise triangles on the vertices of a simple piece, whose sides cancel to its boundary
pub record AreBounded (corners : List Point) (piece : List ℕ) (tris : List Tri) : Type 0 where
  pub polygon : IsPolygonPiece corners piece
  pub triangles : (k : ℕ) → k < length tris → IsTriOf corners piece (tri_at tris k)
  pub bounded : HaveBoundary piece tris

-- the signed crossing at a point of the edge from one vertex to another
abbrev pub crossing_at : List Point → Triple → ℕ → ℕ → ℤ
crossing_at corners x i j = crossing (edge (vertex corners i) (vertex corners j)) x

-- the sum of three crossings
three_parts : (a b c : ℤ) → a +ℤ (b +ℤ c) ≡ a +ℤ (b +ℤ (c +ℤ pos 0))
three_parts a b c = omega (arith, ints)

-- 0 and 1 are not negative
not_negative_cases : (w : ℤ) → (w ≡ pos 0) ⊎ (w ≡ pos 1) → pos 0 ≤ℤ w
not_negative_cases w (inl e) = omega (arith, ints)
not_negative_cases w (inr e) = omega (arith, ints)

module _ (corners : List Point) (x : Triple) where
  -- in the other direction it is the opposite
  crossing_odd : IsOdd (crossing_at corners x)
  crossing_odd i j = crossing_reversed (edge (vertex corners i) (vertex corners j)) x

  -- ---- a piece

  -- the sum of the crossings along some numbers is a winding number,
  sum_along_is : (i : ℕ) (is : List ℕ) (last : ℕ) → sum_from (crossing_at corners x) i (is ++ last ∷ [])
      ≡ winding (edges_along (vertex corners i) (piece_points corners is) (vertex corners last)) x
  sum_along_is i [] last = refl
  sum_along_is i (j ∷ js) last = ap (λ s. crossing_at corners x i j +ℤ s) (sum_along_is j js last)

  -- and so it is round a piece
  sum_round_is : (piece : List ℕ) → sum_round (crossing_at corners x) piece ≡ winding (edges_of (piece_points corners piece)) x
  sum_round_is [] = refl
  sum_round_is (i ∷ is) = sum_along_is i is i

  -- so the winding number of the piece is the sum over the triangles
  pub winding_is_sum : (piece : List ℕ) (tris : List Tri) → HaveBoundary piece tris
      → sum_sides (crossing_at corners x) tris ≡ winding (edges_of (piece_points corners piece)) x
  winding_is_sum piece tris bounded = bounded (crossing_at corners x) crossing_odd ∙ sum_round_is piece

  -- ---- a triangle

  -- the sum round a triangle is its winding number
  sum_is : (t : Tri) → sum_of_tri (crossing_at corners x) t ≡ winding (sides corners t) x
  sum_is t = three_parts (crossing_at corners x t.a t.b) (crossing_at corners x t.b t.c) (crossing_at corners x t.c t.a)

  module _ (at_x : IsPoint x) (t : Tri) (left : IsLeft (whole (vertex corners t.a)) (whole (vertex corners t.b)) (whole (vertex corners t.c))) where
    -- strictly inside the triangle it is 1,
    pub sum_inside : IsStrictlyInTri corners t x → sum_of_tri (crossing_at corners x) t ≡ pos 1
    sum_inside s =
        sum_is t ∙ winding_inside (vertex corners t.a) (vertex corners t.b) (vertex corners t.c) x at_x
        (record { left_of_first = s.left_of_first; left_of_second = s.left_of_second; left_of_third = s.left_of_third })

    -- beyond it 0,
    pub sum_outside : ¬ IsInTri corners t x → sum_of_tri (crossing_at corners x) t ≡ pos 0
    sum_outside out = sum_is t ∙ elim (place_of (vertex corners t.a) (vertex corners t.b) (vertex corners t.c) left x at_x) [
      | inside i ↦ absurd (out (record {
        not_right_of_first = positive_not_negative i.left_of_first;
        not_right_of_second = positive_not_negative i.left_of_second;
        not_right_of_third = positive_not_negative i.left_of_third;
      }))
      | outside o ↦ winding_outside (vertex corners t.a) (vertex corners t.b) (vertex corners t.c) left x at_x o
      | on_border in_it on ↦ absurd (out in_it)
    ]

    -- and off the sides not negative
    pub sum_off_sides : ¬ IsOnSome (sides corners t) x → pos 0 ≤ℤ sum_of_tri (crossing_at corners x) t
    sum_off_sides off =
        let values = triangle_values (vertex corners t.a) (vertex corners t.b) (vertex corners t.c) left x at_x off in
        not_negative_cases (sum_of_tri (crossing_at corners x) t) (elim values [
          | inl e ↦ inl (sum_is t ∙ e)
          | inr e ↦ inr (sum_is t ∙ e)
        ])
