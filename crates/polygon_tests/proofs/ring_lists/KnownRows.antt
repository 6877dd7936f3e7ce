-- Rings with meshes that anyone can draw. That the triangles suit the ring is computed, but for the sides that cancel.
use Rattle.std.proofs.Common.{◌≡◌, ◌∙◌, refl, sym, ℕ, ◌≤◌, Bool, true, List, [], ◌∷◌, length, ltb, arith}
use Rattle.std.proofs.lemmas.Bool.{false≢true, ltb-true, true_from_ne_false}
use Rattle.std.proofs.lemmas.Int.{ints}
use Rattle.std.proofs.lemmas.List.Folds.{list_all_at}
use Rattle.std.specs.List.{Contains, list_all, range_with_len}
use Rattle.std.specs.Prelude.{◌&&◌, ℤ, int_lt, pos}
use Rattle.plane.proofs.Lists.{in_range}
use Rattle.plane.specs.Point.{Point, whole}
use Rattle.plane.specs.Turn.{determinant}
use Rattle.rings.specs.Orientation.{IsCounterclockwise}
use Rattle.rings.specs.Ring.{vertex}
use Rattle.rings.specs.Simple.{IsSimple}
use Rattle.meshes.proofs.Boundaries.{fits_bounded}
use Rattle.meshes.proofs.Triangulations.{ring_is_piece}
use Rattle.meshes.specs.Boundary.{HaveBoundary}
use Rattle.meshes.specs.Fits.{Fits, IsTriOf}
use Rattle.meshes.specs.Side.{tri_at}
use Rattle.meshes.specs.declared.tri.Tri.{Tri}
use Rattle.polygon_tests.specs.Rows.{Suit, SuitRow}

-- ---- triangles of a ring

-- whether a triangle has its corners among the vertices, counterclockwise
abbrev pub is_good : List Point → Tri → Bool
is_good corners t =
    ltb t.a (length corners) && (ltb t.b (length corners) && (ltb t.c (length corners)
    && int_lt (pos 0) (determinant (whole (vertex corners t.a)) (whole (vertex corners t.b)) (whole (vertex corners t.c)))))

-- four tests that are true together
four_true : (p q r s : Bool) → (p && (q && (r && s))) ≡ true → (p ≡ true) × (q ≡ true) × (r ≡ true) × (s ≡ true)
four_true p q r s all = grind arith

-- so it is one of the ring
tri_of_good : (corners : List Point) (t : Tri) → is_good corners t ≡ true → IsTriOf corners (range_with_len 0 (length corners)) t
tri_of_good corners t good =
    let (a, b, c, left) = four_true _ _ _ _ good in
    let among : (x : ℕ) → ltb x (length corners) ≡ true → Contains (range_with_len 0 (length corners)) x =
    λ x below. in_range (length corners) x (ltb-true x (length corners) below) in
    record { has_a = among t.a a; has_b = among t.b b; has_c = among t.c c; counterclockwise = omega (arith, ints, left) }

-- good triangles whose sides cancel suit the ring
suits : (corners : List Point) (tris : List Tri) → list_all (is_good corners) tris ≡ true → HaveBoundary (range_with_len 0 (length corners)) tris
    → Suit corners tris
suits corners tris all boundary = record {
  triangles = λ k below.
      tri_of_good corners (tri_at tris k)
      (true_from_ne_false _ (λ bad. false≢true (sym (list_all_at (is_good corners) tris k _ below bad) ∙ all)));
  boundary = boundary;
}

-- so they fit it where it is simple and runs counterclockwise
pub fits_suit : (corners : List Point) (tris : List Tri) → 3 ≤ length corners → IsSimple corners → IsCounterclockwise corners → Suit corners tris
    → Fits corners tris
fits_suit corners tris some simple way suit =
    fits_bounded corners (range_with_len 0 (length corners)) tris (ring_is_piece corners some simple way) suit.triangles suit.boundary

-- ---- rows: the sides of a triangle that are no edges, and cancel

-- a square
pub square : SuitRow ((pos 0, pos 0) ∷ (pos 4, pos 0) ∷ (pos 4, pos 4) ∷ (pos 0, pos 4) ∷ []) ((0, 1, 3) ∷ (1, 2, 3) ∷ [])
square = suits _ _ refl (λ φ odd. omega (arith, ints, odd 1 3))

-- an L, cut by the diagonals from its reflex vertex,
pub l_shape : SuitRow ((pos 0, pos 0) ∷ (pos 4, pos 0) ∷ (pos 4, pos 2) ∷ (pos 2, pos 2) ∷ (pos 2, pos 4) ∷ (pos 0, pos 4) ∷ [])
    ((0, 1, 3) ∷ (1, 2, 3) ∷ (0, 3, 5) ∷ (3, 4, 5) ∷ [])
l_shape = suits _ _ refl (λ φ odd. omega (arith, ints, odd 1 3, odd 0 3, odd 3 5))

-- and in another way
pub l_other : SuitRow ((pos 0, pos 0) ∷ (pos 4, pos 0) ∷ (pos 4, pos 2) ∷ (pos 2, pos 2) ∷ (pos 2, pos 4) ∷ (pos 0, pos 4) ∷ [])
    ((0, 1, 2) ∷ (0, 2, 3) ∷ (0, 3, 5) ∷ (3, 4, 5) ∷ [])
l_other = suits _ _ refl (λ φ odd. omega (arith, ints, odd 0 2, odd 0 3, odd 3 5))

-- an L whose list runs clockwise
pub l_clockwise : SuitRow ((pos 0, pos 4) ∷ (pos 2, pos 4) ∷ (pos 2, pos 2) ∷ (pos 4, pos 2) ∷ (pos 4, pos 0) ∷ (pos 0, pos 0) ∷ [])
    ((1, 2, 4) ∷ (2, 3, 4) ∷ (1, 4, 0) ∷ (4, 5, 0) ∷ [])
l_clockwise = suits _ _ refl (λ φ odd. omega (arith, ints, odd 2 4, odd 1 4, odd 4 0))

-- a U
abbrev u_points : List (ℤ × ℤ)
u_points =
    (pos 0, pos 0) ∷ (pos 6, pos 0) ∷ (pos 6, pos 4) ∷ (pos 4, pos 4) ∷ (pos 4, pos 2) ∷ (pos 2, pos 2) ∷ (pos 2, pos 4) ∷ (pos 0, pos 4) ∷ []

pub u_shape : SuitRow u_points ((0, 5, 7) ∷ (5, 6, 7) ∷ (0, 1, 5) ∷ (1, 4, 5) ∷ (1, 3, 4) ∷ (1, 2, 3) ∷ [])
u_shape = suits _ _ refl (λ φ odd. omega (arith, ints, odd 5 7, odd 0 5, odd 1 5, odd 1 4, odd 1 3))

-- ---- the same of two small meshes

-- a triangle
pub triangle : SuitRow ((pos 0, pos 0) ∷ (pos 1, pos 0) ∷ (pos 0, pos 1) ∷ []) ((0, 1, 2) ∷ [])
triangle = suits _ _ refl (λ φ odd. omega (arith, ints))

-- the triangles of the L in a row
pub l_in_a_row : SuitRow ((pos 0, pos 0) ∷ (pos 4, pos 0) ∷ (pos 4, pos 2) ∷ (pos 2, pos 2) ∷ (pos 2, pos 4) ∷ (pos 0, pos 4) ∷ [])
    ((1, 2, 3) ∷ (0, 1, 3) ∷ (0, 3, 5) ∷ (3, 4, 5) ∷ [])
l_in_a_row = suits _ _ refl (λ φ odd. omega (arith, ints, odd 1 3, odd 0 3, odd 3 5))
