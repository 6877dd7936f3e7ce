-- Triangles that fit a ring fit it after a flip: the new ones run counterclockwise, and their sides add up to those of the old ones.
use Rattle.std.proofs.Common.{◌≡◌, ◌≢◌, inl, inr, refl, sym, subst, ◌∙◌, ℕ, zero, suc, ◌<◌, ℤ, ◌+ℤ◌, neg_ℤ, List, [], ◌∷◌, length, arith}
use Rattle.std.proofs.Math.ListN.{length-set}
use Rattle.std.proofs.lemmas.Bool.{cases_eq}
use Rattle.std.proofs.lemmas.Int.{ints}
use Rattle.std.proofs.lemmas.List.{get_or-set_other}
use Rattle.std.specs.List.{range_with_len}
use Rattle.std.specs.Prelude.{slice_set}
use Rattle.plane.proofs.Lists.{in_range}
use Rattle.plane.specs.Point.{Point, whole}
use Rattle.plane.specs.Turn.{IsLeft}
use Rattle.rings.specs.Ring.{vertex}
use Rattle.meshes.proofs.Boundaries.{fits_bounded, sides_cancel}
use Rattle.meshes.specs.Boundary.{HaveBoundary, IsOdd, sum_sides}
use Rattle.meshes.specs.Fits.{Fits, IsCounterclockwiseTri, IsTriOf}
use Rattle.meshes.specs.Piece.{IsPolygonPiece}
use Rattle.meshes.specs.Side.{tri_at}
use Rattle.meshes.specs.declared.tri.Tri.{Tri}
use Rattle.flip_tri.proofs.FlippedTurns.{first_turns, second_turns}
use Rattle.flip_tri.proofs.Rounds.{IsReadFrom, quad_below, read_from, turns_left}
use Rattle.flip_tri.proofs.TwoReplaced.{replaced_first, replaced_length, replaced_others, replaced_second}
use Rattle.flip_tri.specs.Flips.{IsQuadBelow, IsQuadOf, IsQuadToFlip}
use Rattle.flip_tri.specs.Shared.{flipped}
use Rattle.flip_tri.specs.declared.quad.Quad.{Quad}

-- ---- sums over sides

-- the sum over those of one triangle
abbrev sides_sum : (ℕ → ℕ → ℤ) → Tri → ℤ
sides_sum φ t = φ t.a t.b +ℤ (φ t.b t.c +ℤ φ t.c t.a)

-- of other numbers
swapped : (y x s : ℤ) → (y +ℤ s) +ℤ x ≡ (x +ℤ s) +ℤ y
swapped y x s = omega (arith, ints)

one_behind : (x s y t z : ℤ) → s +ℤ y ≡ t +ℤ z → (x +ℤ s) +ℤ y ≡ (x +ℤ t) +ℤ z
one_behind x s y t z e = omega (arith, ints)

-- a triangle replaced
sum_replaced : (φ : ℕ → ℕ → ℤ) (tris : List Tri) (k : ℕ) (t : Tri) → k < length tris
    → sum_sides φ (slice_set tris k t) +ℤ sides_sum φ (tri_at tris k) ≡ sum_sides φ tris +ℤ sides_sum φ t
sum_replaced φ [] k t below = absurd (omega (arith, below))
sum_replaced φ (u ∷ us) zero t below = swapped (sides_sum φ t) (sides_sum φ u) (sum_sides φ us)
sum_replaced φ (u ∷ us) (suc k) t below =
    one_behind (sides_sum φ u) (sum_sides φ (slice_set us k t)) (sides_sum φ (tri_at us k)) (sum_sides φ us) (sides_sum φ t)
    (sum_replaced φ us k t (omega (arith, below)))

-- numbers in another order
turned_once : (x y z : ℤ) → z +ℤ (x +ℤ y) ≡ x +ℤ (y +ℤ z)
turned_once x y z = omega (arith, ints)

turned_twice : (x y z : ℤ) → y +ℤ (z +ℤ x) ≡ x +ℤ (y +ℤ z)
turned_twice x y z = omega (arith, ints)

-- the sum for a triangle read from any corner
sum_from : (φ : ℕ → ℕ → ℤ) (t : Tri) (i j k : ℕ) → IsReadFrom t i j k → sides_sum φ t ≡ φ i j +ℤ (φ j k +ℤ φ k i)
sum_from φ t i j k (inl (a, b, c)) = λ x. φ (a x) (b x) +ℤ (φ (b x) (c x) +ℤ φ (c x) (a x))
sum_from φ t i j k (inr (inl (b, c, a))) = (λ x. φ (a x) (b x) +ℤ (φ (b x) (c x) +ℤ φ (c x) (a x))) ∙ turned_once (φ i j) (φ j k) (φ k i)
sum_from φ t i j k (inr (inr (c, a, b))) = (λ x. φ (a x) (b x) +ℤ (φ (b x) (c x) +ℤ φ (c x) (a x))) ∙ turned_twice (φ i j) (φ j k) (φ k i)

-- the sums of the two triangles before and after, where the diagonals cancel
two_sums : (before between after near far first second ij ji jc ci id dj dc cd : ℤ) → between +ℤ near ≡ before +ℤ first
    → after +ℤ far ≡ between +ℤ second → near ≡ ij +ℤ (jc +ℤ ci) → far ≡ ji +ℤ (id +ℤ dj) → first ≡ id +ℤ (dc +ℤ ci)
    → second ≡ dj +ℤ (jc +ℤ cd) → ji ≡ neg_ℤ ij → cd ≡ neg_ℤ dc → after ≡ before
two_sums before between after near far first second ij ji jc ci id dj dc cd h1 h2 h3 h4 h5 h6 h7 h8 = omega (arith, ints, h1, h2, h3, h4, h5, h6, h7, h8)

-- ---- the triangles after a flip

module _ (corners : List Point) (tris : List Tri) (fits : Fits corners tris) (k l : ℕ) (quad : Quad) (k_in_list : k < length tris)
    (l_in_list : l < length tris) (different : k ≢ l) (is : IsQuadOf tris k l quad) (to_flip : IsQuadToFlip corners quad) where
  abbrev piece : List ℕ
  piece = range_with_len 0 (length corners)

  abbrev first : Tri
  first = record { a = quad.from; b = quad.right; c = quad.left }

  abbrev second : Tri
  second = record { a = quad.right; b = quad.to; c = quad.left }

  abbrev after : List Tri
  after = flipped tris k l quad

  abbrev none : Tri
  none = record { a = 0; b = 0; c = 0 }

  abbrev near_tri : Tri
  near_tri = tri_at tris k

  abbrev far_tri : Tri
  far_tri = tri_at tris l

  near_is : IsTriOf corners piece near_tri
  near_is = fits.triangles k k_in_list

  far_is : IsTriOf corners piece far_tri
  far_is = fits.triangles l l_in_list

  -- the corners of the quadrilateral are vertices
  vertices : IsQuadBelow (length corners) quad
  vertices = quad_below corners tris fits k l quad k_in_list l_in_list is

  -- so a counterclockwise triangle of vertices is one of the ring
  tri_of_vertices : (t : Tri) → t.a < length corners → t.b < length corners → t.c < length corners → IsCounterclockwiseTri corners t
      → IsTriOf corners piece t
  tri_of_vertices t a b c left = record {
    has_a = in_range (length corners) t.a a;
    has_b = in_range (length corners) t.b b;
    has_c = in_range (length corners) t.c c;
    counterclockwise = left;
  }

  -- the two triangles turn left before
  pub near_left : IsLeft (whole (vertex corners quad.from)) (whole (vertex corners quad.to)) (whole (vertex corners quad.left))
  near_left = turns_left corners near_tri quad.from quad.to quad.left is.near near_is.counterclockwise

  pub far_left : IsLeft (whole (vertex corners quad.to)) (whole (vertex corners quad.from)) (whole (vertex corners quad.right))
  far_left = turns_left corners far_tri quad.to quad.from quad.right is.far far_is.counterclockwise

  -- and the new ones too
  pub first_is : IsTriOf corners piece first
  first_is = tri_of_vertices first vertices.from vertices.right vertices.left (first_turns corners quad near_left far_left to_flip)

  pub second_is : IsTriOf corners piece second
  second_is = tri_of_vertices second vertices.right vertices.to vertices.left (second_turns corners quad near_left far_left to_flip)

  triangles : (m : ℕ) → m < length after → IsTriOf corners piece (tri_at after m)
  triangles m below = elim (cases_eq m k) [
    | inl same ↦ subst (λ a. IsTriOf corners piece (tri_at after a)) (sym same)
        (subst (IsTriOf corners piece) (sym (replaced_first tris k l first second none k_in_list l_in_list different)) first_is)
    | inr not_k ↦ elim (cases_eq m l) [
      | inl same ↦ subst (λ a. IsTriOf corners piece (tri_at after a)) (sym same)
          (subst (IsTriOf corners piece) (sym (replaced_second tris k l first second none k_in_list l_in_list different)) second_is)
      | inr not_l ↦ subst (IsTriOf corners piece) (sym (replaced_others tris k l first second none k_in_list l_in_list different m not_k not_l))
          (fits.triangles m (omega (arith, below, replaced_length tris k l first second none k_in_list l_in_list different)))
    ]
  ]

  same_sum : (φ : ℕ → ℕ → ℤ) → IsOdd φ → sum_sides φ after ≡ sum_sides φ tris
  same_sum φ odd =
      let between = slice_set tris k first in
      let there : tri_at between l ≡ far_tri = get_or-set_other tris k l first none (λ e. different (sym e)) in
      two_sums (sum_sides φ tris) (sum_sides φ between) (sum_sides φ after) (sides_sum φ near_tri) (sides_sum φ far_tri) (sides_sum φ first) (sides_sum φ second)
      (φ quad.from quad.to) (φ quad.to quad.from) (φ quad.to quad.left) (φ quad.left quad.from) (φ quad.from quad.right) (φ quad.right quad.to)
      (φ quad.right quad.left) (φ quad.left quad.right)
      (sum_replaced φ tris k first k_in_list)
      (subst (λ t. sum_sides φ after +ℤ sides_sum φ t ≡ sum_sides φ between +ℤ sides_sum φ second) there
      (sum_replaced φ between l second (omega (arith, l_in_list, length-set tris k first))))
      (sum_from φ near_tri quad.from quad.to quad.left (read_from corners near_tri quad.from quad.to quad.left is.near near_is.counterclockwise))
      (sum_from φ far_tri quad.to quad.from quad.right (read_from corners far_tri quad.to quad.from quad.right is.far far_is.counterclockwise))
      refl refl (odd quad.from quad.to) (odd quad.right quad.left)

  bounded : HaveBoundary piece after
  bounded φ odd = same_sum φ odd ∙ sides_cancel corners piece tris fits φ odd

  -- they fit the ring
  pub fits_after : IsPolygonPiece corners piece → Fits corners after
  fits_after polygon = fits_bounded corners piece after polygon triangles bounded
