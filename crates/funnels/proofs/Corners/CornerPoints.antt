-- A vertex of the ring in a closed triangle of a mesh is a corner of it.
-- The corners of a triangle of a mesh beside one of them.
use Rattle.std.proofs.Common.{◌≡◌, ◌⊎◌, inl, inr, true, refl, sym, subst, ℕ, ◌<◌, ℤ, pos, ◌<ℤ◌, ◌≤ℤ◌, List, length, arith, Bool, false}
use Rattle.std.proofs.lemmas.Int.{ints}
use Rattle.std.specs.List.{Contains}
use Rattle.integer_algebra.proofs.SignSteps.{at_least_unless}
use Rattle.integer_algebra.proofs.Signs.{lt_or_le}
use Rattle.plane.proofs.Points.{whole_is_point}
use Rattle.plane.specs.Prelude.{determinant, Point, whole}
use Rattle.rings.specs.Ring.{vertex}
use Rattle.ring_laws.proofs.Triangles.{on_first_side, on_second_side, on_third_side}
use Rattle.meshes.proofs.Parts.{inside_off_edges, vertex_on_ring, paved}
use Rattle.meshes.proofs.Sides.{corners_differ}
use Rattle.meshes.specs.Prelude.{Fits, FitsPiece, HasCorner, HasSide, IsInTri, IsStrictlyInTri, tri_at}
use Rattle.meshes.specs.declared.tri.Tri.{Tri}
use Rattle.funnels.proofs.Corners.RingTurns.{end_of_its_side}
use Rattle.funnels.specs.Corner.{HasCornerOn}

-- ---- a triangle by the numbers of its corners

-- a triangle at one of its corners, between two others
pub record IsAt (t : Tri) (x : ℕ) : Type 0 where
  pub before : ℕ
  pub after : ℕ
  pub sides : HasCornerOn true t before x after

-- it has a side to each corner and one from there
pub at_corner : (t : Tri) (x : ℕ) → HasCorner t x → IsAt t x
at_corner t x (inl e) = record { before = t.c; after = t.b; sides = (inr (inr (refl, e)), inl (e, refl)) }
at_corner t x (inr (inl e)) = record { before = t.a; after = t.c; sides = (inl (refl, e), inr (inl (e, refl))) }
at_corner t x (inr (inr e)) = record { before = t.b; after = t.a; sides = (inr (inl (refl, e)), inr (inr (e, refl))) }

-- the ends of its sides are corners of it
pub side_corners : (t : Tri) (i j : ℕ) → HasSide t i j → HasCorner t i × HasCorner t j
side_corners t i j (inl e) = (inl e.0, inr (inl e.1))
side_corners t i j (inr (inl e)) = (inr (inl e.0), inr (inr e.1))
side_corners t i j (inr (inr e)) = (inr (inr e.0), inl e.1)

-- what is 0 or more on one side of a line, and not more, is on the line
zero_of : (z : ℤ) → ¬ (z <ℤ pos 0) → z ≤ℤ pos 0 → z ≡ pos 0
zero_of z h k = let l = at_least_unless h in omega (arith, ints)

-- ---- vertices in triangles

module _ (corners : List Point) (piece : List ℕ) (tris : List Tri) (fits : FitsPiece corners piece tris) (k x : ℕ)
    (within : k < length tris) (has : Contains piece x) (inside : IsInTri corners (tri_at tris k) (whole (vertex corners x))) where
  -- an end of a side is a corner
  corner_of_end : (i j : ℕ) → HasSide (tri_at tris k) i j → (x ≡ i) ⊎ (x ≡ j) → HasCorner (tri_at tris k) x
  corner_of_end i j s (inl e) = subst (HasCorner (tri_at tris k)) (sym e) (side_corners (tri_at tris k) i j s).0
  corner_of_end i j s (inr e) = subst (HasCorner (tri_at tris k)) (sym e) (side_corners (tri_at tris k) i j s).1

  -- a vertex in the triangle is a corner of it
  pub corner_of : HasCorner (tri_at tris k) x
  corner_of =
      let t = tri_at tris k in
      let left = (fits.triangles k within).counterclockwise in
      let V = whole (vertex corners x) in
      let at_V = whole_is_point (vertex corners x) in
      let A = whole (vertex corners t.a) in
      let B = whole (vertex corners t.b) in
      let C = whole (vertex corners t.c) in
      let side = end_of_its_side corners piece tris fits k in
      elim (lt_or_le (pos 0) (determinant A B V)) [
        | inr le ↦
            let on = on_first_side (vertex corners t.a) (vertex corners t.b) (vertex corners t.c) left V at_V inside (zero_of _ inside.not_right_of_first le) in
            corner_of_end t.a t.b (inl (refl, refl)) (side t.a t.b x within (inl (refl, refl)) has on)
        | inl first ↦ elim (lt_or_le (pos 0) (determinant B C V)) [
          | inr le ↦
              let on = on_second_side (vertex corners t.a) (vertex corners t.b) (vertex corners t.c) left V at_V inside (zero_of _ inside.not_right_of_second le) in
              corner_of_end t.b t.c (inr (inl (refl, refl))) (side t.b t.c x within (inr (inl (refl, refl))) has on)
          | inl second ↦ elim (lt_or_le (pos 0) (determinant C A V)) [
            | inr le ↦
                let on = on_third_side (vertex corners t.a) (vertex corners t.b) (vertex corners t.c) left V at_V inside (zero_of _ inside.not_right_of_third le) in
                corner_of_end t.c t.a (inr (inr (refl, refl))) (side t.c t.a x within (inr (inr (refl, refl))) has on)
            | inl third ↦
                let strictly : IsStrictlyInTri corners t V = record { left_of_first = first; left_of_second = second; left_of_third = third } in
                absurd (inside_off_edges corners piece tris (paved fits) k within V at_V strictly (vertex_on_ring corners piece x has))
          ]
        ]
      ]

-- a triangle with two sides one after the other has the third
third_side : (a b c x y z : ℕ) → ¬ (a ≡ b) → ¬ (b ≡ c) → ¬ (c ≡ a) → HasSide (record { a = a; b = b; c = c }) x y
    → HasSide (record { a = a; b = b; c = c }) y z → HasSide (record { a = a; b = b; c = c }) z x
third_side a b c x y z ab bc ca h k = grind arith

-- its two other corners, where its corners are different
corners_on : (side : Bool) (t : Tri) (before v after : ℕ) → (¬ (t.a ≡ t.b)) × (¬ (t.b ≡ t.c)) × (¬ (t.c ≡ t.a))
    → HasCornerOn side t before v after → HasCornerOn side t v after before × HasCornerOn side t after before v
corners_on true t before v after d c =
    let third = third_side t.a t.b t.c before v after d.0 d.1 d.2 c.0 c.1 in
    ((c.1, third), (third, c.0))
corners_on false t before v after d c =
    let third = third_side t.a t.b t.c after v before d.0 d.1 d.2 c.1 c.0 in
    ((c.1, third), (third, c.0))

module _ (corners : List Point) (tris : List Tri) (fits : Fits corners tris) (k : ℕ) (within : k < length tris)
    (side : Bool) (before v after : ℕ) (corner : HasCornerOn side (tri_at tris k) before v after) where
  -- so a triangle of a mesh has the corner after one, and the one before it
  beside : HasCornerOn side (tri_at tris k) v after before × HasCornerOn side (tri_at tris k) after before v
  beside =
      corners_on side (tri_at tris k) before v after
      (corners_differ corners (tri_at tris k) (fits.triangles k within).counterclockwise) corner

  pub corner_after : HasCornerOn side (tri_at tris k) v after before
  corner_after = beside.0

  pub corner_before : HasCornerOn side (tri_at tris k) after before v
  corner_before = beside.1
