-- Triangles beyond the sides of a triangle of a mesh, by the numbers of the sides.
use Rattle.std.proofs.Common.{◌≡◌, inl, inr, refl, sym, subst, zero, suc, ℕ, ◌<◌, List, length, arith}
use Rattle.plane.specs.Point.{Point, whole}
use Rattle.plane.specs.Turn.{IsLeft}
use Rattle.rings.specs.Ring.{vertex}
use Rattle.meshes.proofs.Sides.{corners_differ, fitting_sides}
use Rattle.meshes.proofs.TreeLeaves.{not_two_shared}
use Rattle.meshes.proofs.Walks.{Touch}
use Rattle.meshes.specs.Fits.{Fits}
use Rattle.meshes.specs.Mesh.{side_begin, side_end}
use Rattle.meshes.specs.Side.{HasSide, tri_at}
use Rattle.meshes.specs.declared.tri.Tri.{Tri}
use Rattle.tri_mesh.proofs.Neighbours.{has_side_numbered, numbered_side}
use Rattle.see_cone.specs.Reached.{IsAcrossSide}

-- two triangles do not share two sides,
not_both : (corners : List Point) (t u : Tri)
    → IsLeft (whole (vertex corners t.a)) (whole (vertex corners t.b)) (whole (vertex corners t.c))
    → IsLeft (whole (vertex corners u.a)) (whole (vertex corners u.b)) (whole (vertex corners u.c))
    → (first second : ℕ) → first < second → second < 3
    → HasSide u (side_end t first) (side_begin t first) → HasSide u (side_end t second) (side_begin t second) → ⊥
not_both corners t u t_left u_left zero (suc zero) h n x y =
    not_two_shared corners t u t_left u_left t.a t.b t.c (inl (refl, refl)) (inr (inl (refl, refl))) x y
not_both corners t u t_left u_left zero (suc (suc zero)) h n x y =
    not_two_shared corners t u t_left u_left t.c t.a t.b (inr (inr (refl, refl))) (inl (refl, refl)) y x
not_both corners t u t_left u_left (suc zero) (suc (suc zero)) h n x y =
    not_two_shared corners t u t_left u_left t.b t.c t.a (inr (inl (refl, refl))) (inr (inr (refl, refl))) x y
not_both corners t u t_left u_left first zero h n x y = absurd (omega arith)
not_both corners t u t_left u_left (suc first) (suc zero) h n x y = absurd (omega arith)
not_both corners t u t_left u_left (suc (suc first)) (suc (suc zero)) h n x y = absurd (omega arith)
not_both corners t u t_left u_left first (suc (suc (suc second))) h n x y = absurd (omega arith)

-- and no two sides of a triangle begin at one corner
not_one_begin : (t : Tri) → ¬ (t.a ≡ t.b) → ¬ (t.b ≡ t.c) → ¬ (t.c ≡ t.a) → (first second : ℕ) → first < second → second < 3
    → ¬ (side_begin t first ≡ side_begin t second)
not_one_begin t ab bc ca zero (suc zero) h n = ab
not_one_begin t ab bc ca zero (suc (suc zero)) h n = λ same. ca (sym same)
not_one_begin t ab bc ca (suc zero) (suc (suc zero)) h n = bc
not_one_begin t ab bc ca first zero h n = absurd (omega arith)
not_one_begin t ab bc ca (suc first) (suc zero) h n = absurd (omega arith)
not_one_begin t ab bc ca (suc (suc first)) (suc (suc zero)) h n = absurd (omega arith)
not_one_begin t ab bc ca first (suc (suc (suc second))) h n = absurd (omega arith)

module _ (tris : List Tri) (k side l : ℕ) (number : side < 3) (beyond : IsAcrossSide tris k side l) where
  -- a triangle beyond a side shares it
  pub touch_beyond : Touch tris k l
  touch_beyond = record {
    i = side_begin (tri_at tris k) side;
    j = side_end (tri_at tris k) side;
    of_first = has_side_numbered (tri_at tris k) side number;
    of_second = inr beyond.has;
  }

module _ (corners : List Point) (tris : List Tri) (fits : Fits corners tris) (k : ℕ) (k_below : k < length tris) where
  -- it is another triangle,
  pub differs_beyond : (side l : ℕ) → side < 3 → IsAcrossSide tris k side l → ¬ (l ≡ k)
  differs_beyond side l number beyond same =
      let t = tri_at tris k in
      (fitting_sides corners tris fits).one_way (side_begin t side) (side_end t side) k k_below (has_side_numbered t side number)
      (subst (λ m. HasSide (tri_at tris m) (side_end t side) (side_begin t side)) same beyond.has)

  -- and there is one at most
  pub one_beyond : (side l m : ℕ) → IsAcrossSide tris k side l → IsAcrossSide tris k side m → l ≡ m
  one_beyond side l m a b =
      let t = tri_at tris k in
      (fitting_sides corners tris fits).once (side_end t side) (side_begin t side) l m a.in_list b.in_list a.has b.has

  -- none is beyond two sides,
  pub not_beyond_two : (first second l : ℕ) → first < second → second < 3 → IsAcrossSide tris k first l → IsAcrossSide tris k second l → ⊥
  not_beyond_two first second l less number a b =
      not_both corners (tri_at tris k) (tri_at tris l) (fits.triangles k k_below).counterclockwise (fits.triangles l a.in_list).counterclockwise
      first second less number a.has b.has

  -- and no two begin at one corner
  pub begins_differ : (first second : ℕ) → first < second → second < 3 → ¬ (side_begin (tri_at tris k) first ≡ side_begin (tri_at tris k) second)
  begins_differ first second less number =
      let differ = corners_differ corners (tri_at tris k) (fits.triangles k k_below).counterclockwise in
      not_one_begin (tri_at tris k) differ.0 differ.1 differ.2 first second less number

  -- a triangle that shares a side is beyond one
  pub beyond_touch : (l : ℕ) → l < length tris → Touch tris k l → ¬ (l ≡ k) → (side : ℕ) × (side < 3) × IsAcrossSide tris k side l
  beyond_touch l l_below touch differs = elim touch.of_second [
    | inl along ↦ absurd (differs ((fitting_sides corners tris fits).once touch.i touch.j l k l_below k_below along touch.of_first))
    | inr back ↦
        let (side, number, begins, ends) = numbered_side (tri_at tris k) touch.i touch.j touch.of_first in
        (side, number, record { in_list = l_below; has = rw (begins, ends) back })
  ]
