-- How a triangle of a mesh is entered from one with which it shares a side: the ends of the diagonal, and the third corner.
-- The corners of a triangle, and the ends of its sides.
use Rattle.std.proofs.Common.{◌≡◌, ◌⊎◌, inl, inr, refl, subst, List, length, ℕ, zero, suc, ◌<◌, ◌≤◌, arith, [], ◌∷◌, slice_index}
use Rattle.plane.specs.Point.{Point}
use Rattle.meshes.proofs.Sides.{fitting_sides, ends_below}
use Rattle.meshes.proofs.TreeLeaves.{side_is_one}
use Rattle.meshes.specs.Fits.{Fits, IsSideOfTwo}
use Rattle.meshes.specs.Mesh.{side_begin, side_end}
use Rattle.meshes.specs.Side.{HasSide, tri_at, HasCorner}
use Rattle.meshes.specs.declared.tri.Tri.{Tri}
use Rattle.path_tree.specs.Listed.{IsTriangleBeyond, IsFunnelAt, Listed}
use Rattle.path_tree.specs.Third.{IsThird, side_third}

-- and that corner is the third
pub third_numbered : (t : Tri) (side : ℕ) → side < 3 → IsThird t (side_begin t side) (side_end t side) (side_third t side)
third_numbered t zero below = (inr (inl (refl, refl)), inr (inr (refl, refl)))
third_numbered t (suc zero) below = (inr (inr (refl, refl)), inl (refl, refl))
third_numbered t (suc (suc zero)) below = (inl (refl, refl), inr (inl (refl, refl)))
third_numbered t (suc (suc (suc n))) below = absurd (omega (arith, below))

module _ (corners : List Point) (tris : List Tri) (fits : Fits corners tris) where
  -- a side that two triangles have, in opposite directions, is of these two,
  pub side_of_both : (i j k l : ℕ) → k < length tris → l < length tris → ¬ (k ≡ l) → HasSide (tri_at tris k) i j
      → HasSide (tri_at tris l) j i → IsSideOfTwo tris i j k l
  side_of_both i j k l in_list other_in_list differ has other_has =
      let sides = fitting_sides corners tris fits in
      record {
        in_list = in_list;
        other_in_list = other_in_list;
        different = differ;
        has = has;
        other_has = other_has;
        only = λ n below between. elim between [
          | inl same ↦ inl (sides.once i j n k below in_list same has)
          | inr back ↦ inr (sides.once j i n l below other_in_list back other_has)
        ];
      }

  -- so a triangle is beyond it, with its third corner,
  pub beyond_of : (i j k l m : ℕ) → IsSideOfTwo tris i j k l → IsThird (tri_at tris k) i j m → IsTriangleBeyond tris k i j m
  beyond_of i j k l m diagonal third = record { from = l; diagonal = diagonal; right = third.0; left = third.1 }

  -- and over another side of it the walk goes on to the right or to the left
  pub goes_on : (i j k l m p q next : ℕ) → IsSideOfTwo tris i j k l → IsThird (tri_at tris k) i j m → IsSideOfTwo tris p q next k
      → ¬ (next ≡ l) → ((p ≡ i) × (q ≡ m)) ⊎ ((p ≡ m) × (q ≡ j))
  goes_on i j k l m p q next diagonal third shared differ =
      let left = (fits.triangles k diagonal.in_list).counterclockwise in
      elim (side_is_one corners (tri_at tris k) left i j m diagonal.has third.0 q p shared.other_has) [
        | inl back ↦
            let there = subst (λ n. HasSide (tri_at tris next) n q) back.1 shared.has in
            absurd (differ ((fitting_sides corners tris fits).once j i next l shared.in_list diagonal.other_in_list
            (subst (λ n. HasSide (tri_at tris next) j n) back.0 there) diagonal.other_has))
        | inr (inl over_right) ↦ inr (over_right.1, over_right.0)
        | inr (inr over_left) ↦ inl (over_left.1, over_left.0)
      ]

-- a funnel after so many diagonals is one after more
pub funnel_later : (corners : List Point) (start : Point) (i j d e : ℕ) (f : Listed) → d ≤ e → IsFunnelAt corners start i j d f
    → IsFunnelAt corners start i j e f
funnel_later corners start i j d e f le w = record {
  before = w.before;
  funnel = w.funnel;
  begins = w.begins;
  source = w.source;
  numbers = w.numbers;
  few = omega (arith, le, w.few);
}

-- the corners in their order
abbrev pub corners_of : Tri → List ℕ
corners_of t = t.a ∷ t.b ∷ t.c ∷ []

-- each of these is one,
corner_at : (t : Tri) (k : ℕ) → k < 3 → HasCorner t (slice_index (corners_of t) k)
corner_at t zero below = inl refl
corner_at t (suc zero) below = inr (inl refl)
corner_at t (suc (suc zero)) below = inr (inr refl)
corner_at t (suc (suc (suc n))) below = absurd (omega (arith, below))

-- and there is no other
pub corner_place : (t : Tri) (i : ℕ) → HasCorner t i → (k : ℕ) × (k < 3) × (slice_index (corners_of t) k ≡ i)
corner_place t i (inl e) = (0, omega arith, e)
corner_place t i (inr (inl e)) = (1, omega arith, e)
corner_place t i (inr (inr e)) = (2, omega arith, e)

-- a side begins at each corner,
side_from : (t : Tri) (i : ℕ) → HasCorner t i → (j : ℕ) × HasSide t i j
side_from t i (inl e) = (t.b, inl (e, refl))
side_from t i (inr (inl e)) = (t.c, inr (inl (e, refl)))
side_from t i (inr (inr e)) = (t.a, inr (inr (e, refl)))

-- and each corner is an end of side 0, 1 or 2, or across from it
pub corner_cases : (t : Tri) (side i : ℕ) → side < 3 → HasCorner t i
    → (side_begin t side ≡ i) ⊎ (side_end t side ≡ i) ⊎ (side_third t side ≡ i)
corner_cases t zero i below has = has
corner_cases t (suc zero) i below has = elim has [ inl e ↦ inr (inr e) | inr (inl e) ↦ inl e | inr (inr e) ↦ inr (inl e) ]
corner_cases t (suc (suc zero)) i below has = elim has [ inl e ↦ inr (inl e) | inr (inl e) ↦ inr (inr e) | inr (inr e) ↦ inl e ]
corner_cases t (suc (suc (suc n))) i below has = absurd (omega (arith, below))

module _ (corners : List Point) (tris : List Tri) (fits : Fits corners tris) (k : ℕ) (within : k < length tris) (i : ℕ)
    (has : HasCorner (tri_at tris k) i) where
  -- in a mesh it is a vertex
  pub corner_below : i < length corners
  corner_below = let (j, side) = side_from (tri_at tris k) i has in (ends_below corners tris fits k i j within side).0

module _ (corners : List Point) (tris : List Tri) (fits : Fits corners tris) (home : ℕ) (within : home < length tris) (t : Tri)
    (is : t ≡ tri_at tris home) (k : ℕ) (below : k < 3) where
  -- each corner of a triangle that was read is one of it, and a vertex
  pub corner_read : HasCorner (tri_at tris home) (slice_index (corners_of t) k)
  corner_read = subst (λ u. HasCorner u (slice_index (corners_of t) k)) is (corner_at t k below)

  pub read_below : slice_index (corners_of t) k < length corners
  read_below = corner_below corners tris fits home within (slice_index (corners_of t) k) corner_read
