-- Where none of the three sides of a triangle is to be flipped, it is settled.
use Rattle.std.proofs.Common.{◌≡◌, ◌≢◌, inl, inr, refl, sym, subst, ◌∙◌, ℕ, ◌<◌, List, length}
use Rattle.plane.proofs.Order.{before_asym}
use Rattle.plane.specs.Point.{Point}
use Rattle.rings.specs.Ring.{vertex}
use Rattle.meshes.proofs.Sides.{corners_differ, fitting_sides}
use Rattle.meshes.specs.Fits.{Fits}
use Rattle.meshes.specs.Mesh.{side_begin, side_end}
use Rattle.meshes.specs.Side.{HasSide, tri_at}
use Rattle.meshes.specs.declared.tri.Tri.{Tri}
use Rattle.tri_mesh.proofs.Neighbours.{numbered_side}
use Rattle.cut_tri.specs.Triangles.{HasRound}
use Rattle.flip_tri.proofs.HandedOver.{has_side_moved, side_numbered}
use Rattle.flip_tri.proofs.SharedQuads.{quad_of_shared}
use Rattle.flip_tri.specs.Flips.{IsQuadOf, IsQuadToFlip, HasNoFlipAt}
use Rattle.flip_tri.specs.Shared.{HasNoFlipOver, IsShared, quad_of}
use Rattle.flip_tri.specs.declared.flips.Shared.{Shared}
use Rattle.flip_tri.specs.declared.quad.Quad.{Quad}

-- in a triangle with three corners one side begins at each
one_end : (t : Tri) (j k l : ℕ) → t.a ≢ t.b → t.b ≢ t.c → t.c ≢ t.a → HasSide t j k → HasSide t j l → k ≡ l
one_end t j k l ab bc ca (inl e) (inl f) = sym e.1 ∙ f.1
one_end t j k l ab bc ca (inl e) (inr (inl f)) = absurd (ab (e.0 ∙ sym f.0))
one_end t j k l ab bc ca (inl e) (inr (inr f)) = absurd (ca (f.0 ∙ sym e.0))
one_end t j k l ab bc ca (inr (inl e)) (inl f) = absurd (ab (f.0 ∙ sym e.0))
one_end t j k l ab bc ca (inr (inl e)) (inr (inl f)) = sym e.1 ∙ f.1
one_end t j k l ab bc ca (inr (inl e)) (inr (inr f)) = absurd (bc (e.0 ∙ sym f.0))
one_end t j k l ab bc ca (inr (inr e)) (inl f) = absurd (ca (e.0 ∙ sym f.0))
one_end t j k l ab bc ca (inr (inr e)) (inr (inl f)) = absurd (bc (f.0 ∙ sym e.0))
one_end t j k l ab bc ca (inr (inr e)) (inr (inr f)) = sym e.1 ∙ f.1

module _ (corners : List Point) (tris : List Tri) where
  -- a side that no triangle has in the other direction
  pub settled_alone : (k side : ℕ)
      → ((l : ℕ) → l < length tris → ¬ HasSide (tri_at tris l) (side_end (tri_at tris k) side) (side_begin (tri_at tris k) side))
      → HasNoFlipOver corners tris k side
  settled_alone k side alone l below quad is begins ends to_flip = alone l below (has_side_moved refl ends begins is.far.first)

  -- three sides
  pub settled_at : (k : ℕ) → ((side : ℕ) → side < 3 → HasNoFlipOver corners tris k side) → HasNoFlipAt corners tris k
  settled_at k settled = record {
    near = λ l i j c d below h.
        let (side, in_row, begins, ends) = numbered_side (tri_at tris k) i j h.left.first in
        let quad : Quad = record { from = i; to = j; left = c; right = d } in
        settled side in_row l below quad (record { near = h.left; far = h.right }) (sym begins) (sym ends)
        (inl (h.before_end, record { before_left = h.before_left; before_right = h.before_right; convex = h.convex }));
    far = λ l i j c d below h.
        let (side, in_row, begins, ends) = numbered_side (tri_at tris k) j i h.right.first in
        let quad : Quad = record { from = j; to = i; left = d; right = c } in
        settled side in_row l below quad (record { near = h.right; far = h.left }) (sym begins) (sym ends)
        (inr (before_asym (vertex corners i) (vertex corners j) h.before_end, record { before_left = h.before_left; before_right = h.before_right; convex = h.convex }));
  }

  module _ (fits : Fits corners tris) where
    -- the corner after a side is one
    one_corner : (k i j c d : ℕ) → k < length tris → HasRound (tri_at tris k) i j c → HasRound (tri_at tris k) i j d → c ≡ d
    one_corner k i j c d below round other =
        let t = tri_at tris k in
        let differ = corners_differ corners t (fits.triangles k below).counterclockwise in
        one_end t j c d differ.0 differ.1 differ.2 round.second other.second

    -- quadrilaterals of the same triangles with the same diagonal are one
    one_quad : (k l : ℕ) (quad other : Quad) → k < length tris → l < length tris → IsQuadOf tris k l quad → IsQuadOf tris k l other
        → quad.from ≡ other.from → quad.to ≡ other.to → quad ≡ other
    one_quad k l quad other k_below l_below is also from to =
        let near : HasRound (tri_at tris k) other.from other.to quad.left =
        subst (λ a. HasRound (tri_at tris k) a other.to quad.left) from (subst (λ b. HasRound (tri_at tris k) quad.from b quad.left) to is.near) in
        let far : HasRound (tri_at tris l) other.to other.from quad.right =
        subst (λ a. HasRound (tri_at tris l) a other.from quad.right) to (subst (λ b. HasRound (tri_at tris l) quad.to b quad.right) from is.far) in
        let left = one_corner k other.from other.to quad.left other.left k_below near also.near in
        let right = one_corner l other.to other.from quad.right other.right l_below far also.far in
        λ x. record { from = from x; to = to x; left = left x; right = right x }

    -- a side whose quadrilateral is not to be flipped
    pub settled_shared : (shared : Shared) → IsShared tris shared → (¬ IsQuadToFlip corners (quad_of tris shared))
        → HasNoFlipOver corners tris shared.near shared.near_side
    settled_shared shared shares none l below quad is begins ends to_flip =
        let once = fitting_sides corners tris fits in
        let has_far : HasSide (tri_at tris shared.far) quad.to quad.from =
        has_side_moved refl (sym ends) (sym begins) (side_numbered (tri_at tris shared.far) _ _ shared.far_side shares.far_side) in
        let same : l ≡ shared.far = once.once quad.to quad.from l shared.far below shares.far is.far.first has_far in
        let is_far = subst (λ m. IsQuadOf tris shared.near m quad) same is in
        none (subst (IsQuadToFlip corners)
        (one_quad shared.near shared.far quad (quad_of tris shared) shares.near shares.far is_far (quad_of_shared tris shared shares) begins ends) to_flip)
