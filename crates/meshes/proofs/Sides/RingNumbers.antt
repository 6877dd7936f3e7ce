-- The numbers in a triangulation of a ring: those of its vertices, and how many triangles there are.
use Rattle.std.proofs.Common.{◌≡◌, inl, inr, subst, ℕ, ◌+◌, ◌<◌, List, length, arith}
use Rattle.std.proofs.lemmas.List.FromFn.{get_or-range_with_len, length-range_with_len}
use Rattle.std.specs.List.{Contains, range_with_len}
use Rattle.plane.specs.Point.{Point}
use Rattle.meshes.specs.Prelude.{Fits, HasSide, tri_at}
use Rattle.meshes.specs.declared.tri.Tri.{Tri}

-- a member of the numbers below n is below n
pub below_of_member : (n x : ℕ) → Contains (range_with_len 0 n) x → x < n
below_of_member n x (k, h, e) =
    let below : k < n = omega (arith, length-range_with_len 0 n) in
    omega (arith, get_or-range_with_len 0 n k x below)

module _ (corners : List Point) (tris : List Tri) (fits : Fits corners tris) where
  -- there are two triangles fewer than vertices
  pub two_fewer : length tris + 2 ≡ length corners
  two_fewer = rw (length-range_with_len 0 (length corners)) at fits.count

  -- the ends of a side of a triangle are vertices
  pub ends_below : (k i j : ℕ) → k < length tris → HasSide (tri_at tris k) i j → (i < length corners) × (j < length corners)
  ends_below k i j in_list has =
      let n = length corners in
      let tri = fits.triangles k in_list in
      let a = below_of_member n (tri_at tris k).a tri.has_a in
      let b = below_of_member n (tri_at tris k).b tri.has_b in
      let c = below_of_member n (tri_at tris k).c tri.has_c in
      elim has [
        | inl e ↦ (subst (λ m. m < n) e.0 a, subst (λ m. m < n) e.1 b)
        | inr (inl e) ↦ (subst (λ m. m < n) e.0 b, subst (λ m. m < n) e.1 c)
        | inr (inr e) ↦ (subst (λ m. m < n) e.0 c, subst (λ m. m < n) e.1 a)
      ]
