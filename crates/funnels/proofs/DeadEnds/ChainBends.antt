-- The bends of a chain, and walks to them.
use Rattle.std.proofs.Common.{◌≡◌, sym, subst, ◌∙◌, ℕ, suc, ◌+◌, ◌-◌, ◌<◌, List, length, get_or, take, arith}
use Rattle.std.proofs.lemmas.List.{get_or-take, length-take-le}
use Rattle.plane.specs.Point.{IsPoint, Point, Triple, whole}
use Rattle.rings.specs.Prelude.{IsBend, IsBentChain, IsIn, point_at, Sees}
use Rattle.meshes.proofs.Sides.{piece_points_all}
use Rattle.meshes.specs.Prelude.{Fits, IsInTri, IsWalk, IsWalkBetween, tri_at}
use Rattle.meshes.specs.declared.tri.Tri.{Tri}
use Rattle.meshes.specs.Laws.{walk_tri}
use Rattle.funnels.proofs.DeadEnds.WalkParts.{first_with, walk_front}

-- ---- bends

-- from p the ways go to v, a vertex of the ring, and on to q, with a bend there
pub record IsBentAt (corners : List Point) (p v q : Point) : Type 0 where
  pub bend : IsBend corners p v q
  pub p_differs : ¬ (p ≡ v)
  pub q_differs : ¬ (q ≡ v)
  pub comes : Sees corners (whole p) (whole v)
  pub goes : Sees corners (whole v) (whole q)

-- so it is at each inner point of a chain with bends
pub bent_at : (corners chain : List Point) → IsBentChain corners chain → (n : ℕ) → suc (suc n) < length chain
    → IsBentAt corners (point_at chain n) (point_at chain (suc n)) (point_at chain (suc (suc n)))
bent_at corners chain bent n h =
    let c = bent.chain in
    let at = λ (k : ℕ). point_at chain k in
    let here : n + 1 ≡ suc n = omega arith in
    let next : suc n + 1 ≡ suc (suc n) = omega arith in
    let back : suc n - 1 ≡ n = omega arith in
    record {
      bend = subst (λ k. IsBend corners (at k) (at (suc n)) (at (suc (suc n)))) back
          (subst (λ k. IsBend corners (at (suc n - 1)) (at (suc n)) (at k)) next (bent.bends (suc n) (record { not_first = omega arith; not_last = omega arith })));
      p_differs = subst (λ k. ¬ (at n ≡ at k)) here (c.distinct n (omega arith));
      q_differs = λ same. subst (λ k. ¬ (at (suc n) ≡ at k)) next (c.distinct (suc n) (omega arith)) (sym same);
      comes = subst (λ k. Sees corners (whole (at n)) (whole (at k))) here (c.sees n (omega arith));
      goes = subst (λ k. Sees corners (whole (at (suc n))) (whole (at k))) next (c.sees (suc n) (omega arith));
    }

-- ---- walks to a point

-- a walk from triangle h of which the last triangle alone has the rational point
pub record IsFrontTo (corners : List Point) (tris : List Tri) (h : ℕ) (x : Triple) : Type 0 where
  pub front : List ℕ
  pub is_walk : IsWalk tris front
  pub begins : get_or front 0 0 ≡ h
  pub has : IsInTri corners (walk_tri tris front (length front - 1)) x
  pub new : (l : ℕ) → l + 1 < length front → ¬ IsInTri corners (walk_tri tris front l) x

module _ (corners : List Point) (tris : List Tri) (fits : Fits corners tris) where
  -- a point of the ring is in a triangle
  pub some_triangle : (x : Triple) → IsPoint x → IsIn corners x → (k : ℕ) × (k < length tris) × IsInTri corners (tri_at tris k) x
  some_triangle x at_x inside = (fits.covers x at_x).0 (subst (λ ring. IsIn ring x) (sym (piece_points_all corners)) inside)

  -- a walk to it, up to the first triangle with the point
  front_of : (h k : ℕ) (x : Triple) → IsInTri corners (tri_at tris k) x → (walk : List ℕ) → IsWalkBetween tris h k walk → IsFrontTo corners tris h x
  front_of h k x inside walk b =
      let w = b.is_walk in
      let some = w.some in
      let last = subst (λ n. IsInTri corners (tri_at tris n) x) (sym b.last) inside in
      let (m, f) = first_with corners tris walk x (length walk - 1) (omega arith) last in
      let within = f.within in
      let long : length (take (m + 1) walk) ≡ m + 1 = length-take-le (m + 1) walk (omega arith) in
      let at = λ (l : ℕ) (less : l < m + 1). get_or-take (m + 1) walk l 0 less in
      let place : m ≡ length (take (m + 1) walk) - 1 = omega arith in
      let found = subst (λ n. IsInTri corners (tri_at tris n) x) (sym (at m (omega arith))) f.has in
      record {
        front = take (m + 1) walk;
        is_walk = walk_front tris walk w (m + 1) (omega arith) (omega arith);
        begins = at 0 (omega arith) ∙ b.first;
        has = subst (λ l. IsInTri corners (walk_tri tris (take (m + 1) walk) l) x) place found;
        new = λ l less in_l. f.least l (omega arith) (subst (λ n. IsInTri corners (tri_at tris n) x) (at l (omega arith)) in_l);
      }

  -- so there is such a walk to each point of the ring
  pub front_to : (h : ℕ) → h < length tris → (x : Triple) → IsPoint x → IsIn corners x → IsFrontTo corners tris h x
  front_to h in_list x at_x inside =
      let (k, within, in_k) = some_triangle x at_x inside in
      let one = fits.tree h k in_list within in
      front_of h k x in_k one.walk one.between
