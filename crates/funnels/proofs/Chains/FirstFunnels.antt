-- A walk begins in a triangle of a mesh: its points see each other and its sides, and with no points before the apex nothing bends.
-- A walk begins in a triangle with a source s: the open funnel of s at a side of the triangle that is shared.
use Rattle.std.proofs.Common.{◌≡◌, inl, inr, subst, List, [], ◌∷◌, length, ℕ, zero, suc, ◌+◌, ◌-◌, ◌<◌, ◌≤◌, arith, refl, ◌∙◌, sym, ap}
use Rattle.std.proofs.Common.{true, false, pos, ◌≤ℤ◌}
use Rattle.plane.proofs.Points.{whole_is_point}
use Rattle.plane.proofs.Segments.{on_first_end}
use Rattle.plane.specs.Prelude.{determinant, IsPoint, On, Point, Triple, whole}
use Rattle.rings.specs.Prelude.{IsBentChain, IsIn, point_at, vertex}
use Rattle.ring_laws.proofs.Triangles.{between_in_triangle}
use Rattle.meshes.proofs.Sides.{left_apart}
use Rattle.meshes.proofs.Sight.{sees_in_triangle}
use Rattle.meshes.proofs.TreeLeaves.{turns_left}
use Rattle.meshes.specs.Prelude.{Fits, HasSide, IsInTri, tri_at}
use Rattle.meshes.specs.declared.tri.Tri.{Tri}
use Rattle.funnels.proofs.Bends.{first_end_in, last_end_in, fan_begins_in, in_angle}
use Rattle.funnels.proofs.Chains.LastPoints.{no_last}
use Rattle.funnels.proofs.Funnels.{funnel_between, funnel_from_left, funnel_from_right}
use Rattle.funnels.proofs.Vertices.{IsSharedSide, shared_side_back}
use Rattle.funnels.specs.Fanned.{IsFanned}
use Rattle.funnels.specs.OpenFunnel.{IsBentFunnel, IsOpenSight, IsOpenFunnel}

-- a point of the ring is a chain, with no bend
pub one_bent : (ring : List Point) (p : Point) → IsIn ring (whole p) → IsBentChain ring (p ∷ [])
one_bent ring p inside = record {
  chain = record {
    some = omega arith;
    inside = λ k less.
        let first : 0 ≡ k = omega (arith, less) in
        subst (λ n. IsIn ring (whole (point_at (p ∷ []) n))) first inside;
    distinct = λ k less. absurd (omega (arith, less));
    sees = λ k less. absurd (omega (arith, less));
  };
  bends = λ k inner. absurd (omega (arith, inner.not_last));
}

-- so nothing bends in a funnel with no points before its apex, and with at most one more on each side
pub bent_from_apex : (ring ns : List Point) (a : ℕ) → a ≤ 1 → length ns ≤ a + 2 → IsIn ring (whole (point_at ns a))
    → IsBentFunnel ring [] ns a
bent_from_apex ring ns a left right inside = record {
  chain = one_bent ring (point_at ns a) inside;
  left_bends = λ h some less. absurd (omega (arith, some, less));
  right_bends = λ h some less. absurd (omega (arith, some, less));
  apex_left = λ q last some. absurd (no_last q last);
  apex_right = λ q last more. absurd (no_last q last);
  apex_side = λ q last. absurd (no_last q last);
}

module _ (corners : List Point) (tris : List Tri) (fits : Fits corners tris) (k : ℕ) (within : k < length tris) where
  -- points of the triangle, two or three,
  pub two_in : (p q : Point) → IsInTri corners (tri_at tris k) (whole p) → IsInTri corners (tri_at tris k) (whole q)
      → (h : ℕ) → h < 2 → IsInTri corners (tri_at tris k) (whole (point_at (p ∷ q ∷ []) h))
  two_in p q in_p in_q zero less = in_p
  two_in p q in_p in_q (suc zero) less = in_q
  two_in p q in_p in_q (suc (suc h)) less = absurd (omega (arith, less))

  pub three_in : (p q t : Point) → IsInTri corners (tri_at tris k) (whole p) → IsInTri corners (tri_at tris k) (whole q)
      → IsInTri corners (tri_at tris k) (whole t)
      → (h : ℕ) → h < 3 → IsInTri corners (tri_at tris k) (whole (point_at (p ∷ q ∷ t ∷ []) h))
  three_in p q t in_p in_q in_t zero less = in_p
  three_in p q t in_p in_q in_t (suc zero) less = in_q
  three_in p q t in_p in_q in_t (suc (suc zero)) less = in_t
  three_in p q t in_p in_q in_t (suc (suc (suc h))) less = absurd (omega (arith, less))

  -- a point of the triangle is in the ring
  pub source_in : (s : Point) → IsInTri corners (tri_at tris k) (whole s) → IsIn corners (whole s)
  source_in s in_s =
      sees_in_triangle corners tris fits k within (whole s) (whole s) (whole_is_point s) (whole_is_point s) in_s in_s (whole s)
      (whole_is_point s) (on_first_end (whole s) (whole s))

  -- it has a side
  module _ (i j : ℕ) (side : HasSide (tri_at tris k) j i) where
    -- both ends of the side are in the triangle,
    pub left_in : IsInTri corners (tri_at tris k) (whole (vertex corners i))
    left_in = last_end_in corners tris fits k within j i side

    pub right_in : IsInTri corners (tri_at tris k) (whole (vertex corners j))
    right_in = first_end_in corners tris fits k within j i side

    -- and so is the side,
    side_in : (z : Triple) → IsPoint z → On z (whole (vertex corners i)) (whole (vertex corners j)) → IsInTri corners (tri_at tris k) z
    side_in z at_z on =
        let t = tri_at tris k in
        between_in_triangle (vertex corners t.a) (vertex corners t.b) (vertex corners t.c) z (whole (vertex corners i))
        (whole (vertex corners j)) at_z (whole_is_point (vertex corners i)) (whole_is_point (vertex corners j)) left_in right_in on

    -- so points of the triangle see the side and each other
    pub sight_of : (ns : List Point) (a : ℕ)
        → ((h : ℕ) → h < length ns → IsInTri corners (tri_at tris k) (whole (point_at ns h)))
        → IsOpenSight corners ns a (vertex corners i) (vertex corners j)
    sight_of ns a all =
        let sees = sees_in_triangle corners tris fits k within in
        record {
          window = λ h less z at_z on window.
              sees (whole (point_at ns h)) z (whole_is_point (point_at ns h)) at_z (all h less) (side_in z at_z on);
          edge = λ e u w some less is. elim is [
            | inl left ↦
                rw (left.1, left.2)
                (sees (whole (point_at ns e)) (whole (point_at ns (e - 1))) (whole_is_point (point_at ns e))
                (whole_is_point (point_at ns (e - 1))) (all e less) (all (e - 1) (omega arith)))
            | inr right ↦
                rw (right.1, right.2)
                (sees (whole (point_at ns (e - 1))) (whole (point_at ns e)) (whole_is_point (point_at ns (e - 1)))
                (whole_is_point (point_at ns e)) (all (e - 1) (omega arith)) (all e less))
          ];
        }

module _ (corners : List Point) (tris : List Tri) (fits : Fits corners tris) (k i j c : ℕ) (within : k < length tris)
    (side : HasSide (tri_at tris k) j i) (next : HasSide (tri_at tris k) i c) (last : HasSide (tri_at tris k) c j)
    (shared : IsSharedSide tris i j)
    (s : Point) (in_s : IsInTri corners (tri_at tris k) (whole s)) where
  -- ---- the ends of the side

  -- they differ,
  ends_differ : ¬ (vertex corners i ≡ vertex corners j)
  ends_differ same =
      let left = turns_left corners (tri_at tris k) (fits.triangles k within).counterclockwise j i c side next in
      (left_apart (whole (vertex corners j)) (whole (vertex corners i)) (whole (vertex corners c)) left).0 (ap (λ p. whole p) (sym same))

  -- the way over the source does not turn to the right,
  turn_at_source : pos 0 ≤ℤ determinant (whole (vertex corners i)) (whole s) (whole (vertex corners j))
  turn_at_source = (in_angle corners tris fits k within true j i c (side, next) (whole s) in_s).to_before

  -- at the left end the ring is open from the source to the right end,
  open_left : ¬ (s ≡ vertex corners i) → IsFanned true corners (vertex corners i) (whole s) (whole (vertex corners j))
  open_left = fan_begins_in corners tris fits k within true j i c (side, next) shared s in_s

  -- and at the right end to the left end
  open_right : ¬ (s ≡ vertex corners j) → IsFanned false corners (vertex corners j) (whole s) (whole (vertex corners i))
  open_right = fan_begins_in corners tris fits k within false i j c (side, last) (shared_side_back shared) s in_s

  -- ---- the funnels

  -- a source that is neither end is the apex between the ends,
  pub start_between : ¬ (s ≡ vertex corners i) → ¬ (s ≡ vertex corners j)
      → IsOpenFunnel corners [] (vertex corners i ∷ s ∷ vertex corners j ∷ []) 1 i j
  start_between not_left not_right =
      let l = vertex corners i in
      let r = vertex corners j in
      record {
        funnel = funnel_between l s r ends_differ turn_at_source (λ same. not_left (sym same)) not_right;
        sight = sight_of corners tris fits k within i j side (l ∷ s ∷ r ∷ []) 1
            (three_in corners tris fits k within l s r (left_in corners tris fits k within i j side) in_s
            (right_in corners tris fits k within i j side));
        bent = bent_from_apex corners (l ∷ s ∷ r ∷ []) 1 (omega arith) (omega arith) (source_in corners tris fits k within s in_s);
        ends = record {
          left = λ p first. elim first [
            | inl is ↦ rw is.1 (open_left not_left)
            | inr none ↦ absurd (no_last p none.1)
          ];
          right = λ p first. elim first [
            | inl is ↦ rw is.1 (open_right not_right)
            | inr none ↦ absurd (no_last p none.1)
          ];
          short_left = λ same. absurd (omega (arith, same));
          short_right = λ same. absurd (omega (arith, same));
        };
      }

  -- one at the left end is there,
  pub start_at_left : s ≡ vertex corners i → IsOpenFunnel corners [] (s ∷ vertex corners j ∷ []) 0 i j
  start_at_left same =
      let r = vertex corners j in
      record {
        funnel = funnel_from_left (vertex corners i) s r ends_differ turn_at_source same;
        sight = sight_of corners tris fits k within i j side (s ∷ r ∷ []) 0
            (two_in corners tris fits k within s r in_s (right_in corners tris fits k within i j side));
        bent = bent_from_apex corners (s ∷ r ∷ []) 0 (omega arith) (omega arith) (source_in corners tris fits k within s in_s);
        ends = record {
          left = λ p first. elim first [
            | inl is ↦ absurd (omega (arith, is.0))
            | inr none ↦ absurd (no_last p none.1)
          ];
          right = λ p first. elim first [
            | inl is ↦ rw is.1 (open_right (λ e. ends_differ (sym same ∙ e)))
            | inr none ↦ absurd (no_last p none.1)
          ];
          short_left = λ e. refl;
          short_right = λ e. absurd (omega (arith, e));
        };
      }

  -- and so is one at the right end
  pub start_at_right : s ≡ vertex corners j → IsOpenFunnel corners [] (vertex corners i ∷ s ∷ []) 1 i j
  start_at_right same =
      let l = vertex corners i in
      record {
        funnel = funnel_from_right l s (vertex corners j) ends_differ turn_at_source same;
        sight = sight_of corners tris fits k within i j side (l ∷ s ∷ []) 1
            (two_in corners tris fits k within l s (left_in corners tris fits k within i j side) in_s);
        bent = bent_from_apex corners (l ∷ s ∷ []) 1 (omega arith) (omega arith) (source_in corners tris fits k within s in_s);
        ends = record {
          left = λ p first. elim first [
            | inl is ↦ rw is.1 (open_left (λ e. ends_differ (sym e ∙ same)))
            | inr none ↦ absurd (no_last p none.1)
          ];
          right = λ p first. elim first [
            | inl is ↦ absurd (omega (arith, is.0))
            | inr none ↦ absurd (no_last p none.1)
          ];
          short_left = λ e. absurd (omega (arith, e));
          short_right = λ e. refl;
        };
      }
