-- A ring with an ear at its least vertex runs counterclockwise, where the ring without the ear runs round once.
use Rattle.std.proofs.Common.{ℤ, pos, negsuc, ◌≤ℤ◌, List, [], ◌∷◌, ◌++◌, ◌≡◌, ◌⊎◌, inl, inr, refl, sym, subst, arith}
use Rattle.std.proofs.lemmas.Int.{ints}
use Rattle.plane.proofs.Order.{x_at_most}
use Rattle.plane.specs.Prelude.{IsInTriangle, IsLeft, IsPoint, IsSame, Point, Triple, whole}
use Rattle.rings.proofs.Vertices.{end_of_second, HasPoint, end_of_ring, ends_along, AllEnds, all_ends_from, has_cases, has_left, on_each}
use Rattle.rings.specs.Apart.{IsApartRing, IsCommonEnd, MeetAtEnds}
use Rattle.rings.specs.Prelude.{Edge, edge, edges_along, edges_of, HasEdge, HasEnd, IsClosed, IsOn, IsOnSome, winding}
use Rattle.rings.specs.Winding.{RunsClockwise, RunsCounterclockwise, WindsUpTo}
use Rattle.ring_laws.proofs.Ears.BaseEnds.{base_ends}
use Rattle.ring_laws.proofs.Ears.Corner.{apart_rest, area_ear, closed_rest, edges_at_corner, has_edge_of_corner, no_edge_across}
use Rattle.ring_laws.proofs.Ears.Corner.{not_at_corner, on_some_corner, on_some_rest, winding_corner, winding_rest}
use Rattle.ring_laws.proofs.Ears.EarBase.{base_differs}
use Rattle.ring_laws.proofs.Ears.EarWinding.{ear_values, sign_is_one}
use Rattle.ring_laws.proofs.Ears.LeastVertex.{NoneBefore}
use Rattle.ring_laws.proofs.Ears.UpToOne.{IsZeroOrOne}
use Rattle.ring_laws.proofs.Triangles.{IsCorner, corner_base_meets, corner_not_entered}

-- ---- the theorem of the ear: a ring winds round each point not at all or once, where it does so without an ear at its least vertex

-- the edges es close the base from u to w of the ear with the tip v; all their ends are as far to the right as v; none of them
-- enters the triangle of the ear, but at the ends of the base; without the ear the winding number is 0 or s off the edges
module _ (u v w : Point) (es : List Edge) (left : IsLeft (whole u) (whole v) (whole w)) (closed : IsClosed (edge u w ∷ es))
    (least : AllEnds (λ a. v.x ≤ℤ a.x) es)
    (enters_not : (e : Edge) → HasEdge es e → (x : Triple) → IsPoint x → IsOn e x → IsInTriangle u v w x
    → IsSame x (whole u) ⊎ IsSame x (whole w))
    (s : ℤ) (values : (p : Triple) → IsPoint p → ¬ (IsOnSome (edge u w ∷ es) p)
    → (winding (edge u w ∷ es) p ≡ pos 0) ⊎ (winding (edge u w ∷ es) p ≡ s)) where
  -- the ends of the base are as far to the right
  least_with_base : AllEnds (λ a. v.x ≤ℤ a.x) (edge u w ∷ es)
  least_with_base = let ends = base_ends u w v.x es closed least (base_differs u v w left) in (ends.0, ends.1, least)

  -- no point of the edges is in the triangle
  enters_nowhere : (x : Triple) → IsPoint x → IsOnSome es x → IsInTriangle u v w x → IsSame x (whole u) ⊎ IsSame x (whole w)
  enters_nowhere = on_each (λ x. IsInTriangle u v w x → IsSame x (whole u) ⊎ IsSame x (whole w)) es enters_not

  -- then s is 1,
  pub ear_sign : s ≡ pos 1
  ear_sign = sign_is_one u v w es left closed least_with_base enters_nowhere s values

  -- and with the ear the winding number is 0 or 1 off the edges
  pub ring_with_ear : (p : Triple) → IsPoint p → ¬ (IsOnSome (edge u v ∷ edge v w ∷ es) p)
      → IsZeroOrOne (winding (edge u v ∷ edge v w ∷ es) p)
  ring_with_ear = ear_values u v w es left closed least_with_base enters_nowhere s values

-- ---- a ring with an ear at its least vertex runs counterclockwise, where the ring without the ear runs round once

module _ (v w : Point) (ms : List Point) (u : Point) (apart : IsApartRing (v ∷ w ∷ (ms ++ u ∷ []))) (left : IsLeft (whole u) (whole v) (whole w)) where
  -- the edges of the ring have a corner at v
  pub is_corner : IsCorner (edges_of (v ∷ w ∷ (ms ++ u ∷ []))) u v w
  is_corner = record {
    apart = apart.apart;
    left = left;
    has_first = has_edge_of_corner v w ms u (edge u v) (inl refl);
    has_second = has_edge_of_corner v w ms u (edge v w) (inr (inl refl));
    only = edges_at_corner v w ms u apart;
  }

  -- all ends of the other edges are at least as far right as a least vertex
  ends_right : NoneBefore (w ∷ (ms ++ u ∷ [])) v → AllEnds (λ p. v.x ≤ℤ p.x) (edges_along w ms u)
  ends_right least = all_ends_from (λ p. v.x ≤ℤ p.x) (edges_along w ms u) (λ e has.
      let ends = ends_along e w ms u has in
      (x_at_most v e.from (least e.from (has_left e.from (w ∷ ms) (u ∷ []) ends.0)), x_at_most v e.to (least e.to (inr ends.1))))

module _ (v w m : Point) (ks : List Point) (u : Point) (apart : IsApartRing (v ∷ w ∷ (m ∷ ks ++ u ∷ [])))
    (left : IsLeft (whole u) (whole v) (whole w)) (none : (p : Point) → HasPoint (m ∷ ks) p → ¬ IsInTriangle u v w (whole p)) where
  -- a vertex in the triangle is a corner of it
  only_corners : (p : Point) → HasPoint (v ∷ w ∷ (m ∷ ks ++ u ∷ [])) p → IsInTriangle u v w (whole p) → (p ≡ u) ⊎ (p ≡ v) ⊎ (p ≡ w)
  only_corners p (inl e) within = inr (inl (sym e))
  only_corners p (inr (inl e)) within = inr (inr (sym e))
  only_corners p (inr (inr h)) within = elim (has_cases p (m ∷ ks) (u ∷ []) h) [
    | inl k ↦ absurd (none p k within)
    | inr k ↦ elim k [ inl e ↦ inl (sym e) | inr nothing ↦ absurd nothing ]
  ]

  -- the other edges meet the triangle at u and w alone,
  enters_at_ends : (e : Edge) → HasEdge (edges_along w (m ∷ ks) u) e → (x : Triple) → IsPoint x → IsOn e x → IsInTriangle u v w x
      → IsCommonEnd e (edge u w) x
  enters_at_ends e has =
      corner_not_entered (edges_of (v ∷ w ∷ (m ∷ ks ++ u ∷ []))) u v w (is_corner v w (m ∷ ks) u apart left)
      (λ f y has_f end. only_corners y (end_of_ring f y v (w ∷ (m ∷ ks ++ u ∷ [])) has_f end)) (no_edge_across v w m ks u apart)
      e (has_edge_of_corner v w (m ∷ ks) u e (inr (inr has)))
      (λ is. not_at_corner v w (m ∷ ks) u apart e has (subst (λ d. HasEnd d v) is (inr refl)))
      (λ is. not_at_corner v w (m ∷ ks) u apart e has (subst (λ d. HasEnd d v) is (inl refl)))

  -- all edges meet the new edge at ends,
  pub meets_base : (e : Edge) → HasEdge (edges_of (v ∷ w ∷ (m ∷ ks ++ u ∷ []))) e → MeetAtEnds e (edge u w)
  meets_base =
      corner_base_meets (edges_of (v ∷ w ∷ (m ∷ ks ++ u ∷ []))) u v w (is_corner v w (m ∷ ks) u apart left)
      (λ f y has_f end. only_corners y (end_of_ring f y v (w ∷ (m ∷ ks ++ u ∷ [])) has_f end)) (no_edge_across v w m ks u apart)

  -- so the ring without v is apart
  pub apart_without : IsApartRing (w ∷ (m ∷ ks ++ u ∷ []))
  apart_without =
      apart_rest v w (m ∷ ks) u apart (λ e has. meets_base e (has_edge_of_corner v w (m ∷ ks) u e (inr (inr has))))

  module _ (least : NoneBefore (w ∷ (m ∷ ks ++ u ∷ [])) v) where
    -- where it runs round once, the other edges and the new one do,
    rest_winds : (s : ℤ) → WindsUpTo s (edges_of (w ∷ (m ∷ ks ++ u ∷ []))) → WindsUpTo s (edge u w ∷ edges_along w (m ∷ ks) u)
    rest_winds s winds x at off =
        subst (λ z. (z ≡ pos 0) ⊎ (z ≡ s)) (winding_rest v w (m ∷ ks) u x)
        (winds x at (λ on. off (on_some_rest v w (m ∷ ks) u x on)))

    -- and the ear is added
    add_ear : (s : ℤ) → WindsUpTo s (edges_of (w ∷ (m ∷ ks ++ u ∷ [])))
        → (s ≡ pos 1) × WindsUpTo (pos 1) (edge u v ∷ edge v w ∷ edges_along w (m ∷ ks) u)
    add_ear s winds =
        let es : List Edge = edges_along w (m ∷ ks) u in
        let closed = closed_rest v w (m ∷ ks) u in
        let right = ends_right v w (m ∷ ks) u apart left least in
        let enters = λ (e : Edge) (has : HasEdge es e) (x : Triple) (at : IsPoint x) (on : IsOn e x) (within : IsInTriangle u v w x).
        end_of_second e (edge u w) x (enters_at_ends e has x at on within) in
        let rest = rest_winds s winds in
        (ear_sign u v w es left closed right enters s rest, ring_with_ear u v w es left closed right enters s rest)

    -- so the ring without v runs counterclockwise,
    pub rest_counterclockwise : RunsCounterclockwise (w ∷ (m ∷ ks ++ u ∷ [])) ⊎ RunsClockwise (w ∷ (m ∷ ks ++ u ∷ []))
        → RunsCounterclockwise (w ∷ (m ∷ ks ++ u ∷ []))
    rest_counterclockwise (inl runs) = runs
    rest_counterclockwise (inr runs) = let e = (add_ear (negsuc 0) runs.windings).0 in absurd (cc)

    -- and so does the ring
    pub ear_counterclockwise : RunsCounterclockwise (w ∷ (m ∷ ks ++ u ∷ [])) ⊎ RunsClockwise (w ∷ (m ∷ ks ++ u ∷ []))
        → RunsCounterclockwise (v ∷ w ∷ (m ∷ ks ++ u ∷ []))
    ear_counterclockwise which =
        let runs = rest_counterclockwise which in
        record {
          area = omega (arith, ints, left, runs.area, area_ear v w (m ∷ ks) u);
          windings = λ x at off.
              subst (λ z. (z ≡ pos 0) ⊎ (z ≡ pos 1)) (sym (winding_corner v w (m ∷ ks) u x))
              ((add_ear (pos 1) runs.windings).1 x at (λ on. off (on_some_corner v w (m ∷ ks) u x on)));
        }
