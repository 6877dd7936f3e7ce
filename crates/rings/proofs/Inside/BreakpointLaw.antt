-- What the laws of crossings say of the points in a ring.
-- The law of breakpoints: a segment lies in a ring exactly if the mediants of its neighbouring breakpoints do.
use Rattle.std.proofs.Common.{◌≡◌, ◌⊎◌, inl, inr, sym, ap, ◌∙◌, ℕ, ◌+◌, ◌%◌, ℤ, pos, ◌+ℤ◌, ◌*ℤ◌, arith, List, [], ◌∷◌, ◌<◌, length, ◌≤◌}
use Rattle.std.proofs.lemmas.Bool.{cases_eq, cases_lt}
use Rattle.integer_algebra.proofs.Decisions.{either_or_not}
use Rattle.plane.proofs.Meetings.{mediant_on}
use Rattle.plane.proofs.Order.{NotAfter, follows, mediant_follows, mediant_is_point, mediant_precedes, not_after_antisym, not_after_facts}
use Rattle.plane.proofs.Order.{not_after_of_same, not_after_trans, precedence, precedes, same}
use Rattle.plane.proofs.Points.{whole_is_point, same_sym, same_trans}
use Rattle.plane.proofs.Segments.{on_first_end, on_or_not, on_from_order, on_not_after, on_not_before, straight_on, on_same_point}
use Rattle.plane.proofs.Segments.{combination_of_same, on_nested}
use Rattle.plane.proofs.Turns.{combination_of}
use Rattle.plane.specs.Line.{mediant}
use Rattle.plane.specs.Prelude.{IsPoint, IsSame, On, Point, Precedes, Triple, whole}
use Rattle.rings.proofs.Crossings.{crossings_even, crossings_odd, in_law}
use Rattle.rings.proofs.Inside.Breakpoints.{AreBreakpoints, by_number, gap_of}
use Rattle.rings.proofs.Inside.SamePoint.{crossings_same}
use Rattle.rings.proofs.Vertices.{on_some_from, on_some_same, on_some_edge}
use Rattle.rings.specs.Across.{Misses}
use Rattle.rings.specs.Prelude.{crossings, Edge, edges_of, IsIn, IsOnEdge, IsOnSome, Sees, vertex, winding}

-- ---- one point or another

-- a rational point is on some edge of a list, or on none
pub on_some_or_not : (es : List Edge) (p : Triple) → IsPoint p → IsOnSome es p ⊎ (¬ IsOnSome es p)
on_some_or_not [] p at_p = inr (λ h. h)
on_some_or_not (e ∷ es) p at_p =
    either_or_not (on_or_not p (whole e.from) (whole e.to) at_p (whole_is_point e.from) (whole_is_point e.to)) (on_some_or_not es p at_p)

-- it is in a ring, or not
pub in_or_not : (ring : List Point) (p : Triple) → IsPoint p → IsIn ring p ⊎ (¬ IsIn ring p)
in_or_not ring p at_p = either_or_not (on_some_or_not (edges_of ring) p at_p) (cases_eq (crossings (edges_of ring) p % 2) 1)

-- two triples of one point are in it together
pub in_same : (ring : List Point) (p q : Triple) → IsPoint p → IsPoint q → IsSame p q → IsIn ring p → IsIn ring q
in_same ring p q at_p at_q s (inl on) = inl (on_some_same p q at_p s (edges_of ring) on)
in_same ring p q at_p at_q s (inr odd) =
    inr (ap (λ n. n % 2) (sym (crossings_same p q at_p at_q s (edges_of ring))) ∙ odd)

-- ---- by the winding number

-- a point with an odd winding number is in the ring
pub in_from_odd : (ring : List Point) (p : Triple) (z : ℤ) → winding (edges_of ring) p ≡ pos 2 *ℤ z +ℤ pos 1 → IsIn ring p
in_from_odd ring p z e = inr (crossings_odd (edges_of ring) p z e)

-- one on no edge with an even winding number is not
pub not_in_from_even : (ring : List Point) (p : Triple) (z : ℤ) → ¬ (IsOnSome (edges_of ring) p)
    → winding (edges_of ring) p ≡ pos 2 *ℤ z → ¬ (IsIn ring p)
not_in_from_even ring p z off e (inl on) = off on
not_in_from_even ring p z off e (inr odd) = let even = crossings_even (edges_of ring) p z e in omega arith

-- of two numbers of different parity not both are odd
pub both_odd : (m n : ℕ) → m % 2 ≡ (n + 1) % 2 → m % 2 ≡ 1 → n % 2 ≡ 1 → ⊥
both_odd m n e h k = omega arith

-- a vertex is in the ring
pub vertex_in : (ring : List Point) (i : ℕ) → i < length ring → IsIn ring (whole (vertex ring i))
vertex_in ring i h = inl (on_some_from (whole (vertex ring i)) ring i h (on_first_end (whole (vertex ring i)) (whole (vertex ring (i + 1)))))

module _ (ring : List Point) (a b : Triple) (at_a : IsPoint a) (at_b : IsPoint b) (point : ℕ → Triple) (n : ℕ)
    (breaks : AreBreakpoints ring a b point n) where
  -- ---- a gap between two points, of which the first is before the second

  module _ (k : ℕ) (below : k + 1 < n) (strict : Precedes (point k) (point (k + 1))) (x : Triple) (at_x : IsPoint x) (on_x : On x a b)
      (first : NotAfter (point k) x) (last : NotAfter x (point (k + 1))) (off : ¬ (IsOnSome (edges_of ring) x)) where
    -- a point of an edge from the mediant to x is not at the first end,
    not_at_first : (i : ℕ) → i < length ring → (z : Triple) → IsPoint z → On z (mediant (point k) (point (k + 1))) x
        → IsOnEdge ring i z → ¬ (NotAfter z (point k))
    not_at_first i within z at_z on_z on_edge h =
        let p = point k in
        let m = mediant (point k) (point (k + 1)) in
        let at_p = breaks.rational k (omega arith) in
        let at_m = mediant_is_point (point k) (point (k + 1)) at_p (breaks.rational (k + 1) below) in
        elim (on_not_before z m x at_z at_m at_x on_z) [
          | inl n ↦ not_after_facts m p (not_after_trans m z p at_m at_z at_p n h) (mediant_follows (point k) (point (k + 1)) strict)
          | inr n ↦
              let back = not_after_trans z p x at_z at_p at_x h first in
              off (on_some_from x ring i within (on_same_point at_z (not_after_antisym z x back n) on_edge))
        ]

    -- nor at the last
    not_at_last : (i : ℕ) → i < length ring → (z : Triple) → IsPoint z → On z (mediant (point k) (point (k + 1))) x
        → IsOnEdge ring i z → ¬ (NotAfter (point (k + 1)) z)
    not_at_last i within z at_z on_z on_edge h =
        let q = point (k + 1) in
        let m = mediant (point k) (point (k + 1)) in
        let at_q = breaks.rational (k + 1) below in
        let at_m = mediant_is_point (point k) (point (k + 1)) (breaks.rational k (omega arith)) at_q in
        elim (on_not_after z m x at_z at_m at_x on_z) [
          | inl n ↦ not_after_facts q m (not_after_trans q z m at_q at_z at_m h n) (mediant_precedes (point k) (point (k + 1)) strict)
          | inr n ↦
              let forth = not_after_trans x q z at_x at_q at_z last h in
              off (on_some_from x ring i within (on_same_point at_z (not_after_antisym z x n forth) on_edge))
        ]

    -- two points on an edge are not on the two sides of the gap
    not_across : (i : ℕ) → i < length ring → (u v : ℕ) → u ≤ k → k < v → v < n → IsOnEdge ring i (point u) → IsOnEdge ring i (point v) → ⊥
    not_across i within u v hu hv v_below on_u on_v =
        let p = breaks.rational in
        let s = breaks.on_segment in
        let at_u = p u (omega arith) in
        let at_v = p v v_below in
        let low = not_after_trans (point u) (point k) x at_u (p k (omega arith)) at_x (by_number ring a b at_a at_b point n breaks u k hu (omega arith)) first in
        let high = not_after_trans x (point (k + 1)) (point v) at_x (p (k + 1) below) at_v last (by_number ring a b at_a at_b point n breaks (k + 1) v (omega arith) v_below) in
        let straight = straight_on (point u) (point v) x a b at_u at_v at_x at_a at_b (s u (omega arith)) (s v v_below) on_x in
        let on = on_from_order x (point u) (point v) straight at_x at_u at_v low high in
        let c = whole (vertex ring i) in
        let d = whole (vertex ring (i + 1)) in
        off (on_some_from x ring i within (on_nested x (point u) (point v) c d at_x at_u at_v (whole_is_point (vertex ring i))
        (whole_is_point (vertex ring (i + 1))) on_u on_v on))

    -- so the way from the mediant to x misses all edges
    gap_misses : Misses (mediant (point k) (point (k + 1))) x (edges_of ring)
    gap_misses z at_z on_z on_some =
        let (i, within, on_edge) = on_some_edge z ring on_some in
        let p = breaks.rational in
        let at_p = p k (omega arith) in
        let at_q = p (k + 1) below in
        let at_m = mediant_is_point (point k) (point (k + 1)) at_p at_q in
        let s = breaks.on_segment in
        let on_m =
        on_nested (mediant (point k) (point (k + 1))) (point k) (point (k + 1)) a b at_m at_p at_q at_a at_b (s k (omega arith))
        (s (k + 1) below) (mediant_on (point k) (point (k + 1)) at_p at_q) in
        let on_z_ab = on_nested z (mediant (point k) (point (k + 1))) x a b at_z at_m at_x at_a at_b on_m on_x on_z in
        let e = breaks.enclosed i within z at_z on_z_ab on_edge in
        let at_u = p e.j e.j_below in
        let at_v = p e.k e.k_below in
        let early = λ (u : ℕ) (at_u : IsPoint (point u)) (hu : u ≤ k) (h : NotAfter z (point u)).
        not_at_first i within z at_z on_z on_edge (not_after_trans z (point u) (point k) at_z at_u at_p h (by_number ring a b at_a at_b point n breaks u k hu (omega arith))) in
        let late = λ (u : ℕ) (at_u : IsPoint (point u)) (below_u : u < n) (hu : k < u) (h : NotAfter (point u) z).
        not_at_last i within z at_z on_z on_edge (not_after_trans (point (k + 1)) (point u) z at_q at_u at_z (by_number ring a b at_a at_b point n breaks (k + 1) u (omega arith) below_u) h) in
        elim (cases_lt k e.j) [
          | inl first_late ↦ elim (cases_lt k e.k) [
            | inl last_late ↦ elim (on_not_before z (point e.j) (point e.k) at_z at_u at_v e.between) [
              | inl h ↦ late e.j at_u e.j_below first_late h
              | inr h ↦ late e.k at_v e.k_below last_late h
            ]
            | inr last_early ↦ not_across i within e.k e.j last_early first_late e.j_below e.last_on e.first_on
          ]
          | inr first_early ↦ elim (cases_lt k e.k) [
            | inl last_late ↦ not_across i within e.j e.k first_early last_late e.k_below e.first_on e.last_on
            | inr last_early ↦ elim (on_not_after z (point e.j) (point e.k) at_z at_u at_v e.between) [
              | inl h ↦ early e.j at_u first_early h
              | inr h ↦ early e.k at_v last_early h
            ]
          ]
        ]

  -- ---- the law

  -- a point in a gap is in the ring where the mediant is
  in_gap : (k : ℕ) → k + 1 < n → (x : Triple) → IsPoint x → On x a b → NotAfter (point k) x → NotAfter x (point (k + 1))
      → IsIn ring (mediant (point k) (point (k + 1))) → IsIn ring x
  in_gap k below x at_x on_x first last inside =
      let p = point k in
      let q = point (k + 1) in
      let at_p = breaks.rational k (omega arith) in
      let at_q = breaks.rational (k + 1) below in
      let at_m = mediant_is_point p q at_p at_q in
      elim (on_some_or_not (edges_of ring) x at_x) [
        | inl on ↦ inl on
        | inr off ↦ elim (precedence p q) [
          | precedes strict ↦ in_law ring (mediant p q) x at_m at_x (gap_misses k below strict x at_x on_x first last off) inside
          | follows h ↦ absurd (not_after_facts p q (breaks.ordered k below) h)
          | same s ↦
              let x_same = not_after_antisym x p (not_after_trans x q p at_x at_q at_p last (not_after_of_same q p (same_sym s))) first in
              let m_same = combination_of_same (mediant p q) p q (same_sym s) (combination_of (mediant p q) p q at_m at_p at_q (mediant_on p q at_p at_q)) in
              in_same ring (mediant p q) x at_m at_x (same_trans at_p m_same (same_sym x_same)) inside
        ]
      ]

  -- where the mediants of neighbours are in the ring, its points see each other
  pub sees_by_mediants : ((k : ℕ) → k + 1 < n → IsIn ring (mediant (point k) (point (k + 1)))) → Sees ring a b
  sees_by_mediants inside x at_x on_x =
      let gap = gap_of ring a b at_a at_b point n breaks x at_x on_x in
      in_gap gap.k gap.below x at_x on_x gap.first gap.last (inside gap.k gap.below)

  -- and only there
  pub mediants_of_sees : Sees ring a b → (k : ℕ) → k + 1 < n → IsIn ring (mediant (point k) (point (k + 1)))
  mediants_of_sees sees k below =
      let p = point k in
      let q = point (k + 1) in
      let at_p = breaks.rational k (omega arith) in
      let at_q = breaks.rational (k + 1) below in
      let at_m = mediant_is_point p q at_p at_q in
      let s = breaks.on_segment in
      sees (mediant p q) at_m (on_nested (mediant p q) p q a b at_m at_p at_q at_a at_b (s k (omega arith)) (s (k + 1) below) (mediant_on p q at_p at_q))
