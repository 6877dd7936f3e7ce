-- A segment lies in a ring exactly if the mediants of the neighbours in its sorted list of breakpoints do.
use Rattle.std.proofs.Common.{◌≡◌, ◌↔◌, ℕ, ◌+◌, ◌<◌, List, [], ◌∷◌, length, get_or, sym, subst, ◌∙◌, arith}
use Rattle.std.proofs.lemmas.List.{get_or_default, get_or-map, length-map}
use Rattle.std.proofs.lemmas.List.Elements.{All-get_or}
use Rattle.std.proofs.lemmas.List.Sorted.{All-permutation, Contains-permutation, length_permutation}
use Rattle.std.specs.List.{AllAdjacentBelow, Contains}
use Rattle.std.specs.List.Sorted.{IsPermutation}
use Rattle.plane.proofs.Order.{NotAfter}
use Rattle.plane.proofs.Points.{same_refl}
use Rattle.plane.specs.Line.{mediant}
use Rattle.plane.specs.Point.{IsPoint, IsSame, Point, Triple}
use Rattle.plane.specs.Segment.{On}
use Rattle.rings.proofs.Inside.{mediants_of_sees, sees_by_mediants, AreBreakpoints}
use Rattle.rings.specs.Inside.{IsIn}
use Rattle.rings.specs.Ring.{IsOnEdge}
use Rattle.rings.specs.Sees.{Sees}
use Rattle.inside_test.specs.Breakpoints.{IsPointOn, ListsMeetings, breakpoint_points}
use Rattle.inside_test.specs.declared.breakpoint.Breakpoint.{Breakpoint}

-- ---- a list with another order

module _ (ring : List Point) (n : ℕ) (a b : Triple) where
  -- meetings that are listed stay so
  pub lists_permuted : (old new : List Triple) → IsPermutation old new → ListsMeetings ring n a b old → ListsMeetings ring n a b new
  lists_permuted old new moved h = record {
    several = let least = h.several in let same = length_permutation old new moved in omega arith;
    placed = All-permutation (IsPointOn a b) old new moved h.placed;
    has_first = Contains-permutation old new a moved h.has_first;
    has_last = Contains-permutation old new b moved h.has_last;
    enclosed = λ i within z at_z first second.
        let e = h.enclosed i within z at_z first second in
        record {
          u = e.u;
          v = e.v;
          u_listed = Contains-permutation old new e.u moved e.u_listed;
          v_listed = Contains-permutation old new e.v moved e.v_listed;
          u_on = e.u_on;
          v_on = e.v_on;
          between = e.between;
        };
  }

-- ---- a sorted list

module _ (ring : List Point) (a b : Triple) (points : List Triple) (lists : ListsMeetings ring (length ring) a b points)
    (sorted : (k : ℕ) → k + 1 < length points → NotAfter (get_or points k a) (get_or points (k + 1) a)) where
  -- the point at a place
  at : ℕ → Triple
  at k = get_or points k a

  -- a listed point is at some place
  place_of : (p : Triple) → Contains points p → (k : ℕ) × (k < length points) × (at k ≡ p)
  unfolding at
  place_of p listed = let (k, below, is) = listed in (k, below, get_or_default points k a p below ∙ is)

  -- its points are breakpoints
  are_breakpoints : AreBreakpoints ring a b (λ k. get_or points k a) (length points)
  unfolding at
  are_breakpoints = record {
    several = lists.several;
    rational = λ k below. (All-get_or (IsPointOn a b) points k a below lists.placed).0;
    on_segment = λ k below. (All-get_or (IsPointOn a b) points k a below lists.placed).1;
    ordered = sorted;
    has_first = let (k, below, is) = place_of a lists.has_first in (k, below, subst (λ p. IsSame (get_or points k a) p) is (same_refl (get_or points k a)));
    has_last = let (k, below, is) = place_of b lists.has_last in (k, below, subst (λ p. IsSame (get_or points k a) p) is (same_refl (get_or points k a)));
    enclosed = λ i within z at_z on_segment on_edge.
        let e = lists.enclosed i within z at_z on_segment on_edge in
        let (j, j_below, j_is) = place_of e.u e.u_listed in
        let (k, k_below, k_is) = place_of e.v e.v_listed in
        record {
          j = j;
          k = k;
          j_below = j_below;
          k_below = k_below;
          first_on = subst (IsOnEdge ring i) (sym j_is) e.u_on;
          last_on = subst (IsOnEdge ring i) (sym k_is) e.v_on;
          between = subst (λ p. On z p (get_or points k a)) (sym j_is) (subst (λ p. On z e.u p) (sym k_is) e.between);
        };
  }

  -- so its ends see each other where the mediants of neighbours are in the ring, and only there
  sees_by_points : IsPoint a → IsPoint b
      → ((k : ℕ) → k + 1 < length points → IsIn ring (mediant (get_or points k a) (get_or points (k + 1) a))) ↔ Sees ring a b
  sees_by_points at_a at_b = (
    sees_by_mediants ring a b at_a at_b (λ k. get_or points k a) (length points) are_breakpoints,
    mediants_of_sees ring a b at_a at_b (λ k. get_or points k a) (length points) are_breakpoints,
  )

-- ---- as a list of breakpoints

-- an item of a list that has some
some_item : {X : Type 0} (xs : List X) → 0 < length xs → X
some_item [] h = absurd (omega arith)
some_item (x ∷ xs) h = x

-- the mediant of two neighbours is in the ring
abbrev pub MediantIn : List Point → Breakpoint → Breakpoint → Type 0
MediantIn ring p q = IsIn ring (mediant p.point q.point)

module _ (ring : List Point) (a b : Triple) (xs : List Breakpoint) (lists : ListsMeetings ring (length ring) a b (breakpoint_points xs))
    (sorted : (k : ℕ) (d : Breakpoint) → k + 1 < length xs → NotAfter (get_or xs k d).point (get_or xs (k + 1) d).point) where
  -- there are as many points,
  as_many : length (breakpoint_points xs) ≡ length xs
  as_many = length-map xs (λ k. k.point)

  -- the same at each place
  point_is : (k : ℕ) (d : Breakpoint) → k < length xs → get_or (breakpoint_points xs) k a ≡ (get_or xs k d).point
  point_is k d below = get_or-map (λ k. k.point) xs k d a below

  -- so what holds of neighbours among the points holds of those in the list,
  to_list : (R : Triple → Triple → Type 0) → ((k : ℕ) → k + 1 < length (breakpoint_points xs) → R (get_or (breakpoint_points xs) k a) (get_or (breakpoint_points xs) (k + 1) a))
      → (k : ℕ) (d : Breakpoint) → k + 1 < length xs → R (get_or xs k d).point (get_or xs (k + 1) d).point
  to_list R h k d below =
      subst (λ p. R p (get_or xs (k + 1) d).point) (point_is k d (omega arith))
      (subst (λ q. R (get_or (breakpoint_points xs) k a) q) (point_is (k + 1) d below) (h k (let same = as_many in omega arith)))

  -- and back
  from_list : (R : Triple → Triple → Type 0) → ((k : ℕ) (d : Breakpoint) → k + 1 < length xs → R (get_or xs k d).point (get_or xs (k + 1) d).point)
      → (k : ℕ) → k + 1 < length (breakpoint_points xs) → R (get_or (breakpoint_points xs) k a) (get_or (breakpoint_points xs) (k + 1) a)
  from_list R h k below =
      let same = as_many in
      let d = some_item xs (omega arith) in
      subst (λ p. R p (get_or (breakpoint_points xs) (k + 1) a)) (sym (point_is k d (omega arith)))
      (subst (λ q. R (get_or xs k d).point q) (sym (point_is (k + 1) d (omega arith))) (h k d (omega arith)))

  -- the ends see each other exactly where the mediants of neighbours in the list are in the ring
  pub sees_by_list : IsPoint a → IsPoint b → AllAdjacentBelow (MediantIn ring) xs (length xs) ↔ Sees ring a b
  sees_by_list at_a at_b =
      let law = sees_by_points ring a b (breakpoint_points xs) lists (from_list NotAfter sorted) at_a at_b in
      let Inside : Triple → Triple → Type 0 = λ p q. IsIn ring (mediant p q) in (
        λ all. law.0 (from_list Inside all),
        λ sees. to_list Inside (law.1 sees),
      )
