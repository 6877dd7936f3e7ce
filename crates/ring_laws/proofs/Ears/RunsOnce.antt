-- The turn at the least vertex of a ring, which is never straight.
-- Rings that run round once, counterclockwise or clockwise, by the turn at a least vertex.
use Rattle.std.proofs.Common.{◌≡◌, inl, inr, refl, sym, subst, ◌∙◌, ◌+◌, ◌-◌, List, [], ◌∷◌, ◌++◌, length, arith, ◌⊎◌, ap, ℕ, ◌<◌, pos}
use Rattle.std.proofs.Common.{negsuc, ◌<ℤ◌, take, drop, reverse}
use Rattle.std.proofs.lemmas.Int.{ints}
use Rattle.std.proofs.lemmas.List.{get_or_at, length-append, length-reverse, length-take-le, take-append-drop}
use Rattle.integer_algebra.proofs.Signs.{is_negative, is_positive, is_zero, sign}
use Rattle.plane.proofs.Order.{Comparison, after, before, before_asym, compare_points, equal}
use Rattle.plane.proofs.Points.{same_whole, whole_is_point}
use Rattle.plane.proofs.Segments.{on_segment_from, on_first_end, on_last_end}
use Rattle.plane.proofs.Turns.{straight_shift, determinant_swap_ends}
use Rattle.plane.specs.Prelude.{determinant, IsLeft, IsRight, IsStraight, On, Point, whole}
use Rattle.rings.proofs.Inside.{apart_turned, turned_corner, winding_turned, apart_rotated, area_rotated, length_rotated, on_some_rotated}
use Rattle.rings.proofs.Inside.{turn_rotated, winding_rotated, on_some_turned_iff}
use Rattle.rings.proofs.Turned.{doubled_area-turned_round}
use Rattle.rings.proofs.Vertices.{HasPoint, has_right, vertex_in_range, has_cases, has_in_order, has_left}
use Rattle.rings.specs.Apart.{IsApartRing, IsCommonEnd}
use Rattle.rings.specs.Prelude.{edge, origin, turn_at, turned_round, vertex}
use Rattle.rings.specs.Winding.{IsLeastVertex, RunsAsItTurns, RunsClockwise, RunsCounterclockwise}
use Rattle.ring_laws.proofs.Ears.Corner.{distinct_corner, has_edge_of_corner}
use Rattle.ring_laws.proofs.Ears.LeastVertex.{NoneBefore, from_vertex, none_before_least}
use Rattle.ring_laws.proofs.Ears.UpToOne.{opposites}

module _ (v w : Point) (ms : List Point) (u : Point) where
  -- the turn at the first vertex is from the last one to the second
  pub turn_at_first : turn_at (v ∷ w ∷ (ms ++ u ∷ [])) 0 ≡ determinant (whole u) (whole v) (whole w)
  turn_at_first =
      let ring : List Point = v ∷ w ∷ (ms ++ u ∷ []) in
      let size : length ring ≡ length ms + 3 = omega (arith, length-append ms (u ∷ [])) in
      let last : vertex ring (0 + (length ring - 1)) ≡ u =
      vertex_in_range ring (0 + (length ring - 1)) origin (omega arith)
      ∙ get_or_at (v ∷ w ∷ ms) u [] origin (0 + (length ring - 1)) (omega arith) in
      let first : vertex ring 0 ≡ v = vertex_in_range ring 0 origin (omega arith) in
      let second : vertex ring (0 + 1) ≡ w = vertex_in_range ring (0 + 1) origin (omega arith) in
      λ i. determinant (whole (last i)) (whole (first i)) (whole (second i))

  module _ (apart : IsApartRing (v ∷ w ∷ (ms ++ u ∷ []))) where
    -- the vertices are different: u is not v,
    last_not_first : ¬ (u ≡ v)
    last_not_first e = (distinct_corner v w ms u apart).0 (inr (subst (HasPoint (ms ++ u ∷ [])) e (has_right u ms (u ∷ []) (inl refl))))

    -- nor w,
    last_not_second : ¬ (u ≡ w)
    last_not_second e = (distinct_corner v w ms u apart).1.0 (subst (HasPoint (ms ++ u ∷ [])) e (has_right u ms (u ∷ []) (inl refl)))

    -- and v is not w
    first_not_second : ¬ (v ≡ w)
    first_not_second e = (distinct_corner v w ms u apart).0 (inl (sym e))

    -- a whole point on both edges at v is v
    only_first : (p : Point) → On (whole p) (whole u) (whole v) → On (whole p) (whole v) (whole w) → p ≡ v
    only_first p on_first on_second =
        elim (apart.apart (edge u v) (edge v w) (has_edge_of_corner v w ms u (edge u v) (inl refl))
        (has_edge_of_corner v w ms u (edge v w) (inr (inl refl)))) [
          | inl same ↦ absurd (last_not_first (λ i. (same i).from))
          | inr meets ↦ common (meets (whole p) (whole_is_point p) on_first on_second)
        ]
      where
        common : IsCommonEnd (edge u v) (edge v w) (whole p) → p ≡ v
        common c = same_whole p c.end c.same ∙ elim c.of_first [
          | inr is ↦ sym is
          | inl is ↦ elim c.of_second [ inl at ↦ sym at | inr at ↦ absurd (last_not_second (is ∙ sym at)) ]
        ]

    -- the turn at a vertex before which there is none is not straight
    pub turn_not_straight : NoneBefore (w ∷ (ms ++ u ∷ [])) v → ¬ (IsStraight (whole u) (whole v) (whole w))
    turn_not_straight least straight = go (compare_points u w)
      where
        go : Comparison u w → ⊥
        go (before less) =
            last_not_first (only_first u (on_first_end (whole u) (whole v))
            (on_segment_from u v w (straight_shift (whole u) (whole v) (whole w) straight) (record {
              not_after = λ h. before_asym u w less h.1;
              not_before = λ h. least u (inr (has_right u ms (u ∷ []) (inl refl))) h.0;
            })))
        go (equal e) = last_not_second e
        go (after less) =
            first_not_second (sym (only_first w
            (on_segment_from w u v straight (record {
              not_after = λ h. before_asym w u less h.0;
              not_before = λ h. least w (inl refl) h.1;
            }))
            (on_last_end (whole v) (whole w))))

-- ---- from another vertex on, and the other way round

module _ (ps qs : List Point) where
  -- a ring runs as it does from another vertex on
  pub counterclockwise_rotated : RunsCounterclockwise (qs ++ ps) → RunsCounterclockwise (ps ++ qs)
  counterclockwise_rotated h = record {
    area = subst (λ z. pos 0 <ℤ z) (area_rotated ps qs) h.area;
    windings = λ x at off.
        subst (λ z. (z ≡ pos 0) ⊎ (z ≡ pos 1)) (winding_rotated ps qs x)
        (h.windings x at (λ on. off (on_some_rotated qs ps x on)));
  }

  -- also clockwise
  clockwise_rotated : RunsClockwise (qs ++ ps) → RunsClockwise (ps ++ qs)
  clockwise_rotated h = record {
    area = subst (λ z. z <ℤ pos 0) (area_rotated ps qs) h.area;
    windings = λ x at off.
        subst (λ z. (z ≡ pos 0) ⊎ (z ≡ negsuc 0)) (winding_rotated ps qs x)
        (h.windings x at (λ on. off (on_some_rotated qs ps x on)));
  }

-- a ring that runs counterclockwise the other way round runs clockwise
clockwise_turned : (ring : List Point) → RunsCounterclockwise (turned_round ring) → RunsClockwise ring
clockwise_turned ring h = record {
  area = omega (arith, ints, h.area, doubled_area-turned_round ring);
  windings = λ x at off.
      opposites _ _ (winding_turned x ring) (h.windings x at (λ on. off ((on_some_turned_iff x ring).0 on)));
}

-- ---- by the turn at a least vertex

-- the law for left turns: n vertices besides the least one and its two neighbours
abbrev pub LeftTurnLaw : ℕ → Type 0
LeftTurnLaw n = (v w : Point) (ms : List Point) (u : Point) → length ms ≡ n → IsApartRing (v ∷ w ∷ (ms ++ u ∷ []))
    → NoneBefore (w ∷ (ms ++ u ∷ [])) v → IsLeft (whole u) (whole v) (whole w) → RunsCounterclockwise (v ∷ w ∷ (ms ++ u ∷ []))

module _ (n : ℕ) (law : LeftTurnLaw n) where
  -- so it is with right turns
  right_turn : (v w : Point) (ms : List Point) (u : Point) → length ms ≡ n → IsApartRing (v ∷ w ∷ (ms ++ u ∷ []))
      → NoneBefore (w ∷ (ms ++ u ∷ [])) v → IsRight (whole u) (whole v) (whole w) → RunsClockwise (v ∷ w ∷ (ms ++ u ∷ []))
  right_turn v w ms u size apart least right =
      let turned = turned_corner v w ms u in
      let left : IsLeft (whole w) (whole v) (whole u) = omega (arith, ints, right, determinant_swap_ends (whole u) (whole v) (whole w)) in
      clockwise_turned (v ∷ w ∷ (ms ++ u ∷ [])) (subst RunsCounterclockwise (sym turned)
      (law v u (reverse ms) w (length-reverse ms ∙ size) (subst IsApartRing turned (apart_turned (v ∷ w ∷ (ms ++ u ∷ [])) apart))
      (λ p has. least p (back p has)) left))
    where
      back : (p : Point) → HasPoint (u ∷ (reverse ms ++ w ∷ [])) p → HasPoint (w ∷ (ms ++ u ∷ [])) p
      back p (inl e) = inr (has_right p ms (u ∷ []) (inl e))
      back p (inr h) = elim (has_cases p (reverse ms) (w ∷ []) h) [
        | inl k ↦ inr (has_left p ms (u ∷ []) (has_in_order p ms k))
        | inr k ↦ elim k [ inl e ↦ inl e | inr none ↦ absurd none ]
      ]

  -- with the least vertex first
  pub runs_from_first : (v w : Point) (ms : List Point) (u : Point) → length ms ≡ n → IsApartRing (v ∷ w ∷ (ms ++ u ∷ []))
      → NoneBefore (w ∷ (ms ++ u ∷ [])) v → RunsAsItTurns (v ∷ w ∷ (ms ++ u ∷ [])) 0
  runs_from_first v w ms u size apart least =
      let turn = turn_at_first v w ms u in
      elim (sign (determinant (whole u) (whole v) (whole w))) [
        | is_positive h ↦ inl (subst (λ z. pos 0 <ℤ z) (sym turn) h, law v w ms u size apart least h)
        | is_zero e ↦ absurd (turn_not_straight v w ms u apart least e)
        | is_negative h ↦ inr (subst (λ z. z <ℤ pos 0) (sym turn) h, right_turn v w ms u size apart least h)
      ]

  -- with the least vertex anywhere
  runs_rotated : (ps qs : List Point) (v w : Point) (ms : List Point) (u : Point) → qs ++ ps ≡ v ∷ w ∷ (ms ++ u ∷ [])
      → length (ps ++ qs) ≡ n + 3 → IsApartRing (ps ++ qs) → NoneBefore (ps ++ qs) v → RunsAsItTurns (ps ++ qs) (length ps)
  runs_rotated ps qs v w ms u is size apart least =
      let turn = turn_rotated ps qs (omega arith) in
      let count : length ms ≡ n = omega (arith, length_rotated ps qs, ap length is, length-append ms (u ∷ [])) in
      elim (subst (λ rs. RunsAsItTurns rs 0) (sym is)
      (runs_from_first v w ms u count (subst IsApartRing is (apart_rotated ps qs apart)) (λ p has. least p (back p has)))) [
        | inl (left, runs) ↦ inl (subst (λ z. pos 0 <ℤ z) turn left, counterclockwise_rotated ps qs runs)
        | inr (right, runs) ↦ inr (subst (λ z. z <ℤ pos 0) turn right, clockwise_rotated ps qs runs)
      ]
    where
      back : (p : Point) → HasPoint (w ∷ (ms ++ u ∷ [])) p → HasPoint (ps ++ qs) p
      back p has = elim (has_cases p qs ps (subst (λ rs. HasPoint rs p) (sym is) (inr has))) [
        | inl k ↦ has_right p ps qs k
        | inr k ↦ has_left p ps qs k
      ]

  -- a ring with these many vertices runs as it turns at a least vertex
  pub runs_as_it_turns : (ring : List Point) → length ring ≡ n + 3 → IsApartRing ring → (i : ℕ) → i < length ring → IsLeastVertex ring i
      → RunsAsItTurns ring i
  runs_as_it_turns ring size apart i within least =
      let there = take-append-drop i ring in
      let from = from_vertex ring i (omega arith) within in
      subst (RunsAsItTurns ring) (length-take-le i ring (omega arith))
      (subst (λ rs. RunsAsItTurns rs (length (take i ring))) there
      (runs_rotated (take i ring) (drop i ring) (vertex ring i) from.w from.ms from.u from.is (ap length there ∙ size)
      (subst IsApartRing (sym there) apart)
      (subst (λ rs. NoneBefore rs (vertex ring i)) (sym there) (none_before_least ring i least))))
