-- The cut of a ring from its first vertex v to the farthest vertex in the triangle there, and the two pieces.
-- The theorem of simple rings: a ring runs round once, as it turns at its least vertex.
use Rattle.std.proofs.Common.{List, [], ◌∷◌, ◌++◌, length, ◌≡◌, inl, inr, refl, subst, ap, ◌∙◌, ◌+◌, ◌<◌, arith, ◌⊎◌, sym, ℕ, zero, suc}
use Rattle.std.proofs.Common.{◌-◌, ◌≤◌, ℤ, pos, negsuc, ◌≤ℤ◌}
use Rattle.std.proofs.lemmas.Int.{ints}
use Rattle.std.proofs.lemmas.List.{append_assoc, length-append}
use Rattle.plane.proofs.Turns.{determinant_shift, determinant_swap_first}
use Rattle.plane.specs.Prelude.{height_over, IsInTriangle, IsLeft, Point, whole}
use Rattle.rings.proofs.Simple.{apart_of_simple}
use Rattle.rings.proofs.Vertices.{HasPoint, Farthest, has_cases, has_left, has_right, farthest_or_none, distinct_between, edge_from}
use Rattle.rings.proofs.Vertices.{end_of_ring}
use Rattle.rings.specs.Apart.{IsApartRing, MeetAtEnds}
use Rattle.rings.specs.Prelude.{Edge, edge, edges_of, HasEdge, IsSimple}
use Rattle.rings.specs.Winding.{RunsCounterclockwise, IsLeastVertex, RunsAsItTurns, RunsClockwise, WindsUpTo}
use Rattle.ring_laws.proofs.Ears.{is_corner, NoneBefore, LeftTurnLaw, area_corner, on_some_corner, swept_triangle, winding_corner}
use Rattle.ring_laws.proofs.Ears.{apart_without, ear_counterclockwise, least_vertex, runs_as_it_turns, distinct_corner, has_edge_of_corner}
use Rattle.ring_laws.proofs.Pieces.{apart_first, apart_second, has_edge_back, has_edge_there, cut_counterclockwise}
use Rattle.ring_laws.proofs.Triangles.{farthest_between, farthest_meets, triangle_values, in_or_not, IsFarthestEnd}

-- ---- the vertex in the triangle at the first vertex of a ring that is farthest from the triangle's base

-- a list is split at each of its points
pub split_at : (p : Point) (ps : List Point) → HasPoint ps p → (cs : List Point) × (ds : List Point) × (ps ≡ cs ++ p ∷ ds)
split_at p (q ∷ ps) (inl e) = ([], ps, ap (λ (r : Point). r ∷ ps) e)
split_at p (q ∷ ps) (inr h) = let (cs, ds, is) = split_at p ps h in (q ∷ cs, ds, ap (λ rs. q ∷ rs) is)
split_at p [] h = absurd h

-- the vertices other than v, w and u that are in the triangle
abbrev pub InTriangle : Point → Point → Point → Point → Type 0
InTriangle u v w p = IsInTriangle u v w (whole p)

-- how far a vertex is from the side uw
abbrev pub height : Point → Point → Point → ℤ
height u w p = height_over u w (whole p)

module _ (v w : Point) (ms : List Point) (u : Point) (apart : IsApartRing (v ∷ w ∷ (ms ++ u ∷ []))) (far : Farthest (InTriangle u v w) (height u w) ms) where
  -- of all ends of edges in the triangle but its corners it is farthest from uw
  pub is_farthest_end : IsFarthestEnd (edges_of (v ∷ w ∷ (ms ++ u ∷ []))) u v w far.point
  is_farthest_end =
      let differ = distinct_corner v w ms u apart in
      let in_rest = has_left far.point ms (u ∷ []) far.has_point in
      let (e, has, from) = edge_from far.point w ms u (inr far.has_point) in
      record {
        in_triangle = far.chosen;
        not_u = λ is. distinct_between ms (u ∷ []) differ.1.1 far.point far.has_point (inl (sym is));
        not_v = λ is. differ.0 (inr (subst (HasPoint (ms ++ u ∷ [])) is in_rest));
        not_w = λ is. differ.1.0 (subst (HasPoint (ms ++ u ∷ [])) is in_rest);
        with_edge = e;
        has_edge = has_edge_of_corner v w ms u e (inr (inr has));
        is_end = inl from;
        farthest = λ f y has_f end within. go y (end_of_ring f y v (w ∷ (ms ++ u ∷ [])) has_f end) within;
      }
    where
      go : (y : Point) → HasPoint (v ∷ w ∷ (ms ++ u ∷ [])) y → InTriangle u v w y
          → (y ≡ u) ⊎ (y ≡ v) ⊎ (y ≡ w) ⊎ (height u w y ≤ℤ height u w far.point)
      go y (inl is) within = inr (inl (sym is))
      go y (inr (inl is)) within = inr (inr (inl (sym is)))
      go y (inr (inr h)) within = elim (has_cases y ms (u ∷ []) h) [
        | inl k ↦ inr (inr (inr (far.farthest y k within)))
        | inr k ↦ elim k [ inl is ↦ inl (sym is) | inr nothing ↦ absurd nothing ]
      ]

-- ---- the cut of a ring from its first vertex v to the farthest vertex in the triangle there, and the two pieces. The theorem of simple rings: a ring runs round once, as it turns at its least vertex

-- the vertices ms are cs, z and ds; the segment from v to z meets the edges at ends, and is strictly between those at v
pub record IsCutFrom (v w : Point) (ms : List Point) (u z : Point) (cs ds : List Point) : Type 0 where
  pub parts : ms ≡ cs ++ z ∷ ds
  pub meets : (e : Edge) → HasEdge (edges_of (v ∷ (w ∷ cs ++ z ∷ (ds ++ u ∷ [])))) e → MeetAtEnds e (edge v z)
  pub left_of_last : IsLeft (whole u) (whole v) (whole z)
  pub left_of_first : IsLeft (whole z) (whole v) (whole w)

module _ (v w : Point) (ms : List Point) (u z : Point) (cs ds : List Point) (parts : ms ≡ cs ++ z ∷ ds) where
  -- the vertices after v, regrouped
  rest_regrouped : w ∷ (ms ++ u ∷ []) ≡ w ∷ cs ++ z ∷ (ds ++ u ∷ [])
  rest_regrouped = ap (λ rs. w ∷ (rs ++ u ∷ [])) parts ∙ ap (λ rs. w ∷ rs) (append_assoc cs (z ∷ ds) (u ∷ []))

  -- all vertices
  pub ring_regrouped : v ∷ w ∷ (ms ++ u ∷ []) ≡ v ∷ (w ∷ cs ++ z ∷ (ds ++ u ∷ []))
  ring_regrouped = ap (λ rs. v ∷ rs) rest_regrouped

  -- the two parts have fewer vertices
  pub fewer_vertices : length cs + length ds < length ms
  fewer_vertices = omega (arith, ap length parts, length-append cs (z ∷ ds))

-- the farthest vertex in the triangle makes a cut
pub farthest_cut : (v w : Point) (ms : List Point) (u : Point)
    → IsApartRing (v ∷ w ∷ (ms ++ u ∷ [])) → IsLeft (whole u) (whole v) (whole w) → (far : Farthest (InTriangle u v w) (height u w) ms)
    → (cs : List Point) × (ds : List Point) × IsCutFrom v w ms u far.point cs ds
farthest_cut v w ms u apart left far =
    let z : Point = far.point in
    let (cs, ds, parts) = split_at z ms far.has_point in
    let es : List Edge = edges_of (v ∷ w ∷ (ms ++ u ∷ [])) in
    let corner = is_corner v w ms u apart left in
    let end = is_farthest_end v w ms u apart far in
    let turns = farthest_between es u v w corner z end in (
      cs,
      ds,
      record {
        parts = parts;
        meets = subst (λ rs. (e : Edge) → HasEdge (edges_of rs) e → MeetAtEnds e (edge v z)) (ring_regrouped v w ms u z cs ds parts)
            (farthest_meets es u v w corner z end);
        left_of_last = turns.0;
        left_of_first = turns.1;
      },
    )

-- what is among some points and one more is among them with others
among_more : (p z : Point) (ps qs : List Point) → HasPoint (ps ++ z ∷ []) p → HasPoint (ps ++ z ∷ qs) p
among_more p z ps qs h = elim (has_cases p ps (z ∷ []) h) [
  | inl k ↦ has_left p ps (z ∷ qs) k
  | inr k ↦ elim k [ inl e ↦ has_right p ps (z ∷ qs) (inl e) | inr none ↦ absurd none ]
]

module _ (v w : Point) (ms : List Point) (u z : Point) (cs ds : List Point) (cut : IsCutFrom v w ms u z cs ds)
    (apart : IsApartRing (v ∷ w ∷ (ms ++ u ∷ []))) where
  -- the regrouped ring is apart
  pub apart_regrouped : IsApartRing (v ∷ (w ∷ cs ++ z ∷ (ds ++ u ∷ [])))
  apart_regrouped = subst IsApartRing (ring_regrouped v w ms u z cs ds cut.parts) apart

  module _ (least : NoneBefore (w ∷ (ms ++ u ∷ [])) v) where
    -- v is a least vertex of it
    least_regrouped : NoneBefore (w ∷ cs ++ z ∷ (ds ++ u ∷ [])) v
    least_regrouped = subst (λ rs. NoneBefore rs v) (rest_regrouped v w ms u z cs ds cut.parts) least

    -- so the first piece runs counterclockwise,
    pub first_runs : LeftTurnLaw (length cs) → RunsCounterclockwise (v ∷ (w ∷ cs ++ z ∷ []))
    first_runs law =
        let ps : List Point = w ∷ cs in
        let qs : List Point = ds ++ u ∷ [] in
        law v w cs z refl
        (apart_first v ps z qs apart_regrouped (λ e has. cut.meets e (has_edge_there v ps z qs apart_regrouped e has)))
        (λ p has. least_regrouped p (among_more p z ps qs has)) cut.left_of_first

    -- and the second does
    pub second_runs : LeftTurnLaw (length ds) → RunsCounterclockwise (v ∷ z ∷ (ds ++ u ∷ []))
    second_runs law =
        let ps : List Point = w ∷ cs in
        let qs : List Point = ds ++ u ∷ [] in
        law v z ds u refl
        (apart_second v ps z qs apart_regrouped (λ e has. cut.meets e (has_edge_back v ps z qs apart_regrouped e has)))
        (λ p has. least_regrouped p (has_right p ps (z ∷ qs) has)) cut.left_of_last

-- a triangle
pub triangle_law : (v w u : Point) → IsLeft (whole u) (whole v) (whole w) → RunsCounterclockwise (v ∷ w ∷ u ∷ [])
triangle_law v w u left = record {
  area = omega (arith, ints, left, area_corner v w [] u, swept_triangle u v w);
  windings = λ x at off.
      subst (λ n. (n ≡ pos 0) ⊎ (n ≡ pos 1)) (sym (winding_corner v w [] u x))
      (triangle_values u v w left x at (λ on. off (on_some_corner v w [] u x on)));
}

-- rings with fewer vertices are known to run once round
module _ (n : ℕ) (fewer : (j : ℕ) → j < n → LeftTurnLaw j) where
  -- so a ring with n + 2 vertices runs round once
  runs_once : (ring : List Point) (j : ℕ) → j < n → length ring ≡ j + 3 → IsApartRing ring → RunsCounterclockwise ring ⊎ RunsClockwise ring
  runs_once ring j less size apart =
      let (i, within, least) = least_vertex ring (omega arith) in
      elim (runs_as_it_turns j (fewer j less) ring size apart i within least) [ inl h ↦ inl h.1 | inr h ↦ inr h.1 ]

  -- a ring with a cut from v to z
  cut_law : (v w : Point) (ms : List Point) (u z : Point) (cs ds : List Point) → IsCutFrom v w ms u z cs ds → length ms ≡ n
      → IsApartRing (v ∷ w ∷ (ms ++ u ∷ [])) → NoneBefore (w ∷ (ms ++ u ∷ [])) v → RunsCounterclockwise (v ∷ w ∷ (ms ++ u ∷ []))
  cut_law v w ms u z cs ds cut size apart least =
      let less = fewer_vertices v w ms u z cs ds cut.parts in
      subst RunsCounterclockwise (sym (ring_regrouped v w ms u z cs ds cut.parts))
      (cut_counterclockwise v (w ∷ cs) z (ds ++ u ∷ []) (apart_regrouped v w ms u z cs ds cut apart) cut.meets
      (first_runs v w ms u z cs ds cut apart least (fewer (length cs) (omega arith)))
      (second_runs v w ms u z cs ds cut apart least (fewer (length ds) (omega arith)))
      u w (has_right u ds (u ∷ []) (inl refl)) (inl refl)
      (omega (arith, ints, cut.left_of_last, determinant_shift (whole u) (whole v) (whole z)))
      (omega (arith, ints, cut.left_of_first, determinant_swap_first (whole z) (whole v) (whole w))))

  -- a ring with at least four vertices
  step : (v w m : Point) (ks : List Point) (u : Point) → length ks + 1 ≡ n → IsApartRing (v ∷ w ∷ (m ∷ ks ++ u ∷ []))
      → NoneBefore (w ∷ (m ∷ ks ++ u ∷ [])) v → IsLeft (whole u) (whole v) (whole w) → RunsCounterclockwise (v ∷ w ∷ (m ∷ ks ++ u ∷ []))
  step v w m ks u size apart least left =
      elim (farthest_or_none (InTriangle u v w) (λ p. in_or_not u v w (whole p)) (height u w) (m ∷ ks)) [
        | inl none ↦
            ear_counterclockwise v w m ks u apart left none least
            (runs_once (w ∷ (m ∷ ks ++ u ∷ [])) (length ks) (omega arith) (omega (arith, length-append ks (u ∷ [])))
            (apart_without v w m ks u apart left none))
        | inr far ↦
            let (cs, ds, cut) = farthest_cut v w (m ∷ ks) u apart left far in
            cut_law v w (m ∷ ks) u far.point cs ds cut (omega arith) apart least
      ]

-- the law for left turns, by induction
below : (k n : ℕ) → n < k → LeftTurnLaw n
below zero n h = absurd (omega arith)
below (suc k) n h = by_step (λ j less. below k j (omega arith))
  where
    by_step : ((j : ℕ) → j < n → LeftTurnLaw j) → LeftTurnLaw n
    by_step fewer v w [] u size apart least left = triangle_law v w u left
    by_step fewer v w (m ∷ ks) u size apart least left = step n fewer v w m ks u (omega arith) apart least left

-- the law for left turns
pub left_turn_law : (n : ℕ) → LeftTurnLaw n
left_turn_law n = below (n + 1) n (omega arith)

-- a ring of three vertices or more runs round once: counterclockwise where it turns left at a least vertex, else clockwise
winding_of_simple : (ring : List Point) → 3 ≤ length ring → IsApartRing ring → (i : ℕ) → i < length ring → IsLeastVertex ring i
    → RunsAsItTurns ring i
winding_of_simple ring some =
    let n : ℕ = length ring - 3 in
    runs_as_it_turns n (left_turn_law n) ring (omega arith)

-- so it runs one way or the other,
pub runs_round : (ring : List Point) → 3 ≤ length ring → IsApartRing ring → RunsCounterclockwise ring ⊎ RunsClockwise ring
runs_round ring some apart =
    let (i, within, least) = least_vertex ring (omega arith) in
    elim (winding_of_simple ring some apart i within least) [ inl h ↦ inl h.1 | inr h ↦ inr h.1 ]

-- and winds up to once
pub winds_once : (ring : List Point) → 3 ≤ length ring → IsApartRing ring → (s : ℤ) × ((s ≡ pos 1) ⊎ (s ≡ negsuc 0)) × WindsUpTo s (edges_of ring)
winds_once ring some apart = elim (runs_round ring some apart) [
  | inl h ↦ (pos 1, inl refl, h.windings)
  | inr h ↦ (negsuc 0, inr refl, h.windings)
]

-- the same for simple rings
pub simple_ring_law : (ring : List Point) → 3 ≤ length ring → IsSimple ring → (i : ℕ) → i < length ring → IsLeastVertex ring i
    → RunsAsItTurns ring i
simple_ring_law ring some simple = winding_of_simple ring some (apart_of_simple ring simple)
