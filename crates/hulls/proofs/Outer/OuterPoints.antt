-- Points are inner or not; and of three that aren't, one is to the left of another, to the same side seen from each.
-- The last point seen from the least point, and the last one seen from that, are an outer pair.
use Rattle.std.proofs.Common.{◌≢◌, ◌⊎◌, inl, inr, sym, ℕ, ◌<◌, ◌≤◌, List, length, ◌∙◌, arith}
use Rattle.std.proofs.lemmas.Bool.{cases_eq}
use Rattle.plane.proofs.Order.{point_or_other}
use Rattle.plane.specs.Point.{Point}
use Rattle.rings.specs.Prelude.{IsSimple, point_at}
use Rattle.hulls.proofs.Entrances.{paths}
use Rattle.hulls.proofs.Outer.Lasts.{some_or_none}
use Rattle.hulls.proofs.Outer.LeastBases.{points_differ, way_to, IsBase, IsLastSeen, IsOther, last_seen, least_base, least_point}
use Rattle.hulls.proofs.Outer.NextBases.{next_base, not_inner}
use Rattle.hulls.proofs.Outer.Seen.{HasWay, on_path_or_not}
use Rattle.hulls.proofs.Third.{from_third}
use Rattle.hulls.proofs.Turning.{exchanged_back, one_way}
use Rattle.hulls.specs.Inner.{AreAllIn, AreDistinct, IsInnerPoint, IsOuterPair}
use Rattle.hulls.specs.Joined.{IsOnPath}
use Rattle.hulls.specs.Laws.{OuterPairLaw}
use Rattle.hulls.specs.Turning.{AreFree, IsToLeft}

-- point s of the list is not inner
pub record IsOuter (ring points : List Point) (s : ℕ) : Type 0 where
  pub in_list : s < length points
  pub outer : ¬ IsInnerPoint ring points s

-- three different points of the list are not inner
pub record AreOuter (ring points : List Point) (s t u : ℕ) : Type 0 where
  pub first : IsOuter ring points s
  pub second : IsOuter ring points t
  pub third : IsOuter ring points u
  pub s_t : s ≢ t
  pub t_u : t ≢ u
  pub s_u : s ≢ u

-- the last of them may come first
last_first : (ring points : List Point) (s t u : ℕ) → AreOuter ring points s t u → AreOuter ring points u s t
last_first ring points s t u three = record {
  first = three.third;
  second = three.first;
  third = three.second;
  s_t = λ e. three.s_u (sym e);
  t_u = three.s_t;
  s_u = λ e. three.t_u (sym e);
}

module _ (ring : List Point) (some : 3 ≤ length ring) (simple : IsSimple ring) (points : List Point) (distinct : AreDistinct points)
    (all_in : AreAllIn ring points) where
  -- ---- inner or not

  -- s is on the path from a to another point, number b
  abbrev IsPassedTo : ℕ → ℕ → ℕ → Type 0
  IsPassedTo s a b = (a ≢ b) × (b ≢ s) × IsOnPath ring (point_at points a) (point_at points b) (point_at points s)

  passed_to_or_not : (s a b : ℕ) → a < length points → b < length points → IsPassedTo s a b ⊎ (¬ IsPassedTo s a b)
  passed_to_or_not s a b a_in b_in = elim (cases_eq a b) [
    | inl same ↦ inr (λ h. h.0 same)
    | inr apart ↦ elim (cases_eq b s) [
      | inl same ↦ inr (λ h. h.1 same)
      | inr other ↦
          let path = paths ring some simple (point_at points a) (point_at points b) (all_in a a_in) (all_in b b_in) in
          elim (on_path_or_not ring (point_at points a) (point_at points b) (point_at points s) path.0 path.1) [
            | inl on ↦ inl (apart, other, on)
            | inr off ↦ inr (λ h. off h.2)
          ]
    ]
  ]

  -- on that from a to some other point,
  abbrev IsPassedOver : ℕ → ℕ → Type 0
  IsPassedOver s a = (a ≢ s) × ((b : ℕ) × (b < length points) × IsPassedTo s a b)

  passed_over_or_not : (s a : ℕ) → a < length points → IsPassedOver s a ⊎ (¬ IsPassedOver s a)
  passed_over_or_not s a a_in = elim (cases_eq a s) [
    | inl same ↦ inr (λ h. h.0 same)
    | inr other ↦ elim (some_or_none (IsPassedTo s a) (length points) (λ b b_in. passed_to_or_not s a b a_in b_in)) [
      | inl found ↦ inl (other, (found.0, found.1, found.2))
      | inr none ↦ inr (λ h. none h.1.0 h.1.1 h.1.2)
    ]
  ]

  -- so a point is inner, or it is not
  pub inner_or_not : (s : ℕ) → IsInnerPoint ring points s ⊎ (¬ IsInnerPoint ring points s)
  inner_or_not s = elim (some_or_none (IsPassedOver s) (length points) (passed_over_or_not s)) [
    | inr none ↦ inr (λ h. none h.a h.a_in_list (h.not_a, (h.b, h.b_in_list, (h.different, h.not_b, h.passes))))
    | inl found ↦
        let (not_a, (b, b_in, (apart, not_b, on))) = found.2 in
        inl (record { a = found.0; b = b; a_in_list = found.1; b_in_list = b_in; different = apart; not_a = not_a; not_b = not_b; passes = on })
  ]

  -- ---- points that are not

  -- two different numbers are those of two points
  pub differ : (s t : ℕ) → IsOuter ring points s → IsOuter ring points t → s ≢ t → point_at points s ≢ point_at points t
  differ s t is_s is_t = points_differ points distinct s t is_s.in_list is_t.in_list

  -- from each there is a path to each
  pub way : (s t : ℕ) → IsOuter ring points s → IsOuter ring points t → HasWay ring (point_at points s) (point_at points t)
  way s t is_s is_t =
      way_to ring some simple points distinct all_in (point_at points s) (all_in s is_s.in_list) t is_t.in_list

  -- ---- three

  module _ (s t u : ℕ) (three : AreOuter ring points s t u) where
    -- the first is not on the path between the others,
    off_path : ¬ IsOnPath ring (point_at points t) (point_at points u) (point_at points s)
    off_path on = three.first.outer (record {
      a = t;
      b = u;
      a_in_list = three.second.in_list;
      b_in_list = three.third.in_list;
      different = three.t_u;
      not_a = λ e. three.s_t (sym e);
      not_b = λ e. three.s_u (sym e);
      passes = on;
    })

  module _ (s t u : ℕ) (three : AreOuter ring points s t u) where
    -- nor is one of the others
    off_path_from : ¬ IsOnPath ring (point_at points s) (point_at points u) (point_at points t)
    off_path_from = off_path t s u (record {
      first = three.second;
      second = three.first;
      third = three.third;
      s_t = λ e. three.s_t (sym e);
      t_u = three.s_u;
      s_u = three.t_u;
    })

    -- so they are free
    free : AreFree ring (point_at points s) (point_at points t) (point_at points u)
    free = record {
      a_b = differ s t three.first three.second three.s_t;
      b_c = differ t u three.second three.third three.t_u;
      a_c = differ s u three.first three.third three.s_u;
      not_a = off_path s t u three;
      not_b = off_path_from;
      not_c = off_path u s t (last_first ring points s t u three);
    }

    -- one of two is to the left of the other,
    pub one_is_left : IsToLeft ring (point_at points s) (point_at points t) (point_at points u)
        ⊎ IsToLeft ring (point_at points s) (point_at points u) (point_at points t)
    one_is_left =
        let to_t = way s t three.first three.second in
        let to_u = way s u three.first three.third in
        elim (one_way ring some simple (point_at points s) (point_at points t) (point_at points u) _ _ to_t.is_path to_u.is_path free) [
          | inl left ↦ inl left
          | inr right ↦ inr (exchanged_back ring (point_at points s) (point_at points t) (point_at points u) right)
        ]

    -- and so they are seen from the last,
    left_from_last : IsToLeft ring (point_at points s) (point_at points t) (point_at points u)
        → IsToLeft ring (point_at points u) (point_at points s) (point_at points t)
    left_from_last left =
        let to_t = way s t three.first three.second in
        let to_u = way s u three.first three.third in
        from_third ring some simple (point_at points s) (point_at points t) (point_at points u) free _ _ to_t.is_path to_u.is_path left

  -- and from the one after the first
  pub left_from_next : (s t u : ℕ) → AreOuter ring points s t u → IsToLeft ring (point_at points s) (point_at points t) (point_at points u)
      → IsToLeft ring (point_at points t) (point_at points u) (point_at points s)
  left_from_next s t u three left =
      left_from_last u s t (last_first ring points s t u three) (left_from_last s t u three left)

-- of two different points one is another than x
one_differs : (points : List Point) → 2 ≤ length points → AreDistinct points → (x : Point) → (u : ℕ) × IsOther points x u
one_differs points two distinct x = elim (point_or_other (point_at points 0) x) [
  | inr differ ↦ (0, (omega (arith, two), differ))
  | inl same ↦
      let apart = points_differ points distinct 0 1 (omega (arith, two)) (omega (arith, two)) (λ e. omega (arith, e)) in
      (1, (omega (arith, two), λ same_too. apart (same ∙ sym same_too)))
]

module _ (ring : List Point) (some : 3 ≤ length ring) (simple : IsSimple ring) (points : List Point)
    (distinct : AreDistinct points) (all_in : AreAllIn ring points) (b : ℕ) (in_list : b < length points)
    (outer : ¬ IsInnerPoint ring points b) (base : IsBase ring points (point_at points b)) (t : ℕ)
    (last : IsLastSeen ring points (point_at points b) t) where
  -- on a path between two points, one of them not inner, another one that isn't inner is not
  not_on_path : (a c u : ℕ) → a < length points → c < length points → a ≢ c → a ≢ u → c ≢ u → ¬ IsInnerPoint ring points u
      → ¬ IsOnPath ring (point_at points a) (point_at points c) (point_at points u)
  not_on_path a c u a_in c_in differ not_a not_c not on =
      not (record { a = a; b = c; a_in_list = a_in; b_in_list = c_in; different = differ; not_a = not_a; not_b = not_c; passes = on })

  b_differs : b ≢ t
  b_differs e = last.is.1 (λ i. point_at points (sym e i))

  t_outer : ¬ IsInnerPoint ring points t
  t_outer = not_inner ring some simple points distinct all_in (point_at points b) base t last

  -- seen from the last point, all others that aren't inner are to the left of the base
  left_of_base : (u : ℕ) → u < length points → u ≢ t → u ≢ b → ¬ IsInnerPoint ring points u
      → IsToLeft ring (point_at points t) (point_at points b) (point_at points u)
  left_of_base u u_in not_t not_b u_outer =
      let differ = points_differ points distinct u b u_in in_list not_b in
      let b_in = all_in b in_list in
      let to_u = way_to ring some simple points distinct all_in (point_at points b) b_in u u_in in
      let to_t = way_to ring some simple points distinct all_in (point_at points b) b_in t last.below in
      let off_u = not_on_path b t u in_list last.below b_differs (λ e. not_b (sym e)) (λ e. not_t (sym e)) u_outer in
      elim (last.last u u_in (u_in, differ) not_t) [
        | inr on ↦ absurd (off_u on)
        | inl left ↦
            from_third ring some simple (point_at points b) (point_at points u) (point_at points t) (record {
              a_b = λ e. differ (sym e);
              b_c = points_differ points distinct u t u_in last.below not_t;
              a_c = points_differ points distinct b t in_list last.below b_differs;
              not_a = not_on_path u t b u_in last.below not_t not_b (λ e. b_differs (sym e)) outer;
              not_b = off_u;
              not_c = not_on_path b u t in_list u_in (λ e. not_b (sym e)) b_differs not_t t_outer;
            }) _ _ to_u.is_path to_t.is_path left
      ]

  -- so the two are an outer pair
  last_and_base : IsOuterPair ring points t b
  last_and_base = record {
    s_in_list = last.below;
    t_in_list = in_list;
    different = λ e. b_differs (sym e);
    s_outer = t_outer;
    t_outer = outer;
    left = left_of_base;
  }

-- of two or more points of a simple ring some pair has all others to the left
pub outer_pair : OuterPairLaw
outer_pair ring some simple points two distinct all_in =
    let (w, least) = least_point ring some points all_in in
    let from_least = least_base ring some simple points w least distinct all_in in
    let (u, is_other) = one_differs points two distinct w in
    let (b, last) = last_seen ring some simple points distinct all_in w from_least u is_other in
    let outer = not_inner ring some simple points distinct all_in w from_least b last in
    let base = next_base ring some simple points distinct all_in w from_least b last in
    let (v, is_other_too) = one_differs points two distinct (point_at points b) in
    let (t, last_too) = last_seen ring some simple points distinct all_in (point_at points b) base v is_other_too in
    (t, b, last_and_base ring some simple points distinct all_in b last.below outer base t last_too)
