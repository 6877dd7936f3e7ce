-- The last point seen from a base is not inner, and is a base.
use Rattle.std.proofs.Common.{◌≢◌, inl, inr, sym, subst, ap, ◌∙◌, ℕ, ◌<◌, ◌≤◌, List, length}
use Rattle.plane.proofs.Order.{point_or_other}
use Rattle.plane.specs.Point.{Point, whole}
use Rattle.rings.specs.Prelude.{IsIn, IsSimple, point_at}
use Rattle.hulls.proofs.Entrances.{paths}
use Rattle.hulls.proofs.Joined.{joined_of_on_path, on_path_of_joined}
use Rattle.hulls.proofs.Order.{IsLeftOn, ahead_of_left}
use Rattle.hulls.proofs.Outer.LeastBases.{IsBase, IsLastSeen, IsOther, points_differ, step_of_way, way_to}
use Rattle.hulls.proofs.Outer.Seen.{first_differs, one_joined_with_first, starts_along, starts_left, starts_there, HasWay}
use Rattle.hulls.proofs.Outer.Seen.{not_on_path_before, on_path_or_not, way_of}
use Rattle.hulls.proofs.Third.{from_third, on_path_back}
use Rattle.hulls.specs.Inner.{AreAllIn, AreDistinct, IsInnerPoint}
use Rattle.hulls.specs.Joined.{AreJoined, IsFirstStep, IsOnPath}
use Rattle.hulls.specs.Turning.{IsToLeft}

module _ (ring : List Point) (some : 3 ≤ length ring) (simple : IsSimple ring) (points : List Point)
    (distinct : AreDistinct points) (all_in : AreAllIn ring points) (x : Point) (base : IsBase ring points x) (b : ℕ)
    (last : IsLastSeen ring points x b) where
  abbrev z : Point
  z = point_at points b

  z_in : IsIn ring (whole z)
  z_in = all_in b last.below

  to : (u : ℕ) → u < length points → HasWay ring x (point_at points u)
  to u h = way_to ring some simple points distinct all_in x base.x_in u h

  other_number : (u : ℕ) → point_at points u ≢ z → u ≢ b
  other_number u differ e = differ (ap (point_at points) e)

  -- it is on no path from the base to another point
  pub not_before : (u : ℕ) → IsOther points x u → u ≢ b → ¬ IsOnPath ring x (point_at points u) z
  not_before u is differ =
      not_on_path_before ring some simple x (point_at points u) z (to u is.0) (to b last.below)
      (points_differ points distinct u b is.0 last.below differ) (last.last u is.0 is differ)

  -- ---- where the paths from it go first

  back : HasWay ring z x
  back =
      let path = paths ring some simple z x z_in base.x_in in
      way_of ring z x path.0 path.1

  abbrev e : Point
  e = point_at back.way 0

  step : IsFirstStep ring z x e
  step = step_of_way ring z x back.way back.is_path last.is.1

  -- what has the last point to its left, seen from the base, is to the left of the base, seen from that
  left_from_last : (u : ℕ) → IsOther points x u → u ≢ b → ¬ IsOnPath ring x z (point_at points u) → IsToLeft ring x (point_at points u) z
      → IsToLeft ring z x (point_at points u)
  left_from_last u is differ off left =
      let to_u = to u is.0 in
      let to_z = to b last.below in
      from_third ring some simple x (point_at points u) z (record {
        a_b = λ same. is.1 (sym same);
        b_c = points_differ points distinct u b is.0 last.below differ;
        a_c = λ same. last.is.1 (sym same);
        not_a = base.not_between u b is last.is differ;
        not_b = off;
        not_c = not_before u is differ;
      }) _ _ to_u.is_path to_z.is_path left

  -- on the ray of the first step to the base, or to the left of it
  starts : (u : ℕ) → IsOther points z u → (f : Point) → IsFirstStep ring z (point_at points u) f → IsLeftOn z e f
  starts u is f step_too = elim (point_or_other (point_at points u) x) [
    | inl same ↦ inr (starts_there ring some simple z x (point_at points u) e f step step_too same)
    | inr other ↦
        let differ = other_number u is.1 in
        let to_z = to b last.below in
        elim (on_path_or_not ring x z (point_at points u) _ to_z.is_path) [
          | inl on ↦
              starts_along ring some simple z x (point_at points u) e f step step_too
              (on_path_back ring some simple x z (point_at points u) on)
          | inr off ↦ elim (last.last u is.0 (is.0, other) differ) [
            | inr on ↦ absurd (off on)
            | inl left ↦
                starts_left ring some simple z x (point_at points u) e f step step_too (left_from_last u (is.0, other) differ off left)
          ]
        ]
  ]

  -- ---- it is not inner

  -- no first step from it is joined with that to the base
  not_joined : (u : ℕ) → IsOther points x u → u ≢ b → (f : Point) → IsFirstStep ring z (point_at points u) f → ¬ AreJoined ring z f e
  not_joined u is differ f step_too joined =
      not_before u is differ
      (on_path_back ring some simple (point_at points u) x z
      (on_path_of_joined ring some simple z (point_at points u) x f e step_too step joined))

  -- two first steps to other points are not joined
  none_joined : (u v : ℕ) → IsOther points x u → IsOther points x v → u ≢ b → v ≢ b → ¬ IsOnPath ring (point_at points u) (point_at points v) z
  none_joined u v is_u is_v differ_u differ_v on =
      let apart_u = points_differ points distinct u b is_u.0 last.below differ_u in
      let apart_v = points_differ points distinct v b is_v.0 last.below differ_v in
      let to_u = way_to ring some simple points distinct all_in z z_in u is_u.0 in
      let to_v = way_to ring some simple points distinct all_in z z_in v is_v.0 in
      let step_u = step_of_way ring z (point_at points u) to_u.way to_u.is_path (λ same. apart_u (sym same)) in
      let step_v = step_of_way ring z (point_at points v) to_v.way to_v.is_path (λ same. apart_v (sym same)) in
      one_joined_with_first ring z e (first_differs ring z x e step) _ _ (first_differs ring z _ _ step_u) (first_differs ring z _ _ step_v)
      (starts u (is_u.0, apart_u) _ step_u) (starts v (is_v.0, apart_v) _ step_v)
      (joined_of_on_path ring some simple z (point_at points u) (point_at points v) _ _ step_u step_v on)
      (not_joined u is_u differ_u _ step_u) (not_joined v is_v differ_v _ step_v)

  -- so it is on no path between two others
  pub not_inner : ¬ IsInnerPoint ring points b
  not_inner inner =
      let c = inner.a in
      let d = inner.b in
      let apart = points_differ points distinct c d inner.a_in_list inner.b_in_list inner.different in
      elim (point_or_other (point_at points c) x) [
        | inl same ↦
            not_before d (inner.b_in_list, λ same_too. apart (same ∙ sym same_too)) inner.not_b
            (subst (λ p. IsOnPath ring p (point_at points d) z) same inner.passes)
        | inr other ↦ elim (point_or_other (point_at points d) x) [
          | inl same ↦
              not_before c (inner.a_in_list, other) inner.not_a
              (on_path_back ring some simple (point_at points c) x z (subst (λ p. IsOnPath ring (point_at points c) p z) same inner.passes))
          | inr other_too ↦ none_joined c d (inner.a_in_list, other) (inner.b_in_list, other_too) inner.not_a inner.not_b inner.passes
        ]
      ]

  -- and it is a base
  pub next_base : IsBase ring points z
  next_base = record {
    x_in = z_in;
    not_between = λ u v is_u is_v differ on. not_inner (record {
      a = u;
      b = v;
      a_in_list = is_u.0;
      b_in_list = is_v.0;
      different = differ;
      not_a = other_number u is_u.1;
      not_b = other_number v is_v.1;
      passes = on;
    });
    ahead = λ u v w is_u is_v is_w p q r first second third.
        ahead_of_left z e (λ same. first_differs ring z x e step (sym same)) p q r (starts u is_u p first) (starts v is_v q second)
        (starts w is_w r third);
  }
