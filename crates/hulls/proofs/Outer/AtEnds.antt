-- Points that aren't inner, as seen from the start or the end of an outer pair: they are in one order.
use Rattle.std.proofs.Common.{◌≢◌, inl, inr, sym, ap, ℕ, ◌≤◌, List, length}
use Rattle.std.proofs.lemmas.Bool.{cases_eq}
use Rattle.plane.specs.Point.{Point}
use Rattle.rings.specs.Prelude.{IsSimple, point_at}
use Rattle.hulls.proofs.Order.{AreAhead, IsLeftOn, IsRightOn, ahead_of_left, ahead_of_ray, ordered_ahead}
use Rattle.hulls.proofs.Outer.LeastBases.{step_of_way}
use Rattle.hulls.proofs.Outer.Seen.{first_differs, starts_left, starts_right, starts_there, HasWay}
use Rattle.hulls.proofs.Outer.OuterPoints.{AreOuter, IsOuter}
use Rattle.hulls.proofs.Outer.OuterPoints as outer
use Rattle.hulls.specs.Inner.{AreAllIn, AreDistinct, IsOuterPair}
use Rattle.hulls.specs.Joined.{IsFirstStep}
use Rattle.hulls.specs.Turning.{IsToLeft}

module _ (ring : List Point) (some : 3 ≤ length ring) (simple : IsSimple ring) (points : List Point) (distinct : AreDistinct points)
    (all_in : AreAllIn ring points) where
  abbrev way : (s t : ℕ) → IsOuter ring points s → IsOuter ring points t → HasWay ring (point_at points s) (point_at points t)
  way = outer.way ring some simple points distinct all_in

  -- ---- where paths from the ends of a pair go first

  -- the path to another one has a first step
  step : (s t : ℕ) (is_s : IsOuter ring points s) (is_t : IsOuter ring points t) → s ≢ t
      → IsFirstStep ring (point_at points s) (point_at points t) (point_at (way s t is_s is_t).way 0)
  step s t is_s is_t apart = step_of_way ring (point_at points s) (point_at points t) _ (way s t is_s is_t).is_path (outer.differ ring some simple points distinct all_in s t is_s is_t apart)

  module _ (s t : ℕ) (pair : IsOuterPair ring points s t) where
    abbrev start : IsOuter ring points s
    start = record { in_list = pair.s_in_list; outer = pair.s_outer }

    abbrev end : IsOuter ring points t
    end = record { in_list = pair.t_in_list; outer = pair.t_outer }

    -- from the start: on the ray of that to the end or to the left of it,
    left_at_start : (u : ℕ) (is : IsOuter ring points u) → s ≢ u
        → IsLeftOn (point_at points s) (point_at (way s t start end).way 0) (point_at (way s u start is).way 0)
    left_at_start u is apart =
        let to_t = step s t start end pair.different in
        let to_u = step s u start is apart in
        elim (cases_eq u t) [
          | inl same ↦
              inr (starts_there ring some simple (point_at points s) (point_at points t) (point_at points u) _ _ to_t to_u
              (ap (point_at points) same))
          | inr other ↦
              starts_left ring some simple (point_at points s) (point_at points t) (point_at points u) _ _ to_t to_u
              (pair.left u is.in_list (λ e. apart (sym e)) other is.outer)
        ]

    -- from the end: on the ray of that to the start or to the right of it
    right_at_end : (u : ℕ) (is : IsOuter ring points u) → t ≢ u
        → IsRightOn (point_at points t) (point_at (way t s end start).way 0) (point_at (way t u end is).way 0)
    right_at_end u is apart =
        let to_s = step t s end start (λ e. pair.different (sym e)) in
        let to_u = step t u end is apart in
        elim (cases_eq u s) [
          | inl same ↦
              inr (starts_there ring some simple (point_at points t) (point_at points s) (point_at points u) _ _ to_s to_u
              (ap (point_at points) same))
          | inr other ↦
              starts_right ring some simple (point_at points t) (point_at points s) (point_at points u) _ _ to_s to_u
              (outer.left_from_next ring some simple points distinct all_in s t u (record {
                first = start;
                second = end;
                third = is;
                s_t = pair.different;
                t_u = apart;
                s_u = λ e. other (sym e);
              }) (pair.left u is.in_list (λ e. other e) (λ e. apart (sym e)) is.outer))
        ]

  -- ---- the orders there

  -- seen from x, what is to the left of one that is to the left of another is so of that, where the paths start ahead of one line
  left_goes_on : (x u v w : ℕ) (is_x : IsOuter ring points x) (is_u : IsOuter ring points u) (is_v : IsOuter ring points v)
      (is_w : IsOuter ring points w)
      → AreAhead (point_at points x) (point_at (way x u is_x is_u).way 0) (point_at (way x v is_x is_v).way 0) (point_at (way x w is_x is_w).way 0)
      → IsToLeft ring (point_at points x) (point_at points u) (point_at points v)
      → IsToLeft ring (point_at points x) (point_at points v) (point_at points w)
      → IsToLeft ring (point_at points x) (point_at points u) (point_at points w)
  left_goes_on x u v w is_x is_u is_v is_w ahead =
      ordered_ahead ring some simple (point_at points x) (point_at points u) (point_at points v) (point_at points w) _ _ _
      (way x u is_x is_u).is_path (way x v is_x is_v).is_path (way x w is_x is_w).is_path ahead

  module _ (s t : ℕ) (pair : IsOuterPair ring points s t) where
    -- from the start of a pair
    pub ordered_at_start : (u v w : ℕ) → AreOuter ring points s u v → AreOuter ring points s v w
        → IsToLeft ring (point_at points s) (point_at points u) (point_at points v)
        → IsToLeft ring (point_at points s) (point_at points v) (point_at points w)
        → IsToLeft ring (point_at points s) (point_at points u) (point_at points w)
    ordered_at_start u v w one two =
        let e = point_at (way s t (start s t pair) (end s t pair)).way 0 in
        let apart = first_differs ring (point_at points s) (point_at points t) e (step s t (start s t pair) (end s t pair) pair.different) in
        left_goes_on s u v w (start s t pair) one.second one.third two.third
        (ahead_of_left (point_at points s) e (λ same. apart (sym same)) _ _ _ (left_at_start s t pair u one.second one.s_t)
        (left_at_start s t pair v one.third one.s_u) (left_at_start s t pair w two.third two.s_u))

    -- and from its end
    pub ordered_at_end : (u v w : ℕ) → AreOuter ring points t u v → AreOuter ring points t v w
        → IsToLeft ring (point_at points t) (point_at points u) (point_at points v)
        → IsToLeft ring (point_at points t) (point_at points v) (point_at points w)
        → IsToLeft ring (point_at points t) (point_at points u) (point_at points w)
    ordered_at_end u v w one two =
        let back : t ≢ s = λ e. pair.different (sym e) in
        let e = point_at (way t s (end s t pair) (start s t pair)).way 0 in
        let apart = first_differs ring (point_at points t) (point_at points s) e (step t s (end s t pair) (start s t pair) back) in
        left_goes_on t u v w (end s t pair) one.second one.third two.third
        (ahead_of_ray (point_at points t) e (λ same. apart (sym same)) _ _ _ (right_at_end s t pair u one.second one.s_t)
        (right_at_end s t pair v one.third one.s_u) (right_at_end s t pair w two.third two.s_u))
