-- The least of the vertices of a ring and of some points in it.
-- A point that is not between points of a list, and from which the paths to them start on one side of a line: one of them is the last
-- seen.
-- From the least point all paths go forward, and it is on no path between others: it is a base.
use Rattle.std.proofs.Common.{◌≡◌, inl, inr, refl, sym, subst, ap, ◌∙◌, ℕ, ◌+◌, ◌-◌, ◌<◌, ◌≤◌, List, ◌++◌, length, arith, ◌≢◌, ◌⊎◌, [], ◌∷◌}
use Rattle.std.proofs.Common.{pos, ◌+ℤ◌, ◌-ℤ◌}
use Rattle.std.proofs.lemmas.Bool.{cases_eq, cases_lt}
use Rattle.std.proofs.lemmas.Int.{ints}
use Rattle.integer_algebra.proofs.Polynomial.{lit, var, ◌⊕◌, ◌⊖◌, same_value}
use Rattle.plane.proofs.Order.{after, before, before_asym, before_or_not, before_trans, compare_points, equal, point_or_other}
use Rattle.plane.proofs.Points.{whole_is_point}
use Rattle.plane.proofs.Segments.{not_before_both}
use Rattle.plane.proofs.Turns.{written_determinant}
use Rattle.plane.specs.Prelude.{determinant, IsBefore, On, Point, whole}
use Rattle.rings.proofs.Inside.{vertex_in}
use Rattle.rings.proofs.Sweeps.{precedes_whole}
use Rattle.rings.proofs.Vertices.{vertex_in_range}
use Rattle.rings.specs.Prelude.{IsIn, IsPath, IsReflexVertex, IsSimple, origin, point_at, vertex}
use Rattle.ring_laws.proofs.Simple.{simple_ring_law}
use Rattle.hulls.proofs.Entrances.{paths}
use Rattle.hulls.proofs.Joined.{at_first, at_second, both_length, path_is_taut, joined_of_on_path}
use Rattle.hulls.proofs.Order.{AreAhead, IsRightOn, ahead_of_ray}
use Rattle.hulls.proofs.Outer.Seen.{first_differs, ComesAfter, HasWay, after_follows, one_comes_after, way_of}
use Rattle.hulls.proofs.Outer.Lasts.{last_of_some, IsLast}
use Rattle.hulls.proofs.Third.{step_of_list, list_of_step}
use Rattle.hulls.specs.Inner.{AreAllIn, AreDistinct}
use Rattle.hulls.specs.Joined.{IsFirstStep, IsOnPath, AreJoined}

-- no vertex and none of the points is before w, which is in the ring
pub record IsLeastPoint (ring points : List Point) (w : Point) : Type 0 where
  pub w_in : IsIn ring (whole w)
  pub no_vertex : (i : ℕ) → i < length ring → ¬ IsBefore (vertex ring i) w
  pub no_point : (i : ℕ) → i < length points → ¬ IsBefore (point_at points i) w

-- what is not after a point that is not after another is not after that
not_after_follows : (p q r : Point) → ¬ IsBefore p q → ¬ IsBefore q r → ¬ IsBefore p r
not_after_follows p q r h k l = elim (compare_points q r) [
  | before m ↦ k m
  | equal e ↦ h (subst (IsBefore p) (sym e) l)
  | after m ↦ h (before_trans p r q l m)
]

module _ (ring : List Point) (some : 3 ≤ length ring) (points : List Point) (all_in : AreAllIn ring points) where
  abbrev all : List Point
  all = ring ++ points

  -- the vertices are among them,
  at_vertex : (i : ℕ) → i < length ring → point_at all i ≡ vertex ring i
  at_vertex i h = at_first ring points i h ∙ sym (vertex_in_range ring i origin h)

  -- and the points
  at_point : (i : ℕ) → point_at all (length ring + i) ≡ point_at points i
  at_point i = at_second ring points (length ring + i) i refl

  -- each is in the ring
  each_in : (i : ℕ) → i < length all → IsIn ring (whole (point_at all i))
  each_in i h = elim (cases_lt i (length ring)) [
    | inl below ↦ subst (λ p. IsIn ring (whole p)) (sym (at_vertex i below)) (vertex_in ring i below)
    | inr more ↦
        let k = i - length ring in
        let size = both_length ring points in
        let is : length ring + k ≡ i = omega arith in
        subst (λ p. IsIn ring (whole p)) (sym (at_point k) ∙ ap (point_at all) is) (all_in k (omega (arith, size, h)))
  ]

  -- so one of them is least
  pub least_point : (w : Point) × IsLeastPoint ring points w
  least_point =
      let size = both_length ring points in
      let found = last_of_some (λ u. Unit {0}) (λ u. inl tt) (λ u v. ¬ IsBefore (point_at all u) (point_at all v))
      (λ u v is_u is_v differ. elim (before_or_not (point_at all u) (point_at all v)) [
        | inl h ↦ inr (before_asym (point_at all u) (point_at all v) h)
        | inr not ↦ inl not
      ])
      (λ u v w is_u is_v is_w differ. not_after_follows (point_at all u) (point_at all v) (point_at all w)) (length all) 0 (omega (arith, size)) tt in
      let b = found.0 in
      let least = found.1 in
      let w = point_at all b in
      let none : (u : ℕ) → u < length all → ¬ IsBefore (point_at all u) w = λ u h. elim (cases_eq u b) [
        | inl e ↦ subst (λ k. ¬ IsBefore (point_at all k) w) (sym e) (λ l. before_asym w w l l)
        | inr other ↦ least.last u h tt other
      ] in (
        w,
        record {
          w_in = each_in b least.below;
          no_vertex = λ i h. subst (λ p. ¬ IsBefore p w) (at_vertex i h) (none i (omega (arith, size, h)));
          no_point = λ i h. subst (λ p. ¬ IsBefore p w) (at_point i) (none (length ring + i) (omega (arith, size, h)));
        },
      )

-- ---- points of a list

-- number u is that of a point of the list other than x
abbrev pub IsOther : List Point → Point → ℕ → Type 0
IsOther points x u = (u < length points) × (point_at points u ≢ x)

-- a number is, or is not
other_or_not : (points : List Point) (x : Point) (u : ℕ) → IsOther points x u ⊎ (¬ IsOther points x u)
other_or_not points x u = elim (cases_lt u (length points)) [
  | inr none ↦ inr (λ h. omega (arith, h.0))
  | inl below ↦ elim (point_or_other (point_at points u) x) [
    | inl same ↦ inr (λ h. h.1 same)
    | inr differ ↦ inl (below, differ)
  ]
]

-- distinct points have two numbers
pub points_differ : (points : List Point) → AreDistinct points → (u v : ℕ) → u < length points → v < length points → u ≢ v
    → point_at points u ≢ point_at points v
points_differ points distinct u v h k differ same = elim (cases_lt u v) [
  | inl less ↦ distinct u v less k same
  | inr more ↦ distinct v u (omega (arith, differ)) h (sym same)
]

-- ---- bases

-- x is in the ring, on no path between two other points of the list, and the paths to them start ahead of one line
pub record IsBase (ring points : List Point) (x : Point) : Type 0 where
  pub x_in : IsIn ring (whole x)
  pub not_between : (u v : ℕ) → IsOther points x u → IsOther points x v → u ≢ v → ¬ IsOnPath ring (point_at points u) (point_at points v) x
  pub ahead : (u v w : ℕ) → IsOther points x u → IsOther points x v → IsOther points x w → (p q r : Point)
      → IsFirstStep ring x (point_at points u) p → IsFirstStep ring x (point_at points v) q → IsFirstStep ring x (point_at points w) r
      → AreAhead x p q r

-- seen from x, point v of the list comes after point u
abbrev pub ComesLater : List Point → List Point → Point → ℕ → ℕ → Type 0
ComesLater ring points x u v = ComesAfter ring x (point_at points u) (point_at points v)

-- of the points other than x the last one seen from it is point b
abbrev pub IsLastSeen : List Point → List Point → Point → ℕ → Type 0
IsLastSeen ring points x b = IsLast (IsOther points x) (ComesLater ring points x) (length points) b

-- a path to another point has a first step
pub step_of_way : (ring : List Point) (x y : Point) (way : List Point) → IsPath ring x y (x ∷ way) → x ≢ y → IsFirstStep ring x y (point_at way 0)
step_of_way ring x y [] is differ = absurd (differ (path_is_taut ring x y (x ∷ []) is).last)
step_of_way ring x y (p ∷ rest) is differ = step_of_list ring x y p rest is

module _ (ring : List Point) (some : 3 ≤ length ring) (simple : IsSimple ring) (points : List Point)
    (distinct : AreDistinct points) (all_in : AreAllIn ring points) where
  -- there is a path to each point of the list
  pub way_to : (x : Point) → IsIn ring (whole x) → (u : ℕ) → u < length points → HasWay ring x (point_at points u)
  way_to x x_in u h =
      let path = paths ring some simple x (point_at points u) x_in (all_in u h) in
      way_of ring x (point_at points u) path.0 path.1

  module _ (x : Point) (base : IsBase ring points x) where
    -- of two points the one comes after the other,
    one_later : (u v : ℕ) → IsOther points x u → IsOther points x v → u ≢ v → ComesLater ring points x u v ⊎ ComesLater ring points x v u
    one_later u v is_u is_v differ =
        one_comes_after ring some simple x (point_at points u) (point_at points v) (way_to x base.x_in u is_u.0) (way_to x base.x_in v is_v.0)
        (λ e. is_u.1 (sym e)) (λ e. is_v.1 (sym e)) (points_differ points distinct u v is_u.0 is_v.0 differ)
        (base.not_between u v is_u is_v differ)

    -- the points come in one order,
    later_follows : (u v w : ℕ) → IsOther points x u → IsOther points x v → IsOther points x w → u ≢ w → ComesLater ring points x u v
        → ComesLater ring points x v w → ComesLater ring points x u w
    later_follows u v w is_u is_v is_w differ later after_too =
        let to_u = way_to x base.x_in u is_u.0 in
        let to_v = way_to x base.x_in v is_v.0 in
        let to_w = way_to x base.x_in w is_w.0 in
        let first = step_of_way ring x (point_at points u) to_u.way to_u.is_path (λ e. is_u.1 (sym e)) in
        let second = step_of_way ring x (point_at points v) to_v.way to_v.is_path (λ e. is_v.1 (sym e)) in
        let third = step_of_way ring x (point_at points w) to_w.way to_w.is_path (λ e. is_w.1 (sym e)) in
        after_follows ring some simple x (point_at points u) (point_at points v) (point_at points w) to_u to_v to_w (λ e. is_u.1 (sym e))
        (base.ahead u v w is_u is_v is_w _ _ _ first second third) later after_too

    -- and so there is a last one
    pub last_seen : (u : ℕ) → IsOther points x u → (b : ℕ) × IsLastSeen ring points x b
    last_seen u is =
        last_of_some (IsOther points x) (other_or_not points x) (ComesLater ring points x) one_later later_follows (length points) u is.0 is

-- ---- points after a point

-- the point above w
abbrev above : Point → Point
above w = record { x = w.x; y = w.y +ℤ pos 1 }

-- what is right of the way up to it
right_of_up : (w p : Point) → determinant (whole w) (whole (above w)) (whole p) ≡ w.x -ℤ p.x
right_of_up w p =
    let one = lit (pos 1) in
    same_value (written_determinant (var 0) (var 1) one (var 0) (var 1 ⊕ one) one (var 2) (var 3) one) (var 0 ⊖ var 2)
    (w.x ∷ w.y ∷ p.x ∷ p.y ∷ []) refl

-- a point is not between two points after it
not_between_after : (w p q : Point) → IsBefore w p → IsBefore w q → ¬ On (whole w) (whole p) (whole q)
not_between_after w p q h k on =
    not_before_both (whole w) (whole p) (whole q) (whole_is_point w) (whole_is_point p) (whole_is_point q) on
    (precedes_whole w p h, precedes_whole w q k)

-- and each of these is on the ray upward or to the right of it
right_of_after : (w p : Point) → IsBefore w p → IsRightOn w (above w) p
right_of_after w p (inl h) = inl (omega (arith, ints, right_of_up w p))
right_of_after w p (inr h) =
    let x = h.0 in
    inr (omega (arith, ints, right_of_up w p), not_between_after w (above w) p (inr (refl, omega (arith, ints))) (inr h))

-- ---- paths from the least point

module _ (ring : List Point) (some : 3 ≤ length ring) (simple : IsSimple ring) (points : List Point) (w : Point)
    (least : IsLeastPoint ring points w) where
  -- a reflex vertex is not before it,
  reflex_not_before : (p : Point) → IsReflexVertex ring p → ¬ IsBefore p w
  reflex_not_before p at = subst (λ q. ¬ IsBefore q w) at.is_vertex (least.no_vertex at.i at.in_ring)

  -- nor is the next point on a path to one of the points,
  next_not_before : (u : ℕ) → u < length points → (p : Point) (rest : List Point) → IsPath ring w (point_at points u) (w ∷ p ∷ rest)
      → ¬ IsBefore p w
  next_not_before u h p [] is =
      subst (λ q. ¬ IsBefore q w) (sym (path_is_taut ring w (point_at points u) (w ∷ p ∷ []) is).last) (least.no_point u h)
  next_not_before u h p (q ∷ rest) is =
      let bent = (path_is_taut ring w (point_at points u) (w ∷ p ∷ q ∷ rest) is).bent in
      reflex_not_before p (bent.bends 1 (record { not_first = omega arith; not_last = omega arith })).reflex

  -- so the paths to them go forward
  goes_forward : (u : ℕ) → u < length points → (p : Point) → IsFirstStep ring w (point_at points u) p → IsBefore w p
  goes_forward u h p step =
      let list = list_of_step ring w (point_at points u) p step in
      elim (compare_points w p) [
        | before k ↦ k
        | equal e ↦ absurd (first_differs ring w (point_at points u) p step (sym e))
        | after k ↦ absurd (next_not_before u h p list.0 list.1 k)
      ]

  -- it is no reflex vertex,
  not_reflex : ¬ IsReflexVertex ring w
  not_reflex at =
      let runs = simple_ring_law ring some simple at.i at.in_ring (λ j h k. least.no_vertex j h (subst (IsBefore _) at.is_vertex k)) in
      elim runs [
        | inl h ↦ elim at.reflex [ inl k ↦ omega (arith, ints, h.0, k.1) | inr k ↦ omega (arith, ints, h.1.area, k.0) ]
        | inr h ↦ elim at.reflex [ inl k ↦ omega (arith, ints, h.1.area, k.0) | inr k ↦ omega (arith, ints, h.0, k.1) ]
      ]

  -- so nothing forward is joined over it,
  none_joined_over : (p q : Point) → IsBefore w p → IsBefore w q → ¬ AreJoined ring w p q
  none_joined_over p q h k (inl between) = not_between_after w p q h k between.2
  none_joined_over p q h k (inr bend) = not_reflex bend.reflex

  -- and it is a base
  pub least_base : AreDistinct points → AreAllIn ring points → IsBase ring points w
  least_base distinct all_in = record {
    x_in = least.w_in;
    not_between = λ u v is_u is_v differ on.
        let to_u = way_to ring some simple points distinct all_in w least.w_in u is_u.0 in
        let to_v = way_to ring some simple points distinct all_in w least.w_in v is_v.0 in
        let step_u = step_of_way ring w (point_at points u) to_u.way to_u.is_path (λ same. is_u.1 (sym same)) in
        let step_v = step_of_way ring w (point_at points v) to_v.way to_v.is_path (λ same. is_v.1 (sym same)) in
        none_joined_over _ _ (goes_forward u is_u.0 _ step_u) (goes_forward v is_v.0 _ step_v)
        (joined_of_on_path ring some simple w (point_at points u) (point_at points v) _ _ step_u step_v on);
    ahead = λ u v z is_u is_v is_z p q r first second third.
        ahead_of_ray w (above w) (λ e. let y = ap (λ a. a.y) e in omega (arith, ints)) p q r
        (right_of_after w p (goes_forward u is_u.0 p first)) (right_of_after w q (goes_forward v is_v.0 q second))
        (right_of_after w r (goes_forward z is_z.0 r third));
  }
