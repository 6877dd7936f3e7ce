-- The order of points as seen from one: a point comes after those that it is to the left of, and after those on the path to it.
-- Where paths from b go first, beside the first step to one point x: those to points left of x, seen from b, and to points on the path there.
use Rattle.std.proofs.Common.{◌≢◌, ◌⊎◌, inl, inr, sym, subst, ap, ◌∙◌, ℕ, ◌+◌, ◌-◌, ◌<◌, ◌≤◌, List, ◌∷◌, length, drop, arith, ◌≡◌, true}
use Rattle.plane.proofs.Points.{whole_is_point, same_whole}
use Rattle.plane.proofs.Segments.{on_or_not, on_antisym, on_is_straight, on_last_end, on_reversed}
use Rattle.plane.proofs.Turns.{straight_swap_last}
use Rattle.plane.specs.Prelude.{IsStraight, On, Point, whole}
use Rattle.rings.specs.Prelude.{IsBentChain, IsPath, IsSimple, point_at}
use Rattle.funnels.proofs.OneChain.{last_of}
use Rattle.hulls.proofs.Cones.{ahead_of_none, joined_back}
use Rattle.hulls.proofs.Joined.{path_is_taut}
use Rattle.hulls.proofs.Order.{AreAhead, left_by_paths, left_of_paths, ordered_ahead, path_begins, IsLeftOf, IsLeftOn, IsOnRay, IsRightOn}
use Rattle.hulls.proofs.Outer.Fronts.{IsFrontOf, front_follows, fronts_are_one, front_then_left, left_then_farther, not_front_and_left}
use Rattle.hulls.proofs.Outer.Lasts.{some_or_none}
use Rattle.hulls.proofs.Outer.OnFronts.{front_of_on_path, on_path_of_front}
use Rattle.hulls.proofs.Third.{joined_nearer, joined_on_ray, list_of_step, same_step}
use Rattle.hulls.proofs.Turning.{exchanged_back, one_path, one_way, one_between, right_of_left}
use Rattle.hulls.specs.Joined.{IsOnPath, AreJoined, IsFirstStep}
use Rattle.hulls.specs.Turning.{IsToLeft, apart, first_nearer, second_nearer}

-- seen from t, v comes after u: it is to the left of u, or u is on the path to it
abbrev pub ComesAfter : List Point → Point → Point → Point → Type 0
ComesAfter ring t u v = IsToLeft ring t u v ⊎ IsOnPath ring t v u

-- ---- on a path or not

-- x is on a step of the list
abbrev IsOnStep : Point → List Point → ℕ → Type 0
IsOnStep x path k = On (whole x) (whole (point_at path k)) (whole (point_at path (k + 1)))

-- or it is not
on_step_or_not : (x : Point) (path : List Point) (k : ℕ) → IsOnStep x path k ⊎ (¬ IsOnStep x path k)
on_step_or_not x path k =
    on_or_not (whole x) (whole (point_at path k)) (whole (point_at path (k + 1))) (whole_is_point x) (whole_is_point (point_at path k))
    (whole_is_point (point_at path (k + 1)))

-- a point is on a path, or it is not
pub on_path_or_not : (ring : List Point) (a b x : Point) (path : List Point) → IsPath ring a b path → IsOnPath ring a b x ⊎ (¬ IsOnPath ring a b x)
on_path_or_not ring a b x path is = elim (some_or_none (IsOnStep x path) (length path - 1) (λ k _. on_step_or_not x path k)) [
  | inl found ↦ inl (record { path = path; is_path = is; place = found.0; within = omega (arith, found.1); on = found.2 })
  | inr none ↦ inr (λ h.
      let same = one_path ring a b h.path path h.is_path is in
      let within = subst (λ ps. h.place + 1 < length ps) same h.within in
      none h.place (omega (arith, within))
      (subst (λ ps. IsOnStep x ps h.place) same h.on))
]

-- ---- ways

-- the path from t to u, by what comes after t
pub record HasWay (ring : List Point) (t u : Point) : Type 0 where
  pub way : List Point
  pub is_path : IsPath ring t u (t ∷ way)

-- each path is such
pub way_of : (ring : List Point) (t u : Point) (path : List Point) → IsPath ring t u path → HasWay ring t u
way_of ring t u path is = record { way = drop 1 path; is_path = subst (IsPath ring t u) (path_begins ring t u path is) is }

module _ (ring : List Point) (some : 3 ≤ length ring) (simple : IsSimple ring) (t : Point) where
  module _ (u v : Point) (to_u : HasWay ring t u) (to_v : HasWay ring t v) where
    -- what comes after another is not on the path there,
    pub not_on_path_before : u ≢ v → ComesAfter ring t u v → ¬ IsOnPath ring t u v
    not_on_path_before differ after on =
        let back = front_of_on_path ring some simple t v u to_v.way to_u.way to_v.is_path to_u.is_path on in
        elim after [
          | inl left ↦
              not_front_and_left t to_u.way to_v.way
              (left_of_paths ring t u v (t ∷ to_u.way) (t ∷ to_v.way) to_u.is_path to_v.is_path left) back
          | inr on_too ↦
              let front = front_of_on_path ring some simple t u v to_u.way to_v.way to_u.is_path to_v.is_path on_too in
              differ (sym (path_is_taut ring t u (t ∷ to_u.way) to_u.is_path).last
              ∙ ap (λ ps. last_of (t ∷ ps)) (fronts_are_one t to_u.way to_v.way front back)
              ∙ (path_is_taut ring t v (t ∷ to_v.way) to_v.is_path).last)
        ]

    -- and of two points, where t is not on the path between them, one comes after the other
    pub one_comes_after : t ≢ u → t ≢ v → u ≢ v → ¬ IsOnPath ring u v t → ComesAfter ring t u v ⊎ ComesAfter ring t v u
    one_comes_after other_u other_v differ off = elim (on_path_or_not ring t v u (t ∷ to_v.way) to_v.is_path) [
      | inl on ↦ inl (inr on)
      | inr not_u ↦ elim (on_path_or_not ring t u v (t ∷ to_u.way) to_u.is_path) [
        | inl on ↦ inr (inr on)
        | inr not_v ↦
            elim (one_way ring some simple t u v (t ∷ to_u.way) (t ∷ to_v.way) to_u.is_path to_v.is_path (record {
              a_b = other_u;
              b_c = differ;
              a_c = other_v;
              not_a = off;
              not_b = not_u;
              not_c = not_v;
            })) [
              | inl left ↦ inl (inl left)
              | inr right ↦ inr (inl (exchanged_back ring t u v right))
            ]
      ]
    ]

  module _ (u v w : Point) (to_u : HasWay ring t u) (to_v : HasWay ring t v) (to_w : HasWay ring t w) (other : t ≢ u)
      (ahead : AreAhead t (point_at to_u.way 0) (point_at to_v.way 0) (point_at to_w.way 0)) where
    -- what comes after one that comes after another comes after that
    pub after_follows : ComesAfter ring t u v → ComesAfter ring t v w → ComesAfter ring t u w
    after_follows after after_too =
        let bent_u : IsBentChain ring (t ∷ to_u.way) = (path_is_taut ring t u (t ∷ to_u.way) to_u.is_path).bent in
        let bent_v : IsBentChain ring (t ∷ to_v.way) = (path_is_taut ring t v (t ∷ to_v.way) to_v.is_path).bent in
        let bent_w : IsBentChain ring (t ∷ to_w.way) = (path_is_taut ring t w (t ∷ to_w.way) to_w.is_path).bent in
        let by_left = left_by_paths ring t u w (t ∷ to_u.way) (t ∷ to_w.way) to_u.is_path to_w.is_path in
        let by_front = λ (front : IsFrontOf t to_u.way to_w.way).
        on_path_of_front ring some simple t u w to_u.way to_w.way to_u.is_path to_w.is_path other front in
        elim after [
          | inl left ↦
              elim after_too [
                | inl left_too ↦
                    inl (ordered_ahead ring some simple t u v w (t ∷ to_u.way) (t ∷ to_v.way) (t ∷ to_w.way) to_u.is_path to_v.is_path to_w.is_path
                    ahead left left_too)
                | inr on ↦
                    let one = left_of_paths ring t u v (t ∷ to_u.way) (t ∷ to_v.way) to_u.is_path to_v.is_path left in
                    let front = front_of_on_path ring some simple t v w to_v.way to_w.way to_v.is_path to_w.is_path on in
                    inl (by_left (left_then_farther ring some simple t to_u.way to_v.way to_w.way bent_v bent_w one front))
              ]
          | inr on ↦
              let front = front_of_on_path ring some simple t u v to_u.way to_v.way to_u.is_path to_v.is_path on in
              elim after_too [
                | inl left_too ↦
                    let two = left_of_paths ring t v w (t ∷ to_v.way) (t ∷ to_w.way) to_v.is_path to_w.is_path left_too in
                    elim (front_then_left ring some simple t to_u.way to_v.way to_w.way bent_u bent_v front two) [
                      | inl left ↦ inl (by_left left)
                      | inr front_too ↦ inr (by_front front_too)
                    ]
                | inr on_too ↦
                    let front_too = front_of_on_path ring some simple t v w to_v.way to_w.way to_v.is_path to_w.is_path on_too in
                    inr (by_front (front_follows t to_u.way to_v.way to_w.way front front_too))
              ]
        ]

module _ (b e f : Point) where
  -- a point beyond e on its ray has b not between,
  on_ray_of_nearer : e ≢ b → On (whole e) (whole b) (whole f) → IsOnRay b e f
  on_ray_of_nearer differ on = (
    straight_swap_last (whole b) (whole f) (whole e)
        (on_is_straight (whole e) (whole b) (whole f) (whole_is_point e) (whole_is_point b) (whole_is_point f) on),
    λ behind. differ (sym (same_whole b e
        (on_antisym (whole b) (whole e) (whole f) (whole_is_point b) (whole_is_point e) (whole_is_point f)
        (on_reversed (whole b) (whole e) (whole f) behind) (on_reversed (whole e) (whole b) (whole f) on)))),
  )

  -- nor has one before e,
  on_ray_of_farther : f ≢ b → On (whole f) (whole b) (whole e) → IsOnRay b e f
  on_ray_of_farther differ on = (
    on_is_straight (whole f) (whole b) (whole e) (whole_is_point f) (whole_is_point b) (whole_is_point e) on,
    λ behind. differ (sym (same_whole b f
        (on_antisym (whole b) (whole f) (whole e) (whole_is_point b) (whole_is_point f) (whole_is_point e) behind
        (on_reversed (whole f) (whole b) (whole e) on)))),
  )

  module _ (e_other : e ≢ b) (f_other : f ≢ b) where
    -- nor has e itself
    on_own_ray : e ≡ f → IsOnRay b e f
    on_own_ray same = on_ray_of_nearer e_other (subst (λ z. On (whole e) (whole b) (whole z)) same (on_last_end (whole b) (whole e)))

    -- a way over f that is to the left of one over e, or a front of it, goes first on the ray over e or to the left of it,
    start_of_left : (first second : List Point) → IsLeftOf b (e ∷ first) (f ∷ second) → IsLeftOn b e f
    start_of_left first second (inl (differ, apart left)) = inl left
    start_of_left first second (inl (differ, first_nearer r rest on is right)) = inr (on_ray_of_nearer e_other on)
    start_of_left first second (inl (differ, second_nearer r rest on is left)) = inr (on_ray_of_farther f_other on)
    start_of_left first second (inr h) = inr (on_own_ray h.0)

    start_of_front : (first second : List Point) → IsFrontOf b (f ∷ second) (e ∷ first) → IsLeftOn b e f
    start_of_front first second (inl h) = inr (on_own_ray (sym h.0))
    start_of_front first second (inr h) = inr (on_ray_of_farther f_other h.1)

    -- and a way over f with one over e to its left goes first on that ray or to the right of it
    start_of_right : (first second : List Point) → IsLeftOf b (f ∷ second) (e ∷ first) → IsRightOn b e f
    start_of_right first second (inl (differ, apart left)) = inl (right_of_left (whole b) (whole f) (whole e) left)
    start_of_right first second (inl (differ, first_nearer r rest on is right)) = inr (on_ray_of_farther f_other on)
    start_of_right first second (inl (differ, second_nearer r rest on is left)) = inr (on_ray_of_nearer e_other on)
    start_of_right first second (inr h) = inr (on_own_ray (sym h.0))

-- a path goes first to another point
pub first_differs : (ring : List Point) (b x e : Point) → IsFirstStep ring b x e → e ≢ b
first_differs ring b x e step same =
    let list = list_of_step ring b x e step in
    (path_is_taut ring b x (b ∷ e ∷ list.0) list.1).bent.chain.distinct 0 (omega arith) (sym same)

module _ (ring : List Point) (some : 3 ≤ length ring) (simple : IsSimple ring) (b x u e f : Point) (step : IsFirstStep ring b x e)
    (step_too : IsFirstStep ring b u f) where
  e_differs : e ≢ b
  e_differs = first_differs ring b x e step

  f_differs : f ≢ b
  f_differs = first_differs ring b u f step_too

  -- to a point left of x, seen from b, the path goes first on the ray of the first step to x or to the left of it
  pub starts_left : IsToLeft ring b x u → IsLeftOn b e f
  starts_left left =
      let one = list_of_step ring b x e step in
      let other = list_of_step ring b u f step_too in
      start_of_left b e f e_differs f_differs one.0 other.0
      (left_of_paths ring b x u (b ∷ e ∷ one.0) (b ∷ f ∷ other.0) one.1 other.1 left)

  -- with x to the left of the point, it goes first on that ray or to the right of it;
  pub starts_right : IsToLeft ring b u x → IsRightOn b e f
  starts_right left =
      let one = list_of_step ring b x e step in
      let other = list_of_step ring b u f step_too in
      start_of_right b e f e_differs f_differs one.0 other.0
      (left_of_paths ring b u x (b ∷ f ∷ other.0) (b ∷ e ∷ one.0) other.1 one.1 left)

  -- to a point on the path to x, on the ray or to the left of it,
  pub starts_along : IsOnPath ring b x u → IsLeftOn b e f
  starts_along on =
      let one = list_of_step ring b x e step in
      let other = list_of_step ring b u f step_too in
      start_of_front b e f e_differs f_differs one.0 other.0
      (front_of_on_path ring some simple b u x (f ∷ other.0) (e ∷ one.0) other.1 one.1 on)

  -- and to x on the ray
  pub starts_there : u ≡ x → IsOnRay b e f
  starts_there same = on_own_ray b e f e_differs f_differs
      (same_step ring b x e f step (subst (λ z. IsFirstStep ring b z f) same step_too))

module _ (ring : List Point) (b e : Point) (other : e ≢ b) where
  -- what is joined with a point on the ray of e is joined with e
  joined_with_first : (g h : Point) → g ≢ b → IsStraight (whole b) (whole e) (whole g) → ¬ On (whole b) (whole e) (whole g)
      → AreJoined ring b g h → AreJoined ring b e h
  joined_with_first g h g_other straight ahead joined = elim (one_between b e g straight) [
    | inl nearer ↦ joined_nearer ring b g e h nearer other joined
    | inr (inl farther) ↦ joined_on_ray ring b g e h farther g_other joined
    | inr (inr behind) ↦ absurd (ahead behind)
  ]

  -- so of two joined points, both on that ray or to the left of it, one is joined with e
  pub one_joined_with_first : (g h : Point) → g ≢ b → h ≢ b → IsLeftOn b e g → IsLeftOn b e h → AreJoined ring b g h
      → ¬ AreJoined ring b g e → ¬ AreJoined ring b h e → ⊥
  one_joined_with_first g h g_other h_other (inr on) second joined not_g not_h =
      not_h (joined_back ring b e h (joined_with_first g h g_other on.0 on.1 joined))
  one_joined_with_first g h g_other h_other (inl left) (inr on) joined not_g not_h =
      not_g (joined_back ring b e g (joined_with_first h g h_other on.0 on.1 (joined_back ring b g h joined)))
  one_joined_with_first g h g_other h_other (inl left) (inl left_too) joined not_g not_h =
      ahead_of_none true ring b e g h joined not_g not_h left left_too
