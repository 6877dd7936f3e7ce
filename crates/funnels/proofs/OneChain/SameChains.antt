-- A bend read backward, and one where a point beside it is another one on the same ray.
-- In a ring where two chains with bends that end at one point have come to it on one ray, such chains between two points are equal.
-- The front of a chain with bends, and a chain with bends whose last step is shorter.
use Rattle.std.proofs.Common.{inl, inr, true, List, ◌≡◌, sym, subst, ap, ◌∙◌, ◌+◌, ◌-◌, ◌<◌, ◌≤◌, [], ◌∷◌, ◌++◌, length, take, arith, ◌⊎◌}
use Rattle.std.proofs.Common.{ℕ, zero, suc}
use Rattle.std.proofs.lemmas.Bool.{cases_lt}
use Rattle.std.proofs.lemmas.List.{get_or_append_left, get_or_push, length-append}
use Rattle.integer_algebra.proofs.SignSteps.{turned_negative, turned_positive}
use Rattle.plane.proofs.Points.{same_whole, whole_is_point, same_refl}
use Rattle.plane.proofs.Segments.{on_first_end, on_reversed, on_nested, on_is_straight}
use Rattle.plane.proofs.Turns.{determinant_swap_last, straight_swap_last, straight_shift_back}
use Rattle.plane.specs.Cone.{IsInCone}
use Rattle.plane.specs.Prelude.{IsSame, On, Point, Triple, whole}
use Rattle.rings.proofs.Simple.{same_or_not}
use Rattle.rings.specs.Prelude.{IsBend, IsBentChain, IsIn, origin, point_at, Sees}
use Rattle.funnels.proofs.Bends.{AreOnRay, on_ray_back, turning_to_ray, chain_more}
use Rattle.funnels.proofs.OneChain.SubChains.{front_and_last, front_at, front_bent, front_length}

-- the cone too
cone_on_ray : (v : Point) (a c d u : Triple) → AreOnRay (whole v) c d → IsInCone (whole v) a c u → IsInCone (whole v) a d u
cone_on_ray v a c d u ray cone =
    let end = turning_to_ray v true c d a ray in
    let back = turning_to_ray v true d c u (on_ray_back ray) in
    elim cone [
      | inl h ↦ inl (end.positive h.0, h.1, λ right. h.2 (back.negative right))
      | inr h ↦ inr (end.negative h.0, h.1, λ left. h.2 (back.positive left))
    ]

-- the bend
pub bend_on_ray : (ring : List Point) (p v q r : Point) → AreOnRay (whole v) (whole q) (whole r) → IsBend ring p v q → IsBend ring p v r
bend_on_ray ring p v q r ray bend = record {
  reflex = bend.reflex;
  turns = λ straight. bend.turns ((turning_to_ray v true (whole r) (whole q) (whole p) (on_ray_back ray)).zero straight);
  in_cone = λ u next. cone_on_ray v (whole p) (whole q) (whole r) (whole u) ray (bend.in_cone u next);
}

-- ---- backward

-- a cone has no first ray
cone_back : (v a c u : Triple) → IsInCone v a c u → IsInCone v c a u
cone_back v a c u (inl h) =
    inr (
      turned_negative (determinant_swap_last v a c) h.0,
      (λ left. h.2 (turned_negative (determinant_swap_last v c u) left)),
      λ left. h.1 (turned_negative (determinant_swap_last v u a) left),
    )
cone_back v a c u (inr h) =
    inl (
      turned_positive (determinant_swap_last v a c) h.0,
      (λ right. h.2 (turned_positive (determinant_swap_last v c u) right)),
      λ right. h.1 (turned_positive (determinant_swap_last v u a) right),
    )

-- so the way back has a bend where the way has one,
pub bend_back : (ring : List Point) (p v q : Point) → IsBend ring p v q → IsBend ring q v p
bend_back ring p v q bend = record {
  reflex = bend.reflex;
  turns = λ straight. bend.turns (straight_swap_last (whole v) (whole q) (whole p) straight);
  in_cone = λ u beside. cone_back (whole v) (whole p) (whole q) (whole u) (bend.in_cone u beside);
}

-- and one from a point of a ray is one from another
pub bend_from_ray : (ring : List Point) (p r v q : Point) → AreOnRay (whole v) (whole p) (whole r) → IsBend ring p v q → IsBend ring r v q
bend_from_ray ring p r v q ray bend = bend_back ring q v r (bend_on_ray ring q v p r ray (bend_back ring p v q bend))

-- the last point of a chain, and the one before it
abbrev pub last_of : List Point → Point
last_of chain = point_at chain (length chain - 1)

abbrev pub before_last : List Point → Point
before_last chain = point_at chain (length chain - 2)

-- ---- lists

-- the front of a list of two points or more
abbrev pub front : List Point → List Point
front chain = take (length chain - 1) chain

-- it ends with the point before the last
pub front_last : (chain : List Point) → 2 ≤ length chain → point_at (front chain) (length (front chain) - 1) ≡ before_last chain
front_last chain long =
    let n = front_length chain (length chain - 1) (omega arith) in
    ap (point_at (front chain)) (omega arith) ∙ front_at chain (length chain - 1) (omega arith) (length chain - 2) (omega arith)

-- two lists with one front and one last point are equal
pub same_by_front : (one other : List Point) → 0 < length one → 0 < length other → front one ≡ front other → last_of one ≡ last_of other → one ≡ other
same_by_front one other some some_too fronts lasts =
    front_and_last one some ∙ (λ i. fronts i ++ lasts i ∷ []) ∙ sym (front_and_last other some_too)

-- the last step of a chain goes from one point to another
pub ends_differ : (ring : List Point) (chain : List Point) → IsBentChain ring chain → 2 ≤ length chain → ¬ (before_last chain ≡ last_of chain)
ends_differ ring chain bent long same =
    let next : length chain - 2 + 1 ≡ length chain - 1 = omega arith in
    bent.chain.distinct (length chain - 2) (omega arith) (same ∙ ap (point_at chain) (sym next))

-- ---- a shorter last step

module _ (ring : List Point) (one : List Point) (bent : IsBentChain ring one) (long : 2 ≤ length one) (q : Point)
    (on : On (whole q) (whole (last_of one)) (whole (before_last one))) (differ : ¬ (before_last one ≡ q)) where
  abbrev p : Point
  p = before_last one

  abbrev t : Point
  t = last_of one

  -- the point before the last sees the last, and so what lies between
  sees_between : Sees ring (whole p) (whole q)
  sees_between x at_x on_x =
      let sees = subst (λ k. Sees ring (whole p) (whole (point_at one k))) (omega arith) (bent.chain.sees (length one - 2) (omega arith)) in
      sees x at_x
      (on_nested x (whole p) (whole q) (whole p) (whole t) at_x (whole_is_point p) (whole_is_point q) (whole_is_point p) (whole_is_point t)
      (on_first_end (whole p) (whole t)) (on_reversed (whole q) (whole t) (whole p) on) on_x)

  -- the last step goes along one ray, to its end or to the point between
  on_ray : AreOnRay (whole p) (whole t) (whole q)
  on_ray = record {
    first_rational = whole_is_point t;
    last_rational = whole_is_point q;
    first_differs = λ same. ends_differ ring one bent long (sym (same_whole t p same));
    last_differs = λ same. differ (sym (same_whole q p same));
    on_ray = inr (on_reversed (whole q) (whole t) (whole p) on);
  }

  -- so a bend at the point before the last is one toward the point between
  bend_there : 2 ≤ length (front one) → IsBend ring (point_at (front one) (length (front one) - 2)) p q
  bend_there more =
      let n = front_length one (length one - 1) (omega arith) in
      let long_enough : 3 ≤ length one = omega arith in
      let earlier : point_at (front one) (length (front one) - 2) ≡ point_at one (length one - 2 - 1) =
      ap (point_at (front one)) (omega arith) ∙ front_at one (length one - 1) (omega arith) (length one - 2 - 1) (omega arith) in
      let next : length one - 2 + 1 ≡ length one - 1 = omega arith in
      let bend = bent.bends (length one - 2) (record { not_first = omega arith; not_last = omega arith }) in
      rw earlier
      (bend_on_ray ring (point_at one (length one - 2 - 1)) p t q on_ray
      (subst (λ k. IsBend ring (point_at one (length one - 2 - 1)) p (point_at one k)) next bend))

  -- and the chain may end there
  pub shorter_step : (0 < length (front one)) → (IsIn ring (whole q)) → IsBentChain ring (front one ++ q ∷ [])
  shorter_step some inside =
      chain_more (front one) p q (front_last one long) ring (front_bent one (length one - 1) (omega arith) ring (omega arith) bent) sees_between differ
      inside bend_there

-- two chains of two points or more between the same points come to the last one on one ray
abbrev pub ComeOnOneRay : List Point → Type 0
ComeOnOneRay ring = (one other : List Point) → IsBentChain ring one → IsBentChain ring other → 2 ≤ length one → 2 ≤ length other
    → point_at one 0 ≡ point_at other 0 → last_of one ≡ last_of other
    → On (whole (before_last one)) (whole (last_of one)) (whole (before_last other))
    ⊎ On (whole (before_last other)) (whole (last_of one)) (whole (before_last one))

-- a chain that ends where it begins is one point
abbrev pub AreNotClosed : List Point → Type 0
AreNotClosed ring = (chain : List Point) → IsBentChain ring chain → point_at chain 0 ≡ point_at chain (length chain - 1) → length chain ≡ 1

-- ---- the induction

-- chains of so many points together are equal
abbrev AreSame : List Point → ℕ → Type 0
AreSame ring n = (one other : List Point) → length one + length other ≤ n → IsBentChain ring one → IsBentChain ring other
    → point_at one 0 ≡ point_at other 0 → last_of one ≡ last_of other → one ≡ other

module _ (ring : List Point) (n : ℕ) (shorter : AreSame ring n) (one other : List Point) (count : length one + length other ≤ n + 1)
    (bent : IsBentChain ring one) (bent_too : IsBentChain ring other) (long : 2 ≤ length one) (long_too : 2 ≤ length other)
    (firsts : point_at one 0 ≡ point_at other 0) (lasts : last_of one ≡ last_of other) where
  -- the first point of a front
  front_first : (chain : List Point) → 2 ≤ length chain → point_at (front chain) 0 ≡ point_at chain 0
  front_first chain h = front_at chain (length chain - 1) (omega arith) 0 (omega arith)

  front_is_bent : (chain : List Point) → 2 ≤ length chain → IsBentChain ring chain → IsBentChain ring (front chain)
  front_is_bent chain h b = front_bent chain (length chain - 1) (omega arith) ring (omega arith) b

  -- where the points before the last are one, the fronts are equal
  same_before : before_last one ≡ before_last other → one ≡ other
  same_before same =
      let m = front_length one (length one - 1) (omega arith) in
      let k = front_length other (length other - 1) (omega arith) in
      same_by_front one other (omega arith) (omega arith)
      (shorter (front one) (front other) (omega arith) (front_is_bent one long bent) (front_is_bent other long_too bent_too)
      (front_first one long ∙ firsts ∙ sym (front_first other long_too)) (front_last one long ∙ same ∙ sym (front_last other long_too)))
      lasts

  module _ (on : On (whole (before_last other)) (whole (last_of one)) (whole (before_last one))) (differ : ¬ (before_last one ≡ before_last other)) where
    abbrev longer : List Point
    longer = front one ++ before_last other ∷ []

    longer_length : length longer ≡ length one
    longer_length = omega (arith, front_length one (length one - 1) (omega arith), length-append (front one) (before_last other ∷ []))

    longer_bent : IsBentChain ring longer
    longer_bent =
        shorter_step ring one bent long (before_last other) on differ (omega (arith, front_length one (length one - 1) (omega arith)))
        (bent_too.chain.inside (length other - 2) (omega arith))

    -- it begins and ends as the front of the other chain does, so it is that,
    longer_first : point_at longer 0 ≡ point_at one 0
    longer_first =
        get_or_append_left (front one) (before_last other ∷ []) origin 0 (omega (arith, front_length one (length one - 1) (omega arith)))
        ∙ front_first one long

    longer_last : last_of longer ≡ before_last other
    longer_last =
        get_or_push (front one) (before_last other) origin (length longer - 1)
        (omega (arith, longer_length, front_length one (length one - 1) (omega arith)))

    longer_is : longer ≡ front other
    longer_is =
        shorter longer (front other) (omega (arith, longer_length, front_length other (length other - 1) (omega arith))) longer_bent
        (front_is_bent other long_too bent_too) (longer_first ∙ firsts ∙ sym (front_first other long_too))
        (longer_last ∙ sym (front_last other long_too))

    -- the other chain is one longer,
    longer_by_one : length other ≡ length one + 1
    longer_by_one = omega (arith, longer_length, ap length longer_is, front_length other (length other - 1) (omega arith))

    -- it has the point before the last of the first chain before that,
    point_before : point_at other (length other - 2 - 1) ≡ before_last one
    point_before =
        let n = front_length one (length one - 1) (omega arith) in
        let by_front = front_at other (length other - 1) (omega arith) (length other - 2 - 1) (omega (arith, longer_by_one)) in
        let place : length other - 2 - 1 ≡ length (front one) - 1 = omega (arith, longer_by_one) in
        sym by_front
        ∙ (λ i. point_at (sym longer_is i) (length other - 2 - 1))
        ∙ ap (point_at longer) place
        ∙ get_or_append_left (front one) (before_last other ∷ []) origin (length (front one) - 1) (omega arith)
        ∙ front_last one long

    -- and no bend between it and the last
    no_bend : ⊥
    no_bend =
        let k = length other - 2 in
        let next : k + 1 ≡ length other - 1 = omega arith in
        let bend = bent_too.bends k (record { not_first = omega (arith, longer_by_one); not_last = omega arith }) in
        let P = whole (before_last one) in
        let Q = whole (before_last other) in
        let T = whole (last_of one) in
        let straight = on_is_straight Q T P (whole_is_point (before_last other)) (whole_is_point (last_of one))
        (whole_is_point (before_last one)) on in
        (subst (λ (x : Point). IsBend ring x (before_last other) (last_of one)) point_before
        (subst (λ (x : Point). IsBend ring (point_at other (k - 1)) (before_last other) x) (ap (point_at other) next ∙ sym lasts) bend)).turns
        (straight_swap_last Q T P (straight_shift_back T P Q straight))

  -- so where the other chain comes nearer the two are equal
  same_nearer : On (whole (before_last other)) (whole (last_of one)) (whole (before_last one)) → one ≡ other
  same_nearer on = elim (same_or_not (whole (before_last one)) (whole (before_last other))) [
    | inl same ↦ same_before (same_whole (before_last one) (before_last other) same)
    | inr differ ↦ absurd (no_bend on (λ e. differ (subst (λ (x : Point). IsSame (whole (before_last one)) (whole x)) e (same_refl (whole (before_last one))))))
  ]

-- lists of one point
same_points : (one other : List Point) → length one ≡ 1 → length other ≡ 1 → point_at one 0 ≡ point_at other 0 → one ≡ other
same_points [] other e f same = absurd (omega arith)
same_points (x ∷ []) [] e f same = absurd (omega arith)
same_points (x ∷ []) (y ∷ []) e f same = ap (λ (z : Point). z ∷ []) same
same_points (x ∷ []) (y ∷ z ∷ zs) e f same = absurd (omega arith)
same_points (x ∷ y ∷ ys) other e f same = absurd (omega arith)

module _ (ring : List Point) (come : ComeOnOneRay ring) (not_closed : AreNotClosed ring) where
  -- a chain with the ends of one of one point has one point
  one_point : (one other : List Point) → IsBentChain ring one → IsBentChain ring other → length one ≡ 1 → point_at one 0 ≡ point_at other 0
      → last_of one ≡ last_of other → one ≡ other
  one_point one other bent bent_too single firsts lasts =
      let place : length one - 1 ≡ 0 = omega arith in
      same_points one other single (not_closed other bent_too (sym firsts ∙ ap (point_at one) (sym place) ∙ lasts)) firsts

  same_up_to : (n : ℕ) → AreSame ring n
  same_up_to zero one other count bent bent_too firsts lasts = absurd (omega (arith, bent.chain.some))
  same_up_to (suc n) one other count bent bent_too firsts lasts = elim (cases_lt 1 (length one)) [
    | inr short ↦ one_point one other bent bent_too (omega (arith, bent.chain.some)) firsts lasts
    | inl long ↦ elim (cases_lt 1 (length other)) [
      | inr short ↦ sym (one_point other one bent_too bent (omega (arith, bent_too.chain.some)) (sym firsts) (sym lasts))
      | inl long_too ↦ elim (come one other bent bent_too (omega arith) (omega arith) firsts lasts) [
        | inl on ↦
            sym (same_nearer ring n (same_up_to n) other one (omega arith) bent_too bent (omega arith) (omega arith) (sym firsts) (sym lasts)
            (subst (λ (x : Point). On (whole (before_last one)) (whole x) (whole (before_last other))) lasts on))
        | inr on ↦ same_nearer ring n (same_up_to n) one other (omega arith) bent bent_too (omega arith) (omega arith) firsts lasts on
      ]
    ]
  ]

  -- so chains with bends between two points are equal
  pub same_chains : (one other : List Point) → IsBentChain ring one → IsBentChain ring other → point_at one 0 ≡ point_at other 0
      → last_of one ≡ last_of other → one ≡ other
  same_chains one other = same_up_to (length one + length other) one other (omega arith)
