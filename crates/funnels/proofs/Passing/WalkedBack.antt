-- Two ways that pass a diagonal and part still do so where one of them has a bend at its end of the diagonal.
-- Two chains that pass a side that a walk crosses, each ahead of the other: what is known of them there, and how it stays so where one
-- of them has a bend.
use Rattle.std.proofs.Common.{◌≡◌, ◌∙◌, Bool, not, sym, subst, ℕ, ◌<◌, pos, ◌<ℤ◌, ◌≤ℤ◌, List, length, ◌⊎◌, inl, inr, ap, true, false, zero}
use Rattle.std.proofs.Common.{suc, ◌+◌, ◌-◌, ◌≤◌, get_or, arith}
use Rattle.std.proofs.lemmas.Bool.{cases_lt}
use Rattle.plane.proofs.Points.{whole_is_point}
use Rattle.plane.proofs.Segments.{on_first_end, on_last_end}
use Rattle.plane.proofs.Turns.{determinant_same_first, combination_of}
use Rattle.plane.specs.Prelude.{IsStraight, On, Point, Triple, whole}
use Rattle.rings.specs.Prelude.{AreNeighbours, IsBend, IsBentChain, IsInner, point_at, Sees, vertex}
use Rattle.meshes.specs.Prelude.{Fits, IsInTri, IsWalk, tri_at}
use Rattle.meshes.specs.declared.tri.Tri.{Tri}
use Rattle.meshes.specs.Laws.{CrossesSide, walk_tri}
use Rattle.funnels.proofs.Bends.{corner_turns, turning_along, turning_four, not_ahead_of_itself}
use Rattle.funnels.proofs.Corners.{left_of_second}
use Rattle.funnels.proofs.DeadEnds.{HasSideOn, corner_at_side, crossed_back, end_of_crossed, within_before}
use Rattle.funnels.proofs.Passing.Advanced.{turning_shift}
use Rattle.funnels.proofs.Passing.BentWays.{level_on_way, other_end_not_ahead, mean_too, opens, flipped}
use Rattle.funnels.proofs.Passing.LastSides.{turns_away}
use Rattle.funnels.specs.Corner.{HasCornerOn, IsInAngle, FollowsWalk, IsFirstWith}
use Rattle.funnels.specs.Fanned.{turning}
use Rattle.funnels.specs.Passing.{ArePassing, Passes}

module _ (corners : List Point) (tris : List Tri) (fits : Fits corners tris) (side : Bool) (k far own tip : ℕ) (in_list : k < length tris)
    (corner : HasCornerOn side (tri_at tris k) far own tip)
    (p h : Point) (I : Type 0) (x : Triple) (q g : Point) (J : Type 0) (z : Triple)
    (passing : ArePassing side corners far own p h I x q g J z) (is : h ≡ vertex corners own) (inner : I)
    (y : Point) (bend : IsBend corners y h p) (within : IsInAngle side corners far own tip (whole y)) where
  -- the first way turns away,
  away : turning side h (whole y) (whole p) <ℤ pos 0
  away =
      subst (λ v. turning side v (whole y) (whole p) <ℤ pos 0) (sym is)
      (turns_away corners tris fits side k far own tip in_list corner p
      (subst (λ v. (u : Point) → AreNeighbours corners v u → turning side v (whole p) (whole u) <ℤ pos 0
      → turning side v (whole (vertex corners far)) (whole u) <ℤ pos 0) is (passing.one.swept inner is))
      y (subst (λ v. IsBend corners y v p) is bend) within)

  -- and then has the far end ahead,
  far_ahead : pos 0 <ℤ turning side h (whole y) (whole (vertex corners far))
  far_ahead =
      let F = whole (vertex corners far) in
      let T = whole (vertex corners tip) in
      let at = λ (P : Point → Type 0). subst P (sym is) in
      left_of_second (record { holds = turning_four side h T (whole y) F (whole p) })
      (at (λ v. pos 0 ≤ℤ turning side v T (whole y)) within.from_after)
      (at (λ v. pos 0 <ℤ turning side v T F) (corner_turns corners tris fits k in_list side far own tip corner))
      (at (λ v. pos 0 ≤ℤ turning side v (whole y) F) within.to_before) away
      (subst (λ n. pos 0 <ℤ n) (sym (turning_shift side p h F)) passing.one.far_ahead)

  -- and the point of the second
  other_ahead : pos 0 <ℤ turning side h (whole y) z
  other_ahead =
      let F = whole (vertex corners far) in
      let c = combination_of z (whole h) F passing.other.rational (whole_is_point h) (whole_is_point (vertex corners far))
      (subst (λ v. On z (whole v) F) (sym is) passing.other.on_side) in
      mean_too c.k c.l c.m _ _ _ _ _ _ c.k_positive c.m_nonnegative (turning_along side z (whole h) F c p (whole h))
      (level_on_way side p h (whole h) (whole_is_point h) (on_last_end (whole p) (whole h))) passing.one.other_ahead
      (turning_along side z (whole h) F c h (whole y))
      (level_on_way side h y (whole h) (whole_is_point h) (on_first_end (whole h) (whole y))) far_ahead

  -- it goes on to another point
  not_own : ¬ (y ≡ vertex corners own)
  not_own same =
      bend.turns (subst (λ (v : Point). IsStraight (whole h) (whole v) (whole p)) (is ∙ sym same) (determinant_same_first (whole h) (whole p)))

  -- the second has the bend ahead
  bend_ahead : pos 0 <ℤ turning (not side) q (whole g) (whole h)
  bend_ahead = subst (λ (v : Point). pos 0 <ℤ turning (not side) q (whole g) (whole v)) (sym is) passing.other.far_ahead

  -- so the first passes the diagonal at the bend,
  first_passes : (K : Type 0) → Passes side corners far own h y K (whole h) z
  first_passes K = record {
    rational = whole_is_point h;
    on_way = on_first_end (whole h) (whole y);
    on_side = subst (λ (v : Point). On (whole h) (whole (vertex corners far)) (whole v)) is (on_last_end (whole (vertex corners far)) (whole h));
    far_ahead = far_ahead;
    other_ahead = other_ahead;
    swept = λ _ same. absurd (not_own same);
  }

  -- and the second as before
  second_passes : Passes (not side) corners own far q g J z (whole h)
  second_passes = record {
    rational = passing.other.rational;
    on_way = passing.other.on_way;
    on_side = passing.other.on_side;
    far_ahead = passing.other.far_ahead;
    other_ahead = bend_ahead;
    swept = passing.other.swept;
  }

  -- they pass the diagonal and part: a bend of the first way, at the own end
  pub bent : (K : Type 0) → ArePassing side corners far own h y K (whole h) q g J z
  bent K = record {
    one = first_passes K;
    other = second_passes;
    apart = opens p h y q g (vertex corners far) side passing.one.far_ahead passing.apart far_ahead
        (subst (λ n. n <ℤ pos 0) (turning_shift side p h (whole y)) away) bend_ahead
        (other_end_not_ahead (not side) q g z (whole (vertex corners own)) (whole (vertex corners far)) passing.other.rational
        (whole_is_point (vertex corners own)) (whole_is_point (vertex corners far)) passing.other.on_way passing.other.on_side
        passing.other.far_ahead);
  }

-- a side in the mirror image
side_flipped : (side : Bool) (t : Tri) (far own : ℕ) → HasSideOn side t far own → HasSideOn (not side) t own far
side_flipped true t far own has = has
side_flipped false t far own has = has

module _ (corners : List Point) (tris : List Tri) (fits : Fits corners tris) (walk : List ℕ) (w : IsWalk tris walk) where
  -- ---- chains along the walk

  -- a chain with bends that begins in the first triangle of the walk and follows it
  pub record IsAlong (chain : List Point) : Type 0 where
    pub is_bent : IsBentChain corners chain
    pub follows : FollowsWalk corners tris walk chain
    pub starts : IsInTri corners (walk_tri tris walk 0) (whole (point_at chain 0))

  -- point a of it is the first one, or is in a triangle before place n
  abbrev pub IsBefore : (chain : List Point) → IsAlong chain → ℕ → ℕ → Type 0
  IsBefore chain along a n = (a ≡ 0) ⊎ (along.follows.place a < n)

  -- so it is
  pub before_place : (chain : List Point) (along : IsAlong chain) (a n m : ℕ) → m + 1 ≡ n → a < length chain → IsBefore chain along a n
      → (k : ℕ) × (k ≤ m) × IsInTri corners (walk_tri tris walk k) (whole (point_at chain a))
  before_place chain along a n m e within (inl none) =
      (0, omega arith, subst (λ i. IsInTri corners (walk_tri tris walk 0) (whole (point_at chain i))) (sym none) along.starts)
  before_place chain along zero n m e within (inr before) = (0, omega arith, along.starts)
  before_place chain along (suc a) n m e within (inr before) =
      (along.follows.place (suc a), omega arith, (along.follows.first (suc a) (omega arith) within).has)

  -- ---- two chains at a side

  -- the ways of the chains c and d to their points a and b pass the side that is crossed at place n
  pub record AreAt (side : Bool) (n : ℕ) (c d : List Point) : Type 0 where
    pub far : ℕ
    pub own : ℕ
    pub a : ℕ
    pub b : ℕ
    pub x : Triple
    pub z : Triple
    pub crossed : CrossesSide tris walk n far own
    pub has : HasSideOn side (walk_tri tris walk n) far own
    pub next : a + 1 < length c
    pub next_too : b + 1 < length d
    pub passing : ArePassing side corners far own (point_at c (a + 1)) (point_at c a) (IsInner c a) x (point_at d (b + 1)) (point_at d b) (IsInner d b) z

  -- and these points come before places e and f
  abbrev pub ComeTo : Bool → (n e f : ℕ) → (c d : List Point) → IsAlong c → IsAlong d → Type 0
  ComeTo side n e f c d along along_too = (s : AreAt side n c d) × IsBefore c along s.a e × IsBefore d along_too s.b f

  -- in the mirror image the two change places
  pub at_flipped : (side : Bool) (n e f : ℕ) (c d : List Point) (along : IsAlong c) (along_too : IsAlong d)
      → ComeTo side n e f c d along along_too
      → ComeTo (not side) n f e d c along_too along
  at_flipped side n e f c d along along_too (s, before, before_too) =
      let flip : AreAt (not side) n d c = record {
        far = s.own;
        own = s.far;
        a = s.b;
        b = s.a;
        x = s.z;
        z = s.x;
        crossed = crossed_back corners tris fits walk w n s.far s.own s.crossed;
        has = side_flipped side (walk_tri tris walk n) s.far s.own s.has;
        next = s.next_too;
        next_too = s.next;
        passing = flipped s.passing;
      } in
      (flip, before_too, before)

  -- ---- at a bend

  module _ (side : Bool) (n : ℕ) (c d : List Point) (along : IsAlong c) (s : AreAt side n c d)
      (inner : IsInner c s.a) (here : along.follows.place s.a ≡ n) where
    abbrev h : Point
    h = point_at c s.a

    -- the point before the head
    abbrev y : Point
    y = point_at c (s.a - 1)

    step : s.a - 1 + 1 ≡ s.a
    step = omega (arith, inner.not_first)

    -- the head is the own end of the side
    is_own : h ≡ vertex corners s.own
    is_own =
        let (i, j, crossed, is) = along.follows.leaves s.a inner in
        elim (end_of_crossed corners tris fits walk w n s.far s.own s.crossed side s.has i j (subst (λ k. CrossesSide tris walk k i j) here crossed)) [
          | inl e ↦
              let same : vertex corners s.far ≡ h = ap (vertex corners) (sym e) ∙ sym is in
              absurd (not_ahead_of_itself side (point_at c (s.a + 1)) (whole h)
              (subst (λ (v : Point). pos 0 <ℤ turning side (point_at c (s.a + 1)) (whole h) (whole v)) same s.passing.one.far_ahead))
          | inr e ↦ is ∙ ap (vertex corners) e
        ]

    first : IsFirstWith corners tris walk (whole h) n
    first = subst (IsFirstWith corners tris walk (whole h)) here (along.follows.first s.a inner.not_first (omega (arith, inner.not_last)))

    -- the point before it comes before it
    earlier : IsBefore c along (s.a - 1) n
    earlier = elim (cases_lt 0 (s.a - 1)) [
      | inl more ↦
          let rises = along.follows.rises (s.a - 1) more (omega (arith, inner.not_last)) in
          inr (omega (arith, here, ap along.follows.place step))
      | inr none ↦ inl (omega arith)
    ]

    -- and is within the angle at it
    before_is_within : (tip : ℕ) → HasCornerOn side (walk_tri tris walk n) s.far s.own tip → IsInAngle side corners s.far s.own tip (whole y)
    before_is_within tip corner =
        let (k, order, inside) = before_place c along (s.a - 1) (n + 1) n (omega arith) (omega (arith, inner.not_last))
        (elim earlier [ inl e ↦ inl e | inr e ↦ inr (omega arith) ]) in
        within_before corners tris fits walk w h n first y
        (subst (λ i. ¬ (y ≡ point_at c i)) step (along.is_bent.chain.distinct (s.a - 1) (omega (arith, inner.not_last))))
        (subst (λ i. Sees corners (whole y) (whole (point_at c i))) step (along.is_bent.chain.sees (s.a - 1) (omega (arith, inner.not_last))))
        k order inside side s.far s.own tip corner is_own

    -- so the way before the head passes there
    bends : (f : ℕ) (along_too : IsAlong d) → IsBefore d along_too s.b f → ComeTo side n n f c d along along_too
    bends f along_too before_too =
        let (tip, corner) = corner_at_side side (walk_tri tris walk n) s.far s.own s.has in
        let passing = bent corners tris fits side (get_or walk n 0) s.far s.own tip (w.in_list n (omega (arith, s.crossed.has_next))) corner
        (point_at c (s.a + 1)) h (IsInner c s.a) s.x (point_at d (s.b + 1)) (point_at d s.b) (IsInner d s.b) s.z s.passing is_own inner y
        (along.is_bent.bends s.a inner) (before_is_within tip corner) (IsInner c (s.a - 1)) in
        let passes : AreAt side n c d = record {
          far = s.far;
          own = s.own;
          a = s.a - 1;
          b = s.b;
          x = whole h;
          z = s.z;
          crossed = s.crossed;
          has = s.has;
          next = omega (arith, s.next);
          next_too = s.next_too;
          passing = subst
              (λ i. ArePassing side corners s.far s.own (point_at c i) y (IsInner c (s.a - 1)) (whole h) (point_at d (s.b + 1)) (point_at d s.b) (IsInner d s.b) s.z)
              (sym step) passing;
        } in
        (passes, earlier, before_too)

  -- so after a bend, where there is one, the head comes before the side
  pub after_bend : (side : Bool) (n f : ℕ) (c d : List Point) (along : IsAlong c) (along_too : IsAlong d)
      → ComeTo side n (n + 1) f c d along along_too → ComeTo side n n f c d along along_too
  after_bend side n f c d along along_too (s, inl none, before_too) = (s, inl none, before_too)
  after_bend side n f c d along along_too (s, inr near, before_too) = elim (cases_lt (along.follows.place s.a) n) [
    | inl less ↦ (s, inr less, before_too)
    | inr at_least ↦ elim (cases_lt 0 s.a) [
      | inr none ↦ (s, inl (omega arith), before_too)
      | inl some ↦
          let inner : IsInner c s.a = record { not_first = some; not_last = s.next } in
          let here : along.follows.place s.a ≡ n = omega arith in
          bends side n c d along s inner here f along_too before_too
    ]
  ]
