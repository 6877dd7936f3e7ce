-- The last step of a chain with bends along a walk, over the last side that the walk crosses.
-- In a ring that triangles fit, two chains with bends between two points come to the last one on one ray.
use Rattle.std.proofs.Common.{◌≡◌, ◌⊎◌, inl, inr, sym, subst, ap, ◌∙◌, true, ℕ, ◌+◌, ◌-◌, ◌<◌, ◌≤◌, List, length, get_or, arith, refl, pos}
use Rattle.std.proofs.lemmas.Bool.{cases_lt}
use Rattle.std.specs.List.{range_with_len}
use Rattle.integer_algebra.proofs.SignSteps.{turned_positive}
use Rattle.integer_algebra.proofs.Signs.{is_negative, is_positive, is_zero, sign}
use Rattle.plane.proofs.Points.{whole_is_point}
use Rattle.plane.proofs.Segments.{on_first_end, on_last_end, on_reversed}
use Rattle.plane.proofs.Turns.{determinant_swap_last}
use Rattle.plane.specs.Prelude.{determinant, IsLeft, IsRight, Meet, On, Point, whole}
use Rattle.rings.specs.Prelude.{IsBentChain, IsInner, point_at, vertex}
use Rattle.meshes.proofs.Parts.{side_in, paved}
use Rattle.meshes.proofs.TreeLeaves.{next_corner}
use Rattle.meshes.specs.Prelude.{Fits, HasSide, IsInTri, IsWalk, tri_at}
use Rattle.meshes.specs.declared.tri.Tri.{Tri}
use Rattle.meshes.specs.Laws.{CrossesSide, walk_tri}
use Rattle.funnels.proofs.DeadEnds.{opposite_side, one_first, crossed_shared, some_crossed, front_to, some_triangle, follows}
use Rattle.funnels.proofs.OneChain.SameChains.{ComeOnOneRay, before_last, last_of, ends_differ}
use Rattle.funnels.proofs.Passing.{right_of_side, way_meets, IsAlong, IsBefore, begin_passing, none_at, on_one_ray, ComeTo}
use Rattle.funnels.specs.Corner.{HasCornerOn, IsFirstWith}
use Rattle.funnels.specs.Passing.{ArePassing}

module _ (corners : List Point) (tris : List Tri) (fits : Fits corners tris) (walk : List ℕ) (w : IsWalk tris walk) (t : Point)
    (ends : IsFirstWith corners tris walk (whole t) (length walk - 1)) where
  -- ---- one chain to t

  module _ (chain : List Point) (along : IsAlong corners tris fits walk w chain) (long : 2 ≤ length chain) (last : last_of chain ≡ t) where
    -- its last point has the last triangle for its first one,
    last_place : along.follows.place (length chain - 1) ≡ length walk - 1
    last_place =
        one_first corners tris walk (whole t) (along.follows.place (length chain - 1)) (length walk - 1)
        (subst (λ (v : Point). IsFirstWith corners tris walk (whole v) (along.follows.place (length chain - 1))) last
        (along.follows.first (length chain - 1) (omega arith) (omega arith)))
        ends

    -- and the point before comes before that
    pub before_end : IsBefore corners tris fits walk w chain along (length chain - 2) (length walk - 1)
    before_end = elim (cases_lt 0 (length chain - 2)) [
      | inl some ↦
          let next : length chain - 2 + 1 ≡ length chain - 1 = omega arith in
          let rises = along.follows.rises (length chain - 2) some (omega arith) in
          inr (omega (arith, last_place, ap along.follows.place next))
      | inr none ↦ inl (omega arith)
    ]

    -- where the walk is one triangle, it is the first point
    pub only_step : length walk - 1 ≡ 0 → before_last chain ≡ point_at chain 0
    only_step single = elim before_end [
      | inl none ↦ ap (point_at chain) none
      | inr before ↦ absurd (omega arith)
    ]

    -- the point that the last step goes to
    pub end_is : point_at chain (length chain - 2 + 1) ≡ t
    end_is = ap (point_at chain) (omega arith) ∙ last

    -- else the last step meets the last side that is crossed
    pub meets_last : (n : ℕ) → n + 1 ≡ length walk - 1 → (i j : ℕ) → CrossesSide tris walk n i j
        → Meet (whole (before_last chain)) (whole t) (whole (vertex corners i)) (whole (vertex corners j))
    meets_last n e i j c =
        way_meets corners tris fits walk w chain along (length chain - 2) n (length walk - 1) e (omega arith) before_end (omega (arith, w.some))
        (whole t) (whole_is_point t)
        (subst (λ (v : Point). On (whole t) (whole v) (whole (before_last chain))) (sym end_is) (on_first_end (whole t) (whole (before_last chain))))
        ends.has i j c

  -- ---- the last side that the walk crosses

  module _ (n i j : ℕ) (e : n + 1 ≡ length walk - 1) (c : CrossesSide tris walk n i j) (has : HasSide (walk_tri tris walk n) i j) where
    -- the last triangle at that side
    last_has : HasSide (walk_tri tris walk (length walk - 1)) j i
    last_has =
        opposite_side corners tris fits walk w n (length walk - 1) i j (omega (arith, c.has_next)) (omega (arith, w.some)) (λ f. omega arith) has
        (subst (λ k. HasSide (walk_tri tris walk k) i j ⊎ HasSide (walk_tri tris walk k) j i) e c.of_next)

    pub corner_there : (third : ℕ) × HasCornerOn true (walk_tri tris walk (length walk - 1)) third j i
    corner_there = let (m, second, third) = next_corner (walk_tri tris walk (length walk - 1)) j i last_has in (m, (third, last_has))

    -- t is off it
    off_side : ¬ On (whole t) (whole (vertex corners i)) (whole (vertex corners j))
    off_side on =
        ends.least n (omega arith)
        (side_in corners (range_with_len 0 (length corners)) tris (paved fits) (get_or walk n 0) i j (w.in_list n (omega (arith, c.has_next))) c.of_this
        (whole t) (whole_is_point t) on)

    pub last_in_list : get_or walk (length walk - 1) 0 < length tris
    last_in_list = w.in_list (length walk - 1) (omega (arith, w.some))

    pub end_is_right : IsRight (whole (vertex corners i)) (whole (vertex corners j)) (whole t)
    end_is_right =
        let (third, corner) = corner_there in
        right_of_side corners tris fits (get_or walk (length walk - 1) 0) last_in_list i j third corner t ends.has off_side

module _ (corners : List Point) (tris : List Tri) (fits : Fits corners tris) (walk : List ℕ) (w : IsWalk tris walk) (t : Point)
    (ends : IsFirstWith corners tris walk (whole t) (length walk - 1)) where
  -- ---- two chains to t over a side

  module _ (n i j : ℕ) (e : n + 1 ≡ length walk - 1) (c : CrossesSide tris walk n i j) (has : HasSide (walk_tri tris walk n) i j) where
    module _ (one other : List Point) (along : IsAlong corners tris fits walk w one) (along_too : IsAlong corners tris fits walk w other)
        (long : 2 ≤ length one) (long_too : 2 ≤ length other) (last : last_of one ≡ t) (last_too : last_of other ≡ t) where
      abbrev p : Point
      p = before_last one

      abbrev q : Point
      q = before_last other

      differ : ¬ (p ≡ t)
      differ same = ends_differ corners one along.is_bent long (same ∙ sym last)

      differ_too : ¬ (q ≡ t)
      differ_too same = ends_differ corners other along_too.is_bent long_too (same ∙ sym last_too)

      meet : Meet (whole p) (whole t) (whole (vertex corners i)) (whole (vertex corners j))
      meet = meets_last corners tris fits walk w t ends one along long last n e i j c

      meet_too : Meet (whole q) (whole t) (whole (vertex corners i)) (whole (vertex corners j))
      meet_too = meets_last corners tris fits walk w t ends other along_too long_too last_too n e i j c

      -- where the other comes from the left of the one, they pass
      begin : IsLeft (whole t) (whole p) (whole q) → ComeTo corners tris fits walk w true n (n + 1) (n + 1) one other along along_too
      begin left =
          let (third, corner) = corner_there corners tris fits walk w t ends n i j e c has in
          let shared = crossed_shared corners tris fits walk w n i j c in
          let I = IsInner one (length one - 2) in
          let J = IsInner other (length other - 2) in
          let passing = begin_passing corners tris fits (get_or walk (length walk - 1) 0) (last_in_list corners tris fits walk w t ends n i j e c has) i j third corner t ends.has shared (end_is_right corners tris fits walk w t ends n i j e c has) p q I J
          meet.point meet_too.point meet.rational meet_too.rational differ differ_too (on_reversed meet.point (whole p) (whole t) meet.on_first)
          meet.on_second (on_reversed meet_too.point (whole q) (whole t) meet_too.on_first) meet_too.on_second left in (
            record {
              far = i;
              own = j;
              a = length one - 2;
              b = length other - 2;
              x = meet.point;
              z = meet_too.point;
              crossed = c;
              has = has;
              next = omega arith;
              next_too = omega arith;
              passing = subst (λ (u : Point). ArePassing true corners i j u p I meet.point
                  (point_at other (length other - 2 + 1)) q J meet_too.point)
                  (sym (end_is corners tris fits walk w t ends one along long last))
                  (subst (λ (u : Point). ArePassing true corners i j t p I meet.point u q J meet_too.point)
                  (sym (end_is corners tris fits walk w t ends other along_too long_too last_too))
                  passing);
            },
            subst (IsBefore corners tris fits walk w one along (length one - 2)) (sym e)
                (before_end corners tris fits walk w t ends one along long last),
            subst (IsBefore corners tris fits walk w other along_too (length other - 2)) (sym e)
                (before_end corners tris fits walk w t ends other along_too long_too last_too),
          )

      -- which can't be, where they begin at one point
      not_left : point_at one 0 ≡ point_at other 0 → ¬ IsLeft (whole t) (whole p) (whole q)
      not_left firsts left = none_at corners tris fits walk w n true one other along along_too firsts (begin left)

      -- so on one line they come on one ray
      straight_on_ray : determinant (whole t) (whole p) (whole q) ≡ pos 0
          → On (whole q) (whole t) (whole p) ⊎ On (whole p) (whole t) (whole q)
      straight_on_ray straight =
          on_one_ray t (vertex corners i) (vertex corners j) (end_is_right corners tris fits walk w t ends n i j e c has) p q meet.point meet_too.point meet.rational meet_too.rational differ differ_too
          (on_reversed meet.point (whole p) (whole t) meet.on_first) meet.on_second
          (on_reversed meet_too.point (whole q) (whole t) meet_too.on_first) meet_too.on_second straight

    -- so they do in any case
    on_ray_over_side : (one other : List Point) (along : IsAlong corners tris fits walk w one) (along_too : IsAlong corners tris fits walk w other)
        → 2 ≤ length one → 2 ≤ length other → last_of one ≡ t → last_of other ≡ t → point_at one 0 ≡ point_at other 0
        → On (whole (before_last one)) (whole t) (whole (before_last other)) ⊎ On (whole (before_last other)) (whole t) (whole (before_last one))
    on_ray_over_side one other along along_too long long_too last last_too firsts =
        let T = whole t in
        let P = whole (before_last one) in
        let Q = whole (before_last other) in
        elim (sign (determinant T P Q)) [
          | is_positive left ↦ absurd (not_left one other along along_too long long_too last last_too firsts left)
          | is_negative right ↦
              absurd (not_left other one along_too along long_too long last_too last (sym firsts) (turned_positive (determinant_swap_last T P Q) right))
          | is_zero straight ↦ elim (straight_on_ray one other along along_too long long_too last last_too straight) [ inl on ↦ inr on | inr on ↦ inl on ]
        ]

  -- and where the walk is one triangle
  on_ray_along : (one other : List Point) (along : IsAlong corners tris fits walk w one) (along_too : IsAlong corners tris fits walk w other)
      → 2 ≤ length one → 2 ≤ length other → last_of one ≡ t → last_of other ≡ t → point_at one 0 ≡ point_at other 0
      → On (whole (before_last one)) (whole t) (whole (before_last other)) ⊎ On (whole (before_last other)) (whole t) (whole (before_last one))
  on_ray_along one other along along_too long long_too last last_too firsts = elim (cases_lt 0 (length walk - 1)) [
    | inr single ↦
        let none : length walk - 1 ≡ 0 = omega arith in
        let same : before_last one ≡ before_last other =
        only_step corners tris fits walk w t ends one along long last none ∙ firsts ∙ sym (only_step corners tris fits walk w t ends other along_too long_too last_too none) in
        inl (subst (λ (v : Point). On (whole (before_last one)) (whole t) (whole v)) same (on_last_end (whole t) (whole (before_last one))))
    | inl more ↦
        let n : ℕ = length walk - 1 - 1 in
        let (i, j, c, has) = some_crossed corners tris fits walk w n (omega arith) in
        on_ray_over_side n i j (omega arith) c has one other along along_too long long_too last last_too firsts
  ]

module _ (corners : List Point) (tris : List Tri) (fits : Fits corners tris) where
  -- a chain along a walk between its ends
  along_walk : (walk : List ℕ) (w : IsWalk tris walk) (s t : Point) → IsInTri corners (walk_tri tris walk 0) (whole s)
      → IsInTri corners (walk_tri tris walk (length walk - 1)) (whole t) → (chain : List Point) → IsBentChain corners chain → 2 ≤ length chain
      → point_at chain 0 ≡ s → last_of chain ≡ t → IsAlong corners tris fits walk w chain
  along_walk walk w s t starts ends chain bent long first last =
      let in_first = subst (λ (v : Point). IsInTri corners (walk_tri tris walk 0) (whole v)) (sym first) starts in
      record {
        is_bent = bent;
        follows = follows corners tris fits walk w chain bent long in_first
            (subst (λ (v : Point). IsInTri corners (walk_tri tris walk (length walk - 1)) (whole v)) (sym last) ends);
        starts = in_first;
      }

  -- so two chains between two points come to the last one on one ray
  pub come_on_one_ray : ComeOnOneRay corners
  come_on_one_ray one other bent bent_too long long_too firsts lasts =
      let s = point_at one 0 in
      let t = last_of one in
      let (k, within, inside) = some_triangle corners tris fits (whole s) (whole_is_point s) (bent.chain.inside 0 (omega arith)) in
      let h = front_to corners tris fits k within (whole t) (whole_is_point t) (bent.chain.inside (length one - 1) (omega arith)) in
      let starts = subst (λ n. IsInTri corners (tri_at tris n) (whole s)) (sym h.begins) inside in
      let ends : IsFirstWith corners tris h.front (whole t) (length h.front - 1) = record {
        within = omega (arith, h.is_walk.some);
        has = h.has;
        least = λ l less. h.new l (omega arith);
      } in
      on_ray_along corners tris fits h.front h.is_walk t ends one other (along_walk h.front h.is_walk s t starts h.has one bent long refl refl)
      (along_walk h.front h.is_walk s t starts h.has other bent_too long_too (sym firsts) (sym lasts)) long long_too refl (sym lasts) firsts
