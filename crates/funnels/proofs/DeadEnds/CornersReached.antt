-- Ways at a corner of a triangle of a walk: the ray to a point in sight in an earlier triangle is in the angle there, how a way comes to the
-- corner at the end of a walk, and how one leaves it at the start.
-- A walk to where a chain goes after a bend begins with the walk to the bend, and goes on over a side there.
use Rattle.std.proofs.Common.{◌≡◌, inl, inr, subst, Bool, ℕ, ◌+◌, ◌-◌, ◌≤◌, List, length, get_or, arith, ◌⊎◌, true, ◌<◌, drop, sym, ap, ◌∙◌}
use Rattle.std.proofs.Common.{◌++◌, length-append}
use Rattle.std.proofs.lemmas.Bool.{cases_lt}
use Rattle.std.proofs.lemmas.List.{length-drop, get_or-append-add, get_or_append_left}
use Rattle.std.specs.List.{range_with_len}
use Rattle.std.proofs.lemmas.Grind.{get_or_after_one}
use Rattle.plane.proofs.Lists.{in_range}
use Rattle.plane.proofs.Points.{same_whole, whole_is_point}
use Rattle.plane.proofs.Segments.{on_last_end, on_reversed, on_same_point, on_first_end}
use Rattle.plane.specs.Point.{Point, Triple, whole}
use Rattle.rings.specs.Prelude.{IsBend, Sees, vertex}
use Rattle.ring_laws.proofs.Diagonals.{AreBoth}
use Rattle.meshes.proofs.Joins.{between_back}
use Rattle.meshes.proofs.Parts.{side_in, paved}
use Rattle.meshes.proofs.Sight.{sleeve_law}
use Rattle.meshes.specs.Prelude.{Fits, HasSideBetween, IsInTri, IsWalk, IsWalkBetween, tri_at}
use Rattle.meshes.specs.declared.tri.Tri.{Tri}
use Rattle.meshes.specs.Laws.{walk_tri, CrossesSide}
use Rattle.funnels.proofs.Bends.{AreOnRay, in_angle}
use Rattle.funnels.proofs.Corners.{within_on_ray, side_at_corner, within_of_seen, at_corner, corner_of, no_bend}
use Rattle.funnels.proofs.DeadEnds.CrossedSides.{some_crossed, crossed_back}
use Rattle.funnels.proofs.DeadEnds.JoinedWalks.{joined_walks}
use Rattle.funnels.proofs.DeadEnds.WalkParts.{meets_on_part, rest_crossed, rest_in, walk_rest}
use Rattle.funnels.specs.Corner.{HasCornerOn, IsFirstWith, IsInAngle}

module _ (corners : List Point) (tris : List Tri) (fits : Fits corners tris) (walk : List ℕ) (w : IsWalk tris walk) (h : Point) (n : ℕ)
    (first : IsFirstWith corners tris walk (whole h) n) (y : Point) (differ : ¬ (y ≡ h)) (sees : Sees corners (whole y) (whole h)) where
  -- a point of the first triangle with h on the ray from h to y
  record IsOnWay (x : Triple) : Type 0 where
    inside : IsInTri corners (walk_tri tris walk n) x
    ray : AreOnRay (whole h) x (whole y)

  -- it is y itself
  itself : IsInTri corners (walk_tri tris walk n) (whole y) → IsOnWay (whole y)
  itself inside = record {
    inside = inside;
    ray = record {
      first_rational = whole_is_point y;
      last_rational = whole_is_point y;
      first_differs = λ same. differ (same_whole y h same);
      last_differs = λ same. differ (same_whole y h same);
      on_ray = inl (on_last_end (whole h) (whole y));
    };
  }

  -- or where the way from y comes into the triangle
  comes_in : (m k : ℕ) → m + 1 ≡ n → k ≤ m → IsInTri corners (walk_tri tris walk k) (whole y) → (x : Triple) × IsOnWay x
  comes_in m k e order inside =
      let (i, j, c, has) = some_crossed corners tris fits walk w m (omega (arith, first.within)) in
      let meet = meets_on_part walk k n (omega arith) first.within tris w corners fits m i j order (omega arith) c (whole y) (whole h)
      (whole_is_point y) (whole_is_point h) inside first.has sees in
      let x = meet.point in
      let all = range_with_len 0 (length corners) in
      let in_next = side_in corners all tris (paved fits) (get_or walk (m + 1) 0) i j (w.in_list (m + 1) c.has_next) c.of_next x
      meet.rational meet.on_second in (
        x,
        record {
          inside = subst (λ l. IsInTri corners (walk_tri tris walk l) x) e in_next;
          ray = record {
            first_rational = meet.rational;
            last_rational = whole_is_point y;
            first_differs = λ same. first.least m (omega arith)
                (side_in corners all tris (paved fits) (get_or walk m 0) i j (w.in_list m (omega (arith, c.has_next))) c.of_this (whole h)
                (whole_is_point h) (on_same_point meet.rational same meet.on_second));
            last_differs = λ same. differ (same_whole y h same);
            on_ray = inl (on_reversed x (whole y) (whole h) meet.on_first);
          };
        },
      )

  on_way : (k : ℕ) → k ≤ n → IsInTri corners (walk_tri tris walk k) (whole y) → (x : Triple) × IsOnWay x
  on_way k order inside = elim (cases_lt k n) [
    | inl before ↦ comes_in (n - 1) k (omega arith) (omega arith) inside
    | inr here ↦ let same : k ≡ n = omega arith in
        (whole y, itself (subst (λ l. IsInTri corners (walk_tri tris walk l) (whole y)) same inside))
  ]

  -- so the ray to y is in the angle at h
  pub within_before : (k : ℕ) → k ≤ n → IsInTri corners (walk_tri tris walk k) (whole y) → (side : Bool) (before v after : ℕ)
      → HasCornerOn side (walk_tri tris walk n) before v after → h ≡ vertex corners v → IsInAngle side corners before v after (whole y)
  within_before k order inside side before v after corner is =
      let (x, way) = on_way k order inside in
      within_on_ray side corners before v after x (whole y) (subst (λ (p : Point). AreOnRay (whole p) x (whole y)) is way.ray)
      (in_angle corners tris fits (get_or walk n 0) (w.in_list n first.within) side before v after corner x way.inside)

-- ---- how a way comes to a corner of a triangle at the end of a walk, and how one leaves it at the start of a walk

module _ (corners : List Point) (tris : List Tri) (fits : Fits corners tris) where
  -- the ends of a side are in the triangle: the first,
  pub first_in : (k i j : ℕ) → k < length tris → HasSideBetween (tri_at tris k) i j → IsInTri corners (tri_at tris k) (whole (vertex corners i))
  first_in k i j within has =
      side_in corners (range_with_len 0 (length corners)) tris (paved fits) k i j within has (whole (vertex corners i))
      (whole_is_point (vertex corners i)) (on_first_end (whole (vertex corners i)) (whole (vertex corners j)))

  -- and the last
  pub last_in : (k i j : ℕ) → k < length tris → HasSideBetween (tri_at tris k) i j → IsInTri corners (tri_at tris k) (whole (vertex corners j))
  last_in k i j within has = first_in k j i within (between_back has)

  module _ (walk : List ℕ) (w : IsWalk tris walk) (before v after : ℕ) (y : Point) (differs : ¬ (y ≡ vertex corners v)) where
    -- over the side opposite to corner v of the first triangle, a point that v sees is within the angle there,
    departs_over : HasCornerOn true (walk_tri tris walk 0) before v after → Sees corners (whole (vertex corners v)) (whole y)
        → IsInTri corners (walk_tri tris walk (length walk - 1)) (whole y) → (i j : ℕ) → CrossesSide tris walk 0 i j → AreBoth after before i j
        → IsInAngle true corners before v after (whole y)
    departs_over corner sees last i j c ends =
        let V = vertex corners v in
        let in_list = w.in_list 0 w.some in
        let first = first_in (get_or walk 0 0) v after in_list (inl corner.1) in
        let meet = (sleeve_law corners tris fits walk w (whole V) (whole y) (whole_is_point V) (whole_is_point y) first last).0 sees 0 i j c in
        within_of_seen corners tris fits (get_or walk 0 0) before v after in_list corner y differs meet.point meet.rational meet.on_first i j ends
        meet.on_second

    -- so a point in the last triangle that v sees is within the angle, or the walk leaves the first triangle over a side at v
    pub departs : HasCornerOn true (walk_tri tris walk 0) before v after → Sees corners (whole (vertex corners v)) (whole y)
        → IsInTri corners (walk_tri tris walk (length walk - 1)) (whole y)
        → IsInAngle true corners before v after (whole y) ⊎ ((j : ℕ) × CrossesSide tris walk 0 v j)
    departs corner sees last = elim (cases_lt 1 (length walk)) [
      | inl long ↦
          let share = w.sharing 0 long in
          let c : CrossesSide tris walk 0 share.i share.j = record { has_next = long; of_this = inl share.of_first; of_next = share.of_second } in
          elim (side_at_corner corners tris fits (get_or walk 0 0) before v after (w.in_list 0 w.some) corner share.i share.j (inl share.of_first)) [
            | inl e ↦ inr (share.j, subst (λ n. CrossesSide tris walk 0 n share.j) e c)
            | inr other ↦ elim other [
              | inl e ↦ inr (share.i, subst (λ n. CrossesSide tris walk 0 n share.i) e (crossed_back corners tris fits walk w 0 share.i share.j c))
              | inr ends ↦ inl (departs_over corner sees last share.i share.j c ends)
            ]
          ]
      | inr short ↦
          let place : length walk - 1 ≡ 0 = omega arith in
          inl (in_angle corners tris fits (get_or walk 0 0) (w.in_list 0 w.some) true before v after corner (whole y)
          (subst (λ m. IsInTri corners (walk_tri tris walk m) (whole y)) place last))
    ]

    module _ (corner : HasCornerOn true (walk_tri tris walk (length walk - 1)) before v after) (sees : Sees corners (whole y) (whole (vertex corners v))) where
      -- over the side opposite to corner v of the last triangle, a point that sees v is within the angle there
      arrives_over : (m : ℕ) → m + 1 < length walk → IsInTri corners (walk_tri tris walk m) (whole y) → (l i j : ℕ) → l + 2 ≡ length walk
          → CrossesSide tris walk l i j → AreBoth after before i j → IsInAngle true corners before v after (whole y)
      arrives_over m within inside l i j place c ends =
          let V = vertex corners v in
          let e : ℕ = get_or walk (length walk - 1) 0 in
          let in_list = w.in_list (length walk - 1) (omega arith) in
          let rest = drop m walk in
          let long = length-drop m walk in
          let here : m ≡ m + 0 = omega arith in
          let there : length walk - 1 ≡ m + (length rest - 1) = omega (arith, long) in
          let before_last : l ≡ m + (length rest - 2) = omega (arith, long) in
          let is_walk = walk_rest tris walk w m (omega arith) in
          let first = rest_in corners tris walk m (whole y) 0 (subst (λ n. IsInTri corners (walk_tri tris walk n) (whole y)) here inside) in
          let at_V = first_in e v after in_list (inl corner.1) in
          let last = rest_in corners tris walk m (whole V) (length rest - 1) (subst (λ n. IsInTri corners (walk_tri tris walk n) (whole V)) there at_V) in
          let crossed = rest_crossed corners tris walk m (length rest - 2) i j (subst (λ n. CrossesSide tris walk n i j) before_last c) in
          let meet = (sleeve_law corners tris fits rest is_walk (whole y) (whole V) (whole_is_point y) (whole_is_point V) first last).0 sees (length rest - 2) i j crossed in
          within_of_seen corners tris fits e before v after in_list corner y differs meet.point meet.rational
          (on_reversed meet.point (whole y) (whole V) meet.on_first) i j ends meet.on_second

      module _ (new : (l : ℕ) → l + 1 < length walk → ¬ IsInTri corners (walk_tri tris walk l) (whole (vertex corners v))) where
        -- the walk comes to its last triangle over the side opposite to v, where no earlier triangle has v,
        comes_opposite : (l i j : ℕ) → l + 2 ≡ length walk → CrossesSide tris walk l i j → AreBoth after before i j
        comes_opposite l i j place c =
            let e : ℕ = get_or walk (length walk - 1) 0 in
            let last : l + 1 ≡ length walk - 1 = omega arith in
            let in_l = w.in_list l (omega arith) in
            let side = subst (λ n. HasSideBetween (walk_tri tris walk n) i j) last c.of_next in
            let none = λ (x : ℕ) (is : x ≡ v) (h : IsInTri corners (walk_tri tris walk l) (whole (vertex corners x))).
            new l (omega arith) (subst (λ n. IsInTri corners (walk_tri tris walk l) (whole (vertex corners n))) is h) in
            elim (side_at_corner corners tris fits e before v after (w.in_list (length walk - 1) (omega arith)) corner i j side) [
              | inl at ↦ absurd (none i at (first_in (get_or walk l 0) i j in_l c.of_this))
              | inr other ↦ elim other [
                | inl at ↦ absurd (none j at (last_in (get_or walk l 0) i j in_l c.of_this))
                | inr ends ↦ ends
              ]
            ]

        -- so a point in a triangle of the walk that sees v is within the angle at v
        pub arrives : (m : ℕ) → m < length walk → IsInTri corners (walk_tri tris walk m) (whole y) → IsInAngle true corners before v after (whole y)
        arrives m within inside = elim (cases_lt (m + 1) (length walk)) [
          | inr at_end ↦
              let place : m ≡ length walk - 1 = omega arith in
              in_angle corners tris fits (get_or walk (length walk - 1) 0)
              (w.in_list (length walk - 1) (omega arith)) true before v after corner (whole y)
              (subst (λ n. IsInTri corners (walk_tri tris walk n) (whole y)) place inside)
          | inl earlier ↦
              let l : ℕ = length walk - 2 in
              let next : l + 1 < length walk = omega arith in
              let share = w.sharing l next in
              let c : CrossesSide tris walk l share.i share.j = record { has_next = next; of_this = inl share.of_first; of_next = share.of_second } in
              arrives_over m earlier inside l share.i share.j (omega arith) c (comes_opposite l share.i share.j (omega arith) c)
        ]

-- the walk begins with this front, and then crosses a side at v
pub record GoesOnAt (tris : List Tri) (front walk : List ℕ) (v : ℕ) : Type 0 where
  pub longer : length front < length walk
  pub alike : (l : ℕ) → l < length front → get_or walk l 0 ≡ get_or front l 0
  pub over : ℕ
  pub crosses : CrossesSide tris walk (length front - 1) v over

-- so it is with two walks together, where the second one begins so at the last triangle of the first
goes_on_at : (tris : List Tri) (front back walk : List ℕ) (v j : ℕ) → IsWalk tris front → get_or back 0 0 ≡ get_or front (length front - 1) 0
    → walk ≡ front ++ drop 1 back → CrossesSide tris back 0 v j → GoesOnAt tris front walk v
goes_on_at tris front back walk v j f joint together c =
    let rest = drop 1 back in
    let n : ℕ = length front in
    let some = f.some in
    let at_end : n - 1 < n = omega arith in
    let long : length walk ≡ n + (length back - 1) = ap length together ∙ length-append front rest ∙ ap (λ k. n + k) (length-drop 1 back) in
    let begins = λ (l : ℕ) (h : l < n). ap (λ xs. get_or xs l 0) together ∙ get_or_append_left front rest 0 l h in
    let next_place : n - 1 + 1 ≡ n + 0 = omega arith in
    let next : get_or walk (n - 1 + 1) 0 ≡ get_or back 1 0 =
    ap (λ l. get_or walk l 0) next_place ∙ ap (λ xs. get_or xs (n + 0) 0) together ∙ get_or-append-add front rest 0 0 ∙ get_or_after_one back 0 0 in
    record {
      longer = omega (arith, long, c.has_next);
      alike = begins;
      over = j;
      crosses = record {
        has_next = omega (arith, long, c.has_next);
        of_this = subst (λ k. HasSideBetween (tri_at tris k) v j) (joint ∙ sym (begins (n - 1) at_end)) c.of_this;
        of_next = subst (λ k. HasSideBetween (tri_at tris k) v j) (sym next) c.of_next;
      };
    }

module _ (corners : List Point) (tris : List Tri) (fits : Fits corners tris) (front : List ℕ) (f : IsWalk tris front) (v : ℕ) (in_ring : v < length corners)
    (has : IsInTri corners (walk_tri tris front (length front - 1)) (whole (vertex corners v)))
    (new : (l : ℕ) → l + 1 < length front → ¬ IsInTri corners (walk_tri tris front l) (whole (vertex corners v))) where
  -- a walk from the last triangle that leaves over a side at v does not turn back
  not_back : (back : List ℕ) → IsWalk tris back → (j : ℕ) → CrossesSide tris back 0 v j
      → 1 < length front → 1 < length back → ¬ (get_or front (length front - 2) 0 ≡ get_or back 1 0)
  not_back back w j c long more same =
      let inside = first_in corners tris fits (get_or back 1 0) v j (w.in_list 1 more) c.of_next in
      new (length front - 2) (omega arith) (subst (λ k. IsInTri corners (tri_at tris k) (whole (vertex corners v))) (sym same) inside)

  module _ (p q : Point) (bend : IsBend corners p (vertex corners v) q) (p_differs : ¬ (p ≡ vertex corners v)) (q_differs : ¬ (q ≡ vertex corners v))
      (comes : Sees corners (whole p) (whole (vertex corners v))) (goes : Sees corners (whole (vertex corners v)) (whole q))
      (m : ℕ) (within : m < length front) (in_p : IsInTri corners (walk_tri tris front m) (whole p)) where
    module _ (before after : ℕ) (corner : HasCornerOn true (walk_tri tris front (length front - 1)) before v after) (walk : List ℕ) (w : IsWalk tris walk)
        (first : get_or walk 0 0 ≡ get_or front 0 0) (in_q : IsInTri corners (walk_tri tris walk (length walk - 1)) (whole q)) where
      -- along the walk from the last triangle, at its corner v,
      passes_along : (back : List ℕ) → IsWalkBetween tris (get_or front (length front - 1) 0) (get_or walk (length walk - 1) 0) back
          → GoesOnAt tris front walk v
      passes_along back b =
          let e : ℕ = get_or front (length front - 1) 0 in
          let some = f.some in
          let e_in = f.in_list (length front - 1) (omega arith) in
          let at = subst (λ n. HasCornerOn true (tri_at tris n) before v after) (sym b.first) corner in
          let last = subst (λ n. IsInTri corners (tri_at tris n) (whole q)) (sym b.last) in_q in
          elim (departs corners tris fits back b.is_walk before v after q q_differs at goes last) [
            | inl inside ↦
                absurd (no_bend corners tris fits e before v after e_in corner p q
                (arrives corners tris fits front f before v after p p_differs corner comes new m within in_p) inside bend)
            | inr (j, c) ↦
                goes_on_at tris front back walk v j f b.first
                (joined_walks tris fits.tree front back walk f b.is_walk w first b.first (sym b.last) (not_back back b.is_walk j c)) c
          ]

      -- which there is
      passes_at : GoesOnAt tris front walk v
      passes_at =
          let some = f.some in
          let more = w.some in
          let one = fits.tree (get_or front (length front - 1) 0) (get_or walk (length walk - 1) 0) (f.in_list (length front - 1) (omega arith))
          (w.in_list (length walk - 1) (omega arith)) in
          passes_along one.walk one.between

    -- so a walk to the point after the bend goes on there
    pub passes : (walk : List ℕ) → IsWalk tris walk → get_or walk 0 0 ≡ get_or front 0 0
        → IsInTri corners (walk_tri tris walk (length walk - 1)) (whole q) → GoesOnAt tris front walk v
    passes =
        let e : ℕ = get_or front (length front - 1) 0 in
        let some = f.some in
        let e_in = f.in_list (length front - 1) (omega arith) in
        let at = at_corner (tri_at tris e) v
        (corner_of corners (range_with_len 0 (length corners)) tris fits e v e_in (in_range (length corners) v in_ring) has) in
        passes_at at.before at.after at.sides
