-- The first points of a chain along a walk of triangles, and one more.
-- A chain with bends in a ring that triangles fit does not end where it begins, unless it is a single point.
-- A chain with bends follows each walk of triangles from a triangle with its first point to one with its last: it enters no dead end.
use Rattle.std.proofs.Common.{◌≡◌, ◌⊎◌, inl, inr, refl, sym, subst, ap, ◌∙◌, ℕ, suc, ◌+◌, ◌-◌, ◌<◌, ◌≤◌, List, length, arith, zero, get_or}
use Rattle.std.proofs.Common.{take, [], ◌∷◌}
use Rattle.std.proofs.lemmas.Bool.{cases_lt}
use Rattle.std.proofs.lemmas.List.{get_or-take, length-take-le}
use Rattle.plane.proofs.Points.{whole_is_point}
use Rattle.plane.specs.Point.{Point, whole}
use Rattle.rings.specs.Prelude.{IsBentChain, point_at, vertex}
use Rattle.meshes.specs.Prelude.{Fits, HasCorner, HasSideBetween, IsInTri, IsWalk, tri_at}
use Rattle.meshes.specs.declared.tri.Tri.{Tri}
use Rattle.meshes.specs.Laws.{CrossesSide, walk_tri}
use Rattle.funnels.proofs.Corners.{side_corners}
use Rattle.funnels.proofs.DeadEnds.ChainBends.{IsBentAt, IsFrontTo, bent_at, front_to, some_triangle}
use Rattle.funnels.proofs.DeadEnds.CornersReached.{GoesOnAt, passes}
use Rattle.funnels.proofs.DeadEnds.WalkParts.{alike_crossed, alike_first, first_with, one_first, walk_front}
use Rattle.funnels.specs.Corner.{IsFirstWith, FollowsWalk}
use Rattle.funnels.specs.OneChain.{DeadEndLaw, IsCornerOf}

-- ---- one more place

-- the one or the other, by the order of a and n
choose : (a n x y : ℕ) → (a < n) ⊎ (n ≤ a) → ℕ
choose a n x y (inl h) = x
choose a n x y (inr h) = y

-- it is the one where a is less,
choose_one : (a n x y : ℕ) (c : (a < n) ⊎ (n ≤ a)) → a < n → choose a n x y c ≡ x
unfolding choose
choose_one a n x y (inl h) less = refl
choose_one a n x y (inr h) less = absurd (omega arith)

-- and the other where it is not
choose_other : (a n x y : ℕ) (c : (a < n) ⊎ (n ≤ a)) → n ≤ a → choose a n x y c ≡ y
unfolding choose
choose_other a n x y (inl h) more = absurd (omega arith)
choose_other a n x y (inr h) more = refl

-- as f below n, and x from there on
continued : (ℕ → ℕ) → ℕ → ℕ → ℕ → ℕ
continued f n x a = choose a n (f a) x (cases_lt a n)

-- as f below n
as_before : (f : ℕ → ℕ) (n x a : ℕ) → a < n → continued f n x a ≡ f a
unfolding continued
as_before f n x a h = choose_one a n (f a) x (cases_lt a n) h

-- and x at n
as_next : (f : ℕ → ℕ) (n x a : ℕ) → n ≡ a → continued f n x a ≡ x
unfolding continued
as_next f n x a e = choose_other a n (f a) x (cases_lt a n) (omega arith)

-- ---- a chain along a walk

-- the first `count` points of the chain go along the walk in order
pub record FollowsTo (corners : List Point) (tris : List Tri) (walk : List ℕ) (chain : List Point) (count : ℕ) : Type 0 where
  pub place : ℕ → ℕ
  pub first : (a : ℕ) → 0 < a → a < count → IsFirstWith corners tris walk (whole (point_at chain a)) (place a)
  pub rises : (a : ℕ) → 0 < a → a + 1 < count → place a < place (a + 1)
  pub leaves : (a : ℕ) → 0 < a → a + 1 < count → (i : ℕ) × (j : ℕ) × CrossesSide tris walk (place a) i j × (point_at chain a ≡ vertex corners i)

module _ (corners : List Point) (tris : List Tri) (chain : List Point) (walk front : List ℕ) (n i : ℕ) (t : FollowsTo corners tris front chain (suc (suc n)))
    (on : GoesOnAt tris front walk i) (is : point_at chain (suc n) ≡ vertex corners i) (at_end : t.place (suc n) ≡ length front - 1) (m : ℕ)
    (f : IsFirstWith corners tris walk (whole (point_at chain (suc (suc n)))) m) (past : length front - 1 < m) where
  -- the places with one more are first,
  more_first : (a : ℕ) → 0 < a → a < suc (suc (suc n)) → IsFirstWith corners tris walk (whole (point_at chain a)) (continued t.place (suc (suc n)) m a)
  more_first a some h = elim (cases_lt a (suc (suc n))) [
    | inl less ↦
        subst (IsFirstWith corners tris walk (whole (point_at chain a))) (sym (as_before t.place (suc (suc n)) m a less))
        (alike_first corners tris front walk (omega (arith, on.longer)) on.alike (whole (point_at chain a)) (t.place a) (t.first a some less))
    | inr more ↦
        let last : suc (suc n) ≡ a = omega arith in
        subst (IsFirstWith corners tris walk (whole (point_at chain a))) (sym (as_next t.place (suc (suc n)) m a last))
        (subst (λ b. IsFirstWith corners tris walk (whole (point_at chain b)) m) last f)
  ]

  -- rise,
  more_rises : (a : ℕ) → 0 < a → a + 1 < suc (suc (suc n)) → continued t.place (suc (suc n)) m a < continued t.place (suc (suc n)) m (a + 1)
  more_rises a some h =
      let here = as_before t.place (suc (suc n)) m a (omega arith) in
      elim (cases_lt (a + 1) (suc (suc n))) [
        | inl less ↦ let next = as_before t.place (suc (suc n)) m (a + 1) less in omega (arith, t.rises a some less)
        | inr more ↦
            let next = as_next t.place (suc (suc n)) m (a + 1) (omega arith) in
            let last : suc n ≡ a = omega arith in
            let place : t.place (suc n) ≡ t.place a = ap t.place last in
            omega arith
      ]

  -- and the walk leaves over a side at each inner point,
  more_leaves : (a : ℕ) → 0 < a → a + 1 < suc (suc (suc n))
      → (x : ℕ) × (y : ℕ) × CrossesSide tris walk (continued t.place (suc (suc n)) m a) x y × (point_at chain a ≡ vertex corners x)
  more_leaves a some h =
      let here = as_before t.place (suc (suc n)) m a (omega arith) in
      elim (cases_lt (a + 1) (suc (suc n))) [
        | inl less ↦
            let (x, y, c, e) = t.leaves a some less in (
              x,
              y,
              subst (λ l. CrossesSide tris walk l x y) (sym here)
                  (alike_crossed corners tris front walk (omega (arith, on.longer)) on.alike (t.place a) x y c),
              e,
            )
        | inr more ↦
            let last : suc n ≡ a = omega arith in
            let place : length front - 1 ≡ continued t.place (suc (suc n)) m a = sym at_end ∙ ap t.place last ∙ sym here in
            (i, on.over, subst (λ l. CrossesSide tris walk l i on.over) place on.crosses, subst (λ b. point_at chain b ≡ vertex corners i) last is)
      ]

  -- so one more point goes along
  pub one_more : FollowsTo corners tris walk chain (suc (suc (suc n)))
  one_more = record { place = continued t.place (suc (suc n)) m; first = more_first; rises = more_rises; leaves = more_leaves }

module _ (corners : List Point) (tris : List Tri) (fits : Fits corners tris) (chain : List Point) (bent : IsBentChain corners chain) where
  -- the last point of two on a walk
  two_points : (walk : List ℕ) → IsWalk tris walk → IsInTri corners (walk_tri tris walk (length walk - 1)) (whole (point_at chain 1))
      → FollowsTo corners tris walk chain 2
  two_points walk w in_last =
      let some = w.some in
      let (m, f) = first_with corners tris walk (whole (point_at chain 1)) (length walk - 1) (omega arith) in_last in
      record {
        place = λ a. m;
        first = λ a least most.
            let last : 1 ≡ a = omega arith in subst (λ b. IsFirstWith corners tris walk (whole (point_at chain b)) m) last f;
        rises = λ a least most. absurd (omega arith);
        leaves = λ a least most. absurd (omega arith);
      }

  -- the point before the last is in a triangle of the walk to that
  point_before : (n : ℕ) (front : List ℕ) → 0 < length front → IsInTri corners (walk_tri tris front 0) (whole (point_at chain 0))
      → FollowsTo corners tris front chain (suc (suc n)) → (m : ℕ) × (m < length front) × IsInTri corners (walk_tri tris front m) (whole (point_at chain n))
  point_before zero front some in_first t = (0, some, in_first)
  point_before (suc n) front some in_first t = let f = t.first (suc n) (omega arith) (omega arith) in (t.place (suc n), f.within, f.has)

  -- a walk to the next point passes the bend, and has the point after it alone
  next_past : (front : List ℕ) (i : ℕ) (q : Point)
      → ((walk : List ℕ) → IsWalk tris walk → get_or walk 0 0 ≡ get_or front 0 0 → IsInTri corners (walk_tri tris walk (length walk - 1)) (whole q)
      → GoesOnAt tris front walk i) → IsWalk tris front → (walk : List ℕ) → IsWalk tris walk → get_or walk 0 0 ≡ get_or front 0 0 → (m : ℕ)
      → IsFirstWith corners tris walk (whole q) m → length front - 1 < m
  next_past front i q goes v walk w begins m f = elim (cases_lt (length front - 1) m) [
    | inl past ↦ past
    | inr early ↦
        let within = f.within in
        let some = v.some in
        let part = take (m + 1) walk in
        let long : length part ≡ m + 1 = length-take-le (m + 1) walk (omega arith) in
        let at = λ (l : ℕ) (less : l < m + 1). get_or-take (m + 1) walk l 0 less in
        let place : m ≡ length part - 1 = omega arith in
        let found = subst (λ k. IsInTri corners (tri_at tris k) (whole q)) (sym (at m (omega arith))) f.has in
        let on = goes part (walk_front tris walk w (m + 1) (omega arith) (omega arith)) (at 0 (omega arith) ∙ begins)
        (subst (λ l. IsInTri corners (walk_tri tris part l) (whole q)) place found) in
        absurd (omega (arith, on.longer))
  ]

  -- the triangle with the last point of the front is its last
  last_place : (h n : ℕ) → (fr : IsFrontTo corners tris h (whole (point_at chain (suc n)))) → (t : FollowsTo corners tris fr.front chain (suc (suc n)))
      → t.place (suc n) ≡ length fr.front - 1
  last_place h n fr t =
      let some = fr.is_walk.some in
      one_first corners tris fr.front (whole (point_at chain (suc n))) (t.place (suc n)) (length fr.front - 1) (t.first (suc n) (omega arith) (omega arith))
      (record { within = omega arith; has = fr.has; least = λ l less. fr.new l (omega arith) })

  -- where the points up to a bend go along the walk to that, the next one goes along each walk to it
  bend_passed : (n : ℕ) → suc (suc n) < length chain → (walk : List ℕ) → IsWalk tris walk
      → IsInTri corners (walk_tri tris walk (length walk - 1)) (whole (point_at chain (suc (suc n))))
      → (fr : IsFrontTo corners tris (get_or walk 0 0) (whole (point_at chain (suc n)))) → IsInTri corners (walk_tri tris fr.front 0) (whole (point_at chain 0))
      → FollowsTo corners tris fr.front chain (suc (suc n)) → FollowsTo corners tris walk chain (suc (suc (suc n)))
  bend_passed n h walk w in_last fr start t =
      let p = point_at chain n in
      let v = point_at chain (suc n) in
      let q = point_at chain (suc (suc n)) in
      let some = w.some in
      let bend = bent_at corners chain bent n h in
      let r = bend.bend.reflex in
      let b = subst (λ x. IsBentAt corners p x q) (sym r.is_vertex) bend in
      let has = subst (λ (x : Point). IsInTri corners (walk_tri tris fr.front (length fr.front - 1)) (whole x)) (sym r.is_vertex) fr.has in
      let new = λ (l : ℕ) (less : l + 1 < length fr.front) (inside : IsInTri corners (walk_tri tris fr.front l) (whole (vertex corners r.i))).
      fr.new l less (subst (λ (x : Point). IsInTri corners (walk_tri tris fr.front l) (whole x)) r.is_vertex inside) in
      let (m, within, in_p) = point_before n fr.front fr.is_walk.some start t in
      let goes = passes corners tris fits fr.front fr.is_walk r.i r.in_ring has new p q b.bend b.p_differs b.q_differs b.comes b.goes m within in_p in
      let (k, f) = first_with corners tris walk (whole q) (length walk - 1) (omega arith) in_last in
      one_more corners tris chain walk fr.front n r.i t (goes walk w (sym fr.begins) in_last) (sym r.is_vertex) (last_place (get_or walk 0 0) n fr t) k f
      (next_past fr.front r.i q goes fr.is_walk walk w (sym fr.begins) k f)

  -- so the points up to each one go along the walks to it
  follows_to : (n : ℕ) → suc n < length chain → (walk : List ℕ) → IsWalk tris walk → IsInTri corners (walk_tri tris walk 0) (whole (point_at chain 0))
      → IsInTri corners (walk_tri tris walk (length walk - 1)) (whole (point_at chain (suc n))) → FollowsTo corners tris walk chain (suc (suc n))
  follows_to zero h walk w in_first in_last = two_points walk w in_last
  follows_to (suc n) h walk w in_first in_last =
      let v = point_at chain (suc n) in
      let fr = front_to corners tris fits (get_or walk 0 0) (w.in_list 0 w.some) (whole v) (whole_is_point v) (bent.chain.inside (suc n) (omega arith)) in
      let start = subst (λ k. IsInTri corners (tri_at tris k) (whole (point_at chain 0))) (sym fr.begins) in_first in
      bend_passed n h walk w in_last fr start (follows_to n (omega arith) fr.front fr.is_walk start fr.has)

-- the whole chain follows the walk
pub follows : (corners : List Point) (tris : List Tri) → Fits corners tris → (walk : List ℕ) → IsWalk tris walk → (chain : List Point) → IsBentChain corners chain
    → 2 ≤ length chain → IsInTri corners (walk_tri tris walk 0) (whole (point_at chain 0))
    → IsInTri corners (walk_tri tris walk (length walk - 1)) (whole (point_at chain (length chain - 1))) → FollowsWalk corners tris walk chain
follows corners tris fits walk w chain bent long in_first in_last =
    let last : length chain - 1 ≡ suc (length chain - 2) = omega arith in
    let at_last = subst (λ k. IsInTri corners (walk_tri tris walk (length walk - 1)) (whole (point_at chain k))) last in_last in
    let t = follows_to corners tris fits chain bent (length chain - 2) (omega arith) walk w in_first at_last in
    record {
      place = t.place;
      first = λ a some h. t.first a some (omega arith);
      rises = λ a some h. t.rises a some (omega arith);
      leaves = λ a inner. t.leaves a inner.not_first (omega (arith, inner.not_last));
    }

-- a corner by its number is one by its point
corner_by_number : (corners : List Point) (t : Tri) (i : ℕ) (v : Point) → v ≡ vertex corners i → HasCorner t i → IsCornerOf corners t v
corner_by_number corners t i v is (inl e) = inl (ap (vertex corners) e ∙ sym is)
corner_by_number corners t i v is (inr (inl e)) = inr (inl (ap (vertex corners) e ∙ sym is))
corner_by_number corners t i v is (inr (inr e)) = inr (inr (ap (vertex corners) e ∙ sym is))

-- the first end of a side is a corner
corner_between : (t : Tri) (i j : ℕ) → HasSideBetween t i j → HasCorner t i
corner_between t i j (inl s) = (side_corners t i j s).0
corner_between t i j (inr s) = (side_corners t j i s).1

-- so its inner points are corners of triangles of the walk
pub dead_ends : DeadEndLaw
dead_ends corners tris fits walk w chain bent in_first in_last k inner =
    let t = follows corners tris fits walk w chain bent (omega (arith, inner.not_first, inner.not_last)) in_first in_last in
    let (i, j, c, is) = t.leaves k inner in (
      t.place k,
      omega (arith, c.has_next),
      corner_by_number corners (walk_tri tris walk (t.place k)) i (point_at chain k) is (corner_between (walk_tri tris walk (t.place k)) i j c.of_this),
    )

-- one triangle is a walk
single_walk : (tris : List Tri) (k : ℕ) → k < length tris → IsWalk tris (k ∷ [])
single_walk tris k h = record {
  some = omega arith;
  in_list = λ i less. let first : 0 ≡ i = omega arith in subst (λ l. get_or (k ∷ []) l 0 < length tris) first h;
  once = λ i j less more same. omega arith;
  sharing = λ i less. absurd (omega arith);
}

-- a chain of three points or more has no place for them in one triangle
too_long : (corners : List Point) (tris : List Tri) (k : ℕ) (chain : List Point) → FollowsWalk corners tris (k ∷ []) chain → ¬ (2 < length chain)
too_long corners tris k chain t long =
    let n : ℕ = length chain - 2 in
    let rise = t.rises n (omega arith) (omega arith) in
    let last = (t.first (n + 1) (omega arith) (omega arith)).within in
    omega arith

module _ (corners : List Point) (tris : List Tri) (fits : Fits corners tris) (chain : List Point) (bent : IsBentChain corners chain)
    (closed : point_at chain 0 ≡ point_at chain (length chain - 1)) where
  -- a closed chain has at most two points,
  not_long : 2 ≤ length chain → ¬ (2 < length chain)
  not_long two =
      let s = point_at chain 0 in
      let (k, within, inside) = some_triangle corners tris fits (whole s) (whole_is_point s) (bent.chain.inside 0 bent.chain.some) in
      let last = subst (λ (x : Point). IsInTri corners (tri_at tris k) (whole x)) closed inside in
      too_long corners tris k chain (follows corners tris fits (k ∷ []) (single_walk tris k within) chain bent two inside last)

  -- and not two
  not_two : ¬ (2 ≡ length chain)
  not_two is =
      let place : length chain - 1 ≡ 1 = omega arith in
      bent.chain.distinct 0 (omega arith) (closed ∙ ap (point_at chain) place)

  -- so it is one point
  pub closed_chain : length chain ≡ 1
  closed_chain = elim (cases_lt 1 (length chain)) [
    | inl two ↦ elim (cases_lt 2 (length chain)) [
      | inl long ↦ absurd (not_long two long)
      | inr short ↦ absurd (not_two (omega arith))
    ]
    | inr short ↦ omega (arith, bent.chain.some)
  ]
