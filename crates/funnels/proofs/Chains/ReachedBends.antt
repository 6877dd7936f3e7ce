-- The bend on the way to a point that is reached from a place of a funnel off its apex, where the place is no end.
-- The way to a point beyond the diagonal bends at the point of the funnel from which it is reached, be that the apex or not.
-- The step from an open funnel to the next, over one of the two sides from the corner beyond the diagonal: the point of the funnel that
-- the corner is reached from sees it, and the way there bends at that point.
use Rattle.std.proofs.Common.{◌≡◌, inl, inr, true, false, refl, ap, List, length, ℕ, ◌+◌, ◌-◌, ◌<◌, arith, ◌⊎◌, Bool, sym, subst, pos, ◌<ℤ◌}
use Rattle.std.proofs.Common.{◌≤ℤ◌, [], ◌∷◌, ◌++◌, drop, take, min}
use Rattle.std.proofs.lemmas.Bool.{cases_lt}
use Rattle.integer_algebra.proofs.SignSteps.{at_least_unless, at_most_unless, opposite_not_positive, turned_not_negative}
use Rattle.plane.proofs.Points.{whole_is_point}
use Rattle.plane.proofs.Turns.{determinant_swap_first}
use Rattle.plane.specs.Prelude.{height_over, On, Point, whole}
use Rattle.rings.specs.Prelude.{IsBend, point_at, Sees, vertex}
use Rattle.meshes.proofs.Sight.{triangle_in_ring}
use Rattle.meshes.specs.Prelude.{Fits, HasSide, IsInTri, tri_at}
use Rattle.meshes.specs.declared.tri.Tri.{Tri}
use Rattle.funnels.proofs.Bends.{wider_bend, last_end_in}
use Rattle.funnels.proofs.Chains.ApexTurns.{back_of_left, back_of_right, behind_left, behind_right, not_ahead_of_left, not_behind_right}
use Rattle.funnels.proofs.Chains.ApexTurns.{TurnsBack}
use Rattle.funnels.proofs.Chains.BentLeft.{bent_left}
use Rattle.funnels.proofs.Chains.BentRight.{bent_right}
use Rattle.funnels.proofs.Chains.WindowSight.{is_behind, sees_reached, sight_left, sight_right}
use Rattle.funnels.proofs.Chains.Ends.{bend_goes_on, bend_from_fan, corner_beyond, corner_differs, ends_left, ends_right}
use Rattle.funnels.proofs.Chains.WaysBefore.{IsWayBefore}
use Rattle.funnels.proofs.Funnels.{window_of_reached, left_of_way, right_of_way, by_points, turns_left, turns_right, funnel_left}
use Rattle.funnels.proofs.Funnels.{funnel_right}
use Rattle.funnels.proofs.Vertices.{IsSharedSide, shared_side_back}
use Rattle.funnels.specs.Fanned.{turning}
use Rattle.funnels.specs.Funnel.{IsFunnel, IsReachedFrom, Reaches}
use Rattle.funnels.specs.OpenFunnel.{IsBentFunnel, HasOpenEnds, IsApexSide, IsLastOf, IsOpenFunnel, left_behind, right_behind}

module _ (ring before ns : List Point) (a : ℕ) (l r : Point) (f : IsFunnel ns a l r) (bent : IsBentFunnel ring before ns a) (h : ℕ)
    (y : Point) (reached : IsReachedFrom ns a h (whole y)) where
  -- there is a bend, on the left chain,
  pub bend_on_left : h < a → 0 < h → IsBend ring (point_at ns (h + 1)) (point_at ns h) y
  bend_on_left on_left some =
      let x = point_at ns (h + 1) in
      let v = point_at ns h in
      let z = point_at ns (h - 1) in
      wider_bend true ring x v z y (bent.left_bends h some on_left)
      (back_of_left x v z (f.left_turns h some on_left)) (back_of_left x v y (left_of_way ns a l r f h (whole y) reached on_left))
      (at_most_unless ((window_of_reached ns a h (whole y) reached).not_left v z some (inl (omega arith, refl, refl))))

  -- and on the right one
  pub bend_on_right : a < h → h + 1 < length ns → IsBend ring (point_at ns (h - 1)) (point_at ns h) y
  bend_on_right on_right more =
      let x = point_at ns (h - 1) in
      let v = point_at ns h in
      let z = point_at ns (h + 1) in
      let e : h ≡ h + 1 - 1 = omega arith in
      wider_bend false ring x v z y (bent.right_bends h on_right more)
      (back_of_right x v z (f.right_turns h on_right more))
      (back_of_right x v y (right_of_way ns a l r f h (whole y) reached on_right))
      (opposite_not_positive (at_least_unless ((window_of_reached ns a h (whole y) reached).not_right v z more
      (inr (omega arith, ap (point_at ns) e, refl)))))

-- the way from q over v bends at v on the way to y, and turns there on this side
abbrev pub BendsTo : Bool → List Point → Point → Point → Point → Type 0
BendsTo side ring q v y = (turning side v (whole q) (whole y) <ℤ pos 0) × IsBend ring q v y

module _ (corners : List Point) (tris : List Tri) (fits : Fits corners tris) (k i j m : ℕ) (within : k < length tris)
    (first : HasSide (tri_at tris k) i j) (next : HasSide (tri_at tris k) j m) (last : HasSide (tri_at tris k) m i)
    (shared : IsSharedSide tris i j) (before ns : List Point) (a : ℕ) (f : IsFunnel ns a (vertex corners i) (vertex corners j))
    (bent : IsBentFunnel corners before ns a) (ends : HasOpenEnds corners before ns a (vertex corners i) (vertex corners j)) (y : Point)
    (inside : IsInTri corners (tri_at tris k) (whole y)) (reached : IsReachedFrom ns a a (whole y)) (other : ¬ (point_at ns a ≡ y))
    (q : Point) (comes : IsLastOf before q) where
  -- y is on the diagonal, or beyond it
  beyond : On (whole y) (whole (vertex corners i)) (whole (vertex corners j))
      ⊎ (height_over (vertex corners i) (vertex corners j) (whole y) <ℤ pos 0)
  beyond =
      (is_behind corners (tri_at tris k) (fits.triangles k within).counterclockwise i j first (vertex corners i) (vertex corners j) refl
      refl).beyond (whole y) (whole_is_point y) inside

  -- an apex at the left end,
  at_left_end : 0 ≡ a → a + 1 < length ns → turning true (point_at ns a) (whole q) (whole (point_at ns (a + 1))) <ℤ pos 0
      → BendsTo true corners q (point_at ns a) y
  at_left_end none more wide =
      let l = vertex corners i in
      let r = vertex corners j in
      let short = ends.short_left (sym none) in
      let place : length ns - 1 ≡ a + 1 = omega arith in
      let is_left : point_at ns a ≡ l = subst (λ n. point_at ns n ≡ l) none f.first in
      let is_right : point_at ns (a + 1) ≡ r = subst (λ n. point_at ns n ≡ r) place f.last in
      let at_ends = by_points (λ p v s. BendsTo true corners p v s) q (point_at ns a) (point_at ns (a + 1)) q l r refl (sym is_left)
      (sym is_right) (wide, bent.apex_right q comes more) in
      subst (λ v. BendsTo true corners q v y) (sym is_left)
      (bend_goes_on corners tris fits k within true m i j (last, first) y inside shared
      (λ same. other (subst (λ (v : Point). v ≡ y) (sym is_left) same)) q at_ends.1 at_ends.0)

  -- and at the right end
  at_right_end : a + 1 ≡ length ns → 0 < a → turning false (point_at ns a) (whole q) (whole (point_at ns (a - 1))) <ℤ pos 0
      → BendsTo false corners q (point_at ns a) y
  at_right_end none some wide =
      let l = vertex corners i in
      let r = vertex corners j in
      let short = ends.short_right none in
      let place : length ns - 1 ≡ a = omega arith in
      let before_it : 0 ≡ a - 1 = omega arith in
      let is_left : point_at ns (a - 1) ≡ l = subst (λ n. point_at ns n ≡ l) before_it f.first in
      let is_right : point_at ns a ≡ r = subst (λ n. point_at ns n ≡ r) place f.last in
      let at_ends = by_points (λ p v s. BendsTo false corners p v s) q (point_at ns a) (point_at ns (a - 1)) q r l refl (sym is_right)
      (sym is_left) (wide, bent.apex_left q comes some) in
      subst (λ v. BendsTo false corners q v y) (sym is_right)
      (bend_goes_on corners tris fits k within false m j i (next, first) y inside (shared_side_back shared)
      (λ same. other (subst (λ (v : Point). v ≡ y) (sym is_right) same)) q at_ends.1 at_ends.0)

  -- the way over the apex bends on the side on which the apex has an edge,
  bends_on_side : (side : Bool) → IsApexSide ns a q side → BendsTo side corners q (point_at ns a) y
  bends_on_side true (more, at_right, at_left) = elim (cases_lt 0 a) [
    | inr none ↦ at_left_end (omega arith) more at_right
    | inl some ↦
        let l = vertex corners i in
        let r = vertex corners j in
        let turns = behind_left ns a l r f q y beyond reached some more (at_left some) at_right in (
          turns,
          wider_bend true corners q (point_at ns a) (point_at ns (a - 1)) y (bent.apex_left q comes some) (at_left some) turns
              (not_ahead_of_left ns a l r f q y beyond reached some),
        )
  ]
  bends_on_side false (some, at_left, at_right) = elim (cases_lt (a + 1) (length ns)) [
    | inr none ↦ let top = f.apex_within in at_right_end (omega arith) some at_left
    | inl more ↦
        let l = vertex corners i in
        let r = vertex corners j in
        let turns = behind_right ns a l r f q y beyond reached some more at_left (at_right more) in (
          turns,
          wider_bend false corners q (point_at ns a) (point_at ns (a + 1)) y (bent.apex_right q comes more) (at_right more) turns
              (opposite_not_positive (not_behind_right ns a l r f q y beyond reached more)),
        )
  ]

  -- so there is such a side
  pub apex_bends : (side : Bool) × IsApexSide ns a q side × BendsTo side corners q (point_at ns a) y
  apex_bends = let (side, is) = bent.apex_side q comes in (side, is, bends_on_side side is)

-- ---- the way to a point beyond the diagonal bends at the point of the funnel from which it is reached

module _ (corners : List Point) (tris : List Tri) (fits : Fits corners tris) (k i j m : ℕ) (within : k < length tris)
    (first : HasSide (tri_at tris k) i j) (next : HasSide (tri_at tris k) j m) (last : HasSide (tri_at tris k) m i)
    (shared : IsSharedSide tris i j) (before ns : List Point) (a : ℕ) (f : IsFunnel ns a (vertex corners i) (vertex corners j))
    (bent : IsBentFunnel corners before ns a) (ends : HasOpenEnds corners before ns a (vertex corners i) (vertex corners j)) (h : ℕ)
    (y : Point) (inside : IsInTri corners (tri_at tris k) (whole y)) (reached : IsReachedFrom ns a h (whole y)) where
  -- the way over the apex turns on the side on which the apex has an edge
  pub apex_turns : ¬ (point_at ns a ≡ y) → h ≡ a → (q : Point) → IsLastOf before q
      → (side : Bool) × IsApexSide ns a q side × (turning side (point_at ns a) (whole q) (whole y) <ℤ pos 0)
  apex_turns other same q comes =
      let at_apex = subst (λ n. IsReachedFrom ns a n (whole y)) same reached in
      let (side, is, bends) =
      apex_bends corners tris fits k i j m within first next last shared before ns a f bent ends y inside at_apex other q comes in
      (side, is, bends.0)

  module _ (seen : Sees corners (whole (point_at ns h)) (whole y)) where
    -- a bend at the left end of the diagonal,
    bend_at_first : 0 ≡ h → h < a → IsBend corners (point_at ns (h + 1)) (point_at ns h) y
    bend_at_first none on_left =
        let l = vertex corners i in
        let r = vertex corners j in
        let top = f.apex_within in
        let x = point_at ns (h + 1) in
        let is_left : point_at ns h ≡ l = subst (λ n. point_at ns n ≡ l) none f.first in
        let place : h ≡ h + 1 - 1 = omega arith in
        let reach = f.reaches (h + 1) x (point_at ns h) (omega arith) (omega arith) (inl (omega arith, refl, ap (point_at ns) place)) in
        let fanned = ends.left x (inl (omega arith, ap (λ n. point_at ns (n + 1)) (sym none))) in
        subst (λ v. IsBend corners x v y) (sym is_left)
        (bend_from_fan corners tris fits k within true m i j (last, first) y inside x
        (back_of_left x l y (subst (λ v. turns_left x v y) is_left (left_of_way ns a l r f h (whole y) reached on_left)))
        (turned_not_negative (determinant_swap_first (whole x) (whole l) (whole r))
        (at_most_unless (subst (λ v. Reaches x v l r) is_left reach).not_left)) fanned
        (λ same. f.differ h (omega arith) (subst (λ (v : Point). v ≡ x) (sym is_left) (sym same)))
        (subst (λ (v : Point). Sees corners (whole v) (whole y)) is_left seen))

    -- and at the right end
    bend_at_last : h + 1 ≡ length ns → a < h → IsBend corners (point_at ns (h - 1)) (point_at ns h) y
    bend_at_last none on_right =
        let l = vertex corners i in
        let r = vertex corners j in
        let x = point_at ns (h - 1) in
        let place : length ns - 1 ≡ h = omega arith in
        let before_it : h - 1 ≡ length ns - 2 = omega arith in
        let after_it : h - 1 + 1 ≡ h = omega arith in
        let is_right : point_at ns h ≡ r = subst (λ n. point_at ns n ≡ r) place f.last in
        let reach = f.reaches h x (point_at ns h) (omega arith) (omega arith) (inr (on_right, refl, refl)) in
        let fanned = ends.right x (inl (omega arith, ap (point_at ns) before_it)) in
        let differ = subst (λ n. ¬ (x ≡ point_at ns n)) after_it (f.differ (h - 1) (omega arith)) in
        subst (λ v. IsBend corners x v y) (sym is_right)
        (bend_from_fan corners tris fits k within false m j i (next, first) y inside x
        (back_of_right x r y (subst (λ v. turns_right x v y) is_right (right_of_way ns a l r f h (whole y) reached on_right)))
        (subst (λ d. pos 0 ≤ℤ d) (determinant_swap_first (whole r) (whole x) (whole l))
        (at_least_unless (subst (λ v. Reaches x v l r) is_right reach).not_right)) fanned
        (subst (λ (v : Point). ¬ (x ≡ v)) is_right differ) (subst (λ (v : Point). Sees corners (whole v) (whole y)) is_right seen))

    -- so there is one at each point from which another is reached
    pub reached_bends : ¬ (point_at ns h ≡ y) → (x : Point) → IsWayBefore before ns a h x → IsBend corners x (point_at ns h) y
    reached_bends other x (inl (on_left, is)) =
        let l = vertex corners i in
        let r = vertex corners j in
        subst (λ p. IsBend corners p (point_at ns h) y) (sym is) (elim (cases_lt 0 h) [
          | inl some ↦ bend_on_left corners before ns a l r f bent h y reached on_left some
          | inr none ↦ bend_at_first (omega arith) on_left
        ])
    reached_bends other x (inr (inl (on_right, is))) =
        let l = vertex corners i in
        let r = vertex corners j in
        let top = reached.within in
        subst (λ p. IsBend corners p (point_at ns h) y) (sym is) (elim (cases_lt (h + 1) (length ns)) [
          | inl more ↦ bend_on_right corners before ns a l r f bent h y reached on_right more
          | inr none ↦ bend_at_last (omega arith) on_right
        ])
    reached_bends other x (inr (inr (same, comes))) =
        let at_apex = subst (λ n. IsReachedFrom ns a n (whole y)) same reached in
        let not_apex = subst (λ n. ¬ (point_at ns n ≡ y)) same other in
        let (side, is, bends) =
        apex_bends corners tris fits k i j m within first next last shared before ns a f bent ends y inside at_apex not_apex x comes in
        subst (λ n. IsBend corners x (point_at ns n) y) (sym same) bends.1

module _ (corners : List Point) (tris : List Tri) (fits : Fits corners tris) (k i j m : ℕ) (within : k < length tris)
    (first : HasSide (tri_at tris k) i j) (second : HasSide (tri_at tris k) j m) (third : HasSide (tri_at tris k) m i)
    (diagonal : IsSharedSide tris i j) (before ns : List Point) (a : ℕ) (o : IsOpenFunnel corners before ns a i j)
    (h : ℕ) (reached : IsReachedFrom ns a h (whole (vertex corners m))) where
  -- the ends of the diagonal, and the corner
  abbrev l : Point
  l = vertex corners i

  abbrev r : Point
  r = vertex corners j

  abbrev p : Point
  p = vertex corners m

  -- ---- the corner

  in_triangle : IsInTri corners (tri_at tris k) (whole p)
  in_triangle = last_end_in corners tris fits k within j m second

  -- it is seen,
  seen : Sees corners (whole (point_at ns h)) (whole p)
  seen =
      sees_reached corners corners (tri_at tris k) (triangle_in_ring corners tris fits k within) (fits.triangles k within).counterclockwise
      i j first l r refl refl ns a o.funnel o.sight h (whole p) (whole_is_point p) in_triangle reached

  -- it is no point of the funnel,
  differs : ¬ (point_at ns h ≡ p)
  differs = corner_differs corners tris fits k i j m within first second third ns a o.funnel h reached

  -- the way there bends after the point before,
  bends : (x : Point) → IsWayBefore before ns a h x → IsBend corners x (point_at ns h) p
  bends =
      reached_bends corners tris fits k i j m within first second third diagonal before ns a o.funnel o.bent o.ends h p in_triangle reached
      seen differs

  -- and at the apex it turns as the ways to the funnel do
  turns : h ≡ a → (q : Point) → IsLastOf before q → (side : Bool) × IsApexSide ns a q side × TurnsBack side q (point_at ns a) p
  turns same =
      apex_turns corners tris fits k i j m within first second third diagonal before ns a o.funnel o.bent o.ends h p in_triangle reached
      (subst (λ n. ¬ (point_at ns n ≡ p)) same differs) same

  -- ---- the steps

  -- over the side to the right end: the corner, and the points from the one on that it is reached from,
  pub step_left : IsSharedSide tris m j → IsOpenFunnel corners (before ++ right_behind ns a (h - a)) (p ∷ drop h ns) (a - h + 1) m j
  step_left shared = record {
    funnel = funnel_left ns a l r o.funnel h p (corner_beyond corners tris fits k i j m within first second third) reached;
    sight = sight_left corners corners (tri_at tris k) (triangle_in_ring corners tris fits k within)
        (fits.triangles k within).counterclockwise i j first l r refl refl ns a o.funnel o.sight p in_triangle h reached;
    bent = bent_left corners before ns a l r o.funnel o.sight o.bent h p reached bends turns;
    ends = ends_left corners tris fits k i j m within first second third before ns a o.funnel o.ends h reached seen shared;
  }

  -- or to the left end: the points to the one that the corner is reached from, and the corner
  pub step_right : IsSharedSide tris i m
      → IsOpenFunnel corners (before ++ left_behind ns a (a - h)) (take (h + 1) ns ++ p ∷ []) (min a h) i m
  step_right shared = record {
    funnel = funnel_right ns a l r o.funnel h p (corner_beyond corners tris fits k i j m within first second third) reached;
    sight = sight_right corners corners (tri_at tris k) (triangle_in_ring corners tris fits k within)
        (fits.triangles k within).counterclockwise i j first l r refl refl ns a o.funnel o.sight p in_triangle h reached;
    bent = bent_right corners before ns a l r o.funnel o.sight o.bent h p reached bends turns;
    ends = ends_right corners tris fits k i j m within first second third before ns a o.funnel o.ends h reached seen shared;
  }
