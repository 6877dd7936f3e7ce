-- At a bend of a way that has come to a corner over a shared side, and goes on within the triangle beyond, it turns away from the side.
-- Two ways to a point of a triangle over a side of it, the one to the right of the other, pass that side each ahead of the other; neighbours of
-- a corner behind such a way are behind the side.
use Rattle.std.proofs.Common.{◌≡◌, ◌⊎◌, inl, inr, sym, subst, Bool, true, false, not, ℕ, ◌+◌, ◌-◌, ◌<◌, pos, ◌<ℤ◌, ◌≤ℤ◌, List, length}
use Rattle.integer_algebra.proofs.SignSteps.{not_both_positive, positive_of_not_zero, turned_negative, turned_not_negative, turned_positive}
use Rattle.integer_algebra.proofs.SignSteps.{turned_zero, weak, zero_of_both, opposite_positive}
use Rattle.integer_algebra.proofs.Signs.{is_negative, is_positive, is_zero, sign, lt_or_le}
use Rattle.plane.proofs.Points.{same_whole, whole_is_point}
use Rattle.plane.proofs.Segments.{on_reversed}
use Rattle.plane.proofs.Turns.{determinant_same_first, determinant_of_whole, determinant_swap_first}
use Rattle.plane.specs.Prelude.{IsLeft, IsPoint, IsRight, IsSame, IsStraight, On, Point, Triple, whole}
use Rattle.rings.proofs.Simple.{apart_of_simple}
use Rattle.rings.specs.Prelude.{AreNeighbours, IsBend, IsReflex, vertex}
use Rattle.ring_laws.proofs.Triangles.{left_of_first}
use Rattle.ring_laws.proofs.Vertices.{beside_next, neighbours_not_on_ray, same_number}
use Rattle.meshes.proofs.TreeLeaves.{closed_of_sides, turns_left}
use Rattle.meshes.specs.Prelude.{Fits, IsInTri, tri_at}
use Rattle.meshes.specs.declared.tri.Tri.{Tri}
use Rattle.funnels.proofs.Bends.{AreOnRay, corner_in_ring, corner_turns, level_is_vertex, neighbour_differs, not_ahead_of_itself}
use Rattle.funnels.proofs.Bends.{not_reflex, ray_ahead, turning_differs, turning_four, turning_from_ray, turning_not, turning_straight}
use Rattle.funnels.proofs.Bends.{turning_swap, turning_to_ray, turnings_of_bend, corner_back, not_swept, right_of_third, in_angle}
use Rattle.funnels.proofs.Corners.{IsRingStep, left_of_line, neighbour_within, not_right_of_first, step_turn, corner_after}
use Rattle.funnels.proofs.Passing.PartedWays.{first_left, last_right, passes_left, passes_right}
use Rattle.funnels.proofs.Vertices.{fitted_counterclockwise, fitted_long, fitted_simple, IsSharedSide, shared_side_back}
use Rattle.funnels.specs.Corner.{HasCornerOn, IsInAngle}
use Rattle.funnels.specs.Fanned.{turning}
use Rattle.funnels.specs.Passing.{ArePassing}

-- ---- a bend to the wrong side

module _ (corners : List Point) (tris : List Tri) (fits : Fits corners tris) (side : Bool) (k far own tip : ℕ) (in_list : k < length tris)
    (corner : HasCornerOn side (tri_at tris k) far own tip) (p : Point)
    (swept : (u : Point) → AreNeighbours corners (vertex corners own) u → turning side (vertex corners own) (whole p) (whole u) <ℤ pos 0
    → turning side (vertex corners own) (whole (vertex corners far)) (whole u) <ℤ pos 0)
    (y : Point) (bend : IsBend corners y (vertex corners own) p) (within : IsInAngle side corners far own tip (whole y)) where
  -- y is another point than the corner
  way_differs : ¬ IsSame (whole y) (whole (vertex corners own))
  way_differs same =
      let V = whole (vertex corners own) in
      bend.turns (subst (λ (x : Point). IsStraight V (whole x) (whole p)) (sym (same_whole y (vertex corners own) same))
      (determinant_same_first V (whole p)))

  module _ (wrong : pos 0 <ℤ turning side (vertex corners own) (whole y) (whole p)) where
    -- then the neighbours are in the cone on that side,
    cone : (u : Point) → AreNeighbours corners (vertex corners own) u
        → (pos 0 ≤ℤ turning side (vertex corners own) (whole y) (whole u)) × (turning side (vertex corners own) (whole p) (whole u) ≤ℤ pos 0)
    cone u n =
        let V = vertex corners own in
        let wide = subst (λ z. z <ℤ pos 0) (sym (turning_not side V (whole y) (whole p)))
        (turned_negative (turning_swap side V (whole y) (whole p)) wrong) in
        let within = turnings_of_bend (not side) corners y V p wide bend u n in (
          turned_not_negative (turning_swap side V (whole u) (whole y))
              (subst (λ z. z ≤ℤ pos 0) (turning_not side V (whole y) (whole u)) within.0),
          subst (λ z. z ≤ℤ pos 0) (turning_not side V (whole u) (whole p)) within.1,
        )

    -- one that is behind the diagonal is the third corner, and the ring goes there;
    behind_is_tip : (u : Point) → AreNeighbours corners (vertex corners own) u
        → turning side (vertex corners own) (whole (vertex corners far)) (whole u) <ℤ pos 0
        → (u ≡ vertex corners tip) × IsRingStep side corners own tip
    behind_is_tip u n behind =
        let V = vertex corners own in
        let F = whole (vertex corners far) in
        let T = whole (vertex corners tip) in
        let turns = corner_turns corners tris fits k in_list side far own tip corner in
        let front : pos 0 <ℤ turning side V (whole u) F = turned_positive (turning_swap side V F (whole u)) behind in
        let high = not_right_of_first (record { holds = turning_four side V T (whole y) (whole u) F }) within.from_after turns (cone u n).0
        within.to_before front (λ e. way_differs (level_is_vertex side V T F (whole y) turns e.0 e.1)) in
        elim (neighbour_within corners tris fits side k far own tip in_list corner u n (record { from_after = high; to_before = weak front })) [
          | inl is ↦ is
          | inr is ↦
              absurd (not_ahead_of_itself side V F (subst (λ (x : Point). pos 0 <ℤ turning side V (whole x) F) is.0 front))
        ]

    -- so each is in line with p, or the third corner
    classified : (u : Point) → AreNeighbours corners (vertex corners own) u
        → (turning side (vertex corners own) (whole p) (whole u) ≡ pos 0) ⊎ ((u ≡ vertex corners tip) × IsRingStep side corners own tip)
    classified u n = elim (sign (turning side (vertex corners own) (whole p) (whole u))) [
      | is_positive h ↦ absurd (not_both_positive h (cone u n).1)
      | is_zero h ↦ inl h
      | is_negative h ↦ inr (behind_is_tip u n (swept u n h))
    ]

    -- one in line with p is ahead of y,
    level_ahead : (u : Point) → AreNeighbours corners (vertex corners own) u → turning side (vertex corners own) (whole p) (whole u) ≡ pos 0
        → pos 0 <ℤ turning side (vertex corners own) (whole y) (whole u)
    level_ahead u n level =
        let V = vertex corners own in
        positive_of_not_zero (cone u n).0 (λ e. neighbour_differs corners tris fits own u n
        (level_is_vertex side V (whole y) (whole p) (whole u) wrong e (turned_zero (turning_swap side V (whole p) (whole u)) level)))

    -- so it is on the ray to p
    on_ray : (u : Point) → AreNeighbours corners (vertex corners own) u → turning side (vertex corners own) (whole p) (whole u) ≡ pos 0
        → AreOnRay (whole (vertex corners own)) (whole p) (whole u)
    on_ray u n level =
        let V = vertex corners own in
        record {
          first_rational = whole_is_point p;
          last_rational = whole_is_point u;
          first_differs = turning_differs side V (whole y) (whole p) wrong;
          last_differs = neighbour_differs corners tris fits own u n;
          on_ray = ray_ahead side V (whole y) (whole u) (whole p) (whole_is_point u) (whole_is_point p)
              (turned_zero (turning_swap side V (whole p) (whole u)) level) (level_ahead u n level) wrong;
        }

    -- where the third corner is a neighbour, p is ahead of it
    tip_ahead : (u : Point) → AreNeighbours corners (vertex corners own) u → u ≡ vertex corners tip
        → pos 0 <ℤ turning side (vertex corners own) (whole (vertex corners tip)) (whole p)
    tip_ahead u n is =
        let V = vertex corners own in
        let T = whole (vertex corners tip) in
        let level = zero_of_both (turning_swap side V T (whole y)) within.from_after
        (subst (λ (x : Point). pos 0 ≤ℤ turning side V (whole y) (whole x)) is (cone u n).0) in
        left_of_line (record { holds = turning_four side V T (whole y) (whole p) (whole (vertex corners far)) }) level
        (corner_turns corners tris fits k in_list side far own tip corner) wrong within.to_before

    -- but it is none, since the corner is reflex,
    tip_no_neighbour : (u : Point) → AreNeighbours corners (vertex corners own) u → ¬ ((u ≡ vertex corners tip) × IsRingStep side corners own tip)
    tip_no_neighbour u n (is, step) =
        let V = vertex corners own in
        let T = whole (vertex corners tip) in
        let simple = fitted_simple corners tris fits in
        let in_ring = corner_in_ring corners tris fits k in_list side far own tip corner in
        let turn = step_turn corners simple (fitted_long corners tris fits) own in_ring side tip step (λ w m other. elim (classified w m) [
          | inl level ↦ weak ((turning_to_ray V side (whole p) (whole w) T (on_ray w m level)).positive (tip_ahead u n is))
          | inr same ↦ absurd (other same.0)
        ]) in
        not_reflex corners own (fitted_counterclockwise corners tris fits) turn
        (subst (IsReflex corners) (same_number corners (apart_of_simple corners simple) bend.reflex.i own bend.reflex.in_ring in_ring bend.reflex.is_vertex)
        bend.reflex.reflex)

    -- two neighbours in line with p are on one ray,
    one_ray : (u w : Point) → AreNeighbours corners (vertex corners own) u → AreNeighbours corners (vertex corners own) w
        → turning side (vertex corners own) (whole p) (whole u) ≡ pos 0 → turning side (vertex corners own) (whole p) (whole w) ≡ pos 0
        → On (whole u) (whole (vertex corners own)) (whole w) ⊎ On (whole w) (whole (vertex corners own)) (whole u)
    one_ray u w n m first second =
        let V = vertex corners own in
        ray_ahead side V (whole y) (whole w) (whole u) (whole_is_point w) (whole_is_point u)
        ((turning_from_ray V side (whole p) (whole w) (whole u) (on_ray w m second)).zero first) (level_ahead w m second)
        (level_ahead u n first)

    -- and the two of the corner are not
    no_bend : ⊥
    no_bend =
        let simple = fitted_simple corners tris fits in
        let three = fitted_long corners tris fits in
        let in_ring = corner_in_ring corners tris fits k in_list side far own tip corner in
        let n = beside_next corners simple three own in_ring false in
        let m = beside_next corners simple three own in_ring true in
        elim (classified (vertex corners (own + (length corners - 1))) n) [
          | inr is ↦ tip_no_neighbour _ n is
          | inl first ↦ elim (classified (vertex corners (own + 1)) m) [
            | inr is ↦ tip_no_neighbour _ m is
            | inl second ↦ neighbours_not_on_ray corners simple three own in_ring (one_ray _ _ n m first second)
          ]
        ]

  -- the way from p turns away there
  pub turns_away : turning side (vertex corners own) (whole y) (whole p) <ℤ pos 0
  turns_away = elim (sign (turning side (vertex corners own) (whole y) (whole p))) [
    | is_negative h ↦ h
    | is_zero h ↦ absurd (bend.turns (turning_straight side (vertex corners own) (whole y) (whole p) h))
    | is_positive h ↦ absurd (no_bend h)
  ]

module _ (corners : List Point) (tris : List Tri) (fits : Fits corners tris) (side : Bool) (k third own far : ℕ)
    (in_list : k < length tris) (corner : HasCornerOn side (tri_at tris k) third own far) (shared : IsSharedSide tris own far) where
  -- where the side from the corner to `far` is shared, no neighbour is behind the side to `third` and not behind that
  not_swept_back : (u : Point) → AreNeighbours corners (vertex corners own) u
      → pos 0 ≤ℤ turning side (vertex corners own) (whole (vertex corners far)) (whole u)
      → ¬ (turning side (vertex corners own) (whole (vertex corners third)) (whole u) <ℤ pos 0)
  not_swept_back u n high behind =
      let V = vertex corners own in
      let T = whole (vertex corners third) in
      not_swept corners tris fits k in_list (not side) far own third (corner_back side (tri_at tris k) third own far corner) shared u n (
        subst (λ z. pos 0 <ℤ z) (sym (turning_not side V T (whole u))) (turned_positive (turning_swap side V T (whole u)) behind),
        subst (λ z. pos 0 ≤ℤ z) (sym (turning_not side V (whole u) (whole (vertex corners far)))) high,
      )

  -- so one that is behind a way from within the triangle is behind the shared side
  pub swept_behind : (p : Point) → IsInAngle side corners third own far (whole p) → (u : Point) → AreNeighbours corners (vertex corners own) u
      → turning side (vertex corners own) (whole p) (whole u) <ℤ pos 0
      → turning side (vertex corners own) (whole (vertex corners far)) (whole u) <ℤ pos 0
  swept_behind p within u n behind =
      let V = vertex corners own in
      let F = whole (vertex corners far) in
      let T = whole (vertex corners third) in
      elim (lt_or_le (turning side V F (whole u)) (pos 0)) [
        | inl h ↦ h
        | inr high ↦
            absurd (not_swept_back u n high
            (right_of_third (record { holds = turning_four side V F (whole p) T (whole u) }) within.from_after
            (corner_turns corners tris fits k in_list side third own far corner) high within.to_before behind))
      ]

-- ---- two ways to a point of a triangle over a side of it, the one to the right of the other, pass that side each ahead of the other

module _ (corners : List Point) (tris : List Tri) (fits : Fits corners tris) (k : ℕ) (in_list : k < length tris) (i j third : ℕ)
    (corner : HasCornerOn true (tri_at tris k) third j i) (t : Point) (inside : IsInTri corners (tri_at tris k) (whole t)) where
  abbrev at : ℕ → Triple
  at n = whole (vertex corners n)

  -- a point of the triangle off the side is left of it, and so right of it in the other direction
  pub right_of_side : ¬ On (whole t) (at i) (at j) → IsRight (at i) (at j) (whole t)
  right_of_side off =
      let more = corner_after corners tris fits k in_list true third j i corner in
      let is = fits.triangles k in_list in
      let closed = closed_of_sides corners (tri_at tris k) is.counterclockwise j i third more.0 more.1 (whole t) inside in
      let left = left_of_first (vertex corners j) (vertex corners i) (vertex corners third)
      (turns_left corners (tri_at tris k) is.counterclockwise j i third more.0 more.1) (whole t) (whole_is_point t) closed
      (λ on. off (on_reversed (whole t) (at j) (at i) on)) in
      turned_negative (determinant_swap_first (at j) (at i) (whole t)) left

  module _ (shared : IsSharedSide tris i j) where
    -- neighbours that are behind the way are behind the side
    swept_at : (side : Bool) (far own : ℕ) → HasCornerOn side (tri_at tris k) third own far → IsSharedSide tris own far → (h : Point)
        → h ≡ vertex corners own → (u : Point) → AreNeighbours corners h u → turning side h (whole t) (whole u) <ℤ pos 0
        → turning side h (at far) (whole u) <ℤ pos 0
    swept_at side far own c common h is u next behind =
        subst (λ (v : Point). turning side v (at far) (whole u) <ℤ pos 0) (sym is)
        (swept_behind corners tris fits side k third own far in_list c common t
        (in_angle corners tris fits k in_list side third own far c (whole t) inside) u
        (subst (λ (v : Point). AreNeighbours corners v u) is next)
        (subst (λ (v : Point). turning side v (whole t) (whole u) <ℤ pos 0) is behind))

    -- so the ways pass
    pub begin_passing : (right : IsRight (at i) (at j) (whole t)) (p q : Point) (I J : Type 0) (x z : Triple) → IsPoint x → IsPoint z
        → ¬ (p ≡ t) → ¬ (q ≡ t) → On x (whole t) (whole p) → On x (at i) (at j) → On z (whole t) (whole q) → On z (at i) (at j)
        → IsLeft (whole t) (whole p) (whole q) → ArePassing true corners i j t p I x t q J z
    begin_passing right p q I J x z at_x at_z differ differ_too way side way_too side_too left =
        let l = vertex corners i in
        let r = vertex corners j in
        let more = corner_after corners tris fits k in_list true third j i corner in
        record {
          one = record {
            rational = at_x;
            on_way = way;
            on_side = side;
            far_ahead = first_left t l r right p q x z at_x at_z differ differ_too way side way_too side_too left;
            other_ahead = passes_left t l r right p q x z at_x at_z differ differ_too way side way_too side_too left;
            swept = λ inner is. swept_at true i j corner (shared_side_back shared) p is;
          };
          other = record {
            rational = at_z;
            on_way = way_too;
            on_side = on_reversed z (at i) (at j) side_too;
            far_ahead = opposite_positive (last_right t l r right p q x z at_x at_z differ differ_too way side way_too side_too left);
            other_ahead = opposite_positive (passes_right t l r right p q x z at_x at_z differ differ_too way side way_too side_too left);
            swept = λ inner is. swept_at false j i (more.1, more.0) shared q is;
          };
          apart = let e = determinant_of_whole t p q in rw (← e) left;
        }
