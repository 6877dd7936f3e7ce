-- A triangle of a mesh at one of its corners, seen from either side: its mirror image, how its sides turn, and which ways no ring
-- neighbour goes.
-- A triangle of a mesh at one of its corners, which sees its points in the angle there, and fans of such triangles, on either side: one begins
-- in a triangle, goes on over one, and has a last step in one.
use Rattle.std.proofs.Common.{◌≡◌, ◌⊎◌, inl, inr, refl, sym, subst, Bool, true, false, not, ℕ, ◌<◌, pos, ◌<ℤ◌, ◌≤ℤ◌, List, length, arith}
use Rattle.std.specs.List.{range_with_len}
use Rattle.integer_algebra.proofs.SignSteps.{not_both, positive_of_not_zero, turned_negative, turned_zero, at_least_unless}
use Rattle.integer_algebra.proofs.SignSteps.{turned_not_negative, turned_positive}
use Rattle.integer_algebra.proofs.Signs.{is_negative, is_positive, is_zero, sign}
use Rattle.plane.proofs.Points.{same_whole, whole_is_point}
use Rattle.plane.proofs.Segments.{on_first_end, on_last_end}
use Rattle.plane.proofs.Turns.{determinant_swap_last, determinant_shift}
use Rattle.plane.specs.Prelude.{IsLeft, IsPoint, IsSame, On, Point, Triple, whole}
use Rattle.rings.proofs.Simple.{apart_of_simple}
use Rattle.rings.specs.Prelude.{AreNeighbours, vertex}
use Rattle.ring_laws.proofs.Triangles.{left_at_last}
use Rattle.ring_laws.proofs.Vertices.{neighbours_differ}
use Rattle.meshes.proofs.Parts.{opposite}
use Rattle.meshes.proofs.Sides.{ends_below, piece_points_all}
use Rattle.meshes.proofs.Sight.{not_right_of_side, sees_in_triangle}
use Rattle.meshes.proofs.TreeLeaves.{turns_left}
use Rattle.meshes.specs.Prelude.{Fits, HasCorner, HasSide, IsInTri, piece_points, tri_at}
use Rattle.meshes.specs.declared.tri.Tri.{Tri}
use Rattle.funnels.proofs.Bends.Fans.{fanned_more, fanned_within, last_step_to_within}
use Rattle.funnels.proofs.Bends.SameRays.{level_is_vertex, ray_ahead, ray_behind}
use Rattle.funnels.proofs.Bends.Turnings.{turning_not, turning_swap, turning_four}
use Rattle.funnels.proofs.Vertices.{IsSharedSide, fitted_long, fitted_simple, neighbour_not_inside, off_shared}
use Rattle.funnels.specs.Corner.{HasCornerOn, IsInAngle}
use Rattle.funnels.specs.Fan.{IsFanStep, IsLastStep}
use Rattle.funnels.specs.Fanned.{turning, IsOpenToward, IsFanned, IsNextTo}

-- ---- mirror images

-- a corner, from the other side
pub corner_back : (side : Bool) (t : Tri) (before v after : ℕ) → HasCornerOn side t before v after → HasCornerOn (not side) t after v before
corner_back true t before v after c = (c.1, c.0)
corner_back false t before v after c = (c.1, c.0)

-- a ray in the angle is so from the other side
pub within_back : (side : Bool) (corners : List Point) (before v after : ℕ) (y : Triple) → IsInAngle side corners before v after y
    → IsInAngle (not side) corners after v before y
within_back side corners before v after y h = record {
  from_after = rw (turning_not side (vertex corners v) (whole (vertex corners before)) y) h.to_before;
  to_before = rw (turning_not side (vertex corners v) y (whole (vertex corners after))) h.from_after;
}

module _ (corners : List Point) (tris : List Tri) (fits : Fits corners tris) where
  -- a neighbour in the ring is one in the piece of all its vertices,
  pub in_piece : (v u : Point) → AreNeighbours corners v u → AreNeighbours (piece_points corners (range_with_len 0 (length corners))) v u
  in_piece v u n = subst (λ ring. AreNeighbours ring v u) (sym (piece_points_all corners)) n

  -- and another point
  pub neighbour_differs : (v : ℕ) (u : Point) → AreNeighbours corners (vertex corners v) u → ¬ IsSame (whole u) (whole (vertex corners v))
  neighbour_differs v u n same =
      neighbours_differ corners (apart_of_simple corners (fitted_simple corners tris fits)) (omega (arith, fitted_long corners tris fits))
      (vertex corners v) u n (sym (same_whole u (vertex corners v) same))

  -- ---- how a corner turns

  module _ (k : ℕ) (within : k < length tris) where
    -- a corner is a vertex of the ring
    pub corner_in_ring : (side : Bool) (before v after : ℕ) → HasCornerOn side (tri_at tris k) before v after → v < length corners
    corner_in_ring true before v after c = (ends_below corners tris fits k before v within c.0).1
    corner_in_ring false before v after c = (ends_below corners tris fits k v before within c.0).0

    module _ (before v after : ℕ) (first : HasSide (tri_at tris k) before v) (second : HasSide (tri_at tris k) v after) where
      -- counterclockwise, the side to `before` is left of the side to `after`,
      left_corner : IsLeft (whole (vertex corners v)) (whole (vertex corners after)) (whole (vertex corners before))
      left_corner =
          left_at_last (vertex corners before) (vertex corners v) (vertex corners after)
          (turns_left corners (tri_at tris k) (fits.triangles k within).counterclockwise before v after first second)

      -- and no neighbour is strictly between them
      between_sides : (u : Point) → AreNeighbours corners (vertex corners v) u
          → ¬ (IsLeft (whole (vertex corners v)) (whole (vertex corners after)) (whole u)
          × IsLeft (whole (vertex corners v)) (whole u) (whole (vertex corners before)))
      between_sides u n h =
          neighbour_not_inside corners (range_with_len 0 (length corners)) tris fits k v before after within second first u
          (in_piece (vertex corners v) u n)
          (h.0, turned_negative (determinant_swap_last (whole (vertex corners v)) (whole u) (whole (vertex corners before))) h.1)

    -- so from either side the side to `before` is ahead of the side to `after`,
    pub corner_turns : (side : Bool) (before v after : ℕ) → HasCornerOn side (tri_at tris k) before v after
        → pos 0 <ℤ turning side (vertex corners v) (whole (vertex corners after)) (whole (vertex corners before))
    corner_turns true before v after c = left_corner before v after c.0 c.1
    corner_turns false before v after c =
        subst (λ z. pos 0 <ℤ z) (sym (turning_not true (vertex corners v) (whole (vertex corners after)) (whole (vertex corners before))))
        (left_corner after v before c.1 c.0)

    -- and no ring neighbour is strictly inside the angle
    pub not_inside : (side : Bool) (before v after : ℕ) → HasCornerOn side (tri_at tris k) before v after
        → (u : Point) → AreNeighbours corners (vertex corners v) u
        → ¬ ((pos 0 <ℤ turning side (vertex corners v) (whole (vertex corners after)) (whole u))
        × (pos 0 <ℤ turning side (vertex corners v) (whole u) (whole (vertex corners before))))
    not_inside true before v after c u n h = between_sides before v after c.0 c.1 u n h
    not_inside false before v after c u n h =
        between_sides after v before c.1 c.0 u n (
          subst (λ z. pos 0 <ℤ z) (turning_not true (vertex corners v) (whole u) (whole (vertex corners before))) h.1,
          subst (λ z. pos 0 <ℤ z) (turning_not true (vertex corners v) (whole (vertex corners after)) (whole u)) h.0,
        )

    module _ (side : Bool) (before v after : ℕ) (corner : HasCornerOn side (tri_at tris k) before v after) where
      -- a point in line with the corner after v, and not ahead of the one before it, is on the ray to the former;
      pub on_after : (y : Triple) → IsPoint y → ¬ IsSame y (whole (vertex corners v))
          → turning side (vertex corners v) (whole (vertex corners after)) y ≡ pos 0
          → pos 0 ≤ℤ turning side (vertex corners v) y (whole (vertex corners before))
          → On y (whole (vertex corners v)) (whole (vertex corners after)) ⊎ On (whole (vertex corners after)) (whole (vertex corners v)) y
      on_after y at_y differs level h =
          let V = vertex corners v in
          let A = whole (vertex corners after) in
          let B = whole (vertex corners before) in
          let turns = corner_turns side before v after corner in
          let ahead = positive_of_not_zero h (λ e. differs (level_is_vertex side V A B y turns level e)) in
          ray_behind side V B A y (whole_is_point (vertex corners after)) at_y level
          (turned_negative (turning_swap side V A B) turns) (turned_negative (turning_swap side V y B) ahead)

      -- one ahead of the corner after v, and in line with the one before it, is on the ray to the latter
      pub on_before : (y : Triple) → IsPoint y → pos 0 <ℤ turning side (vertex corners v) (whole (vertex corners after)) y
          → turning side (vertex corners v) y (whole (vertex corners before)) ≡ pos 0
          → On y (whole (vertex corners v)) (whole (vertex corners before))
          ⊎ On (whole (vertex corners before)) (whole (vertex corners v)) y
      on_before y at_y ahead level =
          let V = vertex corners v in
          let B = whole (vertex corners before) in
          ray_ahead side V (whole (vertex corners after)) B y (whole_is_point (vertex corners before)) at_y
          (turned_zero (turning_swap side V y B) level) (corner_turns side before v after corner) ahead

      -- so where the side to `before` is shared, no ring neighbour is on it either
      pub not_swept : IsSharedSide tris v before → (u : Point) → AreNeighbours corners (vertex corners v) u
          → ¬ ((pos 0 <ℤ turning side (vertex corners v) (whole (vertex corners after)) (whole u))
          × (pos 0 ≤ℤ turning side (vertex corners v) (whole u) (whole (vertex corners before))))
      not_swept shared u n h = elim (sign (turning side (vertex corners v) (whole u) (whole (vertex corners before)))) [
        | is_negative m ↦ not_both m h.1
        | is_positive m ↦ not_inside side before v after corner u n (h.0, m)
        | is_zero m ↦
            off_shared corners (range_with_len 0 (length corners)) tris fits v before shared u (in_piece (vertex corners v) u n)
            (on_before (whole u) (whole_is_point u) h.0 m)
      ]

module _ (corners : List Point) (tris : List Tri) (fits : Fits corners tris) (k : ℕ) (within : k < length tris) where
  -- both ends of a side are in the triangle: the first,
  pub first_end_in : (a b : ℕ) → HasSide (tri_at tris k) a b → IsInTri corners (tri_at tris k) (whole (vertex corners a))
  first_end_in a b side =
      (opposite corners (tri_at tris k) (fits.triangles k within).counterclockwise a b side).1.side (whole (vertex corners a))
      (whole_is_point (vertex corners a)) (on_first_end (whole (vertex corners a)) (whole (vertex corners b)))

  -- and the last
  pub last_end_in : (a b : ℕ) → HasSide (tri_at tris k) a b → IsInTri corners (tri_at tris k) (whole (vertex corners b))
  last_end_in a b side =
      (opposite corners (tri_at tris k) (fits.triangles k within).counterclockwise a b side).1.side (whole (vertex corners b))
      (whole_is_point (vertex corners b)) (on_last_end (whole (vertex corners a)) (whole (vertex corners b)))

  -- and so each corner is,
  pub corner_in : (v : ℕ) → HasCorner (tri_at tris k) v → IsInTri corners (tri_at tris k) (whole (vertex corners v))
  corner_in v (inl e) = first_end_in v _ (inl (e, refl))
  corner_in v (inr (inl e)) = first_end_in v _ (inr (inl (e, refl)))
  corner_in v (inr (inr e)) = first_end_in v _ (inr (inr (e, refl)))

  -- on either side too: one,
  middle_in : (side : Bool) (before v after : ℕ) → HasCornerOn side (tri_at tris k) before v after
      → IsInTri corners (tri_at tris k) (whole (vertex corners v))
  middle_in true before v after c = first_end_in v after c.1
  middle_in false before v after c = last_end_in after v c.1

  -- and the one before it
  pub before_in : (side : Bool) (before v after : ℕ) → HasCornerOn side (tri_at tris k) before v after
      → IsInTri corners (tri_at tris k) (whole (vertex corners before))
  before_in true before v after c = first_end_in before v c.0
  before_in false before v after c = last_end_in v before c.0

  -- so at a corner the ring is open toward each point of the triangle
  pub open_toward : (side : Bool) (before v after : ℕ) → HasCornerOn side (tri_at tris k) before v after
      → (y : Triple) → IsPoint y → IsInTri corners (tri_at tris k) y → IsOpenToward corners (vertex corners v) y
  open_toward side before v after c y at_y inside = (
    at_y,
    sees_in_triangle corners tris fits k within (whole (vertex corners v)) y (whole_is_point (vertex corners v)) at_y
        (middle_in side before v after c) inside,
  )

  -- which is in the angle there: counterclockwise,
  in_left_angle : (before v after : ℕ) → HasSide (tri_at tris k) before v → HasSide (tri_at tris k) v after
      → (y : Triple) → IsInTri corners (tri_at tris k) y → IsInAngle true corners before v after y
  in_left_angle before v after first second y inside = record {
    from_after = at_least_unless (not_right_of_side corners (tri_at tris k) y inside v after second);
    to_before = subst (λ d. pos 0 ≤ℤ d) (sym (determinant_shift (whole (vertex corners before)) (whole (vertex corners v)) y))
        (at_least_unless (not_right_of_side corners (tri_at tris k) y inside before v first));
  }

  -- and from either side
  pub in_angle : (side : Bool) (before v after : ℕ) → HasCornerOn side (tri_at tris k) before v after
      → (y : Triple) → IsInTri corners (tri_at tris k) y → IsInAngle side corners before v after y
  in_angle true before v after c y inside = in_left_angle before v after c.0 c.1 y inside
  in_angle false before v after c y inside = within_back true corners after v before y (in_left_angle after v before c.1 c.0 y inside)

-- ---- fans of the triangles of a mesh at one of their corners, on either side: one begins in a triangle, goes on over one, and has a
-- last step in one

module _ (corners : List Point) (tris : List Tri) (fits : Fits corners tris) (k : ℕ) (within : k < length tris)
    (side : Bool) (before v after : ℕ) (corner : HasCornerOn side (tri_at tris k) before v after) where
  -- the corner, and those after it and before it
  abbrev V : Point
  V = vertex corners v

  abbrev A : Triple
  A = whole (vertex corners after)

  abbrev B : Triple
  B = whole (vertex corners before)

  -- ---- steps

  -- over the triangle there is a last step, from the side to `after` to the side to `before`,
  whole_step : IsLastStep (turning side V) (IsNextTo corners V) A B
  whole_step = record {
    ahead = corner_turns corners tris fits k within side before v after corner;
    none = λ z n swept.
        not_inside corners tris fits k within side before v after corner n.0 n.1
        (subst (λ x. (pos 0 <ℤ turning side V A x) × (pos 0 <ℤ turning side V x B)) n.2
        (swept.0, turned_positive (turning_swap side V B z) swept.1));
  }

  -- and to each point of the triangle that is ahead of the side to `after`
  pub last_step : (y : Triple) → IsInTri corners (tri_at tris k) y → pos 0 <ℤ turning side V A y
      → IsLastStep (turning side V) (IsNextTo corners V) A y
  last_step y inside ahead =
      last_step_to_within (turning side V) (turning_four side V) (IsNextTo corners V) A B y whole_step ahead
      (in_angle corners tris fits k within side before v after corner y inside).to_before

  module _ (shared : IsSharedSide tris v before) where
    -- where the side to `before` is shared, there is a step of a fan,
    step : IsFanStep (turning side V) (IsNextTo corners V) A B
    step = record {
      ahead = whole_step.ahead;
      none = λ z n swept.
          not_swept corners tris fits k within side before v after corner shared n.0 n.1
          (subst (λ x. (pos 0 <ℤ turning side V A x) × (pos 0 ≤ℤ turning side V x B)) n.2
          (swept.0, turned_not_negative (turning_swap side V B z) swept.1));
    }

    -- ---- fans

    -- to a corner that the ring is open toward
    open_to_before : IsOpenToward corners V B
    open_to_before =
        open_toward corners tris fits k within side before v after corner B (whole_is_point (vertex corners before))
        (before_in corners tris fits k within side before v after corner)

    -- so a fan that has come to `after` goes on to `before`,
    pub fan_goes_on : (p : Triple) → IsFanned side corners V p A → IsFanned side corners V p B
    fan_goes_on = fanned_more side corners V A B step open_to_before

    -- and one begins between them
    pub fan_begins : (p : Triple) → IsOpenToward corners V p → ¬ IsSame p (whole V) → IsInAngle side corners before v after p
        → IsFanned side corners V p B
    fan_begins p open_p differs angle =
        fanned_within side corners V A B step open_to_before p open_p differs angle.from_after angle.to_before

    -- as with the way to each other point of the triangle
    pub fan_begins_in : (p : Point) → IsInTri corners (tri_at tris k) (whole p) → ¬ (p ≡ V) → IsFanned side corners V (whole p) B
    fan_begins_in p inside differ =
        fan_begins (whole p) (open_toward corners tris fits k within side before v after corner (whole p) (whole_is_point p) inside)
        (λ same. differ (same_whole p V same)) (in_angle corners tris fits k within side before v after corner (whole p) inside)
