-- A fan at a vertex of a simple ring that turns by more than a half turn makes a bend there: at one that is not reflex, directions toward which
-- the ring is open turn by a half turn at most.
-- A bend at a corner of a mesh, with a shared side on its last ray, grows over the triangle beyond the side, and turns the same way.
-- A bend at a vertex grows where its last ray turns on, over no neighbour.
-- A bend over a vertex stays one where it turns farther.
use Rattle.std.proofs.Common.{◌≡◌, Bool, true, false, sym, subst, ◌∙◌, ℕ, ◌+◌, ◌-◌, ◌<◌, ◌≤◌, ℤ, pos, ◌≤ℤ◌, List, [], ◌∷◌, length, arith}
use Rattle.std.proofs.Common.{inl, inr, refl, ◌<ℤ◌, ◌⊎◌, ◌+ℤ◌, ◌-ℤ◌, ◌*ℤ◌}
use Rattle.std.proofs.lemmas.Int.{ints}
use Rattle.std.proofs.lemmas.List.Elements.{All-head, All-tail}
use Rattle.std.specs.List.{All, range_with_len}
use Rattle.integer_algebra.proofs.Certificate.{product_zero}
use Rattle.integer_algebra.proofs.SignSteps.{at_least_unless, opposite_not_negative, turned_not_positive, not_both, negative_not_zero}
use Rattle.integer_algebra.proofs.SignSteps.{not_both_positive, turned_not_negative, turned_positive, turned_zero, weak_order}
use Rattle.integer_algebra.proofs.Signs.{lt_or_le, factor_zero, is_negative, is_positive, is_zero, sign, mul_negative, mul_nonpositive}
use Rattle.integer_algebra.proofs.Signs.{mul_nonpositives}
use Rattle.plane.proofs.Nearness.{toward, toward_is_point, toward_on}
use Rattle.plane.proofs.Points.{whole_is_point, same_whole}
use Rattle.plane.proofs.Turns.{determinant_swap_first}
use Rattle.plane.specs.Prelude.{IsRight, IsSame, On, Point, Triple, whole}
use Rattle.rings.specs.Prelude.{AreNeighbours, IsBend, IsCounterclockwise, IsReflex, IsSimple, turn_at, vertex}
use Rattle.ring_laws.proofs.Triangles.{left_of, left_of_is_left}
use Rattle.ring_laws.proofs.Vertices.{beside_differs, vertex_beside}
use Rattle.ring_laws.proofs.Kernels.{convex_vertex}
use Rattle.meshes.specs.Prelude.{Fits, IsInTri, tri_at}
use Rattle.meshes.specs.declared.tri.Tri.{Tri}
use Rattle.funnels.proofs.Bends.BendTurnings.{bend_of_turnings, turnings_of_bend}
use Rattle.funnels.proofs.Bends.FanCones.{cone_of_fan, cone_grows}
use Rattle.funnels.proofs.Bends.Fans.{turning_of_fan, fan_in_half_plane}
use Rattle.funnels.proofs.Bends.SameRays.{AreOnRay, on_ray_back, turning_from_ray, level_is_vertex, ray_ahead, ray_behind, HasTwoRays}
use Rattle.funnels.proofs.Bends.SameRays.{two_rays}
use Rattle.funnels.proofs.Bends.TriangleFans.{corner_in_ring, in_piece, neighbour_differs, last_step}
use Rattle.funnels.proofs.Bends.Turnings.{turning_four, turning_swap}
use Rattle.funnels.proofs.Vertices.{IsSharedSide, fitted_long, fitted_simple, off_shared}
use Rattle.funnels.specs.Corner.{HasCornerOn}
use Rattle.funnels.specs.Fan.{AllNotRight, IsTurning, IsLastStep}
use Rattle.funnels.specs.Fanned.{IsOpenToward, turning, IsFanned, IsNextTo}

-- directions of one closed half-plane
all_not_right : (f : Triple → Triple → ℤ) (q : Triple) (P : Triple → Type 0) → ((z : Triple) → P z → pos 0 ≤ℤ f q z) → (ds : List Triple)
    → All P ds → AllNotRight f q ds
all_not_right f q P half [] all = tt
all_not_right f q P half (d ∷ ds) all =
    (half d (All-head P d ds all), all_not_right f q P half ds (All-tail P d ds all))

-- not all points are in line with v and another point
some_turning : (side : Bool) (v q : Point) → ¬ (v ≡ q) → ¬ (turning side v (whole q) (whole (left_of v q)) ≡ pos 0)
some_turning true v q differ none = let left = left_of_is_left v q differ in omega (arith, ints)
some_turning false v q differ none = let left = left_of_is_left v q differ in omega (arith, ints)

-- what is right of no edge at a vertex is not right of the way to that neighbour, or on the other side not left of it
not_behind : (side : Bool) (ring : List Point) (g : ℕ) (v : Point) (z : Triple)
    → (¬ IsRight (whole (vertex ring (g + (length ring - 1)))) (whole v) z) × (¬ IsRight (whole v) (whole (vertex ring (g + 1))) z)
    → pos 0 ≤ℤ turning side v (whole (vertex_beside side ring g)) z
not_behind true ring g v z h = at_least_unless h.1
not_behind false ring g v z h =
    opposite_not_negative
    (turned_not_positive (determinant_swap_first (whole (vertex ring (g + (length ring - 1)))) (whole v) z) (at_least_unless h.0))

module _ (ring : List Point) (simple : IsSimple ring) (three : 3 ≤ length ring) (runs : IsCounterclockwise ring) (g : ℕ)
    (h : g < length ring) (v : Point) (is : v ≡ vertex ring g) where
  module _ (convex : ¬ IsReflex ring g) where
    -- a point that the vertex sees is right of no edge there,
    right_of_none : (z : Triple) → IsOpenToward ring v z
        → (¬ IsRight (whole (vertex ring (g + (length ring - 1)))) (whole v) z) × (¬ IsRight (whole v) (whole (vertex ring (g + 1))) z)
    right_of_none =
        subst (λ (p : Point). (z : Triple) → IsOpenToward ring p z
        → (¬ IsRight (whole (vertex ring (g + (length ring - 1)))) (whole p) z) × (¬ IsRight (whole p) (whole (vertex ring (g + 1))) z))
        (sym is)
        (λ z seen. convex_vertex ring simple three runs g h convex z seen.0
        (λ n.
        let V = whole (vertex ring g) in
        let at_V = whole_is_point (vertex ring g) in
        seen.1 (toward V z n) (toward_is_point V z at_V seen.0 n) (toward_on V z at_V seen.0 n)))

    -- so steps to such points turn by a half turn at most
    pub narrow_fan : (side : Bool) (p y : Triple) (ds : List Triple) → IsOpenToward ring v p → All (IsOpenToward ring v) ds
        → IsOpenToward ring v y → IsTurning (turning side v) p ds y → pos 0 ≤ℤ turning side v p y
    narrow_fan side p y ds open_p open_ds open_y turns =
        let q = vertex_beside side ring g in
        let half = λ (z : Triple) (seen : IsOpenToward ring v z). not_behind side ring g v z (right_of_none z seen) in
        fan_in_half_plane (turning side v) (turning_four side v) (whole q) (whole (left_of v q))
        (some_turning side v q (λ same. beside_differs ring simple three g h side (sym same ∙ is))) p y ds turns (half p open_p)
        (all_not_right (turning side v) (whole q) (IsOpenToward ring v) half ds open_ds) (half y open_y)

-- ---- A fan at a vertex of a simple ring that turns by more than a half turn makes a bend there

-- the fan of a ray starts on the ray
pub base_on_ray : (side : Bool) (ring : List Point) (v x : Point) (r : Triple) (fanned : IsFanned side ring v (whole x) r) → ¬ (x ≡ v)
    → AreOnRay (whole v) fanned.base (whole x)
base_on_ray side ring v x r fanned differ = record {
  first_rational = fanned.base_open.0;
  last_rational = whole_is_point x;
  first_differs = fanned.base_differs;
  last_differs = λ same. differ (same_whole x v same);
  on_ray = fanned.on_ray;
}

-- a vertex is not reflex where the turn is not to the right
pub not_reflex : (ring : List Point) (g : ℕ) → IsCounterclockwise ring → pos 0 ≤ℤ turn_at ring g → ¬ IsReflex ring g
not_reflex ring g runs least (inl h) = not_both h.1 least
not_reflex ring g runs least (inr h) = let clockwise = h.0 in omega (arith, ints)

module _ (ring : List Point) (simple : IsSimple ring) (three : 3 ≤ length ring) (runs : IsCounterclockwise ring) (g : ℕ)
    (h : g < length ring) (side : Bool) (v : Point) (is : v ≡ vertex ring g) (x y : Point) (r : Triple)
    (fanned : IsFanned side ring v (whole x) r) (last : IsLastStep (turning side v) (IsNextTo ring v) r (whole y))
    (seen : IsOpenToward ring v (whole y)) (differ : ¬ (x ≡ v)) (wide : turning side v (whole x) (whole y) <ℤ pos 0) where
  -- it turns by more than a half turn from its base,
  wide_from_base : turning side v fanned.base (whole y) <ℤ pos 0
  wide_from_base =
      (turning_from_ray v side (whole x) fanned.base (whole y) (on_ray_back (base_on_ray side ring v x r fanned differ))).negative wide

  -- so the vertex is reflex,
  reflex_of_fan : IsReflex ring g
  reflex_of_fan = elim (lt_or_le (turn_at ring g) (pos 0)) [
    | inl right ↦ inl (runs, right)
    | inr least ↦
        let turns = turning_of_fan (turning side v) (IsNextTo ring v) fanned.base r (whole y) fanned.directions fanned.fan last.ahead in
        absurd (not_both wide_from_base
        (narrow_fan ring simple three runs g h v is (not_reflex ring g runs least) side fanned.base (whole y) fanned.directions
        fanned.base_open fanned.all_open seen turns))
  ]

  -- its neighbours are in the closed cone that is left,
  cone_left : (u : Point) → AreNeighbours ring v u
      → (turning side v (whole x) (whole u) ≤ℤ pos 0) × (turning side v (whole u) (whole y) ≤ℤ pos 0)
  cone_left u n =
      let cone = cone_of_fan (turning side v) (turning_swap side v) (turning_four side v) (IsNextTo ring v) fanned.base r (whole y)
      fanned.directions fanned.fan last wide_from_base (whole u) (u, n, refl) in (
        (turning_from_ray v side fanned.base (whole x) (whole u) (base_on_ray side ring v x r fanned differ)).not_positive cone.0,
        cone.1,
      )

  -- and the way from x over the vertex to y has a bend
  pub bend_of_fan : IsBend ring x v y
  bend_of_fan =
      bend_of_turnings side ring x v y wide (record { i = g; in_ring = h; is_vertex = sym is; reflex = reflex_of_fan }) cone_left

-- ---- numbers

-- the relation of four directions, where the last two are in line with the first, and the second is not: these are in line
in_line : (ab ac ad bc bd cd : ℤ) → ab *ℤ cd -ℤ ac *ℤ bd +ℤ ad *ℤ bc ≡ pos 0 → ¬ (ab ≡ pos 0) → ac ≡ pos 0 → ad ≡ pos 0 → cd ≡ pos 0
in_line ab ac ad bc bd cd e some hac had =
    let middle = product_zero bd hac in
    let last = product_zero bc had in
    factor_zero ab cd some (omega (arith, ints))

-- ---- the bend

module _ (side : Bool) (ring : List Point) (q v r : Point) (bend : IsBend ring q v r) (wide : turning side v (whole q) (whole r) <ℤ pos 0)
    (differ : (u : Point) → AreNeighbours ring v u → ¬ IsSame (whole u) (whole v))
    (off : (u : Point) → AreNeighbours ring v u → ¬ (On (whole u) (whole v) (whole r) ⊎ On (whole r) (whole v) (whole u))) where
  -- no neighbour is in line with the last ray,
  not_level : (u : Point) → AreNeighbours ring v u → ¬ (turning side v (whole r) (whole u) ≡ pos 0)
  not_level u n level = elim (sign (turning side v (whole q) (whole u))) [
    | is_positive h ↦ not_both_positive h (turnings_of_bend side ring q v r wide bend u n).0
    | is_negative h ↦ off u n (ray_behind side v (whole q) (whole r) (whole u) (whole_is_point r) (whole_is_point u) level wide h)
    | is_zero h ↦
        differ u n (level_is_vertex side v (whole r) (whole q) (whole u) (turned_positive (turning_swap side v (whole q) (whole r)) wide)
        level (turned_zero (turning_swap side v (whole q) (whole u)) h))
  ]

  -- so all are ahead of it,
  ahead : (u : Point) → AreNeighbours ring v u → pos 0 <ℤ turning side v (whole r) (whole u)
  ahead u n = elim (sign (turning side v (whole r) (whole u))) [
    | is_positive h ↦ h
    | is_zero h ↦ absurd (not_level u n h)
    | is_negative h ↦
        absurd (not_both h
        (turned_not_negative (turning_swap side v (whole u) (whole r)) (turnings_of_bend side ring q v r wide bend u n).1))
  ]

  module _ (y : Point) (step : IsLastStep (turning side v) (IsNextTo ring v) (whole r) (whole y)) where
    -- and after the step they are still in the angle, and in line with its sides where these are in line
    grown : (u : Point) → AreNeighbours ring v u
        → (turning side v (whole q) (whole y) ≤ℤ pos 0) × (turning side v (whole u) (whole y) ≤ℤ pos 0)
        × (turning side v (whole q) (whole y) ≡ pos 0
        → (turning side v (whole q) (whole u) ≡ pos 0) × (turning side v (whole y) (whole u) ≡ pos 0))
    grown u n =
        cone_grows (turning side v) (turning_swap side v) (turning_four side v) (IsNextTo ring v) (whole q) (whole r) (whole y) wide
        (λ z m. subst (λ (x : Triple). turning side v (whole q) x ≤ℤ pos 0) (sym m.2)
        (turnings_of_bend side ring q v r wide bend m.0 m.1).0)
        (λ z m. subst (λ (x : Triple). pos 0 <ℤ turning side v (whole r) x) (sym m.2) (ahead m.0 m.1))
        step (whole u) (u, n, refl)

    -- but these are not, since two neighbours are on two rays,
    pub still_wide : HasTwoRays ring v → turning side v (whole q) (whole y) <ℤ pos 0
    still_wide rays = elim (sign (turning side v (whole q) (whole y))) [
      | is_negative h ↦ h
      | is_positive h ↦ absurd (not_both_positive h (grown rays.first rays.first_next).0)
      | is_zero h ↦
          let a = rays.first in
          let b = rays.last in
          let level_a = ((grown a rays.first_next).2 h).0 in
          let level_b = ((grown b rays.last_next).2 h).0 in
          let level = in_line _ _ _ _ _ _ (turning_four side v (whole q) (whole r) (whole b) (whole a)) (negative_not_zero wide)
          level_b level_a in
          absurd (rays.two (ray_ahead side v (whole r) (whole b) (whole a) (whole_is_point b) (whole_is_point a) level
          (ahead b rays.last_next) (ahead a rays.first_next)))
    ]

    -- so there is a bend to the end of the step
    pub bend_after_step : HasTwoRays ring v → IsBend ring q v y
    bend_after_step rays =
        bend_of_turnings side ring q v y (still_wide rays) bend.reflex
        (λ u n. ((turnings_of_bend side ring q v r wide bend u n).0, (grown u n).1))

module _ (corners : List Point) (tris : List Tri) (fits : Fits corners tris) (k : ℕ) (within : k < length tris)
    (side : Bool) (before v after : ℕ) (corner : HasCornerOn side (tri_at tris k) before v after) where
  -- the corner, and that after it
  abbrev V : Point
  V = vertex corners v

  abbrev A : Point
  A = vertex corners after

  module _ (shared : IsSharedSide tris v after) (q z : Point) (bend : IsBend corners q V A)
      (wide : turning side V (whole q) (whole A) <ℤ pos 0)
      (inside : IsInTri corners (tri_at tris k) (whole z)) (ahead : pos 0 <ℤ turning side V (whole A) (whole z)) where
    -- the neighbours of the corner are on two rays,
    rays : HasTwoRays corners V
    rays =
        two_rays corners (fitted_simple corners tris fits) (fitted_long corners tris fits) v
        (corner_in_ring corners tris fits k within side before v after corner)

    -- and none is on the ray along the shared side
    off_side : (u : Point) → AreNeighbours corners V u → ¬ (On (whole u) (whole V) (whole A) ⊎ On (whole A) (whole V) (whole u))
    off_side u n = off_shared corners (range_with_len 0 (length corners)) tris fits v after shared u (in_piece corners tris fits V u n)

    -- so the way to z, in the triangle and ahead of the side, turns the same way,
    pub grown_turning : turning side V (whole q) (whole z) <ℤ pos 0
    grown_turning =
        still_wide side corners q V A bend wide (neighbour_differs corners tris fits v) off_side z
        (last_step corners tris fits k within side before v after corner (whole z) inside ahead) rays

    -- and bends
    pub grown_bend : IsBend corners q V z
    grown_bend =
        bend_after_step side corners q V A bend wide (neighbour_differs corners tris fits v) off_side z
        (last_step corners tris fits k within side before v after corner (whole z) inside ahead) rays

-- the relation of q, z, u and y, where u is not ahead of q nor behind z, and y is behind q and not ahead of z: y is not ahead of u
not_ahead : (qz uy qu zy qy zu : ℤ) → qz *ℤ uy -ℤ qu *ℤ zy +ℤ qy *ℤ zu ≡ pos 0 → qz <ℤ pos 0 → qu ≤ℤ pos 0 → qy <ℤ pos 0
    → pos 0 ≤ℤ zu → zy ≤ℤ pos 0 → uy ≤ℤ pos 0
not_ahead qz uy qu zy qy zu e hqz hqu hqy hzu hzy = elim (lt_or_le (pos 0) uy) [
  | inr h ↦ h
  | inl h ↦
      let first = mul_negative uy qz h hqz in
      let middle = mul_nonpositives qu zy hqu hzy in
      let last = mul_nonpositive zu qy hzu (weak_order hqy) in
      absurd (omega (arith, ints))
]

-- where the way from q over v to z has a bend at v, so has that to each y which is behind q and not ahead of z
pub wider_bend : (side : Bool) (ring : List Point) (q v z y : Point) → IsBend ring q v z → turning side v (whole q) (whole z) <ℤ pos 0
    → turning side v (whole q) (whole y) <ℤ pos 0 → turning side v (whole z) (whole y) ≤ℤ pos 0 → IsBend ring q v y
wider_bend side ring q v z y bend wide wider beyond =
    bend_of_turnings side ring q v y wider bend.reflex
    (λ u n.
    let (first, last) = turnings_of_bend side ring q v z wide bend u n in (
      first,
      not_ahead _ _ _ _ _ _ (turning_four side v (whole q) (whole z) (whole u) (whole y)) wide first wider
          (turned_not_negative (turning_swap side v (whole u) (whole z)) last) beyond,
    ))
