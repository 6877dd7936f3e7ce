-- A point that a corner of a triangle of a mesh sees across the opposite side is within the angle of the triangle there.
-- Within the angle of a triangle of a mesh at a corner: a ring neighbour of the corner there is the end of a side, along which the ring goes
-- as the triangle does, and so there is no bend between two rays.
-- The closed cone between two rays within the angle of a triangle is within it.
use Rattle.std.proofs.Common.{◌≡◌, ◌⊎◌, inl, inr, Bool, true, subst, ℕ, ◌<◌, List, length, arith, ℤ, pos, ◌+ℤ◌, ◌-ℤ◌, ◌*ℤ◌, ◌<ℤ◌, ◌≤ℤ◌}
use Rattle.std.proofs.Common.{false, sym, ap, ◌∙◌, ◌+◌}
use Rattle.std.proofs.lemmas.Int.{ints}
use Rattle.std.specs.List.{range_with_len}
use Rattle.integer_algebra.proofs.Laws.{mul_comm}
use Rattle.integer_algebra.proofs.SignSteps.{at_least_unless, at_most_unless, turned_not_negative, turned_positive, not_both, weak}
use Rattle.integer_algebra.proofs.Signs.{factor_nonnegative, mul_nonnegative, is_negative, is_positive, is_zero, sign}
use Rattle.plane.proofs.Lists.{in_range}
use Rattle.plane.proofs.Points.{same_whole, whole_is_point}
use Rattle.plane.proofs.Segments.{on_is_straight, on_reversed, on_same_point, on_last_end}
use Rattle.plane.proofs.Turns.{determinant_shift, determinant_swap_last}
use Rattle.plane.specs.Cone.{IsInCone}
use Rattle.plane.specs.Prelude.{IsLeft, IsPoint, IsSame, On, Point, Triple, whole}
use Rattle.rings.specs.Prelude.{AreNeighbours, IsBend, IsReflex, turn_at, vertex}
use Rattle.ring_laws.proofs.Diagonals.{AreBoth}
use Rattle.ring_laws.proofs.Vertices.{neighbour_is}
use Rattle.meshes.proofs.Parts.{side_in, paved, one_vertex, side_numbers}
use Rattle.meshes.proofs.Sides.{edge_or_not, ends_below}
use Rattle.meshes.proofs.TreeLeaves.{side_is_one, turns_left}
use Rattle.meshes.specs.Prelude.{Fits, HasSide, HasSideBetween, IsPieceEdge, IsSideOfTwo, tri_at}
use Rattle.meshes.specs.declared.tri.Tri.{Tri}
use Rattle.funnels.proofs.Bends.{AreOnRay, corner_turns, in_angle, turning_from_ray, turning_to_ray, turning_four, in_piece}
use Rattle.funnels.proofs.Bends.{neighbour_differs, not_inside, on_after, on_before, corner_in_ring, not_ahead_of_itself, not_reflex}
use Rattle.funnels.proofs.Bends.{two_rays}
use Rattle.funnels.proofs.Corners.CornerPoints.{corner_before}
use Rattle.funnels.proofs.Corners.RingTurns.{IsRingStep, one_on_ray, step_neighbours, step_vertex}
use Rattle.funnels.proofs.Vertices.{IsSharedSide, fitted_long, fitted_simple, off_shared, fitted_counterclockwise}
use Rattle.funnels.specs.Corner.{HasCornerOn, IsInAngle}
use Rattle.funnels.specs.Fanned.{turning}

-- what is on one ray from a corner with a point within its angle is within it
pub within_on_ray : (side : Bool) (corners : List Point) (before v after : ℕ) (x y : Triple) → AreOnRay (whole (vertex corners v)) x y
    → IsInAngle side corners before v after x → IsInAngle side corners before v after y
within_on_ray side corners before v after x y ray within =
    let at = vertex corners v in
    record {
      from_after = (turning_to_ray at side x y (whole (vertex corners after)) ray).not_negative within.from_after;
      to_before = (turning_from_ray at side x y (whole (vertex corners before)) ray).not_negative within.to_before;
    }

module _ (corners : List Point) (tris : List Tri) (fits : Fits corners tris) (k before v after : ℕ) (within : k < length tris)
    (corner : HasCornerOn true (tri_at tris k) before v after) where
  -- each side is at v or opposite
  pub side_at_corner : (i j : ℕ) → HasSideBetween (tri_at tris k) i j → (i ≡ v) ⊎ (j ≡ v) ⊎ AreBoth after before i j
  side_at_corner i j between =
      let one = side_is_one corners (tri_at tris k) (fits.triangles k within).counterclockwise before v after corner.0 corner.1 in
      elim between [
        | inl s ↦ elim (one i j s) [ inl e ↦ inr (inl e.1) | inr (inl e) ↦ inl e.0 | inr (inr e) ↦ inr (inr (inl e)) ]
        | inr s ↦ elim (one j i s) [ inl e ↦ inl e.1 | inr (inl e) ↦ inr (inl e.0) | inr (inr e) ↦ inr (inr (inr (e.1, e.0))) ]
      ]

  -- v is not on the opposite side
  off_opposite : ¬ On (whole (vertex corners v)) (whole (vertex corners after)) (whole (vertex corners before))
  off_opposite on =
      let A = vertex corners after in
      let B = vertex corners before in
      let V = vertex corners v in
      let turns = corner_turns corners tris fits k within true before v after corner in
      let straight = on_is_straight (whole V) (whole A) (whole B) (whole_is_point V) (whole_is_point A) (whole_is_point B) on in
      let shift = determinant_shift (whole V) (whole A) (whole B) in
      omega (arith, ints)

  -- nor is a point of that side v
  off_corner : (z : Triple) → IsPoint z → On z (whole (vertex corners after)) (whole (vertex corners before)) → ¬ IsSame z (whole (vertex corners v))
  off_corner z at_z on same = off_opposite (on_same_point at_z same on)

  -- so what is seen from v across the opposite side is within the angle,
  seen_across : (y : Point) → ¬ (y ≡ vertex corners v) → (z : Triple) → IsPoint z → On z (whole (vertex corners v)) (whole y)
      → On z (whole (vertex corners after)) (whole (vertex corners before)) → IsInAngle true corners before v after (whole y)
  seen_across y differs z at_z on side =
      let V = vertex corners v in
      let opposite = (corner_before corners tris fits k within true before v after corner).0 in
      let inside = in_angle corners tris fits k within true before v after corner z
      (side_in corners (range_with_len 0 (length corners)) tris (paved fits) k after before within (inl opposite) z at_z side) in
      let ray : AreOnRay (whole V) z (whole y) = record {
        first_rational = at_z;
        last_rational = whole_is_point y;
        first_differs = off_corner z at_z side;
        last_differs = λ same. differs (same_whole y V same);
        on_ray = inl on;
      } in
      within_on_ray true corners before v after z (whole y) ray inside

  -- whichever of its ends is the first
  pub within_of_seen : (y : Point) → ¬ (y ≡ vertex corners v) → (z : Triple) → IsPoint z → On z (whole (vertex corners v)) (whole y)
      → (i j : ℕ) → AreBoth after before i j → On z (whole (vertex corners i)) (whole (vertex corners j)) → IsInAngle true corners before v after (whole y)
  within_of_seen y differs z at_z on i j (inl e) side =
      let on_side = subst (λ m. On z (whole (vertex corners m)) (whole (vertex corners j))) e.0 side in
      seen_across y differs z at_z on (subst (λ n. On z (whole (vertex corners after)) (whole (vertex corners n))) e.1 on_side)
  within_of_seen y differs z at_z on i j (inr e) side =
      let on_side = subst (λ m. On z (whole (vertex corners m)) (whole (vertex corners j))) e.0 side in
      let on_sides = subst (λ n. On z (whole (vertex corners before)) (whole (vertex corners n))) e.1 on_side in
      seen_across y differs z at_z on (on_reversed z (whole (vertex corners before)) (whole (vertex corners after)) on_sides)

-- ---- numbers

-- a factor of a sum of two products that are not negative
middle_factor : (l m n s t u : ℤ) → l *ℤ m -ℤ n *ℤ s +ℤ t *ℤ u ≡ pos 0 → pos 0 ≤ℤ l → pos 0 ≤ℤ m → pos 0 ≤ℤ t → pos 0 ≤ℤ u → pos 0 ≤ℤ (n *ℤ s)
middle_factor l m n s t u four h k f g = let one = mul_nonnegative l m h k in let two = mul_nonnegative t u f g in omega (arith, ints)

-- ---- cones

module _ (corners : List Point) (before v after : ℕ) where
  -- what is left of p, or ahead of it, and has q left or ahead, where q is left of p
  within_between : (p q u : Triple) → IsInAngle true corners before v after p → IsInAngle true corners before v after q
      → pos 0 <ℤ turning true (vertex corners v) p q → pos 0 ≤ℤ turning true (vertex corners v) p u → pos 0 ≤ℤ turning true (vertex corners v) u q
      → IsInAngle true corners before v after u
  within_between p q u in_p in_q left pu uq =
      let V = vertex corners v in
      let a = whole (vertex corners after) in
      let b = whole (vertex corners before) in
      let at = turning true V in
      let first = middle_factor (at a p) (at u q) (at a u) (at p q) (at a q) (at p u) (turning_four true V a p u q) in_p.from_after uq in_q.from_after pu in
      let last = middle_factor (at p u) (at q b) (at p q) (at u b) (at p b) (at u q) (turning_four true V p u q b) pu in_q.to_before in_p.to_before uq in
      record {
        from_after = factor_nonnegative (at p q) (at a u) left (omega (arith, ints, first, mul_comm (at a u) (at p q)));
        to_before = factor_nonnegative (at p q) (at u b) left last;
      }

  -- so what is in the cone between p and q is within the angle where they are
  pub within_cone : (p q u : Triple) → IsInAngle true corners before v after p → IsInAngle true corners before v after q
      → IsInCone (whole (vertex corners v)) p q u → IsInAngle true corners before v after u
  within_cone p q u in_p in_q (inl h) = within_between p q u in_p in_q h.0 (at_least_unless h.1) (at_least_unless h.2)
  within_cone p q u in_p in_q (inr h) =
      let V = whole (vertex corners v) in
      within_between q p u in_q in_p (turned_positive (determinant_swap_last V p q) h.0)
      (turned_not_negative (determinant_swap_last V u q) (at_most_unless h.2))
      (turned_not_negative (determinant_swap_last V p u) (at_most_unless h.1))

-- neighbour u of corner v is the corner after it in a triangle, or the one before it, and so it is in the ring
abbrev pub IsBesideCorner : Bool → List Point → (before v after : ℕ) → Point → Type 0
IsBesideCorner side corners before v after u =
    ((u ≡ vertex corners after) × IsRingStep side corners v after) ⊎ ((u ≡ vertex corners before) × IsRingStep side corners before v)

module _ (corners : List Point) (tris : List Tri) (fits : Fits corners tris) (k : ℕ) (in_list : k < length tris) where
  module _ (i j : ℕ) (s : HasSide (tri_at tris k) i j) (u : Point) where
    -- where u is a neighbour of v, on the ray to o: where these are the ends of a side, u is o, and the side is an edge
    along_side : (v o : ℕ) → v < length corners → AreNeighbours corners (vertex corners v) u
        → On (whole u) (whole (vertex corners v)) (whole (vertex corners o))
        ⊎ On (whole (vertex corners o)) (whole (vertex corners v)) (whole u)
        → (IsPieceEdge (range_with_len 0 (length corners)) i j → AreNeighbours corners (vertex corners v) (vertex corners o))
        → ((l : ℕ) → IsSideOfTwo tris i j k l → IsSharedSide tris v o)
        → (u ≡ vertex corners o) × IsPieceEdge (range_with_len 0 (length corners)) i j
    along_side v o in_ring n ray on_edge on_shared =
        let piece = range_with_len 0 (length corners) in
        elim (edge_or_not piece i j) [
          | inl e ↦ (
            one_on_ray corners (fitted_simple corners tris fits) (fitted_long corners tris fits) v in_ring u (vertex corners o) n
                (on_edge e) ray,
            e,
          )
          | inr not ↦
              let (l, two) = fits.inner_sides i j k in_list s not in
              absurd (off_shared corners piece tris fits v o (on_shared l two) u (in_piece corners tris fits (vertex corners v) u n) ray)
        ]

    -- so it is from the first end of a side,
    from_first : AreNeighbours corners (vertex corners i) u
        → On (whole u) (whole (vertex corners i)) (whole (vertex corners j))
        ⊎ On (whole (vertex corners j)) (whole (vertex corners i)) (whole u)
        → (u ≡ vertex corners j) × IsPieceEdge (range_with_len 0 (length corners)) i j
    from_first n ray =
        along_side i j (ends_below corners tris fits k i j in_list s).0 n ray (λ e. (step_neighbours corners i j e).0)
        (λ l two. (k, l, inl two))

    -- and from the last
    from_last : AreNeighbours corners (vertex corners j) u
        → On (whole u) (whole (vertex corners j)) (whole (vertex corners i)) ⊎ On (whole (vertex corners i)) (whole (vertex corners j)) (whole u)
        → (u ≡ vertex corners i) × IsPieceEdge (range_with_len 0 (length corners)) i j
    from_last n ray =
        along_side j i (ends_below corners tris fits k i j in_list s).1 n ray (λ e. (step_neighbours corners i j e).1)
        (λ l two. (k, l, inr two))

  module _ (before v after : ℕ) (u : Point) (n : AreNeighbours corners (vertex corners v) u) where
    -- so a neighbour of a corner on the ray to the corner after it is that,
    along_after : (side : Bool) → HasCornerOn side (tri_at tris k) before v after
        → On (whole u) (whole (vertex corners v)) (whole (vertex corners after)) ⊎ On (whole (vertex corners after)) (whole (vertex corners v)) (whole u)
        → IsBesideCorner side corners before v after u
    along_after true c ray = inl (from_first v after c.1 u n ray)
    along_after false c ray = inl (from_last after v c.1 u n ray)

    -- and one on the ray to the corner before it is that
    along_before : (side : Bool) → HasCornerOn side (tri_at tris k) before v after
        → On (whole u) (whole (vertex corners v)) (whole (vertex corners before)) ⊎ On (whole (vertex corners before)) (whole (vertex corners v)) (whole u)
        → IsBesideCorner side corners before v after u
    along_before true c ray = inr (from_last before v c.0 u n ray)
    along_before false c ray = inr (from_first v before c.0 u n ray)

module _ (corners : List Point) (tris : List Tri) (fits : Fits corners tris) where
  -- a neighbour within the angle of a corner is the corner after it or before it, and the ring goes along that side
  pub neighbour_within : (side : Bool) (k before v after : ℕ) → k < length tris → HasCornerOn side (tri_at tris k) before v after
      → (u : Point) → AreNeighbours corners (vertex corners v) u → IsInAngle side corners before v after (whole u)
      → IsBesideCorner side corners before v after u
  neighbour_within side k before v after in_list corner u n within =
      let V = vertex corners v in
      elim (sign (turning side V (whole (vertex corners after)) (whole u))) [
        | is_negative h ↦ absurd (not_both h within.from_after)
        | is_zero h ↦ along_after corners tris fits k in_list before v after u n side corner
            (on_after corners tris fits k in_list side before v after corner (whole u) (whole_is_point u)
            (neighbour_differs corners tris fits v u n)
            h within.to_before)
        | is_positive h ↦ elim (sign (turning side V (whole u) (whole (vertex corners before)))) [
          | is_negative m ↦ absurd (not_both m within.to_before)
          | is_zero m ↦ along_before corners tris fits k in_list before v after u n side corner
              (on_before corners tris fits k in_list side before v after corner (whole u) (whole_is_point u) h m)
          | is_positive m ↦ absurd (not_inside corners tris fits k in_list side before v after corner u n (h, m))
        ]
      ]

-- ---- there is no bend between two rays within the angle of a triangle of a mesh: the ring turns there as the triangle does

module _ (corners : List Point) (tris : List Tri) (fits : Fits corners tris) (k before v after : ℕ) (within : k < length tris)
    (corner : HasCornerOn true (tri_at tris k) before v after) where
  -- the three corners turn left
  left_turn : IsLeft (whole (vertex corners before)) (whole (vertex corners v)) (whole (vertex corners after))
  left_turn = turns_left corners (tri_at tris k) (fits.triangles k within).counterclockwise before v after corner.0 corner.1

  -- the corners beside v differ
  beside_differ : ¬ (vertex corners before ≡ vertex corners after)
  beside_differ same =
      let V = vertex corners v in
      let A = whole (vertex corners after) in
      not_ahead_of_itself true V A (subst (λ (b : Point). pos 0 <ℤ turning true V A (whole b)) same
      (corner_turns corners tris fits k within true before v after corner))

  module _ (r : ℕ) (in_ring : r < length corners) (is : vertex corners r ≡ vertex corners v) where
    -- v is that number
    number_is : r ≡ v
    number_is =
        let piece = range_with_len 0 (length corners) in
        let ends = side_numbers corners piece tris (paved fits) k v after within (inl corner.1) in
        one_vertex corners piece tris (paved fits) r v (in_range (length corners) r in_ring) ends.0 is

    -- where the ring goes from one side of the triangle to the other, the turn there is the triangle's
    turn_along : IsPieceEdge (range_with_len 0 (length corners)) before v → IsPieceEdge (range_with_len 0 (length corners)) v after
        → pos 0 ≤ℤ turn_at corners r
    turn_along first last =
        let next : vertex corners (r + 1) ≡ vertex corners after =
        ap (λ n. vertex corners (n + 1)) number_is ∙ step_vertex corners v after last in
        let beside = subst (λ x. AreNeighbours corners x (vertex corners before)) (sym is) (step_neighbours corners before v first).1 in
        elim (neighbour_is corners (fitted_simple corners tris fits) (fitted_long corners tris fits) r in_ring (vertex corners before) beside) [
          | inl same ↦
              weak (subst (λ (a : Point). IsLeft (whole a) (whole (vertex corners r)) (whole (vertex corners (r + 1)))) same
              (subst (λ (b : Point). IsLeft (whole (vertex corners before)) (whole b) (whole (vertex corners (r + 1)))) (sym is)
              (subst (λ (c : Point). IsLeft (whole (vertex corners before)) (whole (vertex corners v)) (whole c)) (sym next) left_turn)))
          | inr other ↦ absurd (beside_differ (other ∙ next))
        ]

    -- so v is not reflex
    not_reflex_along : IsPieceEdge (range_with_len 0 (length corners)) before v → IsPieceEdge (range_with_len 0 (length corners)) v after
        → ¬ IsReflex corners r
    not_reflex_along first last = not_reflex corners r (fitted_counterclockwise corners tris fits) (turn_along first last)

    -- two corners beside v on two rays are both of them, and the ring goes along the sides
    not_reflex_between : (x y : Point) → IsBesideCorner true corners before v after x → IsBesideCorner true corners before v after y → ¬ (x ≡ y)
        → ¬ IsReflex corners r
    not_reflex_between x y (inl a) (inl b) differ = absurd (differ (a.0 ∙ sym b.0))
    not_reflex_between x y (inl a) (inr b) differ = not_reflex_along b.1 a.1
    not_reflex_between x y (inr a) (inl b) differ = not_reflex_along a.1 b.1
    not_reflex_between x y (inr a) (inr b) differ = absurd (differ (a.0 ∙ sym b.0))

  -- there is no bend at v between rays within the angle there
  pub no_bend : (p q : Point) → IsInAngle true corners before v after (whole p) → IsInAngle true corners before v after (whole q)
      → ¬ IsBend corners p (vertex corners v) q
  no_bend p q in_p in_q bend =
      let two = two_rays corners (fitted_simple corners tris fits) (fitted_long corners tris fits) v
      (corner_in_ring corners tris fits k within true before v after corner) in
      let beside = λ (u : Point) (n : AreNeighbours corners (vertex corners v) u).
      neighbour_within corners tris fits true k before v after within corner u n
      (within_cone corners before v after (whole p) (whole q) (whole u) in_p in_q (bend.in_cone u n)) in
      let differ : ¬ (two.first ≡ two.last) =
      λ same. two.two (inl (subst (λ (x : Point). On (whole x) (whole (vertex corners v)) (whole two.last)) (sym same) (on_last_end (whole (vertex corners v)) (whole two.last)))) in
      not_reflex_between bend.reflex.i bend.reflex.in_ring bend.reflex.is_vertex two.first two.last (beside two.first two.first_next)
      (beside two.last two.last_next) differ bend.reflex.reflex
