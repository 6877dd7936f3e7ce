-- In any tiling of a piece its least vertex has a side to the farthest vertex in the corner there.
use Rattle.std.proofs.Common.{◌≡◌, ◌≢◌, inl, inr, refl, sym, ap, subst, ◌∙◌, ℕ, ◌-◌, ◌<◌, ℤ, pos, ◌<ℤ◌, ◌≤ℤ◌, List}
use Rattle.std.proofs.Common.{[], ◌∷◌, ◌++◌, length, get_or, arith}
use Rattle.std.proofs.lemmas.Int.{ints}
use Rattle.std.proofs.lemmas.List.{get_or_at, length-append}
use Rattle.std.proofs.lemmas.List.Elements.{Contains-get_or}
use Rattle.std.specs.List.{Contains}
use Rattle.integer_algebra.proofs.SignSteps.{at_least_unless, not_below, positive_not_zero}
use Rattle.integer_algebra.proofs.SignSteps.{positive_of_not_zero, weak}
use Rattle.plane.proofs.Points.{whole_is_point}
use Rattle.plane.proofs.Turns.{determinant_same_ends, determinant_same_last}
use Rattle.plane.specs.Order.{IsBefore}
use Rattle.plane.specs.Point.{Point, whole}
use Rattle.plane.specs.Segment.{On}
use Rattle.plane.specs.Triangle.{IsInTriangle, height_over}
use Rattle.plane.specs.Turn.{IsLeft}
use Rattle.rings.specs.Ring.{vertex}
use Rattle.ring_laws.proofs.Triangles.{in_triangle, left_of_first}
use Rattle.ring_laws.proofs.Triangles.{on_second_side}
use Rattle.meshes.proofs.Boundaries.{IsPartTiling}
use Rattle.meshes.proofs.Joins.{place_of}
use Rattle.meshes.proofs.Sides.{edge_of_step, left_apart, one_number, step_after}
use Rattle.meshes.specs.declared.tri.Tri.{Tri}
use Rattle.cut_tri.specs.Cut.{IsFarthest, IsPlaceInCorner, height_at}
use Rattle.flip_tri.proofs.CornersInTiles.{end_of_edge}
use Rattle.flip_tri.proofs.HighestInFans.{IsHighest, IsInAngle, IsOther, side_of_fan}
use Rattle.flip_tri.specs.Fan.{Fan, IsAbout}

-- a number above one that is not negative is positive
positive_above : {h k : ℤ} → ¬ (h <ℤ pos 0) → h <ℤ k → pos 0 <ℤ k
positive_above low high = above (at_least_unless low) high
  where
    above : {h k : ℤ} → pos 0 ≤ℤ h → h <ℤ k → pos 0 <ℤ k
    above low high = omega (arith, ints)

module _ (corners : List Point) (tris : List Tri) (v w : ℕ) (ms : List ℕ) (u : ℕ) (P : ℕ → Type 0)
    (tiling : IsPartTiling corners (v ∷ w ∷ (ms ++ u ∷ [])) tris P)
    (left : IsLeft (whole (vertex corners u)) (whole (vertex corners v)) (whole (vertex corners w)))
    (place : ℕ) (far : IsFarthest corners (v ∷ w ∷ (ms ++ u ∷ [])) place) where
  -- the piece, and the farthest vertex
  abbrev piece : List ℕ
  piece = v ∷ w ∷ (ms ++ u ∷ [])

  abbrev z : ℕ
  z = get_or piece place 0

  -- its last number is u
  last_is : get_or piece (length piece - 1) 0 ≡ u
  last_is = get_or_at (v ∷ w ∷ ms) u [] 0 (length piece - 1) (omega (arith, length-append ms (u ∷ [])))

  -- the three are different points
  apart : (whole (vertex corners u) ≢ whole (vertex corners v)) × (whole (vertex corners v) ≢ whole (vertex corners w))
      × (whole (vertex corners w) ≢ whole (vertex corners u))
  apart = left_apart (whole (vertex corners u)) (whole (vertex corners v)) (whole (vertex corners w)) left

  -- u and w are others than v
  w_other : IsOther piece v w
  w_other = record { member = Contains-get_or piece 1 0 (omega arith); not_first = λ e. apart.1 (ap (λ i. whole (vertex corners i)) (sym e)) }

  u_other : IsOther piece v u
  u_other = record {
    member = subst (Contains piece) last_is (Contains-get_or piece (length piece - 1) 0 (omega arith));
    not_first = λ e. apart.0 (ap (λ i. whole (vertex corners i)) e);
  }

  -- z is in the triangle there,
  z_inside : IsInTriangle (vertex corners u) (vertex corners v) (vertex corners w) (whole (vertex corners z))
  z_inside = subst (λ i. IsInTriangle (vertex corners i) (vertex corners v) (vertex corners w) (whole (vertex corners z))) last_is far.in_corner.in_triangle

  -- and a vertex of the piece,
  z_within : place < length piece
  z_within = omega (arith, far.in_corner.before_last)

  z_member : Contains piece z
  z_member = Contains-get_or piece place 0 z_within

  -- which is none of the three
  z_differs : (k : ℕ) → k < length piece → ¬ (place ≡ k) → ¬ (z ≡ get_or piece k 0)
  z_differs k in_k differ e = differ (one_number corners piece tiling.cover.simple place k z_within in_k e)

  not_v : ¬ (z ≡ v)
  not_v = z_differs 0 (omega arith) (λ e. omega (arith, e, far.in_corner.after_second))

  not_w : ¬ (z ≡ w)
  not_w = z_differs 1 (omega arith) (λ e. omega (arith, e, far.in_corner.after_second))

  not_u : ¬ (z ≡ u)
  not_u e = z_differs (length piece - 1) (omega arith) (λ e. omega (arith, e, far.in_corner.before_last)) (e ∙ sym last_is)

  -- so it is on neither edge at v
  off_first : ¬ (On (whole (vertex corners z)) (whole (vertex corners u)) (whole (vertex corners v)))
  off_first on = elim (end_of_edge corners piece tris P tiling z z_member u v u_other.member (Contains-get_or piece 0 0 (omega arith))
      (edge_of_step v (w ∷ (ms ++ u ∷ [])) u v (step_after u [] v u v v (w ∷ ms) (refl, refl))) on) [ inl e ↦ not_u e | inr e ↦ not_v e ]

  off_second : ¬ (On (whole (vertex corners z)) (whole (vertex corners v)) (whole (vertex corners w)))
  off_second on = elim (end_of_edge corners piece tris P tiling z z_member v w (Contains-get_or piece 0 0 (omega arith)) w_other.member
      (edge_of_step v (w ∷ (ms ++ u ∷ [])) v w (inl (refl, refl))) on) [ inl e ↦ not_v e | inr e ↦ not_w e ]

  -- how far a vertex is from the line
  abbrev height_of : ℕ → ℤ
  height_of i = height_over (vertex corners u) (vertex corners w) (whole (vertex corners i))

  -- a higher vertex in the angle is at a place in the corner,
  in_corner_above : (k : ℕ) → k < length piece → ¬ (get_or piece k 0 ≡ v) → IsInAngle corners u v w (get_or piece k 0)
      → height_of z <ℤ height_of (get_or piece k 0) → IsPlaceInCorner corners piece k
  in_corner_above k in_k differs angle high =
      let positive = positive_above z_inside.not_right_of_third high in
      let number : ℕ → ℕ = λ n. get_or piece n 0 in
      let x = whole (vertex corners (number k)) in
      let not_zero : ¬ (k ≡ 0) = λ e. differs (ap number e) in
      let not_one : ¬ (k ≡ 1) = λ e. positive_not_zero positive
      (ap height_of (ap number e) ∙ determinant_same_ends (whole (vertex corners w)) (whole (vertex corners u))) in
      let not_end : ¬ (k ≡ length piece - 1) = λ e. positive_not_zero positive
      (ap height_of (ap number e ∙ last_is) ∙ determinant_same_last (whole (vertex corners w)) (whole (vertex corners u))) in
      record {
        after_second = omega (arith, not_zero, not_one);
        before_last = omega (arith, in_k, not_end);
        in_triangle = subst (λ n. IsInTriangle (vertex corners n) (vertex corners v) (vertex corners w) x) (sym last_is)
            (in_triangle (vertex corners u) (vertex corners v) (vertex corners w) x angle.before_last angle.after_second (weak positive));
      }

  -- so there is none
  none_above : (i : ℕ) → IsOther piece v i → IsInAngle corners u v w i → ¬ (height_of z <ℤ height_of i)
  none_above i is angle high =
      let (k, in_k, at_k) = place_of piece i is.member in
      let place_is = in_corner_above k in_k (λ e. is.not_first (sym at_k ∙ e)) (subst (IsInAngle corners u v w) (sym at_k) angle)
      (subst (λ n. height_of z <ℤ height_of n) (sym at_k) high) in
      let heights = λ (n : ℕ). ap (λ j. height_over (vertex corners j) (vertex corners w) (whole (vertex corners (get_or piece n 0)))) last_is in
      not_below
      (subst (λ y. y ≤ℤ height_of z) (heights k ∙ ap height_of at_k)
      (subst (λ y. height_at corners piece k ≤ℤ y) (heights place) (far.farthest k place_is)))
      high

  -- it is the highest in the angle
  is_highest : IsHighest corners piece u v w z
  is_highest = let a = vertex corners u in let b = vertex corners v in let c = vertex corners w in record {
    other = record { member = z_member; not_first = not_v };
    before_last = left_of_first a b c left (whole (vertex corners z)) (whole_is_point (vertex corners z)) z_inside off_first;
    after_second = positive_of_not_zero (at_least_unless z_inside.not_right_of_second)
        (λ e. off_second (on_second_side a b c left (whole (vertex corners z)) (whole_is_point (vertex corners z)) z_inside e));
    none_higher = none_above;
  }

-- in a tiling of a piece, read from its least vertex v on, v has a side to the farthest vertex in the corner
pub farthest_side : (corners : List Point) (tris : List Tri) (v w : ℕ) (ms : List ℕ) (u : ℕ) (P : ℕ → Type 0)
    → IsPartTiling corners (v ∷ w ∷ (ms ++ u ∷ [])) tris P
    → ((i : ℕ) → Contains (v ∷ w ∷ (ms ++ u ∷ [])) i → ¬ (i ≡ v) → IsBefore (vertex corners v) (vertex corners i))
    → IsLeft (whole (vertex corners u)) (whole (vertex corners v)) (whole (vertex corners w))
    → Fan tris P v u w
    → (place : ℕ) → IsFarthest corners (v ∷ w ∷ (ms ++ u ∷ [])) place
    → (c : ℕ) × IsAbout tris P v (get_or (v ∷ w ∷ (ms ++ u ∷ [])) place 0) c
farthest_side corners tris v w ms u P tiling least left fan place far =
    side_of_fan corners (v ∷ w ∷ (ms ++ u ∷ [])) tris P tiling u v w least
    (u_other corners tris v w ms u P tiling left place far) (w_other corners tris v w ms u P tiling left place far)
    (get_or (v ∷ w ∷ (ms ++ u ∷ [])) place 0) (is_highest corners tris v w ms u P tiling left place far) fan
