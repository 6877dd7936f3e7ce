-- Two ways that pass a diagonal and part pass the next diagonal too, and part there.
use Rattle.std.proofs.Common.{◌≡◌, Bool, true, false, not, sym, subst, ap, ℕ, ◌<◌, pos, neg_ℤ, ◌<ℤ◌, ◌≤ℤ◌, List, length}
use Rattle.integer_algebra.proofs.SignSteps.{turned_not_negative, turned_positive, weak}
use Rattle.plane.proofs.Points.{whole_is_point}
use Rattle.plane.proofs.Segments.{on_last_end, on_reversed, on_nested}
use Rattle.plane.proofs.Turns.{determinant_shift}
use Rattle.plane.specs.Prelude.{IsPoint, On, Point, Triple, whole}
use Rattle.rings.specs.Prelude.{AreNeighbours, vertex}
use Rattle.meshes.specs.Prelude.{Fits, tri_at}
use Rattle.meshes.specs.declared.tri.Tri.{Tri}
use Rattle.funnels.proofs.Bends.{corner_back, negative_unless, not_swept, turning_not, turning_swap}
use Rattle.funnels.proofs.Corners.{corner_after, corner_before}
use Rattle.funnels.proofs.Passing.BentWays.{other_end_ahead, other_end_not_ahead, rest_ahead, flipped, flipped_back, opening_not}
use Rattle.funnels.proofs.Passing.LastSides.{swept_behind}
use Rattle.funnels.proofs.Vertices.{IsSharedSide, shared_side_back}
use Rattle.funnels.specs.Corner.{HasCornerOn, IsInAngle}
use Rattle.funnels.specs.Fanned.{turning}
use Rattle.funnels.specs.Passing.{ArePassing, Passes}

-- a turning stays as it is where the first point goes to the end
pub turning_shift : (side : Bool) (p h : Point) (c : Triple) → turning side h c (whole p) ≡ turning side p (whole h) c
turning_shift true p h c = determinant_shift (whole p) (whole h) c
turning_shift false p h c = ap neg_ℤ (determinant_shift (whole p) (whole h) c)

module _ (corners : List Point) (tris : List Tri) (fits : Fits corners tris) (side : Bool) (k far own tip : ℕ) (in_list : k < length tris)
    (corner : HasCornerOn side (tri_at tris k) far own tip) (shared : IsSharedSide tris tip far)
    (p h : Point) (I : Type 0) (x : Triple) (q g : Point) (J : Type 0) (z : Triple)
    (passing : ArePassing side corners far own p h I x q g J z) where
  -- the own end is not ahead of the first way,
  own_not_ahead : turning side p (whole h) (whole (vertex corners own)) ≤ℤ pos 0
  own_not_ahead =
      other_end_not_ahead side p h x (whole (vertex corners far)) (whole (vertex corners own)) passing.one.rational
      (whole_is_point (vertex corners far)) (whole_is_point (vertex corners own)) passing.one.on_way passing.one.on_side passing.one.far_ahead

  -- and the far end not of the second
  far_not_ahead : turning (not side) q (whole g) (whole (vertex corners far)) ≤ℤ pos 0
  far_not_ahead =
      other_end_not_ahead (not side) q g z (whole (vertex corners own)) (whole (vertex corners far)) passing.other.rational
      (whole_is_point (vertex corners own)) (whole_is_point (vertex corners far)) passing.other.on_way passing.other.on_side
      passing.other.far_ahead

  -- a way to the third corner comes to it within the triangle,
  from_within : h ≡ vertex corners tip → IsInAngle side corners own tip far (whole p)
  from_within is =
      let F = whole (vertex corners far) in
      let O = whole (vertex corners own) in
      record {
        from_after = subst (λ v. pos 0 ≤ℤ turning side v F (whole p)) is
            (subst (λ n. pos 0 ≤ℤ n) (sym (turning_shift side p h F)) (weak passing.one.far_ahead));
        to_before = subst (λ v. pos 0 ≤ℤ turning side v (whole p) O) is
            (turned_not_negative (turning_swap side h O (whole p)) (subst (λ n. n ≤ℤ pos 0) (sym (turning_shift side p h O)) own_not_ahead));
      }

  -- so neighbours of the third corner behind it are behind the next diagonal,
  tip_swept : h ≡ vertex corners tip → (u : Point) → AreNeighbours corners h u → turning side h (whole p) (whole u) <ℤ pos 0
      → turning side h (whole (vertex corners far)) (whole u) <ℤ pos 0
  tip_swept is =
      subst (λ v. (u : Point) → AreNeighbours corners v u → turning side v (whole p) (whole u) <ℤ pos 0
      → turning side v (whole (vertex corners far)) (whole u) <ℤ pos 0) (sym is)
      (swept_behind corners tris fits side k own tip far in_list (corner_after corners tris fits k in_list side far own tip corner) shared p
      (from_within is))

  -- and those of the far end that are behind the diagonal are behind the next one
  far_swept : (u : Point) → AreNeighbours corners (vertex corners far) u
      → turning (not side) (vertex corners far) (whole (vertex corners own)) (whole u) <ℤ pos 0
      → turning (not side) (vertex corners far) (whole (vertex corners tip)) (whole u) <ℤ pos 0
  far_swept u n behind =
      let V = vertex corners far in
      let O = whole (vertex corners own) in
      let T = whole (vertex corners tip) in
      let ahead : pos 0 <ℤ turning side V O (whole u) =
      turned_positive (turning_swap side V (whole u) O) (subst (λ n. n <ℤ pos 0) (turning_not side V O (whole u)) behind) in
      subst (λ n. n <ℤ pos 0) (sym (turning_not side V T (whole u)))
      (negative_unless ahead
      (not_swept corners tris fits k in_list side tip far own (corner_before corners tris fits k in_list side far own tip corner)
      (shared_side_back shared) u n))

  module _ (next : Triple) (at_next : IsPoint next) (on_way : On next x (whole h))
      (on_side : On next (whole (vertex corners far)) (whole (vertex corners tip)))
      (next_too : Triple) (at_too : IsPoint next_too) (on_way_too : On next_too z (whole g))
      (on_side_too : On next_too (whole (vertex corners far)) (whole (vertex corners tip))) where
    -- the first way passes the next diagonal,
    first_passes : Passes side corners far tip p h I next next_too
    first_passes = record {
      rational = at_next;
      on_way = on_nested next x (whole h) (whole p) (whole h) at_next passing.one.rational (whole_is_point h) (whole_is_point p)
          (whole_is_point h) passing.one.on_way (on_last_end (whole p) (whole h)) on_way;
      on_side = on_side;
      far_ahead = passing.one.far_ahead;
      other_ahead = rest_ahead side p h q g passing.apart z passing.other.rational passing.other.on_way passing.one.other_ahead next_too
          at_too on_way_too;
      swept = λ inner is. tip_swept is;
    }

    -- the second way has the point of the first ahead,
    next_ahead : pos 0 <ℤ turning (not side) q (whole g) next
    next_ahead =
        rest_ahead (not side) q g p h (subst (λ n. pos 0 <ℤ n) (sym (opening_not side p h q g)) passing.apart) x passing.one.rational
        passing.one.on_way passing.other.other_ahead next at_next on_way

    -- and so it passes too
    second_passes : Passes (not side) corners tip far q g J next_too next
    second_passes = record {
      rational = at_too;
      on_way = on_nested next_too z (whole g) (whole q) (whole g) at_too passing.other.rational (whole_is_point g) (whole_is_point q)
          (whole_is_point g) passing.other.on_way (on_last_end (whole q) (whole g)) on_way_too;
      on_side = on_reversed next_too (whole (vertex corners far)) (whole (vertex corners tip)) on_side_too;
      far_ahead = other_end_ahead (not side) q g next (whole (vertex corners far)) (whole (vertex corners tip)) at_next
          (whole_is_point (vertex corners far)) (whole_is_point (vertex corners tip)) on_side next_ahead far_not_ahead;
      other_ahead = next_ahead;
      swept = λ inner is u n behind.
          subst (λ v. AreNeighbours corners v u → turning (not side) v (whole (vertex corners own)) (whole u) <ℤ pos 0
          → turning (not side) v (whole (vertex corners tip)) (whole u) <ℤ pos 0) (sym is) (far_swept u) n
          (passing.other.swept inner is u n behind);
    }

    -- they pass the next diagonal where it is between the far end and the third corner
    pub advanced : ArePassing side corners far tip p h I next q g J next_too
    advanced = record { one = first_passes; other = second_passes; apart = passing.apart }

-- and they do where it is between the third corner and the own end
pub advanced_other : (corners : List Point) (tris : List Tri) → Fits corners tris → (side : Bool) (k far own tip : ℕ) → k < length tris
    → HasCornerOn side (tri_at tris k) far own tip
    → IsSharedSide tris tip own → (p h : Point) (I : Type 0) (x : Triple) (q g : Point) (J : Type 0) (z : Triple)
    → ArePassing side corners far own p h I x q g J z
    → (next : Triple) → IsPoint next → On next x (whole h) → On next (whole (vertex corners own)) (whole (vertex corners tip))
    → (next_too : Triple) → IsPoint next_too → On next_too z (whole g)
    → On next_too (whole (vertex corners own)) (whole (vertex corners tip))
    → ArePassing side corners tip own p h I next q g J next_too
advanced_other corners tris fits side k far own tip in_list corner shared p h I x q g J z passing next at_next on_way on_side next_too
    at_too on_way_too on_side_too =
    let back = corner_back side (tri_at tris k) tip far own (corner_before corners tris fits k in_list side far own tip corner) in
    flipped_back side
    (advanced corners tris fits (not side) k own far tip in_list back shared q g J z p h I x (flipped passing) next_too at_too on_way_too
    on_side_too next at_next on_way on_side)
