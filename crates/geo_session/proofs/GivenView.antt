-- What a point sees of a ring is what it sees of the list that the ring was made of: the same parts of the edges, by their numbers in
-- the list and in its direction.
use Rattle.std.proofs.Common.{◌≡◌, ◌↔◌, inl, inr, subst, ℕ, zero, suc, ◌+◌, ◌-◌, ◌<◌, ◌≤◌, Bool, true, false, if◌then◌else◌, List, length, arith}
use Rattle.std.proofs.lemmas.Bool.{cases_lt}
use Rattle.plane.specs.Point.{IsPoint, Point, Triple}
use Rattle.rings.proofs.Inside.{in_turned_iff, sees_turned_iff}
use Rattle.rings.proofs.Views.{parts_either, view_turned}
use Rattle.rings.specs.Inside.{IsIn}
use Rattle.rings.specs.Orientation.{turned_round}
use Rattle.rings.specs.Sees.{Sees}
use Rattle.rings.specs.Visible.{AreParts, IsInView, Part, part_at, turned_parts}
use Rattle.geo_session.proofs.GivenSize.{length_either}
use Rattle.ring_check.specs.Oriented.{Oriented, given_of}
use Rattle.geo_session.specs.Parts.{given_parts}
use Rattle.geo_session.specs.View.{IsView}

-- what is seen of a ring is in view of its parts, also where the ring and the parts are read the other way round
view_either : (is_turned : Bool) (ring : List Point) (q : Triple) (parts : List Part) → IsView ring q parts → (x : Triple) → IsPoint x
    → IsIn (if is_turned then turned_round ring else ring) x → Sees (if is_turned then turned_round ring else ring) q x
    ↔ IsInView q (if is_turned then turned_parts (length ring) parts else parts) x
view_either false ring q parts is x at_x inside = is.view x at_x inside
view_either true ring q parts is x at_x inside =
    let same = is.view x at_x ((in_turned_iff x ring).0 inside) in
    let there = view_turned (length ring) q parts x in (
      λ sees. there.1 (same.0 ((sees_turned_iff ring q x).0 sees)),
      λ h. (sees_turned_iff ring q x).1 (same.1 (there.0 h)),
    )

-- what a point sees of a ring, in the list that the ring was made of
pub view_given : (ring : Oriented) (q : Triple) (parts : List Part) → IsView ring.corners q parts → IsView (given_of ring) q (given_parts ring parts)
view_given ring q parts is = record {
  seen = parts_either ring.corners q parts is.seen ring.is_turned;
  view = view_either ring.is_turned ring.corners q parts is;
}

-- as many parts as the list has points, at most: their numbers rise
number_below : (ring : List Point) (q : Triple) (parts : List Part) → AreParts ring q parts → (k : ℕ) → k < length parts → k ≤ (part_at parts k).edge
number_below ring q parts are zero below = omega arith
number_below ring q parts are (suc k) below =
    let next : k + 1 ≡ suc k = omega arith in
    let rises : (part_at parts k).edge < (part_at parts (suc k)).edge =
    subst (λ (j : ℕ). (part_at parts k).edge < (part_at parts j).edge) next (are.rising k (omega arith)) in
    omega (arith, number_below ring q parts are k (omega arith), rises)

parts_few : (ring : List Point) (q : Triple) (parts : List Part) → AreParts ring q parts → length parts ≤ length ring
parts_few ring q parts are = elim (cases_lt 0 (length parts)) [
  | inr none ↦ omega arith
  | inl some ↦
      let last = length parts - 1 in
      omega (arith, number_below ring q parts are last (omega arith), are.in_ring last (omega arith))
]

pub given_few : (ring : Oriented) (q : Triple) (parts : List Part) → IsView (given_of ring) q parts → length parts ≤ length ring.corners
given_few ring q parts is = omega (arith, parts_few (given_of ring) q parts is.seen, length_either ring.is_turned ring.corners)
