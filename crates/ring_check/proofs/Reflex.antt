-- In a counterclockwise ring the reflex vertices are those with a turn to the right.
use Rattle.std.proofs.Common.{◌≡◌, ℕ, ◌+◌, ◌-◌, ◌↔◌, pos, ◌<ℤ◌, inl, inr, List, length, arith}
use Rattle.std.proofs.lemmas.Int.{ints}
use Rattle.plane.specs.Point.{Point, whole}
use Rattle.rings.specs.Orientation.{IsCounterclockwise, IsReflex, turn_at}
use Rattle.rings.specs.Ring.{vertex}
use Rattle.exact_plane.proofs.Directions.{right_iff_negative}
use Rattle.exact_plane.specs.Direction.{turn_of}
use Rattle.exact_plane.specs.declared.direction.Direction.TheVariants.{Right}

-- where the area is positive, a vertex is reflex exactly where its turn is negative
reflex_iff_negative : (ring : List Point) (i : ℕ) → IsCounterclockwise ring → IsReflex ring i ↔ (turn_at ring i <ℤ pos 0)
reflex_iff_negative ring i way = (
  λ h. elim h [ inl k ↦ k.1 | inr k ↦ absurd (omega (arith, ints, way, k.0)) ],
  λ h. inl (way, h),
)

-- as the vertices beside it tell
pub reflex_iff_right : (ring : List Point) (i : ℕ) → IsCounterclockwise ring
    → IsReflex ring i ↔ (turn_of (whole (vertex ring (i + (length ring - 1)))) (whole (vertex ring i)) (whole (vertex ring (i + 1))) ≡ Right)
reflex_iff_right ring i way =
    let is = right_iff_negative (turn_at ring i) in
    let reflex = reflex_iff_negative ring i way in
    (λ h. is.1 (reflex.0 h), λ h. reflex.1 (is.0 h))
