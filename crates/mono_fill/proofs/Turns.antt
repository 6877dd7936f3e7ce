-- The turn at the corners of a triangle, by their names and by their numbers.
use Rattle.std.proofs.Common.{◌≡◌, ◌↔◌, ◌∙◌, ap, sym, ℕ, ◌<◌, List, length, Bool}
use Rattle.std.specs.Prelude.{IsTrue, slice_index_or}
use Rattle.plane.specs.Point.{Point, whole}
use Rattle.plane.specs.Turn.{determinant}
use Rattle.rings.proofs.Vertices.{vertex_in_range}
use Rattle.rings.specs.Ring.{origin, vertex}
use Rattle.meshes.specs.Fits.{IsCounterclockwiseTri}
use Rattle.meshes.specs.declared.tri.Tri.{Tri}
use Rattle.exact_plane.proofs.Directions.{left_of_positive, positive_of_left}
use Rattle.exact_plane.specs.Direction.{turn_of}
use Rattle.exact_plane.specs.declared.direction.Direction.{Direction}
use Rattle.exact_plane.specs.declared.direction.Direction.TheVariants.{Left}

module _ (corners : List Point) (t : Tri) (a : t.a < length corners) (b : t.b < length corners) (c : t.c < length corners) where
  abbrev at : ℕ → Point
  at i = slice_index_or corners i origin

  -- the items of the list with the numbers of the corners turn as the corners do
  turn_of_corners : turn_of (whole (at t.a)) (whole (at t.b)) (whole (at t.c))
      ≡ turn_of (whole (vertex corners t.a)) (whole (vertex corners t.b)) (whole (vertex corners t.c))
  turn_of_corners =
      ap (λ p. turn_of (whole p) (whole (at t.b)) (whole (at t.c))) (sym (vertex_in_range corners t.a origin a))
      ∙ ap (λ p. turn_of (whole (vertex corners t.a)) (whole p) (whole (at t.c))) (sym (vertex_in_range corners t.b origin b))
      ∙ ap (λ p. turn_of (whole (vertex corners t.a)) (whole (vertex corners t.b)) (whole p)) (sym (vertex_in_range corners t.c origin c))

  -- what is true exactly where they turn to the left tells whether the triangle is counterclockwise
  pub counterclockwise_told : (turn : Direction) (is : Bool)
      → turn ≡ turn_of (whole (slice_index_or corners t.a origin)) (whole (slice_index_or corners t.b origin))
      (whole (slice_index_or corners t.c origin))
      → IsTrue is ↔ (turn ≡ Left) → IsTrue is ↔ IsCounterclockwiseTri corners t
  counterclockwise_told turn is e h =
      let f = e ∙ turn_of_corners in
      let z = determinant (whole (vertex corners t.a)) (whole (vertex corners t.b)) (whole (vertex corners t.c)) in
      (λ k. positive_of_left z (sym f ∙ h.0 k), λ k. h.1 (f ∙ left_of_positive z k))
