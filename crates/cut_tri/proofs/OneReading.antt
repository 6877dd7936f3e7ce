-- A piece with different points is read from its least vertex on in one way.
use Rattle.std.proofs.Common.{◌≡◌, sym, ap, subst, ◌∙◌, ℕ, ◌<◌, ℤ, ◌≤ℤ◌, List, ◌++◌, length, get_or, take, drop, arith}
use Rattle.std.proofs.Math.Nat.{le_antisymm}
use Rattle.std.proofs.lemmas.Int.{ints}
use Rattle.std.proofs.lemmas.List.{get_or-map, map-append, take-append-drop}
use Rattle.plane.proofs.Order.{Comparison, after, before, compare_points, equal}
use Rattle.plane.specs.Order.{IsBefore}
use Rattle.plane.specs.Point.{Point}
use Rattle.rings.proofs.Vertices.{HasPoint, has_number, has_swapped}
use Rattle.rings.specs.Ring.{origin, vertex}
use Rattle.meshes.proofs.Sides.{length_points}
use Rattle.meshes.specs.Fits.{piece_points}
use Rattle.cut_tri.proofs.CornerPlaces.{place_of_point}
use Rattle.cut_tri.proofs.DistinctCorners.{HasDistinctCorners, at_one_place}
use Rattle.cut_tri.proofs.Readings.{first_turned}
use Rattle.cut_tri.specs.Cut.{IsFarthest, IsReadFromLeast, height_at}
use Rattle.cut_tri.specs.Piece.{piece_vertex}

-- ---- the least vertex

module _ (corners : List Point) (piece : List ℕ) where
  -- the vertex at a place is a point of the piece
  pub point_at : (k : ℕ) → k < length piece → HasPoint (piece_points corners piece) (piece_vertex corners piece k)
  point_at k within =
      subst (HasPoint (piece_points corners piece)) (get_or-map (λ i. vertex corners i) piece k 0 origin within)
      (has_number (piece_points corners piece) k origin (omega (arith, within, length_points corners piece)))

  -- a point of the piece is one of the piece read from another place on
  point_turned : (k : ℕ) (p : Point) → HasPoint (piece_points corners piece) p → HasPoint (piece_points corners (drop k piece ++ take k piece)) p
  point_turned k p has =
      subst (λ ps. HasPoint ps p) (sym (map-append (λ i. vertex corners i) (drop k piece) (take k piece)))
      (has_swapped p (piece_points corners (take k piece)) (piece_points corners (drop k piece))
      (subst (λ ps. HasPoint ps p) (map-append (λ i. vertex corners i) (take k piece) (drop k piece))
      (subst (λ xs. HasPoint (piece_points corners xs) p) (sym (take-append-drop k piece)) has)))

  -- so none is before the vertex from which on it is read
  none_before_place : (read : List ℕ) (is : IsReadFromLeast corners piece read) (p : Point) → HasPoint (piece_points corners piece) p
      → ¬ IsBefore p (piece_vertex corners piece is.place)
  none_before_place read is p has earlier =
      let (k, within, at) = place_of_point corners read p
      (subst (λ xs. HasPoint (piece_points corners xs) p) (sym is.turned) (point_turned is.place p has)) in
      let first : get_or read 0 0 ≡ get_or piece is.place 0 = ap (λ xs. get_or xs 0 0) is.turned ∙ first_turned piece is.place is.within in
      is.least k within
      (subst (λ (q : Point). IsBefore q (piece_vertex corners read 0)) (sym at) (subst (λ i. IsBefore p (vertex corners i)) (sym first) earlier))

  module _ (distinct : HasDistinctCorners corners piece) (read other : List ℕ) (is : IsReadFromLeast corners piece read)
      (is_too : IsReadFromLeast corners piece other) where
    -- two such vertices are at one place
    one_least : is.place ≡ is_too.place
    one_least = go (compare_points (piece_vertex corners piece is.place) (piece_vertex corners piece is_too.place))
      where
        go : Comparison (piece_vertex corners piece is.place) (piece_vertex corners piece is_too.place) → is.place ≡ is_too.place
        go (before h) = absurd (none_before_place other is_too (piece_vertex corners piece is.place) (point_at is.place is.within) h)
        go (equal e) = at_one_place corners piece distinct is.place is_too.place is.within is_too.within e
        go (after h) = absurd (none_before_place read is (piece_vertex corners piece is_too.place) (point_at is_too.place is_too.within) h)

    -- so the piece is read in one way
    pub one_reading : read ≡ other
    one_reading = is.turned ∙ ap (λ k. drop k piece ++ take k piece) one_least ∙ sym is_too.turned

-- ---- the farthest vertex

-- numbers of which neither is greater are equal
same_number : (a b : ℤ) → a ≤ℤ b → b ≤ℤ a → a ≡ b
same_number a b h k = omega (arith, ints)

module _ (corners : List Point) (piece : List ℕ) (distinct : HasDistinctCorners corners piece) (place other : ℕ)
    (far : IsFarthest corners piece place) (far_too : IsFarthest corners piece other) where
  -- two farthest vertices are as far,
  same_height : height_at corners piece place ≡ height_at corners piece other
  same_height = same_number _ _ (far_too.farthest place far.in_corner) (far.farthest other far_too.in_corner)

  -- so they have one number, and are at one place
  pub one_farthest : place ≡ other
  one_farthest =
      let same : get_or piece place 0 ≡ get_or piece other 0 =
      le_antisymm (far.least other far_too.in_corner (sym same_height)) (far_too.least place far.in_corner same_height) in
      at_one_place corners piece distinct place other (omega (arith, far.in_corner.before_last)) (omega (arith, far_too.in_corner.before_last))
      (ap (vertex corners) same)
