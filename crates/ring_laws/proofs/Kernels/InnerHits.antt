-- A point out of a ring that runs counterclockwise, from which the way to a point strictly inside an edge meets the edges there
-- alone: it is right of that edge.
use Rattle.std.proofs.Common.{◌≡◌, inl, inr, ◌<◌, pos, List, length}
use Rattle.integer_algebra.proofs.Signs.{is_negative, is_positive, is_zero, sign}
use Rattle.plane.proofs.Points.{same_sym, whole_is_point}
use Rattle.plane.proofs.Segments.{leaves, on_first_end, on_last_end, on_reversed}
use Rattle.plane.specs.Prelude.{determinant, IsPoint, IsRight, IsSame, On, Point, Triple, whole}
use Rattle.rings.proofs.Vertices.{on_some_among, on_some_of, on_some_same}
use Rattle.rings.specs.Across.{Misses}
use Rattle.rings.specs.Apart.{IsApartRing}
use Rattle.rings.specs.Prelude.{Edge, edges_of, HasEdge, IsIn, IsOnSome}
use Rattle.rings.specs.Winding.{WindsUpTo}
use Rattle.ring_laws.proofs.Triangles.{off_others}
use Rattle.ring_laws.proofs.Vertices.{IsStrictlyOn, left_is_in, rest_is_edge, rest_of}

-- the way from y to x meets the edges at x alone
abbrev pub MeetsOnlyAt : List Edge → Triple → Triple → Type 0
MeetsOnlyAt es y x = (z : Triple) → IsPoint z → On z y x → IsOnSome es z → IsSame z x

module _ (ring : List Point) (apart : IsApartRing ring) (some : 1 < length ring) (winds : WindsUpTo (pos 1) (edges_of ring))
    (y : Triple) (at_y : IsPoint y) (out : ¬ IsIn ring y) (e : Edge) (has : HasEdge (edges_of ring) e)
    (x : Triple) (at_x : IsPoint x) (inside : IsStrictlyOn e x) (alone : MeetsOnlyAt (edges_of ring) y x) where
  -- no end of the edge is on the way,
  no_end : (a : Point) → IsOnSome (edges_of ring) (whole a) → ¬ IsSame x (whole a) → ¬ On (whole a) x y
  no_end a on differ way = differ (same_sym (alone (whole a) (whole_is_point a) (on_reversed (whole a) x y way) on))

  -- so the point is not in line with the edge,
  not_straight : ¬ (determinant (whole e.from) (whole e.to) y ≡ pos 0)
  not_straight straight =
      let a = whole e.from in
      let b = whole e.to in
      let at = λ (z : Triple) (on : On z a b). on_some_of z e (edges_of ring) has on in
      elim (leaves a b x y (whole_is_point e.from) (whole_is_point e.to) at_x at_y straight inside.on) [
        | inl on ↦ out (inl (at y on))
        | inr (inl way) ↦ no_end e.from (at a (on_first_end a b)) inside.not_from way
        | inr (inr way) ↦ no_end e.to (at b (on_last_end a b)) inside.not_to way
      ]

  -- the way meets no other edge,
  misses_rest : Misses x y (rest_of ring apart e has)
  misses_rest z at_z way on =
      let same = alone z at_z (on_reversed z x y way) (on_some_among z _ (edges_of ring) (rest_is_edge ring apart e has) on) in
      off_others ring apart e has x at_x inside.on inside.not_from inside.not_to (on_some_same z x at_z same _ on)

  -- and the point is right of the edge
  pub right_of_edge : IsRight (whole e.from) (whole e.to) y
  right_of_edge = elim (sign (determinant (whole e.from) (whole e.to) y)) [
    | is_negative right ↦ right
    | is_zero straight ↦ absurd (not_straight straight)
    | is_positive left ↦ absurd (out (left_is_in ring apart some winds e has x y at_x at_y inside left misses_rest))
  ]
