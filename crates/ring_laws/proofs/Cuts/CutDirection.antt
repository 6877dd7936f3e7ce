-- A ring and the pieces that a diagonal inside it makes wind up to once in one direction.
use Rattle.std.proofs.Common.{◌≡◌, ◌⊎◌, inl, inr, refl, subst, ◌≤◌, ℤ, pos, negsuc, List, [], ◌∷◌, ◌++◌, length, arith}
use Rattle.std.proofs.lemmas.List.{length-append}
use Rattle.plane.proofs.Segments.{middle, middle_first, middle_is_point, middle_last, middle_on}
use Rattle.plane.specs.Point.{IsSame, Point, whole}
use Rattle.rings.proofs.Vertices.{closed_edges_of}
use Rattle.rings.specs.Apart.{IsApartRing}
use Rattle.rings.specs.Edge.{edge, edges_along, edges_of}
use Rattle.rings.specs.Winding.{RunsClockwise, RunsCounterclockwise, WindsUpTo}
use Rattle.ring_laws.proofs.Diagonals.{same_direction, ends_differ, inner_off, some_back, some_there, wound}
use Rattle.ring_laws.proofs.Ears.{IsUnit}
use Rattle.ring_laws.proofs.Pieces.{apart_first, apart_second, winding_cut, has_edge_back, has_edge_there, off_first, on_back}
use Rattle.ring_laws.proofs.Simple.{runs_round, winds_once}
use Rattle.ring_laws.specs.Diagonal.{IsDiagonal}

-- a ring and two pieces of it wind up to once in one direction
pub record WindTogether (ring first second : List Point) : Type 0 where
  pub s : ℤ
  pub unit : IsUnit s
  pub whole_winds : WindsUpTo s (edges_of ring)
  pub first_winds : WindsUpTo s (edges_of first)
  pub second_winds : WindsUpTo s (edges_of second)

module _ (v : Point) (ps : List Point) (z : Point) (qs : List Point) (apart : IsApartRing (v ∷ (ps ++ z ∷ qs)))
    (diagonal : IsDiagonal (v ∷ (ps ++ z ∷ qs)) v z) where
  -- the first piece is apart,
  pub first_apart : IsApartRing (v ∷ (ps ++ z ∷ []))
  first_apart = apart_first v ps z qs apart (λ e has. diagonal.meets e (has_edge_there v ps z qs apart e has))

  -- and so is the second
  pub second_apart : IsApartRing (v ∷ z ∷ qs)
  second_apart = apart_second v ps z qs apart (λ e has. diagonal.meets e (has_edge_back v ps z qs apart e has))

  -- there are three vertices or more in the first piece,
  first_size : 3 ≤ length (v ∷ (ps ++ z ∷ []))
  first_size = let there = some_there v ps z qs apart diagonal.meets in omega (arith, length-append ps (z ∷ []))

  -- and in the second
  second_size : 3 ≤ length (v ∷ z ∷ qs)
  second_size = let back = some_back v ps z qs apart diagonal.meets in omega arith

  -- where the ring and the pieces wind up to once, the pieces do it in the direction of the ring
  one_direction : (s t r : ℤ) → IsUnit s → IsUnit t → IsUnit r → WindsUpTo s (edges_of (v ∷ (ps ++ z ∷ qs)))
      → WindsUpTo t (edges_of (v ∷ (ps ++ z ∷ []))) → WindsUpTo r (edges_of (v ∷ z ∷ qs)) → (t ≡ s) × (r ≡ s)
  one_direction s t r unit first_unit second_unit winds first_winds second_winds =
      let x = middle v z in
      let at = middle_is_point v z in
      let on = middle_on v z in
      let not_v = λ (same : IsSame x (whole v)). ends_differ v ps z qs apart diagonal.meets (middle_first v z same) in
      let not_z = λ (same : IsSame x (whole z)). ends_differ v ps z qs apart diagonal.meets (middle_last v z same) in
      let off = inner_off v ps z qs apart diagonal.meets x at on not_v not_z in
      same_direction (edges_of (v ∷ (ps ++ z ∷ qs))) (edges_of (v ∷ (ps ++ z ∷ []))) (edges_along z qs v) (edge v z)
      (winding_cut v ps z qs) (closed_edges_of (v ∷ (ps ++ z ∷ qs))) (closed_edges_of (v ∷ z ∷ qs)) (off_first v ps z qs apart) (on_back v ps z qs apart)
      (ends_differ v ps z qs apart diagonal.meets) x at on not_v not_z off s t r unit first_unit second_unit
      (wound s (v ∷ (ps ++ z ∷ qs)) winds x at off (diagonal.inside x at on)) first_winds second_winds

  -- so they do
  pub wind_together : WindTogether (v ∷ (ps ++ z ∷ qs)) (v ∷ (ps ++ z ∷ [])) (v ∷ z ∷ qs)
  wind_together =
      let (s, unit, winds) = winds_once (v ∷ (ps ++ z ∷ qs)) (omega (arith, second_size, length-append ps (z ∷ qs))) apart in
      let (t, first_unit, first_winds) = winds_once (v ∷ (ps ++ z ∷ [])) first_size first_apart in
      let (r, second_unit, second_winds) = winds_once (v ∷ z ∷ qs) second_size second_apart in
      let same = one_direction s t r unit first_unit second_unit winds first_winds second_winds in
      record {
        s = s;
        unit = unit;
        whole_winds = winds;
        first_winds = subst (λ n. WindsUpTo n (edges_of (v ∷ (ps ++ z ∷ [])))) same.0 first_winds;
        second_winds = subst (λ n. WindsUpTo n (edges_of (v ∷ z ∷ qs))) same.1 second_winds;
      }

  -- and where the ring runs counterclockwise, both pieces run so
  pub pieces_run : RunsCounterclockwise (v ∷ (ps ++ z ∷ qs)) → RunsCounterclockwise (v ∷ (ps ++ z ∷ [])) × RunsCounterclockwise (v ∷ z ∷ qs)
  pieces_run runs =
      go (runs_round (v ∷ (ps ++ z ∷ [])) first_size first_apart) (runs_round (v ∷ z ∷ qs) second_size second_apart)
    where
      go : RunsCounterclockwise (v ∷ (ps ++ z ∷ [])) ⊎ RunsClockwise (v ∷ (ps ++ z ∷ []))
          → RunsCounterclockwise (v ∷ z ∷ qs) ⊎ RunsClockwise (v ∷ z ∷ qs)
          → RunsCounterclockwise (v ∷ (ps ++ z ∷ [])) × RunsCounterclockwise (v ∷ z ∷ qs)
      go (inl h) (inl k) = (h, k)
      go (inr h) (inl k) =
          let e = (one_direction (pos 1) (negsuc 0) (pos 1) (inl refl) (inr refl) (inl refl) runs.windings h.windings k.windings).0 in absurd (cc)
      go (inl h) (inr k) =
          let e = (one_direction (pos 1) (pos 1) (negsuc 0) (inl refl) (inl refl) (inr refl) runs.windings h.windings k.windings).1 in absurd (cc)
      go (inr h) (inr k) =
          let e = (one_direction (pos 1) (negsuc 0) (negsuc 0) (inl refl) (inr refl) (inr refl) runs.windings h.windings k.windings).0 in absurd (cc)
