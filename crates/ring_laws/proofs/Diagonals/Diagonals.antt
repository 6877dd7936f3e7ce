-- The diagonal of a cut ring, and points in rings that wind up to once.
-- Diagonals of a ring: inside it where both pieces run counterclockwise, and the same from another vertex on or the other way round.
use Rattle.std.proofs.Common.{◌≡◌, inl, inr, refl, sym, subst, ◌<◌, ℤ, pos, negsuc, List, [], ◌∷◌, ◌++◌, length, arith}
use Rattle.std.proofs.lemmas.Int.{ints}
use Rattle.plane.proofs.Points.{same_sym, whole_is_point}
use Rattle.plane.proofs.Segments.{on_reversed, middle, middle_first, middle_is_point, middle_last, middle_on, on_first_end}
use Rattle.plane.specs.Prelude.{IsPoint, IsSame, On, Point, Triple, whole}
use Rattle.rings.proofs.Crossings.{winding_odd}
use Rattle.rings.proofs.Inside.{in_from_odd, has_edge_rotated, in_rotated, in_turned_iff}
use Rattle.rings.proofs.Simple.{same_or_not}
use Rattle.rings.proofs.Turned.{edges_of-turned_round}
use Rattle.rings.proofs.Vertices.{end_of_second, has_right, edge_with, on_some_of, meet_reversed, meet_swapped, HasPoint, edge_from}
use Rattle.rings.proofs.Vertices.{backward, closed_edges_of, on_some_same, reversed, has_reversed, has_edge_backward}
use Rattle.rings.specs.Apart.{IsApartRing, MeetAtEnds}
use Rattle.rings.specs.Prelude.{Edge, edge, edges_along, edges_of, HasEdge, IsIn, IsOn, IsOnSome, turned_round, winding}
use Rattle.rings.specs.Winding.{WindsUpTo}
use Rattle.ring_laws.proofs.Diagonals.BesideDiagonal.{once_round_diagonal}
use Rattle.ring_laws.proofs.Ears.{IsUnit, odd_unit}
use Rattle.ring_laws.proofs.Pieces.{distinct_cut, edges_of_first, winding_cut, off_first, on_back}
use Rattle.ring_laws.specs.Diagonal.{IsDiagonal}

-- ---- in a ring that winds up to once

-- a point of a ring on no edge is wound round
pub wound : (s : ℤ) (ring : List Point) → WindsUpTo s (edges_of ring) → (x : Triple) → IsPoint x → ¬ IsOnSome (edges_of ring) x → IsIn ring x
    → winding (edges_of ring) x ≡ s
wound s ring winds x at off (inl on) = absurd (off on)
wound s ring winds x at off (inr odd) = let (z, e) = winding_odd (edges_of ring) x odd in odd_unit s _ z e (winds x at off)

-- and a point that is wound round is in the ring
pub in_if_wound : (s : ℤ) → IsUnit s → (ring : List Point) (x : Triple) → winding (edges_of ring) x ≡ s → IsIn ring x
in_if_wound s (inl one) ring x e = in_from_odd ring x (pos 0) (omega (arith, ints))
in_if_wound s (inr minus) ring x e = in_from_odd ring x (negsuc 0) (omega (arith, ints))

-- ---- the diagonal

module _ (v : Point) (ps : List Point) (z : Point) (qs : List Point) (apart : IsApartRing (v ∷ (ps ++ z ∷ qs)))
    (meets : (e : Edge) → HasEdge (edges_of (v ∷ (ps ++ z ∷ qs))) e → MeetAtEnds e (edge v z)) where
  -- its ends differ
  pub ends_differ : ¬ (v ≡ z)
  ends_differ e = (distinct_cut v ps z qs apart).0 (has_right v ps (z ∷ qs) (inl (sym e)))

  -- no edge meets it strictly inside
  pub inner_off : (x : Triple) → IsPoint x → On x (whole v) (whole z) → ¬ IsSame x (whole v) → ¬ IsSame x (whole z) → ¬ IsOnSome (edges_of (v ∷ (ps ++ z ∷ qs))) x
  inner_off x at on not_v not_z on_edge =
      let (e, has, on_e) = edge_with x (edges_of (v ∷ (ps ++ z ∷ qs))) on_edge in
      elim (end_of_second e (edge v z) x (meets e has x at on_e on)) [ inl is ↦ not_v is | inr is ↦ not_z is ]

  -- so the diagonal is no edge
  not_an_edge : (e : Edge) → HasEdge (edges_of (v ∷ (ps ++ z ∷ qs))) e → ¬ IsOn e (middle v z)
  not_an_edge e has on =
      inner_off (middle v z) (middle_is_point v z) (middle_on v z) (λ s. ends_differ (middle_first v z s)) (λ s. ends_differ (middle_last v z s))
      (on_some_of (middle v z) e (edges_of (v ∷ (ps ++ z ∷ qs))) has on)

-- so there are vertices on the way there,
pub some_there : (v : Point) (ps : List Point) (z : Point) (qs : List Point) (apart : IsApartRing (v ∷ (ps ++ z ∷ qs)))
    → ((e : Edge) → HasEdge (edges_of (v ∷ (ps ++ z ∷ qs))) e → MeetAtEnds e (edge v z)) → 0 < length ps
some_there v [] z qs apart meets = absurd (not_an_edge v [] z qs apart meets (edge v z) (inl refl) (middle_on v z))
some_there v (p ∷ ps) z qs apart meets = omega arith

-- and on the way back
pub some_back : (v : Point) (ps : List Point) (z : Point) (qs : List Point) (apart : IsApartRing (v ∷ (ps ++ z ∷ qs)))
    → ((e : Edge) → HasEdge (edges_of (v ∷ (ps ++ z ∷ qs))) e → MeetAtEnds e (edge v z)) → 0 < length qs
some_back v ps z [] apart meets =
    let last = subst (λ es. HasEdge es (edge z v)) (sym (edges_of_first v ps z [])) (has_right (edge z v) (edges_along v ps z) (edge z v ∷ []) (inl refl)) in
    absurd (not_an_edge v ps z [] apart meets (edge z v) last (on_reversed (middle v z) (whole v) (whole z) (middle_on v z)))
some_back v ps z (q ∷ qs) apart meets = omega arith

-- a vertex is on an edge
vertex_on : (p v : Point) (vs : List Point) → HasPoint (v ∷ vs) p → IsOnSome (edges_of (v ∷ vs)) (whole p)
vertex_on p v vs has =
    let (e, in_list, is) = edge_from p v vs v has in
    on_some_of (whole p) e (edges_of (v ∷ vs)) in_list (subst (λ (q : Point). IsOn e (whole q)) is (on_first_end (whole e.from) (whole e.to)))

module _ (v : Point) (ps : List Point) (z : Point) (qs : List Point) (apart : IsApartRing (v ∷ (ps ++ z ∷ qs)))
    (meets : (e : Edge) → HasEdge (edges_of (v ∷ (ps ++ z ∷ qs))) e → MeetAtEnds e (edge v z))
    (first : WindsUpTo (pos 1) (edges_of (v ∷ (ps ++ z ∷ [])))) (second : WindsUpTo (pos 1) (edges_of (v ∷ z ∷ qs))) where
  -- a point strictly inside the segment from v to z is wound round once
  inner_wound : (x : Triple) → IsPoint x → On x (whole v) (whole z) → ¬ IsSame x (whole v) → ¬ IsSame x (whole z)
      → winding (edges_of (v ∷ (ps ++ z ∷ qs))) x ≡ pos 1
  inner_wound x at on not_v not_z =
      once_round_diagonal (edges_of (v ∷ (ps ++ z ∷ qs))) (edges_of (v ∷ (ps ++ z ∷ []))) (edges_along z qs v) (edge v z)
      (winding_cut v ps z qs) (closed_edges_of (v ∷ (ps ++ z ∷ qs))) (closed_edges_of (v ∷ z ∷ qs)) (off_first v ps z qs apart)
      (on_back v ps z qs apart) (ends_differ v ps z qs apart meets) x at on not_v not_z
      (inner_off v ps z qs apart meets x at on not_v not_z) first second

  -- so the segment is a diagonal
  pub cut_is_diagonal : IsDiagonal (v ∷ (ps ++ z ∷ qs)) v z
  cut_is_diagonal = record {
    meets = meets;
    inside = λ x at on. elim (same_or_not x (whole v)) [
      | inl same ↦ inl (on_some_same (whole v) x (whole_is_point v) (same_sym same) (edges_of (v ∷ (ps ++ z ∷ qs))) (vertex_on v v (ps ++ z ∷ qs) (inl refl)))
      | inr not_v ↦ elim (same_or_not x (whole z)) [
        | inl same ↦
            inl (on_some_same (whole z) x (whole_is_point z) (same_sym same) (edges_of (v ∷ (ps ++ z ∷ qs)))
            (vertex_on z v (ps ++ z ∷ qs) (inr (has_right z ps (z ∷ qs) (inl refl)))))
        | inr not_z ↦ in_if_wound (pos 1) (inl refl) (v ∷ (ps ++ z ∷ qs)) x (inner_wound x at on not_v not_z)
      ]
    ];
  }

module _ (a b : Point) where
  -- a diagonal has two directions
  pub diagonal_backward : (ring : List Point) → IsDiagonal ring a b → IsDiagonal ring b a
  diagonal_backward ring d = record {
    meets = λ e has. meet_reversed e (edge a b) (d.meets e has);
    inside = λ x at on. d.inside x at (on_reversed x (whole b) (whole a) on);
  }

  -- a diagonal of a ring is one of the ring the other way round
  pub diagonal_turned : (ring : List Point) → IsDiagonal (turned_round ring) a b → IsDiagonal ring a b
  diagonal_turned ring d = record {
    meets = λ e has.
        let turned : HasEdge (edges_of (turned_round ring)) (reversed e) =
        subst (λ es. HasEdge es (reversed e)) (sym (edges_of-turned_round ring))
        (has_reversed (reversed e) (backward (edges_of ring)) (has_edge_backward e (edges_of ring) has)) in
        meet_swapped (edge a b) e (meet_reversed (edge a b) (reversed e) (meet_swapped (reversed e) (edge a b) (d.meets (reversed e) turned)));
    inside = λ x at on. (in_turned_iff x ring).0 (d.inside x at on);
  }

  -- and one of the ring from another vertex on
  pub diagonal_rotated : (ps qs : List Point) → IsDiagonal (qs ++ ps) a b → IsDiagonal (ps ++ qs) a b
  diagonal_rotated ps qs d = record {
    meets = λ e has. d.meets e (has_edge_rotated ps qs e has);
    inside = λ x at on. in_rotated qs ps x (d.inside x at on);
  }
