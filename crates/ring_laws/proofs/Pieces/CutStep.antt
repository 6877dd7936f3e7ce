-- A ring cut by a diagonal into two pieces: where each piece winds round each point not at all or once, so does the ring.
-- A ring that is cut into two pieces runs counterclockwise where both pieces do.
use Rattle.std.proofs.Common.{◌≡◌, inl, inr, ◌∷◌, ◌++◌, ◌∙◌, List, pos, ◌⊎◌, sym, subst, ap, [], arith}
use Rattle.std.proofs.lemmas.Int.{ints}
use Rattle.plane.proofs.Points.{same_sym, whole_is_point}
use Rattle.plane.proofs.Segments.{on_reversed, on_same_point, on_or_not}
use Rattle.plane.specs.Prelude.{IsLeft, IsPoint, IsRight, IsSame, On, Point, Triple, whole}
use Rattle.rings.proofs.Crossings.{winding_law}
use Rattle.rings.proofs.Inside.{on_some_swapped, winding_swapped}
use Rattle.rings.proofs.Vertices.{HasPoint, closed_edges_of, on_some_cases, on_some_left, on_some_right, on_some_same, FirstHit}
use Rattle.rings.proofs.Vertices.{first_hit_or_misses, first_on_along, last_on_along, has_left, has_right, edge_with}
use Rattle.rings.specs.Apart.{IsApartRing, MeetAtEnds}
use Rattle.rings.specs.Prelude.{Edge, edge, edges_along, edges_of, HasEdge, IsOnSome, winding}
use Rattle.rings.specs.Winding.{RunsCounterclockwise, WindsUpTo}
use Rattle.ring_laws.proofs.Ears.{IsZeroOrOne, not_zero_and_one, one_and_two, sum_value}
use Rattle.ring_laws.proofs.Pieces.BesideChains.{both_chains, both_closed, off_ring, pieces_winding, winding_on_diagonal}
use Rattle.ring_laws.proofs.Pieces.FarTargets.{far_target}
use Rattle.ring_laws.proofs.Pieces.Pieces.{area_cut, distinct_cut, edges_of_cut, edges_of_first}
use Rattle.ring_laws.proofs.Pieces.PiecesMeet.{has_edge_back, has_edge_there, meet_at_cut, off_first_piece, off_second_piece}
use Rattle.ring_laws.proofs.Pieces.TwoChains.{ArePieces, IsNeither, chain_off_piece, neither_swapped, swapped}
use Rattle.ring_laws.proofs.Pieces.UnwoundChains.{chains_unwound, misses_to_hit}

-- ---- numbers

-- the ends of the diagonal are on the ring
ends_on_ring : (v z : Point) (ms ns : List Point) → IsOnSome (both_chains v z ms ns) (whole v) × IsOnSome (both_chains v z ms ns) (whole z)
ends_on_ring v z ms ns = (
  on_some_left (whole v) (edges_along z ms v) (edges_along v ns z) (last_on_along z ms v),
  on_some_left (whole z) (edges_along z ms v) (edges_along v ns z) (first_on_along z ms v),
)

-- a point on no edge of the ring is neither end of the diagonal
off_neither : (v z : Point) (ms ns : List Point) (p : Triple) → ¬ (IsOnSome (both_chains v z ms ns) p) → IsNeither v z p
off_neither v z ms ns p off =
    let ends = ends_on_ring v z ms ns in
    record {
      not_first = λ s. off (on_some_same (whole v) p (whole_is_point v) (same_sym s) (both_chains v z ms ns) ends.0);
      not_last = λ s. off (on_some_same (whole z) p (whole_is_point z) (same_sym s) (both_chains v z ms ns) ends.1);
    }

-- members a and b on the two sides of the diagonal
module _ (v z : Point) (ms ns : List Point) (c : ArePieces v z ms ns) (a b : Point) (in_a : HasPoint (ms ++ ns) a)
    (in_b : HasPoint (ms ++ ns) b) (left : IsLeft (whole v) (whole z) (whole a)) (right : IsRight (whole v) (whole z) (whole b)) where
  -- a point within the diagonal is on no edge of the ring, and the ring winds once round it
  diagonal_inside : (m : Triple) → IsPoint m → On m (whole v) (whole z) → ¬ (IsSame m (whole v)) → ¬ (IsSame m (whole z))
      → (¬ (IsOnSome (both_chains v z ms ns) m)) × (winding (both_chains v z ms ns) m ≡ pos 1)
  diagonal_inside m at_m on not_v not_z =
      let neither : IsNeither v z m = record { not_first = not_v; not_last = not_z } in
      (off_ring v z ms ns c m at_m on neither, winding_on_diagonal v z ms ns c a b left right m at_m on neither)

  module _ (p : Triple) (at_p : IsPoint p) (off : ¬ (IsOnSome (both_chains v z ms ns) p)) where
    -- where both pieces wind once round it, the way far away misses the edges and the diagonal
    module _ (first : winding (edges_of (v ∷ z ∷ ms)) p ≡ pos 1)
        (second : winding (edges_of (z ∷ v ∷ ns)) p ≡ pos 1) where
      -- the edges and the diagonal
      abbrev all : List Edge
      all = edge v z ∷ both_chains v z ms ns

      -- the edges of the first piece are among them,
      first_among : (x : Triple) → IsOnSome (edges_of (v ∷ z ∷ ms)) x → IsOnSome all x
      first_among x (inl d) = inl d
      first_among x (inr k) = inr (on_some_left x (edges_along z ms v) (edges_along v ns z) k)

      -- and those of the second
      second_among : (x : Triple) → IsOnSome (edges_of (z ∷ v ∷ ns)) x → IsOnSome all x
      second_among x (inl d) = inl (on_reversed x (whole z) (whole v) d)
      second_among x (inr k) = inr (on_some_right x (edges_along z ms v) (edges_along v ns z) k)

      -- a way that avoids the ends of the diagonal has no first hit
      no_hit : (t : Triple) → IsPoint t → ¬ (On (whole v) p t) → ¬ (On (whole z) p t) → ¬ (FirstHit p t all)
      no_hit t at_t avoids_v avoids_z h =
          let y = h.point in
          let at_y = h.rational in
          let neither : IsNeither v z y = record {
            not_first = λ s. avoids_v (on_same_point at_y s h.on_way);
            not_last = λ s. avoids_z (on_same_point at_y s h.on_way);
          } in
          let unwound = chains_unwound v z ms ns c a b in_a in_b left right in
          let one = edges_of (v ∷ z ∷ ms) in
          let other = edges_of (z ∷ v ∷ ns) in
          elim h.on_edge [
            | inl d ↦
                let inside = diagonal_inside y at_y d neither.not_first neither.not_last in
                let misses = misses_to_hit p t all at_p at_t h (both_chains v z ms ns) (λ x at_x on k. inr k) inside.0 in
                let stays = winding_law p y at_p at_y (both_chains v z ms ns) (both_closed v z ms ns) misses in
                one_and_two _ _ _ (pieces_winding v z ms ns p) first second (stays ∙ inside.1)
            | inr k ↦ elim (on_some_cases y (edges_along z ms v) (edges_along v ns z) k) [
              | inl j ↦
                  let misses = misses_to_hit p t all at_p at_t h other (λ x at_x on i. second_among x i)
                  (chain_off_piece v z ms ns c y at_y j neither) in
                  let stays = winding_law p y at_p at_y other (closed_edges_of (z ∷ v ∷ ns)) misses in
                  not_zero_and_one (stays ∙ unwound.first.value y at_y j neither) second
              | inr j ↦
                  let turned = neither_swapped v z y neither in
                  let misses = misses_to_hit p t all at_p at_t h one (λ x at_x on i. first_among x i)
                  (chain_off_piece z v ns ms (swapped v z ms ns c) y at_y j turned) in
                  let stays = winding_law p y at_p at_y one (closed_edges_of (v ∷ z ∷ ms)) misses in
                  not_zero_and_one (stays ∙ unwound.second.value y at_y j turned) first
            ]
          ]

      -- but one far away, round which the first piece does not wind, has
      not_both_once : ⊥
      not_both_once =
          let one = edges_of (v ∷ z ∷ ms) in
          let t = far_target p at_p v z (λ s. (off_neither v z ms ns p off).not_first (same_sym s)) (λ s. (off_neither v z ms ns p off).not_last (same_sym s)) one in
          elim (first_hit_or_misses p t.point at_p t.rational all) [
            | inl h ↦ no_hit t.point t.rational t.avoids_first t.avoids_last h
            | inr misses ↦
                let stays = winding_law p t.point at_p t.rational one (closed_edges_of (v ∷ z ∷ ms))
                (λ x at_x on k. misses x at_x on (first_among x k)) in
                not_zero_and_one (stays ∙ t.not_round) first
          ]

    -- beside the diagonal the ring winds round the point not at all or once
    values_beside : ¬ (On p (whole v) (whole z)) → IsZeroOrOne (winding (both_chains v z ms ns) p)
    values_beside beside =
        let first_off : ¬ (IsOnSome (edges_of (v ∷ z ∷ ms)) p) = λ h. elim h [
          | inl d ↦ beside d
          | inr k ↦ off (on_some_left p (edges_along z ms v) (edges_along v ns z) k)
        ] in
        let second_off : ¬ (IsOnSome (edges_of (z ∷ v ∷ ns)) p) = λ h. elim h [
          | inl d ↦ beside (on_reversed p (whole z) (whole v) d)
          | inr k ↦ off (on_some_right p (edges_along z ms v) (edges_along v ns z) k)
        ] in
        sum_value _ _ _ (pieces_winding v z ms ns p) (c.first_values p at_p first_off) (c.second_values p at_p second_off)
        (λ h. not_both_once h.0 h.1)

    -- so it does everywhere
    pub two_pieces_values : IsZeroOrOne (winding (both_chains v z ms ns) p)
    two_pieces_values = elim (on_or_not p (whole v) (whole z) at_p (whole_is_point v) (whole_is_point z)) [
      | inl on ↦ inr (diagonal_inside p at_p on (off_neither v z ms ns p off).not_first (off_neither v z ms ns p off).not_last).1
      | inr beside ↦ values_beside beside
    ]

module _ (v : Point) (ps : List Point) (z : Point) (qs : List Point) where
  -- where the first piece winds up to once, so it does with the diagonal first
  first_winds : WindsUpTo (pos 1) (edges_of (v ∷ (ps ++ z ∷ []))) → WindsUpTo (pos 1) (edge z v ∷ edges_along v ps z)
  first_winds winds x at off =
      subst (λ n. (n ≡ pos 0) ⊎ (n ≡ pos 1))
      (ap (λ es. winding es x) (edges_of_first v ps z qs) ∙ winding_swapped (edges_along v ps z) (edge z v ∷ []) x)
      (winds x at (λ on. off (on_some_swapped (edges_along v ps z) (edge z v ∷ []) x (subst (λ es. IsOnSome es x) (edges_of_first v ps z qs) on))))

  -- the edges of the ring, those back first
  winding_back_first : (x : Triple) → winding (edges_along z qs v ++ edges_along v ps z) x ≡ winding (edges_of (v ∷ (ps ++ z ∷ qs))) x
  winding_back_first x =
      winding_swapped (edges_along z qs v) (edges_along v ps z) x ∙ ap (λ es. winding es x) (sym (edges_of_cut v ps z qs))

  -- a point on them is on the ring
  on_some_ring : (x : Triple) → IsOnSome (edges_along z qs v ++ edges_along v ps z) x → IsOnSome (edges_of (v ∷ (ps ++ z ∷ qs))) x
  on_some_ring x on =
      subst (λ es. IsOnSome es x) (sym (edges_of_cut v ps z qs)) (on_some_swapped (edges_along z qs v) (edges_along v ps z) x on)

  module _ (apart : IsApartRing (v ∷ (ps ++ z ∷ qs)))
      (meets : (e : Edge) → HasEdge (edges_of (v ∷ (ps ++ z ∷ qs))) e → MeetAtEnds e (edge v z)) where
    -- the way back and the way there meet at v and z alone
    ways_meet : (x : Triple) → IsPoint x → IsOnSome (edges_along z qs v) x → IsOnSome (edges_along v ps z) x
        → IsSame x (whole v) ⊎ IsSame x (whole z)
    ways_meet x at back there =
        let (e, has_e, on_e) = edge_with x (edges_along z qs v) back in
        let (f, has_f, on_f) = edge_with x (edges_along v ps z) there in
        meet_at_cut v ps z qs apart e f has_e has_f x at on_e on_f

    -- two pieces that run counterclockwise
    module _ (first : RunsCounterclockwise (v ∷ (ps ++ z ∷ []))) (second : RunsCounterclockwise (v ∷ z ∷ qs)) where
      -- the cut makes two chains between v and z,
      two_chains : ArePieces v z qs ps
      two_chains = record {
        differ = λ e. (distinct_cut v ps z qs apart).0 (has_right v ps (z ∷ qs) (inl (sym e)));
        first_apart = λ e has. meets e (has_edge_back v ps z qs apart e has);
        second_apart = λ e has. meets e (has_edge_there v ps z qs apart e has);
        chains_apart = ways_meet;
        first_off = off_first_piece v ps z qs apart meets;
        second_off = off_second_piece v ps z qs apart meets;
        first_values = second.windings;
        second_values = first_winds first.windings;
      }

      -- and the ring runs counterclockwise, where there are vertices on both sides
      pub cut_counterclockwise : (u w : Point) → HasPoint qs u → HasPoint ps w → IsLeft (whole v) (whole z) (whole u)
          → IsRight (whole v) (whole z) (whole w) → RunsCounterclockwise (v ∷ (ps ++ z ∷ qs))
      cut_counterclockwise u w has_u has_w left right =
          let both = two_pieces_values v z qs ps two_chains u w (has_left u qs ps has_u) (has_right w qs ps has_w) left right in
          record {
            area = omega (arith, ints, first.area, second.area, area_cut v ps z qs);
            windings = λ x at off.
                subst (λ n. (n ≡ pos 0) ⊎ (n ≡ pos 1)) (winding_back_first x) (both x at (λ on. off (on_some_ring x on)));
          }
