-- The pairs of vertices that see each other in the list that a ring was made of are those of the ring, by their numbers in the list.
use Rattle.std.proofs.Common.{◌≡◌, ◌↔◌, inl, inr, sym, subst, ap, ◌∙◌, ℕ, ◌<◌, Bool, true, false, if◌then◌else◌, List, length, map, arith}
use Rattle.std.proofs.lemmas.List.{get_or_default, get_or-map, length-map}
use Rattle.std.proofs.lemmas.List.Elements.{Contains-get_or}
use Rattle.std.proofs.lemmas.List.Sorted.{Contains-permutation, IsPermutation-sym}
use Rattle.std.specs.List.{Contains}
use Rattle.std.specs.Prelude.{IsPermutation, IsSorted}
use Rattle.plane.specs.Pairs.{IsPairBefore, pair_at}
use Rattle.plane.specs.Point.{Point, Triple, whole}
use Rattle.rings.proofs.Inside.{sees_turned_iff}
use Rattle.rings.specs.Orientation.{turned_round}
use Rattle.rings.specs.Ring.{vertex}
use Rattle.rings.specs.Sees.{Sees}
use Rattle.hulls.proofs.Joined.{sees_back}
use Rattle.ring_check.specs.Oriented.{Oriented, given_index, given_of}
use Rattle.pair_cut.specs.Pairs.{AreSights, IsSight}
use Rattle.geo_session.proofs.AskedVertices.{length_given}
use Rattle.geo_session.proofs.GivenTree.{vertex_given}
use Rattle.geo_session.proofs.SortedPairs.{pair_cmp, pairs_in_order}
use Rattle.geo_session.proofs.TurnedPairs.{order_cases, pairs_differ, renumbered, renumbered_twice}
use Rattle.guards3.proofs.GivenNumbers.{given_below, given_twice, given_vertex}

-- the same points see each other
sees_either : (turned : Bool) (ring : List Point) (p q : Triple) → Sees (if turned then turned_round ring else ring) p q ↔ Sees ring p q
sees_either true ring p q = sees_turned_iff ring p q
sees_either false ring p q = ((λ sees. sees), (λ sees. sees))

-- a pair one way or the other
sight_back : (ring : List Point) (i j : ℕ) → i < j → j < length ring → Sees ring (whole (vertex ring j)) (whole (vertex ring i)) → IsSight ring i j
sight_back ring i j less below sees = record { order = less; in_ring = below; sees = sees_back ring (vertex ring j) (vertex ring i) sees }

-- of two pairs in order the first is not the second
not_same : (p q : ℕ × ℕ) → IsPairBefore p q → ¬ (p ≡ q)
not_same p q (inl first) e = let same : p.0 ≡ q.0 = ap (λ (r : ℕ × ℕ). r.0) e in omega arith
not_same p q (inr h) e = let same : p.1 ≡ q.1 = ap (λ (r : ℕ × ℕ). r.1) e in omega (arith, h.1)

module _ (ring : Oriented) where
  -- a pair, by the numbers of the list
  abbrev pub given_pair : ℕ × ℕ → ℕ × ℕ
  given_pair = renumbered (given_index ring)

  module _ (i j : ℕ) (sight : IsSight ring.corners i j) where
    i_below : i < length ring.corners
    i_below = omega (arith, sight.order, sight.in_ring)

    sees : Sees (given_of ring) (whole (vertex (given_of ring) (given_index ring i))) (whole (vertex (given_of ring) (given_index ring j)))
    sees = rw (given_vertex ring i i_below, given_vertex ring j sight.in_ring)
        ((sees_either ring.is_turned ring.corners (whole (vertex ring.corners i)) (whole (vertex ring.corners j))).1 sight.sees)

    -- a pair of the ring is one of the list,
    sight_given : IsSight (given_of ring) (given_pair (i, j)).0 (given_pair (i, j)).1
    sight_given = elim (order_cases (length ring.corners) (given_index ring) (given_twice ring) i j sight.order sight.in_ring) [
      | inl h ↦ subst (λ (p : ℕ × ℕ). IsSight (given_of ring) p.0 p.1) (sym h.1)
          (record { order = h.0; in_ring = omega (arith, given_below ring j sight.in_ring, length_given ring); sees = sees })
      | inr h ↦ subst (λ (p : ℕ × ℕ). IsSight (given_of ring) p.0 p.1) (sym h.1)
          (sight_back (given_of ring) (given_index ring j) (given_index ring i) h.0 (omega (arith, given_below ring i i_below, length_given ring)) sees)
    ]

  -- and one of the list is that of a pair of the ring
  module _ (i j : ℕ) (sight : IsSight (given_of ring) i j) where
    below : j < length ring.corners
    below = omega (arith, sight.in_ring, length_given ring)

    first_below : i < length ring.corners
    first_below = omega (arith, sight.order, below)

    sees_too : Sees ring.corners (whole (vertex ring.corners (given_index ring i))) (whole (vertex ring.corners (given_index ring j)))
    sees_too = (sees_either ring.is_turned ring.corners _ _).0
        (rw (← vertex_given ring i first_below, ← vertex_given ring j below) sight.sees)

    sight_held : IsSight ring.corners (given_pair (i, j)).0 (given_pair (i, j)).1
    sight_held = elim (order_cases (length ring.corners) (given_index ring) (given_twice ring) i j sight.order below) [
      | inl h ↦ subst (λ (p : ℕ × ℕ). IsSight ring.corners p.0 p.1) (sym h.1)
          (record { order = h.0; in_ring = given_below ring j below; sees = sees_too })
      | inr h ↦ subst (λ (p : ℕ × ℕ). IsSight ring.corners p.0 p.1) (sym h.1)
          (sight_back ring.corners (given_index ring j) (given_index ring i) h.0 (given_below ring i first_below) sees_too)
    ]

    pub is_given : given_pair (given_pair (i, j)) ≡ (i, j)
    is_given = renumbered_twice (length ring.corners) (given_index ring) (given_twice ring) i j sight.order below

  module _ (pairs : List (ℕ × ℕ)) (are : AreSights ring.corners pairs) where
    -- the pair at a place
    pub sight_at : (k : ℕ) → k < length pairs → IsSight ring.corners (pair_at pairs k).0 (pair_at pairs k).1
    sight_at k within = (are.exactly (pair_at pairs k).0 (pair_at pairs k).1).0 (Contains-get_or pairs k (0, 0) within)

    -- all of them, by the numbers of the list
    abbrev pub given_pairs : List (ℕ × ℕ)
    given_pairs = map given_pair pairs

    given_at : (k : ℕ) → k < length pairs → pair_at given_pairs k ≡ given_pair (pair_at pairs k)
    given_at k within = get_or-map given_pair pairs k (0, 0) (0, 0) within

    given_exactly : (i j : ℕ) → Contains given_pairs (i, j) ↔ IsSight (given_of ring) i j
    given_exactly i j = (
      λ inside.
          let (k, within, is) = inside in
          let here : k < length pairs = omega (arith, within, length-map pairs given_pair) in
          let same : given_pair (pair_at pairs k) ≡ (i, j) = sym (given_at k here) ∙ get_or_default given_pairs k (0, 0) (i, j) within ∙ is in
          subst (λ (p : ℕ × ℕ). IsSight (given_of ring) p.0 p.1) same
          (sight_given (pair_at pairs k).0 (pair_at pairs k).1 (sight_at k here)),
      λ sight.
          let p = given_pair (i, j) in
          let (k, within, is) = (are.exactly p.0 p.1).1 (sight_held i j sight) in (
            k,
            omega (arith, within, length-map pairs given_pair),
            get_or-map given_pair pairs k p (i, j) within ∙ ap given_pair is ∙ is_given i j sight,
          ),
    )

    -- pairs in order are different, so they are by the other numbers
    given_apart : (k l : ℕ) → k < l → l < length given_pairs → ¬ (pair_at given_pairs k ≡ pair_at given_pairs l)
    given_apart k l less within same =
        let count = length-map pairs given_pair in
        let k_in : k < length pairs = omega (arith, less, within, count) in
        let l_in : l < length pairs = omega (arith, within, count) in
        let p = sight_at k k_in in
        let q = sight_at l l_in in
        pairs_differ (length ring.corners) (given_index ring) (given_twice ring) (pair_at pairs k) (pair_at pairs l) p.order p.in_ring q.order q.in_ring
        (not_same (pair_at pairs k) (pair_at pairs l) (are.sorted k l less l_in))
        (sym (given_at k k_in) ∙ same ∙ given_at l l_in)

    -- sorted, they are the pairs of the list
    pub sights_given : (sorted : List (ℕ × ℕ)) → IsPermutation given_pairs sorted → IsSorted pair_cmp sorted → AreSights (given_of ring) sorted
    sights_given sorted moved up = record {
      exactly = λ i j. (
        λ inside. (given_exactly i j).0 (Contains-permutation sorted given_pairs (i, j) (IsPermutation-sym given_pairs sorted moved) inside),
        λ sight. Contains-permutation given_pairs sorted (i, j) moved ((given_exactly i j).1 sight),
      );
      sorted = pairs_in_order given_pairs sorted given_apart moved up;
    }
