-- A round of places as one of numbers.
-- Fronts of a closed round, which grow along its sides until the first number comes again.
use Rattle.std.proofs.Common.{◌≡◌, ◌≢◌, ◌+◌, ◌==◌, if◌then◌else◌, inl, inr, sym, subst, ap, ◌∙◌, ℕ, ◌<◌, ◌≤◌, List, length, map}
use Rattle.std.proofs.Common.{slice_index, arith, refl, ◌-◌, [], ◌∷◌, ◌++◌, take}
use Rattle.std.proofs.Math.Seq.{take-length}
use Rattle.std.proofs.lemmas.Bool.{cases_lt}
use Rattle.std.proofs.lemmas.List.{get_or-map, length-map, length_push, take_more}
use Rattle.plane.specs.Point.{Point}
use Rattle.plane.proofs.Lists.{few_numbers}
use Rattle.hulls.proofs.Round.{after_inner, after_last, place_after}
use Rattle.hulls.specs.Round.{Follows}
use Rattle.rel_hull.proofs.Closing.Least.{IsFromLeast, side_from}
use Rattle.rel_hull.proofs.Closing.Turning.{AreOuterNumbers, IsLeftAt, IsSideAt, apart_at, pair_at_places, places_of_pair}
use Rattle.rel_hull.proofs.Outer.{not_less}
use Rattle.rel_hull.proofs.Turned.{pair_of_side, side_of_pair}
use Rattle.rel_hull.specs.Hull.{IsSide}
use Rattle.rel_hull.specs.Round.{IsClosedRound, StartsSide}

-- the place that comes after one in a list is in the list
pub after_within : (round : List ℕ) (i : ℕ) → i < length round → place_after round i < length round
after_within round i within = elim (cases_lt (i + 1) (length round)) [
  | inl inner ↦ rw (after_inner round i inner) inner
  | inr past ↦ rw (after_last round i (omega arith)) (omega arith)
]

module _ (ring points : List Point) (outer : List ℕ) (are : AreOuterNumbers ring points outer) (round : List ℕ)
    (from : IsFromLeast (length outer) (IsLeftAt ring points outer) round) where
  -- the numbers at the places
  abbrev numbers : List ℕ
  numbers = map (slice_index outer) round

  numbers_length : length numbers ≡ length round
  numbers_length = length-map round (slice_index outer)

  number_at : (i : ℕ) → i < length round → slice_index numbers i ≡ slice_index outer (slice_index round i)
  number_at i within = get_or-map (slice_index outer) round i 0 0 within

  -- the same place comes after
  after_same : (i : ℕ) → place_after numbers i ≡ place_after round i
  after_same i = ap (λ (n : ℕ). if i + 1 == n then 0 else i + 1) numbers_length

  -- a side goes from each place
  side : (i : ℕ) → i < length round → IsSideAt ring points outer (slice_index round i) (slice_index round (place_after round i))
  side i within = side_from (length outer) (IsLeftAt ring points outer) round from.is i within

  numbers_apart : (i j : ℕ) → i < j → j < length numbers → slice_index numbers i ≢ slice_index numbers j
  numbers_apart i j less within =
      let j_in : j < length round = omega (arith, numbers_length) in
      let i_in : i < length round = omega arith in
      let one = side i i_in in
      let other = side j j_in in
      rw (number_at i i_in, number_at j j_in)
      (apart_at ring points outer are (slice_index round i) (slice_index round j) one.s_in other.s_in (from.is.distinct i j less j_in))

  -- where a side is, its ends follow each other
  numbers_follow : (s t : ℕ) → IsSide ring points s t → Follows numbers s t
  numbers_follow s t is =
      let (i, j, at_s, at_t, at_places) = places_of_pair ring points outer are s t (pair_of_side ring points s t is) in
      let follows : Follows round i j = (from.is.sides i j).0 at_places in
      let k = follows.i in
      record {
        i = k;
        in_list = rw numbers_length follows.in_list;
        at = number_at k follows.in_list ∙ ap (slice_index outer) follows.at ∙ at_s;
        next = ap (slice_index numbers) (after_same k) ∙ number_at (place_after round k) (after_within round k follows.in_list)
            ∙ ap (slice_index outer) follows.next ∙ at_t;
      }

  -- and where numbers follow each other, a side is
  side_of_follows : (s t : ℕ) → Follows numbers s t → IsSide ring points s t
  side_of_follows s t follows =
      let k = follows.i in
      let within = rw numbers_length at follows.in_list in
      let next = after_within round k within in
      let at_s : slice_index outer (slice_index round k) ≡ s = sym (number_at k within) ∙ follows.at in
      let at_t : slice_index outer (slice_index round (place_after round k)) ≡ t =
      sym (number_at (place_after round k) next) ∙ sym (ap (slice_index numbers) (after_same k)) ∙ follows.next in
      subst (IsSide ring points s) at_t
      (subst (λ (n : ℕ). IsSide ring points n (slice_index outer (slice_index round (place_after round k)))) at_s
      (side_of_pair ring points _ _ (pair_at_places ring points outer are _ _ (side k within))))

  -- so the numbers are closed
  pub numbers_closed : IsClosedRound ring points numbers
  numbers_closed =
      let first_side = from.side in
      let some : 0 < length round = let follows : Follows round (slice_index round 0) from.end = (from.is.sides _ _).0 first_side in omega (arith, follows.in_list) in
      let at_first = number_at 0 some in
      record {
        distinct = numbers_apart;
        sides = λ s t. (numbers_follow s t, side_of_follows s t);
        starts = (
          slice_index outer from.end,
          subst (λ (n : ℕ). IsSide ring points n (slice_index outer from.end)) (sym at_first)
              (side_of_pair ring points _ _ (pair_at_places ring points outer are _ _ first_side)),
        );
        least = λ s starts.
            let (i, j, at_s, at_t, at_places) = places_of_pair ring points outer are s starts.0 (pair_of_side ring points s starts.0 starts.1) in
            let less = not_less outer (length points) are.below are.ascending (slice_index round 0) i (from.least i j at_places) at_places.s_in in
            rw at_first (subst (λ (n : ℕ). slice_index outer (slice_index round 0) ≤ n) at_s less);
      }

-- a list that begins with the first number is a front of a closed round, where next comes after it
pub record IsFrontTo (ring points : List Point) (first : ℕ) (list : List ℕ) (next : ℕ) : Type 0 where
  pub round : List ℕ
  pub closed : IsClosedRound ring points round
  pub begins : slice_index round 0 ≡ first
  pub some : 0 < length list
  pub within : length list ≤ length round
  pub front : list ≡ take (length list) round
  pub after : next ≡ slice_index round (place_after round (length list - 1))

module _ (ring points : List Point) where
  -- a side goes from each number of a closed round to the next
  side_in : (round : List ℕ) → IsClosedRound ring points round → (i : ℕ) → i < length round
      → IsSide ring points (slice_index round i) (slice_index round (place_after round i))
  side_in round closed i within = (closed.sides _ _).1 (record { i = i; in_list = within; at = refl; next = refl })

  -- the least start is such a front
  pub front_begins : (round : List ℕ) → IsClosedRound ring points round → (first end : ℕ) → StartsSide ring points first
      → ((r : ℕ) → StartsSide ring points r → first ≤ r) → ((t : ℕ) → IsSide ring points first t → end ≡ t)
      → IsFrontTo ring points first (first ∷ []) end
  front_begins round closed first end starts least ends =
      let follows : Follows round first starts.0 = (closed.sides first starts.0).0 starts.1 in
      let some : 0 < length round = omega (arith, follows.in_list) in
      let same : slice_index round 0 ≡ first = omega (arith, closed.least first starts, least _ closed.starts) in
      record {
        round = round;
        closed = closed;
        begins = same;
        some = omega arith;
        within = omega arith;
        front = ap (λ (n : ℕ). n ∷ []) (sym same) ∙ sym (take_more round 0 0 some);
        after = ends _ (subst (λ (n : ℕ). IsSide ring points n (slice_index round (place_after round 0))) same (side_in round closed 0 some));
      }

  module _ (first : ℕ) (list : List ℕ) (next : ℕ) (front : IsFrontTo ring points first list next) where
    abbrev round : List ℕ
    round = front.round

    -- next comes from the place after the list
    next_at : length list < length round → next ≡ slice_index round (length list)
    next_at more =
        let some = front.some in
        front.after ∙ ap (slice_index round) (after_inner round (length list - 1) (omega arith))
        ∙ ap (slice_index round) (omega arith)

    -- which is there where next is not the first number
    more_in_round : next ≢ first → length list < length round
    more_in_round apart = elim (cases_lt (length list) (length round)) [
      | inl more ↦ more
      | inr all ↦
          let some = front.some in
          let within = front.within in
          absurd (apart (front.after ∙ ap (slice_index round) (after_last round (length list - 1) (omega arith)) ∙ front.begins))
    ]

    -- the points are more than the list then,
    pub front_fits : next ≢ first → length list < length points
    front_fits apart =
        let more = more_in_round apart in
        let few = few_numbers round (length points) (λ i within. (side_in round front.closed i within).s_in_list) front.closed.distinct in
        omega arith

    -- and next is one of them
    pub next_in_list : next < length points
    next_in_list =
        let some = front.some in
        let within = front.within in
        let place = after_within round (length list - 1) (omega arith) in
        rw front.after ((side_in round front.closed (place_after round (length list - 1)) place).s_in_list)

    -- with it and the end of its side the front goes on
    pub front_goes_on : next ≢ first → (end : ℕ) → ((t : ℕ) → IsSide ring points next t → end ≡ t)
        → IsFrontTo ring points first (list ++ next ∷ []) end
    front_goes_on apart end ends =
        let more = more_in_round apart in
        let at = next_at more in
        let longer : length (list ++ next ∷ []) ≡ length list + 1 = length_push list next in
        let last : length list ≡ length (list ++ next ∷ []) - 1 = omega arith in
        record {
          round = round;
          closed = front.closed;
          begins = front.begins;
          some = omega arith;
          within = omega arith;
          front = ap (λ (xs : List ℕ). xs ++ next ∷ []) front.front ∙ ap (λ (n : ℕ). take (length list) round ++ n ∷ []) at
              ∙ sym (take_more round (length list) 0 more) ∙ ap (λ (n : ℕ). take n round) (sym longer);
          after = ends _ (subst (λ (n : ℕ). IsSide ring points n (slice_index round (place_after round (length list)))) (sym at)
              (side_in round front.closed (length list) more))
              ∙ ap (λ (n : ℕ). slice_index round (place_after round n)) last;
        }

    -- and where next is the first number again, it is the round
    pub front_ends : next ≡ first → IsClosedRound ring points list
    front_ends again = elim (cases_lt (length list) (length round)) [
      | inl more ↦
          absurd (front.closed.distinct 0 (length list) front.some more (front.begins ∙ sym again ∙ next_at more))
      | inr all ↦
          let within = front.within in
          let same : length list ≡ length round = omega arith in
          subst (IsClosedRound ring points) (sym (front.front ∙ ap (λ (n : ℕ). take n round) same ∙ take-length round)) front.closed
    ]
