-- Two lists turn against each other in one way.
-- Two lists in the other order turn against each other the other way.
-- Two paths turn to the left exactly where the second is to the left of the first by the sides of points alone; so sides are outer pairs.
use Rattle.std.proofs.Common.{◌≡◌, ◌≢◌, ◌↔◌, List, [], ◌∷◌, ◌++◌, refl, subst, sym, ◌∙◌, zero, suc, ℤ, pos, negsuc, neg_ℤ, ap, ℕ}
use Rattle.plane.proofs.Points.{same_whole, whole_is_point}
use Rattle.plane.proofs.Segments.{on_antisym, on_is_straight, on_reversed}
use Rattle.plane.proofs.Turns.{straight_shift_back, straight_swap_last, determinant_swap_last}
use Rattle.plane.specs.Point.{Point, whole}
use Rattle.plane.specs.Segment.{On}
use Rattle.plane.specs.Turn.{IsLeft, IsRight}
use Rattle.rings.specs.Chain.{IsPath}
use Rattle.hulls.proofs.Joined.{path_is_taut}
use Rattle.hulls.proofs.Turning.{goes_on, part_to}
use Rattle.hulls.specs.Inner.{IsOuterPair}
use Rattle.hulls.specs.Turning.{IsToLeft, TurnsTo}
use Rattle.exact_plane.proofs.Directions.{straight_of_zero, left_of_positive, negative_of_right, positive_of_left, right_of_negative}
use Rattle.exact_plane.specs.Direction.{turn_of, direction_of, opposite}
use Rattle.exact_plane.specs.declared.direction.Direction.{Direction}
use Rattle.exact_plane.specs.declared.direction.Direction.TheVariants.{Straight, Left, Right}
use Rattle.rel_hull.specs.Hull.{IsSide, IsTurnBetween}
use Rattle.rel_hull.specs.PathTurn.{IsPathTurn, IsTurnApart, IsTurnAt, apart, first_nearer, opposed, second_nearer, turn_on}
use Rattle.hulls.specs.Turning as to

-- ---- the turn of two ways over different points

module _ (v p q : Point) where
  -- a point on the segment between the two others is on one line with them: the first,
  straight_over_first : On (whole v) (whole p) (whole q) → turn_of (whole v) (whole p) (whole q) ≡ Straight
  straight_over_first on =
      straight_of_zero _ (straight_shift_back (whole p) (whole q) (whole v)
      (on_is_straight (whole v) (whole p) (whole q) (whole_is_point v) (whole_is_point p) (whole_is_point q) on))

  -- the second,
  straight_over_second : On (whole p) (whole v) (whole q) → turn_of (whole v) (whole p) (whole q) ≡ Straight
  straight_over_second on =
      straight_of_zero _ (straight_swap_last (whole v) (whole q) (whole p)
      (on_is_straight (whole p) (whole v) (whole q) (whole_is_point p) (whole_is_point v) (whole_is_point q) on))

  -- or the third
  straight_over_third : On (whole q) (whole v) (whole p) → turn_of (whole v) (whole p) (whole q) ≡ Straight
  straight_over_third on =
      straight_of_zero _ (on_is_straight (whole q) (whole v) (whole p) (whole_is_point q) (whole_is_point v) (whole_is_point p) on)

module _ (v p q : Point) (first second : List Point) (d e : Direction) (different : p ≢ q) where
  -- not each of two points is nearer than the other
  one_is_nearer : On (whole p) (whole v) (whole q) → On (whole q) (whole v) (whole p) → ⊥
  one_is_nearer one other =
      different (same_whole p q
      (on_antisym (whole p) (whole q) (whole v) (whole_is_point p) (whole_is_point q) (whole_is_point v) one other))

  -- so there is one turn
  one_turn_apart : IsTurnApart v p first q second d → IsTurnApart v p first q second e → e ≡ d
  one_turn_apart (apart is turns) (apart also turned) = sym also ∙ is
  one_turn_apart (apart is turns) (opposed again also) = absurd (turns (sym is ∙ straight_over_first v p q again))
  one_turn_apart (apart is turns) (first_nearer none again also) = absurd (turns (sym is ∙ straight_over_second v p q again))
  one_turn_apart (apart is turns) (second_nearer none again also) = absurd (turns (sym is ∙ straight_over_third v p q again))
  one_turn_apart (opposed on is) (apart also turned) = absurd (turned (sym also ∙ straight_over_first v p q on))
  one_turn_apart (opposed on is) (opposed again also) = also ∙ sym is
  one_turn_apart (opposed on is) (first_nearer none again also) = absurd (none on)
  one_turn_apart (opposed on is) (second_nearer none again also) = absurd (none on)
  one_turn_apart (first_nearer not on is) (apart also turned) = absurd (turned (sym also ∙ straight_over_second v p q on))
  one_turn_apart (first_nearer not on is) (opposed again also) = absurd (not again)
  one_turn_apart (first_nearer not on is) (first_nearer none again also) = also ∙ sym is
  one_turn_apart (first_nearer not on is) (second_nearer none again also) = absurd (one_is_nearer on again)
  one_turn_apart (second_nearer not on is) (apart also turned) = absurd (turned (sym also ∙ straight_over_third v p q on))
  one_turn_apart (second_nearer not on is) (opposed again also) = absurd (not again)
  one_turn_apart (second_nearer not on is) (first_nearer none again also) = absurd (one_is_nearer again on)
  one_turn_apart (second_nearer not on is) (second_nearer none again also) = also ∙ sym is

-- also where a way ends
one_turn_at : (v : Point) (first second : List Point) (d e : Direction) → IsTurnAt v first second d → IsTurnAt v first second e → e ≡ d
one_turn_at v [] second d e is other = other ∙ sym is
one_turn_at v (p ∷ first) [] d e is other = other ∙ sym is
one_turn_at v (p ∷ first) (q ∷ second) d e is other = one_turn_apart v p q first second d e is.0 is.1 other.1

-- ---- the place where two lists part

-- two ways do not part where they have points in common
not_parted : (v w : Point) (front first second a b : List Point) (d : Direction) → a ≡ front ++ w ∷ first → b ≡ front ++ w ∷ second
    → ¬ IsTurnAt v a b d
not_parted v w [] first second a b d is_first is_second turned = (rw (is_first, is_second) at turned).0 refl
not_parted v w (x ∷ front) first second a b d is_first is_second turned = (rw (is_first, is_second) at turned).0 refl

-- so there is one front that two lists have in common up to where they part, and one turn
one_parting : (front other : List Point) (v w : Point) (a b c d : List Point) (turn again : Direction) → front ++ v ∷ a ≡ other ++ w ∷ c
    → front ++ v ∷ b ≡ other ++ w ∷ d → IsTurnAt v a b turn → IsTurnAt w c d again → again ≡ turn
one_parting [] [] v w a b c d turn again is_first is_second at_v at_w =
    let last : v ≡ w = cc in
    let first : a ≡ c = cc in
    let second : b ≡ d = cc in
    one_turn_at w c d turn again (rw (last, first, second) at at_v) at_w
one_parting [] (y ∷ other) v w a b c d turn again is_first is_second at_v at_w =
    absurd (not_parted v w other c d a b turn (cc) (cc) at_v)
one_parting (x ∷ front) [] v w a b c d turn again is_first is_second at_v at_w =
    absurd (not_parted w v front a b c d again (cc) (cc) at_w)
one_parting (x ∷ front) (y ∷ other) v w a b c d turn again is_first is_second at_v at_w =
    one_parting front other v w a b c d turn again (cc) (cc) at_v at_w

-- two lists turn against each other in one way
pub one_path_turn : (first second : List Point) (d e : Direction) → IsPathTurn first second d → IsPathTurn first second e → d ≡ e
one_path_turn first second d e is other =
    one_parting other.front is.front other.last is.last other.first_rest other.second_rest is.first_rest is.second_rest e d
    (sym other.is_first ∙ is.is_first) (sym other.is_second ∙ is.is_second) other.turned is.turned

-- so the turn that was found is a given one exactly where the lists turn in this way
pub turns_exactly : (first second : List Point) (d e : Direction) → IsPathTurn first second d → (d ≡ e) ↔ IsPathTurn first second e
turns_exactly first second d e is =
    (λ same. subst (λ (turn : Direction). IsPathTurn first second turn) same is, λ other. one_path_turn first second d e is other)

-- the opposite of the opposite is the same
opposite_twice : (d : Direction) → opposite (opposite d) ≡ d
opposite_twice Left = refl
opposite_twice Straight = refl
opposite_twice Right = refl

-- only straight is opposite to straight
straight_of_opposite : (d : Direction) → opposite d ≡ Straight → d ≡ Straight
straight_of_opposite d e = sym (opposite_twice d) ∙ ap opposite e

-- a number and its negative have opposite directions
direction_of_negative : (z : ℤ) → direction_of (neg_ℤ z) ≡ opposite (direction_of z)
direction_of_negative (pos zero) = refl
direction_of_negative (pos (suc n)) = refl
direction_of_negative (negsuc n) = refl

-- three points turn the other way where the last two are exchanged
turn_exchanged : (v p q : Point) → turn_of (whole v) (whole q) (whole p) ≡ opposite (turn_of (whole v) (whole p) (whole q))
turn_exchanged v p q = ap direction_of (determinant_swap_last (whole v) (whole p) (whole q)) ∙ direction_of_negative _

-- so do two ways on from one point,
apart_exchanged : (v p q : Point) (first second : List Point) (d : Direction) → IsTurnApart v p first q second d
    → IsTurnApart v q second p first (opposite d)
apart_exchanged v p q first second d (apart is turns) =
    apart (turn_exchanged v p q ∙ ap opposite is) (λ straight. turns (straight_of_opposite d straight))
apart_exchanged v p q first second d (opposed on is) = opposed (on_reversed (whole v) (whole p) (whole q) on) (ap opposite is)
apart_exchanged v p q first second d (first_nearer not on is) =
    second_nearer (λ behind. not (on_reversed (whole v) (whole q) (whole p) behind)) on (ap opposite is ∙ opposite_twice (turn_on v p first))
apart_exchanged v p q first second d (second_nearer not on is) =
    first_nearer (λ behind. not (on_reversed (whole v) (whole q) (whole p) behind)) on (ap opposite is)

ways_exchanged : (v : Point) (first second : List Point) (d : Direction) → IsTurnAt v first second d → IsTurnAt v second first (opposite d)
ways_exchanged v [] [] d is = ap opposite is
ways_exchanged v [] (q ∷ second) d is = ap opposite is
ways_exchanged v (p ∷ first) [] d is = ap opposite is
ways_exchanged v (p ∷ first) (q ∷ second) d is = (λ same. is.0 (sym same), apart_exchanged v p q first second d is.1)

-- and two lists
turn_back : (first second : List Point) (d : Direction) → IsPathTurn first second d → IsPathTurn second first (opposite d)
turn_back first second d is = record {
  front = is.front;
  last = is.last;
  first_rest = is.second_rest;
  second_rest = is.first_rest;
  is_first = is.is_second;
  is_second = is.is_first;
  turned = ways_exchanged is.last is.first_rest is.second_rest d is.turned;
}

-- so not each of two lists turns to the left against the other
pub left_once : (first second : List Point) → IsPathTurn first second Left → ¬ IsPathTurn second first Left
left_once first second left back =
    let same : Left ≡ Right = one_path_turn second first Left Right back (turn_back first second Left left) in
    absurd (left_not_right same)
  where
    left_not_right : Left ≢ Right
    left_not_right e = cc

-- left is not straight
left_not_straight : Left ≢ Straight
left_not_straight e = cc

-- what is opposite to left is right
right_of_opposite : (d : Direction) → Left ≡ opposite d → d ≡ Right
right_of_opposite Left e = cc
right_of_opposite Straight e = cc
right_of_opposite Right e = refl

-- a way from v over p that turns goes on to a point r
record GoesOn (Side : Point → Type 0) (way : List Point) : Type 0 where
  r : Point
  rest : List Point
  is : way ≡ r ∷ rest
  side : Side r

-- to the right of it, where the opposite of its turn is left,
goes_on_right : (v p : Point) (way : List Point) → Left ≡ opposite (turn_on v p way) → GoesOn (λ r. IsRight (whole v) (whole p) (whole r)) way
goes_on_right v p [] e = absurd (left_not_straight e)
goes_on_right v p (r ∷ rest) e = record { r = r; rest = rest; is = refl; side = negative_of_right _ (right_of_opposite _ e) }

-- and to the left, where its turn is
goes_on_left : (v p : Point) (way : List Point) → Left ≡ turn_on v p way → GoesOn (λ r. IsLeft (whole v) (whole p) (whole r)) way
goes_on_left v p [] e = absurd (left_not_straight e)
goes_on_left v p (r ∷ rest) e = record { r = r; rest = rest; is = refl; side = positive_of_left _ (sym e) }

module _ (v p q : Point) (first second : List Point) where
  -- two ways on that turn to the left are so by the sides of points,
  left_of_apart : IsTurnApart v p first q second Left → TurnsTo IsLeft IsRight v p first q second
  left_of_apart (apart is turns) = to.apart (positive_of_left _ is)
  left_of_apart (opposed on is) = absurd (left_not_straight is)
  left_of_apart (first_nearer not on is) = let found = goes_on_right v p first is in to.first_nearer found.r found.rest on found.is found.side
  left_of_apart (second_nearer not on is) = let found = goes_on_left v q second is in to.second_nearer found.r found.rest on found.is found.side

  -- and the other way round
  apart_of_left : v ≢ p → v ≢ q → TurnsTo IsLeft IsRight v p first q second → IsTurnApart v p first q second Left
  apart_of_left not_p not_q (to.apart left) = apart (left_of_positive _ left) left_not_straight
  apart_of_left not_p not_q (to.first_nearer r rest on is right) =
      first_nearer
      (λ behind. not_p (same_whole v p (on_antisym (whole v) (whole p) (whole q) (whole_is_point v) (whole_is_point p) (whole_is_point q)
      (on_reversed (whole v) (whole p) (whole q) behind) (on_reversed (whole p) (whole v) (whole q) on))))
      on (sym (ap (λ way. opposite (turn_on v p way)) is ∙ ap opposite (right_of_negative _ right)))
  apart_of_left not_p not_q (to.second_nearer r rest on is left) =
      second_nearer
      (λ behind. not_q (same_whole v q (on_antisym (whole v) (whole q) (whole p) (whole_is_point v) (whole_is_point q) (whole_is_point p)
      behind (on_reversed (whole q) (whole v) (whole p) on))))
      on (sym (ap (turn_on v q) is ∙ left_of_positive _ left))

module _ (ring : List Point) (a b c : Point) where
  -- where two paths part and turn to the left, the second is to the left of the first,
  part_to_left : (front : List Point) (v : Point) (first second : List Point) → IsPath ring a b (front ++ v ∷ first)
      → IsPath ring a c (front ++ v ∷ second) → IsTurnAt v first second Left → IsToLeft ring a b c
  part_to_left front v [] second is_first is_second turned = absurd (left_not_straight turned)
  part_to_left front v (p ∷ first) [] is_first is_second turned = absurd (left_not_straight turned)
  part_to_left front v (p ∷ first) (q ∷ second) is_first is_second turned =
      part_to ring a b c v p q IsLeft IsRight front first second is_first is_second turned.0 (left_of_apart v p q first second turned.1)

  pub left_of_turn : IsTurnBetween ring a b c Left → IsToLeft ring a b c
  left_of_turn h =
      let turns = h.turns in
      part_to_left turns.front turns.last turns.first_rest turns.second_rest (subst (IsPath ring a b) turns.is_first h.is_first)
      (subst (IsPath ring a c) turns.is_second h.is_second) turns.turned

  -- and the other way round
  pub turn_of_left : IsToLeft ring a b c → IsTurnBetween ring a b c Left
  turn_of_left h =
      let one = goes_on ring h.front h.v h.p h.first (path_is_taut ring a b (h.front ++ h.v ∷ h.p ∷ h.first) h.is_first).bent in
      let other = goes_on ring h.front h.v h.q h.second (path_is_taut ring a c (h.front ++ h.v ∷ h.q ∷ h.second) h.is_second).bent in
      record {
        first = h.front ++ h.v ∷ h.p ∷ h.first;
        second = h.front ++ h.v ∷ h.q ∷ h.second;
        is_first = h.is_first;
        is_second = h.is_second;
        turns = record {
          front = h.front;
          last = h.v;
          first_rest = h.p ∷ h.first;
          second_rest = h.q ∷ h.second;
          is_first = refl;
          is_second = refl;
          turned = (h.differ, apart_of_left h.v h.p h.q h.first h.second one other h.turns);
        };
      }

module _ (ring points : List Point) (s t : ℕ) where
  -- a side is an outer pair,
  pub pair_of_side : IsSide ring points s t → IsOuterPair ring points s t
  pair_of_side side = record {
    s_in_list = side.s_in_list;
    t_in_list = side.t_in_list;
    different = side.different;
    s_outer = side.s_outer;
    t_outer = side.t_outer;
    left = λ u in_list not_s not_t outer. left_of_turn ring _ _ _ (side.left u in_list not_s not_t outer);
  }

  -- and the other way round
  pub side_of_pair : IsOuterPair ring points s t → IsSide ring points s t
  side_of_pair pair = record {
    s_in_list = pair.s_in_list;
    t_in_list = pair.t_in_list;
    different = pair.different;
    s_outer = pair.s_outer;
    t_outer = pair.t_outer;
    left = λ u in_list not_s not_t outer. turn_of_left ring _ _ _ (pair.left u in_list not_s not_t outer);
  }
