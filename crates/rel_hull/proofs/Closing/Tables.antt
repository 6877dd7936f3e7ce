-- Points have one round.
-- The round of the points of a table, by the sides that its chains tell.
use Rattle.std.proofs.Common.{◌≡◌, inl, inr, refl, sym, ◌∙◌, ℕ, ◌≤◌, List, [], length, arith, ◌≢◌, subst, ◌∷◌, ◌++◌}
use Rattle.std.proofs.lemmas.Bool.{cases_lt}
use Rattle.plane.specs.Point.{Point, whole}
use Rattle.rings.specs.Inside.{IsIn}
use Rattle.rings.specs.Simple.{IsSimple}
use Rattle.hulls.proofs.Outer.{inner_or_not, outer_pair}
use Rattle.hulls.proofs.Round.{IsRoundBy, same_rounds}
use Rattle.hulls.specs.Inner.{AreAllIn, AreDistinct, IsInnerPoint}
use Rattle.rel_hull.proofs.Closing.Fronts.{numbers_closed, IsFrontTo, front_begins, front_ends, front_goes_on}
use Rattle.rel_hull.proofs.Closing.Least.{round_from_least}
use Rattle.rel_hull.proofs.Closing.Turning.{IsLeftAt, are_turning, places_of_pair}
use Rattle.rel_hull.proofs.Outer.{some_others}
use Rattle.rel_hull.proofs.Paths.{taut_chain, length-points_of}
use Rattle.rel_hull.proofs.TableSides.{side_of_told, told_of_side}
use Rattle.rel_hull.specs.Hull.{IsSide}
use Rattle.rel_hull.specs.Round.{IsClosedRound, IsRound, OneRoundLaw, StartsSide}
use Rattle.rel_hull.specs.Table.{IsTableOf, Table, table_points}
use Rattle.rel_hull.specs.Told.{AreOuterBelow, IsFirstStart, IsToldSide, StartsTold}

-- a closed round is one of the sides
round_by : (ring points : List Point) (round : List ℕ) → IsClosedRound ring points round → IsRoundBy (IsSide ring points) round
round_by ring points round is = record { distinct = is.distinct; sides = is.sides }

-- of one point or more there is only one round
pub only_round : (ring points : List Point) → 1 ≤ length points → (one other : List ℕ) → IsRound ring points one → IsRound ring points other
    → one ≡ other
only_round ring points some one other h g = elim (cases_lt 1 (length points)) [
  | inl two ↦
      let is = h.closed two in
      let is_too = g.closed two in
      let less = is.least _ is_too.starts in
      let less_too = is_too.least _ is.starts in
      same_rounds (IsSide ring points) _ _ is.starts.1 one other (round_by ring points one is) (round_by ring points other is_too) refl
      (omega (arith, less, less_too))
  | inr not ↦
      let alone : length points ≡ 1 = omega arith in
      h.alone alone ∙ sym (g.alone alone)
]

module _ (ring : List Point) (some : 3 ≤ length ring) (simple : IsSimple ring) (points : List Point) (distinct : AreDistinct points)
    (all_in : AreAllIn ring points) where
  -- two or more points have a closed round
  some_closed : 2 ≤ length points → (round : List ℕ) × IsClosedRound ring points round
  some_closed two =
      let (outer, are) = some_others (IsInnerPoint ring points) (inner_or_not ring some simple points distinct all_in) (length points) in
      let (s, t, pair) = outer_pair ring some simple points two distinct all_in in
      let (i, j, at_s, at_t, side) = places_of_pair ring points outer are s t pair in
      let (round, from) = round_from_least (length outer) (IsLeftAt ring points outer)
      (are_turning ring points outer are some simple distinct all_in) i j side in
      (_, numbers_closed ring points outer are round from)

  -- so there is a round,
  some_round : 1 ≤ length points → (round : List ℕ) × IsRound ring points round
  some_round one = elim (cases_lt 1 (length points)) [
    | inl two ↦
        let found = some_closed two in
        (found.0, record { alone = λ alone. absurd (omega arith); closed = λ _. found.1 })
    | inr not ↦ ([], record { alone = λ _. refl; closed = λ two. absurd (omega arith) })
  ]

-- points of a simple ring have just one round
pub one_round : OneRoundLaw
one_round ring some simple points one distinct all_in =
    (some_round ring some simple points distinct all_in one, only_round ring points one)

-- where there is a side, there are two points
two_of_side : (ring points : List Point) (s t : ℕ) → IsSide ring points s t → 2 ≤ length points
two_of_side ring points s t side =
    let s_in = side.s_in_list in
    let t_in = side.t_in_list in
    let apart = side.different in
    omega arith

module _ (ring : List Point) (table : Table) (is : IsTableOf ring table) where
  abbrev points : List Point
  points = table_points table

  -- the points are in the ring
  points_in : AreAllIn ring points
  points_in k within =
      let in_table = rw length-points_of at within in
      let taut = taut_chain ring table is k k in_table in_table in
      subst (λ (p : Point). IsIn ring (whole p)) taut.first (taut.bent.chain.inside 0 taut.bent.chain.some)

  -- so they have a round
  round_of_table : 3 ≤ length ring → IsSimple ring → (round : List ℕ) × IsRound ring points round
  round_of_table some simple = (one_round ring some simple points (rw length-points_of is.some) is.distinct points_in).0

  -- a front that comes to its first number again is it
  pub round_of_front : (first : ℕ) (list : List ℕ) (next : ℕ) → IsFrontTo ring points first list next → next ≡ first → IsRound ring points list
  round_of_front first list next front again =
      let closed = front_ends ring points first list next front again in
      let two = two_of_side ring points _ _ closed.starts.1 in
      record { alone = λ alone. absurd (omega arith); closed = λ _. closed }

  module _ (outer : List ℕ) (are : AreOuterBelow table table.count outer) where
    -- what is the end of each side that is told is that of each side
    end_of_side : (s end : ℕ) → ((t : ℕ) → IsToldSide table outer (s, t) → end ≡ t) → (t : ℕ) → IsSide ring points s t → end ≡ t
    end_of_side s end ends t side = ends t (told_of_side ring table is outer are s t side)

    told_start : (s : ℕ) → StartsSide ring points s → StartsTold table outer s
    told_start s starts = (starts.0, told_of_side ring table is outer are s starts.0 starts.1)

    -- with no start there is one point, and no round
    pub round_of_none : 3 ≤ length ring → IsSimple ring → ((s : ℕ) → ¬ StartsTold table outer s) → IsRound ring points []
    round_of_none some simple none =
        let found = (round_of_table some simple).1 in
        record { alone = λ _. refl; closed = λ two. absurd (none _ (told_start _ (found.closed two).starts)) }

    -- the least start and the end of its side are a front
    pub front_of_start : 3 ≤ length ring → IsSimple ring → (first end : ℕ) → IsFirstStart table outer first
        → ((t : ℕ) → IsToldSide table outer (first, t) → end ≡ t) → IsFrontTo ring points first (first ∷ []) end
    front_of_start some simple first end is_first ends =
        let found = round_of_table some simple in
        let side = side_of_told ring table is outer are (first, is_first.starts.0) is_first.starts.1 in
        front_begins ring points found.0 (found.1.closed (two_of_side ring points _ _ side)) first end (is_first.starts.0, side)
        (λ r starts. is_first.least r (told_start r starts)) (end_of_side first end ends)

    -- which goes on
    pub front_of_next : (first : ℕ) (list : List ℕ) (next end : ℕ) → IsFrontTo ring points first list next → next ≢ first
        → ((t : ℕ) → IsToldSide table outer (next, t) → end ≡ t) → IsFrontTo ring points first (list ++ next ∷ []) end
    front_of_next first list next end front apart ends = front_goes_on ring points first list next front apart end (end_of_side next end ends)
