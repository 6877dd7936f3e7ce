-- The round of points: its places, the list that the ring was made of, and its line.
use Rattle.std.proofs.Common.{◌≡◌, ◌∙◌, inl, inr, refl, ap, subst, ℕ, ◌+◌, ◌<◌, ◌≤◌}
use Rattle.std.proofs.Common.{◌==◌, if◌then◌else◌, List, [], length, arith}
use Rattle.std.proofs.lemmas.Bool.{cases_eq}
use Rattle.std.proofs.lemmas.List.{length-map}
use Rattle.std.specs.Prelude.{map, slice_index}
use Rattle.plane.proofs.Lists.{few_numbers}
use Rattle.plane.specs.Point.{Point}
use Rattle.rings.specs.Chain.{point_at}
use Rattle.meshes.specs.Fits.{Fits}
use Rattle.meshes.specs.declared.tri.Tri.{Tri}
use Rattle.geo_reply.specs.declared.reply.Reply.TheVariants as reply
use Rattle.ring_check.specs.Oriented.{Oriented, given_of}
use Rattle.rel_hull.specs.Hull.{IsSide}
use Rattle.rel_hull.specs.Round.{IsRound}
use Rattle.rel_hull.specs.Table.{Table, table_points}
use Rattle.geo_session.proofs.GivenSides.{side_given, side_held}
use Rattle.geo_session.proofs.HullTable.{points_of_table, some_numbers}
use Rattle.geo_session.proofs.Spanned.{held_inside}
use Rattle.geo_session.proofs.Within.{all_given}
use Rattle.geo_session.specs.Hull.{AreFirsts}
use Rattle.geo_session.specs.Round.{AreRound}
use Rattle.geo_session.specs.Span.{IsNumberedTable, IsSpan}
use Rattle.geo_session.specs.Told.{RepliesWithin, Tells, within}
use Rattle.geo_session.specs.declared.span.Span.{Span}

-- ---- its places

module _ (ring points : List Point) (numbers : List ℕ) (firsts : AreFirsts points numbers) (some : 1 ≤ length points) (places : List ℕ)
    (is : IsRound ring (map (point_at points) numbers) places) where
  -- each is the place of a number,
  pub place_below : (k : ℕ) → k < length places → slice_index places k < length numbers
  place_below k below =
      let long = length-map numbers (point_at points) in
      let some_too = some_numbers points numbers firsts some in
      elim (cases_eq (length numbers) 1) [
        | inl alone ↦ let none : places ≡ [] = is.alone (long ∙ alone) in let short = ap length none in absurd (omega (arith, below, short))
        | inr more ↦
            let next : ℕ = slice_index places (if k + 1 == length places then 0 else k + 1) in
            let side : IsSide ring (map (point_at points) numbers) (slice_index places k) next =
            ((is.closed (omega (arith, long, some_too, more))).sides _ _).1 (record { i = k; in_list = below; at = refl; next = refl }) in
            omega (arith, side.s_in_list, long)
      ]

  -- and there are no more of them
  pub places_few : length places ≤ length numbers
  places_few =
      let long = length-map numbers (point_at points) in
      let some_too = some_numbers points numbers firsts some in
      elim (cases_eq (length numbers) 1) [
        | inl alone ↦ let none : places ≡ [] = is.alone (long ∙ alone) in let short = ap length none in omega (arith, short)
        | inr more ↦ few_numbers places (length numbers) place_below (is.closed (omega (arith, long, some_too, more))).distinct
      ]

-- the round of a table of numbered points is that of the points
pub round_numbered : (ring points : List Point) (numbers : List ℕ) → AreFirsts points numbers → (table : Table) → IsNumberedTable ring points numbers table
    → (places : List ℕ) → IsRound ring (table_points table) places → IsRound ring (map (point_at points) numbers) places
round_numbered ring points numbers firsts table is places round =
    subst (λ (ps : List Point). IsRound ring ps places) (points_of_table points numbers firsts ring table is) round

-- ---- the list that the ring was made of

module _ (ring : Oriented) (points : List Point) where
  round_given : (named : List Point) (places : List ℕ) → IsRound ring.corners named places → IsRound (given_of ring) named places
  round_given named places h = record {
    alone = h.alone;
    closed = λ more. let closed = h.closed more in record {
      distinct = closed.distinct;
      sides = λ s t. (
        λ side. (closed.sides s t).0 (side_held ring named s t side),
        λ follows. side_given ring named s t ((closed.sides s t).1 follows),
      );
      starts = (closed.starts.0, side_given ring named _ _ closed.starts.1);
      least = λ s starts. closed.least s (starts.0, side_held ring named s starts.0 starts.1);
    };
  }

  numbers_given : (round : List ℕ) → AreRound ring.corners points round → AreRound (given_of ring) points round
  numbers_given round h = record {
    some = h.some;
    numbers = h.numbers;
    firsts = h.firsts;
    places = h.places;
    is_round = round_given (map (point_at points) h.numbers) h.places h.is_round;
    are = h.are;
  }

-- so it is told of them
pub round_within : (ring : Oriented) (tris : List Tri) (points : List Point) (span : Span) → IsSpan ring.corners tris points span → Fits ring.corners tris
    → (places round : List ℕ) → IsRound ring.corners (table_points span.chains) places → round ≡ map (slice_index span.numbers.items) places
    → RepliesWithin (given_of ring) points (Tells reply.Round (AreRound (given_of ring) points)) (reply.Round round)
round_within ring tris points span is fits places round closed are =
    within (all_given ring points (held_inside ring.corners tris points (length points) span.tris.items is.held fits))
    (record {
      value = round;
      holds = numbers_given ring points round (record {
        some = is.some;
        numbers = span.numbers.items;
        firsts = is.firsts;
        places = places;
        is_round = round_numbered ring.corners points span.numbers.items is.firsts span.chains is.table places closed;
        are = are;
      });
      told = refl;
    })
