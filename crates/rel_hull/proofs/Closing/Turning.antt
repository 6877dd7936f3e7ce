-- The outer points, by their places in the list of them, turn round one another; and an outer pair is a side between places.
use Rattle.std.proofs.Common.{◌≡◌, ◌≢◌, inl, inr, refl, sym, subst, ℕ, ◌<◌, ◌≤◌, List, length, slice_index, arith}
use Rattle.std.proofs.lemmas.Bool.{cases_lt}
use Rattle.std.proofs.lemmas.List.Elements.{Contains-get_or}
use Rattle.hulls.proofs.Outer.{AreOuter, IsOuter, left_from_next, one_is_left, ordered_at_end, ordered_at_start}
use Rattle.hulls.proofs.Turning.{exchanged, not_both}
use Rattle.hulls.specs.Inner.{AreAllIn, AreDistinct, IsInnerPoint, IsOuterPair}
use Rattle.hulls.specs.Round.{AreThree, AreTurning, IsSideOf}
use Rattle.hulls.specs.Turning.{IsToLeft}
use Rattle.plane.specs.Point.{Point}
use Rattle.rel_hull.proofs.Outer.{contained_at}
use Rattle.rel_hull.specs.Told.{AreOthersBelow}
use Rattle.rings.specs.Chain.{point_at}
use Rattle.rings.specs.Simple.{IsSimple}

-- the numbers of the points that aren't inner, in order
abbrev pub AreOuterNumbers : List Point → List Point → List ℕ → Type 0
AreOuterNumbers ring points outer = AreOthersBelow (IsInnerPoint ring points) (length points) outer

-- the point at a place of the list
abbrev pub outer_point : List Point → List ℕ → ℕ → Point
outer_point points outer i = point_at points (slice_index outer i)

-- seen from one, the third is to the left of the second
abbrev pub IsLeftAt : List Point → List Point → List ℕ → ℕ → ℕ → ℕ → Type 0
IsLeftAt ring points outer i j k = IsToLeft ring (outer_point points outer i) (outer_point points outer j) (outer_point points outer k)

-- a side from place to place
abbrev pub IsSideAt : List Point → List Point → List ℕ → ℕ → ℕ → Type 0
IsSideAt ring points outer = IsSideOf (length outer) (IsLeftAt ring points outer)

module _ (ring points : List Point) (outer : List ℕ) (are : AreOuterNumbers ring points outer) where
  -- there is an outer point at each place,
  pub outer_at : (i : ℕ) → i < length outer → IsOuter ring points (slice_index outer i)
  outer_at i within =
      let inside = Contains-get_or outer i 0 within in
      record { in_list = are.below (slice_index outer i) inside; outer = are.none (slice_index outer i) inside }

  -- another one at another place
  pub apart_at : (i j : ℕ) → i < length outer → j < length outer → i ≢ j → slice_index outer i ≢ slice_index outer j
  apart_at i j i_in j_in apart same = elim (cases_lt i j) [
    | inl less ↦ let rises = are.ascending i j less j_in in omega arith
    | inr more ↦ let rises = are.ascending j i (omega arith) i_in in omega arith
  ]

  three_at : (i j k : ℕ) → AreThree (length outer) i j k → AreOuter ring points (slice_index outer i) (slice_index outer j) (slice_index outer k)
  three_at i j k three = record {
    first = outer_at i three.a_in;
    second = outer_at j three.b_in;
    third = outer_at k three.c_in;
    s_t = apart_at i j three.a_in three.b_in three.a_b;
    t_u = apart_at j k three.b_in three.c_in three.b_c;
    s_u = apart_at i k three.a_in three.c_in three.a_c;
  }

  -- a side between places is an outer pair,
  pub pair_at_places : (i j : ℕ) → IsSideAt ring points outer i j → IsOuterPair ring points (slice_index outer i) (slice_index outer j)
  pair_at_places i j side =
      let s = outer_at i side.s_in in
      let t = outer_at j side.t_in in
      record {
        s_in_list = s.in_list;
        t_in_list = t.in_list;
        different = apart_at i j side.s_in side.t_in side.different;
        s_outer = s.outer;
        t_outer = t.outer;
        left = λ u in_list not_s not_t is_outer.
            let inside = are.all u in_list is_outer in
            let at = contained_at outer u inside in
            subst (λ (n : ℕ). IsToLeft ring (outer_point points outer i) (outer_point points outer j) (point_at points n)) at
            (side.left inside.0 (omega (arith, inside.1)) (λ e. not_s (subst (λ (k : ℕ). u ≡ slice_index outer k) e (sym at)))
            (λ e. not_t (subst (λ (k : ℕ). u ≡ slice_index outer k) e (sym at))));
      }

  -- and the other way round
  pub side_at_places : (i j : ℕ) → i < length outer → j < length outer → IsOuterPair ring points (slice_index outer i) (slice_index outer j)
      → IsSideAt ring points outer i j
  side_at_places i j i_in j_in pair = record {
    s_in = i_in;
    t_in = j_in;
    different = λ e. pair.different (subst (λ (k : ℕ). slice_index outer i ≡ slice_index outer k) e refl);
    left = λ k k_in not_i not_j.
        let u = outer_at k k_in in
        pair.left (slice_index outer k) u.in_list (apart_at k i k_in i_in not_i) (apart_at k j k_in j_in not_j) u.outer;
  }

  -- and each outer pair is one
  pub places_of_pair : (s t : ℕ) → IsOuterPair ring points s t
      → (i : ℕ) × (j : ℕ) × (slice_index outer i ≡ s) × (slice_index outer j ≡ t) × IsSideAt ring points outer i j
  places_of_pair s t pair =
      let from = are.all s pair.s_in_list pair.s_outer in
      let to = are.all t pair.t_in_list pair.t_outer in
      let at_s = contained_at outer s from in
      let at_t = contained_at outer t to in (
        from.0,
        to.0,
        at_s,
        at_t,
        side_at_places from.0 to.0 (omega (arith, from.1)) (omega (arith, to.1))
            (subst (λ (n : ℕ). IsOuterPair ring points n (slice_index outer to.0)) (sym at_s) (subst (IsOuterPair ring points s) (sym at_t) pair)),
      )

  -- the places turn round one another
  pub are_turning : 3 ≤ length ring → IsSimple ring → AreDistinct points → AreAllIn ring points
      → AreTurning (length outer) (IsLeftAt ring points outer)
  are_turning some simple distinct all_in = record {
    one_way = λ a b c three. one_is_left ring some simple points distinct all_in _ _ _ (three_at a b c three);
    not_both = λ a b c three left back. not_both ring _ _ _ left (exchanged ring _ _ _ back);
    cyclic = λ a b c three. left_from_next ring some simple points distinct all_in _ _ _ (three_at a b c three);
    ordered_at_end = λ s t u v w side one two apart.
        ordered_at_end ring some simple points distinct all_in (slice_index outer s) (slice_index outer t) (pair_at_places s t side) _ _ _
        (three_at t u v one) (three_at t v w two);
    ordered_at_start = λ s t u v w side one two apart.
        ordered_at_start ring some simple points distinct all_in (slice_index outer s) (slice_index outer t) (pair_at_places s t side) _ _ _
        (three_at s u v one) (three_at s v w two);
  }
