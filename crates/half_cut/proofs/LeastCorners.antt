-- The least of some corners, one after another, and of those that a cut leaves.
use Rattle.std.proofs.Common.{◌≡◌, ◌≢◌, inl, inr, sym, subst, ap, ◌∙◌, ℕ, ◌+◌, ◌-◌, ◌%◌, ◌<◌, ◌≤◌, arith, List, length, pos, ◌≤ℤ◌}
use Rattle.std.proofs.Math.Nat.{add-mod_left, mod-eq_of_lt, mod-lt, mod_self}
use Rattle.std.proofs.lemmas.Bool.{cases_lt}
use Rattle.integer_algebra.proofs.SignSteps.{at_least_unless}
use Rattle.plane.proofs.Order.{after, before, compare_points, equal, not_after_facts, not_after_from, not_after_of_precedes, not_after_trans, precedes_asym}
use Rattle.plane.proofs.Regions.{region_not_right}
use Rattle.plane.specs.Convex.{corner}
use Rattle.plane.specs.Cut.{IsCut}
use Rattle.plane.specs.Order.{Precedes}
use Rattle.plane.specs.Point.{IsPoint, Triple, whole}
use Rattle.plane.specs.Region.{corner_at}
use Rattle.plane.specs.Turn.{determinant}
use Rattle.half_cut.proofs.Beside.{beside_from, corner_in_region}
use Rattle.half_cut.proofs.Blocks.{mod_add}
use Rattle.half_cut.proofs.Links.{length_rotated, linked_rotated}
use Rattle.half_cut.proofs.Seeking.{along_out, down_in, on_into, on_out, turned, turned_there, up_out}
use Rattle.half_cut.proofs.TurnedBlocks.{convex_from, read_from, tail_there}
use Rattle.half_cut.proofs.Ways.{IsAlong, before_both_down, before_both_up, line_turns_in, line_turns_out, none_before_meeting}
use Rattle.half_cut.specs.Block.{IsBlock}
use Rattle.half_cut.specs.Meeting.{IsCutSide, IsTail}
use Rattle.half_cut.specs.Outline.{IsLeast, IsRegionKept, Line, from_place, line_at}
use Rattle.half_cut.specs.Seek.{IsUpward, TurnsLeftTo}

-- none of the first some corners comes before this one
abbrev pub NoneBefore : List Triple → ℕ → ℕ → Type 0
NoneBefore cs i best = (k : ℕ) → k < i → ¬ (Precedes (corner cs k) (corner cs best))

module _ (cs : List Triple) (rational : (i : ℕ) → i < length cs → IsPoint (corner cs i)) (i best : ℕ) (in_i : i < length cs)
    (in_best : best < length cs)
    (none : NoneBefore cs i best) where
  -- one more that comes before is the least so far,
  pub least_here : Precedes (corner cs i) (corner cs best) → NoneBefore cs (i + 1) i
  least_here less k in_k comes = elim (cases_lt k i) [
    | inl earlier ↦
        not_after_facts (corner cs best) (corner cs i)
        (not_after_trans (corner cs best) (corner cs k) (corner cs i) (rational best in_best) (rational k (omega (arith, earlier, in_i)))
        (rational i in_i)
        (not_after_from (corner cs best) (corner cs k) (none k earlier)) (not_after_of_precedes (corner cs k) (corner cs i) comes)) less
    | inr not ↦
        let same : k ≡ i = omega (arith, not, in_k) in
        precedes_asym (corner cs k) (corner cs i) comes
        (subst (λ n. Precedes (corner cs i) (corner cs n)) (sym same) (subst (λ n. Precedes (corner cs n) (corner cs i)) same comes))
  ]

  -- and one that does not leaves it
  pub least_still : ¬ (Precedes (corner cs i) (corner cs best)) → NoneBefore cs (i + 1) best
  least_still not k in_k comes = elim (cases_lt k i) [
    | inl earlier ↦ none k earlier comes
    | inr late ↦ not (subst (λ n. Precedes (corner cs n) (corner cs best)) (omega (arith, late, in_k)) comes)
  ]

-- ---- from another corner on

module _ (cs : List Triple) (ls : List Line) (least start : ℕ) (kept : IsRegionKept cs ls least) (within : start < length cs) where
  in_start : start ≤ length cs
  in_start = omega (arith, within)

  -- the least is there again
  pub least_there : corner (from_place start cs) ((least + (length cs - start)) % length cs) ≡ corner cs least
  least_there =
      let n = length cs in
      let in_least : least < n = kept.some (omega (arith, within)) in
      let k : ℕ = least + (n - start) in
      let order : (start + k % n) % n ≡ (k % n + start) % n = ap (λ i. i % n) (omega arith) in
      let place : (start + k % n) % n ≡ least =
      order ∙ mod_add k start n ∙ ap (λ i. i % n) (omega (arith, within)) ∙ add-mod_left n least ∙ mod-eq_of_lt in_least in
      read_from cs start (k % n) in_start (mod-lt k (omega (arith, within))) ∙ ap (λ i. corner cs i) place

  -- so the region is kept
  pub kept_there : IsRegionKept (from_place start cs) (from_place start ls) ((least + (length cs - start)) % length cs)
  kept_there =
      let n = length cs in
      let count = length_rotated cs start in_start in
      let in_place : (least + (n - start)) % n < n = mod-lt (least + (n - start)) (omega (arith, within)) in
      record {
        convex = convex_from cs start kept.convex;
        within = omega (arith, in_place, count);
        some = λ _. omega (arith, in_place, count);
        least = λ i less h.
            let in_i : i < n = omega (arith, less, count) in
            kept.least ((start + i) % n) (mod-lt (start + i) (omega (arith, within)))
            (subst (λ t. t) (λ j. Precedes (read_from cs start i in_start in_i j) (least_there j)) h);
        round = linked_rotated cs ls start kept.round in_start;
        beside = beside_from cs ls start kept.round.linked.as_many in_start kept.beside;
        few = omega (arith, kept.few, count);
      }

-- ---- after a cut

-- corners from the first that stays on, and what a cut leaves of them
module _ {cut : Line} {cs : List Triple} {ls : List Line} {least count : ℕ} (kept : IsRegionKept cs ls least)
    (tail : IsTail cut cs ls count) (three : 3 ≤ length cs) {ds : List Triple} (left : IsCut (whole cut.0) (whole cut.1) cs ds) where
  abbrev n : ℕ
  n = length cs

  many : length ls ≡ n
  many = kept.round.linked.as_many

  in_least : least < n
  in_least = kept.some (omega (arith, three))

  at : (i : ℕ) → i < n → IsPoint (corner cs i)
  at i less = kept.convex.rational i less

  -- what is left is right of no old line, nor of the cut
  left_of_old : (k i : ℕ) → k < n → i < length ds → pos 0 ≤ℤ determinant (whole (line_at ls k).0) (whole (line_at ls k).1) (corner ds i)
  left_of_old k i in_k in_i =
      let at_p = left.convex.rational i in_i in
      let inside = (left.exact (corner ds i) at_p).0 (corner_in_region ds left.convex i in_i) in
      region_not_right (whole (line_at ls k).0) (whole (line_at ls k).1) cs (corner ds i) kept.convex at_p inside.0
      (λ m in_m. at_least_unless (kept.beside k m (omega (arith, in_k, many)) in_m))

  left_of_cut : (i : ℕ) → i < length ds → pos 0 ≤ℤ determinant (whole cut.0) (whole cut.1) (corner ds i)
  left_of_cut i in_i =
      let at_p = left.convex.rational i in_i in
      at_least_unless ((left.exact (corner ds i) at_p).0 (corner_in_region ds left.convex i in_i)).1

  -- where the least stays, it is the least
  pub least_stays : corner ds least ≡ corner cs least → IsLeast ds least
  least_stays same i less comes =
      let before_place : ℕ = (least + (n - 1)) % n in
      let in_before : before_place < n = mod-lt (least + (n - 1)) (omega (arith, three)) in
      let into = line_at ls before_place in
      let out = line_at ls least in
      none_before_meeting into.0 into.1 out.0 out.1 (turned_there kept three least in_least)
      (corner cs least) (corner ds i) (at least in_least) (down_in kept three) (up_out kept three)
      (on_into kept three least in_least) (on_out kept three least in_least)
      (left_of_old before_place i in_before less) (left_of_old least i in_least less)
      (subst (λ (p : Triple). Precedes (corner ds i) p) same comes)

  module _ (gone : count ≤ least) {place : ℕ} (side : IsCutSide cut (line_at ls (count - 1)) (line_at ls (length ls - 1)) ds place) where
    abbrev behind : Line
    behind = line_at ls (count - 1)

    abbrev ahead : Line
    ahead = line_at ls (n - 1)

    along_behind : IsAlong behind.0 behind.1 (corner cs (count - 1)) (corner cs count)
    along_behind =
        let next : (count - 1 + 1) % n ≡ count = ap (λ k. k % n) (omega (arith, tail.some)) ∙ mod-eq_of_lt tail.rest in
        subst (IsAlong behind.0 behind.1 (corner cs (count - 1))) (ap (λ k. corner cs k) next)
        (along_out kept three (count - 1) (omega (arith, tail.rest)))

    along_ahead : IsAlong ahead.0 ahead.1 (corner cs (n - 1)) (corner cs 0)
    along_ahead =
        let next : (n - 1 + 1) % n ≡ 0 = ap (λ k. k % n) (omega (arith, three)) ∙ mod_self n in
        subst (IsAlong ahead.0 ahead.1 (corner cs (n - 1))) (ap (λ k. corner cs k) next)
        (along_out kept three (n - 1) (omega (arith, three)))

    turn_behind : TurnsLeftTo behind cut
    turn_behind =
        line_turns_out behind.0 behind.1 cut.0 cut.1 (corner cs (count - 1)) (corner cs count) (at (count - 1) (omega (arith, tail.rest))) (at count tail.rest)
        along_behind (at_least_unless (tail.stay (count - 1) (omega (arith, tail.some)))) (tail.go count (omega arith) tail.rest)

    turn_ahead : TurnsLeftTo cut ahead
    turn_ahead =
        line_turns_in ahead.0 ahead.1 cut.0 cut.1 (corner cs (n - 1)) (corner cs 0) (at (n - 1) (omega (arith, three))) (at 0 (omega (arith, three)))
        along_ahead (tail.go (n - 1) (omega (arith, tail.rest)) (omega (arith, three))) (at_least_unless (tail.stay 0 tail.some))

    -- where the cut goes up, the side behind it goes down, as the least was right of the cut,
    down_behind : IsUpward cut → IsUpward (turned behind)
    down_behind up = elim (compare_points behind.1 behind.0) [
      | before h ↦ h
      | equal e ↦ absurd (kept.round.linked.two_points (count - 1) (omega (arith, tail.rest, many)) (sym e))
      | after h ↦
          absurd (kept.least (count - 1) (omega (arith, tail.rest))
          (before_both_up behind.0 behind.1 cut.0 cut.1 turn_behind (corner cs (count - 1)) (corner cs least) (at (count - 1) (omega (arith, tail.rest)))
          (at least in_least) h up (kept.round.linked.begins (count - 1) (omega (arith, tail.rest)))
          (at_least_unless (kept.beside (count - 1) least (omega (arith, tail.rest, many)) in_least))
          (at_least_unless (tail.stay (count - 1) (omega (arith, tail.some)))) (tail.go least gone in_least)))
    ]

    -- so the least is where the cut begins,
    pub least_at_begin : IsUpward cut → IsLeast ds place
    least_at_begin up i less =
        none_before_meeting behind.0 behind.1 cut.0 cut.1 turn_behind (corner ds place) (corner ds i) (left.convex.rational place side.within)
        (down_behind up) up side.from_behind side.from_cut (left_of_old (count - 1) i (omega (arith, tail.rest)) less) (left_of_cut i less)

    -- where it goes down, the side ahead goes up,
    up_ahead : IsUpward (turned cut) → IsUpward ahead
    up_ahead down = elim (compare_points ahead.0 ahead.1) [
      | before h ↦ h
      | equal e ↦ absurd (kept.round.linked.two_points (n - 1) (omega (arith, three, many)) e)
      | after h ↦
          absurd (kept.least 0 (omega (arith, three))
          (before_both_down cut.0 cut.1 ahead.0 ahead.1 turn_ahead (corner cs 0) (corner cs least) (at 0 (omega (arith, three)))
          (at least in_least) down h
          (subst (λ k. let l = line_at ls (k - 1) in determinant (whole l.0) (whole l.1) (corner cs 0) ≡ pos 0) many
          (kept.round.closes (omega (arith, three))))
          (at_least_unless (kept.beside (n - 1) least (omega (arith, three, many)) in_least)) (at_least_unless (tail.stay 0 tail.some))
          (tail.go least gone in_least)))
    ]

    -- and the least is where it ends
    pub least_at_end : IsUpward (turned cut) → IsLeast ds ((place + 1) % length ds)
    least_at_end down i less =
        let in_end : (place + 1) % length ds < length ds = mod-lt (place + 1) (omega (arith, less)) in
        none_before_meeting cut.0 cut.1 ahead.0 ahead.1 turn_ahead (corner_at ds (place + 1)) (corner ds i)
        (left.convex.rational ((place + 1) % length ds) in_end) down (up_ahead down) side.to_cut
        (subst (λ k. let l = line_at ls (k - 1) in determinant (whole l.0) (whole l.1) (corner_at ds (place + 1)) ≡ pos 0) many side.to_before)
        (left_of_cut i less) (left_of_old (n - 1) i (omega (arith, three)) less)

-- ---- after a cut that keeps a block

module _ {cut : Line} {cs : List Triple} {ls : List Line} {least start count m k : ℕ} (differ : cut.0 ≢ cut.1) (kept : IsRegionKept cs ls least)
    (block : IsBlock cut cs start count) (is_m : m ≡ (least + (k - start)) % length cs) (en : k ≡ length cs) (not_two : length cs ≢ 2) {ds : List Triple}
    (left : IsCut (whole cut.0) (whole cut.1) (from_place start cs) ds) where
  kept' : IsRegionKept (from_place start cs) (from_place start ls) m
  kept' = subst (IsRegionKept (from_place start cs) (from_place start ls)) (sym (is_m ∙ ap (λ j. (least + (j - start)) % length cs) en))
      (kept_there cs ls least start kept block.within)

  three' : 3 ≤ length (from_place start cs)
  three' = omega (arith, length_rotated cs start (omega (arith, block.within)), not_two, block.some, block.rest)

  tail' : IsTail cut (from_place start cs) (from_place start ls) count
  tail' = tail_there differ kept.convex kept.round block

  in_count : (i : ℕ) → i < length ds → IsLeast ds i → IsLeast ds (i % length ds)
  in_count i less is = subst (IsLeast ds) (sym (mod-eq_of_lt less)) is

  pub stays_there : m < length ds → ((i : ℕ) → i < count → corner ds i ≡ corner (from_place start cs) i) → m < count → IsLeast ds (m % length ds)
  stays_there within same less = in_count m within (least_stays kept' tail' three' left (same m less))

  module _ (gone : count ≤ m) {place : ℕ} (side : (3 ≤ length (from_place start cs) → IsCutSide cut (line_at (from_place start ls) (count - 1))
      (line_at (from_place start ls) (length (from_place start ls) - 1)) ds place)) where
    pub begins_there : IsUpward cut → IsLeast ds (place % length ds)
    begins_there up = in_count place (side three').within (least_at_begin kept' tail' three' left gone (side three') up)

    pub ends_there : ¬ IsUpward cut → IsLeast ds ((place + 1) % length ds)
    ends_there not = elim (compare_points cut.0 cut.1) [
      | before h ↦ absurd (not h)
      | equal e ↦ absurd (differ e)
      | after h ↦ least_at_end kept' tail' three' left gone (side three') h
    ]
