-- How many entries the gaps have in all, after each event.
-- The steps that the events take, by the entries of the gaps before and after them.
use Rattle.std.proofs.Common.{◌≡◌, sym, ap, ◌∙◌, ℕ, suc, ◌+◌, ◌-◌, ◌<◌, ◌≤◌, Bool, true, false, nat_lt, Option, Some, None, List, [], ◌∷◌}
use Rattle.std.proofs.Common.{◌++◌, length, take, drop, set, arith, ◌*◌, Result, Ok, Err}
use Rattle.std.proofs.lemmas.List.{drop_more, length-append, length-take-le, set_split, take-append-drop, length-set, set-set}
use Rattle.std.proofs.lemmas.List.Edits.{get_or-remove_below}
use Rattle.std.specs.List.{insert, remove}
use Rattle.std.specs.Prelude.{if◌then◌else◌, slice_index}
use Rattle.mono_fill.specs.declared.side.Side.{Side}
use Rattle.mono_fill.specs.declared.side.Side.TheVariants.{Lower, Upper}
use Rattle.sweep_tri.specs.Entries.{entries, entries_of_all, gap_entries, status_entries, IsAccounted, IsPaid, IsWithinAccount, event_work}
use Rattle.sweep_tri.specs.Gaps.{before_last, gap_at, no_gap}
use Rattle.sweep_tri.specs.Meeting.{beside_front, closed_at, left_at, past_diagonal, split_above, split_below, with_vertex, gap_of}
use Rattle.sweep_tri.specs.Meeting.{region_from}
use Rattle.sweep_tri.specs.Region.{Chains}
use Rattle.sweep_tri.specs.declared.gap.Gap.{Gap}

-- ---- lists of gaps

entries-append : (gs hs : List Gap) → status_entries (gs ++ hs) ≡ status_entries gs + status_entries hs
entries-append [] hs = omega arith
entries-append (g ∷ gs) hs = omega (arith, entries-append gs hs)

module _ (gaps : List Gap) (j : ℕ) where
  all_parts : status_entries (take j gaps) + status_entries (drop j gaps) ≡ status_entries gaps
  all_parts = sym (entries-append (take j gaps) (drop j gaps)) ∙ ap status_entries (take-append-drop j gaps)

  -- with one more
  pub entries_inserted : (g : Gap) → status_entries (insert gaps j g) ≡ status_entries gaps + gap_entries g
  entries_inserted g = omega (arith, entries-append (take j gaps) (g ∷ drop j gaps), all_parts)

  -- without one
  pub entries_removed : j < length gaps → status_entries (remove gaps j) + gap_entries (gap_at gaps j) ≡ status_entries gaps
  entries_removed within =
      let after : suc j ≡ j + 1 = omega arith in
      let rest : drop j gaps ≡ gap_at gaps j ∷ drop (suc j) gaps
      = drop_more gaps j no_gap within ∙ ap (λ n. gap_at gaps j ∷ drop n gaps) (sym after) in
      omega (arith, entries-append (take j gaps) (drop (suc j) gaps), all_parts, ap status_entries rest)

  -- no gap has more than all
  pub entries_within : j < length gaps → gap_entries (gap_at gaps j) ≤ status_entries gaps
  entries_within within = omega (arith, entries_removed within)

  -- with another in its place
  pub entries_replaced : (g : Gap) → j < length gaps
      → status_entries (set gaps j g) + gap_entries (gap_at gaps j) ≡ status_entries gaps + gap_entries g
  entries_replaced g within =
      let cut = ap status_entries (set_split gaps j g within) in
      omega (
        arith,
        cut,
        entries-append (take j gaps) (g ∷ drop (suc j) gaps),
        entries-append (take j gaps) (drop (suc j) gaps),
        entries_removed within,
      )

-- ---- regions that are closed, and those that are left

pub entries_with : (side : Side) (c : Chains) (v : ℕ) → entries (with_vertex side c v) ≡ entries c + 1
entries_with Lower c v = omega (arith, length-append c.lower (v ∷ []))
entries_with Upper c v = omega (arith, length-append c.upper (v ∷ []))

-- where an edge of a gap ends
pub entries_met : (side : Side) (low : Chains) (high : Option Chains) (v : ℕ)
    → entries_of_all (closed_at side low high v) + entries (left_at side low high v) ≤ gap_entries (record { low = low; high = high }) + 2
entries_met side low None v = omega arith
entries_met Lower low (Some high) v = omega (arith, entries_with Upper low v, entries_with Lower high v)
entries_met Upper low (Some high) v = omega (arith, entries_with Upper low v, entries_with Lower high v)

-- ---- a split

module _ (v a b : ℕ) (c : Chains) where
  -- a chain without its last vertex and two more
  entries_turned : (path : List ℕ) (w : ℕ) → length (take (length path - 1) path ++ v ∷ w ∷ []) ≤ length path + 2
  entries_turned path w =
      omega (arith, length-append (take (length path - 1) path) (v ∷ w ∷ []), length-take-le (length path - 1) path (omega arith))

  -- from the one vertex or the other
  entries_latest : (from_lower : Bool) → entries (if from_lower then beside_front Lower c v a else past_diagonal Upper c v a)
      + entries (if from_lower then past_diagonal Lower c v b else beside_front Upper c v b) ≤ entries c + 7
  entries_latest true = omega (arith, entries_turned c.lower b)
  entries_latest false = omega (arith, entries_turned c.upper a)

pub entries_split : (ranks : List ℕ) (v a b : ℕ) (low : Chains) (high : Option Chains)
    → entries (split_below ranks low high v a) + entries (split_above ranks low high v b) ≤ gap_entries (record { low = low; high = high }) + 7
entries_split ranks v a b low None =
    let less = nat_lt (slice_index ranks (before_last low.upper)) (slice_index ranks (before_last low.lower)) in
    omega (arith, entries_latest v a b low less)
entries_split ranks v a b low (Some high) = omega (arith, length-append low.upper (v ∷ a ∷ []), length-append high.lower (v ∷ b ∷ []))

-- two gaps put at one place: the second one is there
pub replaced_twice : (gaps gaps' gaps'' : List Gap) (j : ℕ) (g g' : Gap) → gaps' ≡ set gaps j g → gaps'' ≡ set gaps' j g' → gaps'' ≡ set gaps j g'
replaced_twice gaps gaps' gaps'' j g g' first second = second ∙ ap (λ gs. set gs j g') first ∙ set-set gaps j g g'

-- a gap put at a place leaves as many
pub as_many : (gaps gaps' : List Gap) (j : ℕ) (g : Gap) → gaps' ≡ set gaps j g → length gaps' ≡ length gaps
as_many gaps gaps' j g is = ap length is ∙ length-set gaps j g

-- a gap below one that is removed is there
pub still_there : (gaps : List Gap) (i j : ℕ) → i < j → j < length gaps → gap_at (remove gaps j) i ≡ gap_at gaps i
still_there gaps i j less within = get_or-remove_below gaps j no_gap i less within

-- a gap put at a place brings no more entries than it has
pub put_entries : (gaps gaps' : List Gap) (j : ℕ) (g : Gap) → j < length gaps → gaps' ≡ set gaps j g
    → status_entries gaps' ≤ status_entries gaps + gap_entries g
put_entries gaps gaps' j g within is = omega (arith, ap status_entries is, entries_replaced gaps j g within)

-- what is paid for is accounted for
pub accounted : {A E : Type 0} (result : Result A E) (old new : List Gap) (more s0 s : ℕ) → IsPaid old new more s0 s → IsAccounted result old new more s0 s
accounted (Ok x) old new more s0 s paid = (omega (arith, paid), paid)
accounted (Err e) old new more s0 s paid = (omega (arith, paid), tt)

module _ (gaps : List Gap) (j : ℕ) (s0 : ℕ) where
  -- ---- a gap begins

  pub starts_paid : (v a b s : ℕ) → s ≤ s0 + 1 → (new : List Gap) → new ≡ insert gaps j (gap_of (region_from v a b))
      → IsPaid gaps new event_work s0 s
  starts_paid v a b s most new is = omega (arith, most, ap status_entries is, entries_inserted gaps j (gap_of (region_from v a b)))

  module _ (within : j < length gaps) where
    -- ---- a gap is split

    pub splits_paid : (ranks : List ℕ) (v a b s : ℕ) → s ≤ s0 + 1 → (new : List Gap)
        → (let g = gap_at gaps j in new
        ≡ insert (set gaps j (gap_of (split_below ranks g.low g.high v a))) (j + 1) (gap_of (split_above ranks g.low g.high v b)))
        → IsPaid gaps new event_work s0 s
    splits_paid ranks v a b s most new is =
        let g = gap_at gaps j in
        let below = gap_of (split_below ranks g.low g.high v a) in
        let above = gap_of (split_above ranks g.low g.high v b) in
        omega (
          arith,
          most,
          ap status_entries is,
          entries_inserted (set gaps j below) (j + 1) above,
          entries_replaced gaps j below within,
          entries_split ranks v a b g.low g.high,
        )

    -- ---- an edge of the gap ends, so that some regions are closed and one is left

    module _ (side : Side) (v : ℕ) (g : Gap) (is_gap : g ≡ gap_at gaps j) (s : ℕ)
        (met : s ≤ s0 + 8 * entries_of_all (closed_at side g.low g.high v)) where
      all_met : entries_of_all (closed_at side g.low g.high v) + entries (left_at side g.low g.high v) ≤ gap_entries (gap_at gaps j) + 2
      all_met = omega (arith, entries_met side g.low g.high v, ap gap_entries is_gap)

      pub met_work : IsWithinAccount gaps 16 s0 s
      met_work = omega (arith, met, all_met, entries_within gaps j within)

      module _ (new : List Gap) (left : Chains) (left_is : left ≡ left_at side g.low g.high v) where
        -- the gap is removed
        pub removed_paid : new ≡ remove gaps j → IsPaid gaps new 16 s0 (s + 8 * entries left)
        removed_paid is = omega (arith, met, all_met, entries_removed gaps j within, ap status_entries is, ap entries left_is)

        -- nothing is left in it
        pub emptied_paid : (none : Gap) → none ≡ no_gap → new ≡ set gaps j none → IsPaid gaps new 16 s0 (s + 8 * entries left)
        emptied_paid none none_is is =
            omega (arith, met, all_met, entries_replaced gaps j none within, ap gap_entries none_is, ap status_entries is, ap entries left_is)
