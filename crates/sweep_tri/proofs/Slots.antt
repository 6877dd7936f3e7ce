-- Gaps in slots, with the numbers of the slots of the open ones: what is left after a gap is replaced, inserted or removed.
use Rattle.std.proofs.Common.{◌≡◌, ◌≢◌, refl, sym, ap, subst, ◌∙◌, ℕ, ◌+◌, ◌-◌, ◌<◌, ◌≤◌, suc, List, [], ◌∷◌, ◌++◌, length, inl, inr, arith}
use Rattle.std.proofs.lemmas.Bool.{cases_eq, cases_lt, cases_order}
use Rattle.std.proofs.lemmas.List.{drop-map, drop-set-lt, get_or-map, get_or-set_other, get_or-set_same, get_or_append_left, get_or_default}
use Rattle.std.proofs.lemmas.List.{get_or-take, get_or_push, length-map, length-set, length-take, length_push, map-append, same_lists, take-map, take-set}
use Rattle.std.proofs.lemmas.List.Edits.{get_or-insert_above, get_or-insert_at, get_or-insert_below, get_or-remove_above, get_or-remove_below}
use Rattle.std.proofs.lemmas.List.Edits.{length-insert, length-remove}
use Rattle.std.proofs.lemmas.List.Elements.{All-append, All-cons, All-drop, All-push, All-take}
use Rattle.std.specs.List.{All, insert, remove}
use Rattle.std.specs.Prelude.{drop, slice_index, slice_index_or, slice_set, take}
use Rattle.sweep_tri.specs.Gaps.{gap_at}
use Rattle.sweep_tri.specs.Slots.{AreSlotNumbers, AreSlots, gaps_of}
use Rattle.sweep_tri.specs.declared.gap.Gap.{Gap}

-- as many gaps as numbers
pub gaps_count : (slots : List Gap) (numbers : List ℕ) → length (gaps_of slots numbers) ≡ length numbers
gaps_count slots numbers = length-map numbers (gap_at slots)

-- so the place of a gap is that of a number
pub number_in : (slots : List Gap) (numbers : List ℕ) (gaps : List Gap) (j : ℕ) → gaps_of slots numbers ≡ gaps → j < length gaps
    → j < length numbers
number_in slots numbers gaps j is less = omega (arith, less, gaps_count slots numbers, ap length is)

-- the gap at a place is the one in the slot of the number there
pub gap_is : (slots : List Gap) (numbers : List ℕ) (j : ℕ) → j < length numbers
    → gap_at (gaps_of slots numbers) j ≡ gap_at slots (slice_index numbers j)
gap_is slots numbers j within = get_or-map (gap_at slots) numbers j 0 _ within

-- slots that hold the same at all numbers hold the same gaps
same_gaps : (slots others : List Gap) (numbers : List ℕ)
    → ((k : ℕ) → k < length numbers → gap_at slots (slice_index numbers k) ≡ gap_at others (slice_index numbers k))
    → gaps_of slots numbers ≡ gaps_of others numbers
same_gaps slots others numbers same = same_lists (gaps_of slots numbers) (gaps_of others numbers)
    (gaps_count slots numbers ∙ sym (gaps_count others numbers))
    (λ k d less.
    let within : k < length numbers = omega (arith, less, gaps_count slots numbers) in
    get_or-map (gap_at slots) numbers k 0 d within ∙ same k within ∙ sym (get_or-map (gap_at others) numbers k 0 d within))

module _ (slots : List Gap) (numbers : List ℕ) (are : AreSlotNumbers slots numbers) where
  -- numbers at different places differ
  differ : (i j : ℕ) → i < length numbers → j < length numbers → i ≢ j → slice_index numbers i ≢ slice_index numbers j
  differ i j i_within j_within other = elim (cases_order i j) [
    | inl same ↦ absurd (other same)
    | inr unlike ↦ elim unlike [
      | inl less ↦ are.apart i j less j_within
      | inr more ↦ λ same. are.apart j i more i_within (sym same)
    ]
  ]

  -- ---- a gap in the place of another

  module _ (j : ℕ) (within : j < length numbers) (g : Gap) where
    -- the numbers are still those of slots,
    pub numbers_replaced : AreSlotNumbers (slice_set slots (slice_index numbers j) g) numbers
    numbers_replaced = record {
      below = λ k d less. subst (λ n. slice_index_or numbers k d < n) (sym (length-set slots (slice_index numbers j) g)) (are.below k d less);
      apart = are.apart;
    }

    -- and just the gap at the place is another
    pub gaps_replaced : gaps_of (slice_set slots (slice_index numbers j) g) numbers ≡ slice_set (gaps_of slots numbers) j g
    gaps_replaced =
        let new : List Gap = slice_set slots (slice_index numbers j) g in
        let old : List Gap = gaps_of slots numbers in
        let old_count : length old ≡ length numbers = gaps_count slots numbers in
        same_lists (gaps_of new numbers) (slice_set old j g) (gaps_count new numbers ∙ sym (length-set old j g ∙ old_count))
        (λ k d less.
        let here : k < length numbers = omega (arith, less, gaps_count new numbers) in
        let at : slice_index_or (gaps_of new numbers) k d ≡ gap_at new (slice_index numbers k) = get_or-map (gap_at new) numbers k 0 d here in
        elim (cases_eq k j) [
          | inl same ↦
              at ∙ ap (λ i. gap_at new (slice_index numbers i)) same
              ∙ get_or-set_same slots (slice_index numbers j) g _ (are.below j 0 within)
              ∙ sym (ap (λ i. slice_index_or (slice_set old j g) i d) same ∙ get_or-set_same old j g d (omega (arith, within, old_count)))
          | inr other ↦
              at ∙ get_or-set_other slots (slice_index numbers j) (slice_index numbers k) g _ (differ k j here within other)
              ∙ sym (get_or-set_other old j k g d other ∙ get_or-map (gap_at slots) numbers k 0 d here)
        ])

  -- ---- a gap in a slot that has no number yet

  module _ (j : ℕ) (within : j ≤ length numbers) (s : ℕ) (other : All (λ n. n ≢ s) numbers) (new_slots : List Gap) where
    -- the numbers are those of slots,
    pub numbers_inserted : length slots ≤ length new_slots → s < length new_slots → AreSlotNumbers new_slots (insert numbers j s)
    numbers_inserted more_slots s_below =
        let new : List ℕ = insert numbers j s in
        let count : length new ≡ length numbers + 1 = length-insert numbers j s within in
        let before : (k : ℕ) → k < j → slice_index new k ≡ slice_index numbers k
        = λ k less. get_or-insert_below numbers j s 0 k less within in
        let there : slice_index new j ≡ s = get_or-insert_at numbers j s 0 within in
        let after : (k : ℕ) → j ≤ k → slice_index new (k + 1) ≡ slice_index numbers k
        = λ k more. get_or-insert_above numbers j s 0 k more within in
        let after_less : (k : ℕ) → j < k → slice_index new k ≡ slice_index numbers (k - 1)
        = λ k more. subst (λ i. slice_index new i ≡ slice_index numbers (k - 1)) (omega (arith, more)) (after (k - 1) (omega (arith, more))) in
        record {
          below = λ k d less. subst (λ n. n < length new_slots) (get_or_default new k 0 d less) (elim (cases_order k j) [
            | inl same ↦ omega (arith, there, s_below, ap (slice_index new) same)
            | inr unlike ↦ elim unlike [
              | inl fewer ↦ omega (arith, before k fewer, more_slots, are.below k 0 (omega (arith, fewer, within)))
              | inr more ↦
                  omega (arith, after_less k more, more_slots, are.below (k - 1) 0 (omega (arith, less, count, more)))
            ]
          ]);
          apart = λ i k first less same. elim (cases_order k j) [
            | inl here ↦
                let earlier : i < j = omega (arith, first, here) in
                other i 0 (omega (arith, earlier, within)) (sym (before i earlier) ∙ same ∙ ap (slice_index new) here ∙ there)
            | inr unlike ↦ elim unlike [
              | inl fewer ↦ are.apart i k first (omega (arith, fewer, within))
                  (sym (before i (omega (arith, first, fewer))) ∙ same ∙ before k fewer)
              | inr more ↦ elim (cases_order i j) [
                | inl here ↦ other (k - 1) 0 (omega (arith, less, count, more))
                    (sym (after_less k more) ∙ sym same ∙ ap (slice_index new) here ∙ there)
                | inr unlike_i ↦ elim unlike_i [
                  | inl fewer ↦ are.apart i (k - 1) (omega (arith, fewer, more)) (omega (arith, less, count, more))
                      (sym (before i fewer) ∙ same ∙ after_less k more)
                  | inr later ↦ are.apart (i - 1) (k - 1) (omega (arith, later, first)) (omega (arith, less, count, more))
                      (sym (after_less i later) ∙ same ∙ after_less k more)
                ]
              ]
            ]
          ];
        }

    -- and the gap stands at the place
    inserted : (g : Gap) → ((k : ℕ) → k < length numbers → gap_at new_slots (slice_index numbers k) ≡ gap_at slots (slice_index numbers k))
        → gap_at new_slots s ≡ g → gaps_of new_slots (insert numbers j s) ≡ insert (gaps_of slots numbers) j g
    inserted g kept there =
        let same : gaps_of new_slots numbers ≡ gaps_of slots numbers = same_gaps new_slots slots numbers kept in
        map-append (gap_at new_slots) (take j numbers) (s ∷ drop j numbers)
        ∙ ap (λ front. front ++ gap_at new_slots s ∷ gaps_of new_slots (drop j numbers)) (sym (take-map (gap_at new_slots) j numbers))
        ∙ ap (λ back. take j (gaps_of new_slots numbers) ++ gap_at new_slots s ∷ back) (sym (drop-map (gap_at new_slots) j numbers))
        ∙ ap (λ here. insert (gaps_of new_slots numbers) j here) there
        ∙ ap (λ gaps. insert gaps j g) same

  module _ (j : ℕ) (within : j ≤ length numbers) (g : Gap) where
    -- a new slot has none,
    pub none_has_new : All (λ n. n ≢ length slots) numbers
    none_has_new = λ k d less same. omega (arith, are.below k d less, same)

    -- so it is there in a new one,
    pub gaps_inserted : gaps_of (slots ++ g ∷ []) (insert numbers j (length slots)) ≡ insert (gaps_of slots numbers) j g
    gaps_inserted =
        inserted j within (length slots) none_has_new (slots ++ g ∷ []) g
        (λ k less. get_or_append_left slots (g ∷ []) _ (slice_index numbers k) (are.below k 0 less))
        (get_or_push slots g _ (length slots) refl)

    -- or in a free one
    pub gaps_reused : (s : ℕ) → s < length slots → All (λ n. n ≢ s) numbers
        → gaps_of (slice_set slots s g) (insert numbers j s) ≡ insert (gaps_of slots numbers) j g
    gaps_reused s s_below other =
        inserted j within s other (slice_set slots s g) g
        (λ k less. get_or-set_other slots s (slice_index numbers k) g _ (other k 0 less))
        (get_or-set_same slots s g _ s_below)

  -- ---- a gap that is removed, and its slot left with another

  module _ (j : ℕ) (within : j < length numbers) (g : Gap) where
    -- the numbers are still those of slots,
    pub numbers_removed : AreSlotNumbers (slice_set slots (slice_index numbers j) g) (remove numbers j)
    numbers_removed =
        let rest : List ℕ = remove numbers j in
        let count : length rest + 1 ≡ length numbers = length-remove numbers j within in
        let before : (k : ℕ) → k < j → slice_index rest k ≡ slice_index numbers k = λ k less. get_or-remove_below numbers j 0 k less within in
        let after : (k : ℕ) → j ≤ k → slice_index rest k ≡ slice_index numbers (k + 1)
        = λ k more. get_or-remove_above numbers j 0 k more within in
        let old : AreSlotNumbers (slice_set slots (slice_index numbers j) g) numbers = numbers_replaced j within g in
        record {
          below = λ k d less. subst (λ n. n < length (slice_set slots (slice_index numbers j) g)) (get_or_default rest k 0 d less) (
              elim (cases_lt k j) [
                | inl fewer ↦ omega (arith, before k fewer, old.below k 0 (omega (arith, less, count)))
                | inr more ↦ omega (arith, after k more, old.below (k + 1) 0 (omega (arith, less, count)))
              ]);
          apart = λ i k first less same. elim (cases_lt k j) [
            | inl fewer ↦ are.apart i k first (omega (arith, less, count)) (sym (before i (omega (arith, first, fewer))) ∙ same ∙ before k fewer)
            | inr more ↦ elim (cases_lt i j) [
              | inl fewer ↦ are.apart i (k + 1) (omega (arith, first)) (omega (arith, less, count)) (sym (before i fewer) ∙ same ∙ after k more)
              | inr later ↦ are.apart (i + 1) (k + 1) (omega (arith, first)) (omega (arith, less, count))
                  (sym (after i later) ∙ same ∙ after k more)
            ]
          ];
        }

    -- and the gap is gone
    pub gaps_removed : gaps_of (slice_set slots (slice_index numbers j) g) (remove numbers j) ≡ remove (gaps_of slots numbers) j
    gaps_removed =
        let new : List Gap = slice_set slots (slice_index numbers j) g in
        let old : List Gap = gaps_of slots numbers in
        map-append (gap_at new) (take j numbers) (drop (suc j) numbers)
        ∙ ap (λ front. front ++ gaps_of new (drop (suc j) numbers)) (sym (take-map (gap_at new) j numbers))
        ∙ ap (λ back. take j (gaps_of new numbers) ++ back) (sym (drop-map (gap_at new) (suc j) numbers))
        ∙ ap (λ gaps. remove gaps j) (gaps_replaced j within g)
        ∙ ap (λ front. front ++ drop (suc j) (slice_set old j g)) (take-set old j g)
        ∙ ap (λ back. take j old ++ back) (drop-set-lt (suc j) old j g (omega arith))

-- ---- with the free slots

-- numbers are those of slots where there are as many, or more
numbers_of_more : (slots others : List Gap) (numbers : List ℕ) → length slots ≤ length others → AreSlotNumbers slots numbers → AreSlotNumbers others numbers
numbers_of_more slots others numbers more are = record { below = λ k d less. omega (arith, are.below k d less, more); apart = are.apart }

module _ (slots : List Gap) (numbers free : List ℕ) (are : AreSlots slots numbers free) where
  -- where none is free, a gap comes into a new one,
  pub slots_added : length free ≡ 0 → (j : ℕ) → j ≤ length numbers → (g : Gap) → AreSlots (slots ++ g ∷ []) (insert numbers j (length slots)) free
  slots_added none j within g =
      let more = length_push slots g in
      record {
        taken = numbers_inserted slots numbers are.taken j within (length slots) (none_has_new slots numbers are.taken j within g) (slots ++ g ∷ [])
            (omega (arith, more)) (omega (arith, more));
        left = numbers_of_more slots _ free (omega (arith, more)) are.left;
        apart = λ k d less. absurd (omega (arith, less, none));
        count = omega (arith, more, are.count, length-insert numbers j (length slots) within);
      }

  -- and the slot of a gap that is removed is free
  pub slots_freed : (j : ℕ) → j < length numbers → (g : Gap)
      → AreSlots (slice_set slots (slice_index numbers j) g) (remove numbers j) (free ++ slice_index numbers j ∷ [])
  slots_freed j within g =
      let s = slice_index numbers j in
      let same = length-set slots s g in
      let count : length (remove numbers j) + 1 ≡ length numbers = length-remove numbers j within in
      let unlike : (k d : ℕ) → k < length free → All (λ n. n ≢ slice_index_or free k d) numbers = λ k d less. are.apart k d less in
      record {
        taken = numbers_removed slots numbers are.taken j within g;
        left = record {
          below = All-push (λ i. i < length (slice_set slots s g)) free s (λ k d less. omega (arith, same, are.left.below k d less)) (omega (arith, same, are.taken.below j 0 within));
          apart = λ i k first less e. elim (cases_lt k (length free)) [
            | inl earlier ↦ are.left.apart i k first earlier
                (sym (get_or_append_left free (s ∷ []) 0 i (omega (arith, first, earlier))) ∙ e ∙ get_or_append_left free (s ∷ []) 0 k earlier)
            | inr last ↦
                let end : length free ≡ k = omega (arith, last, less, length_push free s) in
                unlike i 0 (omega (arith, first, end)) j 0 within
                (sym (get_or_push free s 0 k end) ∙ sym e ∙ get_or_append_left free (s ∷ []) 0 i (omega (arith, first, end)))
          ];
        };
        apart = All-push (λ t. All (λ n. n ≢ t) (remove numbers j)) free s
            (λ k d less.
            let Other = λ (n : ℕ). n ≢ slice_index_or free k d in
            All-append Other (take j numbers) (drop (suc j) numbers) (All-take Other j numbers (unlike k d less))
            (All-drop Other (suc j) numbers (unlike k d less)))
            (λ k d less. elim (cases_lt k j) [
              | inl fewer ↦ λ e. are.taken.apart k j fewer within
                  (sym (get_or-remove_below numbers j 0 k fewer within) ∙ get_or_default (remove numbers j) k 0 d less ∙ e)
              | inr more ↦ λ e. are.taken.apart j (k + 1) (omega (arith, more)) (omega (arith, less, count))
                  (sym (sym (get_or-remove_above numbers j 0 k more within) ∙ get_or_default (remove numbers j) k 0 d less ∙ e))
            ]);
        count = omega (arith, same, are.count, count, length_push free s);
      }

module _ (slots : List Gap) (numbers free : List ℕ) (are : AreSlots slots numbers free) (some : 0 < length free) where
  -- the last free slot,
  abbrev s : ℕ
  s = slice_index free (length free - 1)

  -- is one,
  pub free_below : s < length slots
  free_below = are.left.below (length free - 1) 0 (omega (arith, some))

  -- and no open gap is in it,
  pub free_apart : All (λ n. n ≢ s) numbers
  free_apart = are.apart (length free - 1) 0 (omega (arith, some))

  -- so a gap can come into it
  pub slots_reused : (j : ℕ) → j ≤ length numbers → (g : Gap) → AreSlots (slice_set slots s g) (insert numbers j s) (take (length free - 1) free)
  slots_reused j within g =
      let rest : List ℕ = take (length free - 1) free in
      let same = length-set slots s g in
      let count : length rest + 1 ≡ length free = omega (arith, length-take (length free - 1) free, some) in
      let in_rest : (k : ℕ) → k < length rest → slice_index rest k ≡ slice_index free k
      = λ k less. get_or-take (length free - 1) free k 0 (omega (arith, less, count)) in
      let unlike : All (λ t. All (λ n. n ≢ t) numbers) rest = All-take (λ t. All (λ n. n ≢ t) numbers) (length free - 1) free are.apart in
      record {
        taken = numbers_inserted slots numbers are.taken j within s free_apart (slice_set slots s g) (omega (arith, same))
            (omega (arith, same, free_below));
        left = record {
          below = λ k d less. omega (arith, same, All-take (λ i. i < length slots) (length free - 1) free are.left.below k d less);
          apart = λ i k first less e. are.left.apart i k first (omega (arith, less, count))
              (sym (in_rest i (omega (arith, first, less))) ∙ e ∙ in_rest k less);
        };
        apart = λ k d less.
            let Other = λ (n : ℕ). n ≢ slice_index_or rest k d in
            All-append Other (take j numbers) (s ∷ drop j numbers) (All-take Other j numbers (unlike k d less))
            (All-cons Other s (drop j numbers)
            (λ e. are.left.apart k (length free - 1) (omega (arith, less, count)) (omega (arith, some))
            (sym (in_rest k less) ∙ get_or_default rest k 0 d less ∙ sym e))
            (All-drop Other j numbers (unlike k d less)));
        count = omega (arith, same, are.count, count, length-insert numbers j s within);
      }
