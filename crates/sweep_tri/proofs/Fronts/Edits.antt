-- The edges of the gaps after one is put in, replaced, divided, taken out or joined with another.
use Rattle.std.proofs.Common.{◌≡◌, sym, ap, ◌∙◌, ℕ, suc, ◌+◌, ◌*◌, ◌<◌, ◌≤◌, List, [], ◌∷◌, ◌++◌, length, take, drop, arith}
use Rattle.std.proofs.lemmas.List.{append_assoc, length-append}
use Rattle.std.specs.List.{insert, remove}
use Rattle.std.specs.Prelude.{slice_set}
use Rattle.sweep_tri.proofs.Fronts.Gaps.{fronts-append, fronts_divided, fronts_inserted, fronts_joined, fronts_next, fronts_parts, fronts_removed}
use Rattle.sweep_tri.proofs.Fronts.Gaps.{fronts_round, fronts_set, length_before}
use Rattle.sweep_tri.proofs.Fronts.Passed.{IsSpliced, spliced}
use Rattle.sweep_tri.specs.Gaps.{Front, fronts, gap_at, low_front, up_front}
use Rattle.sweep_tri.specs.declared.gap.Gap.{Gap}

-- lists and a place that are written otherwise
spliced_as : (old old' new new' : List Front) (first first' count : ℕ) (put : List Front) → old ≡ old' → new ≡ new' → first' ≡ first
    → IsSpliced old' new' first' count put → IsSpliced old new first count put
spliced_as old old' new new' first first' count put e f g s = rw (e, f, ← g) s

module _ (gaps : List Gap) (j : ℕ) where
  -- where a gap is put in, its edges are
  pub spliced_inserted : (g : Gap) → j ≤ length gaps → IsSpliced (fronts gaps) (fronts (insert gaps j g)) (2 * j) 0 (low_front g ∷ up_front g ∷ [])
  spliced_inserted g h =
      spliced_as _ _ _ _ _ _ 0 _ (fronts_parts gaps j) (fronts_inserted gaps j g) (length_before gaps j h)
      (spliced (fronts (take j gaps)) [] (low_front g ∷ up_front g ∷ []) (fronts (drop j gaps)))

  -- where gap j is taken out, its edges are
  pub spliced_removed : j < length gaps → IsSpliced (fronts gaps) (fronts (remove gaps j)) (2 * j) 2 []
  spliced_removed h =
      spliced_as _ _ _ _ _ _ 2 _ (fronts_round gaps j h) (fronts_removed gaps j) (length_before gaps j (omega (arith, h)))
      (spliced (fronts (take j gaps)) (low_front (gap_at gaps j) ∷ up_front (gap_at gaps j) ∷ []) [] (fronts (drop (suc j) gaps)))

  -- where a gap with its upper edge stands in its place, the lower edge is replaced
  pub spliced_low : (g : Gap) → up_front g ≡ up_front (gap_at gaps j) → j < length gaps
      → IsSpliced (fronts gaps) (fronts (slice_set gaps j g)) (2 * j) 1 (low_front g ∷ [])
  spliced_low g same h =
      let T = fronts (take j gaps) in
      let D = fronts (drop (suc j) gaps) in
      let old = gap_at gaps j in
      spliced_as _ _ _ _ _ _ 1 _ (fronts_round gaps j h) (fronts_set gaps j g h ∙ ap (λ f. T ++ (low_front g ∷ f ∷ D)) same)
      (length_before gaps j (omega (arith, h))) (spliced T (low_front old ∷ []) (low_front g ∷ []) (up_front old ∷ D))

  -- ---- at the edge above gap j

  -- the edges up to the one below gap j
  abbrev up_to_low : List Front
  up_to_low = fronts (take j gaps) ++ (low_front (gap_at gaps j) ∷ [])

  length_up_to_low : j < length gaps → length up_to_low ≡ 2 * j + 1
  length_up_to_low h =
      omega (arith, length-append (fronts (take j gaps)) (low_front (gap_at gaps j) ∷ []), length_before gaps j (omega (arith, h)))

  -- with them a list that begins with the edge below gap j
  regroup : (fs : List Front) → fronts (take j gaps) ++ (low_front (gap_at gaps j) ∷ fs) ≡ up_to_low ++ fs
  regroup fs = sym (append_assoc (fronts (take j gaps)) (low_front (gap_at gaps j) ∷ []) fs)

  -- where a gap with its lower edge stands in its place, the upper edge is replaced
  pub spliced_up : (g : Gap) → low_front g ≡ low_front (gap_at gaps j) → j < length gaps
      → IsSpliced (fronts gaps) (fronts (slice_set gaps j g)) (2 * j + 1) 1 (up_front g ∷ [])
  spliced_up g same h =
      let T = fronts (take j gaps) in
      let D = fronts (drop (suc j) gaps) in
      let old = gap_at gaps j in
      spliced_as _ _ _ _ _ _ 1 _ (fronts_round gaps j h ∙ regroup (up_front old ∷ D))
      (fronts_set gaps j g h ∙ ap (λ f. T ++ (f ∷ up_front g ∷ D)) same ∙ regroup (up_front g ∷ D)) (length_up_to_low h)
      (spliced up_to_low (up_front old ∷ []) (up_front g ∷ []) D)

  -- where one with its lower edge stands in its place, and one with its upper edge after that, two edges come between these
  pub spliced_divided : (g h : Gap) → low_front g ≡ low_front (gap_at gaps j) → up_front h ≡ up_front (gap_at gaps j) → j < length gaps
      → IsSpliced (fronts gaps) (fronts (insert (slice_set gaps j g) (j + 1) h)) (2 * j + 1) 0 (up_front g ∷ low_front h ∷ [])
  spliced_divided g h same_low same_up at =
      let T = fronts (take j gaps) in
      let D = fronts (drop (suc j) gaps) in
      let old = gap_at gaps j in
      let next : j + 1 ≡ suc j = omega arith in
      spliced_as _ _ _ _ _ _ 0 _ (fronts_round gaps j at ∙ regroup (up_front old ∷ D))
      (fronts_divided gaps j g h at
      ∙ (λ i. fronts-append (take j gaps) (g ∷ []) i ++ (low_front h ∷ same_up i ∷ fronts (drop (next i) gaps)))
      ∙ append_assoc T (low_front g ∷ up_front g ∷ []) (low_front h ∷ up_front old ∷ D)
      ∙ ap (λ f. T ++ (f ∷ up_front g ∷ low_front h ∷ up_front old ∷ D)) same_low
      ∙ regroup (up_front g ∷ low_front h ∷ up_front old ∷ D)) (length_up_to_low at)
      (spliced up_to_low [] (up_front g ∷ low_front h ∷ []) (up_front old ∷ D))

  -- where one with its lower edge and the upper edge of the next stands for both, the two edges between go
  pub spliced_joined : (g : Gap) → low_front g ≡ low_front (gap_at gaps j) → up_front g ≡ up_front (gap_at gaps (j + 1)) → j + 1 < length gaps
      → IsSpliced (fronts gaps) (fronts (slice_set (remove gaps (j + 1)) j g)) (2 * j + 1) 2 []
  spliced_joined g same_low same_up h =
      let T = fronts (take j gaps) in
      let D = fronts (drop (suc (j + 1)) gaps) in
      let old = gap_at gaps j in
      let next = gap_at gaps (j + 1) in
      spliced_as _ _ _ _ _ _ 2 _
      (fronts_round gaps j (omega (arith, h)) ∙ ap (λ fs. T ++ (low_front old ∷ up_front old ∷ fs)) (fronts_next gaps j h)
      ∙ regroup (up_front old ∷ low_front next ∷ up_front next ∷ D))
      (fronts_joined gaps j g h ∙ (λ i. T ++ (same_low i ∷ same_up i ∷ D)) ∙ regroup (up_front next ∷ D)) (length_up_to_low (omega (arith, h)))
      (spliced up_to_low (up_front old ∷ low_front next ∷ []) [] (up_front next ∷ D))
