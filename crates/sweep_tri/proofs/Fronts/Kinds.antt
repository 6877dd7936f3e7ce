-- Which edges of the gaps end at the vertex of an event, by its place among the gaps.
use Rattle.std.proofs.Common.{◌≡◌, ◌⊎◌, inl, inr, sym, subst, ℕ, ◌+◌, ◌-◌, ◌*◌, ◌<◌, ◌≤◌, List, length, arith}
use Rattle.std.proofs.lemmas.Bool.{cases_lt}
use Rattle.std.specs.Prelude.{slice_index}
use Rattle.plane.specs.Point.{Point}
use Rattle.rings.specs.Events.{AreEvents}
use Rattle.rings.specs.Simple.{IsSimple}
use Rattle.sweep_tri.proofs.Fronts.Beside.{AreBeside}
use Rattle.sweep_tri.proofs.Fronts.Parted.{low_above, low_ends, low_in_middle, none_ends, one_ends, two_end, up_ends, up_in_middle}
use Rattle.sweep_tri.proofs.Fronts.Parted.{up_under, IsParted, parted}
use Rattle.sweep_tri.proofs.Fronts.Gaps.{length-fronts, low_at, up_at}
use Rattle.sweep_tri.proofs.Fronts.Sides.{above_no_end, above_not_under}
use Rattle.sweep_tri.specs.Frontier.{IsAbove, IsFrontier, IsGapPlace, IsUnder, front_at}
use Rattle.sweep_tri.specs.Gaps.{fronts, gap_at, low_front, up_front}
use Rattle.sweep_tri.specs.declared.gap.Gap.{Gap}

-- ---- the place of the vertex of an event

module _ (corners : List Point) (order ranks : List ℕ) (are : AreEvents corners order ranks) (three : 3 ≤ length corners) (simple : IsSimple corners)
    (k v : ℕ) (hv : v < length ranks) (rank_v : slice_index ranks v ≡ k) (gaps : List Gap) (frontier : IsFrontier corners ranks k (fronts gaps)) where
  module _ (j : ℕ) (place : IsGapPlace corners gaps v j) where
    -- the edges before the place of v are at most those of the gaps before its own,
    at_most : (first count : ℕ) → IsParted corners (fronts gaps) v first count → first ≤ 2 * j
    at_most first count p =
        let size = length-fronts gaps in
        let inside = p.inside in
        let short = place.inside in
        elim (cases_lt (2 * j) first) [
          | inl more ↦
              let h : j < length gaps = omega (arith, more, inside, size) in
              absurd (place.not_above j (omega arith) h (low_above corners gaps v first count p j h more))
          | inr not ↦ not
        ]

    -- and lack one of them at most
    at_least : (first count : ℕ) → IsParted corners (fronts gaps) v first count → 0 < j → 2 * (j - 1) + 1 ≤ first
    at_least first count p some =
        let size = length-fronts gaps in
        let short = place.inside in
        let h : j - 1 < length gaps = omega (arith, some, short) in
        let above : IsAbove corners (front_at (fronts gaps) (2 * (j - 1))) v =
        subst (λ f. IsAbove corners f v) (sym (low_at gaps (j - 1) h)) (place.above (j - 1) (omega (arith, some))) in
        elim (cases_lt (2 * (j - 1)) first) [
          | inl less ↦ omega (arith, less)
          | inr not ↦ elim (cases_lt (2 * (j - 1)) (first + count)) [
            | inl ending ↦ absurd (above_no_end corners (front_at (fronts gaps) (2 * (j - 1))) v above (p.ends_next (2 * (j - 1)) not ending))
            | inr late ↦
                absurd (above_not_under corners (front_at (fronts gaps) (2 * (j - 1))) v above
                (p.under_rest (2 * (j - 1)) late (omega (arith, h, size))))
          ]
        ]

    -- so v is at one of two places
    two_places : (first count n : ℕ) → IsParted corners (fronts gaps) v first count → count ≡ n
        → IsParted corners (fronts gaps) v (2 * j) n ⊎ ((0 < j) × IsParted corners (fronts gaps) v (2 * (j - 1) + 1) n)
    two_places first count n p is =
        let most = at_most first count p in
        let here = subst (IsParted corners (fronts gaps) v first) is p in
        elim (cases_lt first (2 * j)) [
          | inl less ↦
              let some : 0 < j = omega (arith, less) in
              let same : first ≡ 2 * (j - 1) + 1 = omega (arith, less, some, at_least first count p some) in
              inr (some, subst (λ m. IsParted corners (fronts gaps) v m n) same here)
          | inr not ↦
              let same : first ≡ 2 * j = omega (arith, not, most) in
              inl (subst (λ m. IsParted corners (fronts gaps) v m n) same here)
        ]

    module _ (s t : ℕ) (beside : AreBeside (length ranks) v s t) where
      -- where no edge ends at v, it is between two gaps or in one
      both_later : k < slice_index ranks s → k < slice_index ranks t
          → IsParted corners (fronts gaps) v (2 * j) 0 ⊎ ((0 < j) × IsParted corners (fronts gaps) v (2 * (j - 1) + 1) 0)
      both_later later_s later_t =
          let (first, count, p) = parted corners order ranks are three simple k v hv rank_v (fronts gaps) frontier in
          two_places first count 0 p
          (none_ends corners order ranks are three simple k v hv rank_v (fronts gaps) frontier first count p s t beside later_s later_t)

      -- in one, where it is under its upper edge
      pub in_gap : k < slice_index ranks s → k < slice_index ranks t → 0 < j → IsUnder corners (up_front (gap_at gaps (j - 1))) v
          → IsParted corners (fronts gaps) v (2 * (j - 1) + 1) 0
      in_gap later_s later_t some under =
          let short = place.inside in
          let h : j - 1 < length gaps = omega (arith, some, short) in
          elim (both_later later_s later_t) [
            | inl p ↦
                absurd (above_not_under corners (front_at (fronts gaps) (2 * (j - 1) + 1)) v (p.above_first (2 * (j - 1) + 1) (omega (arith, some)))
                (subst (λ f. IsUnder corners f v) (sym (up_at gaps (j - 1) h)) under))
            | inr p ↦ p.1
          ]

      -- else between two
      pub between_gaps : k < slice_index ranks s → k < slice_index ranks t → (0 < j → ¬ IsUnder corners (up_front (gap_at gaps (j - 1))) v)
          → IsParted corners (fronts gaps) v (2 * j) 0
      between_gaps later_s later_t not = elim (both_later later_s later_t) [
        | inl p ↦ p
        | inr p ↦
            let some = p.0 in
            let short = place.inside in
            absurd (not some (up_under corners gaps v (2 * (j - 1) + 1) 0 p.1 (j - 1) (omega (arith, some, short)) (omega arith)))
      ]

      one_later : slice_index ranks s < k → k < slice_index ranks t
          → IsParted corners (fronts gaps) v (2 * j) 1 ⊎ ((0 < j) × IsParted corners (fronts gaps) v (2 * (j - 1) + 1) 1)
      one_later before later =
          let (first, count, p) = parted corners order ranks are three simple k v hv rank_v (fronts gaps) frontier in
          two_places first count 1 p
          (one_ends corners order ranks are three simple k v hv rank_v (fronts gaps) frontier first count p s t beside before later)

      -- where one edge ends at v, it is the one below gap j,
      pub at_low : slice_index ranks s < k → k < slice_index ranks t → j < length gaps → (low_front (gap_at gaps j)).to ≡ v
          → IsParted corners (fronts gaps) v (2 * j) 1
      at_low before later h to = elim (one_later before later) [
        | inl p ↦ p
        | inr p ↦
            let some = p.0 in
            let m = low_in_middle corners order ranks are three simple k v hv rank_v gaps frontier (2 * (j - 1) + 1) 1 p.1 j h to in
            absurd (omega (arith, some, m.0, m.1))
      ]

      -- or the one above the gap before
      pub at_up : slice_index ranks s < k → k < slice_index ranks t → ¬ ((j < length gaps) × ((low_front (gap_at gaps j)).to ≡ v))
          → (0 < j) × IsParted corners (fronts gaps) v (2 * (j - 1) + 1) 1
      at_up before later not = elim (one_later before later) [
        | inl p ↦
            let h : j < length gaps = omega (arith, p.inside, length-fronts gaps) in
            absurd (not (h, low_ends corners gaps v (2 * j) 1 p j h (omega arith) (omega arith)))
        | inr p ↦ p
      ]

      none_later : slice_index ranks s < k → slice_index ranks t < k
          → IsParted corners (fronts gaps) v (2 * j) 2 ⊎ ((0 < j) × IsParted corners (fronts gaps) v (2 * (j - 1) + 1) 2)
      none_later before_s before_t =
          let (first, count, p) = parted corners order ranks are three simple k v hv rank_v (fronts gaps) frontier in
          two_places first count 2 p
          (two_end corners order ranks are three simple k v hv rank_v (fronts gaps) frontier first count p s t beside before_s before_t)

      -- where two end there, there is a gap j,
      pub gap_here : slice_index ranks s < k → slice_index ranks t < k → j < length gaps
      gap_here before_s before_t = elim (none_later before_s before_t) [
        | inl p ↦ omega (arith, p.inside, length-fronts gaps)
        | inr p ↦ let some = p.0 in let inside = p.1.inside in omega (arith, some, inside, length-fronts gaps)
      ]

      -- and they are those of gap j,
      pub at_gap : slice_index ranks s < k → slice_index ranks t < k → (up_front (gap_at gaps j)).to ≡ v → IsParted corners (fronts gaps) v (2 * j) 2
      at_gap before_s before_t to = elim (none_later before_s before_t) [
        | inl p ↦ p
        | inr p ↦
            let some = p.0 in
            let here = gap_here before_s before_t in
            let m = up_in_middle corners order ranks are three simple k v hv rank_v gaps frontier (2 * (j - 1) + 1) 2 p.1 j here to in
            absurd (omega (arith, some, m.0, m.1))
      ]

      -- or the one above the gap before and the one below gap j
      pub at_both : slice_index ranks s < k → slice_index ranks t < k → ¬ ((up_front (gap_at gaps j)).to ≡ v)
          → (0 < j) × IsParted corners (fronts gaps) v (2 * (j - 1) + 1) 2
      at_both before_s before_t not = elim (none_later before_s before_t) [
        | inl p ↦ absurd (not (up_ends corners gaps v (2 * j) 2 p j (gap_here before_s before_t) (omega arith) (omega arith)))
        | inr p ↦ p
      ]
