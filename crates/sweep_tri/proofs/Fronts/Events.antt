-- What an event makes of the edges that the sweep line meets: two begin, and a gap is new or divides; one goes on in another; or two end, and a
-- gap closes or two are joined.
use Rattle.std.proofs.Common.{◌≡◌, refl, subst, ℕ, ◌+◌, ◌-◌, ◌*◌, ◌<◌, ◌≤◌, List, [], ◌∷◌, length, arith, sym, ap, ◌∙◌}
use Rattle.std.specs.List.{insert, remove}
use Rattle.std.specs.Prelude.{slice_index, slice_set}
use Rattle.plane.specs.Point.{Point, whole}
use Rattle.plane.specs.Turn.{IsLeft}
use Rattle.rings.specs.Below.{IsBelow}
use Rattle.rings.specs.Events.{AreEvents}
use Rattle.rings.specs.Ring.{vertex}
use Rattle.rings.specs.Simple.{IsSimple}
use Rattle.mono_fill.specs.declared.side.Side.{Side}
use Rattle.mono_fill.specs.declared.side.Side.TheVariants.{Lower, Upper}
use Rattle.sweep_tri.proofs.Fronts.Beginning.{begun_to, two_begin, one_begins, none_begin}
use Rattle.sweep_tri.proofs.Fronts.Beside.{AreBeside, beside_swapped, front}
use Rattle.sweep_tri.proofs.Fronts.Edits.{spliced_divided, spliced_inserted, spliced_low, spliced_up, spliced_joined, spliced_removed}
use Rattle.sweep_tri.proofs.Fronts.Passed.{entered, passed, IsSpliced}
use Rattle.sweep_tri.proofs.Fronts.Parted.{GoesOn, goes_on_outside, low_below_later, low_ends, low_is_front, up_ends, up_is_front, up_under}
use Rattle.sweep_tri.proofs.Fronts.Parted.{IsParted}
use Rattle.sweep_tri.proofs.Fronts.Kinds.{between_gaps, in_gap, at_low, at_up, at_both, at_gap, gap_here}
use Rattle.sweep_tri.proofs.Fronts.Sides.{IsFront, above_no_end, short_no_end, under_no_end}
use Rattle.sweep_tri.proofs.Regions.{IsNearer, IsShort, far_front, near_front}
use Rattle.sweep_tri.specs.Frontier.{IsAbove, IsFrontier, IsGapPlace, IsUnder}
use Rattle.sweep_tri.specs.Gaps.{Front, front_edge, fronts, gap_at, low_front, up_front}
use Rattle.sweep_tri.specs.declared.gap.Gap.{Gap}

-- a gap that starts at v, from where its edges go to s and to t, comes in at place j
pub record IsStart (corners : List Point) (ranks : List ℕ) (k v s t : ℕ) (gaps : List Gap) (j : ℕ) : Type 0 where
  pub go_on : (i : ℕ) → i < length gaps → GoesOn v (gap_at gaps i)
  pub below : IsBelow (front_edge corners (front v s)) (front_edge corners (front v t))
  pub frontier_after : (g : Gap) → low_front g ≡ front v s → up_front g ≡ front v t → IsFrontier corners ranks (k + 1) (fronts (insert gaps j g))

-- the edges from v to s and to t divide the gap before place j
pub record IsSplit (corners : List Point) (ranks : List ℕ) (k v s t : ℕ) (gaps : List Gap) (j : ℕ) : Type 0 where
  pub has_gap : j - 1 < length gaps
  pub go_on : (i : ℕ) → i < length gaps → GoesOn v (gap_at gaps i)
  pub above_low : IsAbove corners (low_front (gap_at gaps (j - 1))) v
  pub below_first : IsBelow (front_edge corners (low_front (gap_at gaps (j - 1)))) (front_edge corners (front v s))
  pub below_last : IsBelow (front_edge corners (front v t)) (front_edge corners (up_front (gap_at gaps (j - 1))))
  pub frontier_after : (g h : Gap) → low_front g ≡ low_front (gap_at gaps (j - 1)) → up_front g ≡ front v s
      → low_front h ≡ front v t → up_front h ≡ up_front (gap_at gaps (j - 1))
      → IsFrontier corners ranks (k + 1) (fronts (insert (slice_set gaps (j - 1) g) j h))

module _ (corners : List Point) (order ranks : List ℕ) (are : AreEvents corners order ranks) (three : 3 ≤ length corners) (simple : IsSimple corners)
    (k v : ℕ) (hv : v < length ranks) (rank_v : slice_index ranks v ≡ k) (gaps : List Gap) (frontier : IsFrontier corners ranks k (fronts gaps))
    (j : ℕ) (place : IsGapPlace corners gaps v j) (s t : ℕ) (beside : AreBeside (length ranks) v s t)
    (later_s : k < slice_index ranks s) (later_t : k < slice_index ranks t)
    (left : IsLeft (whole (vertex corners v)) (whole (vertex corners s)) (whole (vertex corners t))) where
  -- where the middle is empty, all edges go on
  all_go_on : (first : ℕ) → IsParted corners (fronts gaps) v first 0 → (i : ℕ) → i < length gaps → GoesOn v (gap_at gaps i)
  all_go_on first p i h =
      goes_on_outside corners order ranks are three simple k v hv rank_v gaps frontier first 0 p i h
      (λ m. omega (arith, m.0, m.1)) (λ m. omega (arith, m.0, m.1))

  -- v is not under the edge above the gap before
  pub starts : (0 < j → ¬ IsUnder corners (up_front (gap_at gaps (j - 1))) v) → IsStart corners ranks k v s t gaps j
  starts not =
      let p = between_gaps corners order ranks are three simple k v hv rank_v gaps frontier j place s t beside later_s later_t not in
      let begun = two_begin corners order ranks are three k v hv rank_v s t beside simple later_s later_t left in
      record {
        go_on = all_go_on (2 * j) p;
        below = begun.ordered 0 1 (omega arith) (omega arith);
        frontier_after = λ g low up.
            let put : low_front g ∷ up_front g ∷ [] ≡ front v s ∷ front v t ∷ [] = λ i. low i ∷ up i ∷ [] in
            passed corners order ranks are three simple k v hv rank_v (fronts gaps) (fronts (insert gaps j g)) (front v s ∷ front v t ∷ [])
            (2 * j) 0 frontier p begun
            (subst (IsSpliced (fronts gaps) (fronts (insert gaps j g)) (2 * j) 0) put (spliced_inserted gaps j g place.inside));
      }

  -- it is
  pub splits : 0 < j → IsUnder corners (up_front (gap_at gaps (j - 1))) v → IsSplit corners ranks k v s t gaps j
  splits some under =
      let p = in_gap corners order ranks are three simple k v hv rank_v gaps frontier j place s t beside later_s later_t some under in
      let begun = two_begin corners order ranks are three k v hv rank_v s t beside simple later_s later_t left in
      let short = place.inside in
      let h : j - 1 < length gaps = omega (arith, some, short) in
      let above : IsAbove corners (low_front (gap_at gaps (j - 1))) v = place.above (j - 1) (omega (arith, some)) in
      let next : (j - 1) + 1 ≡ j = omega (arith, some) in
      record {
        has_gap = h;
        go_on = all_go_on (2 * (j - 1) + 1) p;
        above_low = above;
        below_first =
            entered corners order ranks are three simple k v hv rank_v (low_front (gap_at gaps (j - 1))) (front v s)
            (low_is_front corners ranks k gaps frontier (j - 1) h) (above_no_end corners (low_front (gap_at gaps (j - 1))) v above)
            (begun_to corners order ranks are three k v hv rank_v s t beside later_s) refl Upper above;
        below_last =
            entered corners order ranks are three simple k v hv rank_v (up_front (gap_at gaps (j - 1))) (front v t)
            (up_is_front corners ranks k gaps frontier (j - 1) h) (under_no_end corners (up_front (gap_at gaps (j - 1))) v under)
            (begun_to corners order ranks are three k v hv rank_v t s (beside_swapped (length ranks) v s t beside) later_t) refl Lower under;
        frontier_after = λ g h' low_g up_g low_h up_h.
            let put : up_front g ∷ low_front h' ∷ [] ≡ front v s ∷ front v t ∷ [] = λ i. up_g i ∷ low_h i ∷ [] in
            let new : ℕ → List Front = λ m. fronts (insert (slice_set gaps (j - 1) g) m h') in
            passed corners order ranks are three simple k v hv rank_v (fronts gaps) (new j) (front v s ∷ front v t ∷ [])
            (2 * (j - 1) + 1) 0 frontier p begun
            (subst (IsSpliced (fronts gaps) (new j) (2 * (j - 1) + 1) 0) put
            (subst (λ m. IsSpliced (fronts gaps) (new m) (2 * (j - 1) + 1) 0 (up_front g ∷ low_front h' ∷ [])) next
            (spliced_divided gaps (j - 1) g h' low_g up_h h)));
      }

-- ---- an event at which one edge goes on in another: the edge below a gap, or the one above it

-- the edge of gap i on this side ends at v, and goes on to w
pub record IsNext (corners : List Point) (ranks : List ℕ) (k v w : ℕ) (gaps : List Gap) (side : Side) (i : ℕ) : Type 0 where
  pub inside : i < length gaps
  pub ends_here : (near_front side (gap_at gaps i)).to ≡ v
  pub others_go_on : (m : ℕ) → m < length gaps → ¬ (m ≡ i) → GoesOn v (gap_at gaps m)
  pub short : IsShort side (front_edge corners (far_front side (gap_at gaps i))) (vertex corners v)
  pub nearer : IsNearer side (front_edge corners (front v w)) (front_edge corners (far_front side (gap_at gaps i)))
  pub frontier_after : (g : Gap) → near_front side g ≡ front v w → far_front side g ≡ far_front side (gap_at gaps i)
      → IsFrontier corners ranks (k + 1) (fronts (slice_set gaps i g))

module _ (corners : List Point) (order ranks : List ℕ) (are : AreEvents corners order ranks) (three : 3 ≤ length corners) (simple : IsSimple corners)
    (k v : ℕ) (hv : v < length ranks) (rank_v : slice_index ranks v ≡ k) (gaps : List Gap) (frontier : IsFrontier corners ranks k (fronts gaps))
    (j : ℕ) (place : IsGapPlace corners gaps v j) (u w : ℕ) (beside : AreBeside (length ranks) v u w)
    (before : slice_index ranks u < k) (later : k < slice_index ranks w) where
  module _ (side : Side) (i : ℕ) (h : i < length gaps) where
    abbrev far : Front
    far = far_front side (gap_at gaps i)

    -- where it is known which edge ends at v, and where v is to the other one of its gap
    follows : (n : ℕ) → IsParted corners (fronts gaps) v n 1 → (near_front side (gap_at gaps i)).to ≡ v
        → ((m : ℕ) → ¬ (m ≡ i) → ¬ ((n ≤ 2 * m) × (2 * m < n + 1)) × ¬ ((n ≤ 2 * m + 1) × (2 * m + 1 < n + 1)))
        → IsFront ranks k far → IsShort side (front_edge corners far) (vertex corners v)
        → ((g : Gap) → far_front side g ≡ far → IsSpliced (fronts gaps) (fronts (slice_set gaps i g)) n 1 (near_front side g ∷ []))
        → IsNext corners ranks k v w gaps side i
    follows n p ends others is_front short splice = record {
      inside = h;
      ends_here = ends;
      others_go_on = λ m hm other.
          goes_on_outside corners order ranks are three simple k v hv rank_v gaps frontier n 1 p m hm (others m other).0 (others m other).1;
      short = short;
      nearer =
          entered corners order ranks are three simple k v hv rank_v far (front v w) is_front (short_no_end corners side far v short)
          (begun_to corners order ranks are three k v hv rank_v w u (beside_swapped (length ranks) v u w beside) later) refl side short;
      frontier_after = λ g near same.
          let put : near_front side g ∷ [] ≡ front v w ∷ [] = λ t. near t ∷ [] in
          passed corners order ranks are three simple k v hv rank_v (fronts gaps) (fronts (slice_set gaps i g)) (front v w ∷ []) n 1 frontier p
          (one_begins corners order ranks are three k v hv rank_v u w beside before later)
          (subst (IsSpliced (fronts gaps) (fronts (slice_set gaps i g)) n 1) put (splice g same));
    }

  pub follows_low : j < length gaps → (low_front (gap_at gaps j)).to ≡ v → IsNext corners ranks k v w gaps Lower j
  follows_low h to =
      let p = at_low corners order ranks are three simple k v hv rank_v gaps frontier j place u w beside before later h to in
      follows Lower j h (2 * j) p to (λ m other. (λ n. omega (arith, n.0, n.1, other), λ n. omega (arith, n.0, n.1, other)))
      (up_is_front corners ranks k gaps frontier j h) (up_under corners gaps v (2 * j) 1 p j h (omega arith)) (λ g same. spliced_low gaps j g same h)

  pub follows_up : ¬ ((j < length gaps) × ((low_front (gap_at gaps j)).to ≡ v)) → (0 < j) × IsNext corners ranks k v w gaps Upper (j - 1)
  follows_up not =
      let (some, p) = at_up corners order ranks are three simple k v hv rank_v gaps frontier j place u w beside before later not in
      let short = place.inside in
      let i : ℕ = j - 1 in
      let h : i < length gaps = omega (arith, some, short) in
      let ends = up_ends corners gaps v (2 * i + 1) 1 p i h (omega arith) (omega arith) in (
        some,
        follows Upper i h (2 * i + 1) p ends (λ m other. (λ n. omega (arith, n.0, n.1, other), λ n. omega (arith, n.0, n.1, other)))
            (low_is_front corners ranks k gaps frontier i h) (place.above i (omega (arith, some))) (λ g same. spliced_up gaps i g same h),
      )

-- ---- an event at which two edges end: those of a gap, which closes, or those between two gaps, which are joined

-- both edges of gap j end at v
pub record IsEnd (corners : List Point) (ranks : List ℕ) (k v : ℕ) (gaps : List Gap) (j : ℕ) : Type 0 where
  pub low_ends_here : (low_front (gap_at gaps j)).to ≡ v
  pub others_go_on : (i : ℕ) → i < length gaps → ¬ (i ≡ j) → GoesOn v (gap_at gaps i)
  pub frontier_after : IsFrontier corners ranks (k + 1) (fronts (remove gaps j))

-- the edge above the gap before place j and the one below gap j do
pub record IsMerge (corners : List Point) (ranks : List ℕ) (k v : ℕ) (gaps : List Gap) (j : ℕ) : Type 0 where
  pub some : 0 < j
  pub up_ends_here : (up_front (gap_at gaps (j - 1))).to ≡ v
  pub low_ends_here : (low_front (gap_at gaps j)).to ≡ v
  pub others_go_on : (i : ℕ) → i < length gaps → ¬ (i ≡ j - 1) → ¬ (i ≡ j) → GoesOn v (gap_at gaps i)
  pub above_low : IsAbove corners (low_front (gap_at gaps (j - 1))) v
  pub under_up : IsUnder corners (up_front (gap_at gaps j)) v
  pub below : IsBelow (front_edge corners (low_front (gap_at gaps (j - 1)))) (front_edge corners (up_front (gap_at gaps j)))
  pub frontier_after : (g : Gap) → low_front g ≡ low_front (gap_at gaps (j - 1)) → up_front g ≡ up_front (gap_at gaps j)
      → IsFrontier corners ranks (k + 1) (fronts (slice_set (remove gaps j) (j - 1) g))

module _ (corners : List Point) (order ranks : List ℕ) (are : AreEvents corners order ranks) (three : 3 ≤ length corners) (simple : IsSimple corners)
    (k v : ℕ) (hv : v < length ranks) (rank_v : slice_index ranks v ≡ k) (gaps : List Gap) (frontier : IsFrontier corners ranks k (fronts gaps))
    (j : ℕ) (place : IsGapPlace corners gaps v j) (s t : ℕ) (beside : AreBeside (length ranks) v s t)
    (before_s : slice_index ranks s < k) (before_t : slice_index ranks t < k) where
  -- there is a gap j,
  pub closes : j < length gaps
  closes = gap_here corners order ranks are three simple k v hv rank_v gaps frontier j place s t beside before_s before_t

  pub ends : (up_front (gap_at gaps j)).to ≡ v → IsEnd corners ranks k v gaps j
  ends to =
      let p = at_gap corners order ranks are three simple k v hv rank_v gaps frontier j place s t beside before_s before_t to in
      record {
        low_ends_here = low_ends corners gaps v (2 * j) 2 p j closes (omega arith) (omega arith);
        others_go_on = λ i hi other.
            goes_on_outside corners order ranks are three simple k v hv rank_v gaps frontier (2 * j) 2 p i hi
            (λ m. omega (arith, m.0, m.1, other)) (λ m. omega (arith, m.0, m.1, other));
        frontier_after =
            passed corners order ranks are three simple k v hv rank_v (fronts gaps) (fronts (remove gaps j)) [] (2 * j) 2 frontier p
            (none_begin corners order ranks are three k v hv rank_v s t beside before_s before_t) (spliced_removed gaps j closes);
      }

  pub merges : ¬ ((up_front (gap_at gaps j)).to ≡ v) → IsMerge corners ranks k v gaps j
  merges not =
      let (some, p) = at_both corners order ranks are three simple k v hv rank_v gaps frontier j place s t beside before_s before_t not in
      let h : j < length gaps = closes in
      let next : (j - 1) + 1 ≡ j = omega (arith, some) in
      record {
        some = some;
        up_ends_here = up_ends corners gaps v (2 * (j - 1) + 1) 2 p (j - 1) (omega (arith, h)) (omega arith) (omega arith);
        low_ends_here = low_ends corners gaps v (2 * (j - 1) + 1) 2 p j h (omega (arith, some)) (omega (arith, some));
        others_go_on = λ i hi not_before not_j.
            goes_on_outside corners order ranks are three simple k v hv rank_v gaps frontier (2 * (j - 1) + 1) 2 p i hi
            (λ m. omega (arith, m.0, m.1, not_before, not_j)) (λ m. omega (arith, m.0, m.1, not_before, not_j));
        above_low = place.above (j - 1) (omega (arith, some));
        under_up = up_under corners gaps v (2 * (j - 1) + 1) 2 p j h (omega (arith, some));
        below = low_below_later corners ranks k gaps frontier (j - 1) j (omega (arith, some)) h;
        frontier_after = λ g low up.
            passed corners order ranks are three simple k v hv rank_v (fronts gaps) (fronts (slice_set (remove gaps j) (j - 1) g)) []
            (2 * (j - 1) + 1) 2 frontier p (none_begin corners order ranks are three k v hv rank_v s t beside before_s before_t)
            (subst (λ m. IsSpliced (fronts gaps) (fronts (slice_set (remove gaps m) (j - 1) g)) (2 * (j - 1) + 1) 2 []) next
            (spliced_joined gaps (j - 1) g low (up ∙ ap (λ m. up_front (gap_at gaps m)) (sym next)) (omega (arith, next, h))));
      }
