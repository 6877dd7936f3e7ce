-- What is kept at an event: gaps neither of whose edges ends there are open after it, and triangles that fit closed regions are triangles of
-- the ring.
-- The edges below and above the gaps that an event leaves.
-- What holds of the gaps of a list holds of those after an edit.
use Rattle.std.proofs.Common.{ℕ, ◌+◌, ◌<◌, List, length, ◌≡◌, inl, inr, ap, sym, ◌∙◌, subst, ◌-◌, ◌≤◌, [], ◌∷◌, ◌++◌, arith, ◌⊎◌, refl}
use Rattle.std.proofs.Common.{Bool, true, false, if◌then◌else◌, nat_lt, Option, Some, None, take, append_assoc}
use Rattle.std.proofs.lemmas.Bool.{cases_lt, cases_eq, cases_order}
use Rattle.std.proofs.lemmas.List.{get_or-append-add, get_or_append_left, length-append, get_or-set_other, get_or-set_same, length-set}
use Rattle.std.proofs.lemmas.List.Elements.{All-contains, All-head, All-tail}
use Rattle.std.specs.List.{All, Contains, range_with_len, insert, remove}
use Rattle.std.proofs.lemmas.List.Edits.{get_or-insert_above, get_or-insert_at, get_or-insert_below, length-insert, get_or-remove_above}
use Rattle.std.proofs.lemmas.List.Edits.{get_or-remove_below, length-remove}
use Rattle.std.specs.Prelude.{slice_set, slice_index}
use Rattle.plane.proofs.Lists.{in_range}
use Rattle.plane.specs.Point.{Point}
use Rattle.rings.specs.Events.{AreEvents}
use Rattle.meshes.specs.Fits.{IsTriOf}
use Rattle.meshes.specs.Side.{tri_at}
use Rattle.meshes.specs.declared.tri.Tri.{Tri}
use Rattle.mono_fill.specs.Filled.{IsFilled}
use Rattle.sweep_tri.proofs.Fronts.{GoesOn, front}
use Rattle.sweep_tri.proofs.Pieces.{boundary_numbers}
use Rattle.sweep_tri.proofs.Regions.{stays, before_last_grown, last_grown, length_grown}
use Rattle.sweep_tri.proofs.Swept.AtEvent.{IsAtEvent, event_below, event_rank}
use Rattle.sweep_tri.specs.Gaps.{gap_at, no_gap, before_last, front_of, highest, last}
use Rattle.sweep_tri.specs.Meeting.{AreFilled, split_above, split_below}
use Rattle.sweep_tri.specs.Open.{IsOpenGap}
use Rattle.sweep_tri.specs.Region.{Chains, IsClosedRegion, boundary}
use Rattle.sweep_tri.specs.declared.gap.Gap.{Gap}

module _ {corners : List Point} {order ranks : List ℕ} {k v : ℕ} {gaps : List Gap} {tris : List Tri} {j : ℕ}
    (at : IsAtEvent corners order ranks k v gaps tris j) where
  pub gap_kept : (i : ℕ) → i < length gaps → GoesOn v (gap_at gaps i) → IsOpenGap corners ranks (k + 1) (gap_at gaps i)
  gap_kept i h goes =
      let g = gap_at gaps i in
      stays corners order ranks at.are at.three k v (event_below at).1 (event_rank at) g.low g.high
      (at.swept.gaps_open i h) goes.low_goes_on goes.up_goes_on

-- ---- triangles that fit closed regions are triangles of the ring

-- a triangle of some of the vertices is one of the ring
tri_of_ring : (corners : List Point) (piece : List ℕ) (t : Tri) → All (λ v. v < length corners) piece → IsTriOf corners piece t
    → IsTriOf corners (range_with_len 0 (length corners)) t
tri_of_ring corners piece t numbers tri =
    let inside : (x : ℕ) → Contains piece x → Contains (range_with_len 0 (length corners)) x =
    λ x has. in_range (length corners) x (All-contains (λ v. v < length corners) piece x numbers has) in
    record {
      has_a = inside t.a tri.has_a;
      has_b = inside t.b tri.has_b;
      has_c = inside t.c tri.has_c;
      counterclockwise = tri.counterclockwise;
    }

-- all triangles of the list are triangles of the ring
abbrev pub AreOfRing : List Point → List Tri → Type 0
AreOfRing corners tris = (t : ℕ) → t < length tris → IsTriOf corners (range_with_len 0 (length corners)) (tri_at tris t)

-- of two lists, one after the other
of_ring-append : (corners : List Point) (ts us : List Tri) → AreOfRing corners ts → AreOfRing corners us → AreOfRing corners (ts ++ us)
of_ring-append corners ts us first second t h = elim (cases_lt t (length ts)) [
  | inl before ↦
      subst (IsTriOf corners (range_with_len 0 (length corners)))
      (sym (get_or_append_left ts us (record { a = 0; b = 0; c = 0 }) t before)) (first t before)
  | inr after ↦
      let from : t ≡ length ts + (t - length ts) = omega (arith, after) in
      subst (IsTriOf corners (range_with_len 0 (length corners)))
      (sym (ap (tri_at (ts ++ us)) from ∙ get_or-append-add ts us (t - length ts) (record { a = 0; b = 0; c = 0 })))
      (second (t - length ts) (omega (arith, h, after, length-append ts us)))
]

module _ (corners : List Point) (order ranks : List ℕ) (are : AreEvents corners order ranks) (three : 3 ≤ length corners) where
  -- triangles that fit a closed region come after them
  of_ring-filled : (c : Chains) → IsClosedRegion corners ranks c → (old new : List Tri) → IsFilled corners (boundary c) old new
      → AreOfRing corners old → AreOfRing corners new
  of_ring-filled c closed old new (tris, after, fits) first =
      subst (AreOfRing corners) (sym after)
      (of_ring-append corners old tris first
      (λ t h. tri_of_ring corners (boundary c) (tri_at tris t) (boundary_numbers corners order ranks are three c closed) (fits.triangles t h)))

  -- and those of several
  pub of_ring-all_filled : (cs : List Chains) → All (IsClosedRegion corners ranks) cs → (old new : List Tri) → AreFilled corners cs old new
      → AreOfRing corners old → AreOfRing corners new
  of_ring-all_filled [] closed old new same first = subst (AreOfRing corners) (sym same) first
  of_ring-all_filled (c ∷ cs) closed old new (between, fills, others) first =
      of_ring-all_filled cs (All-tail (IsClosedRegion corners ranks) c cs closed) between new others
      (of_ring-filled c (All-head (IsClosedRegion corners ranks) c cs closed) old between fills first)

module _ (P : Gap → Type 0) (gaps : List Gap) where
  -- of all gaps, or of all but some
  abbrev pub OfAll : Type 0
  OfAll = (i : ℕ) → i < length gaps → P (gap_at gaps i)

  abbrev pub OfOthers : (ℕ → Type 0) → Type 0
  OfOthers Not = (i : ℕ) → i < length gaps → ¬ Not i → P (gap_at gaps i)

module _ (P : Gap → Type 0) (gaps : List Gap) (j : ℕ) where
  -- where one is put in
  pub all_inserted : (g : Gap) → j ≤ length gaps → P g → OfAll P gaps → OfAll P (insert gaps j g)
  all_inserted g h new others i within = elim (cases_order i j) [
    | inl at ↦ subst P (sym (ap (gap_at (insert gaps j g)) at ∙ get_or-insert_at gaps j g no_gap h)) new
    | inr (inl before) ↦
        subst P (sym (get_or-insert_below gaps j g no_gap i before h)) (others i (omega (arith, before, h)))
    | inr (inr after) ↦
        let from : (i - 1) + 1 ≡ i = omega (arith, after) in
        subst P (sym (ap (gap_at (insert gaps j g)) (sym from) ∙ get_or-insert_above gaps j g no_gap (i - 1) (omega (arith, after)) h))
        (others (i - 1) (omega (arith, after, within, length-insert gaps j g h)))
  ]

  -- where one stands in the place of gap j
  pub all_replaced : (g : Gap) → j < length gaps → P g → OfOthers P gaps (λ i. i ≡ j) → OfAll P (slice_set gaps j g)
  all_replaced g h new others i within = elim (cases_eq i j) [
    | inl at ↦ subst P (sym (ap (gap_at (slice_set gaps j g)) at ∙ get_or-set_same gaps j g no_gap h)) new
    | inr other ↦
        subst P (sym (get_or-set_other gaps j i g no_gap other)) (others i (omega (arith, within, length-set gaps j g)) other)
  ]

  -- where gap j is taken out
  pub all_removed : j < length gaps → OfOthers P gaps (λ i. i ≡ j) → OfAll P (remove gaps j)
  all_removed h others i within = elim (cases_lt i j) [
    | inl before ↦
        subst P (sym (get_or-remove_below gaps j no_gap i before h)) (others i (omega (arith, before, h)) (λ e. omega (arith, before, e)))
    | inr after ↦
        subst P (sym (get_or-remove_above gaps j no_gap i after h))
        (others (i + 1) (omega (arith, within, length-remove gaps j h)) (λ e. omega (arith, after, e)))
  ]

  -- where it is taken out, and another stands in the place of the gap before it
  pub all_joined : (g : Gap) → 0 < j → j < length gaps → P g → OfOthers P gaps (λ i. (i ≡ j - 1) ⊎ (i ≡ j))
      → OfAll P (slice_set (remove gaps j) (j - 1) g)
  all_joined g some h new others i within = elim (cases_eq i (j - 1)) [
    | inl at ↦
        let inside : j - 1 < length (remove gaps j) = omega (arith, some, h, length-remove gaps j h) in
        subst P (sym (ap (gap_at (slice_set (remove gaps j) (j - 1) g)) at ∙ get_or-set_same (remove gaps j) (j - 1) g no_gap inside)) new
    | inr other ↦
        subst P (sym (get_or-set_other (remove gaps j) (j - 1) i g no_gap other))
        (elim (cases_lt i j) [
          | inl before ↦
              subst P (sym (get_or-remove_below gaps j no_gap i before h)) (others i (omega (arith, before, h))
              (λ e. elim e [ inl is ↦ other is | inr is ↦ omega (arith, before, is) ]))
          | inr after ↦
              subst P (sym (get_or-remove_above gaps j no_gap i after h))
              (others (i + 1) (omega (arith, within, length-set (remove gaps j) (j - 1) g, length-remove gaps j h))
              (λ e. elim e [ inl is ↦ omega (arith, after, some, is) | inr is ↦ omega (arith, after, is) ]))
        ])
  ]

-- ---- one chain

-- the edge at the end of a chain to v that goes on to w
pub front_grown : (path : List ℕ) (v w : ℕ) → 1 ≤ length path → last path ≡ v → front_of (path ++ w ∷ []) ≡ front v w
front_grown path v w some is = λ i. front ((before_last_grown path w some ∙ is) i) (last_grown path w i)

-- of one that goes on to v and to w
pub front_grown_twice : (path : List ℕ) (v w : ℕ) → front_of (path ++ v ∷ w ∷ []) ≡ front v w
front_grown_twice path v w =
    let some : 1 ≤ length (path ++ v ∷ []) = omega (arith, length_grown path v) in
    ap front_of (sym (append_assoc path (v ∷ []) (w ∷ [])))
    ∙ front_grown (path ++ v ∷ []) v w some (last_grown path v)

-- ---- the parts of a gap that is split

-- what holds of both of two regions holds of the one that is chosen
chosen : (P : Chains → Type 0) (b : Bool) (c d : Chains) → P c → P d → P (if b then c else d)
chosen P true c d p q = p
chosen P false c d p q = q

module _ (ranks : List ℕ) (v w : ℕ) where
  -- the part below has the lower edge of the gap, and the edge to w above
  pub split_below_low : (low : Chains) (high : Option Chains) → front_of (split_below ranks low high v w).lower ≡ front_of low.lower
  split_below_low c None =
      chosen (λ r. front_of r.lower ≡ front_of c.lower) (nat_lt (slice_index ranks (before_last c.upper)) (slice_index ranks (before_last c.lower)))
      _ _ refl refl
  split_below_low low (Some high) = refl

  pub split_below_up : (low : Chains) (high : Option Chains) → front_of (split_below ranks low high v w).upper ≡ front v w
  split_below_up c None =
      chosen (λ r. front_of r.upper ≡ front v w) (nat_lt (slice_index ranks (before_last c.upper)) (slice_index ranks (before_last c.lower)))
      _ _ refl (front_grown_twice (take (length c.upper - 1) c.upper) v w)
  split_below_up low (Some high) = front_grown_twice low.upper v w

  -- the part above has that edge below, and the upper edge of the gap
  pub split_above_low : (low : Chains) (high : Option Chains) → front_of (split_above ranks low high v w).lower ≡ front v w
  split_above_low c None =
      chosen (λ r. front_of r.lower ≡ front v w) (nat_lt (slice_index ranks (before_last c.upper)) (slice_index ranks (before_last c.lower)))
      _ _ (front_grown_twice (take (length c.lower - 1) c.lower) v w) refl
  split_above_low low (Some high) = front_grown_twice high.lower v w

  pub split_above_up : (low : Chains) (high : Option Chains) → front_of (split_above ranks low high v w).upper ≡ front_of (highest low high).upper
  split_above_up c None =
      chosen (λ r. front_of r.upper ≡ front_of c.upper) (nat_lt (slice_index ranks (before_last c.upper)) (slice_index ranks (before_last c.lower)))
      _ _ refl refl
  split_above_up low (Some high) = refl
