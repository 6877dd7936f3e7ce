-- Two edges put into a list of edges at one place, or taken out there: the pairs at the place are enough.
use Rattle.std.proofs.Common.{◌≡◌, ◌∙◌, ap, refl, inl, inr, ℕ, suc, ◌+◌, ◌-◌, ◌<◌, ◌≤◌, List, get_or, length, take, drop, arith}
use Rattle.std.proofs.lemmas.Bool.{cases_eq, cases_lt}
use Rattle.std.proofs.lemmas.List.{get_or_default}
use Rattle.std.proofs.lemmas.List.Edits.{get_or-insert_above, get_or-insert_below, get_or-remove_above, get_or-remove_below, length-insert}
use Rattle.std.proofs.lemmas.List.Edits.{length-remove}
use Rattle.std.proofs.lemmas.List.Elements.{All-append, All-drop, All-take}
use Rattle.std.proofs.lemmas.List.Sums.{sum_by-remove}
use Rattle.std.specs.List.{All, insert, remove}
use Rattle.std.specs.Prelude.{slice_index}
use Rattle.plane.specs.Point.{Point}
use Rattle.ring_check.proofs.StatusEdits.{edges_inserted}
use Rattle.rings.specs.Status.{FitsAt, IsEdgeBelow, IsStacked, one, times}

-- ---- how often a number is there

pub times_two_removed : (xs : List ℕ) (i e f x : ℕ) → i + 1 < length xs → slice_index xs i ≡ e → slice_index xs (i + 1) ≡ f
    → times x (remove (remove xs i) i) + one x e + one x f ≡ times x xs
times_two_removed xs i e f x within first second =
    let size = length-remove xs i (omega (arith, within)) in
    let next : get_or (remove xs i) i 0 ≡ f = get_or-remove_above xs i 0 i (omega arith) (omega (arith, within)) ∙ second in
    omega (
      arith,
      sum_by-remove (one x) xs i 0 (omega (arith, within)),
      sum_by-remove (one x) (remove xs i) i 0 (omega (arith, within, size)),
      ap (one x) first,
      ap (one x) next,
    )

-- ---- each below the next

module _ (R : ℕ → ℕ → Type 0) (ys : List ℕ) where
  -- a pair whose second item is at place p
  pair_at : (p : ℕ) → (0 < p → p < length ys → R (slice_index ys (p - 1)) (slice_index ys p)) → (k d : ℕ) → k + 1 ≡ p → k + 1 < length ys
      → R (get_or ys k d) (get_or ys (k + 1) d)
  pair_at p fits k d here within =
      let before : p - 1 ≡ k = omega (arith, here) in
      rw (get_or_default ys k 0 d (omega (arith, within)), get_or_default ys (k + 1) 0 d within) at
      (rw (before, ← here) at (fits (omega (arith, here)) (omega (arith, here, within))))

module _ (ring : List Point) (ranks xs : List ℕ) (i : ℕ) (stacked : IsStacked ring ranks xs) where
  abbrev R : ℕ → ℕ → Type 0
  R = IsEdgeBelow ring ranks

  -- the pair at place j, in another list where it stands at place k
  moved : (ys : List ℕ) (j k d : ℕ) → j + 1 < length xs → get_or ys k d ≡ get_or xs j d → get_or ys (k + 1) d ≡ get_or xs (j + 1) d
      → R (get_or ys k d) (get_or ys (k + 1) d)
  moved ys j k d within e f = rw (e, f) (stacked.ordered j d within)

  module _ (within : i + 1 < length xs) where
    abbrev left : List ℕ
    left = remove (remove xs i) i

    pub size_left : length left + 2 ≡ length xs
    size_left = let one_less = length-remove xs i (omega (arith, within)) in
        omega (arith, one_less, length-remove (remove xs i) i (omega (arith, within, one_less)))

    before : (k d : ℕ) → k < i → get_or left k d ≡ get_or xs k d
    before k d less =
        let one_less = length-remove xs i (omega (arith, within)) in
        get_or-remove_below (remove xs i) i d k less (omega (arith, within, one_less)) ∙ get_or-remove_below xs i d k less (omega (arith, within))

    after : (k d : ℕ) → i ≤ k → get_or left k d ≡ get_or xs (k + 1 + 1) d
    after k d from =
        let one_less = length-remove xs i (omega (arith, within)) in
        get_or-remove_above (remove xs i) i d k from (omega (arith, within, one_less))
        ∙ get_or-remove_above xs i d (k + 1) (omega (arith, from)) (omega (arith, within))

    pub edges_two_removed : All (λ e. e < length ranks) left
    edges_two_removed =
        let IsEdge = λ (e : ℕ). e < length ranks in
        let less : All IsEdge (remove xs i)
        = All-append IsEdge (take i xs) (drop (suc i) xs) (All-take IsEdge i xs stacked.edges) (All-drop IsEdge (suc i) xs stacked.edges) in
        All-append IsEdge (take i (remove xs i)) (drop (suc i) (remove xs i)) (All-take IsEdge i (remove xs i) less)
        (All-drop IsEdge (suc i) (remove xs i) less)

    pub two_removed : FitsAt ring ranks left i → IsStacked ring ranks left
    two_removed fits = record {
      edges = edges_two_removed;
      ordered = λ k d inside. elim (cases_lt (k + 1) i) [
        | inl below ↦ moved left k k d (omega (arith, inside, size_left)) (before k d (omega (arith, below))) (before (k + 1) d below)
        | inr from ↦ elim (cases_eq (k + 1) i) [
          | inl here ↦ pair_at R left i fits k d here inside
          | inr past ↦
              moved left (k + 1 + 1) k d (omega (arith, inside, size_left)) (after k d (omega (arith, from, past))) (after (k + 1) d (omega (arith, from)))
        ]
      ];
    }

  module _ (at : i ≤ length xs) (e f : ℕ) (e_edge : e < length ranks) (f_edge : f < length ranks) where
    abbrev new : List ℕ
    new = insert (insert xs i f) i e

    size_more : length (insert xs i f) ≡ length xs + 1
    size_more = length-insert xs i f at

    pub size_new : length new ≡ length xs + 2
    size_new = omega (arith, size_more, length-insert (insert xs i f) i e (omega (arith, size_more, at)))

    below_new : (k d : ℕ) → k < i → get_or new k d ≡ get_or xs k d
    below_new k d less =
        get_or-insert_below (insert xs i f) i e d k less (omega (arith, size_more, at)) ∙ get_or-insert_below xs i f d k less at

    above_new : (k d : ℕ) → i ≤ k → get_or new (k + 1 + 1) d ≡ get_or xs k d
    above_new k d from =
        get_or-insert_above (insert xs i f) i e d (k + 1) (omega (arith, from)) (omega (arith, size_more, at)) ∙ get_or-insert_above xs i f d k from at

    pub edges_two_inserted : All (λ k. k < length ranks) new
    edges_two_inserted = edges_inserted refl (insert xs i f) (edges_inserted refl xs stacked.edges i f f_edge) i e e_edge

    pub two_inserted : FitsAt ring ranks new i → FitsAt ring ranks new (i + 1) → FitsAt ring ranks new (i + 2) → IsStacked ring ranks new
    two_inserted fits fits_next fits_last = record {
      edges = edges_two_inserted;
      ordered = λ k d inside. elim (cases_lt (k + 1) i) [
        | inl below ↦ moved new k k d (omega (arith, below, at)) (below_new k d (omega (arith, below))) (below_new (k + 1) d below)
        | inr from ↦ elim (cases_eq (k + 1) i) [
          | inl here ↦ pair_at R new i fits k d here inside
          | inr past ↦ elim (cases_eq k i) [
            | inl here ↦ pair_at R new (i + 1) fits_next k d (omega (arith, here)) inside
            | inr past_first ↦ elim (cases_eq k (i + 1)) [
              | inl here ↦ pair_at R new (i + 2) fits_last k d (omega (arith, here)) inside
              | inr past_both ↦
                  let j : ℕ = k - 2 in
                  let is : k ≡ j + 1 + 1 = omega (arith, from, past, past_first, past_both) in
                  moved new j k d (omega (arith, size_new, inside, is))
                  (ap (λ l. get_or new l d) is ∙ above_new j d (omega (arith, from, past, past_first, past_both)))
                  (ap (λ l. get_or new (l + 1) d) is ∙ above_new (j + 1) d (omega (arith, from, past, past_first, past_both)))
            ]
          ]
        ]
      ];
    }
