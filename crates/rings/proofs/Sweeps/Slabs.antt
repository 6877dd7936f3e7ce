-- Edges between points in lexicographic order. Where for each two consecutive points the edges over both are a list in
-- which each is below the next, two edges share no more than a common end.
use Rattle.std.proofs.Common.{◌≡◌, inl, inr, sym, ap, ◌∙◌, ℕ, ◌+◌, ◌<◌, ◌≤◌, pos, List, length, get_or, arith}
use Rattle.std.proofs.lemmas.Bool.{cases_lt, cases_order}
use Rattle.std.proofs.lemmas.List.{get_or_default}
use Rattle.std.specs.List.{All, AllAdjacentBelow, Contains}
use Rattle.plane.proofs.Order.{NotAfter}
use Rattle.plane.proofs.Points.{whole_is_point}
use Rattle.plane.proofs.Segments.{on_is_straight}
use Rattle.plane.specs.Prelude.{IsBefore, IsPoint, Point, Precedes, Triple, whole}
use Rattle.rings.proofs.Sweeps.Ascending.{ascends, at_one_place, not_after_last, not_before_first, precedes_later, slab_between}
use Rattle.rings.proofs.Sweeps.Stacks.{shared}
use Rattle.rings.proofs.Sweeps.StaysBelow.{Spans, side}
use Rattle.rings.proofs.Vertices.{common_end_swapped}
use Rattle.rings.specs.Apart.{IsCommonEnd}
use Rattle.rings.specs.Below.{IsBelow}
use Rattle.rings.specs.Edge.{Edge, IsOn}

-- the edge goes from one of the points to a later one
pub record Runs (z : ℕ → Point) (n : ℕ) (e : Edge) (first last : ℕ) : Type 0 where
  pub forward : first < last
  pub within : last < n
  pub is_from : e.from ≡ z first
  pub is_to : e.to ≡ z last

module _ (edge : ℕ → Edge) (first last : ℕ → ℕ) (count : ℕ) where
  -- edge e is over point k and the next
  abbrev IsOver : ℕ → ℕ → Type 0
  IsOver k e = (first e ≤ k) × (k < last e)

  -- a list of just the edges over both, each below the next
  pub record Slab (k : ℕ) : Type 0 where
    pub status : List ℕ
    pub has : (e : ℕ) → e < count → IsOver k e → Contains status e
    pub only : All (λ e. (e < count) × IsOver k e) status
    pub ordered : AllAdjacentBelow (λ e f. IsBelow (edge e) (edge f)) status (length status)

  module _ (z : ℕ → Point) (n : ℕ) (rising : (k : ℕ) → k + 1 < n → IsBefore (z k) (z (k + 1)))
      (runs : (e : ℕ) → e < count → Runs z n (edge e) (first e) (last e)) (slabs : (k : ℕ) → k + 1 < n → Slab k)
      (x : Triple) (at_x : IsPoint x) where
    at : (k : ℕ) → IsPoint (whole (z k))
    at k = whole_is_point (z k)

    -- an edge goes forward
    proper : (e : ℕ) → e < count → Precedes (whole (edge e).from) (whole (edge e).to)
    proper e some =
        let r = runs e some in
        rw (r.is_from, r.is_to) (precedes_later z n rising (first e) (last e) r.forward r.within)

    -- an edge over a slab spans it
    spans : (k e : ℕ) → k + 1 < n → e < count → IsOver k e → Spans (whole (z k)) (whole (z (k + 1))) (edge e)
    spans k e within some over =
        let r = runs e some in
        let to = over.1 in
        record {
          proper = proper e some;
          from_before = rw r.is_from (ascends z n rising (first e) k over.0 (omega arith));
          to_after = rw r.is_to (ascends z n rising (k + 1) (last e) (omega arith) r.within);
        }

    -- a point of an edge is on its line,
    on_line : (e : ℕ) → IsOn (edge e) x → side (edge e) x ≡ pos 0
    on_line e on = on_is_straight x (whole (edge e).from) (whole (edge e).to) at_x (whole_is_point (edge e).from) (whole_is_point (edge e).to) on

    -- not before the point where the edge begins,
    not_before : (e : ℕ) → e < count → IsOn (edge e) x → NotAfter (whole (z (first e))) x
    not_before e some on = rw (runs e some).is_from at (not_before_first (edge e).from (edge e).to x at_x (proper e some) on)

    -- and not after the one where it ends
    not_after : (e : ℕ) → e < count → IsOn (edge e) x → NotAfter x (whole (z (last e)))
    not_after e some on = rw (runs e some).is_to at (not_after_last (edge e).from (edge e).to x at_x (proper e some) on)

    -- at two places of a slab's list
    at_places : (k : ℕ) (within : k + 1 < n) (i j : ℕ) → i < j → j < length (slabs k within).status
        → NotAfter (whole (z k)) x → NotAfter x (whole (z (k + 1)))
        → IsOn (edge (get_or (slabs k within).status i 0)) x → IsOn (edge (get_or (slabs k within).status j 0)) x
        → IsCommonEnd (edge (get_or (slabs k within).status i 0)) (edge (get_or (slabs k within).status j 0)) x
    at_places k within i j less j_within after before on_i on_j =
        let s = slabs k within in
        shared x (whole (z k)) (whole (z (k + 1))) at_x (at k) (at (k + 1)) (precedes_later z n rising k (k + 1) (omega arith) within) after before
        edge s.status s.ordered (λ l d h. let o = s.only l d h in spans k (get_or s.status l d) within o.0 o.1) i j less j_within
        (on_line (get_or s.status i 0) on_i) (on_line (get_or s.status j 0) on_j)

    -- over one slab
    in_slab : (k e f : ℕ) → k + 1 < n → e < count → f < count → ¬ (e ≡ f) → IsOver k e → IsOver k f
        → NotAfter (whole (z k)) x → NotAfter x (whole (z (k + 1))) → IsOn (edge e) x → IsOn (edge f) x → IsCommonEnd (edge e) (edge f) x
    in_slab k e f within some_e some_f other over_e over_f after before on_e on_f =
        let s = slabs k within in
        let (i, i_within, at_i) = s.has e some_e over_e in
        let (j, j_within, at_j) = s.has f some_f over_f in
        let is_e : get_or s.status i 0 ≡ e = get_or_default s.status i 0 e i_within ∙ at_i in
        let is_f : get_or s.status j 0 ≡ f = get_or_default s.status j 0 f j_within ∙ at_j in
        elim (cases_order i j) [
          | inl same ↦ absurd (other (sym is_e ∙ ap (λ l. get_or s.status l 0) same ∙ is_f))
          | inr (inl less) ↦ rw (is_e, is_f) at (at_places k within i j less j_within after before (rw is_e on_e) (rw is_f on_f))
          | inr (inr less) ↦
              common_end_swapped (edge f) (edge e) x
              (rw (is_e, is_f) at (at_places k within j i less i_within after before (rw is_f on_f) (rw is_e on_e)))
        ]

    -- where edge e begins no later than edge f
    in_order : (e f : ℕ) → e < count → f < count → ¬ (e ≡ f) → first e ≤ first f → IsOn (edge e) x → IsOn (edge f) x
        → IsCommonEnd (edge e) (edge f) x
    in_order e f some_e some_f other order on_e on_f =
        let r = runs e some_e in
        let s = runs f some_f in
        let begun = not_before f some_f on_f in
        elim (cases_lt (first f) (last e)) [
          | inr past ↦
              let p = at_one_place z n rising x at_x (first f) (last e) past (omega (arith, s.forward, s.within)) begun (not_after e some_e on_e) in
              record { end = z (first f); of_first = inr (r.is_to ∙ p.1); of_second = inl s.is_from; same = p.0 }
          | inl less ↦ elim (cases_lt (last e) (last f)) [
            | inl ends ↦
                let t = slab_between z n rising x at_x (first f) (last e) less begun (not_after e some_e on_e) in
                in_slab t.k e f (omega (arith, t.to, r.within)) some_e some_f other (omega (arith, order, t.from), t.to)
                (t.from, omega (arith, t.to, ends)) t.after t.before on_e on_f
            | inr ends ↦
                let t = slab_between z n rising x at_x (first f) (last f) s.forward begun (not_after f some_f on_f) in
                in_slab t.k e f (omega (arith, t.to, s.within)) some_e some_f other (omega (arith, order, t.from), omega (arith, t.to, ends))
                (t.from, t.to) t.after t.before on_e on_f
          ]
        ]

    -- two edges share no more than a common end
    pub common_end : (e f : ℕ) → e < count → f < count → ¬ (e ≡ f) → IsOn (edge e) x → IsOn (edge f) x → IsCommonEnd (edge e) (edge f) x
    common_end e f some_e some_f other on_e on_f = elim (cases_lt (first f) (first e)) [
      | inr order ↦ in_order e f some_e some_f other order on_e on_f
      | inl less ↦
          common_end_swapped (edge f) (edge e) x (in_order f e some_f some_e (λ same. other (sym same)) (omega (arith, less)) on_f on_e)
    ]
