-- The later of the vertices where the edges at the ends of an open region begin: it is short of the other edge, so a diagonal leads on from there.
use Rattle.std.proofs.Common.{◌≡◌, inl, inr, sym, ap, subst, ◌∙◌, ℕ, ◌+◌, ◌-◌, ◌<◌, ◌≤◌, List, length, get_or, pos, arith}
use Rattle.std.proofs.lemmas.Bool.{cases_eq, cases_lt}
use Rattle.std.specs.Prelude.{slice_index}
use Rattle.integer_algebra.proofs.Signs.{lt_or_le}
use Rattle.integer_algebra.proofs.SignSteps.{negative_not_zero, zero_not_positive}
use Rattle.plane.proofs.Order.{not_after_of_precedes, not_after_of_same, precedes_differs}
use Rattle.plane.proofs.Points.{same_refl, same_sym, whole_is_point}
use Rattle.plane.proofs.Turns.{determinant_same_ends}
use Rattle.plane.specs.Order.{Precedes}
use Rattle.plane.specs.Point.{IsSame, Point, whole}
use Rattle.rings.proofs.Sweeps.{Spans, side as side_of, stays_below}
use Rattle.rings.specs.Edge.{Edge, HasEnd}
use Rattle.rings.specs.Events.{AreEvents}
use Rattle.rings.specs.Ring.{vertex}
use Rattle.sweep_tri.proofs.Regions.Halves.{IsHalf, last_is_vertex}
use Rattle.sweep_tri.proofs.Regions.Paths.{final_step, last_shortened, rises_to, shortened}
use Rattle.sweep_tri.proofs.RankOrder.{not_after_by_rank, precedes_by_rank}
use Rattle.sweep_tri.proofs.Regions.Shortened.{without_last}
use Rattle.sweep_tri.proofs.Regions.Sides.{AreOpen, IsNearer, IsShort}
use Rattle.mono_fill.specs.declared.side.Side.{Side}
use Rattle.mono_fill.specs.declared.side.Side.TheVariants.{Lower, Upper}
use Rattle.sweep_tri.specs.Gaps.{before_last, front_edge, front_of, last}

-- ---- an end of one edge is short of the other

short_of : (side : Side) (e f : Edge) (p v : Point) → Precedes (whole p) (whole v) → Spans (whole p) (whole v) e → Spans (whole p) (whole v) f
    → IsNearer side e f → side_of e (whole p) ≡ pos 0 → ((x : Point) → HasEnd f x → ¬ IsSame (whole p) (whole x)) → IsShort side f p
short_of Lower e f p v order over_e over_f nearer on_e no_end =
    elim (stays_below e f (whole p) (whole p) (whole v) (whole_is_point p) (whole_is_point p) (whole_is_point v) order
    (not_after_of_same (whole p) (whole p) (same_refl (whole p))) (not_after_of_precedes (whole p) (whole v) order) over_e over_f nearer
    (zero_not_positive on_e)) [
      | inl h ↦ h
      | inr c ↦ absurd (no_end c.end c.of_second c.same)
    ]
short_of Upper e f p v order over_e over_f nearer on_e no_end = elim (lt_or_le (pos 0) (side_of f (whole p))) [
  | inl h ↦ h
  | inr low ↦
      elim (stays_below f e (whole p) (whole p) (whole v) (whole_is_point p) (whole_is_point p) (whole_is_point v) order
      (not_after_of_same (whole p) (whole p) (same_refl (whole p))) (not_after_of_precedes (whole p) (whole v) order) over_f over_e nearer low) [
        | inl h ↦ absurd (negative_not_zero h on_e)
        | inr c ↦ absurd (no_end c.end c.of_first c.same)
      ]
]

-- ---- the vertices where the edges at the ends begin

-- its vertices at both ends, and how many there are at least
module _ {corners : List Point} {ranks : List ℕ} {k : ℕ} {side : Side} {near far : List ℕ} (is : AreOpen corners ranks k side near far) where
  pub near_some : 2 ≤ length near
  near_some = is.pair.near_some

  pub far_some : 2 ≤ length far
  far_some = is.pair.far_some

  pub begins_near : before_last near < length corners
  begins_near = is.pair.near_numbers (length near - 2) 0 (let h = near_some in omega arith)

  pub begins_far : before_last far < length corners
  begins_far = is.pair.far_numbers (length far - 2) 0 (let h = far_some in omega arith)

  near_last : last near < length corners
  near_last = last_is_vertex corners near (let h = near_some in omega arith) is.pair.near_numbers

  pub far_last : last far < length corners
  far_last = last_is_vertex corners far (let h = far_some in omega arith) is.pair.far_numbers

module _ (corners : List Point) (order ranks : List ℕ) (are : AreEvents corners order ranks) (three : 3 ≤ length corners)
    (k v : ℕ) (v_within : v < length corners) (v_rank : slice_index ranks v ≡ k)
    (side : Side) (near far : List ℕ) (open_before : AreOpen corners ranks k side near far) where
  abbrev rank : ℕ → ℕ
  rank u = slice_index ranks u

  -- one of the near chain that is later than that of the far one is not the first
  near_three : rank (before_last far) < rank (before_last near) → 3 ≤ length near
  near_three less = elim (cases_lt 2 (length near)) [
    | inl h ↦ h
    | inr not ↦
        let near_some = open_before.pair.near_some in
        let far_some = open_before.pair.far_some in
        let is : length near - 2 ≡ 0 = omega arith in
        let first : before_last near ≡ get_or far 0 0 = ap (λ i. get_or near i 0) is ∙ open_before.pair.first in
        elim (cases_eq (length far - 2) 0) [
          | inl at ↦ absurd (omega (arith, less, ap rank first, ap (λ i. rank (get_or far i 0)) at))
          | inr other ↦
              let h = rises_to ranks far open_before.pair.far_rises 0 (length far - 2) (omega (arith, other)) (omega arith) in
              absurd (omega (arith, less, ap rank first, h))
        ]
  ]

  -- ---- such a vertex is short of the other edge

  module _ (less : rank (before_last far) < rank (before_last near)) where
    abbrev e : Edge
    e = front_edge corners (front_of near)

    abbrev f : Edge
    f = front_edge corners (front_of far)

    abbrev p : ℕ
    p = before_last near

    abbrev q : ℕ
    q = before_last far

    counted : {u : ℕ} → u < length corners → u < length ranks
    counted h = let size = are.all_ranks in omega arith

    p_passed : rank p < k
    p_passed = open_before.near_before (length near - 2) (let h = near_some open_before in omega arith)

    near_spans : Spans (whole (vertex corners p)) (whole (vertex corners v)) e
    near_spans =
        let passed = p_passed in
        let to_come = open_before.near_to_come in
        record {
          proper = precedes_by_rank corners order ranks are three p (last near) (counted (begins_near open_before)) (counted (near_last open_before)) (omega arith);
          from_before = not_after_by_rank corners order ranks are three p p (counted (begins_near open_before)) (counted (begins_near open_before)) (omega arith);
          to_after = not_after_by_rank corners order ranks are three v (last near) (counted v_within) (counted (near_last open_before)) (omega (arith, v_rank));
        }

    far_spans : Spans (whole (vertex corners p)) (whole (vertex corners v)) f
    far_spans =
        let passed = p_passed in
        let to_come = open_before.far_to_come in
        record {
          proper = precedes_by_rank corners order ranks are three q (last far) (counted (begins_far open_before)) (counted (far_last open_before)) (omega (arith, less));
          from_before = not_after_by_rank corners order ranks are three q p (counted (begins_far open_before)) (counted (begins_near open_before)) (omega (arith, less));
          to_after = not_after_by_rank corners order ranks are three v (last far) (counted v_within) (counted (far_last open_before)) (omega (arith, v_rank));
        }

    -- it is no end of that
    no_end : (x : Point) → HasEnd f x → ¬ IsSame (whole (vertex corners p)) (whole x)
    no_end x (inl is) same =
        precedes_differs (whole (vertex corners q)) (whole (vertex corners p))
        (precedes_by_rank corners order ranks are three q p (counted (begins_far open_before)) (counted (begins_near open_before)) less) (same_sym (rw (← is) at same))
    no_end x (inr is) same =
        let passed = p_passed in
        let to_come = open_before.far_to_come in
        precedes_differs (whole (vertex corners p)) (whole (vertex corners (last far)))
        (precedes_by_rank corners order ranks are three p (last far) (counted (begins_near open_before)) (counted (far_last open_before)) (omega arith)) (rw (← is) at same)

    -- the edges at the ends are over one another
    nearer_ends : IsNearer side e f
    nearer_ends =
        let passed = p_passed in
        let near_to_come = open_before.near_to_come in
        let far_to_come = open_before.far_to_come in
        open_before.pair.nearer p (last near) q (last far)
        (final_step near (near_some open_before)) (final_step far (far_some open_before))
        (omega arith) (omega (arith, less))

    pub latest_short : IsShort side f (vertex corners p)
    latest_short =
        let passed = p_passed in
        short_of side e f (vertex corners p) (vertex corners v)
        (precedes_by_rank corners order ranks are three p v (counted (begins_near open_before)) (counted v_within) (omega (arith, v_rank)))
        near_spans far_spans nearer_ends (determinant_same_ends (whole (vertex corners p)) (whole (vertex corners (last near)))) no_end

    -- ---- so the rest is led to v as half of a gap is

    pub latest_half : IsHalf corners ranks k side (shortened near) far
    latest_half =
        let some = near_some open_before in
        let at : rank (last (shortened near)) ≡ rank p = ap rank (last_shortened near some) in
        record {
          pair = without_last corners ranks side near far open_before.pair (near_three less);
          merge_before = omega (arith, p_passed, at);
          outer_before = λ j h. elim (cases_lt (j + 2) (length far)) [
            | inl earlier ↦
                omega (arith, at, less, rises_to ranks far open_before.pair.far_rises j (length far - 2) (omega arith) (omega arith))
            | inr not ↦
                let is : length far - 2 ≡ j = omega arith in
                omega (arith, at, less, ap (λ i. rank (get_or far i 0)) is)
          ];
          outer_to_come = open_before.far_to_come;
          short = subst (λ u. IsShort side f (vertex corners u)) (sym (last_shortened near some)) latest_short;
        }
