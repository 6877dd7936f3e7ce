-- Edges of chains that rise in lexicographic order: those of one chain, and those of two, share no more than a common end.
use Rattle.std.proofs.Common.{◌≡◌, ◌⊎◌, inl, inr, refl, subst, ℕ, ◌+◌, ◌<◌, arith}
use Rattle.integer_algebra.proofs.SignSteps.{negative_not_zero, zero_not_positive}
use Rattle.plane.proofs.Order.{NotAfter, after, before, before_asym, before_irrefl, before_or_not, compare_points, equal, not_after_antisym}
use Rattle.plane.proofs.Order.{not_after_facts, not_after_of_precedes, not_after_of_same, not_after_trans, precedes_differs}
use Rattle.plane.proofs.Points.{same_refl, same_sym, same_trans, same_whole, whole_is_point}
use Rattle.plane.proofs.Segments.{on_is_straight}
use Rattle.plane.specs.Order.{IsBefore}
use Rattle.plane.specs.Point.{IsSame, Point, whole}
use Rattle.rings.proofs.Sweeps.{Spans, ascends, at_one_place, not_after_last, not_before_first, precedes_later, precedes_whole, stays_below}
use Rattle.rings.proofs.Vertices.{meet_swapped}
use Rattle.rings.specs.Apart.{MeetAtEnds}
use Rattle.rings.specs.Below.{IsBelow}
use Rattle.rings.specs.Edge.{Edge, edge}

-- ---- whole points

-- a whole point that another is not before is not after that
not_after_whole : (p q : Point) → ¬ (IsBefore q p) → NotAfter (whole p) (whole q)
not_after_whole p q not = elim (compare_points p q) [
  | before h ↦ not_after_of_precedes (whole p) (whole q) (precedes_whole p q h)
  | equal e ↦ not_after_of_same (whole p) (whole q) (subst (λ (r : Point). IsSame (whole p) (whole r)) e (same_refl (whole p)))
  | after h ↦ absurd (not h)
]

-- of two points the one that is not before the other
later : (p q : Point) → (y : Point) × (¬ IsBefore y p) × (¬ IsBefore y q) × ((y ≡ p) ⊎ (y ≡ q))
later p q = elim (before_or_not p q) [
  | inl h ↦ (q, before_asym p q h, before_irrefl q, inr refl)
  | inr not ↦ (p, before_irrefl p, not, inl refl)
]

-- and the one that is not after it
earlier : (p q : Point) → (z : Point) × (¬ IsBefore p z) × (¬ IsBefore q z) × ((z ≡ p) ⊎ (z ≡ q))
earlier p q = elim (before_or_not p q) [
  | inl h ↦ (p, before_irrefl p, before_asym p q h, inl refl)
  | inr not ↦ (q, not, before_irrefl q, inr refl)
]

-- ---- one chain

module _ (z : ℕ → Point) (n : ℕ) (rises : (k : ℕ) → k + 1 < n → IsBefore (z k) (z (k + 1))) where
  -- its vertices are different,
  pub differ_along : (i k : ℕ) → i < k → k < n → ¬ (z i ≡ z k)
  differ_along i k less within same =
      precedes_differs (whole (z i)) (whole (z k)) (precedes_later z n rises i k less within)
      (subst (λ (r : Point). IsSame (whole (z i)) (whole r)) same (same_refl (whole (z i))))

  -- none is before the first,
  pub first_is_least : (k : ℕ) → k < n → ¬ (IsBefore (z k) (z 0))
  first_is_least k within h =
      not_after_facts (whole (z 0)) (whole (z k)) (ascends z n rises 0 k (omega arith) within) (precedes_whole (z k) (z 0) h)

  -- and two edges share no more than a common end
  pub meet_along : (i j : ℕ) → i < j → j + 1 < n → MeetAtEnds (edge (z i) (z (i + 1))) (edge (z j) (z (j + 1)))
  meet_along i j less within x at on_i on_j =
      let begun = not_before_first (z j) (z (j + 1)) x at (precedes_whole (z j) (z (j + 1)) (rises j within)) on_j in
      let ended = not_after_last (z i) (z (i + 1)) x at (precedes_whole (z i) (z (i + 1)) (rises i (omega arith))) on_i in
      let (same, is) = at_one_place z n rises x at j (i + 1) (omega arith) (omega arith) begun ended in
      record { end = z j; of_first = inr is; of_second = inl refl; same = same }

-- ---- two edges

module _ (e f : Edge) (forward_e : IsBefore e.from e.to) (forward_f : IsBefore f.from f.to) where
  -- where the first begins when the second has ended, they share at most that end
  meet_past : ¬ (IsBefore e.from f.to) → MeetAtEnds e f
  meet_past past x at on_e on_f =
      let at_e = whole_is_point e.from in
      let at_f = whole_is_point f.to in
      let begun = not_before_first e.from e.to x at (precedes_whole e.from e.to forward_e) on_e in
      let ended = not_after_last f.from f.to x at (precedes_whole f.from f.to forward_f) on_f in
      let order = not_after_whole f.to e.from past in
      let same_e = not_after_antisym x (whole e.from) (not_after_trans x (whole f.to) (whole e.from) at at_f at_e ended order) begun in
      let same_f = not_after_antisym x (whole f.to) ended (not_after_trans (whole f.to) (whole e.from) x at_f at_e at order begun) in
      let is = same_whole f.to e.from (same_trans at (same_sym same_f) same_e) in
      record { end = e.from; of_first = inl refl; of_second = inr is; same = same_e }

-- where the one is below the other if they are over one another
module _ (e f : Edge) (forward_e : IsBefore e.from e.to) (forward_f : IsBefore f.from f.to)
    (below : IsBefore e.from f.to → IsBefore f.from e.to → IsBelow e f) where
  -- they share a common end at most where they are
  meet_over : IsBefore e.from f.to → IsBefore f.from e.to → MeetAtEnds e f
  meet_over h k x at on_e on_f =
      let (y, y_e, y_f, is_y) = later e.from f.from in
      let (z, z_e, z_f, is_z) = earlier e.to f.to in
      let proper_e = precedes_whole e.from e.to forward_e in
      let proper_f = precedes_whole f.from f.to forward_f in
      let yz : IsBefore y z = elim is_y [
        | inl at_y ↦ rw at_y (elim is_z [ inl at_z ↦ rw at_z forward_e | inr at_z ↦ rw at_z h ])
        | inr at_y ↦ rw at_y (elim is_z [ inl at_z ↦ rw at_z k | inr at_z ↦ rw at_z forward_f ])
      ] in
      let begun : NotAfter (whole y) x = elim is_y [
        | inl at_y ↦ rw at_y (not_before_first e.from e.to x at proper_e on_e)
        | inr at_y ↦ rw at_y (not_before_first f.from f.to x at proper_f on_f)
      ] in
      let ended : NotAfter x (whole z) = elim is_z [
        | inl at_z ↦ rw at_z (not_after_last e.from e.to x at proper_e on_e)
        | inr at_z ↦ rw at_z (not_after_last f.from f.to x at proper_f on_f)
      ] in
      let over_e : Spans (whole y) (whole z) e =
      record { proper = proper_e; from_before = not_after_whole e.from y y_e; to_after = not_after_whole z e.to z_e } in
      let over_f : Spans (whole y) (whole z) f =
      record { proper = proper_f; from_before = not_after_whole f.from y y_f; to_after = not_after_whole z f.to z_f } in
      let line_e = on_is_straight x (whole e.from) (whole e.to) at (whole_is_point e.from) (whole_is_point e.to) on_e in
      let line_f = on_is_straight x (whole f.from) (whole f.to) at (whole_is_point f.from) (whole_is_point f.to) on_f in
      elim (stays_below e f x (whole y) (whole z) at (whole_is_point y) (whole_is_point z) (precedes_whole y z yz) begun ended over_e over_f
      (below h k) (zero_not_positive line_e)) [
        | inl under ↦ absurd (negative_not_zero under line_f)
        | inr common ↦ common
      ]

  -- and elsewhere
  pub meet_of_below : MeetAtEnds e f
  meet_of_below = elim (before_or_not e.from f.to) [
    | inr past ↦ meet_past e f forward_e forward_f past
    | inl h ↦ elim (before_or_not f.from e.to) [
      | inr past ↦ meet_swapped f e (meet_past f e forward_f forward_e past)
      | inl k ↦ meet_over h k
    ]
  ]
