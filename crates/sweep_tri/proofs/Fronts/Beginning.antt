-- The two edges that begin at a vertex of a simple ring turn to one side.
-- The edges that begin at the vertex of an event, one below the other.
use Rattle.std.proofs.Common.{◌≡◌, ◌⊎◌, inl, inr, sym, ap, ◌∙◌, ℕ, ◌+◌, ◌-◌, ◌<◌, ◌≤◌, List, length, arith, refl, zero, suc, [], ◌∷◌}
use Rattle.std.proofs.Math.Nat.{add-mod_right}
use Rattle.std.proofs.lemmas.Bool.{cases_lt}
use Rattle.std.specs.Prelude.{slice_index, slice_index_or}
use Rattle.integer_algebra.proofs.SignSteps.{turned_positive}
use Rattle.integer_algebra.proofs.Signs.{is_negative, is_positive, is_zero, sign}
use Rattle.plane.proofs.Order.{not_after_of_precedes, not_after_or_precedes}
use Rattle.plane.proofs.Points.{whole_is_point}
use Rattle.plane.proofs.Segments.{on_from_order}
use Rattle.plane.proofs.Turns.{determinant_swap_last, straight_swap_last}
use Rattle.plane.specs.Point.{Point, whole}
use Rattle.plane.specs.Segment.{On}
use Rattle.plane.specs.Turn.{IsLeft, IsStraight, determinant}
use Rattle.rings.proofs.Sweeps.{vertex_after}
use Rattle.rings.specs.Below.{IsBelow}
use Rattle.rings.specs.Events.{AreEvents, next, previous, first_end}
use Rattle.rings.specs.Ring.{origin, vertex}
use Rattle.rings.specs.Simple.{IsSimple}
use Rattle.ring_laws.proofs.Vertices.{neighbours_not_on_ray}
use Rattle.sweep_tri.proofs.Fronts.Beside.{AreBeside, beside_below, beside_differ, beside_swapped, begins_to, edge_to, front}
use Rattle.sweep_tri.proofs.Fronts.Sides.{IsFront}
use Rattle.sweep_tri.proofs.RankOrder.{not_after_by_rank, number_is_one}
use Rattle.sweep_tri.specs.Frontier.{IsMet, front_at, upward}
use Rattle.sweep_tri.specs.Gaps.{Front, front_edge}

-- the vertex before vertex v is that one, or the last one
previous_cases : (n v : ℕ) → ((previous n v ≡ v - 1) × (0 < v)) ⊎ ((previous n v ≡ n - 1) × (v ≡ 0))
previous_cases n v = elim (cases_lt 0 v) [ inl h ↦ inl (grind arith, h) | inr h ↦ inr (grind arith, omega arith) ]

-- counted round
vertex_before : (ring : List Point) (v : ℕ) → v < length ring → vertex ring (previous (length ring) v) ≡ vertex ring (v + (length ring - 1))
vertex_before ring v h = elim (previous_cases (length ring) v) [
  | inl k ↦
      let round : (v - 1) + length ring ≡ v + (length ring - 1) = omega (arith, h, k.1) in
      ap (vertex ring) k.0 ∙ ap (λ i. slice_index_or ring i origin) (sym (add-mod_right (v - 1) (length ring))) ∙ ap (vertex ring) round
  | inr k ↦ ap (vertex ring) (k.0 ∙ omega (arith, h, k.1))
]

module _ (corners : List Point) (order ranks : List ℕ) (are : AreEvents corners order ranks) (three : 3 ≤ length corners) (simple : IsSimple corners)
    (v : ℕ) (hv : v < length ranks) (s t : ℕ) (beside : AreBeside (length ranks) v s t)
    (later_s : slice_index ranks v < slice_index ranks s) (later_t : slice_index ranks v < slice_index ranks t) where
  -- the point of a vertex
  abbrev at : ℕ → Point
  at i = vertex corners i

  below : (s < length ranks) × (t < length ranks)
  below = beside_below corners order ranks are three v hv s t beside

  -- where v and its neighbours are on one line, one of them is on the edge to the other
  on_edge : IsStraight (whole (at v)) (whole (at s)) (whole (at t))
      → On (whole (at s)) (whole (at v)) (whole (at t)) ⊎ On (whole (at t)) (whole (at v)) (whole (at s))
  on_edge straight = elim (not_after_or_precedes (whole (at s)) (whole (at t))) [
    | inl h ↦
        inl (on_from_order (whole (at s)) (whole (at v)) (whole (at t)) (straight_swap_last (whole (at v)) (whole (at s)) (whole (at t)) straight)
        (whole_is_point (at s)) (whole_is_point (at v)) (whole_is_point (at t))
        (not_after_by_rank corners order ranks are three v s hv below.0 (omega (arith, later_s)))
        (not_after_of_precedes (whole (at s)) (whole (at t)) h))
    | inr h ↦
        inr (on_from_order (whole (at t)) (whole (at v)) (whole (at s)) straight
        (whole_is_point (at t)) (whole_is_point (at v)) (whole_is_point (at s))
        (not_after_by_rank corners order ranks are three v t hv below.1 (omega (arith, later_t))) h)
  ]

  -- the neighbours by their places round v
  not_on : (u w : ℕ) → u ≡ previous (length ranks) v → w ≡ next (length ranks) v
      → ¬ (On (whole (at u)) (whole (at v)) (whole (at w)) ⊎ On (whole (at w)) (whole (at v)) (whole (at u)))
  not_on u w is_u is_w on =
      let size = are.all_ranks in
      let h : v < length corners = omega (arith, size, hv) in
      let p : at u ≡ vertex corners (v + (length corners - 1)) =
      ap at (is_u ∙ ap (λ n. previous n v) size) ∙ vertex_before corners v h in
      let q : at w ≡ vertex corners (v + 1) = ap at is_w ∙ vertex_after corners order ranks are three v hv in
      neighbours_not_on_ray corners simple three v h (rw (p, q) at on)

  -- so they are not
  pub not_straight : ¬ IsStraight (whole (at v)) (whole (at s)) (whole (at t))
  not_straight straight = elim beside [
    | inl h ↦ not_on s t h.0 h.1 (on_edge straight)
    | inr h ↦ not_on t s h.1 h.0 (elim (on_edge straight) [ inl k ↦ inr k | inr k ↦ inl k ])
  ]

  -- and in one order they turn left
  pub turns_left : IsLeft (whole (at v)) (whole (at s)) (whole (at t)) ⊎ IsLeft (whole (at v)) (whole (at t)) (whole (at s))
  turns_left = elim (sign (determinant (whole (at v)) (whole (at s)) (whole (at t)))) [
    | is_negative h ↦ inr (turned_positive (determinant_swap_last (whole (at v)) (whole (at s)) (whole (at t))) h)
    | is_zero h ↦ absurd (not_straight h)
    | is_positive h ↦ inl h
  ]

-- just the edges of the ring that begin at v, each below those after it; v is the vertex of event k
pub record AreBegun (corners : List Point) (ranks : List ℕ) (k v : ℕ) (new : List Front) : Type 0 where
  pub edges : (i : ℕ) → i < length new → IsFront ranks (k + 1) (front_at new i) × ((front_at new i).from ≡ v)
  pub all : (e : ℕ) → IsMet ranks (k + 1) e → first_end ranks e ≡ v → (i : ℕ) × (i < length new) × (front_at new i ≡ upward ranks e)
  pub ordered : (i j : ℕ) → i < j → j < length new → IsBelow (front_edge corners (front_at new i)) (front_edge corners (front_at new j))

-- the one item of a list, and the two of another
at_one : (f : Front) (P : Front → Type 0) → P f → (i : ℕ) → i < 1 → P (front_at (f ∷ []) i)
at_one f P p zero h = p
at_one f P p (suc i) h = absurd (omega (arith, h))

at_two : (f g : Front) (P : Front → Type 0) → P f → P g → (i : ℕ) → i < 2 → P (front_at (f ∷ g ∷ []) i)
at_two f g P p q zero h = p
at_two f g P p q (suc zero) h = q
at_two f g P p q (suc (suc i)) h = absurd (omega (arith, h))

in_order : (f g : Front) (R : Front → Front → Type 0) → R f g → (i j : ℕ) → i < j → j < 2 → R (front_at (f ∷ g ∷ []) i) (front_at (f ∷ g ∷ []) j)
in_order f g R r zero zero less h = absurd (omega (arith, less))
in_order f g R r zero (suc zero) less h = r
in_order f g R r zero (suc (suc j)) less h = absurd (omega (arith, h))
in_order f g R r (suc i) zero less h = absurd (omega (arith, less))
in_order f g R r (suc i) (suc j) less h = absurd (omega (arith, less, h))

module _ (corners : List Point) (order ranks : List ℕ) (are : AreEvents corners order ranks) (three : 3 ≤ length corners)
    (k v : ℕ) (hv : v < length ranks) (rank_v : slice_index ranks v ≡ k) where
  -- the edge to a later neighbour
  pub begun_to : (s t : ℕ) → AreBeside (length ranks) v s t → k < slice_index ranks s → IsFront ranks (k + 1) (front v s)
  begun_to s t beside later =
      let (e, to) = edge_to corners order ranks are three v hv s t beside in
      let is = to.begins_here (omega (arith, later, rank_v)) in (
        e,
        record {
          is_edge = to.is_edge;
          begun = omega (arith, rank_v, ap (λ (f : Front). slice_index ranks f.from) is);
          to_come = omega (arith, later, ap (λ (f : Front). slice_index ranks f.to) is);
        },
        sym is,
      )

  module _ (s t : ℕ) (beside : AreBeside (length ranks) v s t) where
    -- an edge that begins at v goes to one of the neighbours that come later
    begun_cases : (e : ℕ) → IsMet ranks (k + 1) e → first_end ranks e ≡ v
        → ((upward ranks e ≡ front v s) × (k < slice_index ranks s)) ⊎ ((upward ranks e ≡ front v t) × (k < slice_index ranks t))
    begun_cases e met first =
        let to_come = met.to_come in
        elim (begins_to corners order ranks are three v hv s t beside e met.is_edge first) [
          | inl is ↦ inl (is, omega (arith, to_come, ap (λ (f : Front). slice_index ranks f.to) is))
          | inr is ↦ inr (is, omega (arith, to_come, ap (λ (f : Front). slice_index ranks f.to) is))
        ]

    -- none where both neighbours are before v
    pub none_begin : slice_index ranks s < k → slice_index ranks t < k → AreBegun corners ranks k v []
    none_begin before_s before_t = record {
      edges = λ i h. absurd (omega (arith, h));
      all = λ e met first. elim (begun_cases e met first) [
        | inl h ↦ absurd (omega (arith, before_s, h.1))
        | inr h ↦ absurd (omega (arith, before_t, h.1))
      ];
      ordered = λ i j less h. absurd (omega (arith, h));
    }

    -- one where t alone is later
    pub one_begins : slice_index ranks s < k → k < slice_index ranks t → AreBegun corners ranks k v (front v t ∷ [])
    one_begins before later = record {
      edges =
          at_one (front v t) (λ f. IsFront ranks (k + 1) f × (f.from ≡ v))
          (begun_to t s (beside_swapped (length ranks) v s t beside) later, refl);
      all = λ e met first. elim (begun_cases e met first) [
        | inl h ↦ absurd (omega (arith, before, h.1))
        | inr h ↦ (0, omega arith, sym h.0)
      ];
      ordered = λ i j less h. absurd (omega (arith, less, h));
    }

    -- two where both are, with the turn to the left
    pub two_begin : IsSimple corners → k < slice_index ranks s → k < slice_index ranks t
        → IsLeft (whole (vertex corners v)) (whole (vertex corners s)) (whole (vertex corners t))
        → AreBegun corners ranks k v (front v s ∷ front v t ∷ [])
    two_begin simple later_s later_t left =
        let below = beside_below corners order ranks are three v hv s t beside in
        record {
          edges =
              at_two (front v s) (front v t) (λ f. IsFront ranks (k + 1) f × (f.from ≡ v))
              (begun_to s t beside later_s, refl) (begun_to t s (beside_swapped (length ranks) v s t beside) later_t, refl);
          all = λ e met first. elim (begun_cases e met first) [
            | inl h ↦ (0, omega arith, sym h.0)
            | inr h ↦ (1, omega arith, sym h.0)
          ];
          ordered =
              in_order (front v s) (front v t) (λ f g. IsBelow (front_edge corners f) (front_edge corners g))
              (
              record {
                start = inr refl;
                finish = inl (inl left);
                differ = λ same_from same_to.
                    beside_differ corners order ranks are three v hv s t beside
                    (number_is_one corners order ranks are three s t below.0 below.1 same_to);
              }
              );
        }
