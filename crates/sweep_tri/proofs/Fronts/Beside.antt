-- The edges of a ring at the vertex of an event: those that end there and those that begin there.
use Rattle.std.proofs.Common.{◌≡◌, ◌⊎◌, inl, inr, sym, ap, ◌∙◌, ℕ, ◌<◌, ◌≤◌, List, length, arith}
use Rattle.std.specs.Prelude.{slice_index}
use Rattle.plane.specs.Point.{Point}
use Rattle.rings.proofs.Sweeps.{ends_are, next_below, next_differs, next_of_previous, previous_below, previous_of_next}
use Rattle.rings.specs.Events.{AreEvents, first_end, last_end, next, previous}
use Rattle.sweep_tri.proofs.RankOrder.{one_by_rank}
use Rattle.sweep_tri.specs.Frontier.{upward}
use Rattle.sweep_tri.specs.Gaps.{Front}
pub use Rattle.sweep_tri.specs.Passing.{AreBeside}

pub beside_swapped : (n v s t : ℕ) → AreBeside n v s t → AreBeside n v t s
beside_swapped n v s t (inl h) = inr (h.1, h.0)
beside_swapped n v s t (inr h) = inl (h.1, h.0)

-- the edge from s to v
abbrev pub front : ℕ → ℕ → Front
front s v = record { from = s; to = v }

-- of three vertices or more the two are different
previous_not_next : (n v : ℕ) → 3 ≤ n → v < n → ¬ (previous n v ≡ next n v)
previous_not_next n v three below = grind arith

-- an edge of the ring between v and its neighbour s
pub record IsEdgeTo (ranks : List ℕ) (v s e : ℕ) : Type 0 where
  pub is_edge : e < length ranks
  pub ends_here : slice_index ranks s < slice_index ranks v → upward ranks e ≡ front s v
  pub begins_here : slice_index ranks v < slice_index ranks s → upward ranks e ≡ front v s

module _ (corners : List Point) (order ranks : List ℕ) (are : AreEvents corners order ranks) (three : 3 ≤ length corners) where
  -- a vertex has the number of its event, and the rank
  pub event_vertex : (k : ℕ) → k < length corners → (slice_index order k < length ranks) × (slice_index ranks (slice_index order k) ≡ k)
  event_vertex k within =
      let size = are.all_ranks in (omega (arith, size, are.vertices k 0 (omega (arith, within, are.all_events))), (are.each k within).rank_of_event)

  module _ (v : ℕ) (hv : v < length ranks) where
    -- the edge from the vertex before
    to_previous : (e : ℕ) × IsEdgeTo ranks v (previous (length ranks) v) e
    to_previous =
        let u : ℕ = previous (length ranks) v in
        let hu = previous_below (length ranks) v hv in
        let after = next_of_previous (length ranks) v hv in
        elim (ends_are corners order ranks are three u hu) [
          | inl h ↦ (
            u,
            record {
              is_edge = hu;
              ends_here = λ less. λ i. front (h.0 i) ((h.1 ∙ after) i);
              begins_here = λ less. absurd (omega (arith, less, h.2, ap (slice_index ranks) after));
            },
          )
          | inr h ↦ (
            u,
            record {
              is_edge = hu;
              ends_here = λ less. absurd (omega (arith, less, h.2, ap (slice_index ranks) after));
              begins_here = λ less. λ i. front ((h.0 ∙ after) i) (h.1 i);
            },
          )
        ]

    -- and the edge to the vertex after
    to_next : (e : ℕ) × IsEdgeTo ranks v (next (length ranks) v) e
    to_next = elim (ends_are corners order ranks are three v hv) [
      | inl h ↦ (
        v,
        record {
          is_edge = hv;
          ends_here = λ less. absurd (omega (arith, less, h.2));
          begins_here = λ less. λ i. front (h.0 i) (h.1 i);
        },
      )
      | inr h ↦ (
        v,
        record {
          is_edge = hv;
          ends_here = λ less. λ i. front (h.0 i) (h.1 i);
          begins_here = λ less. absurd (omega (arith, less, h.2));
        },
      )
    ]

    module _ (s t : ℕ) (beside : AreBeside (length ranks) v s t) where
      pub beside_below : (s < length ranks) × (t < length ranks)
      beside_below = elim beside [
        | inl h ↦ (rw h.0 (previous_below (length ranks) v hv), rw h.1 (next_below (length ranks) v hv))
        | inr h ↦ (rw h.0 (next_below (length ranks) v hv), rw h.1 (previous_below (length ranks) v hv))
      ]

      -- the neighbours are two vertices,
      pub beside_differ : ¬ (s ≡ t)
      beside_differ same =
          let size = are.all_ranks in
          elim beside [
            | inl h ↦ previous_not_next (length ranks) v (omega (arith, three, size)) hv (sym h.0 ∙ same ∙ h.1)
            | inr h ↦ previous_not_next (length ranks) v (omega (arith, three, size)) hv (sym h.1 ∙ sym same ∙ h.0)
          ]

      -- and not v
      pub beside_not : ¬ (s ≡ v)
      beside_not same =
          let size = are.all_ranks in
          let two : 2 ≤ length ranks = omega (arith, three, size) in
          elim beside [
            | inl h ↦
                next_differs (length ranks) (previous (length ranks) v) (previous_below (length ranks) v hv) two
                (next_of_previous (length ranks) v hv ∙ sym same ∙ h.0)
            | inr h ↦ next_differs (length ranks) v hv two (sym h.0 ∙ same)
          ]

      -- each is before v or after it
      pub beside_rank_differs : ¬ (slice_index ranks s ≡ slice_index ranks v)
      beside_rank_differs same = beside_not (one_by_rank corners order ranks are three s v beside_below.0 hv same)

      -- there is an edge to each,
      pub edge_to : (e : ℕ) × IsEdgeTo ranks v s e
      edge_to = elim beside [ inl h ↦ rw h.0 to_previous | inr h ↦ rw h.0 to_next ]

      -- and the other end of each edge at v is one of them
      other_end : (e x : ℕ) → e < length ranks → ((x ≡ e) × (next (length ranks) e ≡ v)) ⊎ ((x ≡ next (length ranks) e) × (e ≡ v)) → (x ≡ s) ⊎ (x ≡ t)
      other_end e x he (inl h) =
          let is : x ≡ previous (length ranks) v = h.0 ∙ sym (previous_of_next (length ranks) e he) ∙ ap (previous (length ranks)) h.1 in
          elim beside [ inl b ↦ inl (is ∙ sym b.0) | inr b ↦ inr (is ∙ sym b.1) ]
      other_end e x he (inr h) =
          let is : x ≡ next (length ranks) v = h.0 ∙ ap (next (length ranks)) h.1 in
          elim beside [ inl b ↦ inr (is ∙ sym b.1) | inr b ↦ inl (is ∙ sym b.0) ]

      -- so no edge but these two ends at v,
      pub ends_from : (e : ℕ) → e < length ranks → last_end ranks e ≡ v → (upward ranks e ≡ front s v) ⊎ (upward ranks e ≡ front t v)
      ends_from e he last =
          elim (other_end e (first_end ranks e) he
          (elim (ends_are corners order ranks are three e he) [ inl h ↦ inl (h.0, sym h.1 ∙ last) | inr h ↦ inr (h.0, sym h.1 ∙ last) ])) [ inl is ↦ inl (λ i. front (is i) (last i)) | inr is ↦ inr (λ i. front (is i) (last i)) ]

      -- or begins there
      pub begins_to : (e : ℕ) → e < length ranks → first_end ranks e ≡ v → (upward ranks e ≡ front v s) ⊎ (upward ranks e ≡ front v t)
      begins_to e he first =
          elim (other_end e (last_end ranks e) he
          (elim (ends_are corners order ranks are three e he) [ inl h ↦ inr (h.1, sym h.0 ∙ first) | inr h ↦ inl (h.1, sym h.0 ∙ first) ])) [ inl is ↦ inl (λ i. front (first i) (is i)) | inr is ↦ inr (λ i. front (first i) (is i)) ]
