-- A ring is simple where a sweep has passed all its events.
use Rattle.std.proofs.Common.{◌≡◌, ◌⊎◌, inl, inr, refl, sym, subst, ap, ◌∙◌, ℕ, ◌+◌, ◌<◌, ◌≤◌, List, [], ◌∷◌, length, get_or, arith, suc}
use Rattle.std.proofs.lemmas.Bool.{cases_eq, cases_lt, cases_order}
use Rattle.std.proofs.lemmas.List.Sums.{get_or-le-sum_by, sum_by-cons}
use Rattle.std.specs.List.{Contains}
use Rattle.std.specs.Prelude.{slice_index}
use Rattle.plane.proofs.Order.{precedes_differs}
use Rattle.plane.proofs.Points.{same_refl}
use Rattle.plane.specs.Prelude.{IsBefore, Point, whole}
use Rattle.rings.proofs.Simple.{simple_of_apart}
use Rattle.rings.proofs.Sweeps.Ascending.{precedes_later}
use Rattle.rings.proofs.Sweeps.Events.{edge_is, ends_below, event_of, forward, rank_below}
use Rattle.rings.proofs.Sweeps.Slabs.{Runs, Slab, common_end}
use Rattle.rings.proofs.Vertices.{meet_reversed, meet_swapped, reversed, edge_at, edge_number}
use Rattle.rings.specs.Apart.{MeetAtEnds}
use Rattle.rings.specs.Prelude.{Edge, IsSimple, vertex}
use Rattle.rings.specs.Events.{AreEvents, edge_upward, first_end, first_rank, last_end, last_rank}
use Rattle.rings.specs.Status.{IsStatus, one, times}

-- ---- how often an item is in a list

-- an item counts once for itself
pub one_self : (e : ℕ) → one e e ≡ 1
one_self e = grind arith

-- and not for another
pub one_other : (e x : ℕ) → ¬ (x ≡ e) → one e x ≡ 0
one_other e x n = grind arith

-- what is there some times is in the list
pub contains_counted : (e : ℕ) (xs : List ℕ) → 0 < times e xs → Contains xs e
contains_counted e [] h = absurd (omega arith)
contains_counted e (x ∷ xs) h = elim (cases_eq x e) [
  | inl same ↦ (0, omega arith, same)
  | inr other ↦
      let more : times e (x ∷ xs) ≡ one e x + times e xs = sum_by-cons (one e) x xs in
      let (k, within, is) = contains_counted e xs (omega (arith, h, more, one_other e x other)) in
      (suc k, omega arith, is)
]

-- and an item of it is there at least once
pub counted_item : (xs : List ℕ) (k d : ℕ) → k < length xs → 1 ≤ times (get_or xs k d) xs
counted_item xs k d within = omega (arith, one_self (get_or xs k d), get_or-le-sum_by (one (get_or xs k d)) xs k d within)

-- ---- a ring is simple where a sweep has passed all its events

-- nothing is in an empty list
pub empty_status : (ring : List Point) (ranks status : List ℕ) → length status ≡ 0 → IsStatus ring ranks 0 status
empty_status ring ranks [] e = record {
  stacked = record { edges = λ k d h. absurd (omega arith); ordered = λ k d h. absurd (omega arith) };
  counted = λ e h. record { there = λ a b. absurd (omega (arith, a)); begins_later = λ a. refl; ended = λ a. absurd (omega (arith, a)) };
}
empty_status ring ranks (x ∷ xs) e = absurd (omega (arith, e))

-- an edge meets another at ends where it does with that one read backward, or not
meet_either : (c d e : Edge) → (d ≡ e) ⊎ (d ≡ reversed e) → MeetAtEnds c d → MeetAtEnds c e
meet_either c d e (inl is) meet = subst (MeetAtEnds c) is meet
meet_either c d e (inr is) meet = meet_reversed c (reversed e) (subst (MeetAtEnds c) is meet)

module _ (ring : List Point) (events ranks : List ℕ) (are : AreEvents ring events ranks) (three : 3 ≤ length ring) where
  abbrev n : ℕ
  n = length ranks

  -- event k
  abbrev z : ℕ → Point
  z k = vertex ring (slice_index events k)

  abbrev up : ℕ → Edge
  up e = edge_upward ring ranks e

  rising : (k : ℕ) → k + 1 < n → IsBefore (z k) (z (k + 1))
  rising k h = let size = are.all_ranks in (are.each k (omega (arith, h, size))).before_next (omega (arith, h, size))

  -- a vertex is the event of its rank
  pub at_rank : (v : ℕ) → v < n → vertex ring v ≡ z (slice_index ranks v)
  at_rank v h = ap (vertex ring) (sym (event_of ring events ranks are three v h))

  runs : (e : ℕ) → e < n → Runs z n (up e) (first_rank ranks e) (last_rank ranks e)
  runs e h =
      let size = are.all_ranks in
      let b = ends_below ring events ranks are three e h in
      record {
        forward = forward ring events ranks are three e h;
        within = omega (arith, size, rank_below ring events ranks are three (last_end ranks e) b.1);
        is_from = at_rank (first_end ranks e) b.0;
        is_to = at_rank (last_end ranks e) b.1;
      }

  -- ---- vertices

  -- a vertex of lower rank is another
  lower_differs : (i j : ℕ) → i < n → j < n → slice_index ranks i < slice_index ranks j → ¬ (vertex ring i ≡ vertex ring j)
  lower_differs i j hi hj less e =
      let size = are.all_ranks in
      let same : z (slice_index ranks i) ≡ z (slice_index ranks j) = sym (at_rank i hi) ∙ e ∙ at_rank j hj in
      let later = precedes_later z n rising (slice_index ranks i) (slice_index ranks j) less (omega (arith, size, rank_below ring events ranks are three j hj)) in
      precedes_differs (whole (z (slice_index ranks i))) (whole (z (slice_index ranks j))) later (rw same (same_refl (whole (z (slice_index ranks j)))))

  -- no two are equal
  distinct : (i j : ℕ) → i < j → j < n → ¬ (vertex ring i ≡ vertex ring j)
  distinct i j less h e =
      let hi : i < n = omega arith in
      elim (cases_order (slice_index ranks i) (slice_index ranks j)) [
        | inl same ↦
            absurd (omega (arith, less, sym (event_of ring events ranks are three i hi) ∙ ap (slice_index events) same ∙ event_of ring events ranks are three j h))
        | inr (inl k) ↦ lower_differs i j hi h k e
        | inr (inr k) ↦ lower_differs j i h hi k (sym e)
      ]

  -- ---- edges

  -- the status after an event is a list of just the edges over the slab
  slab : (k : ℕ) (status : List ℕ) → IsStatus ring ranks (k + 1) status → Slab up (first_rank ranks) (last_rank ranks) n k
  slab k status h = record {
    status = status;
    has = λ e below over. contains_counted e status (omega (arith, (h.counted e below).there (omega (arith, over.0)) (omega (arith, over.1))));
    only = λ i d within.
        let e : ℕ = get_or status i d in
        let below : e < n = h.stacked.edges i d within in
        let c = h.counted e below in
        let some = counted_item status i d within in (
          below,
          (
            elim (cases_lt k (first_rank ranks e)) [ inl a ↦ absurd (omega (arith, some, c.begins_later (omega (arith, a)))) | inr a ↦ a ],
            elim (cases_lt k (last_rank ranks e)) [ inl a ↦ a | inr a ↦ absurd (omega (arith, some, c.ended (omega (arith, a)))) ],
          ),
        );
    ordered = h.stacked.ordered;
  }

  module _ (held : (k : ℕ) → k < n → (status : List ℕ) × IsStatus ring ranks (k + 1) status) where
    -- two edges meet at ends, read upward,
    meet_upward : (e f : ℕ) → e < n → f < n → ¬ (e ≡ f) → MeetAtEnds (up e) (up f)
    meet_upward e f he hf other x at_x on_e on_f =
        common_end up (first_rank ranks) (last_rank ranks) n z n rising runs
        (λ k within. let (status, h) = held k (omega (arith, within)) in slab k status h) x at_x e f he hf other on_e on_f

    -- and as they are
    meet : (e f : ℕ) → e < n → f < n → ¬ (e ≡ f) → MeetAtEnds (edge_at ring e) (edge_at ring f)
    meet e f he hf other =
        meet_either (edge_at ring e) (up f) (edge_at ring f) (edge_is ring events ranks are three f hf)
        (meet_swapped (up f) (edge_at ring e)
        (meet_either (up f) (up e) (edge_at ring e) (edge_is ring events ranks are three e he)
        (meet_swapped (up e) (up f) (meet_upward e f he hf other))))

    -- a ring is simple where there was a status after each event
    pub simple_of_swept : IsSimple ring
    simple_of_swept =
        let size = are.all_ranks in
        simple_of_apart ring
        (
        record {
          distinct = λ i j less within. distinct i j less (omega (arith, size, within));
          apart = λ e f has_e has_f.
              let (i, i_within, is_e) = edge_number ring e has_e in
              let (j, j_within, is_f) = edge_number ring f has_f in
              elim (cases_eq i j) [
                | inl same ↦ inl (sym is_e ∙ ap (edge_at ring) same ∙ is_f)
                | inr other ↦ inr (subst (MeetAtEnds e) is_f (subst (λ (d : Edge). MeetAtEnds d (edge_at ring j)) is_e
                    (meet i j (omega (arith, size, i_within)) (omega (arith, size, j_within)) other)))
              ];
        }
        )
