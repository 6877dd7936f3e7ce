-- The events of a ring: the vertices beside a vertex, and the ends of an edge by their ranks.
use Rattle.std.proofs.Common.{◌≡◌, ◌⊎◌, inl, inr, sym, ap, refl, ◌∙◌, ℕ, ◌+◌, ◌<◌, ◌≤◌, List, length, cond, true, false, nat_lt, arith}
use Rattle.std.proofs.lemmas.Bool.{cases_lt}
use Rattle.std.specs.Prelude.{slice_index}
use Rattle.plane.specs.Point.{Point}
use Rattle.rings.proofs.Vertices.{reversed, edge_at, vertex_round}
use Rattle.rings.specs.Events.{AreEvents, edge_upward, first_end, first_rank, last_end, last_rank, next, previous}
use Rattle.rings.specs.Ring.{vertex}

-- ---- numbers counted round

module _ (n v : ℕ) (below : v < n) where
  pub next_below : next n v < n
  next_below = grind arith

  pub previous_below : previous n v < n
  previous_below = grind arith

  pub previous_of_next : previous n (next n v) ≡ v
  previous_of_next = grind arith

  pub next_of_previous : next n (previous n v) ≡ v
  next_of_previous = grind arith

  pub next_differs : 2 ≤ n → ¬ (next n v ≡ v)
  next_differs two = grind arith

  -- the next number is one more, or counted round
  next_cases : (next n v ≡ v + 1) ⊎ ((next n v ≡ 0) × (v + 1 ≡ n))
  next_cases = elim (cases_lt (v + 1) n) [ inl h ↦ inl (grind arith) | inr h ↦ inr (grind arith, omega arith) ]

less_true : (a b : ℕ) → a < b → nat_lt a b ≡ true
less_true a b h = grind arith

not_less_false : (a b : ℕ) → b ≤ a → nat_lt a b ≡ false
not_less_false a b h = grind arith

-- ---- the ends of an edge

module _ (ring : List Point) (events ranks : List ℕ) (are : AreEvents ring events ranks) (three : 3 ≤ length ring) where
  abbrev pub after : ℕ → ℕ
  after e = next (length ranks) e

  abbrev pub rank : ℕ → ℕ
  rank v = slice_index ranks v

  -- each vertex is the event of its rank
  pub event_of : (v : ℕ) → v < length ranks → slice_index events (rank v) ≡ v
  event_of v h = let size = are.all_ranks in (are.each v (omega (arith, h, size))).event_of_rank

  pub rank_below : (v : ℕ) → v < length ranks → rank v < length ring
  rank_below v h = are.places v 0 h

  -- so the ranks of an edge's ends differ
  ranks_differ : (e : ℕ) → e < length ranks → ¬ (rank e ≡ rank (after e))
  ranks_differ e h same =
      let size = are.all_ranks in
      next_differs (length ranks) e h (omega (arith, three, size))
      (sym (event_of (after e) (next_below (length ranks) e h)) ∙ ap (slice_index events) (sym same) ∙ event_of e h)

  -- an edge goes from its vertex to the next, or the other way
  pub ends_are : (e : ℕ) → e < length ranks → ((first_end ranks e ≡ e) × (last_end ranks e ≡ after e) × (rank e < rank (after e)))
      ⊎ ((first_end ranks e ≡ after e) × (last_end ranks e ≡ e) × (rank (after e) < rank e))
  ends_are e h = elim (cases_lt (rank e) (rank (after e))) [
    | inl less ↦
        let is = less_true (rank e) (rank (after e)) less in
        inl (ap (λ b. cond b e (after e)) is, ap (λ b. cond b (after e) e) is, less)
    | inr not ↦
        let is = not_less_false (rank e) (rank (after e)) not in
        inr (ap (λ b. cond b e (after e)) is, ap (λ b. cond b (after e) e) is, omega (arith, not, ranks_differ e h))
  ]

  -- so do the ranks
  pub ranks_are : (e : ℕ) → e < length ranks
      → ((first_rank ranks e ≡ rank e) × (last_rank ranks e ≡ rank (after e))) ⊎ ((first_rank ranks e ≡ rank (after e)) × (last_rank ranks e ≡ rank e))
  ranks_are e h = elim (ends_are e h) [ inl k ↦ inl (ap rank k.0, ap rank k.1) | inr k ↦ inr (ap rank k.0, ap rank k.1) ]

  pub forward : (e : ℕ) → e < length ranks → first_rank ranks e < last_rank ranks e
  forward e h = elim (ends_are e h) [
    | inl k ↦ omega (arith, k.2, ap rank k.0, ap rank k.1)
    | inr k ↦ omega (arith, k.2, ap rank k.0, ap rank k.1)
  ]

  -- both ends are vertices
  pub ends_below : (e : ℕ) → e < length ranks → (first_end ranks e < length ranks) × (last_end ranks e < length ranks)
  ends_below e h =
      let k = next_below (length ranks) e h in
      elim (ends_are e h) [ inl s ↦ (omega (arith, s.0, h), omega (arith, s.1, k)) | inr s ↦ (omega (arith, s.0, k), omega (arith, s.1, h)) ]

  -- the vertex after, counted round
  pub vertex_after : (e : ℕ) → e < length ranks → vertex ring (after e) ≡ vertex ring (e + 1)
  vertex_after e h = elim (next_cases (length ranks) e h) [
    | inl is ↦ ap (vertex ring) is
    | inr k ↦
        let last : e + 1 ≡ length ring = k.1 ∙ are.all_ranks in
        ap (vertex ring) k.0 ∙ sym (vertex_round ring (omega (arith, three))) ∙ ap (vertex ring) (sym last)
  ]

  -- the edge is that of the ring, or that one read backward
  pub edge_is : (e : ℕ) → e < length ranks → (edge_upward ring ranks e ≡ edge_at ring e) ⊎ (edge_upward ring ranks e ≡ reversed (edge_at ring e))
  edge_is e h =
      let to = vertex_after e h in
      elim (ends_are e h) [
        | inl k ↦ inl (rw (k.0, k.1, to) refl)
        | inr k ↦ inr (rw (k.0, k.1, to) refl)
      ]
