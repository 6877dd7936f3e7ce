-- The status before and after an event: what the edges at its vertex do, and no other.
use Rattle.std.proofs.Common.{◌≡◌, ◌⊎◌, inl, inr, sym, ap, ◌∙◌, ℕ, ◌+◌, ◌<◌, ◌≤◌, List, length, arith}
use Rattle.std.proofs.lemmas.Bool.{cases_eq}
use Rattle.std.specs.Prelude.{slice_index}
use Rattle.plane.specs.Point.{Point}
use Rattle.rings.proofs.Sweeps.Swept.{one_other, one_self}
use Rattle.rings.proofs.Sweeps.Events.{event_of, forward, next_below, next_differs, next_of_previous, previous_below, previous_of_next, ranks_are}
use Rattle.rings.specs.Events.{AreEvents, first_rank, last_rank, next, previous}
use Rattle.rings.specs.Status.{IsCounted, IsStacked, IsStatus, one, times}

-- ---- one edge, between the ranks r and s of its ends

abbrev IsBetween : (first last r s : ℕ) → Type 0
IsBetween first last r s = ((first ≡ r) × (last ≡ s)) ⊎ ((first ≡ s) × (last ≡ r))

module _ (k first last t t' : ℕ) (c : IsCounted k first last t) where
  -- where the event is at neither end, it stays as it is
  stays : (r s : ℕ) → IsBetween first last r s → ¬ (r ≡ k) → ¬ (s ≡ k) → t' ≡ t → IsCounted (k + 1) first last t'
  stays r s ends nr ns e =
      let not_first : ¬ (first ≡ k) = elim ends [ inl h ↦ (λ f. nr (sym h.0 ∙ f)) | inr h ↦ (λ f. ns (sym h.0 ∙ f)) ] in
      let not_last : ¬ (last ≡ k) = elim ends [ inl h ↦ (λ f. ns (sym h.1 ∙ f)) | inr h ↦ (λ f. nr (sym h.1 ∙ f)) ] in
      record {
        there = λ a b. e ∙ c.there (omega (arith, a, not_first)) (omega arith);
        begins_later = λ a. e ∙ c.begins_later (omega arith);
        ended = λ a. e ∙ c.ended (omega (arith, a, not_last));
      }

  -- where it is at one end, the rank of the other tells whether the edge leaves or enters
  changes : (r : ℕ) → IsBetween first last r k → first < last → (r < k → t' + 1 ≡ t) → (k < r → t' ≡ t + 1) → IsCounted (k + 1) first last t'
  changes r (inl h) up leaves enters =
      let was = c.there (omega (arith, up, h.1)) (omega (arith, h.1)) in
      let out = leaves (omega (arith, up, h.0, h.1)) in
      record {
        there = λ a b. absurd (omega (arith, b, h.1));
        begins_later = λ a. absurd (omega (arith, a, up, h.1));
        ended = λ a. omega (arith, was, out);
      }
  changes r (inr h) up leaves enters =
      let was = c.begins_later (omega (arith, h.0)) in
      let into = enters (omega (arith, up, h.0, h.1)) in
      record {
        there = λ a b. omega (arith, was, into);
        begins_later = λ a. absurd (omega (arith, a, h.0));
        ended = λ a. absurd (omega (arith, a, up, h.0));
      }

-- ---- event k, at vertex v between the vertices u and w

module _ (ring : List Point) (events ranks : List ℕ) (are : AreEvents ring events ranks) (three : 3 ≤ length ring) (k : ℕ) (within : k < length ring) where
  abbrev rank : ℕ → ℕ
  rank v = slice_index ranks v

  abbrev pub v : ℕ
  v = slice_index events k

  abbrev pub u : ℕ
  u = previous (length ranks) v

  abbrev pub w : ℕ
  w = next (length ranks) v

  v_below : v < length ranks
  v_below = let size = are.all_ranks in omega (arith, size, are.vertices k 0 (omega (arith, within, are.all_events)))

  u_below : u < length ranks
  u_below = previous_below (length ranks) v v_below

  rank_v : rank v ≡ k
  rank_v = (are.each k within).rank_of_event

  after_u : next (length ranks) u ≡ v
  after_u = next_of_previous (length ranks) v v_below

  u_differs : ¬ (u ≡ v)
  u_differs e = let size = are.all_ranks in next_differs (length ranks) u u_below (omega (arith, three, size)) (after_u ∙ sym e)

  -- only vertex v has this rank,
  is_v : (x : ℕ) → x < length ranks → rank x ≡ k → x ≡ v
  is_v x h same = sym (event_of ring events ranks are three x h) ∙ ap (slice_index events) same

  -- so only edges u and v have an end there
  not_at_event : (x : ℕ) → x < length ranks → ¬ (x ≡ u) → ¬ (x ≡ v) → (¬ (rank x ≡ k)) × (¬ (rank (next (length ranks) x) ≡ k))
  not_at_event x h not_u not_v = (
    λ same. not_v (is_v x h same),
    λ same. not_u (sym (previous_of_next (length ranks) x h) ∙ ap (previous (length ranks)) (is_v (next (length ranks) x) (next_below (length ranks) x h) same)),
  )

  -- edge u goes between u and v, edge v between w and v
  u_between : IsBetween (first_rank ranks u) (last_rank ranks u) (rank u) k
  u_between =
      let end = ap rank after_u ∙ rank_v in
      elim (ranks_are ring events ranks are three u u_below) [ inl b ↦ inl (b.0, b.1 ∙ end) | inr b ↦ inr (b.0 ∙ end, b.1) ]

  v_between : IsBetween (first_rank ranks v) (last_rank ranks v) (rank w) k
  v_between = elim (ranks_are ring events ranks are three v v_below) [ inl b ↦ inr (b.0 ∙ rank_v, b.1) | inr b ↦ inl (b.0, b.1 ∙ rank_v) ]

  module _ (status status' : List ℕ) (here : IsStatus ring ranks k status) (stacked : IsStacked ring ranks status') where
    -- how often each edge is there, before and after
    passed : (rank u < k → times u status' + 1 ≡ times u status) → (k < rank u → times u status' ≡ times u status + 1)
        → (rank w < k → times v status' + 1 ≡ times v status) → (k < rank w → times v status' ≡ times v status + 1)
        → ((x : ℕ) → ¬ (x ≡ u) → ¬ (x ≡ v) → times x status' ≡ times x status) → IsStatus ring ranks (k + 1) status'
    passed u_out u_in v_out v_in others = record { stacked = stacked; counted = counted }
      where
        counted : (x : ℕ) → x < length ranks → IsCounted (k + 1) (first_rank ranks x) (last_rank ranks x) (times x status')
        counted x h = elim (cases_eq x u) [
          | inl is ↦
              rw is
              (changes k (first_rank ranks u) (last_rank ranks u) (times u status) (times u status') (here.counted u u_below)
              (rank u) u_between (forward ring events ranks are three u u_below) u_out u_in)
          | inr not_u ↦ elim (cases_eq x v) [
            | inl is ↦
                rw is
                (changes k (first_rank ranks v) (last_rank ranks v) (times v status) (times v status') (here.counted v v_below)
                (rank w) v_between (forward ring events ranks are three v v_below) v_out v_in)
            | inr not_v ↦
                let n = not_at_event x h not_u not_v in
                stays k (first_rank ranks x) (last_rank ranks x) (times x status) (times x status') (here.counted x h)
                (rank x) (rank (next (length ranks) x)) (ranks_are ring events ranks are three x h) n.0 n.1 (others x not_u not_v)
          ]
        ]

    -- what an edge counts for itself and for the other
    ones : (one u u ≡ 1) × (one u v ≡ 0) × (one v u ≡ 0) × (one v v ≡ 1)
    ones = (one_self u, one_other u v (λ e. u_differs (sym e)), one_other v u u_differs, one_self v)

    -- and for a third
    none : (x : ℕ) → ¬ (x ≡ u) → ¬ (x ≡ v) → (one x u ≡ 0) × (one x v ≡ 0)
    none x not_u not_v = (one_other x u (λ e. not_u (sym e)), one_other x v (λ e. not_v (sym e)))

    -- both edges leave
    pub both_leave : rank u < k → rank w < k → ((x : ℕ) → times x status' + one x v + one x u ≡ times x status) → IsStatus ring ranks (k + 1) status'
    both_leave hu hw e =
        passed (λ a. omega (arith, e u, ones.0, ones.1)) (λ a. absurd (omega (arith, a, hu)))
        (λ a. omega (arith, e v, ones.2, ones.3)) (λ a. absurd (omega (arith, a, hw)))
        (λ x nu nv. let n = none x nu nv in omega (arith, e x, n.0, n.1))

    -- edge v follows edge u
    pub v_follows : rank u < k → k ≤ rank w → ((x : ℕ) → times x status' + one x u ≡ times x status + one x v) → IsStatus ring ranks (k + 1) status'
    v_follows hu hw e =
        passed (λ a. omega (arith, e u, ones.0, ones.1)) (λ a. absurd (omega (arith, a, hu)))
        (λ a. absurd (omega (arith, a, hw))) (λ a. omega (arith, e v, ones.2, ones.3))
        (λ x nu nv. let n = none x nu nv in omega (arith, e x, n.0, n.1))

    -- edge u follows edge v
    pub u_follows : k ≤ rank u → rank w < k → ((x : ℕ) → times x status' + one x v ≡ times x status + one x u) → IsStatus ring ranks (k + 1) status'
    u_follows hu hw e =
        passed (λ a. absurd (omega (arith, a, hu))) (λ a. omega (arith, e u, ones.0, ones.1))
        (λ a. omega (arith, e v, ones.2, ones.3)) (λ a. absurd (omega (arith, a, hw)))
        (λ x nu nv. let n = none x nu nv in omega (arith, e x, n.0, n.1))

    -- both edges enter
    pub both_enter : k ≤ rank u → k ≤ rank w → ((x : ℕ) → times x status' ≡ times x status + one x u + one x v) → IsStatus ring ranks (k + 1) status'
    both_enter hu hw e =
        passed (λ a. absurd (omega (arith, a, hu))) (λ a. omega (arith, e u, ones.0, ones.1))
        (λ a. absurd (omega (arith, a, hw))) (λ a. omega (arith, e v, ones.2, ones.3))
        (λ x nu nv. let n = none x nu nv in omega (arith, e x, n.0, n.1))
