-- Sums over the edges of a ring, each with a sign: where the signs agree, and where all are 1 or -1.
-- The signs of the edges of a ring before and after an event: just those of the edges that begin there are new.
use Rattle.std.proofs.Common.{◌≡◌, inl, inr, refl, sym, ap, ◌∙◌, ℕ, zero, suc, ◌+◌, ◌-◌, ◌<◌, ◌≤◌, ℤ, pos, negsuc, ◌+ℤ◌, ◌-ℤ◌, ◌*ℤ◌, neg_ℤ}
use Rattle.std.proofs.Common.{if◌then◌else◌, nat_lt, length, get_or, arith, ◌⊎◌, nat_eq, List}
use Rattle.std.proofs.lemmas.Bool.{cases_lt, cases_eq}
use Rattle.std.proofs.lemmas.Int.{ints}
use Rattle.std.proofs.lemmas.List.FromFn.{get_or-range_with_len, length-range_with_len}
use Rattle.std.specs.List.{range_with_len}
use Rattle.std.specs.Prelude.{slice_index}
use Rattle.integer_algebra.proofs.Laws.{neg-mul}
use Rattle.plane.proofs.Lists.{range_more}
use Rattle.plane.specs.Point.{Point}
use Rattle.rings.proofs.Sweeps.{event_of, forward, next_below, next_differs, next_of_previous, previous_below, previous_of_next, ranks_are}
use Rattle.rings.specs.Events.{next, AreEvents, first_rank, previous}
use Rattle.meshes.specs.Boundary.{IsOdd, sum_along, sum_round}
use Rattle.ring_laws.proofs.Ears.{IsUnit}
use Rattle.sweep_tri.proofs.Balance.Along.{along_push}
use Rattle.sweep_tri.specs.Gaps.{last}
use Rattle.sweep_tri.specs.Sums.{sum_edges, AreSigns}

-- the number after one that is not the last, and after the last
pub next_inside : (n m : ℕ) → m + 1 < n → next n m ≡ m + 1
next_inside n m h = grind arith

pub next_at_end : (n m : ℕ) → m + 1 ≡ n → next n m ≡ 0
next_at_end n m h = grind arith

-- the last of n + 1 numbers
last_number : (n : ℕ) → last (range_with_len 0 (n + 1)) ≡ n
last_number n =
    let size = length-range_with_len 0 (n + 1) in
    let at : length (range_with_len 0 (n + 1)) - 1 ≡ n = omega (arith, size) in
    omega (arith, ap (λ i. get_or (range_with_len 0 (n + 1)) i 0) at, get_or-range_with_len 0 (n + 1) n 0 (omega arith))

module _ (φ : ℕ → ℕ → ℤ) (n : ℕ) where
  -- the sum over the first edges goes by their signs alone
  pub sums_agree : (signs others : ℕ → ℤ) (m : ℕ) → ((e : ℕ) → e < m → others e ≡ signs e) → sum_edges φ others n m ≡ sum_edges φ signs n m
  sums_agree signs others zero same = refl
  sums_agree signs others (suc m) same =
      let top = ap (λ s. s *ℤ φ m (next n m)) (same m (omega arith)) in
      omega (arith, ints, top, sums_agree signs others m (λ e h. same e (omega (arith, h))))

  -- where all are 0, so is the sum
  pub sums_none : (m : ℕ) → sum_edges φ (λ e. pos 0) n m ≡ pos 0
  sums_none zero = refl
  sums_none (suc m) = omega (arith, ints, sums_none m)

  -- where all signs are 1, that before the last edge is the sum along the numbers,
  along_edges : (m : ℕ) → m < n → sum_edges φ (λ e. pos 1) n m ≡ sum_along φ (range_with_len 0 (m + 1))
  along_edges zero h = refl
  along_edges (suc m) h =
      let numbers = range_with_len 0 (m + 1) in
      let step : φ m (next n m) ≡ φ m (m + 1) = ap (φ m) (next_inside n m (omega (arith, h))) in
      let up : suc m + 1 ≡ (m + 1) + 1 = omega arith in
      let longer = ap (λ k. sum_along φ (range_with_len 0 k)) up ∙ ap (sum_along φ) (range_more (m + 1)) in
      let pushed = along_push φ numbers (m + 1) (omega (arith, length-range_with_len 0 (m + 1))) in
      let from_end : φ (last numbers) (m + 1) ≡ φ m (m + 1) = ap (λ i. φ i (m + 1)) (last_number m) in
      omega (arith, ints, along_edges m (omega (arith, h)), step, longer, pushed, from_end)

  -- and that over all edges the sum round
  pub edges_round : 1 ≤ n → sum_edges φ (λ e. pos 1) n n ≡ sum_round φ (range_with_len 0 n)
  edges_round some =
      let m = n - 1 in
      let all : n ≡ suc m = omega (arith, some) in
      let numbers = range_with_len 0 (suc m) in
      let count : suc m ≡ m + 1 = omega arith in
      let along = along_edges m (omega (arith, some)) ∙ ap (λ k. sum_along φ (range_with_len 0 k)) (sym count) in
      let step : φ m (next n m) ≡ φ m 0 = ap (φ m) (next_at_end n m (omega (arith, some))) in
      let pushed : sum_round φ numbers ≡ sum_along φ numbers +ℤ φ (last numbers) 0 =
      along_push φ numbers 0 (omega (arith, length-range_with_len 0 (suc m))) in
      let end = ap (λ k. last (range_with_len 0 k)) count ∙ last_number m in
      let from_end : φ (last numbers) 0 ≡ φ m 0 = ap (λ i. φ i 0) end in
      ap (sum_edges φ (λ e. pos 1) n) all
      ∙ omega (arith, ints, along, step, pushed, from_end)
      ∙ ap (λ k. sum_round φ (range_with_len 0 k)) (sym all)

  -- the sum with the opposite signs
  pub sums_opposite : (signs others : ℕ → ℤ) (m : ℕ) → ((e : ℕ) → e < m → others e ≡ neg_ℤ (signs e))
      → sum_edges φ others n m ≡ neg_ℤ (sum_edges φ signs n m)
  sums_opposite signs others zero same = refl
  sums_opposite signs others (suc m) same =
      let top = ap (λ s. s *ℤ φ m (next n m)) (same m (omega arith)) in
      let turned : neg_ℤ (signs m) *ℤ φ m (next n m) ≡ neg_ℤ (signs m *ℤ φ m (next n m)) = neg-mul (signs m) (φ m (next n m)) in
      omega (arith, ints, top, turned, sums_opposite signs others m (λ e h. same e (omega (arith, h))))

-- ---- growth

-- 1 at the numbers up to m, and 0 beyond
abbrev step_at : ℕ → ℕ → ℤ
step_at m i = if nat_lt m i then pos 0 else pos 1

-- its growth from one number to another
abbrev pub growth_at : ℕ → ℕ → ℕ → ℤ
growth_at m i j = step_at m j -ℤ step_at m i

pub growth_odd : (m : ℕ) → IsOdd (growth_at m)
growth_odd m i j = omega (arith, ints)

step_up_to : (m i : ℕ) → i ≤ m → step_at m i ≡ pos 1
step_up_to m i h = grind arith

step_beyond : (m i : ℕ) → m < i → step_at m i ≡ pos 0
step_beyond m i h = grind arith

module _ (n : ℕ) (signs : ℕ → ℤ) (m : ℕ) (inside : m + 1 < n) where
  -- over the edges before m the sum is 0,
  before_step : (k : ℕ) → k ≤ m → sum_edges (growth_at m) signs n k ≡ pos 0
  before_step zero h = refl
  before_step (suc k) h =
      let to = ap (step_at m) (next_inside n k (omega (arith, h, inside))) ∙ step_up_to m (k + 1) (omega (arith, h)) in
      let none : growth_at m k (next n k) ≡ pos 0 = omega (arith, ints, to, step_up_to m k (omega (arith, h))) in
      let top = ap (λ z. signs k *ℤ z) none in
      omega (arith, ints, top, before_step k (omega (arith, h)))

  -- beyond them it is that of edge m alone,
  beyond_step : (k : ℕ) → m < k → k < n → sum_edges (growth_at m) signs n k ≡ neg_ℤ (signs m)
  beyond_step zero h below = absurd (omega (arith, h))
  beyond_step (suc k) h below =
      let to = ap (step_at m) (next_inside n k (omega (arith, below))) ∙ step_beyond m (k + 1) (omega (arith, h)) in
      elim (cases_lt m k) [
        | inl less ↦
            let none : growth_at m k (next n k) ≡ pos 0 = omega (arith, ints, to, step_beyond m k less) in
            let top = ap (λ z. signs k *ℤ z) none in
            omega (arith, ints, top, beyond_step k less (omega (arith, below)))
        | inr most ↦
            let here : m ≡ k = omega (arith, h, most) in
            let fall : growth_at m k (next n k) ≡ negsuc 0 = omega (arith, ints, to, step_up_to m k most) in
            let top = ap (λ z. signs k *ℤ z) fall in
            let same = ap signs here in
            omega (arith, ints, top, same, before_step k most)
      ]

  -- and over all edges that of the last edge and edge m
  pub around_step : (k : ℕ) → k + 1 ≡ n → sum_edges (growth_at m) signs n n ≡ signs k -ℤ signs m
  around_step k end =
      let all : sum_edges (growth_at m) signs n n ≡ sum_edges (growth_at m) signs n (suc k) =
      ap (sum_edges (growth_at m) signs n) (let s : n ≡ suc k = omega (arith, end) in s) in
      let to = ap (step_at m) (next_at_end n k end) ∙ step_up_to m 0 (omega arith) in
      let rise : growth_at m k (next n k) ≡ pos 1 = omega (arith, ints, to, step_beyond m k (omega (arith, inside, end))) in
      let top = ap (λ z. signs k *ℤ z) rise in
      omega (arith, ints, all, top, beyond_step k (omega (arith, inside, end)) (omega (arith, end)))

-- ---- one sign put in the place of another

-- the sign of each edge, that of one being s
abbrev pub placed : (ℕ → ℤ) → ℕ → ℤ → ℕ → ℤ
placed signs e s i = if nat_eq i e then s else signs i

pub placed_same : (signs : ℕ → ℤ) (e : ℕ) (s : ℤ) → placed signs e s e ≡ s
placed_same signs e s = grind arith

pub placed_other : (signs : ℕ → ℤ) (e : ℕ) (s : ℤ) (i : ℕ) → ¬ (i ≡ e) → placed signs e s i ≡ signs i
placed_other signs e s i other = grind arith

module _ (φ : ℕ → ℕ → ℤ) (n : ℕ) (signs : ℕ → ℤ) (e : ℕ) (s : ℤ) where
  -- the sum with a sign s in the place of 0
  pub sums_placed : signs e ≡ pos 0 → (m : ℕ) → e < m → sum_edges φ (placed signs e s) n m ≡ sum_edges φ signs n m +ℤ (s *ℤ φ e (next n e))
  sums_placed none zero h = absurd (omega (arith, h))
  sums_placed none (suc m) h = elim (cases_eq m e) [
    | inl is ↦
        let now = ap (λ i. placed signs e s i *ℤ φ i (next n i)) is ∙ ap (λ z. z *ℤ φ e (next n e)) (placed_same signs e s) in
        let before = ap (λ i. signs i *ℤ φ i (next n i)) is ∙ ap (λ z. z *ℤ φ e (next n e)) none in
        let rest = sums_agree φ n signs (placed signs e s) m (λ i below. placed_other signs e s i (λ same. omega (arith, below, same, is))) in
        omega (arith, ints, now, before, rest)
    | inr other ↦
        let now = ap (λ z. z *ℤ φ m (next n m)) (placed_other signs e s m other) in
        omega (arith, ints, now, sums_placed none m (omega (arith, h, other)))
  ]

-- ---- the edges that begin at an event

module _ (corners : List Point) (order ranks : List ℕ) (are : AreEvents corners order ranks) (three : 3 ≤ length corners)
    (k : ℕ) (within : k < length corners) where
  abbrev pub event : ℕ
  event = slice_index order k

  abbrev pub before : ℕ
  before = previous (length ranks) event

  abbrev pub after : ℕ
  after = next (length ranks) event

  abbrev pub IsLater : ℕ → Type 0
  IsLater w = k < slice_index ranks w

  -- the vertex of the event and those beside it
  pub event_below : event < length ranks
  event_below = let size = are.all_ranks in let h = are.vertices k 0 (omega (arith, within, are.all_events)) in omega (arith, h, size)

  pub before_is_edge : before < length ranks
  before_is_edge = previous_below (length ranks) event event_below

  pub edge_before : next (length ranks) before ≡ event
  edge_before = next_of_previous (length ranks) event event_below

  pub before_differs : ¬ (before ≡ event)
  before_differs same =
      next_differs (length ranks) event event_below (let size = are.all_ranks in omega (arith, three, size))
      (ap (next (length ranks)) (sym same) ∙ edge_before)

  pub rank_is : slice_index ranks event ≡ k
  rank_is = (are.each k within).rank_of_event

  -- an edge that begins there goes to a later vertex beside it
  pub begins_at : (e : ℕ) → e < length ranks → first_rank ranks e ≡ k → ((e ≡ event) × IsLater after) ⊎ ((e ≡ before) × IsLater before)
  begins_at e h is =
      let later = forward corners order ranks are three e h in
      let to = next (length ranks) e in
      elim (ranks_are corners order ranks are three e h) [
        | inl r ↦
            let here : e ≡ event = sym (event_of corners order ranks are three e h) ∙ ap (slice_index order) (sym r.0 ∙ is) in
            let beyond = ap (λ i. slice_index ranks (next (length ranks) i)) here in
            inl (here, omega (arith, later, is, r.1, beyond))
        | inr r ↦
            let there : to ≡ event =
            sym (event_of corners order ranks are three to (next_below (length ranks) e h)) ∙ ap (slice_index order) (sym r.0 ∙ is) in
            let here : e ≡ before = sym (previous_of_next (length ranks) e h) ∙ ap (previous (length ranks)) there in
            inr (here, omega (arith, later, is, r.1, ap (slice_index ranks) here))
      ]

  -- and edges to later vertices beside it do begin there
  pub next_begins : IsLater after → first_rank ranks event ≡ k
  next_begins h =
      let later = forward corners order ranks are three event event_below in
      elim (ranks_are corners order ranks are three event event_below) [
        | inl r ↦ r.0 ∙ rank_is
        | inr r ↦ absurd (omega (arith, h, later, r.0, r.1, rank_is))
      ]

  pub previous_begins : IsLater before → first_rank ranks before ≡ k
  previous_begins h =
      let later = forward corners order ranks are three before before_is_edge in
      let there = ap (slice_index ranks) edge_before ∙ rank_is in
      elim (ranks_are corners order ranks are three before before_is_edge) [
        | inl r ↦ absurd (omega (arith, h, later, r.0, r.1, there))
        | inr r ↦ r.0 ∙ there
      ]

  -- signs that stay, but for those of the edges that begin there, are those before the next event
  pub signs_after : (signs others : ℕ → ℤ) → AreSigns ranks k signs → ((e : ℕ) → e < length ranks → ¬ (first_rank ranks e ≡ k) → others e ≡ signs e)
      → ((e : ℕ) → e < length ranks → first_rank ranks e ≡ k → IsUnit (others e)) → AreSigns ranks (k + 1) others
  signs_after signs others old kept new = record {
    begun = λ e h up_to. elim (cases_eq (first_rank ranks e) k) [
      | inl is ↦ new e h is
      | inr other ↦ rw (kept e h other) (old.begun e h (omega (arith, up_to, other)))
    ];
    to_come = λ e h beyond.
        kept e h (λ is. omega (arith, is, beyond)) ∙ old.to_come e h (omega (arith, beyond));
  }
