-- A ring of two chains that rise from its least vertex to its greatest, one below the other: it is simple and runs
-- counterclockwise.
use Rattle.std.proofs.Common.{◌≡◌, inl, inr, sym, subst, ap, ◌∙◌, ℕ, ◌+◌, ◌-◌, ◌<◌, ◌≤◌, List, length, arith, pos, ◌<ℤ◌}
use Rattle.std.proofs.lemmas.Bool.{cases_lt, cases_order}
use Rattle.integer_algebra.proofs.SignSteps.{positive_not_negative, turned_positive}
use Rattle.plane.proofs.Turns.{determinant_shift_back, determinant_swap_last}
use Rattle.plane.specs.Order.{IsBefore}
use Rattle.plane.specs.Point.{Point, whole}
use Rattle.plane.specs.Turn.{IsLeft, determinant}
use Rattle.rings.proofs.Simple.{simple_of_apart}
use Rattle.rings.proofs.Vertices.{edge_at, edge_number, meet_reversed, meet_swapped}
use Rattle.rings.specs.Apart.{IsApartRing, MeetAtEnds}
use Rattle.rings.specs.Below.{IsBelow}
use Rattle.rings.specs.Edge.{Edge, edge}
use Rattle.rings.specs.Orientation.{turn_at}
use Rattle.rings.specs.Ring.{vertex}
use Rattle.rings.specs.Simple.{IsSimple}
use Rattle.rings.specs.Winding.{IsLeastVertex, RunsCounterclockwise}
use Rattle.ring_laws.proofs.Simple.{simple_ring_law}
use Rattle.sweep_tri.proofs.Pieces.ChainEdges.{differ_along, first_is_least, meet_along, meet_of_below}

-- edge k of a chain
abbrev pub step : (ℕ → Point) → ℕ → Edge
step z k = edge (z k) (z (k + 1))

-- chains of n and m points that rise from one point to another, the first below the second, and share no other point
pub record AreChains (p q : ℕ → Point) (n m : ℕ) : Type 0 where
  pub lower_some : 2 ≤ n
  pub upper_some : 2 ≤ m
  pub lower_rises : (k : ℕ) → k + 1 < n → IsBefore (p k) (p (k + 1))
  pub upper_rises : (k : ℕ) → k + 1 < m → IsBefore (q k) (q (k + 1))
  pub first : p 0 ≡ q 0
  pub last : p (n - 1) ≡ q (m - 1)
  pub differ : (i j : ℕ) → 0 < i → i + 1 < n → 0 < j → j + 1 < m → ¬ (p i ≡ q j)
  pub below : (i j : ℕ) → i + 1 < n → j + 1 < m → IsBefore (p i) (q (j + 1)) → IsBefore (q j) (p (i + 1)) → IsBelow (step p i) (step q j)

-- the ring goes along the first of two chains and back along the second
pub record GoesRound (ring : List Point) (p q : ℕ → Point) (n m : ℕ) : Type 0 where
  pub size : length ring + 2 ≡ n + m
  pub on_lower : (k : ℕ) → k < n → vertex ring k ≡ p k
  pub on_upper : (k j : ℕ) → n ≤ k + 1 → k + j ≡ length ring → vertex ring k ≡ q j

-- edges that meet at ends do by other names
meet_renamed : {d e f g : Edge} → e ≡ d → f ≡ g → MeetAtEnds d g → MeetAtEnds e f
meet_renamed {d} {e} {f} {g} h k meet = subst (MeetAtEnds e) (sym k) (subst (λ c. MeetAtEnds c g) (sym h) meet)

module _ {ring : List Point} {p q : ℕ → Point} {n m : ℕ} (chains : AreChains p q n m) (round : GoesRound ring p q n m) where
  -- ---- different vertices

  distinct : (i j : ℕ) → i < j → j < length ring → ¬ (vertex ring i ≡ vertex ring j)
  distinct i j less within same = elim (cases_lt j n) [
    | inl low ↦
        differ_along p n chains.lower_rises i j less low (sym (round.on_lower i (omega (arith, less, low))) ∙ same ∙ round.on_lower j low)
    | inr high ↦
        let size = round.size in
        let some = chains.upper_some in
        let l : ℕ = length ring - j in
        let is_j = round.on_upper j l (omega arith) (omega arith) in
        elim (cases_lt (i + 1) n) [
          | inr also ↦
              let k : ℕ = length ring - i in
              let is_i = round.on_upper i k (omega arith) (omega arith) in
              differ_along q m chains.upper_rises l k (omega arith) (omega arith) (sym is_j ∙ sym same ∙ is_i)
          | inl low ↦
              let is_i = round.on_lower i (omega arith) in
              elim (cases_lt 0 i) [
                | inl later ↦ chains.differ i l later low (omega arith) (omega arith) (sym is_i ∙ same ∙ is_j)
                | inr none ↦
                    let zero : i ≡ 0 = omega arith in
                    differ_along q m chains.upper_rises 0 l (omega arith) (omega arith)
                    (sym chains.first ∙ ap p (sym zero) ∙ sym is_i ∙ same ∙ is_j)
              ]
        ]
  ]

  -- ---- edges that share no more than their ends

  -- an edge is one of the lower chain,
  edge_lower : (k : ℕ) → k + 1 < n → edge_at ring k ≡ step p k
  edge_lower k within = λ i. edge (round.on_lower k (omega arith) i) (round.on_lower (k + 1) within i)

  -- or one of the upper chain, read backward
  edge_upper : (k j : ℕ) → n ≤ k + 1 → k + 1 + j ≡ length ring → edge_at ring k ≡ edge (q (j + 1)) (q j)
  edge_upper k j high is = λ i. edge (round.on_upper k (j + 1) high (omega arith) i) (round.on_upper (k + 1) j (omega arith) is i)

  -- edges of the two chains
  meet_between : (i j : ℕ) → i + 1 < n → j + 1 < m → MeetAtEnds (step p i) (step q j)
  meet_between i j low high =
      meet_of_below (step p i) (step q j) (chains.lower_rises i low) (chains.upper_rises j high) (chains.below i j low high)

  meets : (i j : ℕ) → i < j → j < length ring → MeetAtEnds (edge_at ring i) (edge_at ring j)
  meets i j less within = elim (cases_lt (j + 1) n) [
    | inl low ↦ meet_renamed (edge_lower i (omega arith)) (edge_lower j low) (meet_along p n chains.lower_rises i j less low)
    | inr high ↦
        let size = round.size in
        let some = chains.upper_some in
        let l : ℕ = length ring - (j + 1) in
        let is_j = edge_upper j l high (omega arith) in
        elim (cases_lt (i + 1) n) [
          | inl low ↦ meet_renamed (edge_lower i low) is_j (meet_reversed (step p i) (step q l) (meet_between i l low (omega arith)))
          | inr also ↦
              let k : ℕ = length ring - (i + 1) in
              let is_i = edge_upper i k also (omega arith) in
              let forward = meet_along q m chains.upper_rises l k (omega arith) (omega arith) in
              let half = meet_swapped (step q l) (edge (q (k + 1)) (q k)) (meet_reversed (step q l) (step q k) forward) in
              meet_renamed is_i is_j (meet_reversed (edge (q (k + 1)) (q k)) (step q l) half)
        ]
  ]

  is_apart : IsApartRing ring
  is_apart = record {
    distinct = distinct;
    apart = λ e f has_e has_f.
        let (i, i_within, is_e) = edge_number ring e has_e in
        let (j, j_within, is_f) = edge_number ring f has_f in
        elim (cases_order i j) [
          | inl same ↦ inl (sym is_e ∙ ap (edge_at ring) same ∙ is_f)
          | inr (inl less) ↦ inr (meet_renamed (sym is_e) (sym is_f) (meets i j less j_within))
          | inr (inr less) ↦ inr (meet_swapped f e (meet_renamed (sym is_f) (sym is_e) (meets j i less i_within)))
        ];
  }

  -- so the ring is simple
  pub simple_of_chains : IsSimple ring
  simple_of_chains = simple_of_apart ring is_apart

  -- ---- its direction

  -- the first edges
  first_below : IsBelow (step p 0) (step q 0)
  first_below =
      let some_lower = chains.lower_some in
      let some_upper = chains.upper_some in
      let up = chains.upper_rises 0 (omega arith) in
      let low = chains.lower_rises 0 (omega arith) in
      chains.below 0 0 (omega arith) (omega arith) (rw chains.first up) (rw (sym chains.first) low)

  -- there are three vertices or more, since these edges differ
  pub three_of_chains : 3 ≤ length ring
  three_of_chains = elim (cases_lt (length ring) 3) [
    | inr three ↦ omega arith
    | inl few ↦
        let size = round.size in
        let some_lower = chains.lower_some in
        let some_upper = chains.upper_some in
        let two : n - 1 ≡ 1 = omega arith in
        let also : m - 1 ≡ 1 = omega arith in
        absurd (first_below.differ chains.first (sym (ap p two) ∙ chains.last ∙ ap q also))
  ]

  -- no vertex is before the first one
  least : IsLeastVertex ring 0
  least j within h =
      let size = round.size in
      let some_lower = chains.lower_some in
      let some_upper = chains.upper_some in
      let start = round.on_lower 0 (omega arith) in
      elim (cases_lt j n) [
        | inl low ↦ first_is_least p n chains.lower_rises j low (rw (round.on_lower j low, start) at h)
        | inr high ↦
            let l : ℕ = length ring - j in
            let is_j = round.on_upper j l (omega arith) (omega arith) in
            first_is_least q m chains.upper_rises l (omega arith) (rw (is_j, start, chains.first) at h)
      ]

  -- the second vertex of the upper chain is above the first edge of the lower one
  upper_left : IsLeft (whole (p 0)) (whole (p 1)) (whole (q 1))
  upper_left = elim first_below.finish [
    | inl (inl left) ↦ left
    | inl (inr right) ↦
        turned_positive (determinant_swap_last (whole (p 0)) (whole (q 1)) (whole (p 1)))
        (subst (λ (r : Point). determinant (whole r) (whole (q 1)) (whole (p 1)) <ℤ pos 0) (sym chains.first) right)
    | inr same ↦ absurd (first_below.differ chains.first same)
  ]

  -- so the ring turns left there
  turns_left : pos 0 <ℤ turn_at ring 0
  turns_left =
      let size = round.size in
      let some_lower = chains.lower_some in
      let some_upper = chains.upper_some in
      let before : vertex ring (0 + (length ring - 1)) ≡ q 1 = round.on_upper (0 + (length ring - 1)) 1 (omega arith) (omega arith) in
      let at : vertex ring 0 ≡ p 0 = round.on_lower 0 (omega arith) in
      let after : vertex ring (0 + 1) ≡ p 1 = round.on_lower (0 + 1) (omega arith) in
      let turn : turn_at ring 0 ≡ determinant (whole (p 0)) (whole (p 1)) (whole (q 1)) =
      (λ i. determinant (whole (before i)) (whole (at i)) (whole (after i))) ∙ determinant_shift_back (whole (p 0)) (whole (p 1)) (whole (q 1)) in
      subst (λ z. pos 0 <ℤ z) (sym turn) upper_left

  -- and runs counterclockwise
  pub counterclockwise_of_chains : RunsCounterclockwise ring
  counterclockwise_of_chains = elim (simple_ring_law ring three_of_chains simple_of_chains 0 (omega (arith, three_of_chains)) least) [
    | inl h ↦ h.1
    | inr h ↦ absurd (positive_not_negative turns_left h.0)
  ]
