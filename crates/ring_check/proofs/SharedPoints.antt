-- When two edges share a point other than the vertex where they follow one another, and when they are the least to clash.
use Rattle.std.proofs.Common.{◌≡◌, inl, inr, ℕ, ◌+◌, ◌<◌, ◌≤◌, ◌↔◌, Bool, true, false, IsTrue, List, length, refl, subst, sym, arith}
use Rattle.std.specs.Prelude.{not}
use Rattle.plane.specs.Point.{Point, whole}
use Rattle.plane.specs.Segment.{Meet, MeetElsewhere, MeetOnlyAt, On}
use Rattle.rings.proofs.Vertices.{vertex_after_last}
use Rattle.rings.specs.Ring.{vertex}
use Rattle.rings.specs.Simple.{Clash, HasEqualEnds, IsLeastClash, SharesPoint}
use Rattle.edge_index.specs.Candidates.{IsLeftOut}

module _ (ring : List Point) (three : 3 ≤ length ring) where
  -- edges that follow one another
  pub shared_after : (i : ℕ) → MeetElsewhere (whole (vertex ring i)) (whole (vertex ring (i + 1))) (whole (vertex ring (i + 1 + 1))) → SharesPoint ring i (i + 1)
  shared_after i meet = record {
    point = meet.point;
    rational = meet.rational;
    on_first = meet.on_first;
    on_second = meet.on_second;
    not_between = λ _. meet.elsewhere;
    not_round = λ first last _. omega arith;
  }

  pub apart_after : (i : ℕ) → MeetOnlyAt (whole (vertex ring i)) (whole (vertex ring (i + 1))) (whole (vertex ring (i + 1 + 1))) → ¬ (SharesPoint ring i (i + 1))
  apart_after i only shared = shared.not_between (omega arith) (only shared.point shared.rational shared.on_first shared.on_second)

  -- the last edge and the first
  pub shared_round : (j : ℕ) → j + 1 ≡ length ring → 1 < j → MeetElsewhere (whole (vertex ring j)) (whole (vertex ring 0)) (whole (vertex ring 1)) → SharesPoint ring 0 j
  shared_round j last apart meet = record {
    point = meet.point;
    rational = meet.rational;
    on_first = meet.on_second;
    on_second = subst (λ (v : Point). On meet.point (whole (vertex ring j)) (whole v)) (sym (vertex_after_last ring j last)) meet.on_first;
    not_between = λ next _. omega arith;
    not_round = λ _ _. meet.elsewhere;
  }

  pub apart_round : (j : ℕ) → j + 1 ≡ length ring → MeetOnlyAt (whole (vertex ring j)) (whole (vertex ring 0)) (whole (vertex ring 1)) → ¬ (SharesPoint ring 0 j)
  apart_round j last only shared =
      let on_last = subst (λ (v : Point). On shared.point (whole (vertex ring j)) (whole v)) (vertex_after_last ring j last) shared.on_second in
      shared.not_round (omega arith) last (only shared.point shared.rational on_last shared.on_first)

pub meet_of_shared : (ring : List Point) (i j : ℕ) → SharesPoint ring i j
    → Meet (whole (vertex ring i)) (whole (vertex ring (i + 1))) (whole (vertex ring j)) (whole (vertex ring (j + 1)))
meet_of_shared ring i j shared = record {
  point = shared.point;
  rational = shared.rational;
  on_first = shared.on_first;
  on_second = shared.on_second;
}

-- an edge with two ends clashes with none above it that an index leaves out
pub clear_of_left_out : (ring : List Point) (i e : ℕ) → (HasEqualEnds ring i → ⊥) → IsLeftOut ring i e → i < e → Clash ring i e → ⊥
clear_of_left_out ring i e differ (inl not_above) below clash = absurd (omega (arith, not_above, below))
clear_of_left_out ring i e differ (inr h) below clash = elim clash [
  | inl equal ↦ differ equal
  | inr (inl equal) ↦ h.differ equal
  | inr (inr shared) ↦ h.apart (meet_of_shared ring i e shared)
]

-- a test that fails exactly where there is such a point
pub fails_where : {P : Type 0} (test : Bool) → (test ≡ false → P) → (test ≡ true → ¬ P) → IsTrue (not test) ↔ P
fails_where true found absent = (λ h. absurd (cc h), λ p. absurd (absent refl p))
fails_where false found absent = (λ _. found refl, λ _. refl)

-- a clash is the least one where no edge before its first clashes, and its first clashes with none before its second
pub least_from : (ring : List Point) (i j : ℕ) → i < j → j < length ring → Clash ring i j
    → ((k l : ℕ) → k < i → k < l → l < length ring → Clash ring k l → ⊥)
    → ((l : ℕ) → i < l → l < j → Clash ring i l → ⊥) → IsLeastClash ring i j
least_from ring i j in_order in_ring clash none_before none_between = record {
  in_order = in_order;
  in_ring = in_ring;
  clash = clash;
  least = λ k l order within lesser clash. elim lesser [
    | inl above ↦ none_before k l above order within clash
    | inr here ↦ none_between l (omega (arith, here, order)) here.1 (rw here.0 at clash)
  ];
}
