-- A search by halves for the place of a funnel from which a point is reached, and what its rounds take.
use Rattle.std.proofs.Common.{◌≡◌, ◌↔◌, refl, sym, ap, subst, ◌∙◌, inl, inr, List, [], length, ℕ, ◌+◌, ◌-◌, ◌*◌, ◌<◌, ◌≤◌, slice_index, arith}
use Rattle.std.proofs.lemmas.Bool.{cases_lt, true≢false}
use Rattle.std.proofs.lemmas.List.{nil_from_length}
use Rattle.std.proofs.lemmas.Nat.{mul-le}
use Rattle.std.specs.Option.{option_or}
use Rattle.std.specs.Prelude.{IfSome, IsNone, None, Option, Some}
use Rattle.plane.specs.Point.{Point, Triple}
use Rattle.funnels.specs.Funnel.{IsPassed}
use Rattle.path_tree.specs.Preceding.{IsPrecededBy}
use Rattle.shared_seq.proofs.Searches.{IsPartOf, after_end, before_is_part, halves_length, middle_is, part_at}
use Rattle.shared_seq.specs.Search.{AreHalves, ListPart}

-- ---- the places

-- the place is at low or later, and before high
pub record IsHalved (ns : List Point) (a : ℕ) (y : Triple) (low high : ℕ) : Type 0 where
  pub some : low < high
  pub inside : high ≤ length ns
  pub passed : 0 < low → IsPassed ns a low y
  pub not_passed : high < length ns → ¬ IsPassed ns a high y

-- at first it may be any
pub halving_starts : (ns : List Point) (a : ℕ) (y : Triple) → 0 < length ns → IsHalved ns a y 0 (length ns)
halving_starts ns a y some = record {
  some = some;
  inside = omega arith;
  passed = λ more. absurd (omega (arith, more));
  not_passed = λ more. absurd (omega (arith, more));
}

-- ---- the part of the numbers that is left

-- a list is halved at the number at place j
module _ (list : List ℕ) (part before after : ListPart) (value j : ℕ) (halves : AreHalves part before value after) (in_list : IsPartOf list part)
    (place : j ≡ after.low - 1) where
  abbrev half : ℕ
  half = length before.items

  there : part.low + half ≡ j
  there = omega (arith, place, halves.after_low)

  pub right_is : value ≡ slice_index list j
  right_is = sym (middle_is part before after value halves list in_list) ∙ ap (slice_index list) there

  -- the number before it is the last one of the half before, or else that before the part,
  pub left_is : (last passed : Option ℕ) → IfSome last (λ number. number ≡ slice_index before.items (half - 1)) → IsNone last ↔ (before.items ≡ [])
      → IsPrecededBy list part.low passed → IsPrecededBy list j (option_or last passed)
  left_is None passed is none known =
      subst (λ k. IsPrecededBy list k passed) (omega (arith, there, ap length (none.0 refl))) known
  left_is (Some number) passed is none known =
      let some : 0 < half = elim (cases_lt 0 half) [
        | inl more ↦ more
        | inr fewer ↦ absurd (true≢false (none.1 (nil_from_length before.items (omega (arith, fewer)))))
      ] in
      let before_in : IsPartOf list before = before_is_part part before after value halves list in_list in (
        omega (arith, there, some),
        is ∙ sym (part_at list before (half - 1) before_in (omega (arith, some)))
            ∙ ap (slice_index list) (omega (arith, there, some, halves.low)),
      )

  -- and it is itself before what comes after it
  pub next_is : IsPrecededBy list after.low (Some value)
  next_is = (omega (arith, halves.after_low), right_is ∙ ap (slice_index list) place)

  -- where the edge before it is passed, or there is none, the place is there or after it, and else before it
  module _ (ns : List Point) (a : ℕ) (y : Triple) (is : IsHalved ns a y (part.low - 1) (part.low + length part.items)) where
    abbrev high : ℕ
    high = part.low + length part.items

    below : j < high
    below = omega (arith, there, halves_length part before after value halves)

    pub is_in_after : (0 < j → IsPassed ns a j y) → IsHalved ns a y (after.low - 1) (after.low + length after.items)
    is_in_after passed =
        subst (IsHalved ns a y (after.low - 1)) (after_end part before after value halves)
        (subst (λ l. IsHalved ns a y l high) place
        (record { some = below; inside = is.inside; passed = passed; not_passed = is.not_passed }))

    pub is_in_before : 0 < j → ¬ IsPassed ns a j y → IsHalved ns a y (before.low - 1) (before.low + half)
    is_in_before more not =
        let e : j ≡ before.low + half = omega (arith, there, halves.low) in
        subst (λ l. IsHalved ns a y (l - 1) (before.low + half)) (sym halves.low)
        (subst (IsHalved ns a y (part.low - 1)) e
        (record { some = omega (arith, more, there); inside = omega (arith, below, is.inside); passed = is.passed; not_passed = λ _. not }))

-- ---- the rounds

-- a level pays for what a round takes: a value, the last one before it, and a turn
paid : (k m : ℕ) → m ≤ k → m * (m + 1) + 2 * (k + 1) ≤ (k + 1) * (k + 1 + 1)
paid k m le = omega (arith, mul-le m (m + 1) k (k + 1) le (omega (arith, le)))

pub round_paid : (l m : ℕ) → m < l → m * (m + 1) + 2 * l ≤ l * (l + 1)
round_paid l m fewer = subst (λ n. m * (m + 1) + 2 * n ≤ n * (n + 1)) (omega (arith, fewer)) (paid (l - 1) m (omega (arith, fewer)))
