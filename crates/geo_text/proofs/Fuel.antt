-- More fuel than the bytes of a text gives no more records.
use Rattle.std.proofs.Common.{◌≡◌, ◌<◌, ◌≤◌, ◌+◌, ◌⊎◌, ℕ, zero, suc, Bool, true, false, Option, Some, None, List, [], ◌∷◌}
use Rattle.std.proofs.Common.{length, refl, ap, subst, inl, inr, arith, add-one}
use Rattle.csv.specs.Machine.{Read, ends_at_end, field_after, fields_after, is_end, next_record, step}
use Rattle.csv.specs.Reading.{records_from, records_next}
use Rattle.csv.specs.declared.parser.Config.{Config}
use Rattle.csv.specs.declared.parser.State.{State}
use Rattle.csv.specs.declared.parser.State.TheVariants as st

-- fewer bytes than before are left, or the text is at its end
pub record Shortens (size : ℕ) (p : Read) : Type 0 where
  pub by : (length p.2 < size) ⊎ ((p.1 ≡ st.StartRecord) × (p.2 ≡ []))

-- the record that was found is the same
found : (p q : Read) (size : ℕ) → ◌≡◌ {A = Option Read} (Some p) (Some q) → Shortens size p → Shortens size q
found p q size e h = let same : p ≡ q = cc in subst (Shortens size) same h

-- one more byte in front
longer : (size : ℕ) (p : Read) → Shortens size p → Shortens (suc size) p
longer size p h = elim h.by [ inl fewer ↦ record { by = inl (omega arith) } | inr ended ↦ record { by = inr ended } ]

-- a record takes a byte, or ends the text
pub record_shortens : (cfg : Config) (s : State) (fields : List (List ℕ)) (field xs : List ℕ) (p : Read)
    → next_record cfg s fields field xs ≡ Some p → Shortens (length xs) p
unfolding next_record
record_shortens cfg s fields field [] p e = at_end (ends_at_end s) refl
  where
    at_end : (b : Bool) → ends_at_end s ≡ b → Shortens 0 p
    at_end true ends = found _ p 0 (rw ends at e) (record { by = inr (refl, refl) })
    at_end false ends = let none = rw ends at e in cc
record_shortens cfg s fields field (c ∷ rest) p e = step_by (is_end (step cfg s c).1) refl (record_shortens cfg (step cfg s c).0 _ _ rest p)
  where
    step_by : (b : Bool) → is_end (step cfg s c).1 ≡ b
        → (next_record cfg (step cfg s c).0 (fields_after (step cfg s c).1 fields field) (field_after (step cfg s c).1 c field) rest ≡ Some p → Shortens (length rest) p)
        → Shortens (suc (length rest)) p
    step_by true ends more = found _ p _ (rw ends at e) (record { by = inl (omega arith) })
    step_by false goes more = longer _ p (more (rw goes at e))

-- at its end a text has no record
pub records_at_end : (cfg : Config) (n : ℕ) → records_from cfg n st.StartRecord [] ≡ []
unfolding records_from next_record
records_at_end cfg zero = refl
records_at_end cfg (suc n) = refl

-- more fuel than bytes is enough
enough_fuel : (cfg : Config) (m n : ℕ) (s : State) (xs : List ℕ) → length xs < m → length xs < n
    → records_from cfg m s xs ≡ records_from cfg n s xs
unfolding records_from
enough_fuel cfg zero n s xs below_m below_n = absurd (omega arith)
enough_fuel cfg (suc m) zero s xs below_m below_n = absurd (omega arith)
enough_fuel cfg (suc m) (suc n) s xs below_m below_n = by_next (next_record cfg s [] [] xs) refl (λ p. enough_fuel cfg m n p.1 p.2)
  where
    by_next : (o : Option Read) → next_record cfg s [] [] xs ≡ o
        → ((p : Read) → length p.2 < m → length p.2 < n → records_from cfg m p.1 p.2 ≡ records_from cfg n p.1 p.2)
        → records_next (records_from cfg m) o ≡ records_next (records_from cfg n) o
    by_next None e more = refl
    by_next (Some p) e more = elim (record_shortens cfg s [] [] xs p e).by [
      | inl fewer ↦ ap (λ (rows : List (List (List ℕ))). p.0 ∷ rows) (more p (omega arith) (omega arith))
      | inr ended ↦ rw (ended.0, ended.1, records_at_end cfg m, records_at_end cfg n) refl
    ]

-- the records of a text are the next one and those after it
pub records_taken : (cfg : Config) (s : State) (xs : List ℕ) (p : Read) → next_record cfg s [] [] xs ≡ Some p
    → records_from cfg (length xs + 1) s xs ≡ p.0 ∷ records_from cfg (length p.2 + 1) p.1 p.2
unfolding records_from
records_taken cfg s xs p e = elim (record_shortens cfg s [] [] xs p e).by [
  | inl fewer ↦ rw (add-one (length xs), e) (ap (λ (rows : List (List (List ℕ))). p.0 ∷ rows) (enough_fuel cfg (length xs) (length p.2 + 1) p.1 p.2 fewer (omega arith)))
  | inr ended ↦ rw (add-one (length xs), e, ended.0, ended.1, records_at_end cfg (length xs), records_at_end cfg 1) refl
]

-- a text with no next record has none
pub records_none : (cfg : Config) (s : State) (xs : List ℕ) → next_record cfg s [] [] xs ≡ None → records_from cfg (length xs + 1) s xs ≡ []
unfolding records_from
records_none cfg s xs e = rw (add-one (length xs), e) refl

-- no more records than fuel
pub length-records_from : (cfg : Config) (n : ℕ) (s : State) (xs : List ℕ) → length (records_from cfg n s xs) ≤ n
unfolding records_from
length-records_from cfg zero s xs = omega arith
length-records_from cfg (suc n) s xs = by_next (next_record cfg s [] [] xs) (λ p. length-records_from cfg n p.1 p.2)
  where
    by_next : (o : Option Read) → ((p : Read) → length (records_from cfg n p.1 p.2) ≤ n) → length (records_next (records_from cfg n) o) ≤ suc n
    by_next None more = omega arith
    by_next (Some p) more = omega (arith, more p)
