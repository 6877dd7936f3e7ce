-- The records of texts that are joined at the end of a record.
use Rattle.std.proofs.Common.{◌≡◌, ◌≢◌, ◌∙◌, ◌<◌, ◌+◌, ◌==◌, ◌||◌, ℕ, zero, suc, Bool, true, false, if◌then◌else◌, Option, Some, None, List, [], ◌∷◌}
use Rattle.std.proofs.Common.{◌++◌, length, map, refl, sym, ap, inl, inr, arith}
use Rattle.std.proofs.lemmas.Bool.{cases_eq, ne_eqb}
use Rattle.std.proofs.lemmas.List.{map-append}
use Rattle.geo_text.proofs.Fuel.{record_shortens, records_at_end}
use Rattle.geo_text.specs.Records.{AreWhole, later_records_of, records_of, reader_after, without_blanks}
use Rattle.csv.specs.Machine.{Read, ends_at_end, field_after, fields_after, in_field, is_end, next_record, start_record, step}
use Rattle.csv.specs.Reading.{default_config, is_bom, records, records_from, records_next, strip_bom}
use Rattle.csv.specs.declared.parser.Action.{Action}
use Rattle.csv.specs.declared.parser.Action.TheVariants as act
use Rattle.csv.specs.declared.parser.State.{State}
use Rattle.csv.specs.declared.parser.State.TheVariants as st

-- the records of a text in one walk over its bytes, from a state on, with the fields and the bytes of the field at hand
abbrev walk : State → List (List ℕ) → List ℕ → List ℕ → List (List (List ℕ))
walk s fields field [] = if ends_at_end s then (fields ++ field ∷ []) ∷ [] else []
walk s fields field (c ∷ rest) =
    if is_end (step default_config s c).1 then fields_after (step default_config s c).1 fields field ∷ walk (step default_config s c).0 [] [] rest
    else walk (step default_config s c).0 (fields_after (step default_config s c).1 fields field) (field_after (step default_config s c).1 c field) rest

-- the first of them, and then those after it
next_walk : (s : State) (fields : List (List ℕ)) (field xs : List ℕ)
    → records_next (λ t ys. walk t [] [] ys) (next_record default_config s fields field xs) ≡ walk s fields field xs
unfolding next_record
next_walk s fields field [] = by_end (ends_at_end s)
  where
    by_end : (b : Bool) → records_next (λ t ys. walk t [] [] ys) (if b then Some (fields ++ field ∷ [], st.StartRecord, []) else None)
        ≡ (if b then (fields ++ field ∷ []) ∷ [] else [])
    by_end true = refl
    by_end false = refl
next_walk s fields field (c ∷ rest) = by_step (is_end (step default_config s c).1) _ _ _ (next_walk (step default_config s c).0 _ _ rest)
  where
    by_step : (b : Bool) (t : State) (fields' : List (List ℕ)) (field' : List ℕ)
        → records_next (λ u ys. walk u [] [] ys) (next_record default_config t fields' field' rest) ≡ walk t fields' field' rest
        → records_next (λ u ys. walk u [] [] ys) (if b then Some (fields', t, rest) else next_record default_config t fields' field' rest)
        ≡ (if b then fields' ∷ walk t [] [] rest else walk t fields' field' rest)
    by_step true t fields' field' more = refl
    by_step false t fields' field' more = more

-- they are all that fuel for each byte and one more finds
all_walked : (n : ℕ) (s : State) (xs : List ℕ) → length xs < n → records_from default_config n s xs ≡ walk s [] [] xs
unfolding records_from
all_walked zero s xs h = absurd (omega arith)
all_walked (suc n) s xs h = by_next (next_record default_config s [] [] xs) refl (next_walk s [] [] xs) (λ p. all_walked n p.1 p.2)
  where
    by_next : (o : Option Read) → next_record default_config s [] [] xs ≡ o → records_next (λ t ys. walk t [] [] ys) o ≡ walk s [] [] xs
        → ((p : Read) → length p.2 < n → records_from default_config n p.1 p.2 ≡ walk p.1 [] [] p.2)
        → records_next (records_from default_config n) o ≡ walk s [] [] xs
    by_next None e is more = is
    by_next (Some p) e is more = elim (record_shortens default_config s [] [] xs p e).by [
      | inl fewer ↦ rw (more p (omega arith)) is
      | inr ended ↦ rw (ended.0, ended.1, records_at_end default_config n) (rw (ended.0, ended.1) at is)
    ]

records_walked : (xs : List ℕ) → records default_config xs ≡ walk st.StartRecord [] [] xs
records_walked xs = all_walked (length xs + 1) st.StartRecord xs (omega arith)

-- between two records nothing is at hand
abbrev IsBetween : State → List (List ℕ) → List ℕ → Type 0
IsBetween st.StartRecord fields field = (fields ≡ []) × (field ≡ [])
IsBetween st.AfterCr fields field = (fields ≡ []) × (field ≡ [])
IsBetween st.InComment fields field = (fields ≡ []) × (field ≡ [])
IsBetween st.StartField fields field = Unit {0}
IsBetween st.InField fields field = Unit {0}
IsBetween st.InQuoted fields field = Unit {0}
IsBetween st.AfterQuote fields field = Unit {0}
IsBetween st.InEscape fields field = Unit {0}

none_between : (s : State) → IsBetween s [] []
none_between st.StartRecord = (refl, refl)
none_between st.AfterCr = (refl, refl)
none_between st.InComment = (refl, refl)
none_between st.StartField = tt
none_between st.InField = tt
none_between st.InQuoted = tt
none_between st.AfterQuote = tt
none_between st.InEscape = tt

module _ (fields : List (List ℕ)) (field : List ℕ) (c : ℕ) where
  -- where a byte ends no record, so it is after it
  abbrev Stays : State × Action → Type 0
  Stays to = is_end to.1 ≡ false → IsBetween to.0 (fields_after to.1 fields field) (field_after to.1 c field)

  stays_in_field : Stays (in_field default_config c)
  stays_in_field = by_tests (c == 44) ((c == 13) || (c == 10)) _
    where
      by_tests : (p q : Bool) (s : State) → Stays (if p then (st.StartField, act.EndField) else if q then (s, act.EndRecord) else (st.InField, act.Copy))
      by_tests true q s goes = tt
      by_tests false true s goes = cc
      by_tests false false s goes = tt

  stays_choice : (b : Bool) (one other : State × Action) → Stays one → Stays other → Stays (if b then one else other)
  stays_choice true one other first second = first
  stays_choice false one other first second = second

  stays_start_record : (fields ≡ []) × (field ≡ []) → Stays (start_record default_config c)
  stays_start_record none =
      stays_choice ((c == 13) || (c == 10)) _ _ (λ goes. none) (stays_choice (c == 34) _ _ (λ goes. tt) stays_in_field)

  stays_between : (s : State) → IsBetween s fields field → Stays (step default_config s c)
  stays_between st.StartRecord none = stays_start_record none
  stays_between st.AfterCr none = stays_choice (c == 10) _ _ (λ goes. none) (stays_start_record none)
  stays_between st.InComment none = stays_choice (c == 10) _ _ (λ goes. none) (λ goes. none)
  stays_between st.StartField any = stays_choice (c == 34) _ _ (λ goes. tt) stays_in_field
  stays_between st.InField any = stays_in_field
  stays_between st.InQuoted any = stays_choice (c == 34) _ _ (λ goes. tt) (λ goes. tt)
  stays_between st.AfterQuote any = stays_choice (c == 34) _ _ (λ goes. tt) stays_in_field
  stays_between st.InEscape any = λ goes. tt

-- after a carriage return a text goes on as a new one would
same_after_cr : (ys : List ℕ) → walk st.AfterCr [] [] ys ≡ walk st.StartRecord [] [] ys
same_after_cr [] = refl
same_after_cr (c ∷ rest) =
    ap (λ (to : State × Action). if is_end to.1 then fields_after to.1 [] [] ∷ walk to.0 [] [] rest else walk to.0 (fields_after to.1 [] []) (field_after to.1 c []) rest)
    (by_tests (c == 13) (c == 10) _)
  where
    by_tests : (p q : Bool) (to : State × Action) → ◌≡◌ {A = State × Action} (if q then (st.StartRecord, act.Skip) else if p || q then (st.StartRecord, act.Skip) else to)
        (if p || q then (st.StartRecord, act.Skip) else to)
    by_tests true true to = refl
    by_tests true false to = refl
    by_tests false true to = refl
    by_tests false false to = refl

-- so the records of two texts are those of both together, where the first one ends at the end of a record
walk_joined : (s : State) (fields : List (List ℕ)) (field xs ys : List ℕ) → IsBetween s fields field → ends_at_end (reader_after s xs) ≡ false
    → walk s fields field (xs ++ ys) ≡ walk s fields field xs ++ walk st.StartRecord [] [] ys
walk_joined st.StartRecord fields field [] ys none ended = rw (none.0, none.1) refl
walk_joined st.AfterCr fields field [] ys none ended = rw (none.0, none.1) (same_after_cr ys)
walk_joined st.InComment fields field [] ys none ended = absurd cc
walk_joined st.StartField fields field [] ys any ended = absurd cc
walk_joined st.InField fields field [] ys any ended = absurd cc
walk_joined st.InQuoted fields field [] ys any ended = absurd cc
walk_joined st.AfterQuote fields field [] ys any ended = absurd cc
walk_joined st.InEscape fields field [] ys any ended = absurd cc
walk_joined s fields field (c ∷ xs) ys between ended =
    by_step (is_end (step default_config s c).1) _ _ _ (walk_joined (step default_config s c).0 [] [] xs ys (none_between (step default_config s c).0) ended)
    (λ goes. walk_joined (step default_config s c).0 _ _ xs ys (stays_between fields field c s between goes) ended)
  where
    by_step : (b : Bool) (t : State) (fields' : List (List ℕ)) (field' : List ℕ) → walk t [] [] (xs ++ ys) ≡ walk t [] [] xs ++ walk st.StartRecord [] [] ys
        → (b ≡ false → walk t fields' field' (xs ++ ys) ≡ walk t fields' field' xs ++ walk st.StartRecord [] [] ys)
        → (if b then fields' ∷ walk t [] [] (xs ++ ys) else walk t fields' field' (xs ++ ys))
        ≡ (if b then fields' ∷ walk t [] [] xs else walk t fields' field' xs) ++ walk st.StartRecord [] [] ys
    by_step true t fields' field' ended_here on = ap (λ (rows : List (List (List ℕ))). fields' ∷ rows) ended_here
    by_step false t fields' field' ended_here on = on refl

-- a mark is at the front of a text alone
strip_none : (c : ℕ) (bytes : List ℕ) → c ≢ 239 → strip_bom (c ∷ bytes) ≡ c ∷ bytes
unfolding strip_bom
strip_none c [] other = refl
strip_none c (d ∷ []) other = refl
strip_none c (d ∷ e ∷ rest) other = rw (ne_eqb c 239 other) refl

strip_joined : (c : ℕ) (xs ys : List ℕ) → AreWhole (c ∷ xs) → strip_bom (c ∷ xs ++ ys) ≡ strip_bom (c ∷ xs) ++ ys
unfolding strip_bom
strip_joined c [] ys whole = elim (cases_eq c 239) [
  | inl mark ↦ let open_field = rw mark at whole in cc
  | inr other ↦ strip_none c ys other
]
strip_joined c (d ∷ []) [] whole = refl
strip_joined c (d ∷ []) (e ∷ ys) whole = elim (cases_eq c 239) [
  | inl first ↦ elim (cases_eq d 187) [
    | inl second ↦ let open_field = rw (first, second) at whole in cc
    | inr other ↦ rw (first, ne_eqb d 187 other) refl
  ]
  | inr other ↦ rw (ne_eqb c 239 other) refl
]
strip_joined c (d ∷ e ∷ xs) ys whole = by_mark (is_bom c d e)
  where
    by_mark : (mark : Bool) → (if mark then xs ++ ys else c ∷ d ∷ e ∷ xs ++ ys) ≡ (if mark then xs else c ∷ d ∷ e ∷ xs) ++ ys
    by_mark true = refl
    by_mark false = refl

-- a line feed at the front is no record
pub records_after_line_feed : (bytes : List ℕ) → records_of (10 ∷ bytes) ≡ later_records_of bytes
records_after_line_feed bytes = ap (map (λ fields. map without_blanks fields))
    (rw (strip_none 10 bytes (λ e. absurd (omega (arith, e)))) (records_walked (10 ∷ bytes) ∙ sym (records_walked bytes)))

-- a text that ends at the end of a record, and then another one
pub records_joined : (c : ℕ) (xs ys : List ℕ) → AreWhole (c ∷ xs) → records_of (c ∷ xs ++ ys) ≡ records_of (c ∷ xs) ++ later_records_of ys
records_joined c xs ys whole =
    let text = strip_bom (c ∷ xs) in
    let both : records default_config (strip_bom (c ∷ xs ++ ys)) ≡ records default_config text ++ records default_config ys =
    rw (strip_joined c xs ys whole, records_walked (text ++ ys), records_walked text, records_walked ys)
    (walk_joined st.StartRecord [] [] text ys (refl, refl) whole)
    in
    ap (map (λ fields. map without_blanks fields)) both ∙ map-append (λ fields. map without_blanks fields) (records default_config text) (records default_config ys)

-- no bytes have no records
pub no_later_records : later_records_of [] ≡ []
no_later_records = ap (map (λ fields. map without_blanks fields)) (records_walked [])

pub no_records : records_of [] ≡ []
unfolding strip_bom
no_records = no_later_records
