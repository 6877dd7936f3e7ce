-- What the parse of a command line takes, and what it finds.
use Rattle.std.proofs.Common.{◌≡◌, ◌⊎◌, inl, inr, refl, sym, subst, ◌∙◌, Bool, true, false, cond, List, [], ◌∷◌, ◌++◌, codes, Option, Some, None}
use Rattle.std.proofs.Common.{fold, bytes_eq}
use Rattle.std.proofs.lemmas.Bool.{or_parts}
use Rattle.clap.specs.Faults.{fault_of, settle_fault, turn_fault, walk_fault}
use Rattle.clap.specs.Kinds.{or_else, value_kinds}
use Rattle.clap.specs.ValueTests.{accepts}
use Rattle.clap.specs.Walk.{Row, Text, Waiting, Walk, finished, idle, nothing_held, option, reading_by, walk, walk_from, walked}
use Rattle.clap.specs.Words.{built, matches_of}
use Rattle.clap.specs.declared.error.kind.ErrorKind.TheVariants as kind
use Rattle.clap.proofs.FaultLemmas.{leaf_fault}
use Rattle.clap.specs.declared.parser.matches.ValueSource.TheVariants.{CommandLine}
use Rattle.geo_words.specs.CommandLine.{comb_command, comb_reader, has_dashes}
use Rattle.geo_words.proofs.Turns.{Turn, at, both_pass, comb, held, joined, named, no_fault_is, options, top, turn, valued}

-- what is found of the option with this value
abbrev pub found : Text → Row
found text = record { id = codes "comb"; values = text ∷ []; count = None; source = Some CommandLine; reading = reading_by comb }

-- the words ask for nothing, or give the option a value that its reader takes
pub data IsRead (words : List Text) (rows : List Row) : Type 0 where
  nothing : words ≡ [] → rows ≡ [] → IsRead words rows
  given : (text : Text) → (words ≡ codes "--comb" ∷ text ∷ []) ⊎ (words ≡ (codes "--comb=" ++ text) ∷ [])
      → accepts false comb_reader text ≡ true → rows ≡ found text ∷ [] → IsRead words rows

accepted : (text : Text) → or_else (value_kinds false comb_reader text) [] ≡ [] → accepts false comb_reader text ≡ true
accepted text = go (accepts false comb_reader text)
  where
    go : (b : Bool) → or_else (cond b [] (kind.ValueValidation ∷ [])) [] ≡ [] → b ≡ true
    go true h = refl
    go false h = absurd (no_fault_is h)

module _ (rows : List Row) (pending : Option (Text × List Text)) (waiting : Waiting) (word : Text) (words : List Text) (other : bytes_eq word (codes "--") ≡ false) where
  next_turn : walk_fault top [] (at (held rows pending) waiting) (word ∷ words) ≡ []
      → Turn (held rows pending) waiting word (walked options [] (at (held rows pending) waiting) word) × (walk_fault top [] (walked options [] (at (held rows pending) waiting) word) words ≡ [])
  unfolding walk_fault
  next_turn f =
      let parts = both_pass (turn_fault top [] (at (held rows pending) waiting) word) (walk_fault top [] (walked options [] (at (held rows pending) waiting) word) words) f in
      (turn rows pending word waiting other parts.0, parts.1)

-- some fault comes from here on
abbrev Fails : List Text → Walk → Type 0
Fails words w = walk_fault top [] w words ≡ [] → settle_fault options false (fold (walked options []) w words).held ≡ [] → ⊥

-- where none comes from here on, this is what all the words are read as
abbrev Reads : List Text → List Text → Walk → Type 0
Reads all words w = walk_fault top [] w words ≡ [] → settle_fault options false (fold (walked options []) w words).held ≡ [] → IsRead all (finished options (fold (walked options []) w words).held)

-- the option stands there a second time, with a value,
twice_with_value : (first second : Text) (words : List Text) → has_dashes words ≡ false → Fails words (at (held (found first ∷ []) (Some (codes "comb", second ∷ []))) idle)
twice_with_value first second [] d f g = no_fault_is g
twice_with_value first second (word ∷ words) d f g = go (next_turn (found first ∷ []) (Some (codes "comb", second ∷ [])) idle word words (or_parts _ _ d).0 f).0
  where
    go : {after : Walk} → Turn (held (found first ∷ []) (Some (codes "comb", second ∷ []))) idle word after → ⊥
    go (joined text is f s) = no_fault_is f
    go (named is f s) = no_fault_is f
    go (valued s) = s

-- or without one
twice : (first : Text) (words : List Text) → has_dashes words ≡ false → Fails words (at (held (found first ∷ []) (Some (codes "comb", []))) (option (codes "comb")))
twice first [] d f g = no_fault_is g
twice first (word ∷ words) d f g =
    let step = next_turn (found first ∷ []) (Some (codes "comb", [])) (option (codes "comb")) word words (or_parts _ _ d).0 f in
    go _ step.0 step.1 g
  where
    go : (after : Walk) → Turn (held (found first ∷ []) (Some (codes "comb", []))) (option (codes "comb")) word after → Fails words after
    go after (joined text is f s) = absurd (no_fault_is f)
    go after (named is f s) = absurd (no_fault_is f)
    go after (valued s) = subst (Fails words) (sym s) (twice_with_value first word words (or_parts _ _ d).1)

-- a word after the one word with a value
after_joined : (first word : Text) (words : List Text) → has_dashes (word ∷ words) ≡ false → Fails (word ∷ words) (at (held (found first ∷ []) None) idle)
after_joined first word words d f g =
    let step = next_turn (found first ∷ []) None idle word words (or_parts _ _ d).0 f in
    go _ step.0 step.1 g
  where
    go : (after : Walk) → Turn (held (found first ∷ []) None) idle word after → Fails words after
    go after (joined text is f s) = absurd (no_fault_is f)
    go after (named is f s) = subst (Fails words) (sym s) (twice first words (or_parts _ _ d).1)
    go after (valued s) = absurd s

-- a word after the two words
after_value : (first word : Text) (words : List Text) → has_dashes (word ∷ words) ≡ false → Fails (word ∷ words) (at (held [] (Some (codes "comb", first ∷ []))) idle)
after_value first word words d f g =
    let step = next_turn [] (Some (codes "comb", first ∷ [])) idle word words (or_parts _ _ d).0 f in
    go _ step.0 step.1 g
  where
    go : (after : Walk) → Turn (held [] (Some (codes "comb", first ∷ []))) idle word after → Fails words after
    go after (joined text is f s) = absurd (no_fault_is (both_pass (settle_fault options false (held [] (Some (codes "comb", first ∷ [])))) _ f).1)
    go after (named is f s) = subst (Fails words) (sym s) (twice first words (or_parts _ _ d).1)
    go after (valued s) = absurd s

-- the second word is a value, and the last word
value_read : (text : Text) (words : List Text) → has_dashes words ≡ false → Reads (codes "--comb" ∷ text ∷ words) words (at (held [] (Some (codes "comb", text ∷ []))) idle)
value_read text [] d f g = given text (inl refl) (accepted text g) refl
value_read text (word ∷ words) d f g = absurd (after_value text word words d f g)

-- there is a second word
name_read : (words : List Text) → has_dashes words ≡ false → Reads (codes "--comb" ∷ words) words (at (held [] (Some (codes "comb", []))) (option (codes "comb")))
name_read [] d f g = absurd (no_fault_is g)
name_read (word ∷ words) d f g =
    let step = next_turn [] (Some (codes "comb", [])) (option (codes "comb")) word words (or_parts _ _ d).0 f in
    go _ step.0 step.1 g
  where
    go : (after : Walk) → Turn (held [] (Some (codes "comb", []))) (option (codes "comb")) word after → Reads (codes "--comb" ∷ word ∷ words) words after
    go after (joined text is f s) = absurd (no_fault_is f)
    go after (named is f s) = absurd (no_fault_is f)
    go after (valued s) = subst (Reads (codes "--comb" ∷ word ∷ words) words) (sym s) (value_read word words (or_parts _ _ d).1)

-- the first word has a value, and is the last word
joined_read : (text : Text) (words : List Text) → has_dashes words ≡ false → accepts false comb_reader text ≡ true → Reads ((codes "--comb=" ++ text) ∷ words) words (at (held (found text ∷ []) None) idle)
joined_read text [] d a f g = given text (inr refl) a refl
joined_read text (word ∷ words) d a f g = absurd (after_joined text word words d f g)

words_read : (words : List Text) → has_dashes words ≡ false → Reads words words (walk_from nothing_held)
words_read [] d f g = nothing refl refl
words_read (word ∷ words) d f g =
    let step = next_turn [] None idle word words (or_parts _ _ d).0 f in
    go _ step.0 step.1 g
  where
    go : (after : Walk) → Turn (held [] None) idle word after → Reads (word ∷ words) words after
    go after (joined text is f s) =
        subst (λ w. Reads (word ∷ words) words w) (sym s)
        (subst (λ (w : Text). Reads (w ∷ words) words (at (held (found text ∷ []) None) idle)) (sym is) (joined_read text words (or_parts _ _ d).1 (accepted text f)))
    go after (named is f s) =
        subst (λ w. Reads (word ∷ words) words w) (sym s)
        (subst (λ (w : Text). Reads (w ∷ words) words (at (held [] (Some (codes "comb", []))) (option (codes "comb")))) (sym is) (name_read words (or_parts _ _ d).1))
    go after (valued s) = absurd s

-- words without `--` that the parser takes are read so
pub taken_is_read : (words : List Text) → has_dashes words ≡ false → fault_of comb_command words ≡ [] → IsRead words (matches_of comb_command words)
taken_is_read words d f =
    let level = sym (leaf_fault (built comb_command) nothing_held words refl) ∙ f in
    let first = both_pass (walk_fault top [] (walk_from nothing_held) words) _ level in
    let second = both_pass (settle_fault options false (walk options [] nothing_held words).held) _ first.1 in
    words_read words d first.0 second.0
