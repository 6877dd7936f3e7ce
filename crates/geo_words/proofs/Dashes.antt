-- A word that begins with two hyphens is its name, and its value if it has one.
use Rattle.std.proofs.Common.{◌≡◌, ◌+◌, ◌==◌, ◌||◌, refl, sym, ap, ap₂, ◌∙◌, ℕ, suc, Bool, true, false, cond, not, true≢false, List, [], ◌∷◌, ◌++◌, take, drop, Option, Some, None, is_some, eqb-true, arith, unwrap_or, option_and_then}
use Rattle.std.specs.List.{after_first, before_first, list_any, position_or_len}
use Rattle.clap.specs.Lexer.{long_of, long_of_rest, name_and_value, strip_byte}

-- the name, and then `=` and the value if there is one
abbrev pub spelled : List ℕ × Option (List ℕ) → List ℕ
spelled (name, None) = name
spelled (name, Some value) = name ++ 61 ∷ value

pub some_is_not_none : {X : Type 0} {x : X} → None ≡ Some x → ⊥
some_is_not_none e = true≢false (sym (ap is_some e))

pub some_is : {X : Type 0} (x y : X) → Some x ≡ Some y → x ≡ y
some_is x y e = ap (λ o. unwrap_or o x) e

-- what stands before the first `=`, the `=`, and what stands after it
rejoined : (text : List ℕ) → list_any (λ x. x == 61) text ≡ true → before_first (λ x. x == 61) text ++ 61 ∷ after_first (λ x. x == 61) text ≡ text
rejoined [] h = absurd (true≢false (sym h))
rejoined (x ∷ xs) h = go (x == 61) refl h (rejoined xs)
  where
    one_more : (n k : ℕ) → n ≡ suc k → take k xs ++ 61 ∷ drop (k + 1) xs ≡ xs → take n (x ∷ xs) ++ 61 ∷ drop (n + 1) (x ∷ xs) ≡ x ∷ xs
    one_more n k e same = let next : n + 1 ≡ suc (k + 1) = omega arith in rw (next, e) (ap (λ l. x ∷ l) same)

    go : (b : Bool) → (x == 61) ≡ b → (b || list_any (λ y. y == 61) xs) ≡ true
        → (list_any (λ y. y == 61) xs ≡ true → take (position_or_len (λ y. y == 61) xs) xs ++ 61 ∷ drop (position_or_len (λ y. y == 61) xs + 1) xs ≡ xs)
        → take (cond (not b) (1 + position_or_len (λ y. y == 61) xs) 0) (x ∷ xs) ++ 61 ∷ drop (cond (not b) (1 + position_or_len (λ y. y == 61) xs) 0 + 1) (x ∷ xs) ≡ x ∷ xs
    go true e has same = ap (λ y. y ∷ xs) (sym (eqb-true x 61 e))
    go false e has same = one_more (1 + position_or_len (λ y. y == 61) xs) (position_or_len (λ y. y == 61) xs) (omega arith) (same has)

without : (text : List ℕ) → list_any (λ x. x == 61) text ≡ false → before_first (λ x. x == 61) text ≡ text
without [] h = refl
without (x ∷ xs) h = go (x == 61) h (without xs)
  where
    one_more : (n k : ℕ) → n ≡ suc k → take k xs ≡ xs → take n (x ∷ xs) ≡ x ∷ xs
    one_more n k e same = rw e (ap (λ l. x ∷ l) same)

    go : (b : Bool) → (b || list_any (λ y. y == 61) xs) ≡ false → (list_any (λ y. y == 61) xs ≡ false → take (position_or_len (λ y. y == 61) xs) xs ≡ xs)
        → take (cond (not b) (1 + position_or_len (λ y. y == 61) xs) 0) (x ∷ xs) ≡ x ∷ xs
    go true lacks same = absurd (true≢false lacks)
    go false lacks same = one_more (1 + position_or_len (λ y. y == 61) xs) (position_or_len (λ y. y == 61) xs) (omega arith) (same lacks)

split_back : (text : List ℕ) → text ≡ spelled (name_and_value text)
split_back text = go (list_any (λ x. x == 61) text) refl
  where
    go : (b : Bool) → list_any (λ x. x == 61) text ≡ b → text ≡ spelled (before_first (λ x. x == 61) text, cond b (Some (after_first (λ x. x == 61) text)) None)
    go true e = sym (rejoined text e)
    go false e = sym (without text e)

rest_back : (rest : List ℕ) (p : List ℕ × Option (List ℕ)) → long_of_rest rest ≡ Some p → rest ≡ spelled p
rest_back [] p h = absurd (some_is_not_none h)
rest_back (x ∷ xs) p h = split_back (x ∷ xs) ∙ ap spelled (some_is (name_and_value (x ∷ xs)) p h)

after_hyphen : (word : List ℕ) (p : List ℕ × Option (List ℕ)) → option_and_then long_of_rest (strip_byte 45 word) ≡ Some p → word ≡ 45 ∷ spelled p
after_hyphen [] p h = absurd (some_is_not_none h)
after_hyphen (c ∷ rest) p h = go (c == 45) refl h
  where
    go : (b : Bool) → (c == 45) ≡ b → option_and_then long_of_rest (cond b (Some rest) None) ≡ Some p → c ∷ rest ≡ 45 ∷ spelled p
    go true e h = ap₂ (λ d l. d ∷ l) (eqb-true c 45 e) (rest_back rest p h)
    go false e h = absurd (some_is_not_none h)

pub long_back : (word : List ℕ) (p : List ℕ × Option (List ℕ)) → long_of word ≡ Some p → word ≡ 45 ∷ 45 ∷ spelled p
long_back [] p h = absurd (some_is_not_none h)
long_back (c ∷ rest) p h = go (c == 45) refl h
  where
    go : (b : Bool) → (c == 45) ≡ b → option_and_then long_of_rest (option_and_then (strip_byte 45) (cond b (Some rest) None)) ≡ Some p → c ∷ rest ≡ 45 ∷ 45 ∷ spelled p
    go true e h = ap₂ (λ d l. d ∷ l) (eqb-true c 45 e) (after_hyphen rest p h)
    go false e h = absurd (some_is_not_none h)
