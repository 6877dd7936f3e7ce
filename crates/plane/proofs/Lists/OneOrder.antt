-- Lists in order: one more at the end, and that a list in a strict order is the only one with its members.
use Rattle.std.proofs.Common.{◌≡◌, ◌⊎◌, inl, inr, refl, sym, subst, ◌∙◌, ap₂, ℕ, zero, suc, ◌<◌, List, [], ◌∷◌, length, get_or, arith, ◌++◌}
use Rattle.std.proofs.lemmas.Bool.{cases_lt}
use Rattle.std.proofs.lemmas.List.{get_or_default, length_push, get_or_append_left, get_or_push}
use Rattle.std.proofs.lemmas.List.Elements.{Contains-get_or}
use Rattle.std.specs.List.{Contains}

-- a list in order stays so where an element is appended that all others are before
pub ordered_push : {X : Type 0} (R : X → X → Type 0) (xs : List X) (x d : X)
    → ((k l : ℕ) → k < l → l < length xs → R (get_or xs k d) (get_or xs l d)) → ((y : X) → Contains xs y → R y x)
    → (k l : ℕ) → k < l → l < length (xs ++ x ∷ []) → R (get_or (xs ++ x ∷ []) k d) (get_or (xs ++ x ∷ []) l d)
ordered_push {X} R xs x d ordered before k l h in_list =
    let more = length_push xs x in
    let lesser : k < length xs = omega arith in
    let first = get_or_append_left xs (x ∷ []) d k lesser in
    elim (cases_lt l (length xs)) [
      | inl below ↦ rw (first, get_or_append_left xs (x ∷ []) d l below) (ordered k l h below)
      | inr last ↦
          let at : length xs ≡ l = omega arith in
          rw (first, get_or_push xs x d l at) (before (get_or xs k d) (Contains-get_or xs k d lesser))
    ]

module _ {X : Type 0} where
  -- a member of a list is its first element or one of the others
  contains_cases : (x : X) (xs : List X) (y : X) → Contains (x ∷ xs) y → (x ≡ y) ⊎ Contains xs y
  contains_cases x xs y (zero, below, is) = inl is
  contains_cases x xs y (suc k, below, is) = inr (k, omega (arith, below), is)

  contains_first : (x : X) (xs : List X) → Contains (x ∷ xs) x
  contains_first x xs = (0, omega arith, refl)

  contains_other : (x : X) (xs : List X) (y : X) → Contains xs y → Contains (x ∷ xs) y
  contains_other x xs y inside = (suc inside.0, (let h = inside.1 in omega arith), inside.2)

module _ {X : Type 0} (Before : X → X → Type 0) (never : (x : X) → ¬ Before x x) (through : (x y z : X) → Before x y → Before y z → Before x z)
    (d : X) where
  -- each element is before each later one
  abbrev pub IsOrdered : List X → Type 0
  IsOrdered xs = (k l : ℕ) → k < l → l < length xs → Before (get_or xs k d) (get_or xs l d)

  -- so the first is before the others,
  first_before : (x : X) (xs : List X) → IsOrdered (x ∷ xs) → (y : X) → Contains xs y → Before x y
  first_before x xs ordered y inside =
      let below = inside.1 in
      let before : Before x (get_or xs inside.0 d) = ordered 0 (suc inside.0) (omega arith) (omega arith) in
      subst (Before x) (get_or_default xs inside.0 d y below ∙ inside.2) before

  -- the others are in order,
  others_ordered : (x : X) (xs : List X) → IsOrdered (x ∷ xs) → IsOrdered xs
  others_ordered x xs ordered k l h below = ordered (suc k) (suc l) (omega (arith, h)) (omega (arith, below))

  -- and where the first elements are equal, what holds of the members holds of the others
  others_inside : (x y : X) (xs ys : List X) → IsOrdered (x ∷ xs) → x ≡ y → ((z : X) → Contains (x ∷ xs) z → Contains (y ∷ ys) z) → (z : X)
      → Contains xs z → Contains ys z
  others_inside x y xs ys ordered same there z inside = elim (contains_cases y ys z (there z (contains_other x xs z inside))) [
    | inl is ↦ absurd (never z (subst (λ (first : X). Before first z) (same ∙ is) (first_before x xs ordered z inside)))
    | inr other ↦ other
  ]

  -- of two lists with the same members the first elements are equal
  one_first : (x y : X) (xs ys : List X) → IsOrdered (x ∷ xs) → IsOrdered (y ∷ ys) → Contains (y ∷ ys) x → Contains (x ∷ xs) y → x ≡ y
  one_first x y xs ys ordered ordered_too x_inside y_inside = elim (contains_cases x xs y y_inside) [
    | inl is ↦ is
    | inr after ↦ elim (contains_cases y ys x x_inside) [
      | inl is ↦ sym is
      | inr after_too ↦ absurd (never x (through x y x (first_before x xs ordered y after) (first_before y ys ordered_too x after_too)))
    ]
  ]

  pub one_ordered : (xs ys : List X) → IsOrdered xs → IsOrdered ys → ((z : X) → Contains xs z → Contains ys z)
      → ((z : X) → Contains ys z → Contains xs z) → xs ≡ ys
  one_ordered [] [] ordered ordered_too there back = refl
  one_ordered [] (y ∷ ys) ordered ordered_too there back = let h = (back y (contains_first y ys)).1 in absurd (omega arith)
  one_ordered (x ∷ xs) [] ordered ordered_too there back = let h = (there x (contains_first x xs)).1 in absurd (omega arith)
  one_ordered (x ∷ xs) (y ∷ ys) ordered ordered_too there back =
      let same = one_first x y xs ys ordered ordered_too (there x (contains_first x xs)) (back y (contains_first y ys)) in
      ap₂ (λ (first : X) (others : List X). first ∷ others) same
      (one_ordered xs ys (others_ordered x xs ordered) (others_ordered y ys ordered_too)
      (others_inside x y xs ys ordered same there) (others_inside y x ys xs ordered_too (sym same) back))
