-- The first numbers with a class: one number more, what they are, and how many of them there are.
use Rattle.std.proofs.Common.{◌≡◌, ◌≢◌, inl, inr, refl, sym, ap, subst, ◌∙◌, ℕ, zero, suc, ◌+◌, ◌<◌, ◌↔◌, Bool}
use Rattle.std.proofs.Common.{append-nil, cond, eq-eqb, ne_eqb, List, [], ◌∷◌, ◌++◌, length, length-append, arith}
use Rattle.std.proofs.lemmas.Bool.{cases_eq}
use Rattle.std.proofs.lemmas.List.{map-id}
use Rattle.std.proofs.lemmas.List.Elements.{Contains-append_left, Contains-push, Contains-push_cases}
use Rattle.std.proofs.lemmas.List.FromFn.{filter_of_map_range_with_len_more}
use Rattle.std.specs.List.{Contains, range_with_len}
use Rattle.std.specs.Prelude.{◌==◌, filter}
use Rattle.ring_check.specs.Oriented.{Oriented, given_index}
use Rattle.guards3.specs.Guards.{class_of}

-- the numbers below n that pass a test, with one number more
filter_more : (p : ℕ → Bool) (n : ℕ) → filter p (range_with_len 0 (n + 1)) ≡ filter p (range_with_len 0 n) ++ cond (p n) (n ∷ []) []
filter_more p n =
    ap (filter p) (sym (map-id (range_with_len 0 (n + 1))))
    ∙ filter_of_map_range_with_len_more p (λ x. x) 0 n n (omega arith)
    ∙ ap (λ xs. filter p xs ++ cond (p n) (n ∷ []) []) (map-id (range_with_len 0 n))

-- what holds of 0, and of a number more where it holds, holds of all
by_number : (P : ℕ → Type 0) → P 0 → ((n : ℕ) → P n → P (n + 1)) → (n : ℕ) → P n
by_number P first step zero = first
by_number P first step (suc n) = let is : n + 1 ≡ suc n = omega arith in subst P is (step n (by_number P first step n))

module _ (f : ℕ → ℕ) where
  -- the numbers below n with this class
  abbrev pub of_class : ℕ → ℕ → List ℕ
  of_class class n = filter (λ x. f x == class) (range_with_len 0 n)

  -- one more that has it,
  pub of_class_more : (class n : ℕ) → f n ≡ class → of_class class (n + 1) ≡ of_class class n ++ n ∷ []
  of_class_more class n has =
      filter_more (λ x. f x == class) n ∙ ap (λ b. of_class class n ++ cond b (n ∷ []) []) (eq-eqb (f n) class has)

  -- and one that has another
  pub of_class_same : (class n : ℕ) → f n ≢ class → of_class class (n + 1) ≡ of_class class n
  of_class_same class n not =
      filter_more (λ x. f x == class) n ∙ ap (λ b. of_class class n ++ cond b (n ∷ []) []) (ne_eqb (f n) class not) ∙ append-nil (of_class class n)

  -- how many there are with one number more
  length_more : (class n : ℕ) → f n ≡ class → length (of_class class (n + 1)) ≡ length (of_class class n) + 1
  length_more class n has = ap length (of_class_more class n has) ∙ length-append (of_class class n) (n ∷ [])

  length_same : (class n : ℕ) → f n ≢ class → length (of_class class (n + 1)) ≡ length (of_class class n)
  length_same class n not = ap length (of_class_same class n not)

  -- a number with the class is there, as soon as it can be
  abbrev IsThere : ℕ → ℕ → ℕ → Type 0
  IsThere class x n = x < n → f x ≡ class → Contains (of_class class n) x

  pub member_of : (class n x : ℕ) → IsThere class x n
  member_of class n x = by_number (IsThere class x) (λ below has. absurd (omega arith)) step n
    where
      step : (m : ℕ) → IsThere class x m → IsThere class x (m + 1)
      step m before below has = elim (cases_eq x m) [
        | inl this ↦
            let at_m : f m ≡ class = ap f (sym this) ∙ has in
            rw (of_class_more class m at_m, this) (Contains-push (of_class class m) m)
        | inr other ↦ elim (cases_eq (f m) class) [
          | inl more ↦ rw (of_class_more class m more) (Contains-append_left (of_class class m) (m ∷ []) x (before (omega arith) has))
          | inr same ↦ rw (of_class_same class m same) (before (omega arith) has)
        ]
      ]

  -- and no other
  abbrev IsNoOther : ℕ → ℕ → ℕ → Type 0
  IsNoOther class x n = Contains (of_class class n) x → (x < n) × (f x ≡ class)

  pub class_of_member : (class n x : ℕ) → IsNoOther class x n
  class_of_member class n x = by_number (IsNoOther class x) (λ (k, within, is). absurd (omega arith)) step n
    where
      step : (m : ℕ) → IsNoOther class x m → IsNoOther class x (m + 1)
      step m before has = elim (cases_eq (f m) class) [
        | inr same ↦ let (below, is) = before (subst (λ xs. Contains xs x) (of_class_same class m same) has) in (omega arith, is)
        | inl more ↦ elim (Contains-push_cases (of_class class m) m x (subst (λ xs. Contains xs x) (of_class_more class m more) has)) [
          | inl earlier ↦ let (below, is) = before earlier in (omega arith, is)
          | inr this ↦ (omega (arith, this), ap f (sym this) ∙ more)
        ]
      ]

  -- three classes have all
  abbrev AreAll : ℕ → Type 0
  AreAll n = ((x : ℕ) → x < n → f x < 3) → length (of_class 0 n) + length (of_class 1 n) + length (of_class 2 n) ≡ n

  pub count_all : (n : ℕ) → AreAll n
  count_all n = by_number AreAll (λ below. refl) step n
    where
      step : (m : ℕ) → AreAll m → AreAll (m + 1)
      step m before below =
          let sum = before (λ x h. below x (omega arith)) in
          let here : f m < 3 = below m (omega arith) in
          elim (cases_eq (f m) 0) [
            | inl first ↦
                let not_second = length_same 1 m (λ e. omega (arith, e, first)) in
                let not_third = length_same 2 m (λ e. omega (arith, e, first)) in
                omega (arith, sum, length_more 0 m first, not_second, not_third)
            | inr not_first ↦ elim (cases_eq (f m) 1) [
              | inl second ↦ omega (arith, sum, length_same 0 m not_first, length_more 1 m second, length_same 2 m (λ e. omega (arith, e, second)))
              | inr not_second ↦
                  let third : f m ≡ 2 = omega (arith, here, not_first, not_second) in
                  omega (arith, sum, length_same 0 m not_first, length_same 1 m not_second, length_more 2 m third)
            ]
          ]

-- where two functions put the same numbers below n into their classes, these have the same members
abbrev AreSame : (ℕ → ℕ) → (ℕ → ℕ) → ℕ → ℕ → ℕ → Type 0
AreSame f g c d n = ((x : ℕ) → x < n → (f x ≡ c) ↔ (g x ≡ d)) → of_class f c n ≡ of_class g d n

pub same_members : (f g : ℕ → ℕ) (c d n : ℕ) → AreSame f g c d n
same_members f g c d n = by_number (AreSame f g c d) (λ same. refl) step n
  where
    step : (m : ℕ) → AreSame f g c d m → AreSame f g c d (m + 1)
    step m before same =
        let earlier = before (λ x h. same x (omega arith)) in
        let here = same m (omega arith) in
        elim (cases_eq (f m) c) [
          | inl more ↦ of_class_more f c m more ∙ ap (λ xs. xs ++ m ∷ []) earlier ∙ sym (of_class_more g d m (here.0 more))
          | inr not ↦ of_class_same f c m not ∙ earlier ∙ sym (of_class_same g d m (λ e. not (here.1 e)))
        ]

-- ---- the vertices of a ring, by their numbers

-- the class of the vertex with this number
abbrev pub class_at : Oriented → List ℕ → ℕ → ℕ
class_at ring classes number = class_of classes (given_index ring number)
