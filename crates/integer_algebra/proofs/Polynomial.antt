-- A polynomial has the value of its normal form, so two polynomials whose difference has the empty normal form agree.
use Prim.Native.Nat.{compare, Ordering}
use Rattle.std.proofs.Common.{◌≡◌, ℕ, zero, suc, T, ltb, eqb→eq, List, [], ◌∷◌, true, false, ℤ, pos, negsuc, ◌+ℤ◌, ◌*ℤ◌, neg_ℤ, arith, refl, sym, ap}
use Rattle.std.proofs.Common.{ap₂, subst, ◌∙◌}
use Rattle.std.proofs.lemmas.Int.{ints}
use lib.Dec.{compare_is_eq}
use Rattle.integer_algebra.proofs.Laws.{mul_assoc, mul_left_comm, add-mul, mul-add, zero-mul, one-mul, minus_one-mul, mul-zero, eq_of_sub-zero}
pub use Rattle.integer_algebra.proofs.Normal.{Polynomial, var, lit, neg, ◌⊕◌, ◌⊖◌, ◌⊗◌, value, normal}
use Rattle.integer_algebra.proofs.Normal.{at, Term, term, order, place, join, attach, weave, plus, scale, times}

-- a sum of three, in two steps
regroup_add : (a b c d e : ℤ) → d ≡ b +ℤ c → e ≡ a +ℤ d → e ≡ (a +ℤ b) +ℤ c
regroup_add a b c d e h k = omega (arith, ints)

-- two sums whose first terms differ in the coefficient alone
meet_add : (c d m p q : ℤ) → (c +ℤ d) *ℤ m +ℤ (p +ℤ q) ≡ (c *ℤ m +ℤ p) +ℤ (d *ℤ m +ℤ q)
meet_add c d m p q = let e = add-mul c d m in omega (arith, ints)

-- two summands change places before a third
past_add : (a b c : ℤ) → b +ℤ (a +ℤ c) ≡ a +ℤ (b +ℤ c)
past_add a b c = omega (arith, ints)

-- two products that compare as equal are equal
order_eq : (ms ns : List ℕ) → order ms ns ≡ Ordering.eq → ms ≡ ns
order_eq [] [] e = refl
order_eq [] (n ∷ ns) e = cc
order_eq (m ∷ ms) [] e = cc
order_eq (m ∷ ms) (n ∷ ns) e = go (compare m n) refl (order_eq ms ns) e
  where
    go : (o : Ordering) → compare m n ≡ o → (order ms ns ≡ Ordering.eq → ms ≡ ns)
        → elim o [ Ordering.lt ↦ Ordering.lt | Ordering.eq ↦ order ms ns | Ordering.gt ↦ Ordering.gt ] ≡ Ordering.eq → m ∷ ms ≡ n ∷ ns
    go Ordering.lt is more same = cc
    go Ordering.eq is more same = ap₂ ◌∷◌ (eqb→eq m n (subst (λ o. T (compare_is_eq o)) (sym is) tt)) (more same)
    go Ordering.gt is more same = cc

module _ (xs : List ℤ) where
  -- the value of a product of variables
  abbrev product : List ℕ → ℤ
  product [] = pos 1
  product (n ∷ ns) = at xs n *ℤ product ns

  -- the value of a sum of terms
  abbrev total : List Term → ℤ
  total [] = pos zero
  total (term c ms ∷ p) = c *ℤ product ms +ℤ total p

  -- to put a variable into a product is to multiply by it
  place_is : (n : ℕ) (ms : List ℕ) → product (place n ms) ≡ at xs n *ℤ product ms
  place_is n [] = refl
  place_is n (m ∷ ms) = elim (ltb m n) as (λ t. product (elim t [ true ↦ m ∷ place n ms | false ↦ n ∷ m ∷ ms ]) ≡ at xs n *ℤ (at xs m *ℤ product ms)) [
    | true ↦ ap (λ z. at xs m *ℤ z) (place_is n ms) ∙ mul_left_comm (at xs m) (at xs n) (product ms)
    | false ↦ refl
  ]

  -- joined products multiply
  join_is : (ms ns : List ℕ) → product (join ms ns) ≡ product ms *ℤ product ns
  join_is [] ns = sym (one-mul (product ns))
  join_is (m ∷ ms) ns = place_is m (join ms ns) ∙ ap (λ z. at xs m *ℤ z) (join_is ms ns) ∙ sym (mul_assoc (at xs m) (product ms) (product ns))

  -- a term in front of a sum adds its value
  attach_is : (c : ℤ) (ms : List ℕ) (p : List Term) → total (attach c ms p) ≡ c *ℤ product ms +ℤ total p
  attach_is (pos zero) ms p = let e = zero-mul (product ms) in omega (arith, ints)
  attach_is (pos (suc c)) ms p = refl
  attach_is (negsuc c) ms p = refl

  -- so does a term with a rest, where `add` adds the rest
  weave_is : (c : ℤ) (ms : List ℕ) (p : List Term) (add : List Term → List Term) → ((q : List Term) → total (add q) ≡ total p +ℤ total q)
      → (q : List Term) → total (weave c ms p add q) ≡ (c *ℤ product ms +ℤ total p) +ℤ total q
  weave_is c ms p add h [] = omega (arith, ints)
  weave_is c ms p add h (term d ns ∷ q) = go (order ms ns) refl (weave_is c ms p add h q)
    where
      go : (o : Ordering) → order ms ns ≡ o → total (weave c ms p add q) ≡ (c *ℤ product ms +ℤ total p) +ℤ total q
          → total (elim o [ Ordering.lt ↦ term c ms ∷ add (term d ns ∷ q) | Ordering.eq ↦ attach (c +ℤ d) ms (add q) | Ordering.gt ↦ term d ns ∷ weave c ms p add q ])
          ≡ (c *ℤ product ms +ℤ total p) +ℤ (d *ℤ product ns +ℤ total q)
      go Ordering.lt is more = regroup_add _ _ _ _ _ (h (term d ns ∷ q)) refl
      go Ordering.eq is more =
          attach_is (c +ℤ d) ms (add q) ∙ ap (λ z. (c +ℤ d) *ℤ product ms +ℤ z) (h q) ∙ meet_add c d (product ms) (total p) (total q)
          ∙ ap (λ l. (c *ℤ product ms +ℤ total p) +ℤ (d *ℤ product l +ℤ total q)) (order_eq ms ns is)
      go Ordering.gt is more = ap (λ z. d *ℤ product ns +ℤ z) more ∙ past_add (c *ℤ product ms +ℤ total p) (d *ℤ product ns) (total q)

  -- the sum of two sums
  plus_is : (p q : List Term) → total (plus p q) ≡ total p +ℤ total q
  plus_is [] q = omega (arith, ints)
  plus_is (term c ms ∷ p) q = weave_is c ms p (plus p) (plus_is p) q

  -- a sum times a term
  scale_is : (c : ℤ) (ms : List ℕ) (q : List Term) → total (scale c ms q) ≡ (c *ℤ product ms) *ℤ total q
  scale_is c ms [] = sym (mul-zero (c *ℤ product ms))
  scale_is c ms (term d ns ∷ q) =
      ap₂ ◌+ℤ◌ (ap (λ z. (c *ℤ d) *ℤ z) (join_is ms ns) ∙ exchange c d (product ms) (product ns)) (scale_is c ms q)
      ∙ sym (mul-add (c *ℤ product ms) (d *ℤ product ns) (total q))
    where
      exchange : (a b c d : ℤ) → (a *ℤ b) *ℤ (c *ℤ d) ≡ (a *ℤ c) *ℤ (b *ℤ d)
      exchange a b c d = mul_assoc a b (c *ℤ d) ∙ ap (λ z. a *ℤ z) (mul_left_comm b c d) ∙ sym (mul_assoc a c (b *ℤ d))

  -- the product of two sums
  times_is : (p q : List Term) → total (times p q) ≡ total p *ℤ total q
  times_is [] q = sym (zero-mul (total q))
  times_is (term c ms ∷ p) q =
      plus_is (scale c ms q) (times p q) ∙ ap₂ ◌+ℤ◌ (scale_is c ms q) (times_is p q) ∙ sym (add-mul (c *ℤ product ms) (total p) (total q))

  -- a sum times minus one
  negative_is : (p : List Term) → total (scale (negsuc 0) [] p) ≡ neg_ℤ (total p)
  negative_is p = scale_is (negsuc 0) [] p ∙ minus_one-mul (total p)

  -- a normal form has the value of its polynomial
  normal_is : (s : Polynomial) → total (normal s) ≡ value s xs
  normal_is (var n) = omega (arith, ints)
  normal_is (lit z) = attach_is z [] [] ∙ omega (arith, ints)
  normal_is (s ⊕ t) = plus_is (normal s) (normal t) ∙ ap₂ ◌+ℤ◌ (normal_is s) (normal_is t)
  normal_is (s ⊖ t) = plus_is (normal s) (scale (negsuc 0) [] (normal t)) ∙ ap₂ ◌+ℤ◌ (normal_is s) (negative_is (normal t) ∙ ap neg_ℤ (normal_is t))
  normal_is (s ⊗ t) = times_is (normal s) (normal t) ∙ ap₂ ◌*ℤ◌ (normal_is s) (normal_is t)
  normal_is (neg s) = negative_is (normal s) ∙ ap neg_ℤ (normal_is s)

-- a polynomial with the empty normal form is 0
pub zero_value : (s : Polynomial) (xs : List ℤ) → normal s ≡ [] → value s xs ≡ pos 0
zero_value s xs e = sym (normal_is xs s) ∙ ap (total xs) e

-- two polynomials agree where their difference has the empty normal form
pub same_value : (s t : Polynomial) (xs : List ℤ) → normal (s ⊖ t) ≡ [] → value s xs ≡ value t xs
same_value s t xs e = eq_of_sub-zero (value s xs) (value t xs) (zero_value (s ⊖ t) xs e)
