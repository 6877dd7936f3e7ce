-- Written polynomials over the integers, their values, and a normal form that computes.
use Prim.Native.Nat.{compare, Ordering}
use Rattle.std.proofs.Common.{ℕ, zero, suc, ltb, List, [], ◌∷◌, ℤ, pos, negsuc, true, false, ◌+ℤ◌, ◌-ℤ◌, ◌*ℤ◌, neg_ℤ}

infixl 6 ◌⊕◌ ◌⊖◌
infixl 7 ◌⊗◌
-- a polynomial as it is written: variables by their numbers, integers, sums, differences, products and negation
pub data Polynomial : Type 0 where
  var : ℕ → Polynomial
  lit : ℤ → Polynomial
  ◌⊕◌ : Polynomial → Polynomial → Polynomial
  ◌⊖◌ : Polynomial → Polynomial → Polynomial
  ◌⊗◌ : Polynomial → Polynomial → Polynomial
  neg : Polynomial → Polynomial

-- the integer of variable n, and 0 past the end
abbrev pub at : List ℤ → ℕ → ℤ
at [] n = pos zero
at (x ∷ xs) zero = x
at (x ∷ xs) (suc n) = at xs n

-- what a polynomial means where the variables have the integers of a list
abbrev pub value : Polynomial → List ℤ → ℤ
value (var n) xs = at xs n
value (lit z) xs = z
value (s ⊕ t) xs = value s xs +ℤ value t xs
value (s ⊖ t) xs = value s xs -ℤ value t xs
value (s ⊗ t) xs = value s xs *ℤ value t xs
value (neg s) xs = neg_ℤ (value s xs)

-- a product of variables by their numbers, least first, with its coefficient
pub data Term : Type 0 where
  term : ℤ → List ℕ → Term

-- the order of two products: the one that has more of the least variable comes first
abbrev pub order : List ℕ → List ℕ → Ordering
order [] [] = Ordering.eq
order [] (n ∷ ns) = Ordering.gt
order (m ∷ ms) [] = Ordering.lt
order (m ∷ ms) (n ∷ ns) = elim (compare m n) [ Ordering.lt ↦ Ordering.lt | Ordering.eq ↦ order ms ns | Ordering.gt ↦ Ordering.gt ]

-- a variable put into a product
abbrev pub place : ℕ → List ℕ → List ℕ
place n [] = n ∷ []
place n (m ∷ ms) = elim (ltb m n) [ true ↦ m ∷ place n ms | false ↦ n ∷ m ∷ ms ]

-- the product of two products
abbrev pub join : List ℕ → List ℕ → List ℕ
join [] ns = ns
join (m ∷ ms) ns = place m (join ms ns)

-- a term in front of a sum, unless its coefficient is 0
abbrev pub attach : ℤ → List ℕ → List Term → List Term
attach (pos zero) ms p = p
attach (pos (suc c)) ms p = term (pos (suc c)) ms ∷ p
attach (negsuc c) ms p = term (negsuc c) ms ∷ p

-- the sum of a first term, a rest p that `add` adds to any sum, and q
abbrev pub weave : ℤ → List ℕ → List Term → (List Term → List Term) → List Term → List Term
weave c ms p add [] = term c ms ∷ p
weave c ms p add (term d ns ∷ q) = elim (order ms ns) [
  | Ordering.lt ↦ term c ms ∷ add (term d ns ∷ q)
  | Ordering.eq ↦ attach (c +ℤ d) ms (add q)
  | Ordering.gt ↦ term d ns ∷ weave c ms p add q
]

-- the sum of two sums
abbrev pub plus : List Term → List Term → List Term
plus [] q = q
plus (term c ms ∷ p) q = weave c ms p (plus p) q

-- a sum times a term
abbrev pub scale : ℤ → List ℕ → List Term → List Term
scale c ms [] = []
scale c ms (term d ns ∷ q) = term (c *ℤ d) (join ms ns) ∷ scale c ms q

-- the product of two sums
abbrev pub times : List Term → List Term → List Term
times [] q = []
times (term c ms ∷ p) q = plus (scale c ms q) (times p q)

-- the sum of terms, in order and without a coefficient 0, that a polynomial equals
abbrev pub normal : Polynomial → List Term
normal (var n) = term (pos 1) (n ∷ []) ∷ []
normal (lit z) = attach z [] []
normal (s ⊕ t) = plus (normal s) (normal t)
normal (s ⊖ t) = plus (normal s) (scale (negsuc 0) [] (normal t))
normal (s ⊗ t) = times (normal s) (normal t)
normal (neg s) = scale (negsuc 0) [] (normal s)
