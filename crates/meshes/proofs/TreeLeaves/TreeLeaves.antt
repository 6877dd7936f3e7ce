-- A tree of at least two numbers has two leaves: the last numbers of longest paths.
use Rattle.std.proofs.Common.{◌≡◌, ◌⊎◌, inl, inr, sym, ap, subst, ◌∙◌, ℕ, zero, suc, ◌-◌, ◌<◌, ◌≤◌, List, [], ◌∷◌, length, arith}
use Rattle.std.proofs.lemmas.Bool.{cases_lt, cases_eq}
use Rattle.meshes.proofs.Walks.{IsNew, IsPath, IsTreeOn}

-- c is joined to one other number alone
pub record IsJoinedToOne (n : ℕ) (R : ℕ → ℕ → Type 0) (c : ℕ) : Type 0 where
  pub next : ℕ
  pub next_within : next < n
  pub joined : R c next
  pub differs : ¬ (next ≡ c)
  pub only : (d : ℕ) → d < n → ¬ (d ≡ c) → R c d → d ≡ next

module _ (n : ℕ) (R : ℕ → ℕ → Type 0) (turn : (a b : ℕ) → R a b → R b a) (tree : IsTreeOn (λ a. a < n) R) where
  -- the numbers of the tree
  abbrev P : ℕ → Type 0
  P a = a < n

  -- the rest of a path from d on, where d is on it
  pub record IsFrom (c d a : ℕ) : Type 0 where
    pub rest : List ℕ
    pub path : IsPath P R d rest a
    pub new : IsNew c (d ∷ rest)

  -- a number is new to a path or on it
  pub new_or_on : (c d a b : ℕ) (bs : List ℕ) → IsPath P R b bs a → IsNew c (b ∷ bs) → IsNew d (b ∷ bs) ⊎ IsFrom c d a
  new_or_on c d a b [] p new = elim (cases_eq d b) [
    | inl same ↦ inr (record { rest = []; path = same ∙ p; new = subst (λ x. IsNew c (x ∷ [])) (sym same) new })
    | inr differs ↦ inl (differs, tt)
  ]
  new_or_on c d a b (x ∷ xs) p new = elim (cases_eq d b) [
    | inl same ↦ inr (record {
      rest = x ∷ xs;
      path = subst (λ y. IsPath P R y (x ∷ xs) a) (sym same) p;
      new = subst (λ y. IsNew c (y ∷ x ∷ xs)) (sym same) new;
    })
    | inr differs ↦ elim (new_or_on c d a x xs p.3 new.1) [ inl k ↦ inl (differs, k) | inr k ↦ inr k ]
  ]

  -- c is as far from a as all numbers below m
  record IsFarthest (a m : ℕ) : Type 0 where
    c : ℕ
    within : c < n
    path : List ℕ
    is_path : IsPath P R c path a
    most : (d : ℕ) → d < m → (other : List ℕ) → IsPath P R d other a → length other ≤ length path

  -- the path from d is as long as the one path from there
  pub as_long : (a d m : ℕ) (at_a : a < n) (at_m : m < n) → d ≡ m → (other : List ℕ) → IsPath P R d other a → length other ≡ length (tree m a at_m at_a).path
  as_long a d m at_a at_m same other p = ap length ((tree m a at_m at_a).only other (subst (λ x. IsPath P R x other a) same p))

  -- there is such a number
  farthest : (a : ℕ) → a < n → (m : ℕ) → m < n → IsFarthest a (suc m)
  farthest a at_a zero at_m =
      let one = tree 0 a at_m at_a in
      record {
        c = 0;
        within = at_m;
        path = one.path;
        is_path = one.is_path;
        most = λ d h other p. omega (arith, as_long a d 0 at_a at_m (omega arith) other p);
      }
  farthest a at_a (suc m) at_m =
      let one = tree (suc m) a at_m at_a in
      let f = farthest a at_a m (omega arith) in
      elim (cases_lt (length f.path) (length one.path)) [
        | inl less ↦ record {
          c = suc m;
          within = at_m;
          path = one.path;
          is_path = one.is_path;
          most = λ d h other p. elim (cases_lt d (suc m)) [
            | inl k ↦ omega (arith, f.most d k other p)
            | inr k ↦ omega (arith, as_long a d (suc m) at_a at_m (omega arith) other p)
          ];
        }
        | inr more ↦ record {
          c = f.c;
          within = f.within;
          path = f.path;
          is_path = f.is_path;
          most = λ d h other p. elim (cases_lt d (suc m)) [
            | inl k ↦ f.most d k other p
            | inr k ↦ omega (arith, as_long a d (suc m) at_a at_m (omega arith) other p)
          ];
        }
      ]

  -- the first number of a list
  first_or : ℕ → List ℕ → ℕ
  first_or x [] = x
  first_or x (y ∷ ys) = y

  -- a number whose path is not longer by one from anywhere is a leaf
  pub leaf_from : (a c b : ℕ) (bs : List ℕ) → a < n → c < n → IsPath P R c (b ∷ bs) a
      → ((d : ℕ) → d < n → ¬ IsPath P R d (c ∷ b ∷ bs) a) → IsJoinedToOne n R c
  unfolding first_or
  leaf_from a c b bs at_a at_c p longest = record {
    next = b;
    next_within = p.0;
    joined = p.1;
    differs = λ e. p.2.0 (sym e);
    only = λ d at_d differs r. elim (new_or_on c d a b bs p.3 p.2) [
      | inl new ↦ absurd (longest d at_d (at_c, turn c d r, (differs, new), p))
      | inr on ↦
          let one = tree c a at_c at_a in
          let same : d ∷ on.rest ≡ b ∷ bs = one.only (d ∷ on.rest) (at_d, r, on.new, on.path) ∙ sym (one.only (b ∷ bs) p) in
          ap (first_or d) same
    ];
  }

  -- a leaf other than a
  pub record IsLeafFrom (a : ℕ) : Type 0 where
    pub leaf : ℕ
    pub within : leaf < n
    pub differs : ¬ (leaf ≡ a)
    pub joined : IsJoinedToOne n R leaf

  -- there is one, where there is another number than a
  pub leaf_other : (a e : ℕ) → a < n → e < n → ¬ (e ≡ a) → IsLeafFrom a
  leaf_other a e at_a at_e differs =
      let f = farthest a at_a (n - 1) (omega arith) in
      by_path f.c f.path f.within f.is_path (λ d h. f.most d (omega arith))
    where
      no_way : (xs : List ℕ) → IsPath P R e xs a → length xs ≤ 0 → e ≡ a
      no_way [] p h = p
      no_way (x ∷ xs) p h = absurd (omega arith)

      by_path : (c : ℕ) (bs : List ℕ) → c < n → IsPath P R c bs a
          → ((d : ℕ) → d < n → (other : List ℕ) → IsPath P R d other a → length other ≤ length bs) → IsLeafFrom a
      by_path c [] at_c p most =
          let one = tree e a at_e at_a in absurd (differs (no_way one.path one.is_path (most e at_e one.path one.is_path)))
      by_path c (b ∷ bs) at_c p most =
          let one = tree c a at_c at_a in
          record {
            leaf = c;
            within = at_c;
            differs = λ same. omega (arith, ap length (one.only [] same), ap length (one.only (b ∷ bs) p));
            joined = leaf_from a c b bs at_a at_c p (λ d at_d q. omega (arith, most d at_d (c ∷ b ∷ bs) q));
          }
