-- Where some number is not on a path of a tree, a leaf is not: one with a longest path past that number.
use Rattle.std.proofs.Common.{refl, ◌≡◌, inl, inr, sym, subst, ◌∙◌, ℕ, zero, suc, ◌<◌, ◌≤◌, List, [], ◌∷◌, length, arith}
use Rattle.std.proofs.lemmas.Bool.{cases_lt}
use Rattle.meshes.proofs.TreeLeaves.TreeLeaves.{IsJoinedToOne, as_long, leaf_from, new_or_on}
use Rattle.meshes.proofs.Walks.{IsNew, IsPath, IsTreeOn, new_or_not}

module _ (n : ℕ) (R : ℕ → ℕ → Type 0) (turn : (a b : ℕ) → R a b → R b a) (tree : IsTreeOn (λ a. a < n) R) where
  -- the numbers of the tree
  abbrev P : ℕ → Type 0
  P a = a < n

  -- what is new to a path is not its end
  new_not_end : (x a : ℕ) (bs : List ℕ) (c : ℕ) → IsPath P R a bs c → IsNew x (a ∷ bs) → ¬ (x ≡ c)
  new_not_end x a [] c p new e = new.0 (e ∙ sym p)
  new_not_end x a (b ∷ bs) c p new e = new_not_end x b bs c p.3 new.1 e

  -- of the numbers below m whose path to c visits x, k has the longest one
  record IsFarthestPast (x c m : ℕ) : Type 0 where
    k : ℕ
    within : k < n
    path : List ℕ
    is_path : IsPath P R k path c
    past : ¬ IsNew x (k ∷ path)
    most : (d : ℕ) → d < m → (other : List ℕ) → IsPath P R d other c → ¬ IsNew x (d ∷ other) → length other ≤ length path

  -- there is one
  farthest_past : (x c : ℕ) → x < n → c < n → (m : ℕ) → m ≤ n → IsFarthestPast x c m
  farthest_past x c at_x at_c zero h =
      let one = tree x c at_x at_c in
      record { k = x; within = at_x; path = one.path; is_path = one.is_path; past = λ new. new.0 refl; most = λ d h other p q. absurd (omega arith) }
  farthest_past x c at_x at_c (suc m) h =
      let f = farthest_past x c at_x at_c m (omega arith) in
      let at_m : m < n = omega arith in
      let one = tree m c at_m at_c in
      elim (new_or_not x (m ∷ one.path)) [
        | inl new ↦ record {
          k = f.k;
          within = f.within;
          path = f.path;
          is_path = f.is_path;
          past = f.past;
          most = λ d h other p q. elim (cases_lt d m) [
            | inl less ↦ f.most d less other p q
            | inr more ↦
                let same : m ≡ d = omega arith in
                let is = one.only other (subst (λ y. IsPath P R y other c) (sym same) p) in
                absurd (q (subst (λ y. IsNew x (y ∷ other)) same (subst (λ ys. IsNew x (m ∷ ys)) (sym is) new)))
          ];
        }
        | inr old ↦
            let most : (k : ℕ) → length f.path ≤ k → length one.path ≤ k → (d : ℕ) → d < suc m → (other : List ℕ)
            → IsPath P R d other c → ¬ IsNew x (d ∷ other) → length other ≤ k =
            λ k first second d h other p q. elim (cases_lt d m) [
              | inl less ↦ omega (arith, f.most d less other p q)
              | inr more ↦ omega (arith, as_long n R turn tree c d m at_c at_m (omega arith) other p)
            ] in
            elim (cases_lt (length f.path) (length one.path)) [
              | inl less ↦ record {
                k = m;
                within = at_m;
                path = one.path;
                is_path = one.is_path;
                past = old;
                most = most (length one.path) (omega arith) (omega arith);
              }
              | inr more ↦ record {
                k = f.k;
                within = f.within;
                path = f.path;
                is_path = f.is_path;
                past = f.past;
                most = most (length f.path) (omega arith) (omega arith);
              }
            ]
      ]

  -- a leaf that is not on a path
  pub record IsLeafOff (a : ℕ) (bs : List ℕ) : Type 0 where
    pub leaf : ℕ
    pub within : leaf < n
    pub new : IsNew leaf (a ∷ bs)
    pub joined : IsJoinedToOne n R leaf

  -- where some number is not on a path, a leaf is not
  pub leaf_off : (x a : ℕ) (bs : List ℕ) (c : ℕ) → x < n → c < n → IsPath P R a bs c → IsNew x (a ∷ bs) → IsLeafOff a bs
  leaf_off x a bs c at_x at_c p new =
      let f = farthest_past x c at_x at_c n (omega arith) in
      elim (new_or_on n R turn tree x f.k c a bs p new) [
        | inr on ↦
            let one = tree f.k c f.within at_c in
            let same : on.rest ≡ f.path = one.only on.rest on.path ∙ sym (one.only f.path f.is_path) in
            absurd (f.past (subst (λ ys. IsNew x (f.k ∷ ys)) same on.new))
        | inl off ↦ by_path f.k f.path f.within f.is_path f.past (λ d h. f.most d h) off
      ]
    where
      by_path : (k : ℕ) (path : List ℕ) → k < n → IsPath P R k path c → ¬ IsNew x (k ∷ path)
          → ((d : ℕ) → d < n → (other : List ℕ) → IsPath P R d other c → ¬ IsNew x (d ∷ other) → length other ≤ length path)
          → IsNew k (a ∷ bs) → IsLeafOff a bs
      by_path k [] at_k q past most off = absurd (new_not_end k a bs c p off q)
      by_path k (b ∷ path) at_k q past most off = record {
        leaf = k;
        within = at_k;
        new = off;
        joined = leaf_from n R turn tree c k b path at_c at_k q (λ d at_d longer. omega (arith, most d at_d (k ∷ b ∷ path) longer (λ fresh. past fresh.1)));
      }
