-- Two trees that one edge joins are one tree.
use Rattle.std.proofs.Common.{◌≡◌, ◌⊎◌, inl, inr, sym, ap, subst, ◌∙◌, ℕ, List, [], ◌∷◌, ◌++◌}
use Rattle.meshes.proofs.Walks.{IsNew, IsPath, IsTreeOn, OnePath, new_append, new_front}

-- P and Q have no number in common, and k of P and l of Q are the only ones of them that are joined
pub record IsBridge (P Q : ℕ → Type 0) (R : ℕ → ℕ → Type 0) (k l : ℕ) : Type 0 where
  pub apart : (a : ℕ) → P a → Q a → ⊥
  pub near : P k
  pub far : Q l
  pub joined : R k l
  pub only_near : (a b : ℕ) → P a → Q b → R a b → a ≡ k
  pub only_far : (a b : ℕ) → P a → Q b → R a b → b ≡ l
  pub back_near : (a b : ℕ) → P a → Q b → R b a → a ≡ k

-- the numbers of both
abbrev pub Both : (ℕ → Type 0) → (ℕ → Type 0) → ℕ → Type 0
Both P Q a = P a ⊎ Q a

-- a path is one where it may go further
path_in : (P Q : ℕ → Type 0) (R : ℕ → ℕ → Type 0) → ((a : ℕ) → P a → Q a) → (a : ℕ) (bs : List ℕ) (c : ℕ) → IsPath P R a bs c → IsPath Q R a bs c
path_in P Q R more a [] c p = p
path_in P Q R more a (b ∷ bs) c p = (more b p.0, p.1, p.2, path_in P Q R more b bs c p.3)

-- a path ends where it may go
path_end : (P : ℕ → Type 0) (R : ℕ → ℕ → Type 0) (a : ℕ) (bs : List ℕ) (c : ℕ) → P a → IsPath P R a bs c → P c
path_end P R a [] c at_a p = subst P p at_a
path_end P R a (b ∷ bs) c at_a p = path_end P R b bs c p.0 p.3

-- a path from a over the bridge: within P to k, then from l within Q
record OverBridge (P Q : ℕ → Type 0) (R : ℕ → ℕ → Type 0) (k l a : ℕ) (path : List ℕ) (c : ℕ) : Type 0 where
  pub before : List ℕ
  pub after : List ℕ
  pub are : path ≡ before ++ l ∷ after
  pub to_bridge : IsPath P R a before k
  pub from_bridge : IsPath Q R l after c

module _ (P Q : ℕ → Type 0) (R : ℕ → ℕ → Type 0) (k l : ℕ) (b : IsBridge P Q R k l) where
  -- a number of P is new to a path in Q
  new_to_far : (a x : ℕ) (xs : List ℕ) (c : ℕ) → P a → Q x → IsPath Q R x xs c → IsNew a (x ∷ xs)
  new_to_far a x [] c at_a at_x p = (λ e. b.apart x (subst P e at_a) at_x, tt)
  new_to_far a x (y ∷ ys) c at_a at_x p =
      (λ e. b.apart x (subst P e at_a) at_x, new_to_far a y ys c at_a p.0 p.3)

  -- a path to k and one from l are a path over the bridge
  path_over : (a : ℕ) (xs ys : List ℕ) (c : ℕ) → P a → IsPath P R a xs k → IsPath Q R l ys c → IsPath (Both P Q) R a (xs ++ l ∷ ys) c
  path_over a [] ys c at_a p q =
      (inr b.far, subst (λ x. R x l) (sym p) b.joined, new_to_far a l ys c at_a b.far q, path_in Q (Both P Q) R (λ x h. inr h) l ys c q)
  path_over a (x ∷ xs) ys c at_a p q =
      (inl p.0, p.1, new_append a (x ∷ xs) (l ∷ ys) p.2 (new_to_far a l ys c at_a b.far q), path_over x xs ys c p.0 p.3 q)

  -- a path that is in Q and does not visit k stays in Q
  stays_far : (a : ℕ) (xs : List ℕ) (c : ℕ) → Q a → IsNew k xs → IsPath (Both P Q) R a xs c → IsPath Q R a xs c
  stays_far a [] c at_a n p = p
  stays_far a (x ∷ xs) c at_a n (inl near, r, new, p) = absurd (n.0 (sym (b.back_near x a near at_a r)))
  stays_far a (x ∷ xs) c at_a n (inr far, r, new, p) = (far, r, new, stays_far x xs c far n.1 p)

  -- the first step within P
  over_more : (a x : ℕ) (xs : List ℕ) (c : ℕ) → P x → R a x → IsNew a (x ∷ xs) → OverBridge P Q R k l x xs c
      → OverBridge P Q R k l a (x ∷ xs) c
  over_more a x xs c at_x r new o = record {
    before = x ∷ o.before;
    after = o.after;
    are = ap (λ ys. x ∷ ys) o.are;
    to_bridge = (at_x, r, new_front a (x ∷ o.before) (l ∷ o.after) (subst (λ ys. IsNew a (x ∷ ys)) o.are new), o.to_bridge);
    from_bridge = o.from_bridge;
  }

  -- a path from P stays there or goes over the bridge
  stays_or_over : (a : ℕ) (xs : List ℕ) (c : ℕ) → P a → IsPath (Both P Q) R a xs c → IsPath P R a xs c ⊎ OverBridge P Q R k l a xs c
  stays_or_over a [] c at_a p = inl p
  stays_or_over a (x ∷ xs) c at_a (inl near, r, new, p) = elim (stays_or_over x xs c near p) [
    | inl within ↦ inl (near, r, new, within)
    | inr over ↦ inr (over_more a x xs c near r new over)
  ]
  stays_or_over a (x ∷ xs) c at_a (inr far, r, new, p) =
      let from : a ≡ k = b.only_near a x at_a far r in
      let to : x ≡ l = b.only_far a x at_a far r in
      inr (record {
        before = [];
        after = xs;
        are = ap (λ y. y ∷ xs) to;
        to_bridge = from;
        from_bridge =
            subst (λ y. IsPath Q R y xs c) to
            (stays_far x xs c far (subst (λ y. IsNew y xs) from new.1) p);
      })

  -- so there is one path within P,
  one_near : IsTreeOn P R → (a c : ℕ) → P a → P c → OnePath (Both P Q) R a c
  one_near tree a c at_a at_c =
      let one = tree a c at_a at_c in
      record {
        path = one.path;
        is_path = path_in P (Both P Q) R (λ x h. inl h) a one.path c one.is_path;
        only = λ other p. elim (stays_or_over a other c at_a p) [
          | inl within ↦ one.only other within
          | inr over ↦ absurd (b.apart c at_c (path_end Q R l over.after c b.far over.from_bridge))
        ];
      }

  -- and one over the bridge
  one_over : IsTreeOn P R → IsTreeOn Q R → (a c : ℕ) → P a → Q c → OnePath (Both P Q) R a c
  one_over near far a c at_a at_c =
      let before = near a k at_a b.near in
      let after = far l c b.far at_c in
      record {
        path = before.path ++ l ∷ after.path;
        is_path = path_over a before.path after.path c at_a before.is_path after.is_path;
        only = λ other p. elim (stays_or_over a other c at_a p) [
          | inl within ↦ absurd (b.apart c (path_end P R a other c at_a within) at_c)
          | inr over ↦
              over.are
              ∙ (λ i. before.only over.before over.to_bridge i ++ l ∷ after.only over.after over.from_bridge i)
        ];
      }

-- the bridge the other way
bridge_back : (P Q : ℕ → Type 0) (R : ℕ → ℕ → Type 0) → ((a b : ℕ) → R a b → R b a) → (k l : ℕ) → IsBridge P Q R k l → IsBridge Q P R l k
bridge_back P Q R turn k l b = record {
  apart = λ a at_q at_p. b.apart a at_p at_q;
  near = b.far;
  far = b.near;
  joined = turn k l b.joined;
  only_near = λ x y at_x at_y r. b.only_far y x at_y at_x (turn x y r);
  only_far = λ x y at_x at_y r. b.only_near y x at_y at_x (turn x y r);
  back_near = λ x y at_x at_y r. b.only_far y x at_y at_x r;
}

-- a path in both the other way round
path_other : (P Q : ℕ → Type 0) (R : ℕ → ℕ → Type 0) (a : ℕ) (bs : List ℕ) (c : ℕ) → IsPath (Both P Q) R a bs c → IsPath (Both Q P) R a bs c
path_other P Q R a [] c p = p
path_other P Q R a (b ∷ bs) c (inl h, r, n, p) = (inr h, r, n, path_other P Q R b bs c p)
path_other P Q R a (b ∷ bs) c (inr h, r, n, p) = (inl h, r, n, path_other P Q R b bs c p)

-- one path in both too
one_other : (P Q : ℕ → Type 0) (R : ℕ → ℕ → Type 0) (a c : ℕ) → OnePath (Both Q P) R a c → OnePath (Both P Q) R a c
one_other P Q R a c one = record {
  path = one.path;
  is_path = path_other Q P R a one.path c one.is_path;
  only = λ other p. one.only other (path_other P Q R a other c p);
}

module _ (P Q : ℕ → Type 0) (R : ℕ → ℕ → Type 0) (turn : (a b : ℕ) → R a b → R b a) (k l : ℕ) (b : IsBridge P Q R k l) where
  -- two trees that one edge joins are one tree
  pub joined_tree : IsTreeOn P R → IsTreeOn Q R → IsTreeOn (Both P Q) R
  joined_tree p q a c (inl at_a) (inl at_c) = one_near P Q R k l b p a c at_a at_c
  joined_tree p q a c (inl at_a) (inr at_c) = one_over P Q R k l b p q a c at_a at_c
  joined_tree p q a c (inr at_a) (inl at_c) = one_other P Q R a c (one_over Q P R l k (bridge_back P Q R turn k l b) q p a c at_a at_c)
  joined_tree p q a c (inr at_a) (inr at_c) = one_other P Q R a c (one_near Q P R l k (bridge_back P Q R turn k l b) q a c at_a at_c)
