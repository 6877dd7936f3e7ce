-- Paths that visit no number twice, in a graph whose vertices are numbers, and graphs with one path between each two.
use Rattle.std.proofs.Common.{◌≡◌, ◌⊎◌, inl, inr, refl, sym, ap, subst, ◌∙◌, ℕ, List, [], ◌∷◌, ◌++◌, map}
use Rattle.std.proofs.lemmas.Bool.{cases_eq}

-- a is not in the list
abbrev pub IsNew : ℕ → List ℕ → Type 0
IsNew a [] = Unit {0}
IsNew a (b ∷ bs) = (¬ (a ≡ b)) × IsNew a bs

-- from a over the list to c: each number of the list is in P, joined to the one before it, and there once
abbrev pub IsPath : (ℕ → Type 0) → (ℕ → ℕ → Type 0) → ℕ → List ℕ → ℕ → Type 0
IsPath P R a [] c = a ≡ c
IsPath P R a (b ∷ bs) c = P b × R a b × IsNew a (b ∷ bs) × IsPath P R b bs c

-- the one path from a to c
pub record OnePath (P : ℕ → Type 0) (R : ℕ → ℕ → Type 0) (a c : ℕ) : Type 0 where
  pub path : List ℕ
  pub is_path : IsPath P R a path c
  pub only : (other : List ℕ) → IsPath P R a other c → other ≡ path

-- there is one path between each two numbers of P
abbrev pub IsTreeOn : (ℕ → Type 0) → (ℕ → ℕ → Type 0) → Type 0
IsTreeOn P R = (a c : ℕ) → P a → P c → OnePath P R a c

-- ---- numbers that are new

-- a number is new to the front of a list,
pub new_front : (a : ℕ) (bs cs : List ℕ) → IsNew a (bs ++ cs) → IsNew a bs
new_front a [] cs h = tt
new_front a (b ∷ bs) cs h = (h.0, new_front a bs cs h.1)

-- and to two lists together
pub new_append : (a : ℕ) (bs cs : List ℕ) → IsNew a bs → IsNew a cs → IsNew a (bs ++ cs)
new_append a [] cs h k = k
new_append a (b ∷ bs) cs h k = (h.0, new_append a bs cs h.1 k)

-- a number is new to a list or not
pub new_or_not : (a : ℕ) (bs : List ℕ) → IsNew a bs ⊎ (¬ IsNew a bs)
new_or_not a [] = inl tt
new_or_not a (b ∷ bs) = elim (cases_eq a b) [
  | inl same ↦ inr (λ new. new.0 same)
  | inr differs ↦ elim (new_or_not a bs) [ inl new ↦ inl (differs, new) | inr old ↦ inr (λ new. old new.1) ]
]

-- ---- other names of the numbers

-- the graph of Q and S is that of P and R, with f a for a
pub record Renames (P : ℕ → Type 0) (R : ℕ → ℕ → Type 0) (Q : ℕ → Type 0) (S : ℕ → ℕ → Type 0) (f g : ℕ → ℕ) : Type 0 where
  pub goes : (a : ℕ) → P a → Q (f a)
  pub comes : (a : ℕ) → Q a → P (g a)
  pub there : (a : ℕ) → P a → g (f a) ≡ a
  pub back : (a : ℕ) → Q a → f (g a) ≡ a
  pub joins : (a b : ℕ) → P a → P b → R a b → S (f a) (f b)
  pub joined : (a b : ℕ) → Q a → Q b → S a b → R (g a) (g b)

module _ (P : ℕ → Type 0) (R : ℕ → ℕ → Type 0) (Q : ℕ → Type 0) (S : ℕ → ℕ → Type 0) (f g : ℕ → ℕ) (r : Renames P R Q S f g) where
  -- what is new stays so,
  new_renamed : (a b : ℕ) (bs : List ℕ) (c : ℕ) → P a → P b → IsPath P R b bs c → IsNew a (b ∷ bs) → IsNew (f a) (map f (b ∷ bs))
  new_renamed a b [] c at_a at_b p n =
      (λ e. n.0 (sym (r.there a at_a) ∙ ap g e ∙ r.there b at_b), tt)
  new_renamed a b (d ∷ bs) c at_a at_b p n =
      (λ e. n.0 (sym (r.there a at_a) ∙ ap g e ∙ r.there b at_b), new_renamed a d bs c at_a p.0 p.3 n.1)

  -- a path is one under the other names,
  path_renamed : (a : ℕ) (bs : List ℕ) (c : ℕ) → P a → IsPath P R a bs c → IsPath Q S (f a) (map f bs) (f c)
  path_renamed a [] c at_a p = ap f p
  path_renamed a (b ∷ bs) c at_a p =
      (r.goes b p.0, r.joins a b at_a p.0 p.1, new_renamed a b bs c at_a p.0 p.3 p.2, path_renamed b bs c p.0 p.3)

  -- and renaming there and back changes no path
  names_back : (a : ℕ) (bs : List ℕ) (c : ℕ) → IsPath Q S a bs c → map f (map g bs) ≡ bs
  names_back a [] c p = refl
  names_back a (b ∷ bs) c p = λ i. r.back b p.0 i ∷ names_back b bs c p.3 i

-- the names go both ways
renames_back : (P : ℕ → Type 0) (R : ℕ → ℕ → Type 0) (Q : ℕ → Type 0) (S : ℕ → ℕ → Type 0) (f g : ℕ → ℕ)
    → Renames P R Q S f g → Renames Q S P R g f
renames_back P R Q S f g r = record { goes = r.comes; comes = r.goes; there = r.back; back = r.there; joins = r.joined; joined = r.joins }

-- so a tree is one under the other names
pub tree_renamed : (P : ℕ → Type 0) (R : ℕ → ℕ → Type 0) (Q : ℕ → Type 0) (S : ℕ → ℕ → Type 0) (f g : ℕ → ℕ)
    → Renames P R Q S f g → IsTreeOn P R → IsTreeOn Q S
tree_renamed P R Q S f g r tree a c at_a at_c =
    let one = tree (g a) (g c) (r.comes a at_a) (r.comes c at_c) in
    let there = path_renamed P R Q S f g r (g a) one.path (g c) (r.comes a at_a) one.is_path in
    record {
      path = map f one.path;
      is_path =
          subst (λ x. IsPath Q S x (map f one.path) c) (r.back a at_a)
          (subst (λ y. IsPath Q S (f (g a)) (map f one.path) y) (r.back c at_c) there);
      only = λ other p.
          let back = path_renamed Q S P R g f (renames_back P R Q S f g r) a other c at_a p in
          sym (names_back P R Q S f g r a other c p) ∙ ap (map f) (one.only (map g other) back);
    }

-- and where the same numbers are told otherwise
pub tree_of_same : (P Q : ℕ → Type 0) (R : ℕ → ℕ → Type 0) → ((a : ℕ) → P a → Q a) → ((a : ℕ) → Q a → P a) → IsTreeOn P R → IsTreeOn Q R
tree_of_same P Q R goes comes =
    tree_renamed P R Q R (λ a. a) (λ a. a)
    (record { goes = goes; comes = comes; there = λ a h. refl; back = λ a h. refl; joins = λ a b h k r. r; joined = λ a b h k r. r })
