-- In a tree a walk, and another one from its end that does not turn back, make one walk.
use Rattle.std.proofs.Common.{◌≡◌, inl, inr, refl, sym, ap, subst, ◌∙◌, ℕ, suc, ◌-◌, ◌<◌, List, [], ◌∷◌, ◌++◌, length, get_or, drop, arith}
use Rattle.std.proofs.lemmas.Bool.{cases_eq}
use Rattle.meshes.proofs.Walks.{IsNew, IsPath, IsPlace, IsTreeOn, Touch, last_place, new_front, new_or_not, path_of_walk, share_back, tree_of_walks}
use Rattle.meshes.specs.Prelude.{IsTree, IsWalk, tri_at}
use Rattle.meshes.specs.declared.tri.Tri.{Tri}

-- the list begins with x
abbrev Begins : ℕ → List ℕ → Type 0
Begins x [] = ⊥
Begins x (y ∷ ys) = x ≡ y

-- the list after a path from a over bs does not begin with the last but one of the path
abbrev GoesOn : ℕ → List ℕ → List ℕ → Type 0
GoesOn a [] cs = Unit {0}
GoesOn a (b ∷ []) cs = ¬ Begins a cs
GoesOn a (b ∷ d ∷ ds) cs = GoesOn b (d ∷ ds) cs

-- ---- paths

module _ (P : ℕ → Type 0) (R : ℕ → ℕ → Type 0) (turn : (a b : ℕ) → R a b → R b a) (tree : IsTreeOn P R) where
  -- a path from a over bs goes first to x
  record IsOver (x a : ℕ) (bs : List ℕ) : Type 0 where
    front : List ℕ
    back : List ℕ
    parts : bs ≡ front ++ back
    path : IsPath P R a front x

  -- a path goes first to each number on it
  path_over : (x a : ℕ) (bs : List ℕ) (c : ℕ) → IsPath P R a bs c → ¬ IsNew x (a ∷ bs) → IsOver x a bs
  path_over x a [] c p old = elim (cases_eq x a) [
    | inl same ↦ record { front = []; back = []; parts = refl; path = sym same }
    | inr differs ↦ absurd (old (differs, tt))
  ]
  path_over x a (b ∷ bs) c p old = elim (cases_eq x a) [
    | inl same ↦ record { front = []; back = b ∷ bs; parts = refl; path = sym same }
    | inr differs ↦
        let o = path_over x b bs c p.3 (λ new. old (differs, new)) in
        record {
          front = b ∷ o.front;
          back = o.back;
          parts = λ i. b ∷ o.parts i;
          path = (p.0, p.1, new_front a (b ∷ o.front) o.back (subst (λ ys. IsNew a (b ∷ ys)) o.parts p.2), o.path);
        }
  ]

  -- so a number that is joined to its first one, and on it, is the next
  next_of : (x a : ℕ) (bs : List ℕ) (c : ℕ) → P a → P x → R a x → ¬ (a ≡ x) → IsPath P R a bs c → ¬ IsNew x (a ∷ bs) → Begins x bs
  next_of x a bs c at_a at_x joined differs p old =
      let o = path_over x a bs c p old in
      let one = tree a x at_a at_x in
      let step : IsPath P R a (x ∷ []) x = (at_x, joined, (differs, tt), refl) in
      let same : o.front ≡ x ∷ [] = one.only o.front o.path ∙ sym (one.only (x ∷ []) step) in
      subst (Begins x) (sym (o.parts ∙ ap (λ xs. xs ++ o.back) same)) refl

  -- a path and another one from its end are one path, where this goes on
  joined_paths : (a : ℕ) (bs : List ℕ) (e : ℕ) (cs : List ℕ) (c : ℕ) → P a → IsPath P R a bs e → IsPath P R e cs c → GoesOn a bs cs
      → IsPath P R a (bs ++ cs) c
  joined_paths a [] e cs c at_a p q on = subst (λ x. IsPath P R x cs c) (sym p) q
  joined_paths a (b ∷ []) e cs c at_a p q on =
      let rest = subst (λ x. IsPath P R x cs c) (sym p.3) q in
      elim (new_or_not a (b ∷ cs)) [
        | inl new ↦ (p.0, p.1, new, rest)
        | inr old ↦ absurd (on (next_of a b cs c p.0 at_a (turn a b p.1) (λ e. p.2.0 (sym e)) rest old))
      ]
  joined_paths a (b ∷ d ∷ ds) e cs c at_a p q on =
      let rest = joined_paths b (d ∷ ds) e cs c p.0 p.3 q on in
      elim (new_or_not a (b ∷ d ∷ (ds ++ cs))) [
        | inl new ↦ (p.0, p.1, new, rest)
        | inr old ↦
            absurd (p.2.1.0 (next_of a b (d ∷ (ds ++ cs)) c p.0 at_a (turn a b p.1) (λ e. p.2.0 (sym e)) rest old))
      ]

-- ---- walks

-- a second triangle that is not the last but one of a walk goes on
goes_on : (a : ℕ) (bs cs : List ℕ) (e : ℕ) → (0 < length bs → 0 < length cs → ¬ (get_or (a ∷ bs) (length bs - 1) 0 ≡ get_or cs 0 0)) → GoesOn a bs cs
goes_on a [] cs e h = tt
goes_on a (b ∷ []) [] e h = λ n. n
goes_on a (b ∷ []) (d ∷ ds) e h = λ n. h (omega arith) (omega arith) n
goes_on a (b ∷ d ∷ ds) cs e h =
    goes_on b (d ∷ ds) cs e
    (λ _ some same. h (omega arith) some
    (let last : length (b ∷ d ∷ ds) - 1 ≡ suc (length (d ∷ ds) - 1) = omega arith in
    subst (λ n. get_or (a ∷ b ∷ d ∷ ds) n 0 ≡ get_or cs 0 0) (sym last) same))

-- the last place but one of a list
last_but_one : (a : ℕ) (bs : List ℕ) → get_or (a ∷ bs) (length (a ∷ bs) - 2) 0 ≡ get_or (a ∷ bs) (length bs - 1) 0
last_but_one a bs = let e : length (a ∷ bs) - 2 ≡ length bs - 1 = omega arith in ap (λ n. get_or (a ∷ bs) n 0) e

module _ (tris : List Tri) (tree : IsTree tris) where
  -- a walk by its first triangle and the rest
  by_lists : (a : ℕ) (bs : List ℕ) (e : ℕ) (cs : List ℕ) (x : ℕ) (xs : List ℕ) → IsWalk tris (a ∷ bs) → IsWalk tris (e ∷ cs) → IsWalk tris (x ∷ xs)
      → x ≡ a → e ≡ get_or (a ∷ bs) (length bs) 0 → get_or (x ∷ xs) (length xs) 0 ≡ get_or (e ∷ cs) (length cs) 0
      → (0 < length bs → 0 < length cs → ¬ (get_or (a ∷ bs) (length bs - 1) 0 ≡ get_or cs 0 0)) → x ∷ xs ≡ (a ∷ bs) ++ cs
  by_lists a bs e cs x xs front back walk first between last on =
      let R = Touch tris in
      let c = get_or (e ∷ cs) (length cs) 0 in
      let at_a : IsPlace tris a = front.in_list 0 (omega arith) in
      let paths = tree_of_walks tris tree in
      let p = path_of_walk tris a bs e front (sym between) in
      let q = path_of_walk tris e cs c back refl in
      let whole = joined_paths (IsPlace tris) R (λ k l. share_back (tri_at tris k) (tri_at tris l)) paths a bs e cs c at_a p q (goes_on a bs cs e on) in
      let other = subst (λ y. IsPath (IsPlace tris) R y xs c) first (path_of_walk tris x xs c walk last) in
      let one = paths a c at_a (back.in_list (length cs) (omega arith)) in
      let same : xs ≡ bs ++ cs = one.only xs other ∙ sym (one.only (bs ++ cs) whole) in
      λ i. first i ∷ same i

  -- a walk from the first triangle of one walk to the last of another is both together, where the other one begins at the last
  -- triangle of the one and does not turn back
  pub joined_walks : (front back walk : List ℕ) → IsWalk tris front → IsWalk tris back → IsWalk tris walk → get_or walk 0 0 ≡ get_or front 0 0
      → get_or back 0 0 ≡ get_or front (length front - 1) 0 → get_or walk (length walk - 1) 0 ≡ get_or back (length back - 1) 0
      → (1 < length front → 1 < length back → ¬ (get_or front (length front - 2) 0 ≡ get_or back 1 0)) → walk ≡ front ++ drop 1 back
  joined_walks [] back walk v w u first between last on = absurd (omega (arith, v.some))
  joined_walks front [] walk v w u first between last on = absurd (omega (arith, w.some))
  joined_walks front back [] v w u first between last on = absurd (omega (arith, u.some))
  joined_walks (a ∷ bs) (e ∷ cs) (x ∷ xs) v w u first between last on =
      by_lists a bs e cs x xs v w u first (between ∙ last_place a bs) (sym (last_place x xs) ∙ last ∙ last_place e cs)
      (λ some more same. on (omega arith) (omega arith) (last_but_one a bs ∙ same))
