-- The first triangle with each corner, found from the last triangle on.
use Rattle.std.proofs.Common.{◌≡◌, ◌⊎◌, inl, inr, sym, subst, ◌∙◌, ℕ, ◌+◌, ◌<◌, List, length, get_or, set, length-set, arith}
use Rattle.std.proofs.lemmas.Bool.{cases_eq}
use Rattle.std.proofs.lemmas.List.{get_or-set_other, get_or-set_same, get_or_read}
use Rattle.meshes.specs.Side.{tri_at, HasCorner}
use Rattle.meshes.specs.declared.tri.Tri.{Tri}
use Rattle.tri_mesh.specs.Corner.{KeepsFirsts, AreFirstsFrom, IsFirstAt}
use Rattle.tri_mesh.specs.Neighbours.{HasCornersBelow}

-- where triangle k is put to its corners
module _ (tris : List Tri) (firsts : List ℕ) (k : ℕ) (within : k < length tris) (corners : HasCornersBelow (length firsts) (tri_at tris k))
    (known : AreFirstsFrom tris (k + 1) firsts) where
  abbrev put : List ℕ
  put = set (set (set firsts (tri_at tris k).a k) (tri_at tris k).b k) (tri_at tris k).c k

  -- there are as many corners,
  same_length : length put ≡ length firsts
  same_length = simp length-set

  -- one of its own has it,
  kept : (xs : List ℕ) (i j : ℕ) → j < length xs → get_or xs i 0 ≡ k → get_or (set xs j k) i 0 ≡ k
  kept xs i j in_list e = elim (cases_eq i j) [
    | inl same ↦ rw same (get_or-set_same xs j k 0 in_list)
    | inr differ ↦ get_or-set_other xs j i k 0 differ ∙ e
  ]

  second_within : (tri_at tris k).b < length (set firsts (tri_at tris k).a k)
  second_within = simp length-set corners.b

  third_within : (tri_at tris k).c < length (set (set firsts (tri_at tris k).a k) (tri_at tris k).b k)
  third_within = simp length-set corners.c

  own : (i : ℕ) → HasCorner (tri_at tris k) i → get_or put i 0 ≡ k
  own i (inl e) =
      let first = subst (λ n. get_or (set firsts (tri_at tris k).a k) n 0 ≡ k) e (get_or-set_same firsts (tri_at tris k).a k 0 corners.a) in
      kept _ i (tri_at tris k).c third_within (kept _ i (tri_at tris k).b second_within first)
  own i (inr (inl e)) =
      let second = subst (λ n. get_or (set (set firsts (tri_at tris k).a k) (tri_at tris k).b k) n 0 ≡ k) e
      (get_or-set_same (set firsts (tri_at tris k).a k) (tri_at tris k).b k 0 second_within) in
      kept _ i (tri_at tris k).c third_within second
  own i (inr (inr e)) = subst (λ n. get_or put n 0 ≡ k) e
      (get_or-set_same (set (set firsts (tri_at tris k).a k) (tri_at tris k).b k) (tri_at tris k).c k 0 third_within)

  -- and the others are as they were
  other : (i : ℕ) → ¬ HasCorner (tri_at tris k) i → get_or put i 0 ≡ get_or firsts i 0
  other i has_not =
      get_or-set_other _ (tri_at tris k).c i k 0 (λ e. has_not (inr (inr (sym e))))
      ∙ get_or-set_other _ (tri_at tris k).b i k 0 (λ e. has_not (inr (inl (sym e))))
      ∙ get_or-set_other firsts (tri_at tris k).a i k 0 (λ e. has_not (inl (sym e)))

  -- a number is a corner or not
  corner_or_not : (i : ℕ) → HasCorner (tri_at tris k) i ⊎ (¬ HasCorner (tri_at tris k) i)
  corner_or_not i = grind arith

  pub one_put : AreFirstsFrom tris k put
  one_put i below = elim (corner_or_not i) [
    | inl has ↦ rw (own i has) (record { has = λ _. has; least = λ l low high at_l. low })
    | inr has_not ↦
        let before = known i (omega (arith, same_length)) in
        rw (other i has_not) (record {
          has = before.has;
          least = λ l low high at_l. elim (cases_eq l k) [
            | inl same ↦ absurd (has_not (subst (λ n. HasCorner (tri_at tris n) i) same at_l))
            | inr differ ↦ before.least l (omega (arith, differ)) high at_l
          ];
        })
  ]

-- what a mesh keeps of it tells the first triangle with a corner
module _ (tris : List Tri) (firsts : List ℕ) (i : ℕ) (keeps : KeepsFirsts tris firsts) (some : (k : ℕ) × (k < length tris) × HasCorner (tri_at tris k) i) where
  pub corner_within : i < length firsts
  corner_within = keeps.within i some.0 some.1 some.2

  module _ (v : ℕ) (is : v ≡ get_or firsts i v) where
    at_corner : IsFirstAt tris 0 i v
    at_corner = rw (get_or_read firsts i v corner_within is 0) (keeps.all i corner_within)

    pub first_in_list : v < length tris
    first_in_list = let h = at_corner.least some.0 (omega arith) some.1 some.2 in omega (arith, h, some.1)

    pub first_has : HasCorner (tri_at tris v) i
    first_has = at_corner.has first_in_list

    pub none_before : (k : ℕ) → k < v → ¬ HasCorner (tri_at tris k) i
    none_before k before has = let h = at_corner.least k (omega arith) (omega (arith, first_in_list)) has in omega (arith, h)
