-- Walks over the triangles of a list, and the paths in the graph of the triangles that share sides.
use Rattle.std.proofs.Common.{◌≡◌, inl, inr, refl, sym, ap, subst, ◌∙◌, ℕ, zero, suc, ◌+◌, ◌-◌, ◌<◌, List, [], ◌∷◌, length, get_or, arith}
use Rattle.meshes.proofs.Walks.Paths.{IsNew, IsPath, IsTreeOn}
use Rattle.meshes.specs.Prelude.{IsTree, IsWalk, IsWalkBetween, ShareSide, tri_at}
use Rattle.meshes.specs.declared.tri.Tri.{Tri}

-- the number of a triangle of the list
abbrev pub IsPlace : List Tri → ℕ → Type 0
IsPlace tris k = k < length tris

-- two triangles of the list share a side
abbrev pub Touch : List Tri → ℕ → ℕ → Type 0
Touch tris k l = ShareSide (tri_at tris k) (tri_at tris l)

-- sharing a side goes both ways
pub share_back : (t u : Tri) → ShareSide t u → ShareSide u t
share_back t u s = elim s.of_second [
  | inl same ↦ record { i = s.i; j = s.j; of_first = same; of_second = inl s.of_first }
  | inr other ↦ record { i = s.j; j = s.i; of_first = other; of_second = inr s.of_first }
]

-- ---- numbers that are new

-- a number is new to a list if it differs from each number there,
pub new_from_places : (a : ℕ) (bs : List ℕ) → ((j : ℕ) → j < length bs → ¬ (a ≡ get_or bs j 0)) → IsNew a bs
new_from_places a [] differs = tt
new_from_places a (b ∷ bs) differs = (differs 0 (omega arith), new_from_places a bs (λ j h. differs (suc j) (omega arith)))

-- and only then
pub new_at_place : (a : ℕ) (bs : List ℕ) (j : ℕ) → IsNew a bs → j < length bs → ¬ (a ≡ get_or bs j 0)
new_at_place a [] j new h = absurd (omega arith)
new_at_place a (b ∷ bs) zero new h = new.0
new_at_place a (b ∷ bs) (suc j) new h = new_at_place a bs j new.1 (omega arith)

-- the last place of a list
pub last_place : (a : ℕ) (bs : List ℕ) → get_or (a ∷ bs) (length (a ∷ bs) - 1) 0 ≡ get_or (a ∷ bs) (length bs) 0
last_place a bs = let e : length (a ∷ bs) - 1 ≡ length bs = omega arith in ap (λ n. get_or (a ∷ bs) n 0) e

module _ (tris : List Tri) where
  -- ---- walks are paths

  -- a walk without its first triangle is a walk
  walk_tail : (a b : ℕ) (bs : List ℕ) → IsWalk tris (a ∷ b ∷ bs) → IsWalk tris (b ∷ bs)
  walk_tail a b bs w = record {
    some = omega arith;
    in_list = λ i h. w.in_list (suc i) (omega arith);
    once = λ i j h k. w.once (suc i) (suc j) (omega arith) (omega arith);
    sharing = λ i h.
        let e : suc i + 1 ≡ suc (i + 1) = omega arith in
        subst (λ n. Touch tris (get_or (b ∷ bs) i 0) (get_or (a ∷ b ∷ bs) n 0)) e (w.sharing (suc i) (omega arith));
  }

  -- a walk is a path
  pub path_of_walk : (a : ℕ) (bs : List ℕ) (c : ℕ) → IsWalk tris (a ∷ bs) → get_or (a ∷ bs) (length bs) 0 ≡ c → IsPath (IsPlace tris) (Touch tris) a bs c
  path_of_walk a [] c w e = e
  path_of_walk a (b ∷ bs) c w e = (
    w.in_list 1 (omega arith),
    w.sharing 0 (omega arith),
    new_from_places a (b ∷ bs) (λ j h. w.once 0 (suc j) (omega arith) (omega arith)),
    path_of_walk b bs c (walk_tail a b bs w) e,
  )

  -- ---- paths are walks

  -- one more triangle before a walk is in the list,
  more_in_list : (a b : ℕ) (bs : List ℕ) → IsPlace tris a → IsWalk tris (b ∷ bs) → (i : ℕ) → i < length (a ∷ b ∷ bs)
      → get_or (a ∷ b ∷ bs) i 0 < length tris
  more_in_list a b bs at_a w zero h = at_a
  more_in_list a b bs at_a w (suc i) h = w.in_list i (omega arith)

  -- is there once,
  more_once : (a b : ℕ) (bs : List ℕ) → IsNew a (b ∷ bs) → IsWalk tris (b ∷ bs) → (i j : ℕ) → i < j → j < length (a ∷ b ∷ bs)
      → ¬ (get_or (a ∷ b ∷ bs) i 0 ≡ get_or (a ∷ b ∷ bs) j 0)
  more_once a b bs new w i zero h k = absurd (omega arith)
  more_once a b bs new w zero (suc j) h k = new_at_place a (b ∷ bs) j new (omega arith)
  more_once a b bs new w (suc i) (suc j) h k = w.once i j (omega arith) (omega arith)

  -- and shares a side with the next
  more_sharing : (a b : ℕ) (bs : List ℕ) → Touch tris a b → IsWalk tris (b ∷ bs) → (i : ℕ) → i + 1 < length (a ∷ b ∷ bs)
      → Touch tris (get_or (a ∷ b ∷ bs) i 0) (get_or (a ∷ b ∷ bs) (i + 1) 0)
  more_sharing a b bs touch w zero h = touch
  more_sharing a b bs touch w (suc i) h =
      let e : suc (i + 1) ≡ suc i + 1 = omega arith in
      subst (λ n. Touch tris (get_or (b ∷ bs) i 0) (get_or (a ∷ b ∷ bs) n 0)) e (w.sharing i (omega arith))

  -- so the walk is one triangle longer
  walk_more : (a b : ℕ) (bs : List ℕ) → IsPlace tris a → Touch tris a b → IsNew a (b ∷ bs) → IsWalk tris (b ∷ bs) → IsWalk tris (a ∷ b ∷ bs)
  walk_more a b bs at_a touch new w = record {
    some = omega arith;
    in_list = more_in_list a b bs at_a w;
    once = more_once a b bs new w;
    sharing = more_sharing a b bs touch w;
  }

  -- the number of one triangle
  single_in_list : (a : ℕ) → IsPlace tris a → (i : ℕ) → i < 1 → get_or (a ∷ []) i 0 < length tris
  single_in_list a at_a zero h = at_a
  single_in_list a at_a (suc i) h = absurd (omega arith)

  -- a path is a walk,
  walk_of_path : (a : ℕ) (bs : List ℕ) (c : ℕ) → IsPlace tris a → IsPath (IsPlace tris) (Touch tris) a bs c → IsWalk tris (a ∷ bs)
  walk_of_path a [] c at_a p = record {
    some = omega arith;
    in_list = single_in_list a at_a;
    once = λ i j h k e. omega arith;
    sharing = λ i h. absurd (omega arith);
  }
  walk_of_path a (b ∷ bs) c at_a p = walk_more a b bs at_a p.1 p.2 (walk_of_path b bs c p.0 p.3)

  -- which ends where the path does
  path_last : (a : ℕ) (bs : List ℕ) (c : ℕ) → IsPath (IsPlace tris) (Touch tris) a bs c → get_or (a ∷ bs) (length bs) 0 ≡ c
  path_last a [] c p = p
  path_last a (b ∷ bs) c p = path_last b bs c p.3

  -- ---- one walk

  -- a path as a walk from one triangle to another
  pub between_of_path : (a : ℕ) (bs : List ℕ) (c : ℕ) → IsPlace tris a → IsPath (IsPlace tris) (Touch tris) a bs c → IsWalkBetween tris a c (a ∷ bs)
  between_of_path a bs c at_a p = record { is_walk = walk_of_path a bs c at_a p; first = refl; last = last_place a bs ∙ path_last a bs c p }

  -- a walk from one triangle to another as a path
  path_of_between : (a : ℕ) (bs : List ℕ) (c : ℕ) → IsWalkBetween tris a c (a ∷ bs) → IsPath (IsPlace tris) (Touch tris) a bs c
  path_of_between a bs c w = path_of_walk a bs c w.is_walk (sym (last_place a bs) ∙ w.last)

  -- the rest of a list
  rest_of : List ℕ → List ℕ
  rest_of [] = []
  rest_of (x ∷ xs) = xs

  -- a walk begins with its first triangle
  begins : (a c : ℕ) (walk : List ℕ) → IsWalkBetween tris a c walk → walk ≡ a ∷ rest_of walk
  unfolding rest_of
  begins a c [] w = absurd (omega (arith, w.is_walk.some))
  begins a c (x ∷ xs) w = λ i. w.first i ∷ xs

  -- the one walk is the one path,
  pub tree_of_walks : IsTree tris → IsTreeOn (IsPlace tris) (Touch tris)
  unfolding rest_of
  tree_of_walks tree a c at_a at_c =
      let one = tree a c at_a at_c in
      let is = begins a c one.walk one.between in
      record {
        path = rest_of one.walk;
        is_path = path_of_between a (rest_of one.walk) c (subst (λ w. IsWalkBetween tris a c w) is one.between);
        only = λ other p. ap rest_of (one.only (a ∷ other) (between_of_path a other c at_a p));
      }

  -- and the other way round
  pub tree_of_paths : IsTreeOn (IsPlace tris) (Touch tris) → IsTree tris
  tree_of_paths tree a c at_a at_c =
      let one = tree a c at_a at_c in
      record {
        walk = a ∷ one.path;
        between = between_of_path a one.path c at_a one.is_path;
        only = λ other w.
            let is = begins a c other w in
            let p = path_of_between a (rest_of other) c (subst (λ v. IsWalkBetween tris a c v) is w) in
            is ∙ ap (λ v. a ∷ v) (one.only (rest_of other) p);
      }
