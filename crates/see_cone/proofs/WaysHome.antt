-- The walks from the triangles of a mesh to a home: from a triangle that is beside another one, and not the next on its walk, the walk
-- goes over that other one.
use Rattle.std.proofs.Common.{◌≡◌, ◌⊎◌, inl, inr, refl, sym, ap, subst, ◌∙◌, ℕ, ◌<◌, List, [], ◌∷◌, ◌++◌, length, reverse}
use Rattle.std.proofs.lemmas.Bool.{cases_eq}
use Rattle.std.proofs.lemmas.Grind.{reverse_onto}
use Rattle.meshes.proofs.Walks.{IsNew, IsPath, IsPlace, Touch, between_of_path, last_place, path_of_walk, share_back, tree_of_walks}
use Rattle.meshes.specs.Side.{IsTree, IsWalkBetween, tri_at}
use Rattle.meshes.specs.declared.tri.Tri.{Tri}
use Rattle.dual_tree.proofs.Ways.{AreApart, walk_over}
use Rattle.see_cone.specs.Reached.{IsNextHomeward, first_or}

-- no number is in a list and in none
apart_none : (xs : List ℕ) → AreApart xs []
apart_none [] = tt
apart_none (x ∷ xs) = (tt, apart_none xs)

module _ (tris : List Tri) where
  -- a path between triangles of the list
  abbrev IsTriPath : ℕ → List ℕ → ℕ → Type 0
  IsTriPath = IsPath (IsPlace tris) (Touch tris)

  -- a number is new to a path, or the path goes on from it
  new_or_from : (d b : ℕ) (bs : List ℕ) (c : ℕ) → IsTriPath b bs c → (x : ℕ) → IsNew x (b ∷ bs)
      → IsNew d (b ∷ bs) ⊎ ((rest : List ℕ) × IsTriPath d rest c × IsNew x (d ∷ rest))
  new_or_from d b [] c p x new = elim (cases_eq d b) [
    | inl same ↦ inr ([], same ∙ p, subst (λ y. IsNew x (y ∷ [])) (sym same) new)
    | inr differs ↦ inl (differs, tt)
  ]
  new_or_from d b (y ∷ ys) c p x new = elim (cases_eq d b) [
    | inl same ↦ inr (y ∷ ys, subst (λ z. IsTriPath z (y ∷ ys) c) (sym same) p, subst (λ z. IsNew x (z ∷ y ∷ ys)) (sym same) new)
    | inr differs ↦ elim (new_or_from d y ys c p.3 x new.1) [ inl k ↦ inl (differs, k) | inr k ↦ inr k ]
  ]

  module _ (tree : IsTree tris) (home : ℕ) (home_below : home < length tris) where
    -- the walk as a path,
    path_home : (k : ℕ) (rest : List ℕ) → IsWalkBetween tris k home (k ∷ rest) → IsTriPath k rest home
    path_home k rest w = path_of_walk tris k rest home w.is_walk (sym (last_place k rest) ∙ w.last)

    -- of which there is one
    one_path : (k : ℕ) → k < length tris → (xs ys : List ℕ) → IsTriPath k xs home → IsTriPath k ys home → xs ≡ ys
    one_path k below xs ys p r =
        let one = tree_of_walks tris tree k home below home_below in one.only xs p ∙ sym (one.only ys r)

    -- so it goes first to one triangle
    pub one_from : (k from other : ℕ) → k < length tris → IsNextHomeward tris home from k → IsNextHomeward tris home other k → from ≡ other
    one_from k from other below a b =
        let same = one_path k below a.rest b.rest (path_home k a.rest a.walk) (path_home k b.rest b.walk) in
        sym a.first ∙ ap (first_or k) same ∙ b.first

    -- from the home it goes nowhere
    pub home_from : IsNextHomeward tris home home home
    home_from = record { rest = []; walk = between_of_path tris home [] home home_below refl; first = refl }

    -- a triangle beside another one, and not the next from there, is reached from it
    pub reached_beside : (k from l : ℕ) → k < length tris → l < length tris → IsNextHomeward tris home from k → Touch tris k l → ¬ (l ≡ k)
        → ¬ (l ≡ from) → IsNextHomeward tris home k l
    reached_beside k from l k_below l_below a touch differs other =
        by_rest a.rest (path_home k a.rest a.walk) a.first
      where
        touch_back : Touch tris l k
        touch_back = share_back (tri_at tris k) (tri_at tris l) touch

        over : (rest : List ℕ) → IsTriPath k rest home → IsNew l (k ∷ rest) → IsNextHomeward tris home k l
        over rest p new = record {
          rest = k ∷ rest;
          walk = between_of_path tris l (k ∷ rest) home l_below (k_below, touch_back, new, p);
          first = refl;
        }

        by_rest : (rest : List ℕ) → IsTriPath k rest home → first_or k rest ≡ from → IsNextHomeward tris home k l
        by_rest [] p first = over [] p (differs, tt)
        by_rest (x ∷ xs) p first = elim (new_or_from l x xs home p.3 k p.2) [
          | inl new ↦ over (x ∷ xs) p (differs, new)
          | inr on ↦
              let same : l ∷ on.0 ≡ x ∷ xs = one_path k k_below (l ∷ on.0) (x ∷ xs) (l_below, touch, on.2, on.1) p in
              absurd (other (ap (first_or k) same ∙ first))
        ]

    -- the walk from the home to a triangle, and that to one that is reached from it
    pub record IsForth (k l : ℕ) : Type 0 where
      pub walk : List ℕ
      pub near : IsWalkBetween tris home k walk
      pub far : IsWalkBetween tris home l (walk ++ l ∷ [])

    pub forth : (k l : ℕ) (rest : List ℕ) → k < length tris → l < length tris → IsTriPath l (k ∷ rest) home → IsForth k l
    forth k l rest k_below l_below p = record {
      walk = reverse rest ++ k ∷ [];
      near = walk_over tris home k home_below rest k [] k_below p.3 refl (apart_none rest);
      far = subst (λ xs. IsWalkBetween tris home l (xs ++ l ∷ [])) (reverse_onto rest k [])
          (walk_over tris home l home_below (k ∷ rest) l [] l_below p refl (apart_none (k ∷ rest)));
    }

    pub forth_of : (k l : ℕ) → k < length tris → l < length tris → ¬ (l ≡ k) → IsNextHomeward tris home k l → IsForth k l
    forth_of k l k_below l_below differs from = by_rest from.rest (path_home l from.rest from.walk) from.first
      where
        by_rest : (rest : List ℕ) → IsTriPath l rest home → first_or l rest ≡ k → IsForth k l
        by_rest [] p first = absurd (differs first)
        by_rest (x ∷ xs) p first = forth k l xs k_below l_below (subst (λ y. IsTriPath l (y ∷ xs) home) first p)
