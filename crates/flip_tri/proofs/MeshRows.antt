-- The rows of the triangles of a mesh.
use Rattle.std.proofs.Common.{◌≡◌, refl, sym, ap, subst, ◌∙◌, inl, inr, ℕ, zero, suc, ◌+◌, ◌<◌, ◌↔◌, IfSome, IsNone, List, [], ◌∷◌, ◌++◌, length, get_or, take, arith, Some, None}
use Rattle.std.proofs.Math.Seq.{take-suc}
use Rattle.std.proofs.lemmas.Bool.{cases_lt}
use Rattle.std.proofs.lemmas.List.{get_or_append_left, get_or_default, get_or_push}
use Rattle.std.specs.Prelude.{Option, slice_index_or}
use Rattle.meshes.specs.Fits.{IsSideOfOne, IsSideOfTwo}
use Rattle.meshes.specs.Mesh.{side_begin, side_end}
use Rattle.meshes.specs.Side.{HasSide, HasSidesOnce, tri_at}
use Rattle.meshes.specs.declared.tri.Tri.{Tri}
use Rattle.flip_tri.specs.Flips.{KnowsNeighbours}
use Rattle.flip_tri.specs.Shared.{IsAcrossFrom, IsRowOf}

module _ (tris : List Tri) where
  module _ (once : HasSidesOnce tris) (k i j : ℕ) where
    -- what a mesh answers for a side is beside it,
    beside_of_mesh : (beside : Option ℕ) → IsNone beside ↔ IsSideOfOne tris i j k → IfSome beside (IsSideOfTwo tris i j k) → IsAcrossFrom tris i j beside
    beside_of_mesh None none some l in_list has =
        let one = none.0 refl in
        let same = one.only l in_list (inr has) in
        absurd (once.one_way i j k one.in_list one.has (subst (λ m. HasSide (tri_at tris m) j i) same has))
    beside_of_mesh (Some m) none two l in_list has = elim (two.only l in_list (inr has)) [
      | inl same ↦ absurd (once.one_way i j k two.in_list two.has (subst (λ n. HasSide (tri_at tris n) j i) same has))
      | inr same ↦ ap Some (sym same)
    ]

    -- and in the list
    within_of_mesh : (beside : Option ℕ) → IfSome beside (IsSideOfTwo tris i j k) → (l : ℕ) → beside ≡ Some l → l < length tris
    within_of_mesh beside some l is = (subst (λ o. IfSome o (IsSideOfTwo tris i j k)) is some).other_in_list

  -- what it answers for one side
  abbrev pub IsAnswer : ℕ → ℕ → Option ℕ → Type 0
  IsAnswer k side beside =
      (IsNone beside ↔ IsSideOfOne tris (side_begin (tri_at tris k) side) (side_end (tri_at tris k) side) k)
      × IfSome beside (IsSideOfTwo tris (side_begin (tri_at tris k) side) (side_end (tri_at tris k) side) k)

  -- so three answers are a row
  pub row_of_mesh : HasSidesOnce tris → (k : ℕ) (o p q : Option ℕ) → IsAnswer k 0 o → IsAnswer k 1 p → IsAnswer k 2 q
      → IsRowOf tris k (o ∷ p ∷ q ∷ [])
  row_of_mesh once k o p q first second third = record {
    three = refl;
    within = within;
    all = all;
  }
    where
      t : Tri
      t = tri_at tris k

      within : (side l : ℕ) → side < 3 → get_or (o ∷ p ∷ q ∷ []) side None ≡ Some l → l < length tris
      within zero l below is = within_of_mesh once k _ _ o first.1 l is
      within (suc zero) l below is = within_of_mesh once k _ _ p second.1 l is
      within (suc (suc zero)) l below is = within_of_mesh once k _ _ q third.1 l is
      within (suc (suc (suc n))) l below is = absurd (omega (arith, below))

      all : (side : ℕ) → side < 3 → IsAcrossFrom tris (side_begin t side) (side_end t side) (get_or (o ∷ p ∷ q ∷ []) side None)
      all zero below = beside_of_mesh once k _ _ o first.0 first.1
      all (suc zero) below = beside_of_mesh once k _ _ p second.0 second.1
      all (suc (suc zero)) below = beside_of_mesh once k _ _ q third.0 third.1
      all (suc (suc (suc n))) below = absurd (omega (arith, below))

  module _ (k : ℕ) (rows : List (List (Option ℕ))) (count : length rows ≡ k) (each : (i : ℕ) → i < k → IsRowOf tris i (slice_index_or rows i [])) where
    -- with one more row they are those of one triangle more
    pub one_more_row : (row : List (Option ℕ)) → IsRowOf tris k row → (i : ℕ) → i < k + 1 → IsRowOf tris i (slice_index_or (rows ++ row ∷ []) i [])
    one_more_row row is i below = elim (cases_lt i k) [
      | inl less ↦ subst (IsRowOf tris i) (sym (get_or_append_left rows (row ∷ []) [] i (omega (arith, less, count)))) (each i less)
      | inr not_less ↦
          let last : i ≡ length rows = omega (arith, below, not_less, count) in
          let here : i ≡ k = last ∙ count in
          subst (λ j. IsRowOf tris j (slice_index_or (rows ++ row ∷ []) i [])) (sym here)
          (subst (IsRowOf tris k) (sym (get_or_push rows row [] i (sym last))) is)
    ]

    -- all rows
    pub all_rows : k ≡ length tris → KnowsNeighbours tris rows
    all_rows all = record {
      count = count ∙ all;
      three = λ i d below. ap length (get_or_default rows i d [] below) ∙ (each i (omega (arith, below, count))).three;
      within = λ i side l below in_row is. (each i (omega (arith, below, all))).within side l in_row is;
      all = λ i side l below in_row within has. (each i (omega (arith, below, all))).all side in_row l within has;
    }

-- one triangle more of those of a list
pub one_more_taken : (tris first : List Tri) (t : Tri) (k : ℕ) → k < length tris → first ≡ take k tris → t ≡ tri_at tris k
    → first ++ t ∷ [] ≡ take (k + 1) tris
one_more_taken tris first t k below is at =
    let next : k + 1 ≡ suc k = omega arith in
    rw (is, at, next) (sym (take-suc tris k (record { a = 0; b = 0; c = 0 }) below))
