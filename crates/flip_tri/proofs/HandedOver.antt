-- Rows of neighbours where one entry is set: it is known then, and so is what was known.
use Rattle.std.proofs.Common.{◌≡◌, refl, sym, ap, subst, ◌∙◌, ℕ, zero, suc, ◌<◌, inl, inr, List, [], length, arith, Some, None}
use Rattle.std.proofs.lemmas.Bool.{cases_eq}
use Rattle.std.proofs.lemmas.List.{get_or-set_other, get_or-set_same}
use Rattle.std.specs.Prelude.{Option, slice_index_or, slice_set}
use Rattle.meshes.specs.Mesh.{side_begin, side_end}
use Rattle.meshes.specs.Side.{HasSide, HasSidesOnce, tri_at}
use Rattle.meshes.specs.declared.tri.Tri.{Tri}
use Rattle.tri_mesh.proofs.Neighbours.{has_side_numbered}
use Rattle.flip_tri.specs.Shared.{AreTriangleRows, IsKnown, entry}
use Rattle.tri_mesh.specs.Triangle.{IsSideNumber}

-- a side by its number is a side
pub side_numbered : (t : Tri) (i j side : ℕ) → IsSideNumber t i j side → HasSide t i j
side_numbered t i j side is = subst (λ a. HasSide t a j) is.begins (subst (HasSide t (side_begin t side)) is.ends (has_side_numbered t side is.below))

-- a side with the corners of a side
pub has_side_moved : {t u : Tri} {i j m n : ℕ} → t ≡ u → i ≡ m → j ≡ n → HasSide t i j → HasSide u m n
has_side_moved {t} {u} {i} {j} {m} {n} tri from to has = subst (λ a. HasSide a m n) tri (subst (λ a. HasSide t a n) from (subst (HasSide t i) to has))

-- in a triangle with three corners it has one number
one_number : (t : Tri) → ¬ (t.a ≡ t.b) → ¬ (t.b ≡ t.c) → ¬ (t.c ≡ t.a) → (m n : ℕ) → m < 3 → n < 3 → side_begin t m ≡ side_begin t n → m ≡ n
one_number t ab bc ca zero zero hm hn e = refl
one_number t ab bc ca zero (suc zero) hm hn e = absurd (ab e)
one_number t ab bc ca zero (suc (suc zero)) hm hn e = absurd (ca (sym e))
one_number t ab bc ca zero (suc (suc (suc n))) hm hn e = absurd (omega arith)
one_number t ab bc ca (suc zero) zero hm hn e = absurd (ab (sym e))
one_number t ab bc ca (suc zero) (suc zero) hm hn e = refl
one_number t ab bc ca (suc zero) (suc (suc zero)) hm hn e = absurd (bc e)
one_number t ab bc ca (suc zero) (suc (suc (suc n))) hm hn e = absurd (omega arith)
one_number t ab bc ca (suc (suc zero)) zero hm hn e = absurd (ca e)
one_number t ab bc ca (suc (suc zero)) (suc zero) hm hn e = absurd (bc (sym e))
one_number t ab bc ca (suc (suc zero)) (suc (suc zero)) hm hn e = refl
one_number t ab bc ca (suc (suc zero)) (suc (suc (suc n))) hm hn e = absurd (omega arith)
one_number t ab bc ca (suc (suc (suc m))) n hm hn e = absurd (omega arith)

module _ (tris : List Tri) (once : HasSidesOnce tris) where
  -- a side has one number
  one_side : (k i j m n : ℕ) → k < length tris → IsSideNumber (tri_at tris k) i j m → IsSideNumber (tri_at tris k) i j n → m ≡ n
  one_side k i j m n in_list is also =
      let t = tri_at tris k in
      one_number t
      (λ e. once.one_way t.b t.b k in_list (inl (e, refl)) (inl (e, refl)))
      (λ e. once.one_way t.c t.c k in_list (inr (inl (e, refl))) (inr (inl (e, refl))))
      (λ e. once.one_way t.a t.a k in_list (inr (inr (e, refl))) (inr (inr (e, refl))))
      m n is.below also.below (is.begins ∙ sym also.begins)

  module _ (rows : List (List (Option ℕ))) (are : AreTriangleRows tris rows) (m side i j : ℕ) (in_list : m < length tris)
      (is : IsSideNumber (tri_at tris m) i j side) (other : ℕ) (other_in_list : other < length tris) (has : HasSide (tri_at tris other) j i)
      (row : List (Option ℕ)) (row_is : row ≡ slice_index_or rows m []) where
    abbrev after : List (List (Option ℕ))
    after = slice_set rows m (slice_set row side (Some other))

    entry_here : entry after m side ≡ Some other
    entry_here =
        let below : m < length rows = omega (arith, are.count, in_list) in
        let in_row : side < length row = omega (arith, are.three m [] below, is.below, ap length row_is) in
        rw (get_or-set_same rows m (slice_set row side (Some other)) [] below) (get_or-set_same row side (Some other) None in_row)

    entry_kept : (k n : ℕ) → ¬ ((k ≡ m) × (n ≡ side)) → entry after k n ≡ entry rows k n
    entry_kept k n apart = elim (cases_eq k m) [
      | inl same ↦
          let below : m < length rows = omega (arith, are.count, in_list) in
          rw (same, get_or-set_same rows m (slice_set row side (Some other)) [] below)
          (get_or-set_other row side n (Some other) None (λ e. apart (same, e)) ∙ ap (λ r. slice_index_or r n None) row_is)
      | inr differ ↦ rw (get_or-set_other rows m k (slice_set row side (Some other)) [] differ) refl
    ]

    -- the entry is known,
    known_here : IsKnown tris after m side
    known_here l l_in_list l_has =
        let back : HasSide (tri_at tris l) j i = subst (λ a. HasSide (tri_at tris l) a i) is.ends (subst (HasSide (tri_at tris l) (side_end (tri_at tris m) side)) is.begins l_has) in
        entry_here ∙ ap Some (once.once j i other l other_in_list l_in_list has back)

    -- and what was known
    pub known_kept : (k n : ℕ) → IsKnown tris rows k n → IsKnown tris after k n
    known_kept k n known = elim (cases_eq k m) [
      | inr differ ↦ λ l l_in_list l_has. entry_kept k n (λ e. differ e.0) ∙ known l l_in_list l_has
      | inl tri ↦ elim (cases_eq n side) [
        | inr differ ↦ λ l l_in_list l_has. entry_kept k n (λ e. differ e.1) ∙ known l l_in_list l_has
        | inl here ↦ subst (λ a. IsKnown tris after a n) (sym tri) (subst (IsKnown tris after m) (sym here) known_here)
      ]
    ]

    -- this side has no other number
    pub known_at : (k n : ℕ) → k ≡ m → IsSideNumber (tri_at tris k) i j n → IsKnown tris after k n
    known_at k n tri at =
        let at_m : IsSideNumber (tri_at tris m) i j n = subst (λ a. IsSideNumber (tri_at tris a) i j n) tri at in
        subst (λ a. IsKnown tris after a n) (sym tri) (subst (IsKnown tris after m) (one_side m i j side n in_list is at_m) known_here)
