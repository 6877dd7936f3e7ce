-- The rows of the table with a triangle at a side.
use Rattle.std.proofs.Common.{◌≡◌, refl, sym, ◌∙◌, ℕ, ◌<◌, ◌⊎◌, inl, inr, List, [], length, arith, Some, None}
use Rattle.std.proofs.Math.ListN.{length-set}
use Rattle.std.proofs.lemmas.Bool.{cases_eq}
use Rattle.std.proofs.lemmas.List.{get_or-set_other, get_or-set_same}
use Rattle.std.proofs.lemmas.List.Elements.{All-set}
use Rattle.std.specs.List.{All}
use Rattle.std.specs.Prelude.{Option, slice_index_or, slice_set}
use Rattle.tri_mesh.specs.Neighbours.{HasOwner, owner_at, rows_with}
use Rattle.tri_mesh.specs.declared.sides.Side.{Side}

module _ (rows : List (List (Option ℕ))) (s : Side) (other : ℕ) (in_list : s.tri < length rows) (in_row : s.number < 3)
    (three : All (λ row. length row ≡ 3) rows) where
  abbrev row : List (Option ℕ)
  row = slice_index_or rows s.tri []

  pub with_three : All (λ row. length row ≡ 3) (rows_with rows s other)
  with_three = All-set (λ row. length row ≡ 3) rows s.tri _ (length-set row s.number (Some other) ∙ three s.tri [] in_list) three

  -- it is there
  owner_here : owner_at (rows_with rows s other) s.tri s.number ≡ Some other
  owner_here =
      rw (get_or-set_same rows s.tri (slice_set row s.number (Some other)) [] in_list)
      (get_or-set_same row s.number (Some other) None (omega (arith, three s.tri [] in_list)))

  -- and elsewhere is what was there
  pub owner_kept : (k number : ℕ) → ¬ ((k ≡ s.tri) × (number ≡ s.number)) → owner_at (rows_with rows s other) k number ≡ owner_at rows k number
  owner_kept k number apart = elim (cases_eq k s.tri) [
    | inl same ↦ rw (same, get_or-set_same rows s.tri (slice_set row s.number (Some other)) [] in_list)
        (get_or-set_other row s.number number (Some other) None (λ e. apart (same, e)))
    | inr differ ↦ rw (get_or-set_other rows s.tri k (slice_set row s.number (Some other)) [] differ) refl
  ]

  -- what they have then
  pub owner_cases : (k number l : ℕ) → owner_at (rows_with rows s other) k number ≡ Some l
      → (((k ≡ s.tri) × (number ≡ s.number)) × (other ≡ l)) ⊎ (owner_at rows k number ≡ Some l)
  owner_cases k number l is = elim (cases_eq k s.tri) [
    | inr differ ↦ inr (sym (owner_kept k number (λ e. differ e.0)) ∙ is)
    | inl tri ↦ elim (cases_eq number s.number) [
      | inr differ ↦ inr (sym (owner_kept k number (λ e. differ e.1)) ∙ is)
      | inl here ↦ let some : Some other ≡ Some l = sym owner_here ∙ (rw (tri, here) at is) in inl ((tri, here), cc)
    ]
  ]

  -- the side has some triangle,
  pub has_owner_here : HasOwner (rows_with rows s other) s
  has_owner_here none = absurd (let some = owner_here in cc)

  -- and each that had one
  pub has_owner_kept : (t : Side) → HasOwner rows t → HasOwner (rows_with rows s other) t
  has_owner_kept t had none = elim (cases_eq t.tri s.tri) [
    | inr differ ↦ had (sym (owner_kept t.tri t.number (λ e. differ e.0)) ∙ none)
    | inl tri ↦ elim (cases_eq t.number s.number) [
      | inr differ ↦ had (sym (owner_kept t.tri t.number (λ e. differ e.1)) ∙ none)
      | inl here ↦ has_owner_here (rw (tri, here) at none)
    ]
  ]
