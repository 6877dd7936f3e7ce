-- The rows of neighbours after a flip: those of the two triangles are set, and then the two triangles beside them that change hands.
use Rattle.std.proofs.Common.{◌≡◌, ◌≢◌, refl, sym, ap, subst, ◌∙◌, inl, inr, ℕ, zero, suc, ◌<◌, ◌⊎◌, IfSome, List, [], ◌∷◌, length, arith, Some, None}
use Rattle.std.proofs.lemmas.Bool.{cases_eq}
use Rattle.std.proofs.lemmas.List.Elements.{All-set}
use Rattle.std.specs.Prelude.{Option, slice_index_or, slice_set}
use Rattle.meshes.specs.Mesh.{side_begin, side_end}
use Rattle.meshes.specs.Side.{tri_at}
use Rattle.meshes.specs.declared.tri.Tri.{Tri}
use Rattle.tri_mesh.proofs.Neighbours.{has_side_numbered}
use Rattle.flip_tri.proofs.FlippedNeighbours.{HasBeside, IsFlip, at_far, at_near, at_other, beside_far, beside_from_right, beside_left_from, beside_near}
use Rattle.flip_tri.proofs.FlippedNeighbours.{beside_other, beside_right_to, beside_to_left, count_after, first, first_of_other, second, second_of_other}
use Rattle.flip_tri.proofs.HandedOver.{side_numbered}
use Rattle.flip_tri.proofs.TwoReplaced.{replaced_first, replaced_length, replaced_others, replaced_second}
use Rattle.flip_tri.specs.Flips.{KnowsNeighbours}
use Rattle.flip_tri.specs.Shared.{AreTriangleRows, IsAcrossFrom, IsKnown, entry, flipped}
use Rattle.tri_mesh.specs.Triangle.{IsSideNumber}
use Rattle.flip_tri.specs.declared.quad.Quad.{Quad}

-- a side of a triangle has these ends or not
number_or_not : (t : Tri) (i j side : ℕ) → side < 3 → IsSideNumber t i j side ⊎ (¬ ((side_begin t side ≡ i) × (side_end t side ≡ j)))
number_or_not t i j side below = elim (cases_eq (side_begin t side) i) [
  | inr differ ↦ inr (λ e. differ e.0)
  | inl begins ↦ elim (cases_eq (side_end t side) j) [
    | inr differ ↦ inr (λ e. differ e.1)
    | inl ends ↦ inl (record { below = below; begins = begins; ends = ends })
  ]
]

-- three items by their places
three_items : (P : ℕ → Option ℕ → Type 0) (o p q : Option ℕ) → P 0 o → P 1 p → P 2 q → (side : ℕ) → side < 3 → P side (slice_index_or (o ∷ p ∷ q ∷ []) side None)
three_items P o p q h0 h1 h2 zero below = h0
three_items P o p q h0 h1 h2 (suc zero) below = h1
three_items P o p q h0 h1 h2 (suc (suc zero)) below = h2
three_items P o p q h0 h1 h2 (suc (suc (suc n))) below = absurd (omega (arith, below))

module _ (tris : List Tri) (k l : ℕ) (quad : Quad) (flip : IsFlip tris k l quad)
    (to_left left_from from_right right_to : Option ℕ) (beside : HasBeside tris quad to_left left_from from_right right_to)
    (rows : List (List (Option ℕ))) (knows : KnowsNeighbours tris rows) where
  abbrev now : List Tri
  now = flipped tris k l quad

  abbrev near_row : List (Option ℕ)
  near_row = from_right ∷ Some l ∷ left_from ∷ []

  abbrev far_row : List (Option ℕ)
  far_row = right_to ∷ to_left ∷ Some k ∷ []

  abbrev pub two_set : List (List (Option ℕ))
  two_set = slice_set (slice_set rows k near_row) l far_row

  k_row : k < length rows
  k_row = omega (arith, flip.near, knows.count)

  l_row : l < length rows
  l_row = omega (arith, flip.far, knows.count)

  count_now : length now ≡ length tris
  count_now = count_after tris k l quad flip

  entry_near : (side : ℕ) → entry two_set k side ≡ slice_index_or near_row side None
  entry_near side = ap (λ row. slice_index_or row side None) (replaced_first rows k l near_row far_row [] k_row l_row flip.different)

  entry_far : (side : ℕ) → entry two_set l side ≡ slice_index_or far_row side None
  entry_far side = ap (λ row. slice_index_or row side None) (replaced_second rows k l near_row far_row [] k_row l_row flip.different)

  entry_other : (m side : ℕ) → m ≢ k → m ≢ l → entry two_set m side ≡ entry rows m side
  entry_other m side not_k not_l = ap (λ row. slice_index_or row side None) (replaced_others rows k l near_row far_row [] k_row l_row flip.different m not_k not_l)

  within : (m side n : ℕ) → m < length now → side < 3 → entry two_set m side ≡ Some n → n < length now
  within m side n below in_row is = subst (λ size. n < size) (sym count_now) (elim (cases_eq m k) [
    | inl same ↦
        let h : IfSome (slice_index_or near_row side None) (λ a. a < length tris) =
        three_items (λ at o. IfSome o (λ a. a < length tris)) from_right (Some l) left_from beside.from_right_in_list flip.far beside.left_from_in_list side in_row in
        subst (λ o. IfSome o (λ a. a < length tris)) (sym (entry_near side) ∙ ap (λ a. entry two_set a side) (sym same) ∙ is) h
    | inr not_k ↦ elim (cases_eq m l) [
      | inl same ↦
          let h : IfSome (slice_index_or far_row side None) (λ a. a < length tris) =
          three_items (λ at o. IfSome o (λ a. a < length tris)) right_to to_left (Some k) beside.right_to_in_list beside.to_left_in_list flip.near side in_row in
          subst (λ o. IfSome o (λ a. a < length tris)) (sym (entry_far side) ∙ ap (λ a. entry two_set a side) (sym same) ∙ is) h
      | inr not_l ↦ knows.within m side n (omega (arith, below, count_now)) in_row (sym (entry_other m side not_k not_l) ∙ is)
    ]
  ])

  pub two_set_rows : AreTriangleRows now two_set
  two_set_rows = record {
    count = replaced_length rows k l near_row far_row [] k_row l_row flip.different ∙ knows.count ∙ sym count_now;
    three = All-set (λ row. length row ≡ 3) (slice_set rows k near_row) l far_row refl
        (All-set (λ row. length row ≡ 3) rows k near_row refl knows.three);
    within = within;
  }

  -- a row with what is across from each side of its triangle is known
  row_known : (m : ℕ) (t : Tri) (o p q : Option ℕ) → tri_at now m ≡ t → ((side : ℕ) → entry two_set m side ≡ slice_index_or (o ∷ p ∷ q ∷ []) side None)
      → IsAcrossFrom now (side_begin t 0) (side_end t 0) o → IsAcrossFrom now (side_begin t 1) (side_end t 1) p
      → IsAcrossFrom now (side_begin t 2) (side_end t 2) q → (side : ℕ) → side < 3 → IsKnown now two_set m side
  row_known m t o p q is_tri is_row first second third side in_row =
      subst (IsAcrossFrom now (side_begin (tri_at now m) side) (side_end (tri_at now m) side)) (sym (is_row side))
      (subst (λ u. IsAcrossFrom now (side_begin u side) (side_end u side) (slice_index_or (o ∷ p ∷ q ∷ []) side None)) (sym is_tri)
      (three_items (λ at a. IsAcrossFrom now (side_begin t at) (side_end t at) a) o p q first second third side in_row))

  -- all entries are known but those for the sides from d to i and from c to j
  known_first : (m side : ℕ) → m < length now → side < 3 → ¬ ((side_begin (tri_at now m) side ≡ quad.right) × (side_end (tri_at now m) side ≡ quad.from))
      → ¬ ((side_begin (tri_at now m) side ≡ quad.left) × (side_end (tri_at now m) side ≡ quad.to)) → IsKnown now two_set m side
  known_first m side below in_row not_first not_second = elim (cases_eq m k) [
    | inl same ↦
        subst (λ a. IsKnown now two_set a side) (sym same)
        (row_known k (first tris k l quad flip) from_right (Some l) left_from (at_near tris k l quad flip) entry_near
        (beside_from_right tris k l quad flip to_left left_from from_right right_to beside)
        (beside_near tris k l quad flip to_left left_from from_right right_to beside)
        (beside_left_from tris k l quad flip to_left left_from from_right right_to beside) side in_row)
    | inr not_k ↦ elim (cases_eq m l) [
      | inl same ↦
          subst (λ a. IsKnown now two_set a side) (sym same)
          (row_known l (second tris k l quad flip) right_to to_left (Some k) (at_far tris k l quad flip) entry_far
          (beside_right_to tris k l quad flip to_left left_from from_right right_to beside)
          (beside_to_left tris k l quad flip to_left left_from from_right right_to beside)
          (beside_far tris k l quad flip to_left left_from from_right right_to beside) side in_row)
      | inr not_l ↦
          let is_old = at_other tris k l quad flip m not_k not_l in
          let old = tri_at tris m in
          let m_old : m < length tris = omega (arith, below, count_now) in
          let h : IsAcrossFrom now (side_begin old side) (side_end old side) (entry rows m side) =
          beside_other tris k l quad flip to_left left_from from_right right_to beside
          m (side_begin old side) (side_end old side) (entry rows m side) m_old not_k not_l (has_side_numbered old side in_row)
          (λ e. not_first (subst (λ u. (side_begin u side ≡ quad.right) × (side_end u side ≡ quad.from)) (sym is_old) e))
          (λ e. not_second (subst (λ u. (side_begin u side ≡ quad.left) × (side_end u side ≡ quad.to)) (sym is_old) e))
          (λ n n_below n_has. knows.all m side n m_old in_row n_below n_has) in
          subst (IsAcrossFrom now (side_begin (tri_at now m) side) (side_end (tri_at now m) side)) (sym (entry_other m side not_k not_l))
          (subst (λ u. IsAcrossFrom now (side_begin u side) (side_end u side) (entry rows m side)) (sym is_old) h)
    ]
  ]

  -- so all are when these two have been set
  module _ (once_set twice_set : List (List (Option ℕ))) (kept : (m side : ℕ) → IsKnown now two_set m side → IsKnown now once_set m side)
      (known : (m side : ℕ) → from_right ≡ Some m → IsSideNumber (tri_at now m) quad.right quad.from side → IsKnown now once_set m side)
      (kept_too : (m side : ℕ) → IsKnown now once_set m side → IsKnown now twice_set m side)
      (known_too : (m side : ℕ) → to_left ≡ Some m → IsSideNumber (tri_at now m) quad.left quad.to side → IsKnown now twice_set m side) where
    known_once : (m side : ℕ) → m < length now → side < 3
        → ¬ ((side_begin (tri_at now m) side ≡ quad.left) × (side_end (tri_at now m) side ≡ quad.to)) → IsKnown now once_set m side
    known_once m side below in_row not_second = elim (number_or_not (tri_at now m) quad.right quad.from side in_row) [
      | inl at ↦ known m side (beside.is_from_right m (omega (arith, below, count_now))
          (first_of_other tris k l quad flip to_left left_from from_right right_to beside m (side_numbered (tri_at now m) quad.right quad.from side at))) at
      | inr not_first ↦ kept m side (known_first m side below in_row not_first not_second)
    ]

    known_twice : (m side : ℕ) → m < length now → side < 3 → IsKnown now twice_set m side
    known_twice m side below in_row = elim (number_or_not (tri_at now m) quad.left quad.to side in_row) [
      | inl at ↦ known_too m side (beside.is_to_left m (omega (arith, below, count_now))
          (second_of_other tris k l quad flip to_left left_from from_right right_to beside m (side_numbered (tri_at now m) quad.left quad.to side at))) at
      | inr not_second ↦ kept_too m side (known_once m side below in_row not_second)
    ]

    pub knows_after : AreTriangleRows now twice_set → KnowsNeighbours now twice_set
    knows_after are = record {
      count = are.count;
      three = are.three;
      within = are.within;
      all = λ m side n below in_row n_below has. known_twice m side below in_row n n_below has;
    }
