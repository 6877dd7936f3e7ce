-- Rows that are linked at all sides have the triangle on the other side of each side.
use Rattle.std.proofs.Common.{◌≡◌, refl, sym, subst, ◌∙◌, ℕ, zero, suc, ◌+◌, ◌*◌, ◌<◌, ◌≤◌, ◌⊎◌, inl, inr, List, length, arith, Some, None}
use Rattle.std.proofs.lemmas.Bool.{cases_eq}
use Rattle.std.specs.Prelude.{Option, max, min}
use Rattle.meshes.specs.Mesh.{side_begin, side_end}
use Rattle.meshes.specs.Side.{HasSide, HasSidesOnce, tri_at}
use Rattle.meshes.specs.declared.tri.Tri.{Tri}
use Rattle.tri_mesh.proofs.Neighbours.{has_side_numbered, numbered_side}
use Rattle.tri_mesh.specs.Neighbours.{AreLinkedRows, ArePaired, AreRowsOf, AreShared, AreListedSides, HaveOwners, IsAcross, IsListedSide, owner_at, side_at}
use Rattle.tri_mesh.specs.declared.sides.Side.{Side}

-- pairs of numbers with the same lower and the same higher one
same_ends : (a b c d : ℕ) → min a b ≡ min c d → max a b ≡ max c d → ((a ≡ c) × (b ≡ d)) ⊎ ((a ≡ d) × (b ≡ c))
same_ends a b c d low high = elim (cases_eq a c) [
  | inl same ↦ inl (same, omega arith)
  | inr differ ↦ inr (omega arith, omega arith)
]

-- a triangle with three corners has one side between two of them
one_number : (t : Tri) → ¬ (t.a ≡ t.b) → ¬ (t.b ≡ t.c) → ¬ (t.c ≡ t.a) → (m n : ℕ) → m < 3 → n < 3
    → min (side_begin t m) (side_end t m) ≡ min (side_begin t n) (side_end t n)
    → max (side_begin t m) (side_end t m) ≡ max (side_begin t n) (side_end t n) → m ≡ n
one_number t ab bc ca zero zero hm hn low high = refl
one_number t ab bc ca zero (suc zero) hm hn low high = absurd (omega arith)
one_number t ab bc ca zero (suc (suc zero)) hm hn low high = absurd (omega arith)
one_number t ab bc ca zero (suc (suc (suc n))) hm hn low high = absurd (omega arith)
one_number t ab bc ca (suc zero) zero hm hn low high = absurd (omega arith)
one_number t ab bc ca (suc zero) (suc zero) hm hn low high = refl
one_number t ab bc ca (suc zero) (suc (suc zero)) hm hn low high = absurd (omega arith)
one_number t ab bc ca (suc zero) (suc (suc (suc n))) hm hn low high = absurd (omega arith)
one_number t ab bc ca (suc (suc zero)) zero hm hn low high = absurd (omega arith)
one_number t ab bc ca (suc (suc zero)) (suc zero) hm hn low high = absurd (omega arith)
one_number t ab bc ca (suc (suc zero)) (suc (suc zero)) hm hn low high = refl
one_number t ab bc ca (suc (suc zero)) (suc (suc (suc n))) hm hn low high = absurd (omega arith)
one_number t ab bc ca (suc (suc (suc m))) n hm hn low high = absurd (omega arith)

module _ (tris : List Tri) (once : HasSidesOnce tris) where
  -- no side has one corner alone
  no_loop : (i k : ℕ) → k < length tris → ¬ HasSide (tri_at tris k) i i
  no_loop i k in_list has = once.one_way i i k in_list has has

  -- sides of one triangle with the same corners are one
  one_side : (k i j : ℕ) → k < length tris → i < 3 → j < 3
      → min (side_begin (tri_at tris k) i) (side_end (tri_at tris k) i) ≡ min (side_begin (tri_at tris k) j) (side_end (tri_at tris k) j)
      → max (side_begin (tri_at tris k) i) (side_end (tri_at tris k) i) ≡ max (side_begin (tri_at tris k) j) (side_end (tri_at tris k) j) → i ≡ j
  one_side k i j in_list i_below j_below low high =
      let t = tri_at tris k in
      one_number t
      (λ e. no_loop t.b k in_list (inl (e, refl)))
      (λ e. no_loop t.c k in_list (inr (inl (e, refl))))
      (λ e. no_loop t.a k in_list (inr (inr (e, refl))))
      i j i_below j_below low high

  module _ (n : ℕ) where
    alone : (p q : ℕ) (s t : Side) → IsListedSide tris n p s → IsListedSide tris n q t → s.low ≡ t.low → s.high ≡ t.high → s.tri ≡ t.tri → p ≡ q
    alone p q s t s_is t_is low high tri =
        let number : s.number ≡ t.number = one_side t.tri s.number t.number t_is.in_list s_is.in_row t_is.in_row
        (rw tri at (sym s_is.low ∙ low ∙ t_is.low)) (rw tri at (sym s_is.high ∙ high ∙ t_is.high)) in
        omega (arith, s_is.place, t_is.place, tri, number)

    -- where two triangles have a side between the same corners, they are on both sides of it
    across_shared : (p q : ℕ) (s t : Side) → IsListedSide tris n p s → IsListedSide tris n q t → AreShared s t → IsAcross tris s.tri s.number t.tri
    across_shared p q s t s_is t_is shared =
        let a = side_begin (tri_at tris s.tri) s.number in
        let b = side_end (tri_at tris s.tri) s.number in
        let c = side_begin (tri_at tris t.tri) t.number in
        let d = side_end (tri_at tris t.tri) t.number in
        let low : min a b ≡ min c d = sym s_is.low ∙ shared.low ∙ t_is.low in
        let high : max a b ≡ max c d = sym s_is.high ∙ shared.high ∙ t_is.high in
        let has_s : HasSide (tri_at tris s.tri) a b = has_side_numbered (tri_at tris s.tri) s.number s_is.in_row in
        let has_t : HasSide (tri_at tris t.tri) c d = has_side_numbered (tri_at tris t.tri) t.number t_is.in_row in
        elim (same_ends a b c d low high) [
          | inl along ↦ absurd (shared.differ (once.once a b s.tri t.tri s_is.in_list t_is.in_list has_s (rw (← along.0, ← along.1) at has_t)))
          | inr back ↦ (t_is.in_list, rw (← back.0, ← back.1) at has_t)
        ]

    module _ (sides : List Side) (are : AreListedSides tris n sides) where
      third : (p q r : ℕ) → p < length sides → q < length sides → r < length sides → AreShared (side_at sides p) (side_at sides q)
          → AreShared (side_at sides p) (side_at sides r) → q ≡ r
      third p q r p_below q_below r_below one two =
          let to_q = across_shared p q _ _ (are p p_below) (are q q_below) one in
          let to_r = across_shared p r _ _ (are p p_below) (are r r_below) two in
          alone q r _ _ (are q q_below) (are r r_below) (sym one.low ∙ two.low) (sym one.high ∙ two.high)
          (once.once _ _ _ _ to_q.0 to_r.0 to_q.1 to_r.1)

      lower_first : (s : Side) (p : ℕ) → IsListedSide tris n p s → s.low ≤ s.high
      lower_first s p is = omega (arith, is.low, is.high)

      -- no two of the sides of one triangle, and no three of any, are between the same corners
      pub are_paired : ArePaired (length tris) n sides
      are_paired = record {
        in_list = λ p below. (are p below).in_list;
        in_row = λ p below. (are p below).in_row;
        place = λ p below. (are p below).place;
        order = λ p below. lower_first (side_at sides p) p (are p below);
        corner = λ p below. (are p below).corner;
        alone = λ p q p_below q_below low high tri. alone p q _ _ (are p p_below) (are q q_below) low high tri;
        pairs = third;
      }

      module _ (all : length sides ≡ 3 * length tris) (rows : List (List (Option ℕ))) (linked : AreLinkedRows (length tris) sides rows)
          (owners : HaveOwners sides n rows) where
        -- the side of a triangle by its number
        module _ (k number : ℕ) (in_list : k < length tris) (in_row : number < 3) where
          pub below : 3 * k + number < length sides
          below = omega (arith, all, in_list, in_row)

          pub tri : (side_at sides (3 * k + number)).tri ≡ k
          tri = let is = are (3 * k + number) below in omega (arith, is.place, is.in_row, in_row)

          pub number_is : (side_at sides (3 * k + number)).number ≡ number
          number_is = let is = are (3 * k + number) below in omega (arith, is.place, is.in_row, in_row)

          pub low_is : (side_at sides (3 * k + number)).low ≡ min (side_begin (tri_at tris k) number) (side_end (tri_at tris k) number)
          low_is = rw (tri, number_is) at ((are (3 * k + number) below).low)

          pub high_is : (side_at sides (3 * k + number)).high ≡ max (side_begin (tri_at tris k) number) (side_end (tri_at tris k) number)
          high_is = rw (tri, number_is) at ((are (3 * k + number) below).high)

        -- what a side has is the triangle across
        across : (p other : ℕ) → p < length sides → owner_at rows (side_at sides p).tri (side_at sides p).number ≡ Some other
            → IsAcross tris (side_at sides p).tri (side_at sides p).number other
        across p other p_below is =
            let partner = linked.right p other p_below is in
            subst (IsAcross tris (side_at sides p).tri (side_at sides p).number) (sym partner.is)
            (across_shared p partner.q _ _ (are p p_below) (are partner.q partner.in_list) partner.shared)

        module _ (k number : ℕ) (in_list : k < length tris) (in_row : number < 3) where
          found : (other : ℕ) → owner_at rows k number ≡ Some other → IsAcross tris k number other
          found other is =
              let here : owner_at rows (side_at sides (3 * k + number)).tri (side_at sides (3 * k + number)).number ≡ Some other =
              rw (tri k number in_list in_row, number_is k number in_list in_row) is in
              rw (tri k number in_list in_row, number_is k number in_list in_row) at (across (3 * k + number) other (below k number in_list in_row) here)

          -- and a side that another triangle has in the other direction has one
          found_back : (l : ℕ) → l < length tris → HasSide (tri_at tris l) (side_end (tri_at tris k) number) (side_begin (tri_at tris k) number)
              → ¬ (owner_at rows k number ≡ None)
          found_back l l_below back none =
              let t = tri_at tris k in
              let m = numbered_side (tri_at tris l) (side_end t number) (side_begin t number) back in
              let apart : ¬ (k ≡ l) = λ same. once.one_way _ _ k in_list (has_side_numbered t number in_row) (rw (← same) at back) in
              let shared : AreShared (side_at sides (3 * k + number)) (side_at sides (3 * l + m.0)) = record {
                low = low_is k number in_list in_row ∙ (omega (arith, m.2, m.3)) ∙ sym (low_is l m.0 l_below m.1);
                high = high_is k number in_list in_row ∙ (omega (arith, m.2, m.3)) ∙ sym (high_is l m.0 l_below m.1);
                differ = λ e. apart (sym (tri k number in_list in_row) ∙ e ∙ tri l m.0 l_below m.1);
              } in
              let p_below = below k number in_list in_row in
              owners (3 * k + number) (3 * l + m.0) p_below (below l m.0 l_below m.1) shared (are (3 * k + number) p_below).corner
              (rw (tri k number in_list in_row, number_is k number in_list in_row) none)

        -- the rows are right
        pub rows_right : AreRowsOf tris rows
        rows_right = record {
          across = λ i number row_below in_row.
              let in_list : i < length tris = omega (arith, linked.count, row_below) in
              record {
                some = λ k is. found i number in_list in_row k is;
                none = λ missing l l_below back. found_back i number in_list in_row l l_below back missing;
              };
        }
