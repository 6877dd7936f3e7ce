-- The sides that a walk over the triangles of a mesh crosses, with the corners of its triangles beside them.
use Rattle.std.proofs.Common.{◌≡◌, ◌⊎◌, inl, inr, sym, subst, ◌∙◌, Bool, true, false, ℕ, ◌+◌, ◌<◌, List, length, get_or, arith}
use Rattle.std.proofs.lemmas.Bool.{cases_lt}
use Rattle.std.specs.List.{range_with_len}
use Rattle.plane.specs.Prelude.{IsLeft, Point, whole}
use Rattle.rings.specs.Ring.{vertex}
use Rattle.meshes.proofs.Joins.{between_back}
use Rattle.meshes.proofs.Sides.{fitting_sides, edge_or_not}
use Rattle.meshes.proofs.TreeLeaves.{next_corner, not_two_shared, side_is_one}
use Rattle.meshes.specs.Prelude.{Fits, HasSide, HasSideBetween, IsWalk}
use Rattle.meshes.specs.declared.tri.Tri.{Tri}
use Rattle.meshes.specs.Laws.{CrossesSide, walk_tri}
use Rattle.funnels.proofs.Corners.{corner_after, corner_before}
use Rattle.funnels.proofs.Vertices.{IsSharedSide}
use Rattle.funnels.specs.Corner.{HasCornerOn}

-- the triangle has the side from i to j, or on the other side from j to i
abbrev pub HasSideOn : Bool → Tri → ℕ → ℕ → Type 0
HasSideOn true t i j = HasSide t i j
HasSideOn false t i j = HasSide t j i

-- with the third corner
pub corner_at_side : (side : Bool) (t : Tri) (far own : ℕ) → HasSideOn side t far own → (tip : ℕ) × HasCornerOn side t far own tip
corner_at_side true t far own has = let (m, second, third) = next_corner t far own has in (m, (has, second))
corner_at_side false t far own has = let (m, second, third) = next_corner t own far has in (m, (has, third))

module _ (corners : List Point) (tris : List Tri) (fits : Fits corners tris) (walk : List ℕ) (w : IsWalk tris walk) where
  -- the triangle at a place, and its number
  abbrev at : ℕ → ℕ
  at k = get_or walk k 0

  abbrev T : ℕ → Tri
  T k = walk_tri tris walk k

  pub counterclockwise : (k : ℕ) → k < length walk → IsLeft (whole (vertex corners (T k).a)) (whole (vertex corners (T k).b)) (whole (vertex corners (T k).c))
  counterclockwise k h = (fits.triangles (at k) (w.in_list k h)).counterclockwise

  -- triangles at different places are different
  pub not_same : (k l : ℕ) → k < length walk → l < length walk → ¬ (k ≡ l) → ¬ (at k ≡ at l)
  not_same k l in_k in_l differ e = elim (cases_lt k l) [
    | inl less ↦ w.once k l less in_l e
    | inr more ↦ w.once l k (omega arith) in_k (sym e)
  ]

  -- so they have no side in one direction,
  not_one_direction : (k l i j : ℕ) → k < length walk → l < length walk → ¬ (k ≡ l) → HasSide (T k) i j → ¬ HasSide (T l) i j
  not_one_direction k l i j in_k in_l differ has same =
      not_same k l in_k in_l differ ((fitting_sides corners tris fits).once i j (at k) (at l) (w.in_list k in_k) (w.in_list l in_l) has same)

  -- but have a common side in opposite directions
  pub opposite_side : (k l i j : ℕ) → k < length walk → l < length walk → ¬ (k ≡ l) → HasSide (T k) i j → HasSideBetween (T l) i j → HasSide (T l) j i
  opposite_side k l i j in_k in_l differ has (inl same) =
      absurd (not_one_direction k l i j in_k in_l differ has same)
  opposite_side k l i j in_k in_l differ has (inr back) = back

  -- a side that the walk crosses is a side of two triangles
  shared_of_crossed : (m i j : ℕ) → m + 1 < length walk → HasSide (T m) i j → HasSideBetween (T (m + 1)) i j → IsSharedSide tris i j
  shared_of_crossed m i j next has other = elim (edge_or_not (range_with_len 0 (length corners)) i j) [
    | inl edge ↦ let (n, one) = fits.edges i j edge in
        absurd (not_same m (m + 1) (omega arith) next (λ e. omega arith)
        (one.only (at m) (w.in_list m (omega arith)) (inl has) ∙ sym (one.only (at (m + 1)) (w.in_list (m + 1) next) other)))
    | inr inner ↦ let (n, two) = fits.inner_sides i j (at m) (w.in_list m (omega arith)) has inner in (at m, n, inl two)
  ]

  pub crossed_shared : (m i j : ℕ) → CrossesSide tris walk m i j → IsSharedSide tris i j
  crossed_shared m i j c = elim c.of_this [
    | inl has ↦ shared_of_crossed m i j c.has_next has c.of_next
    | inr has ↦ let (x, y, two) = shared_of_crossed m j i c.has_next has (between_back c.of_next) in
        (x, y, elim two [ inl h ↦ inr h | inr h ↦ inl h ])
  ]

  -- over each two triangles it crosses one side, from corner i to j in the first
  pub some_crossed : (m : ℕ) → m + 1 < length walk → (i : ℕ) × (j : ℕ) × CrossesSide tris walk m i j × HasSide (T m) i j
  some_crossed m next =
      let share = w.sharing m next in
      (share.i, share.j, record { has_next = next; of_this = inl share.of_first; of_next = share.of_second }, share.of_first)

  module _ (n x y z : ℕ) (c : CrossesSide tris walk n x y) (first : HasSide (T n) x y) (second : HasSide (T n) y z) where
    -- the next triangle has that side in the other direction,
    next_has : HasSide (T (n + 1)) y x
    next_has = opposite_side n (n + 1) x y (omega (arith, c.has_next)) c.has_next (λ e. omega arith) first c.of_next

    -- and only that
    one_crossed : (i j : ℕ) → HasSide (T n) i j → HasSideBetween (T (n + 1)) i j → (i ≡ x) × (j ≡ y)
    one_crossed i j has between =
        let here = counterclockwise n (omega (arith, c.has_next)) in
        let there = counterclockwise (n + 1) c.has_next in
        let other = opposite_side n (n + 1) i j (omega (arith, c.has_next)) c.has_next (λ e. omega arith) has between in
        elim (side_is_one corners (T n) here x y z first second i j has) [
          | inl e ↦ e
          | inr f ↦ elim f [
            | inl e ↦
                absurd (not_two_shared corners (T n) (T (n + 1)) here there x y z first second next_has
                (subst (λ k. HasSide (T (n + 1)) k y) e.1 (subst (λ k. HasSide (T (n + 1)) j k) e.0 other)))
            | inr e ↦
                let third = subst (λ k. HasSide (T n) k x) e.0 (subst (λ k. HasSide (T n) i k) e.1 has) in
                absurd (not_two_shared corners (T n) (T (n + 1)) here there z x y third first
                (subst (λ k. HasSide (T (n + 1)) k z) e.1 (subst (λ k. HasSide (T (n + 1)) j k) e.0 other)) next_has)
          ]
        ]

    -- so an end of a side that it crosses there is an end of this one
    end_crossed : (i j : ℕ) → CrossesSide tris walk n i j → (i ≡ x) ⊎ (i ≡ y)
    end_crossed i j d = elim d.of_this [
      | inl has ↦ inl (one_crossed i j has d.of_next).0
      | inr has ↦ inr (one_crossed j i has (between_back d.of_next)).1
    ]

    -- the walk came into the triangle over another side
    side_before : (m : ℕ) → m + 1 ≡ n → HasSide (T n) z x
        → (CrossesSide tris walk m z y × HasSide (T m) z y) ⊎ (CrossesSide tris walk m x z × HasSide (T m) x z)
    side_before m e third =
        let (i, j, d, has) = some_crossed m (omega (arith, c.has_next)) in
        let crossed : HasSideBetween (T n) i j = subst (λ k. HasSideBetween (T k) i j) e d.of_next in
        let back = opposite_side m n i j (omega (arith, c.has_next)) (omega (arith, c.has_next)) (λ f. omega arith) has crossed in
        elim (side_is_one corners (T n) (counterclockwise n (omega (arith, c.has_next))) x y z first second j i back) [
          | inl f ↦
              absurd (not_one_direction m (n + 1) i j (omega (arith, c.has_next)) c.has_next (λ g. omega arith) has
              (subst (λ a. HasSide (T (n + 1)) a j) (sym f.1) (subst (λ a. HasSide (T (n + 1)) y a) (sym f.0) next_has)))
          | inr k ↦ elim k [
            | inl f ↦ inl (
              subst (λ a. CrossesSide tris walk m a y) f.1 (subst (λ a. CrossesSide tris walk m i a) f.0 d),
              subst (λ a. HasSide (T m) a y) f.1 (subst (λ a. HasSide (T m) i a) f.0 has),
            )
            | inr f ↦ inr (
              subst (λ a. CrossesSide tris walk m a z) f.1 (subst (λ a. CrossesSide tris walk m i a) f.0 d),
              subst (λ a. HasSide (T m) a z) f.1 (subst (λ a. HasSide (T m) i a) f.0 has),
            )
          ]
        ]

  -- a crossed side by its ends in the other order
  pub crossed_back : (m i j : ℕ) → CrossesSide tris walk m i j → CrossesSide tris walk m j i
  crossed_back m i j c = record { has_next = c.has_next; of_this = between_back c.of_this; of_next = between_back c.of_next }

  -- ---- on either side

  module _ (n far own : ℕ) (c : CrossesSide tris walk n far own) where
    -- an end of a side that is crossed at a place is one of the two,
    pub end_of_crossed : (side : Bool) → HasSideOn side (T n) far own → (i j : ℕ) → CrossesSide tris walk n i j → (i ≡ far) ⊎ (i ≡ own)
    end_of_crossed true has i j d =
        let (z, second, third) = next_corner (T n) far own has in end_crossed n far own z c has second i j d
    end_of_crossed false has i j d =
        let (z, second, third) = next_corner (T n) own far has in
        elim (end_crossed n own far z (crossed_back n far own c) has second i j d) [ inl e ↦ inr e | inr e ↦ inl e ]

    -- and the side that is crossed before it is one of the two others
    pub crossed_before : (side : Bool) (tip m : ℕ) → m + 1 ≡ n → HasCornerOn side (T n) far own tip
        → (CrossesSide tris walk m far tip × HasSideOn side (T m) far tip) ⊎ (CrossesSide tris walk m tip own × HasSideOn side (T m) tip own)
    crossed_before true tip m e corner =
        let more = corner_after corners tris fits (at n) (w.in_list n (omega (arith, c.has_next))) true far own tip corner in
        elim (side_before n far own tip c corner.0 corner.1 m e more.1) [ inl h ↦ inr (h.0, h.1) | inr h ↦ inl (h.0, h.1) ]
    crossed_before false tip m e corner =
        let more = corner_before corners tris fits (at n) (w.in_list n (omega (arith, c.has_next))) false far own tip corner in
        elim (side_before n own far tip (crossed_back n far own c) corner.0 more.0 m e corner.1) [
          | inl h ↦ inl (crossed_back m tip far h.0, h.1)
          | inr h ↦ inr (crossed_back m own tip h.0, h.1)
        ]
