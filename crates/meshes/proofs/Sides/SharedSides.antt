-- The side that two triangles of a mesh share, as a diagonal on the way from the one to the other.
use Rattle.std.proofs.Common.{◌≡◌, refl, sym, ap, subst, ℕ, ◌+◌, ◌-◌, ◌<◌, ◌↔◌, inl, inr, List, [], ◌∷◌, ◌++◌, length, get_or, arith, Some, None}
use Rattle.std.proofs.Common.{IfSome, length-append}
use Rattle.std.proofs.lemmas.Bool.{cases_eq}
use Rattle.std.proofs.lemmas.List.{get_or_append_left, get_or_push}
use Rattle.std.specs.Prelude.{IsNone, Option}
use Rattle.meshes.specs.Prelude.{HasSide, HasSideBetween, HasSidesOnce, IsSideOfOne, IsSideOfTwo, ShareSide, side_begin, side_end}
use Rattle.meshes.specs.declared.tri.Tri.{Tri}
use Rattle.meshes.specs.Prelude.{tri_at}
use Rattle.meshes.specs.Sleeve.{IsDiagonalBetween}
use Rattle.meshes.specs.declared.diagonal.Diagonal.{Diagonal}

-- the triangle across a side of triangle k, by its number
pub record IsAcross (tris : List Tri) (k side : ℕ) (answer : Option ℕ) : Type 0 where
  pub none : IsNone answer ↔ IsSideOfOne tris (side_begin (tri_at tris k) side) (side_end (tri_at tris k) side) k
  pub some : IfSome answer (λ l. IsSideOfTwo tris (side_begin (tri_at tris k) side) (side_end (tri_at tris k) side) k l)

module _ (tris : List Tri) (k l : ℕ) (side : ℕ) where
  -- the triangle across a side has it in the other direction
  pub lies_across : (answer : Option ℕ) → IsAcross tris k side answer → answer ≡ Some l
      → IsDiagonalBetween (tri_at tris k) (tri_at tris l) (record { left = side_end (tri_at tris k) side; right = side_begin (tri_at tris k) side })
  lies_across answer across is =
      let two : IsSideOfTwo tris (side_begin (tri_at tris k) side) (side_end (tri_at tris k) side) k l = rw is at across.some in
      record { of_first = two.has; of_second = two.other_has }

  -- another triangle than the one across a side does not have it in the other direction
  misses_across : (answer : Option ℕ) → IsAcross tris k side answer → ¬ (answer ≡ Some l) → l < length tris → ¬ (k ≡ l)
      → ¬ HasSide (tri_at tris l) (side_end (tri_at tris k) side) (side_begin (tri_at tris k) side)
  misses_across None across is_not below different has = different (sym ((across.none.0 refl).only l below (inr has)))
  misses_across (Some m) across is_not below different has = elim (across.some.only l below (inr has)) [
    | inl same ↦ different (sym same)
    | inr other ↦ is_not (ap Some (sym other))
  ]

module _ (tris : List Tri) (sides : HasSidesOnce tris) (k l : ℕ) (k_below : k < length tris) (l_below : l < length tris) (different : ¬ (k ≡ l)) where
  -- a side that two triangles share runs in opposite directions
  opposite : (i j : ℕ) → HasSide (tri_at tris k) i j → HasSideBetween (tri_at tris l) i j → HasSide (tri_at tris l) j i
  opposite i j has between = elim between [
    | inl along ↦ absurd (different (sides.once i j k l k_below l_below has along))
    | inr back ↦ back
  ]

  -- where they share none of the first two sides of triangle k, they share the last one
  pub lies_last : (first second : Option ℕ) → IsAcross tris k 0 first → IsAcross tris k 1 second → ¬ (first ≡ Some l) → ¬ (second ≡ Some l)
      → ShareSide (tri_at tris k) (tri_at tris l)
      → IsDiagonalBetween (tri_at tris k) (tri_at tris l) (record { left = (tri_at tris k).a; right = (tri_at tris k).c })
  lies_last first second across_first across_second not_first not_second s =
      let t = tri_at tris k in
      let back = opposite s.i s.j s.of_first s.of_second in
      elim s.of_first [
        | inl on_first ↦ let has : HasSide (tri_at tris l) t.b t.a = rw (on_first.0, on_first.1) back in
            absurd (misses_across tris k l 0 first across_first not_first l_below different has)
        | inr rest ↦ elim rest [
          | inl on_second ↦ let has : HasSide (tri_at tris l) t.c t.b = rw (on_second.0, on_second.1) back in
              absurd (misses_across tris k l 1 second across_second not_second l_below different has)
          | inr on_last ↦ let has : HasSide (tri_at tris l) t.a t.c = rw (on_last.0, on_last.1) back in
              record { of_first = inr (inr (refl, refl)); of_second = has }
        ]
      ]

-- the first diagonals of a walk,
abbrev pub LieAlong : List Tri → List ℕ → List Diagonal → Type 0
LieAlong tris walk diagonals = (i : ℕ) → i < length diagonals
    → IsDiagonalBetween (tri_at tris (get_or walk i 0)) (tri_at tris (get_or walk (i + 1) 0)) (get_or diagonals i (record { left = 0; right = 0 }))

-- and one more
pub one_more_along : (tris : List Tri) (walk : List ℕ) (ds : List Diagonal) (d : Diagonal) (n : ℕ) → length ds + 1 ≡ n → LieAlong tris walk ds
    → IsDiagonalBetween (tri_at tris (get_or walk (n - 1) 0)) (tri_at tris (get_or walk n 0)) d → LieAlong tris walk (ds ++ d ∷ [])
one_more_along tris walk ds d n count before here i below = elim (cases_eq i (length ds)) [
  | inl last ↦
      let from : n - 1 ≡ i = omega arith in
      let to : n ≡ i + 1 = omega arith in
      let next = subst (λ m. IsDiagonalBetween (tri_at tris (get_or walk m 0)) (tri_at tris (get_or walk n 0)) d) from here in
      rw (get_or_push ds d (record { left = 0; right = 0 }) i (sym last))
      (subst (λ m. IsDiagonalBetween (tri_at tris (get_or walk i 0)) (tri_at tris (get_or walk m 0)) d) to next)
  | inr other ↦ let earlier : i < length ds = omega (arith, length-append ds (d ∷ [])) in
      rw (get_or_append_left ds (d ∷ []) (record { left = 0; right = 0 }) i earlier) (before i earlier)
]
