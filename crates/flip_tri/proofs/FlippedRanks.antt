-- The sum of the ranks of least corners grows with each flip: the least of the four corners is in one triangle afterwards, and in two before.
use Rattle.std.proofs.Common.{◌≡◌, ◌≢◌, inl, inr, sym, subst, ◌∙◌, refl, ℕ, zero, suc, ◌+◌, ◌<◌, List, [], ◌∷◌, length, arith}
use Rattle.std.proofs.Math.ListN.{length-set}
use Rattle.std.proofs.lemmas.List.{get_or-set_other}
use Rattle.std.specs.Prelude.{min, slice_set}
use Rattle.plane.specs.Order.{IsBefore}
use Rattle.plane.specs.Point.{Point}
use Rattle.rings.specs.Ring.{vertex}
use Rattle.meshes.proofs.Sides.{below_of_member}
use Rattle.meshes.specs.Fits.{Fits}
use Rattle.meshes.specs.Side.{tri_at}
use Rattle.meshes.specs.declared.tri.Tri.{Tri}
use Rattle.flip_tri.proofs.FlippedFits.{far_left, first_is, near_left, second_is}
use Rattle.flip_tri.proofs.FlippedTurns.{least_is}
use Rattle.flip_tri.proofs.Ranks.{rank_less}
use Rattle.flip_tri.proofs.Rounds.{IsReadFrom, read_from}
use Rattle.flip_tri.specs.Flips.{IsQuadOf, IsQuadToFlip}
use Rattle.flip_tri.specs.Ranks.{least_rank, rank, rank_sum}
use Rattle.flip_tri.specs.Shared.{flipped}
use Rattle.flip_tri.specs.declared.quad.Quad.{Quad}

-- the least of three in another order
least_once : (x y z : ℕ) → min z (min x y) ≡ min x (min y z)
least_once x y z = omega arith

least_twice : (x y z : ℕ) → min y (min z x) ≡ min x (min y z)
least_twice x y z = omega arith

-- sums of other numbers
swapped : (y x s : ℕ) → (y + s) + x ≡ (x + s) + y
swapped y x s = omega arith

one_behind : (x s y t z : ℕ) → s + y ≡ t + z → (x + s) + y ≡ (x + t) + z
one_behind x s y t z e = omega (arith, e)

-- where the first of four numbers is the least, it counts twice before, and once after
first_grows : (before between after near far first second i j c d : ℕ) → between + near ≡ before + first → after + far ≡ between + second
    → near ≡ min i (min j c) → far ≡ min j (min i d) → first ≡ min i (min d c) → second ≡ min d (min j c) → i < j → i < c → i < d → before < after
first_grows before between after near far first second i j c d h1 h2 h3 h4 h5 h6 h7 h8 h9 = omega (arith, h1, h2, h3, h4, h5, h6, h7, h8, h9)

-- and so where the second one is
second_grows : (before between after near far first second i j c d : ℕ) → between + near ≡ before + first → after + far ≡ between + second
    → near ≡ min i (min j c) → far ≡ min j (min i d) → first ≡ min i (min d c) → second ≡ min d (min j c) → j < i → j < c → j < d → before < after
second_grows before between after near far first second i j c d h1 h2 h3 h4 h5 h6 h7 h8 h9 = omega (arith, h1, h2, h3, h4, h5, h6, h7, h8, h9)

module _ (corners : List Point) where
  abbrev rank_at : ℕ → ℕ
  rank_at i = rank corners (vertex corners i)

  -- of a triangle read from any corner
  rank_from : (t : Tri) (i j k : ℕ) → IsReadFrom t i j k → least_rank corners t ≡ min (rank_at i) (min (rank_at j) (rank_at k))
  rank_from t i j k (inl (a, b, c)) = λ x. min (rank_at (a x)) (min (rank_at (b x)) (rank_at (c x)))
  rank_from t i j k (inr (inl (b, c, a))) = (λ x. min (rank_at (a x)) (min (rank_at (b x)) (rank_at (c x)))) ∙ least_once (rank_at i) (rank_at j) (rank_at k)
  rank_from t i j k (inr (inr (c, a, b))) = (λ x. min (rank_at (a x)) (min (rank_at (b x)) (rank_at (c x)))) ∙ least_twice (rank_at i) (rank_at j) (rank_at k)

  -- the sum with a triangle replaced
  sum_replaced : (tris : List Tri) (k : ℕ) (t : Tri) → k < length tris
      → rank_sum corners (slice_set tris k t) + least_rank corners (tri_at tris k) ≡ rank_sum corners tris + least_rank corners t
  sum_replaced [] k t below = absurd (omega (arith, below))
  sum_replaced (u ∷ us) zero t below = swapped (least_rank corners t) (least_rank corners u) (rank_sum corners us)
  sum_replaced (u ∷ us) (suc k) t below =
      one_behind (least_rank corners u) (rank_sum corners (slice_set us k t)) (least_rank corners (tri_at us k)) (rank_sum corners us) (least_rank corners t)
      (sum_replaced us k t (omega (arith, below)))

  module _ (tris : List Tri) (fits : Fits corners tris) (k l : ℕ) (quad : Quad) (k_in_list : k < length tris) (l_in_list : l < length tris)
      (different : k ≢ l) (is : IsQuadOf tris k l quad) (to_flip : IsQuadToFlip corners quad) where
    abbrev first : Tri
    first = record { a = quad.from; b = quad.right; c = quad.left }

    abbrev second : Tri
    second = record { a = quad.right; b = quad.to; c = quad.left }

    near_rank : least_rank corners (tri_at tris k) ≡ min (rank_at quad.from) (min (rank_at quad.to) (rank_at quad.left))
    near_rank = rank_from (tri_at tris k) quad.from quad.to quad.left
        (read_from corners (tri_at tris k) quad.from quad.to quad.left is.near (fits.triangles k k_in_list).counterclockwise)

    far_rank : least_rank corners (tri_at tris l) ≡ min (rank_at quad.to) (min (rank_at quad.from) (rank_at quad.right))
    far_rank = rank_from (tri_at tris l) quad.to quad.from quad.right
        (read_from corners (tri_at tris l) quad.to quad.from quad.right is.far (fits.triangles l l_in_list).counterclockwise)

    abbrev between : List Tri
    between = slice_set tris k first

    one : rank_sum corners between + least_rank corners (tri_at tris k) ≡ rank_sum corners tris + least_rank corners first
    one = sum_replaced tris k first k_in_list

    two : rank_sum corners (flipped tris k l quad) + least_rank corners (tri_at tris l) ≡ rank_sum corners between + least_rank corners second
    two =
        let there : tri_at between l ≡ tri_at tris l = get_or-set_other tris k l first (record { a = 0; b = 0; c = 0 }) (λ e. different (sym e)) in
        subst (λ t. rank_sum corners (flipped tris k l quad) + least_rank corners t ≡ rank_sum corners between + least_rank corners second) there
        (sum_replaced between l second (omega (arith, l_in_list, length-set tris k first)))

    less : (i j : ℕ) → i < length corners → IsBefore (vertex corners i) (vertex corners j) → rank_at i < rank_at j
    less i j below earlier = rank_less corners i (vertex corners j) below earlier

    -- the sum grows
    pub ranks_grow : rank_sum corners tris < rank_sum corners (flipped tris k l quad)
    ranks_grow =
        let from_below = below_of_member (length corners) quad.from (first_is corners tris fits k l quad k_in_list l_in_list different is to_flip).has_a in
        let to_below = below_of_member (length corners) quad.to (second_is corners tris fits k l quad k_in_list l_in_list different is to_flip).has_b in
        elim (least_is corners quad (near_left corners tris fits k l quad k_in_list l_in_list different is to_flip)
        (far_left corners tris fits k l quad k_in_list l_in_list different is to_flip) to_flip) [
          | inl h ↦ first_grows (rank_sum corners tris) (rank_sum corners between) (rank_sum corners (flipped tris k l quad)) _ _ _ _
              (rank_at quad.from) (rank_at quad.to) (rank_at quad.left) (rank_at quad.right) one two near_rank far_rank refl refl
              (less quad.from quad.to from_below h.first) (less quad.from quad.left from_below h.second) (less quad.from quad.right from_below h.third)
          | inr h ↦ second_grows (rank_sum corners tris) (rank_sum corners between) (rank_sum corners (flipped tris k l quad)) _ _ _ _
              (rank_at quad.from) (rank_at quad.to) (rank_at quad.left) (rank_at quad.right) one two near_rank far_rank refl refl
              (less quad.to quad.from to_below h.first) (less quad.to quad.left to_below h.second) (less quad.to quad.right to_below h.third)
        ]
