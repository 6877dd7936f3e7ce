-- From beside the diagonal to the first edge of the ring: what the winding numbers of the pieces are there.
-- Neither of two pieces beside a diagonal winds round the chain of the other.
use Rattle.std.proofs.Common.{◌≡◌, inl, inr, ◌∷◌, sym, ◌∙◌, List, pos, ◌⊎◌, ◌++◌, ℤ, ◌*ℤ◌, neg_ℤ, ◌<ℤ◌, ◌≤ℤ◌, arith}
use Rattle.std.proofs.lemmas.Int.{ints}
use Rattle.integer_algebra.proofs.SignSteps.{not_both_positive, zero_not_positive}
use Rattle.plane.proofs.Points.{whole_is_point}
use Rattle.plane.proofs.Segments.{on_first_end, on_last_end, on_reversed, on_antisym, on_nested, middle, middle_first, middle_is_point}
use Rattle.plane.proofs.Segments.{middle_last, middle_on, left_not_on, same_straight, stays_left}
use Rattle.plane.proofs.Turns.{determinant_same_ends, determinant_same_last, determinant_swap_first}
use Rattle.plane.specs.Prelude.{determinant, IsLeft, IsPoint, IsRight, IsSame, On, Point, Triple, whole}
use Rattle.rings.proofs.Crossings.{winding_law, left_swapped, right_swapped}
use Rattle.rings.proofs.Vertices.{closed_edges_of, on_some_cases, on_some_left, on_some_right, on_some_same, FirstHit, first_hit, HasPoint}
use Rattle.rings.proofs.Vertices.{AllEnds, all_ends_map, farthest_of, has_cases, has_left, has_right, all_ends_along, member_on_along}
use Rattle.rings.specs.Across.{Misses}
use Rattle.rings.specs.Prelude.{Edge, edges_along, edges_of, IsClosed, IsOnSome, winding}
use Rattle.ring_laws.proofs.Ears.{not_zero_and_one}
use Rattle.ring_laws.proofs.Pieces.BesideChains.{beside_left_toward, both_chains}
use Rattle.ring_laws.proofs.Pieces.PieceConstants.{chain_constant, member_neither}
use Rattle.ring_laws.proofs.Pieces.TwoChains.{ArePieces, IsNeither, chain_off_piece, neither_swapped, swapped}
use Rattle.ring_laws.proofs.Triangles.{farthest_right}

-- ---- the way to a first hit

module _ (p t : Triple) (es : List Edge) (at_p : IsPoint p) (at_t : IsPoint t) (h : FirstHit p t es) where
  -- a point of the way that is on an edge is the hit,
  hit_only : (x : Triple) → IsPoint x → On x p h.point → IsOnSome es x → IsSame x h.point
  hit_only x at_x on k =
      let on_way = on_nested x p h.point p t at_x at_p h.rational at_p at_t (on_first_end p t) h.on_way on in
      on_antisym x h.point p at_x h.rational at_p on (h.before x at_x on_way k)

  -- so the way misses edges that have none but points of the others, where the hit is not on them
  pub misses_to_hit : (fs : List Edge) → ((x : Triple) → IsPoint x → On x p h.point → IsOnSome fs x → IsOnSome es x)
      → ¬ (IsOnSome fs h.point) → Misses p h.point fs
  misses_to_hit fs among off x at_x on k = off (on_some_same x h.point at_x (hit_only x at_x on (among x at_x on k)) fs k)

-- ---- beside the diagonal

-- where the first hit from the left of the diagonal is
pub data LeftHit (v z : Point) (ms ns : List Point) : Type 0 where
  on_first_chain : (y : Triple) → IsPoint y → IsOnSome (edges_along z ms v) y → IsNeither v z y
      → winding (edges_of (z ∷ v ∷ ns)) y ≡ pos 0 → LeftHit v z ms ns
  on_second_chain : (y : Triple) → IsPoint y → IsOnSome (edges_along v ns z) y → IsNeither v z y
      → winding (edges_of (v ∷ z ∷ ms)) y ≡ pos 1 → LeftHit v z ms ns

-- a point left of the diagonal is neither of its ends
left_neither : (v z : Point) (y : Triple) → IsLeft (whole v) (whole z) y → IsNeither v z y
left_neither v z y left = record {
  not_first = λ s. not_both_positive left (zero_not_positive
      (same_straight (whole v) (whole z) y (whole v) (whole_is_point v) s (determinant_same_ends (whole v) (whole z))));
  not_last = λ s. not_both_positive left (zero_not_positive
      (same_straight (whole v) (whole z) y (whole z) (whole_is_point z) s (determinant_same_last (whole v) (whole z))));
}

module _ (v z : Point) (ms ns : List Point) (c : ArePieces v z ms ns) (a b : Point)
    (left : IsLeft (whole v) (whole z) (whole a)) (right : IsRight (whole v) (whole z) (whole b))
    (on_a : IsOnSome (both_chains v z ms ns) (whole a)) where
  -- where a point of the ring is left of the diagonal, there is such a hit
  pub left_hit : LeftHit v z ms ns
  left_hit =
      let m = middle v z in
      let at_m = middle_is_point v z in
      let at_a = whole_is_point a in
      let inner : IsNeither v z m = record { not_first = λ s. c.differ (middle_first v z s); not_last = λ s. c.differ (middle_last v z s) } in
      let p = beside_left_toward v z ms ns c a b left right m at_m (middle_on v z) inner (whole a) at_a left in
      let s = p.point in
      let h = first_hit s (whole a) p.rational at_a (both_chains v z ms ns) (whole a) at_a (on_last_end s (whole a)) on_a in
      let y = h.point in
      let y_left = stays_left y s (whole a) h.rational p.rational at_a h.on_way (whole v) (whole z) p.is_left left in
      let neither = left_neither v z y y_left in
      let between = λ (x : Triple) (at_x : IsPoint x) (on : On x s y).
      stays_left x s y at_x p.rational h.rational on (whole v) (whole z) p.is_left y_left in
      let one = edges_along z ms v in
      let other = edges_along v ns z in
      elim (on_some_cases y one other h.on_edge) [
        | inl on_one ↦
            let among : (x : Triple) → IsPoint x → On x s y → IsOnSome (edges_of (z ∷ v ∷ ns)) x → IsOnSome (both_chains v z ms ns) x =
            λ x at_x on k. elim k [
              | inl d ↦ absurd (left_not_on v z x at_x (between x at_x on) (on_reversed x (whole z) (whole v) d))
              | inr j ↦ on_some_right x one other j
            ] in
            let misses = misses_to_hit s (whole a) (both_chains v z ms ns) p.rational at_a h (edges_of (z ∷ v ∷ ns)) among
            (chain_off_piece v z ms ns c y h.rational on_one neither) in
            let stays = winding_law s y p.rational h.rational (edges_of (z ∷ v ∷ ns)) (closed_edges_of (z ∷ v ∷ ns)) misses in
            on_first_chain y h.rational on_one neither (sym stays ∙ p.second_is_zero)
        | inr on_other ↦
            let among : (x : Triple) → IsPoint x → On x s y → IsOnSome (edges_of (v ∷ z ∷ ms)) x → IsOnSome (both_chains v z ms ns) x =
            λ x at_x on k. elim k [
              | inl d ↦ absurd (left_not_on v z x at_x (between x at_x on) d)
              | inr j ↦ on_some_left x one other j
            ] in
            let misses = misses_to_hit s (whole a) (both_chains v z ms ns) p.rational at_a h (edges_of (v ∷ z ∷ ms)) among
            (chain_off_piece z v ns ms (swapped v z ms ns c) y h.rational on_other (neither_swapped v z y neither)) in
            let stays = winding_law s y p.rational h.rational (edges_of (v ∷ z ∷ ms)) (closed_edges_of (v ∷ z ∷ ms)) misses in
            on_second_chain y h.rational on_other neither (sym stays ∙ p.first_is_one)
      ]

-- the second piece does not wind round the first chain, but for its ends
pub record IsUnwound (v z : Point) (ms ns : List Point) : Type 0 where
  pub value : (x : Triple) → IsPoint x → IsOnSome (edges_along z ms v) x → IsNeither v z x → winding (edges_of (z ∷ v ∷ ns)) x ≡ pos 0

-- so it is where it does not wind round one point of the chain
unwound_from : (v z : Point) (ms ns : List Point) → ArePieces v z ms ns → (y : Triple) → IsPoint y → IsOnSome (edges_along z ms v) y
    → IsNeither v z y → winding (edges_of (z ∷ v ∷ ns)) y ≡ pos 0 → IsUnwound v z ms ns
unwound_from v z ms ns c y at_y on neither zero =
    record { value = λ x at_x k n. chain_constant v z ms ns c x y at_x at_y k on n neither ∙ zero }

-- ---- the farthest point

-- what is at most as far left is at least as far right
farther_right : (f g d e : ℤ) → f ≤ℤ g → d ≡ neg_ℤ g → e ≡ neg_ℤ f → d ≤ℤ (e *ℤ pos 1)
farther_right f g d e h k l = omega (arith, ints)

-- what is 0 is at most what is above a positive number
above_zero : (f g h : ℤ) → f ≡ pos 0 → pos 0 <ℤ h → h ≤ℤ g → f ≤ℤ g
above_zero f g h e k l = omega (arith, ints)

-- closed edges do not wind round a point that is as far to the left of the diagonal as all their ends
farthest_unwound : (v z g : Point) → ¬ (v ≡ z) → (es : List Edge) → IsClosed es → ¬ (IsOnSome es (whole g))
    → AllEnds (λ x. determinant (whole v) (whole z) (whole x) ≤ℤ determinant (whole v) (whole z) (whole g)) es
    → winding es (whole g) ≡ pos 0
farthest_unwound v z g differ es closed off ends =
    farthest_right z v (λ e. differ (sym e)) es closed (whole g) (whole_is_point g) off
    (all_ends_map (λ x h. farther_right _ _ _ _ h (determinant_swap_first (whole v) (whole z) (whole g))
    (determinant_swap_first (whole v) (whole z) (whole x))) es ends)

module _ (v z : Point) (ms ns : List Point) (c : ArePieces v z ms ns) where
  -- where a member is left of the diagonal, one piece does not wind round the chain of the other
  some_unwound : (a : Point) → HasPoint (ms ++ ns) a → IsLeft (whole v) (whole z) (whole a) → IsUnwound v z ms ns ⊎ IsUnwound z v ns ms
  some_unwound a h left =
      let f = λ (x : Point). determinant (whole v) (whole z) (whole x) in
      let best = farthest_of f (ms ++ ns) a h in
      let g = best.point in
      let P = λ (x : Point). f x ≤ℤ f g in
      let at_v : P v = above_zero _ _ _ (determinant_same_ends (whole v) (whole z)) left (best.farthest a h tt) in
      let at_z : P z = above_zero _ _ _ (determinant_same_last (whole v) (whole z)) left (best.farthest a h tt) in
      elim (has_cases g ms ns best.has_point) [
        | inl in_first ↦
            let ends = all_ends_along P v ns z at_v (λ n k. best.farthest n (has_right n ms ns k) tt) at_z in
            let zero = farthest_unwound v z g c.differ (edges_of (z ∷ v ∷ ns)) (closed_edges_of (z ∷ v ∷ ns)) (c.first_off g in_first)
            (at_z, at_v, ends) in
            inl (unwound_from v z ms ns c (whole g) (whole_is_point g) (member_on_along z ms v g in_first)
            (member_neither v z ms ns c g in_first) zero)
        | inr in_second ↦
            let ends = all_ends_along P z ms v at_z (λ m k. best.farthest m (has_left m ms ns k) tt) at_v in
            let zero = farthest_unwound v z g c.differ (edges_of (v ∷ z ∷ ms)) (closed_edges_of (v ∷ z ∷ ms)) (c.second_off g in_second)
            (at_v, at_z, ends) in
            let d = swapped v z ms ns c in
            inr (unwound_from z v ns ms d (whole g) (whole_is_point g) (member_on_along v ns z g in_second)
            (member_neither z v ns ms d g in_second) zero)
      ]

-- ---- both chains

-- neither piece winds round the chain of the other
pub record AreUnwound (v z : Point) (ms ns : List Point) : Type 0 where
  pub first : IsUnwound v z ms ns
  pub second : IsUnwound z v ns ms

-- where the second piece does not wind round the first chain, a hit from the right shows the other
unwound_by_right : (v z : Point) (ms ns : List Point) → ArePieces v z ms ns → IsUnwound v z ms ns → LeftHit z v ns ms
    → IsUnwound z v ns ms
unwound_by_right v z ms ns c u (on_first_chain y at_y on neither zero) =
    unwound_from z v ns ms (swapped v z ms ns c) y at_y on neither zero
unwound_by_right v z ms ns c u (on_second_chain y at_y on neither one) =
    absurd (not_zero_and_one (u.value y at_y on (neither_swapped z v y neither)) one)

-- a member of the lists is on the ring
member_on_ring : (v z : Point) (ms ns : List Point) (a : Point) → HasPoint (ms ++ ns) a → IsOnSome (both_chains v z ms ns) (whole a)
member_on_ring v z ms ns a h = elim (has_cases a ms ns h) [
  | inl k ↦ on_some_left (whole a) (edges_along z ms v) (edges_along v ns z) (member_on_along z ms v a k)
  | inr k ↦ on_some_right (whole a) (edges_along z ms v) (edges_along v ns z) (member_on_along v ns z a k)
]

-- the ring is the same with the chains in the other order
ring_exchanged : (v z : Point) (ms ns : List Point) (x : Triple) → IsOnSome (both_chains v z ms ns) x → IsOnSome (both_chains z v ns ms) x
ring_exchanged v z ms ns x h = elim (on_some_cases x (edges_along z ms v) (edges_along v ns z) h) [
  | inl k ↦ on_some_right x (edges_along v ns z) (edges_along z ms v) k
  | inr k ↦ on_some_left x (edges_along v ns z) (edges_along z ms v) k
]

-- where there are members on both sides of the diagonal, neither piece winds round the chain of the other
pub chains_unwound : (v z : Point) (ms ns : List Point) → ArePieces v z ms ns → (a b : Point) → HasPoint (ms ++ ns) a
    → HasPoint (ms ++ ns) b → IsLeft (whole v) (whole z) (whole a) → IsRight (whole v) (whole z) (whole b) → AreUnwound v z ms ns
chains_unwound v z ms ns c a b in_a in_b left right =
    let d = swapped v z ms ns c in
    let from_left = left_hit v z ms ns c a b left right (member_on_ring v z ms ns a in_a) in
    let from_right = left_hit z v ns ms d b a (left_swapped (whole v) (whole z) (whole b) right)
    (right_swapped (whole v) (whole z) (whole a) left) (ring_exchanged v z ms ns (whole b) (member_on_ring v z ms ns b in_b)) in
    elim (some_unwound v z ms ns c a in_a left) [
      | inl u ↦ record { first = u; second = unwound_by_right v z ms ns c u from_right }
      | inr u ↦ record { first = unwound_by_right z v ns ms d u from_left; second = u }
    ]
