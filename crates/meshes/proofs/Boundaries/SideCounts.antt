-- Triangles whose sides cancel to the boundary of a simple piece: each edge of the piece is a side of one triangle, and any other
-- side has one triangle in each direction.
use Rattle.std.proofs.Common.{◌≡◌, inl, inr, sym, subst, ◌∙◌, ℕ, ◌+◌, ◌%◌, ◌<◌, ◌≤◌, ℤ, pos, negsuc, ◌≤ℤ◌, List, length, arith}
use Rattle.std.proofs.lemmas.Int.{ints}
use Rattle.plane.specs.Point.{Point}
use Rattle.rings.specs.Simple.{IsSimple}
use Rattle.meshes.proofs.Boundaries.Overlaps.{once_at, one_way_at, turns_left_at}
use Rattle.meshes.proofs.Boundaries.SideSums.{round_back, round_high, step, step_odd, tri_least, tri_low, tri_on}
use Rattle.meshes.proofs.Boundaries.SomeTriangle.{some_or_none}
use Rattle.meshes.proofs.Boundaries.Sums.{sum_not_negative, sum_with_one, sum_with_two}
use Rattle.meshes.proofs.Boundaries.Windings.{AreBounded}
use Rattle.meshes.proofs.Joins.{next_place, next_within}
use Rattle.meshes.proofs.Sides.{corners_differ, has_side_or_not, one_number}
use Rattle.meshes.specs.Boundary.{sum_round, sum_sides}
use Rattle.meshes.specs.Prelude.{HasSide, IsPieceEdge, IsSideOfOne, IsSideOfTwo, piece_points, tri_at}
use Rattle.meshes.specs.declared.tri.Tri.{Tri}

-- ---- edges of a piece

-- of three or more places round, no two come each after the other
not_round : (n p q : ℕ) → 3 ≤ n → p < n → q < n → (p + 1) % n ≡ q → (q + 1) % n ≡ p → ⊥
not_round n p q some p_below q_below e d = elim (next_place p n p_below) [
  | inl h ↦ elim (next_place q n q_below) [ inl k ↦ omega (arith, h, k, e, d, some) | inr k ↦ omega (arith, h, k, e, d, some) ]
  | inr h ↦ elim (next_place q n q_below) [ inl k ↦ omega (arith, h, k, e, d, some) | inr k ↦ omega (arith, h, k, e, d, some) ]
]

-- a simple piece has no edge in both directions
edge_one_way : (corners : List Point) (piece : List ℕ) → 3 ≤ length piece → IsSimple (piece_points corners piece) → (i j : ℕ)
    → IsPieceEdge piece i j → ¬ IsPieceEdge piece j i
edge_one_way corners piece some simple i j e d =
    let n = length piece in
    let one = one_number corners piece simple in
    not_round n e.place d.place some e.in_piece d.in_piece
    (one ((e.place + 1) % n) d.place (next_within e.place n e.in_piece) d.in_piece (e.to ∙ sym d.from))
    (one ((d.place + 1) % n) e.place (next_within d.place n d.in_piece) e.in_piece (d.to ∙ sym e.from))

-- ---- the counts

-- a sum that is not negative and is
clash_low : (s r : ℤ) → s ≡ r → pos 0 ≤ℤ s → r ≤ℤ negsuc 0 → ⊥
clash_low s r e h g = omega (arith, ints)

-- a sum that is positive and is not
clash_high : (s r : ℤ) → s ≡ r → pos 1 ≤ℤ s → r ≤ℤ pos 0 → ⊥
clash_high s r e h g = omega (arith, ints)

module _ (corners : List Point) (piece : List ℕ) (tris : List Tri) (b : AreBounded corners piece tris) (i j : ℕ) where
  -- a sum that counts the side back is at least that of a triangle with the side and one with the side back
  with_back : (k l : ℕ) → k < length tris → l < length tris → HasSide (tri_at tris k) i j → HasSide (tri_at tris l) j i
      → pos 0 ≤ℤ sum_sides (step j i) tris
  with_back k l k_below l_below k_has l_has =
      let t = tri_at tris k in
      let differ = corners_differ corners t (turns_left_at corners piece tris b k k_below) in
      let one_way = one_way_at corners piece tris b in
      sum_with_two (step j i) tris (negsuc 0) (pos 1) k l k_below l_below
      (λ same. one_way j i l l_below l_has (subst (λ n. HasSide (tri_at tris n) i j) same k_has))
      (tri_least j i t differ.0 differ.1 differ.2 k_has) (tri_on j i (tri_at tris l) l_has (one_way j i l l_below l_has))
      (λ o below not also. tri_low j i (tri_at tris o) (λ has. not (once_at corners piece tris b i j o k below k_below has k_has)))

  -- an edge of the piece is a side of one triangle
  pub edges_at : IsPieceEdge piece i j → (k : ℕ) × IsSideOfOne tris i j k
  edges_at e =
      let same = b.bounded (step j i) (step_odd j i) in
      let back = round_back j i piece e (edge_one_way corners piece b.polygon.some b.polygon.simple i j e) in
      elim (some_or_none (λ t. HasSide t i j) (λ t. has_side_or_not t i j) tris) [
        | inr none ↦
            absurd (clash_low (sum_sides (step j i) tris) (sum_round (step j i) piece) same
            (sum_not_negative (step j i) tris (λ m below. tri_low j i (tri_at tris m) (none m below))) back)
        | inl h ↦
            let (k, below, has) = h in (
              k,
              record {
                in_list = below;
                has = has;
                only = λ l l_below between. elim between [
                  | inl forward ↦ once_at corners piece tris b i j l k l_below below forward has
                  | inr backward ↦
                      absurd (clash_low (sum_sides (step j i) tris) (sum_round (step j i) piece) same (with_back k l below l_below has backward) back)
                ];
              },
            )
      ]

  -- and any other side belongs to one triangle in each direction
  pub inner_sides_at : (k : ℕ) → k < length tris → HasSide (tri_at tris k) i j → ¬ IsPieceEdge piece i j → (l : ℕ) × IsSideOfTwo tris i j k l
  inner_sides_at k below has inner = elim (some_or_none (λ t. HasSide t j i) (λ t. has_side_or_not t j i) tris) [
    | inr none ↦
        absurd (clash_high (sum_sides (step i j) tris) (sum_round (step i j) piece) (b.bounded (step i j) (step_odd i j))
        (sum_with_one (step i j) tris (pos 1) k below (tri_on i j (tri_at tris k) has (none k below))
        (λ m m_below not. tri_low i j (tri_at tris m) (none m m_below))) (round_high i j piece inner))
    | inl h ↦
        let (l, l_below, l_has) = h in (
          l,
          record {
            in_list = below;
            other_in_list = l_below;
            different = λ same. one_way_at corners piece tris b j i l l_below l_has (subst (λ n. HasSide (tri_at tris n) i j) same has);
            has = has;
            other_has = l_has;
            only = λ m m_below between. elim between [
              | inl forward ↦ inl (once_at corners piece tris b i j m k m_below below forward has)
              | inr backward ↦ inr (once_at corners piece tris b j i m l m_below l_below backward l_has)
            ];
          },
        )
  ]
