-- The cut rule at any vertex of a ring: the cut at its least vertex is a diagonal.
use Rattle.std.proofs.Common.{List, [], arith, drop, inl, inr, length, refl, subst, sym, take, ℕ, ◌++◌, ◌+◌, ◌-◌, ◌<◌, ◌∙◌, ◌∷◌, ◌≡◌, ◌≤ℤ◌, ◌≤◌}
use Rattle.std.proofs.lemmas.Int.{ints}
use Rattle.std.proofs.lemmas.List.{take-append-drop}
use Rattle.plane.proofs.Turns.{determinant_swap_ends}
use Rattle.plane.specs.Prelude.{IsLeft, IsRight, Point, whole}
use Rattle.rings.proofs.Simple.{apart_of_simple}
use Rattle.rings.proofs.Vertices.{HasPoint, farthest_or_none, has_swapped}
use Rattle.rings.specs.Apart.{IsApartRing}
use Rattle.rings.specs.Prelude.{IsSimple, vertex}
use Rattle.rings.specs.Winding.{IsLeastVertex}
use Rattle.ring_laws.proofs.Diagonals.CornerNumbers.{AreBoth, far_of, has_other, in_corner, neither_back, none_of}
use Rattle.ring_laws.proofs.Diagonals.CutRule.{base_diagonal, base_diagonal_right, farthest_diagonal, farthest_diagonal_right}
use Rattle.ring_laws.proofs.Diagonals.Diagonals.{diagonal_backward, diagonal_rotated}
use Rattle.ring_laws.proofs.Ears.{NoneBefore, none_before_least, ReadFrom, apart_from, read_from}
use Rattle.ring_laws.proofs.Simple.{InTriangle, height, simple_ring_law}
use Rattle.ring_laws.proofs.Triangles.{in_or_not}
use Rattle.ring_laws.specs.CutRule.{IsCutAt, IsFarthestInCorner, IsInCorner, IsLeftCorner, across, to_farthest}
use Rattle.ring_laws.specs.Diagonal.{IsDiagonal}

-- a ring whose parts in the other order are v, w, ms and u; v is vertex i, a least vertex, and there are more than its neighbours
module _ (ring : List Point) (i : ℕ) (v w : Point) (ms : List Point) (u : Point) (are : drop i ring ++ take i ring ≡ v ∷ w ∷ (ms ++ u ∷ []))
    (is_v : vertex ring i ≡ v) (apart : IsApartRing (v ∷ w ∷ (ms ++ u ∷ []))) (some : 0 < length ms)
    (least : NoneBefore (w ∷ (ms ++ u ∷ [])) v) where
  -- a diagonal from v on is one of the ring
  of_ring : (a b : Point) → IsDiagonal (v ∷ w ∷ (ms ++ u ∷ [])) a b → IsDiagonal ring a b
  of_ring a b d =
      subst (λ rs. IsDiagonal rs a b) (take-append-drop i ring)
      (diagonal_rotated a b (take i ring) (drop i ring) (subst (λ rs. IsDiagonal rs a b) (sym are) d))

  -- the turn from p over w to q is right where the other one is left
  other_turn : IsLeft (whole w) (whole v) (whole u) → IsRight (whole u) (whole v) (whole w)
  other_turn left = omega (arith, ints, left, determinant_swap_ends (whole u) (whole v) (whole w))

  -- where no vertex is in the corner, its ends have a diagonal,
  across_diagonal : (p q : Point) → AreBoth u w p q → IsLeft (whole p) (whole v) (whole q) → ((j : ℕ) → ¬ IsInCorner ring i p q j)
      → IsDiagonal ring p q
  across_diagonal p q (inl (is_u, is_w)) left none = rw (is_u, is_w)
      (of_ring u w (base_diagonal v w ms u some apart least (rw (is_u, is_w) at left)
      (none_of ring i v w ms u are is_v apart u w (inl (refl, refl)) (rw (is_u, is_w) at none))))
  across_diagonal p q (inr (is_w, is_u)) left none = rw (is_w, is_u)
      (of_ring w u (diagonal_backward u w (v ∷ w ∷ (ms ++ u ∷ [])) (base_diagonal_right v w ms u apart least (other_turn (rw (is_w, is_u) at left)) some
      (none_of ring i v w ms u are is_v apart w u (inr (refl, refl)) (rw (is_w, is_u) at none)))))

  -- and a farthest vertex in it has one with v
  farthest_diagonal_at : (p q : Point) → AreBoth u w p q → IsLeft (whole p) (whole v) (whole q) → (k : ℕ)
      → IsFarthestInCorner ring i p q k → IsDiagonal ring v (vertex ring k)
  farthest_diagonal_at p q (inl (is_u, is_w)) left k far =
      of_ring v (vertex ring k)
      (farthest_diagonal v w ms u apart least (rw (is_u, is_w) at left) (far_of ring i v w ms u are is_v apart u w (inl (refl, refl)) k (rw (is_u, is_w) at far)))
  farthest_diagonal_at p q (inr (is_w, is_u)) left k far =
      of_ring v (vertex ring k)
      (farthest_diagonal_right v w ms u apart least (other_turn (rw (is_w, is_u) at left))
      (far_of ring i v w ms u are is_v apart w u (inr (refl, refl)) k (rw (is_w, is_u) at far)))

-- the cut at a least vertex is a diagonal
pub cut_is_diagonal_at : (ring : List Point) → 3 < length ring → IsApartRing ring → (i : ℕ) → i < length ring → IsLeastVertex ring i
    → (a b : Point) → IsCutAt ring i a b → IsDiagonal ring a b
cut_is_diagonal_at ring some apart i within least a b = go (read_from ring i (omega arith) within)
  where
    corner : {p q : Point} (r : ReadFrom ring i) → IsLeftCorner ring i p q → AreBoth r.u r.w p q
    corner r c = elim c.neighbours [
      | inl (is_before, is_after) ↦ inl (is_before ∙ r.before, is_after ∙ r.after)
      | inr (is_after, is_before) ↦ inr (is_after ∙ r.after, is_before ∙ r.before)
    ]

    none : (r : ReadFrom ring i) → NoneBefore (r.w ∷ (r.ms ++ r.u ∷ [])) (vertex ring i)
    none r y has =
        none_before_least ring i least y
        (subst (λ rs. HasPoint rs y) (take-append-drop i ring)
        (has_swapped y (drop i ring) (take i ring) (subst (λ rs. HasPoint rs y) (sym r.is) (inr has))))

    go : (r : ReadFrom ring i) → IsCutAt ring i a b → IsDiagonal ring a b
    go r (across c empty) =
        across_diagonal ring i (vertex ring i) r.w r.ms r.u r.is refl (apart_from ring i r apart) (omega (arith, r.size)) (none r)
        a b (corner r c) c.left empty
    go r (to_farthest p q k c far is_a is_b) =
        rw (is_a, is_b) (farthest_diagonal_at ring i (vertex ring i) r.w r.ms r.u r.is refl (apart_from ring i r apart) (omega (arith, r.size)) (none r)
        p q (corner r c) c.left k far)

-- and there is one
pub some_cut : (ring : List Point) → 3 ≤ length ring → IsSimple ring → (i : ℕ) → i < length ring → IsLeastVertex ring i
    → (a : Point) × (b : Point) × IsCutAt ring i a b
some_cut ring some simple i within least = elim (simple_ring_law ring some simple i within least) [
  | inl h ↦ at_corner before after (inl (reading.before, reading.after)) (record { neighbours = inl (refl, refl); left = h.0 })
  | inr h ↦ at_corner after before (inr (reading.after, reading.before)) (record {
    neighbours = inr (refl, refl);
    left = let right = h.0 in omega (arith, ints, determinant_swap_ends (whole before) (whole (vertex ring i)) (whole after));
  })
]
  where
    before : Point
    before = vertex ring (i + (length ring - 1))

    after : Point
    after = vertex ring (i + 1)

    reading : ReadFrom ring i
    reading = read_from ring i some within

    at_corner : (p q : Point) → AreBoth reading.u reading.w p q → IsLeftCorner ring i p q → (a : Point) × (b : Point) × IsCutAt ring i a b
    at_corner p q both corner =
        let r = reading in
        let v = vertex ring i in
        let apart = apart_from ring i r (apart_of_simple ring simple) in
        let other = λ (k : ℕ) (c : IsInCorner ring i p q k).
        (let neither = neither_back both c.not_first c.not_last in
        has_other ring i v r.w r.ms r.u r.is refl apart k c.in_ring neither.0 c.not_middle neither.1) in
        elim (farthest_or_none (InTriangle p v q) (λ y. in_or_not p v q (whole y)) (height p q) r.ms) [
          | inl none ↦ (p, q, across corner (λ k c. none (vertex ring k) (other k c) c.in_triangle))
          | inr far ↦
              let (j, c, is) = in_corner ring i v r.w r.ms r.u r.is refl apart p q both far.point far.has_point far.chosen in (
                v,
                vertex ring j,
                to_farthest p q j corner (record {
                  in_corner = c;
                  farthest = λ k d. subst (λ (y : Point). height p q (vertex ring k) ≤ℤ height p q y) (sym is) (far.farthest (vertex ring k) (other k d) d.in_triangle);
                }) refl refl,
              )
        ]
