-- The law of crossing parity: along a segment that meets no edge of a closed list, the winding number stays.
use Rattle.std.proofs.Common.{◌≡◌, inl, inr, refl, sym, ◌∙◌, ℤ, pos, negsuc, ◌+ℤ◌, ◌-ℤ◌, ◌*ℤ◌, ◌≤ℤ◌, List, [], ◌∷◌, ◌++◌, arith}
use Rattle.std.proofs.lemmas.Int.{ints}
use Rattle.integer_algebra.proofs.Signs.{lt_or_le}
use Rattle.plane.proofs.Segments.{on_first_end, on_reversed}
use Rattle.plane.specs.Point.{IsPoint, Point, Triple}
use Rattle.rings.proofs.Crossings.Crossings.{winding-append}
use Rattle.rings.proofs.Crossings.EdgeLaw.{edge_law, edge_law_left, edge_law_right, right_between}
use Rattle.rings.proofs.Crossings.Parity.{same_parity}
use Rattle.rings.proofs.Vertices.{closed_edges_of, growth-append}
use Rattle.rings.specs.Across.{CrossesRight, Misses}
use Rattle.rings.specs.Prelude.{crossing, Edge, edges_of, growth, IsClosed, IsIn, winding}

-- a segment has two directions
pub misses_swapped : (p q : Triple) (es : List Edge) → Misses p q es → Misses q p es
misses_swapped p q es h x at_x on = h x at_x (on_reversed x q p on)

-- ---- numbers

-- differences add up
sums_differ : (a b c d k l : ℤ) → a -ℤ b ≡ k → c -ℤ d ≡ l → (a +ℤ c) -ℤ (b +ℤ d) ≡ k +ℤ l
sums_differ a b c d k l h g = omega (arith, ints)

-- without growth the numbers are equal
equal_from : (a b g : ℤ) → a -ℤ b ≡ g → g ≡ pos 0 → a ≡ b
equal_from a b g h e = omega (arith, ints)

-- three differences add up, of which one is greater by n
one_differs : (a b c d u v k l m n : ℤ) → a -ℤ b ≡ k → c -ℤ d ≡ l +ℤ n → u -ℤ v ≡ m
    → (a +ℤ (c +ℤ u)) -ℤ (b +ℤ (d +ℤ v)) ≡ (k +ℤ (l +ℤ m)) +ℤ n
one_differs a b c d u v k l m n h g f = omega (arith, ints)

-- without growth one number is greater by n
above_from : (a b g n : ℤ) → a -ℤ b ≡ g +ℤ n → g ≡ pos 0 → a ≡ b +ℤ n
above_from a b g n h e = omega (arith, ints)

-- or the other by 1
below_from : (a b g : ℤ) → a -ℤ b ≡ g +ℤ negsuc 0 → g ≡ pos 0 → b ≡ a +ℤ pos 1
below_from a b g h e = omega (arith, ints)

-- ---- a list that the segment does not meet

-- p is not above q
module _ (p q : Triple) (at_p : IsPoint p) (at_q : IsPoint q) (below : (p.Y *ℤ q.W) ≤ℤ (q.Y *ℤ p.W)) where
  -- the winding numbers differ by the growth of the count
  winding_grows : (es : List Edge) → Misses p q es → winding es p -ℤ winding es q ≡ growth (right_between p q) es
  winding_grows [] h = refl
  winding_grows (e ∷ es) h =
      sums_differ (crossing e p) (crossing e q) (winding es p) (winding es q) _ _
      (edge_law p q at_p at_q below e (λ m. h m.point m.rational m.on_first (inl m.on_second)))
      (winding_grows es (λ x at_x on k. h x at_x on (inr k)))

  -- along a closed list they are equal
  winding_stays : (es : List Edge) → IsClosed es → Misses p q es → winding es p ≡ winding es q
  winding_stays es closed h = equal_from _ _ _ (winding_grows es h) (closed (right_between p q))

  -- where it meets one edge, by the more by which that edge's crossings differ
  winding_grows_more : (before after : List Edge) (e : Edge) (more : ℤ) → Misses p q before → Misses p q after
      → crossing e p -ℤ crossing e q ≡ (right_between p q e.to -ℤ right_between p q e.from) +ℤ more
      → winding (before ++ e ∷ after) p -ℤ winding (before ++ e ∷ after) q
      ≡ growth (right_between p q) (before ++ e ∷ after) +ℤ more
  winding_grows_more before after e more h k law =
      let f = right_between p q in
      rw (winding-append p before (e ∷ after), winding-append q before (e ∷ after), growth-append f before (e ∷ after))
      (one_differs (winding before p) (winding before q) (crossing e p) (crossing e q) (winding after p) (winding after q)
      (growth f before) (f e.to -ℤ f e.from) (growth f after) more (winding_grows before h) law (winding_grows after k))

  -- from left to right the winding number falls by 1
  crossed_right : (before after : List Edge) (e : Edge) → IsClosed (before ++ e ∷ after) → Misses p q before → Misses p q after
      → CrossesRight p q e → winding (before ++ e ∷ after) p ≡ winding (before ++ e ∷ after) q +ℤ pos 1
  crossed_right before after e closed h k c =
      let grows = winding_grows_more before after e (pos 1) h k (edge_law_right p q at_p at_q below e c) in
      above_from _ _ _ (pos 1) grows (closed (right_between p q))

  -- from right to left it rises by 1
  crossed_left : (before after : List Edge) (e : Edge) → IsClosed (before ++ e ∷ after) → Misses p q before → Misses p q after
      → CrossesRight q p e → winding (before ++ e ∷ after) q ≡ winding (before ++ e ∷ after) p +ℤ pos 1
  crossed_left before after e closed h k c =
      let grows = winding_grows_more before after e (negsuc 0) h k (edge_law_left p q at_p at_q below e c) in
      below_from _ _ _ grows (closed (right_between p q))

-- ---- the laws

module _ (p q : Triple) (at_p : IsPoint p) (at_q : IsPoint q) where
  -- along a segment that meets no edge of a closed list, the winding number stays
  pub winding_law : (es : List Edge) → IsClosed es → Misses p q es → winding es p ≡ winding es q
  winding_law es closed h = elim (lt_or_le (q.Y *ℤ p.W) (p.Y *ℤ q.W)) [
    | inl above ↦ sym (winding_stays q p at_q at_p (omega (arith, ints)) es closed (misses_swapped p q es h))
    | inr below ↦ winding_stays p q at_p at_q below es closed h
  ]

  -- where the segment crosses one edge from left to right, and meets no other, the winding number falls by 1
  pub winding_law_crossed : (before after : List Edge) (e : Edge) → IsClosed (before ++ e ∷ after)
      → Misses p q before → Misses p q after → CrossesRight p q e
      → winding (before ++ e ∷ after) p ≡ winding (before ++ e ∷ after) q +ℤ pos 1
  winding_law_crossed before after e closed h k c = elim (lt_or_le (q.Y *ℤ p.W) (p.Y *ℤ q.W)) [
    | inl above ↦
        crossed_left q p at_q at_p (omega (arith, ints)) before after e closed (misses_swapped p q before h)
        (misses_swapped p q after k) c
    | inr below ↦ crossed_right p q at_p at_q below before after e closed h k c
  ]

-- two rational points are in a ring together, where the segment between them meets no edge
pub in_law : (ring : List Point) (p q : Triple) → IsPoint p → IsPoint q → Misses p q (edges_of ring) → IsIn ring p → IsIn ring q
in_law ring p q at_p at_q h (inl on) = absurd (h p at_p (on_first_end p q) on)
in_law ring p q at_p at_q h (inr odd) =
    let same = winding_law p q at_p at_q (edges_of ring) (closed_edges_of ring) h in
    inr (sym (same_parity (edges_of ring) (edges_of ring) p q same) ∙ odd)
