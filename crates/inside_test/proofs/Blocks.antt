-- Edges to one side of a point: it is on none of them, and whether they are crossed is told by their ends.
use Rattle.std.proofs.Common.{◌≡◌, ◌⊎◌, inl, inr, refl, sym, ap, subst, ◌∙◌, ℕ, ◌+◌, ◌-◌, ◌<◌, ◌≤◌, ◌↔◌, IsTrue, zero, suc, ℤ, ◌*ℤ◌, ◌<ℤ◌, Bool, true, false, List, length, take, drop, get_or, arith}
use Rattle.std.proofs.lemmas.Int.{ints}
use Rattle.std.proofs.lemmas.List.{get_or-drop, get_or-take, length-drop, length-take-le}
use Rattle.std.specs.Bool.{beq}
use Rattle.std.specs.Int.Signed.{le_z, lt_z}
use Rattle.std.specs.Prelude.{◌&&◌, not}
use Rattle.plane.proofs.Points.{whole_is_point}
use Rattle.plane.proofs.Segments.{not_after_both, not_before_both}
use Rattle.plane.specs.Point.{IsInBounds, IsPoint, Point, Triple, whole}
use Rattle.plane.specs.Segment.{On}
use Rattle.rings.proofs.Vertices.{vertex_in_range}
use Rattle.rings.specs.Edge.{edge}
use Rattle.rings.specs.Inside.{is_crossed}
use Rattle.rings.specs.Ring.{origin, vertex}
use Rattle.exact_plane.proofs.Overlaps.{overlap_of_meeting}
use Rattle.exact_plane.specs.Boxes.{Encloses, Overlap}
use Rattle.exact_plane.specs.declared.bounding_box.BoundingBox.{BoundingBox}
use Rattle.inside_test.proofs.ApartEdges.{not_on_above, not_on_below}
use Rattle.inside_test.proofs.CrossedEdges.{crossed_backward, crossed_from_left, crossed_from_right, not_crossed_unpassed}
use Rattle.inside_test.proofs.Odd.{over_more, over_none}
use Rattle.inside_test.proofs.Passed.{left_of_rise, not_falling, right_of_rise, test_fails_high, test_fails_low}
use Rattle.inside_test.proofs.Touched.{follows_right, precedes_left}
use Rattle.inside_test.specs.Apart.{MissesEdges}
use Rattle.inside_test.specs.Block.{IsBoxMissed, IsBoxRight, OfAllEnclosed}
use Rattle.inside_test.specs.Meeting.{rises}
use Rattle.inside_test.specs.Odd.{IsOddOver}

-- whether one of two numbers is above a third, and the other is not
abbrev is_between_ends : Bool → Bool → Bool
is_between_ends first last = not (beq first last)

-- where an edge rises past a height, its ends are on both sides of it,
ends_of_rise : (low high y : ℤ) → (le_z low y && lt_z y high) ≡ true → is_between_ends (lt_z y low) (lt_z y high) ≡ true
ends_of_rise low high y h = grind (arith, ints)

-- so they are where it falls,
ends_of_fall : (low high y : ℤ) → (le_z low y && lt_z y high) ≡ true → is_between_ends (lt_z y high) (lt_z y low) ≡ true
ends_of_fall low high y h = grind (arith, ints)

-- and else they are not
ends_beside : (a b y : ℤ) → (le_z a y && lt_z y b) ≡ false → (le_z b y && lt_z y a) ≡ false → is_between_ends (lt_z y a) (lt_z y b) ≡ false
ends_beside a b y h k = grind (arith, ints)

-- an edge is passed by at a point: it is on no point of it, and it is crossed or not
record IsPassed (a b : Point) (p : Triple) (crossed : Bool) : Type 0 where
  pub off : ¬ (On p (whole a) (whole b))
  pub is : is_crossed (edge a b) p ≡ crossed

-- the two ways of a test
is_or_not : (b : Bool) → (b ≡ true) ⊎ (b ≡ false)
is_or_not true = inl refl
is_or_not false = inr refl

module _ (a b : Point) (p : Triple) (at_p : IsPoint p) where
  -- above the point,
  passed_above : p.Y <ℤ (a.y *ℤ p.W) → p.Y <ℤ (b.y *ℤ p.W) → IsPassed a b p false
  passed_above first last = record {
    off = not_on_above a b p at_p first last;
    is = not_crossed_unpassed (edge a b) p (test_fails_low _ _ _ first) (test_fails_low _ _ _ last);
  }

  -- below it,
  passed_below : (a.y *ℤ p.W) <ℤ p.Y → (b.y *ℤ p.W) <ℤ p.Y → IsPassed a b p false
  passed_below first last = record {
    off = not_on_below a b p at_p first last;
    is = not_crossed_unpassed (edge a b) p (test_fails_high (a.y *ℤ p.W) (b.y *ℤ p.W) p.Y (omega (arith, ints, last)))
        (test_fails_high (b.y *ℤ p.W) (a.y *ℤ p.W) p.Y (omega (arith, ints, first)));
  }

  -- left of it,
  passed_left : (a.x *ℤ p.W) <ℤ p.X → (b.x *ℤ p.W) <ℤ p.X → IsPassed a b p false
  passed_left first last = record {
    off = λ on. not_after_both p (whole a) (whole b) at_p (whole_is_point a) (whole_is_point b) on (precedes_left a p first, precedes_left b p last);
    is = elim (is_or_not (rises a b p)) [
      | inl up ↦ crossed_from_right (edge a b) p (sym (right_of_rise a b p at_p up first last)) ∙ not_falling (a.y *ℤ p.W) (b.y *ℤ p.W) p.Y up
      | inr not_up ↦ elim (is_or_not (rises b a p)) [
        | inl down ↦
            sym (crossed_backward a b p) ∙ crossed_from_right (edge b a) p (sym (right_of_rise b a p at_p down last first)) ∙ not_falling (b.y *ℤ p.W) (a.y *ℤ p.W) p.Y down
        | inr not_down ↦ not_crossed_unpassed (edge a b) p not_up not_down
      ]
    ];
  }

  -- and right of it
  passed_right : p.X <ℤ (a.x *ℤ p.W) → p.X <ℤ (b.x *ℤ p.W)
      → IsPassed a b p (is_between_ends (lt_z p.Y (a.y *ℤ p.W)) (lt_z p.Y (b.y *ℤ p.W)))
  passed_right first last = record {
    off = λ on. not_before_both p (whole a) (whole b) at_p (whole_is_point a) (whole_is_point b) on (follows_right a p first, follows_right b p last);
    is = elim (is_or_not (rises a b p)) [
      | inl up ↦
          crossed_from_left (edge a b) p (sym (left_of_rise a b p at_p up first last)) ∙ up ∙ sym (ends_of_rise (a.y *ℤ p.W) (b.y *ℤ p.W) p.Y up)
      | inr not_up ↦ elim (is_or_not (rises b a p)) [
        | inl down ↦
            sym (crossed_backward a b p) ∙ crossed_from_left (edge b a) p (sym (left_of_rise b a p at_p down last first)) ∙ down
            ∙ sym (ends_of_fall (b.y *ℤ p.W) (a.y *ℤ p.W) p.Y down)
        | inr not_down ↦ not_crossed_unpassed (edge a b) p not_up not_down ∙ sym (ends_beside (a.y *ℤ p.W) (b.y *ℤ p.W) p.Y not_up not_down)
      ]
    ];
  }

-- ---- edges of a ring that follow one another

-- two changes of sides make one,
one_change : (a b c : Bool) → is_between_ends a c ≡ not (beq (is_between_ends a b) (is_between_ends b c))
one_change true true true = refl
one_change true true false = refl
one_change true false true = refl
one_change true false false = refl
one_change false true true = refl
one_change false true false = refl
one_change false false true = refl
one_change false false false = refl

-- and no change is none
no_change : (a : Bool) → false ≡ is_between_ends a a
no_change true = refl
no_change false = refl

module _ (ring : List Point) (p : Triple) (above : ℕ → Bool) (first : ℕ) where
  -- where each is crossed or not by whether its ends are on both sides, all of them are by whether the first and the last are
  passed_all : (count : ℕ) → first + count ≤ length ring
      → ((k : ℕ) → first ≤ k → k < first + count → IsPassed (vertex ring k) (vertex ring (k + 1)) p (is_between_ends (above k) (above (k + 1))))
      → IsOddOver ring first (first + count) p (is_between_ends (above first) (above (first + count)))
  passed_all zero within passed =
      let same : first ≡ first + zero = omega arith in
      subst (λ n. IsOddOver ring first n p (is_between_ends (above first) (above n))) same
      (subst (IsOddOver ring first first p) (no_change (above first)) (over_none ring p first))
  passed_all (suc count) within passed =
      let k : ℕ = first + count in
      let more : k + 1 ≡ first + suc count = omega arith in
      let earlier = passed_all count (omega arith) (λ j from below. passed j from (omega (arith, below))) in
      let here = passed k (omega arith) (omega arith) in
      subst (λ n. IsOddOver ring first n p (is_between_ends (above first) (above n))) more
      (over_more ring p first k _ _ _ (omega (arith, within)) earlier here.off here.is (one_change (above first) (above k) (above (k + 1))))

-- ---- a block of edges whose ends are in a box

-- where a count is the rest, the sum is the whole
sum_is : (first end : ℕ) → first < end → first + (end - first) ≡ end
sum_is first end h = omega arith

module _ (ring : List Point) (first end : ℕ) (some : first < end) (within : end < length ring) (b : BoundingBox)
    (enclosed : (k : ℕ) → k < length (take (end + 1 - first) (drop first ring)) → (other : Point)
    → Encloses b (get_or (take (end + 1 - first) (drop first ring)) k other))
    (limits : (k : ℕ) → k < length (take (end + 1 - first) (drop first ring)) → (other : Point)
    → IsInBounds (get_or (take (end + 1 - first) (drop first ring)) k other)) where
  -- what all points in the box have, the ends have
  of_end : (P : Point → Type 0) → OfAllEnclosed b P → (i : ℕ) → first ≤ i → i ≤ end → P (vertex ring i)
  of_end P all i from to =
      let k : ℕ = i - first in
      let size : length (take (end + 1 - first) (drop first ring)) ≡ end + 1 - first =
      length-take-le (end + 1 - first) (drop first ring) (omega (arith, length-drop first ring)) in
      let below : k < end + 1 - first = omega arith in
      let in_block : k < length (take (end + 1 - first) (drop first ring)) = omega (arith, size, below) in
      let sum : first + k ≡ i = omega arith in
      let at : get_or (take (end + 1 - first) (drop first ring)) k origin ≡ vertex ring i =
      get_or-take (end + 1 - first) (drop first ring) k origin below ∙ get_or-drop first ring k origin ∙ ap (λ j. get_or ring j origin) sum
      ∙ sym (vertex_in_range ring i origin (omega (arith, within))) in
      subst P at (all _ (limits k in_block origin) (enclosed k in_block origin))

  -- so have both ends of each edge
  of_edge : (P : Point → Type 0) → OfAllEnclosed b P → (k : ℕ) → first ≤ k → k < end → P (vertex ring k) × P (vertex ring (k + 1))
  of_edge P all k from below = (of_end P all k from (omega arith), of_end P all (k + 1) (omega arith) (omega arith))

  -- a segment in a box that shares no point with theirs meets none of them
  pub block_apart : (around : BoundingBox) → ¬ (Overlap around b) → (p q : Point) → Encloses around p → Encloses around q → MissesEdges ring first end p q
  block_apart around apart p q at_p at_q k from below meet =
      let (here, next) = of_edge (Encloses b) (λ v bounds within. within) k from below in
      apart (overlap_of_meeting around b p q (vertex ring k) (vertex ring (k + 1)) at_p at_q here next meet)

  module _ (p : Triple) (at_p : IsPoint p) where
    -- where each edge is passed by in a way that its ends tell, all of them are
    all_by_ends : (above : ℕ → Bool)
        → ((k : ℕ) → first ≤ k → k < end → IsPassed (vertex ring k) (vertex ring (k + 1)) p (is_between_ends (above k) (above (k + 1))))
        → IsOddOver ring first end p (is_between_ends (above first) (above end))
    all_by_ends above passed =
        let count : ℕ = end - first in
        let sum = sum_is first end some in
        subst (λ n. IsOddOver ring first n p (is_between_ends (above first) (above n))) sum
        (passed_all ring p above first count (omega (arith, within)) (λ k from below. passed k from (omega (arith, below))))

    -- those that are not crossed for what both ends have change nothing,
    none_by : (P : Point → Type 0) → OfAllEnclosed b P → ((u v : Point) → P u → P v → IsPassed u v p false) → IsOddOver ring first end p false
    none_by P all passed = all_by_ends (λ _. true) (λ k from below. let (here, next) = of_edge P all k from below in passed _ _ here next)

    -- so it is with those that the ray misses,
    pub block_missed : IsBoxMissed b p → IsOddOver ring first end p false
    block_missed (inl above) = none_by (λ v. p.Y <ℤ (v.y *ℤ p.W)) above (λ u v. passed_above u v p at_p)
    block_missed (inr (inl below)) = none_by (λ v. (v.y *ℤ p.W) <ℤ p.Y) below (λ u v. passed_below u v p at_p)
    block_missed (inr (inr left)) = none_by (λ v. (v.x *ℤ p.W) <ℤ p.X) left (λ u v. passed_left u v p at_p)

    -- and those right of the point are crossed oddly where the first end and the last are on both sides of its height
    pub block_crossed : IsBoxRight b p → (first_above last_above : Bool) → IsTrue first_above ↔ (p.Y <ℤ (Point.y (vertex ring first) *ℤ p.W))
        → IsTrue last_above ↔ (p.Y <ℤ (Point.y (vertex ring end) *ℤ p.W))
        → IsOddOver ring first end p (is_between_ends first_above last_above)
    block_crossed right first_above last_above first_is last_is =
        let above : ℕ → Bool = λ k. lt_z p.Y (Point.y (vertex ring k) *ℤ p.W) in
        subst (λ f. IsOddOver ring first end p (is_between_ends f last_above)) (test_is first_above _ _ first_is)
        (subst (λ l. IsOddOver ring first end p (is_between_ends (above first) l)) (test_is last_above _ _ last_is)
        (all_by_ends above (λ k from below.
        let (here, next) = of_edge (λ v. p.X <ℤ (v.x *ℤ p.W)) right k from below in
        passed_right (vertex ring k) (vertex ring (k + 1)) p at_p here next)))
      where
        -- a flag that says whether a number is above another is the test of it
        test_is : (flag : Bool) (x y : ℤ) → IsTrue flag ↔ (x <ℤ y) → lt_z x y ≡ flag
        test_is true x y h = let k = h.0 refl in grind (arith, ints)
        test_is false x y h = grind (arith, ints)
