-- A segment and an edge in numbers: the heights of their ends over one another, and the sides of their lines.
-- How the signed crossings of one edge differ between the two ends of a segment.
use Rattle.std.proofs.Common.{◌≡◌, ◌⊎◌, inl, inr, [], ◌∷◌, refl, ◌∙◌, ℕ, ℤ, pos, ◌-ℤ◌, ◌*ℤ◌, ◌<ℤ◌, ◌≤ℤ◌, arith, ◌+ℤ◌, neg_ℤ}
use Rattle.std.proofs.lemmas.Int.{ints}
use Rattle.integer_algebra.proofs.Laws.{mul_comm}
use Rattle.integer_algebra.proofs.OneSign.{OneSign}
use Rattle.integer_algebra.proofs.Polynomial.{◌⊖◌, ◌⊗◌, same_value}
use Rattle.integer_algebra.proofs.SignSteps.{weak}
use Rattle.integer_algebra.proofs.Signs.{cancel_equal, factor_nonpositive, factor_positive, lt_or_le, mul_nonnegative, mul_nonpositive}
use Rattle.integer_algebra.proofs.Signs.{mul_positive}
use Rattle.plane.proofs.Meetings.{crossing_or_line}
use Rattle.plane.proofs.Order.{by_rises, rise, written_rise, rises}
use Rattle.plane.proofs.Points.{whole_is_point}
use Rattle.plane.proofs.Turns.{parts, straight_shift, determinant as det, determinant_swap_first}
use Rattle.plane.specs.Prelude.{determinant, IsLeft, IsPoint, IsRight, Meet, Point, Triple, whole}
use Rattle.rings.proofs.Crossings.Crossings.{crossing_reversed}
use Rattle.rings.proofs.Crossings.EdgeCases.{Level, between, high, low, differ_apart}
use Rattle.rings.proofs.Crossings.EdgeCrossed.{differ_crossed}
use Rattle.rings.proofs.Crossings.EdgeSigns.{Apart, Relations, ahead, behind, ends_left, in_line, points_left}
use Rattle.rings.proofs.Crossings.SignedCrossing.{signed, signed_is, counted}
use Rattle.rings.proofs.Vertices.{reversed}
use Rattle.rings.specs.Across.{CrossesRight}
use Rattle.rings.specs.Prelude.{crossing, Edge}

-- ---- the figure in numbers

module _ (p q a b : Triple) where
  -- the relation of four triples at the heights over p and over q
  pub relations : Relations (determinant p q a) (determinant p q b) (determinant a b p) (determinant a b q)
      (rise a p) (rise b p) (rise a q) (rise b q) (rise q p)
  relations =
      let xs = parts (a ∷ b ∷ p ∷ q ∷ []) [] in
      let sum = λ (v : ℕ). det 2 3 1 ⊗ written_rise 0 v ⊖ det 2 3 0 ⊗ written_rise 1 v in
      record {
        over_lower = same_value (sum 2) (det 0 1 2 ⊗ written_rise 3 2) xs refl;
        over_higher = same_value (sum 3) (det 0 1 3 ⊗ written_rise 3 2) xs refl;
      }

-- a number with a positive factor is 0 where its product is a difference of products with 0
no_products : (k d x y f g : ℤ) → pos 0 <ℤ k → f ≡ pos 0 → g ≡ pos 0 → k *ℤ d ≡ x *ℤ g -ℤ y *ℤ f → d ≡ pos 0
no_products k d x y f g h ef eg e =
    cancel_equal d (pos 0) k h (e ∙ (λ i. x *ℤ eg i -ℤ y *ℤ ef i) ∙ omega (arith, ints))

-- three triples of one height are on one line
pub on_line : (a b p : Triple) → IsPoint p → rise a p ≡ pos 0 → rise b p ≡ pos 0 → determinant a b p ≡ pos 0
on_line a b p at_p ea eb = no_products p.W _ _ _ _ _ at_p ea eb (by_rises a b p)

-- in numbers: a triple of weight W is f above a lower point of weight P, and i above a higher one of weight Q
module _ (f i h P Q W : ℤ) (hP : pos 0 <ℤ P) (hQ : pos 0 <ℤ Q) (hW : pos 0 <ℤ W) (hh : pos 0 ≤ℤ h)
    (e : f *ℤ Q -ℤ i *ℤ P ≡ W *ℤ h) where
  -- where it is between, the higher point is strictly higher
  apart_in_height : pos 0 <ℤ f → i ≤ℤ pos 0 → pos 0 <ℤ h
  apart_in_height hf hi =
      let above = mul_positive f Q hf hQ in
      let below = mul_nonpositive P i (weak hP) hi in
      factor_positive W h hW (omega (arith, ints, e, above, below, mul_comm i P))

  -- where it is not above the lower point, it is not above the higher one
  not_above_higher : f ≤ℤ pos 0 → i ≤ℤ pos 0
  not_above_higher hf =
      let below = mul_nonpositive Q f (weak hQ) hf in
      let height = mul_nonnegative W h (weak hW) hh in
      factor_nonpositive P i hP (omega (arith, ints, e, below, height, mul_comm i P, mul_comm f Q))

  -- so it is at one of three levels
  pub level : Level f i h
  level = elim (lt_or_le (pos 0) f) [
    | inr hf ↦ low hf (not_above_higher hf)
    | inl hf ↦ elim (lt_or_le (pos 0) i) [ inl hi ↦ high hf hi | inr hi ↦ between hf hi (apart_in_height hf hi) ]
  ]

-- ---- a segment and an edge that do not meet

-- two numbers have one strict sign, or not
one_sign_or_not : (u v : ℤ) → OneSign u v ⊎ (¬ OneSign u v)
one_sign_or_not u v = grind (arith, ints)

-- two ends on one side of the segment's line are apart from it
ends_apart : (u w d e : ℤ) → OneSign u w → Apart u w d e
ends_apart u w d e (inl h) = ahead (ends_left h.0 h.1)
ends_apart u w d e (inr h) = behind (ends_left (omega (arith, ints)) (omega (arith, ints)))

-- two points on one side of the edge's line are apart from it
points_apart : (u w d e : ℤ) → OneSign d e → Apart u w d e
points_apart u w d e (inl h) = ahead (points_left h.0 h.1)
points_apart u w d e (inr h) = behind (points_left (omega (arith, ints)) (omega (arith, ints)))

-- where a segment and an edge do not meet, one has both ends on one side of the other's line, or they are on one line
pub apart : (p q a b : Triple) → IsPoint p → IsPoint q → IsPoint a → IsPoint b → ¬ (Meet p q a b)
    → Apart (determinant p q a) (determinant p q b) (determinant a b p) (determinant a b q)
apart p q a b at_p at_q at_a at_b none =
    elim (one_sign_or_not (determinant p q a) (determinant p q b)) [
      | inl h ↦ ends_apart _ _ _ _ h
      | inr n ↦ elim (one_sign_or_not (determinant a b p) (determinant a b q)) [
        | inl h ↦ points_apart _ _ _ _ h
        | inr m ↦ elim (crossing_or_line p q a b at_p at_q at_a at_b n m) [
          | inl meet ↦ absurd (none meet)
          | inr line ↦ in_line line.abc line.abd (straight_shift p a b line.acd) (straight_shift q a b line.bcd)
        ]
      ]
    ]

-- a signed crossing by these numbers
pub crossing_is : (e : Edge) (p : Triple)
    → crossing e p ≡ signed (rise (whole e.from) p) (rise (whole e.to) p) (determinant (whole e.from) (whole e.to) p)
crossing_is e p = signed_is (e.from.y *ℤ p.W) (e.to.y *ℤ p.W) p.Y (determinant (whole e.from) (whole e.to) p)

-- 1 where v is strictly above p, not above q, and strictly right of the line from p to q, else 0
abbrev pub right_between : Triple → Triple → Point → ℤ
right_between p q v = counted (rise (whole v) p) (rise (whole v) q) (determinant p q (whole v))

-- ---- the sides at a crossing

-- right of a line is left of the line read backward
pub left_swapped : (a b c : Triple) → IsRight a b c → IsLeft b a c
left_swapped a b c h = let e = determinant_swap_first a b c in omega (arith, ints)

-- and left of it is right
pub right_swapped : (a b c : Triple) → IsLeft a b c → IsRight b a c
right_swapped a b c h = let e = determinant_swap_first a b c in omega (arith, ints)

-- read backward, the edge is crossed from left to right by the segment read backward
crosses_right_reversed : (p q : Triple) (e : Edge) → CrossesRight q p e → CrossesRight p q (reversed e)
crosses_right_reversed p q e c = record {
  starts_left = left_swapped (whole e.from) (whole e.to) p c.ends_right;
  ends_right = right_swapped (whole e.from) (whole e.to) q c.starts_left;
  from_right = right_swapped q p (whole e.to) c.to_left;
  to_left = left_swapped q p (whole e.from) c.from_right;
}

-- ---- numbers

-- nothing more is nothing
plus_zero : (z : ℤ) → z +ℤ pos 0 ≡ z
plus_zero z = omega (arith, ints)

-- with two opposite signs one more is one less
from_reversed : (c d C D x y : ℤ) → C ≡ neg_ℤ c → D ≡ neg_ℤ d → C -ℤ D ≡ (x -ℤ y) +ℤ pos 1 → c -ℤ d ≡ (y -ℤ x) -ℤ pos 1
from_reversed c d C D x y ec ed h = omega (arith, ints)

-- ---- the edge law

-- p is not above q
module _ (p q : Triple) (at_p : IsPoint p) (at_q : IsPoint q) (below : (p.Y *ℤ q.W) ≤ℤ (q.Y *ℤ p.W)) where
  -- the segment does not fall
  not_falling : pos 0 ≤ℤ rise q p
  not_falling = omega (arith, ints)

  -- a whole point is at one of three levels
  level_of : (v : Point) → Level (rise (whole v) p) (rise (whole v) q) (rise q p)
  level_of v = level _ _ _ p.W q.W (pos 1) at_p at_q (whole_is_point v) not_falling (rises (whole v) p q)

  -- from two points whose segment does not meet an edge, its crossings differ as the counts of its ends do
  pub edge_law : (e : Edge) → ¬ (Meet p q (whole e.from) (whole e.to))
      → crossing e p -ℤ crossing e q ≡ right_between p q e.to -ℤ right_between p q e.from
  edge_law e none =
      let a = whole e.from in
      let b = whole e.to in
      let sides = apart p q a b at_p at_q (whole_is_point e.from) (whole_is_point e.to) none in
      let law = differ_apart _ _ _ _ _ _ _ _ _ (relations p q a b) sides not_falling (level_of e.from) (level_of e.to) in
      (λ i. crossing_is e p i -ℤ crossing_is e q i) ∙ law.is ∙ plus_zero _

  -- where the segment crosses the edge from left to right, the crossing from p is greater by one more
  pub edge_law_right : (e : Edge) → CrossesRight p q e
      → crossing e p -ℤ crossing e q ≡ (right_between p q e.to -ℤ right_between p q e.from) +ℤ pos 1
  edge_law_right e c =
      let a = whole e.from in
      let b = whole e.to in
      let differ = differ_crossed _ _ _ _ _ _ _ _ _ (relations p q a b) not_falling (on_line a b p at_p) in
      let law = differ c.from_right c.to_left c.starts_left c.ends_right (level_of e.from) (level_of e.to) in
      (λ i. crossing_is e p i -ℤ crossing_is e q i) ∙ law.is

  -- where it crosses from right to left, it is less by one
  pub edge_law_left : (e : Edge) → CrossesRight q p e
      → crossing e p -ℤ crossing e q ≡ (right_between p q e.to -ℤ right_between p q e.from) -ℤ pos 1
  edge_law_left e c =
      from_reversed _ _ _ _ (right_between p q e.from) (right_between p q e.to) (crossing_reversed e p) (crossing_reversed e q)
      (edge_law_right (reversed e) (crosses_right_reversed p q e c))
