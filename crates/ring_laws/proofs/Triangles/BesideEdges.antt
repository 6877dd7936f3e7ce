-- The winding numbers on the two sides of an edge of a closed list.
-- Points beside an edge, near a point strictly inside it: the segment between them crosses the edge and misses others.
use Rattle.std.proofs.Common.{◌≡◌, inl, inr, [], ◌∷◌, sym, ap, ◌∙◌, ℕ, ◌+◌, ◌<◌, List, ℤ, pos, ◌+ℤ◌, ◌*ℤ◌, neg_ℤ, ◌<ℤ◌, arith, refl, ◌-ℤ◌}
use Rattle.std.proofs.lemmas.Int.{ints}
use Rattle.std.specs.Prelude.{unsigned_abs}
use Rattle.integer_algebra.proofs.Laws.{mul-neg, mul-zero}
use Rattle.integer_algebra.proofs.Polynomial.{lit, var, ◌⊕◌, ◌⊖◌, ◌⊗◌, same_value}
use Rattle.integer_algebra.proofs.SignSteps.{negative_not_zero, positive_not_zero, turned_negative, turned_positive}
use Rattle.integer_algebra.proofs.Signs.{factor_negative, factor_positive, mul_negative, mul_order, mul_positive, squares_positive}
use Rattle.plane.proofs.Nearness.{left_toward, negative_at, positive_at, right_toward, turn_toward, Eventually, outweighs, toward}
use Rattle.plane.proofs.Nearness.{toward_is_point, toward_on}
use Rattle.plane.proofs.Order.{same_coordinates}
use Rattle.plane.proofs.Points.{whole_is_point}
use Rattle.plane.proofs.Segments.{combination_is_straight, on_first_end, on_is_straight, on_last_end, on_nested, IsWithin, stays_left}
use Rattle.plane.proofs.Segments.{stays_right, within_from}
use Rattle.plane.proofs.Turns.{determinant_same_ends, determinant_same_first, determinant_shift, determinant_swap_first}
use Rattle.plane.proofs.Turns.{determinant_swap_last, determinant_along_first, written_determinant}
use Rattle.plane.specs.Prelude.{determinant, IsLeft, IsPoint, IsRight, IsSame, IsStraight, On, Point, Triple, whole}
use Rattle.rings.proofs.Crossings.{winding_law, winding_law_crossed, right_swapped}
use Rattle.rings.proofs.Vertices.{misses_between, misses_eventually}
use Rattle.rings.specs.Across.{CrossesRight, Misses}
use Rattle.rings.specs.Prelude.{Edge, IsClosed, IsOn, IsOnSome, winding}

-- ---- numbers

-- enough times a negative number outweigh any other
outweighs_below : (n : ℕ) (f g : ℤ) → f <ℤ pos 0 → unsigned_abs g < n → (pos n *ℤ f +ℤ g) <ℤ pos 0
outweighs_below n f g hf h =
    omega (arith, ints, mul_order (pos 1) (neg_ℤ f) (pos n) (omega (arith, ints)) (omega (arith, ints)), mul-neg (pos n) f)

-- the sides of a combination's ends: where the first value is 0, the last counts,
by_last : (k l m z f g : ℤ) → pos 0 <ℤ k → pos 0 <ℤ m → f ≡ pos 0 → g <ℤ pos 0 → k *ℤ z ≡ l *ℤ f +ℤ m *ℤ g → z <ℤ pos 0
by_last k l m z f g hk hm ef hg e =
    factor_negative k z hk (omega (arith, ints, mul_negative m g hm hg, ap (λ x. l *ℤ x) ef, mul-zero l))

-- and where the last is 0, the first
by_first : (k l m z f g : ℤ) → pos 0 <ℤ k → pos 0 <ℤ l → g ≡ pos 0 → pos 0 <ℤ f → k *ℤ z ≡ l *ℤ f +ℤ m *ℤ g → pos 0 <ℤ z
by_first k l m z f g hk hl eg hf e =
    factor_positive k z hk (omega (arith, ints, mul_positive l f hl hf, ap (λ x. m *ℤ x) eg, mul-zero m))

-- the sum of two negative numbers
sum_negative : {x y : ℤ} → x <ℤ pos 0 → y <ℤ pos 0 → (x +ℤ y) <ℤ pos 0
sum_negative h k = omega (arith, ints)

-- and of two positive ones
sum_positive : {x y : ℤ} → pos 0 <ℤ x → pos 0 <ℤ y → pos 0 <ℤ (x +ℤ y)
sum_positive h k = omega (arith, ints)

-- ---- from one side of a segment to the other, past a point m within it

module _ (m a b p q : Triple) (within : IsWithin m a b) (left : IsLeft a b p) (right : IsRight a b q) where
  -- the first end is on the right of the way past m,
  first_is_right : (determinant m q a +ℤ determinant p m a) <ℤ pos 0
  first_is_right =
      let c = within.combination in
      let far = by_last c.k c.l c.m _ _ _ c.k_positive within.last_weighs (determinant_same_ends a q)
      (negative_at (determinant_shift a b q) right) (determinant_along_first m a b c q a) in
      let near = by_last c.k c.l c.m _ _ _ c.k_positive within.last_weighs (determinant_same_first a p)
      (turned_negative (determinant_swap_first a b p) left) (determinant_along_first m a b c a p) in
      sum_negative far (negative_at (sym (determinant_shift p m a)) near)

  -- and the last on its left
  last_is_left : pos 0 <ℤ (determinant m q b +ℤ determinant p m b)
  last_is_left =
      let c = within.combination in
      let far = by_first c.k c.l c.m _ _ _ c.k_positive within.first_weighs (determinant_same_ends b q)
      (turned_positive (determinant_swap_last a b q) right) (determinant_along_first m a b c q b) in
      let near = by_first c.k c.l c.m _ _ _ c.k_positive within.first_weighs (determinant_same_first b p)
      left (determinant_along_first m a b c b p) in
      sum_positive far (positive_at (sym (determinant_shift p m b)) near)

-- ---- the two sides of an edge

module _ (e : Edge) (m p q : Triple) (at_m : IsPoint m) (at_p : IsPoint p) (at_q : IsPoint q)
    (within : IsWithin m (whole e.from) (whole e.to))
    (left : IsLeft (whole e.from) (whole e.to) p) (right : IsRight (whole e.from) (whole e.to) q) where
  -- a near point on the left is on the left,
  near_left : (n : ℕ) → IsLeft (whole e.from) (whole e.to) (toward m p n)
  near_left n =
      let straight = combination_is_straight m (whole e.from) (whole e.to) within.combination in
      left_toward (whole e.from) (whole e.to) m p straight left n

  -- and one on the right is on the right
  near_right : (n : ℕ) → IsRight (whole e.from) (whole e.to) (toward m q n)
  near_right n =
      let straight = combination_is_straight m (whole e.from) (whole e.to) within.combination in
      right_toward (whole e.from) (whole e.to) m q straight right n

  -- the segment between two near points crosses the edge
  pub crosses_near : Eventually (λ n. CrossesRight (toward m p n) (toward m q n) e)
  crosses_near =
      let a = whole e.from in
      let b = whole e.to in
      let first = determinant p q a in
      let last = determinant p q b in
      record {
        start = unsigned_abs first + unsigned_abs last + 1;
        from_start = λ n above. record {
          starts_left = near_left n;
          ends_right = near_right n;
          from_right = negative_at (turn_toward m p q a n) (outweighs_below n _ first (first_is_right m a b p q within left right) (omega arith));
          to_left = positive_at (turn_toward m p q b n) (outweighs n _ last (last_is_left m a b p q within left right) (omega arith));
        };
      }

  module _ (es : List Edge) (closed : IsClosed (e ∷ es)) (from_p : Misses m p es) (from_q : Misses m q es) where
    -- a way beside the edge, to a point near m on the way to another, misses all edges where the way to the other misses the rest
    misses_near : (r : Triple) → IsPoint r → Misses m r es → (n : ℕ)
        → ((x : Triple) → IsPoint x → On x r (toward m r n) → ¬ IsStraight (whole e.from) (whole e.to) x) → Misses r (toward m r n) (e ∷ es)
    misses_near r at_r from_r n beside x at_x on h = elim h [
      | inl on_e ↦
          beside x at_x on (on_is_straight x (whole e.from) (whole e.to) at_x (whole_is_point e.from) (whole_is_point e.to) on_e)
      | inr on_es ↦
          from_r x at_x
          (on_nested x r (toward m r n) m r at_x at_r (toward_is_point m r at_m at_r n) at_m at_r (on_last_end m r) (toward_on m r at_m at_r n) on) on_es
    ]

    -- so does the way from p, on the left,
    misses_left : (n : ℕ) → Misses p (toward m p n) (e ∷ es)
    misses_left n =
        misses_near p at_p from_p n (λ x at_x on straight. positive_not_zero
        (stays_left x p (toward m p n) at_x at_p (toward_is_point m p at_m at_p n) on (whole e.from) (whole e.to) left (near_left n)) straight)

    -- and that from q, on the right
    misses_right : (n : ℕ) → Misses q (toward m q n) (e ∷ es)
    misses_right n =
        misses_near q at_q from_q n (λ x at_x on straight. negative_not_zero
        (stays_right x q (toward m q n) at_x at_q (toward_is_point m q at_m at_q n) on (whole e.from) (whole e.to) right (near_right n)) straight)

    -- where m is within the first of the edges, and the ways from it to a point on the left and to one on the right miss
    -- the others, the winding number on the left is greater by 1
    pub across_edge : winding (e ∷ es) p ≡ winding (e ∷ es) q +ℤ pos 1
    across_edge =
        let off = λ (on : IsOnSome es m). from_p m at_m (on_first_end m p) on in
        let between = misses_between m p q at_m at_p at_q es off in
        let n : ℕ = between.start + crosses_near.start in
        let s = toward m p n in
        let t = toward m q n in
        let at_s = toward_is_point m p at_m at_p n in
        let at_t = toward_is_point m q at_m at_q n in
        let crossed = winding_law_crossed s t at_s at_t [] es e closed (λ x at_x on h. h)
        (between.from_start n (omega arith)) (crosses_near.from_start n (omega arith)) in
        let one = winding_law p s at_p at_s (e ∷ es) closed (misses_left n) in
        let other = winding_law q t at_q at_t (e ∷ es) closed (misses_right n) in
        one ∙ crossed ∙ ap (λ z. z +ℤ pos 1) (sym other)

-- the way from one point to another is not nothing
some_way : (v z : Point) → ¬ (v ≡ z) → ¬ ((z.x -ℤ v.x ≡ pos 0) × (z.y -ℤ v.y ≡ pos 0))
some_way v z differ h =
    let ex = h.0 in
    let ey = h.1 in
    differ (same_coordinates v z (omega (arith, ints)) (omega (arith, ints)))

-- a quarter turn to the left from the way to z
abbrev pub left_of : Point → Point → Point
left_of v z = record { x = v.x -ℤ (z.y -ℤ v.y); y = v.y +ℤ (z.x -ℤ v.x) }

-- the square of the way
left_side : (v z : Point) →
    determinant (whole v) (whole z) (whole (left_of v z)) ≡ (z.x -ℤ v.x) *ℤ (z.x -ℤ v.x) +ℤ (z.y -ℤ v.y) *ℤ (z.y -ℤ v.y)
left_side v z =
    let one = lit (pos 1) in
    same_value
    (written_determinant (var 0) (var 1) one (var 2) (var 3) one (var 0 ⊖ (var 3 ⊖ var 1)) (var 1 ⊕ (var 2 ⊖ var 0)) one)
    ((var 2 ⊖ var 0) ⊗ (var 2 ⊖ var 0) ⊕ (var 3 ⊖ var 1) ⊗ (var 3 ⊖ var 1)) (v.x ∷ v.y ∷ z.x ∷ z.y ∷ []) refl

-- so it leads to the left
pub left_of_is_left : (v z : Point) → ¬ (v ≡ z) → IsLeft (whole v) (whole z) (whole (left_of v z))
left_of_is_left v z differ = positive_at (left_side v z) (squares_positive (z.x -ℤ v.x) (z.y -ℤ v.y) (some_way v z differ))

-- two points beside e, near the point x of it: the segment between them crosses e, and all edges gs are farther away
pub record BesideEdge (e : Edge) (x : Triple) (gs : List Edge) : Type 0 where
  pub left : Triple
  pub right : Triple
  pub left_rational : IsPoint left
  pub right_rational : IsPoint right
  pub crosses : CrossesRight left right e
  pub misses_left : Misses x left gs
  pub misses_right : Misses x right gs
  pub misses : Misses left right gs

-- near a point strictly inside an edge, and off the edges gs, there are such points
pub beside_edge : (e : Edge) → ¬ (e.from ≡ e.to) → (x : Triple) → IsPoint x → IsOn e x → ¬ IsSame x (whole e.from) → ¬ IsSame x (whole e.to)
    → (gs : List Edge) → ¬ IsOnSome gs x → BesideEdge e x gs
beside_edge e proper x at_x on not_first not_last gs off =
    let a = whole e.from in
    let b = whole e.to in
    let p = whole (left_of e.from e.to) in
    let q = whole (left_of e.to e.from) in
    let at_p = whole_is_point (left_of e.from e.to) in
    let at_q = whole_is_point (left_of e.to e.from) in
    let left = left_of_is_left e.from e.to proper in
    let right = right_swapped b a q (left_of_is_left e.to e.from (λ s. proper (sym s))) in
    let within = within_from x a b at_x (whole_is_point e.from) (whole_is_point e.to) on not_first not_last in
    let first = misses_eventually x p at_x at_p gs off in
    let last = misses_eventually x q at_x at_q gs off in
    let between = misses_between x p q at_x at_p at_q gs off in
    let across = crosses_near e x p q at_x at_p at_q within left right in
    let n : ℕ = first.start + last.start + between.start + across.start in
    record {
      left = toward x p n;
      right = toward x q n;
      left_rational = toward_is_point x p at_x at_p n;
      right_rational = toward_is_point x q at_x at_q n;
      crosses = across.from_start n (omega arith);
      misses_left = first.from_start n (omega arith);
      misses_right = last.from_start n (omega arith);
      misses = between.from_start n (omega arith);
    }
