-- Where a line through whole points meets another between two points of it, of which one is left of that and one right.
use Rattle.std.proofs.Common.{◌≡◌, ◌≢◌, inl, inr, List, [], ◌∷◌, refl, sym, ap, ◌∙◌, ℤ, pos, ◌+ℤ◌, ◌-ℤ◌, ◌*ℤ◌, neg_ℤ, ◌<ℤ◌, arith}
use Rattle.std.proofs.lemmas.Int.{ints}
use Rattle.integer_algebra.proofs.Decisions.{equal_or_not}
use Rattle.integer_algebra.proofs.Laws.{eq_of_sub-zero, mul-zero, mul_comm, one-mul}
use Rattle.integer_algebra.proofs.Polynomial.{Polynomial, var, lit, ◌⊕◌, ◌⊖◌, ◌⊗◌, same_value}
use Rattle.integer_algebra.proofs.SignSteps.{mean_zero, opposite_positive, weak}
use Rattle.integer_algebra.proofs.Signs.{factor_negative, factor_zero, mul_negative, mul_positive}
use Rattle.plane.proofs.Meetings.{no_value}
use Rattle.plane.proofs.Segments.{one_meeting}
use Rattle.plane.proofs.Turns.{IsCombination, determinant_along, written_determinant}
use Rattle.plane.specs.Line.{cross_product}
use Rattle.plane.specs.Prelude.{determinant, IsLeft, IsPoint, IsRight, IsSame, IsStraight, Point, Triple, whole}

-- x is strictly between c and d, and on the line a b
pub record IsMeeting (a b c d x : Triple) : Type 0 where
  pub rational : IsPoint x
  pub straight : IsStraight a b x
  pub mean : IsCombination x c d
  pub first_weighs : pos 0 <ℤ mean.l
  pub last_weighs : pos 0 <ℤ mean.m

-- what a cut along a b adds to corner c before corner d, which goes: nothing where c is on the line, and otherwise the meeting
pub data Ends (a b c d : Triple) (es : List Triple) : Type 0 where
  at_corner : IsStraight a b c → es ≡ [] → Ends a b c d es
  at_meeting : (x : Triple) → IsLeft a b c → IsMeeting a b c d x → es ≡ x ∷ [] → Ends a b c d es

-- ---- lines that are parallel

-- polynomials over the coordinates of a, b, p and q, and the parts of z: the weight of a whole point,
one : Polynomial
one = lit (pos 1)

-- how far z is from the line a b more than p is,
farther : Polynomial
unfolding one
farther =
    written_determinant (var 0) (var 1) one (var 2) (var 3) one (var 8) (var 9) (var 10)
    ⊖ var 10 ⊗ written_determinant (var 0) (var 1) one (var 2) (var 3) one (var 4) (var 5) one

-- how far it is from the line p q,
apart : Polynomial
unfolding one
apart = written_determinant (var 4) (var 5) one (var 6) (var 7) one (var 8) (var 9) (var 10)

-- and the cross product of the two ways
product : Polynomial
product = (var 6 ⊖ var 4) ⊗ (var 3 ⊖ var 1) ⊖ (var 7 ⊖ var 5) ⊗ (var 2 ⊖ var 0)

-- nothing is left of two products with 0
no_products : (u s v t : ℤ) → s ≡ pos 0 → t ≡ pos 0 → u *ℤ s -ℤ v *ℤ t ≡ pos 0
no_products u s v t hs ht = omega (arith, ints, ap (λ z. u *ℤ z) hs, ap (λ z. v *ℤ z) ht, mul-zero u, mul-zero v)

module _ (a b p q : Point) (z : Triple) (straight : IsStraight (whole p) (whole q) z) (parallel : cross_product p q a b ≡ pos 0) where
  -- the point z of the line p q is as far from the line a b as p, times how far q is from p to the right,
  as_far_in_x : (q.x -ℤ p.x) *ℤ (determinant (whole a) (whole b) z -ℤ z.W *ℤ determinant (whole a) (whole b) (whole p)) ≡ pos 0
  unfolding one farther apart product
  as_far_in_x =
      same_value ((var 6 ⊖ var 4) ⊗ farther) ((var 2 ⊖ var 0) ⊗ apart ⊖ (var 8 ⊖ var 4 ⊗ var 10) ⊗ product)
      (a.x ∷ a.y ∷ b.x ∷ b.y ∷ p.x ∷ p.y ∷ q.x ∷ q.y ∷ z.X ∷ z.Y ∷ z.W ∷ []) refl
      ∙ no_products (b.x -ℤ a.x) _ (z.X -ℤ p.x *ℤ z.W) _ straight parallel

  -- and upward,
  as_far_in_y : (q.y -ℤ p.y) *ℤ (determinant (whole a) (whole b) z -ℤ z.W *ℤ determinant (whole a) (whole b) (whole p)) ≡ pos 0
  unfolding one farther apart product
  as_far_in_y =
      same_value ((var 7 ⊖ var 5) ⊗ farther) ((var 3 ⊖ var 1) ⊗ apart ⊖ (var 9 ⊖ var 5 ⊗ var 10) ⊗ product)
      (a.x ∷ a.y ∷ b.x ∷ b.y ∷ p.x ∷ p.y ∷ q.x ∷ q.y ∷ z.X ∷ z.Y ∷ z.W ∷ []) refl
      ∙ no_products (b.y -ℤ a.y) _ (z.Y -ℤ p.y *ℤ z.W) _ straight parallel

  -- so it is as far, unless p and q are one point
  as_far : p ≢ q → determinant (whole a) (whole b) z ≡ z.W *ℤ determinant (whole a) (whole b) (whole p)
  as_far differ = eq_of_sub-zero _ _ (elim (equal_or_not q.x p.x) [
    | inr n ↦ factor_zero (q.x -ℤ p.x) _ (λ e. n (eq_of_sub-zero _ _ e)) as_far_in_x
    | inl ex ↦ elim (equal_or_not q.y p.y) [
      | inr n ↦ factor_zero (q.y -ℤ p.y) _ (λ e. n (eq_of_sub-zero _ _ e)) as_far_in_y
      | inl ey ↦ absurd (differ (λ i. record { x = sym ex i; y = sym ey i }))
    ]
  ])

-- no number is positive and negative
two_signs : (u v s x y : ℤ) → pos 0 <ℤ u → pos 0 <ℤ v → x ≡ u *ℤ s → y ≡ v *ℤ s → pos 0 <ℤ x → y <ℤ pos 0 → ⊥
two_signs u v s x y hu hv ex ey hx hy =
    let below : s <ℤ pos 0 = factor_negative v s hv (omega (arith, ints, ey, hy)) in
    omega (arith, ints, ex, hx, mul_negative u s hu below)

-- ---- the meeting

-- the parts of the point that divides the way from c to d in the ratio of f to g
divided : (g f : ℤ) → Triple → Triple → Triple
divided g f c d = record { X = g *ℤ c.X +ℤ f *ℤ d.X; Y = g *ℤ c.Y +ℤ f *ℤ d.Y; W = g *ℤ c.W +ℤ f *ℤ d.W }

module _ (g f : ℤ) (c d : Triple) (at_c : IsPoint c) (at_d : IsPoint d) (hg : pos 0 <ℤ g) (hf : pos 0 <ℤ f) where
  -- it is a point
  divided_is_point : IsPoint (divided g f c d)
  unfolding divided
  divided_is_point = omega (arith, ints, mul_positive g c.W hg at_c, mul_positive f d.W hf at_d)

  -- and a mean
  divided_mean : IsCombination (divided g f c d) c d
  unfolding divided
  divided_mean = record {
    k = pos 1;
    l = g;
    m = f;
    k_positive = omega (arith, ints);
    l_nonnegative = weak hg;
    m_nonnegative = weak hf;
    in_X = one-mul _;
    in_Y = one-mul _;
    in_W = one-mul _;
  }

  -- one coordinate of another triple of it
  coordinate_of : (x w W u v : ℤ) → x *ℤ W ≡ (g *ℤ u +ℤ f *ℤ v) *ℤ w → W *ℤ x ≡ (w *ℤ g) *ℤ u +ℤ (w *ℤ f) *ℤ v
  coordinate_of x w W u v e =
      mul_comm W x ∙ e
      ∙ same_value ((var 0 ⊗ var 3 ⊕ var 1 ⊗ var 4) ⊗ var 2) ((var 2 ⊗ var 0) ⊗ var 3 ⊕ (var 2 ⊗ var 1) ⊗ var 4)
      (g ∷ f ∷ w ∷ u ∷ v ∷ []) refl

  -- the same point is such a mean
  same_mean : (x : Triple) → IsPoint x → IsSame x (divided g f c d) → IsCombination x c d
  unfolding divided
  same_mean x at_x same = record {
    k = g *ℤ c.W +ℤ f *ℤ d.W;
    l = x.W *ℤ g;
    m = x.W *ℤ f;
    k_positive = divided_is_point;
    l_nonnegative = weak (mul_positive x.W g at_x hg);
    m_nonnegative = weak (mul_positive x.W f at_x hf);
    in_X = coordinate_of x.X x.W (g *ℤ c.W +ℤ f *ℤ d.W) c.X d.X same.same_x;
    in_Y = coordinate_of x.Y x.W (g *ℤ c.W +ℤ f *ℤ d.W) c.Y d.Y same.same_y;
    in_W = coordinate_of x.W x.W (g *ℤ c.W +ℤ f *ℤ d.W) c.W d.W (mul_comm x.W (g *ℤ c.W +ℤ f *ℤ d.W));
  }

module _ (a b p q : Point) (c d : Triple) (at_c : IsPoint c) (at_d : IsPoint d) (differ : p ≢ q)
    (on_c : IsStraight (whole p) (whole q) c) (on_d : IsStraight (whole p) (whole q) d)
    (left : IsLeft (whole a) (whole b) c) (right : IsRight (whole a) (whole b) d) where
  -- a line with points on both sides of another is not parallel to it
  pub not_parallel : cross_product p q a b ≢ pos 0
  not_parallel parallel =
      two_signs c.W d.W _ _ _ at_c at_d (as_far a b p q c on_c parallel differ) (as_far a b p q d on_d parallel differ) left right

  -- it meets that between them
  pub meeting : (x : Triple) → IsPoint x → IsStraight (whole p) (whole q) x → IsStraight (whole a) (whole b) x
      → IsMeeting (whole a) (whole b) c d x
  unfolding divided divided_mean same_mean
  meeting x at_x on_x straight =
      let f = determinant (whole a) (whole b) c in
      let g = neg_ℤ (determinant (whole a) (whole b) d) in
      let hg : pos 0 <ℤ g = opposite_positive right in
      let m = divided_mean g f c d at_c at_d hg left in
      let on_first = mean_zero m.k m.l m.m _ _ _ m.k_positive m.l_nonnegative m.m_nonnegative
      (determinant_along _ c d m (whole p) (whole q)) on_c on_d in
      let on_second = no_value _ f (determinant (whole a) (whole b) d) (determinant_along _ c d m (whole a) (whole b)) in
      let same = one_meeting p q a b x (divided g f c d) not_parallel on_x on_first straight on_second in
      record {
        rational = at_x;
        straight = straight;
        mean = same_mean g f c d at_c at_d hg left x at_x same;
        first_weighs = mul_positive x.W g at_x hg;
        last_weighs = mul_positive x.W f at_x left;
      }
