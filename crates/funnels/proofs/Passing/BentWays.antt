-- How far two ways open, where one of them bends: over plain integers, and for the ways.
-- What is ahead of a way, along a segment: which of its ends is, where a point of it is on the way, and what is farther along another way.
-- Two ways that pass a diagonal do so in the mirror image, in the other order.
use Rattle.std.proofs.Common.{◌≡◌, Bool, true, false, not, [], ◌∷◌, refl, ap, ℕ, ◌+◌, ◌*◌, ℤ, pos, ◌+ℤ◌, ◌-ℤ◌, ◌*ℤ◌, ◌<ℤ◌, ◌≤ℤ◌, arith, sym}
use Rattle.std.proofs.Common.{subst, List, ◌∙◌, neg_ℤ}
use Rattle.std.proofs.lemmas.Int.{ints}
use Rattle.integer_algebra.proofs.Certificate.{product_zero}
use Rattle.integer_algebra.proofs.Laws.{zero-mul, add-mul, mul-sub}
use Rattle.integer_algebra.proofs.Polynomial.{Polynomial, lit, neg, var, ◌⊖◌, ◌⊗◌, same_value, ◌⊕◌}
use Rattle.integer_algebra.proofs.SignSteps.{not_both, mean_positive, weak}
use Rattle.integer_algebra.proofs.Signs.{factor_positive, is_negative, is_positive, is_zero, mul_negative, mul_positive, sign}
use Rattle.integer_algebra.proofs.Signs.{factor_nonpositive, mul_nonnegative, mul_nonpositive}
use Rattle.plane.proofs.Points.{whole_is_point}
use Rattle.plane.proofs.Segments.{on_is_straight}
use Rattle.plane.proofs.Turns.{written_determinant, combination_of, weights_positive}
use Rattle.plane.specs.Prelude.{IsPoint, On, Point, Triple, whole}
use Rattle.funnels.proofs.Bends.{turning_along}
use Rattle.funnels.specs.Fanned.{turning}
use Rattle.funnels.specs.Passing.{opening, ArePassing}

-- ---- signs

-- two means with the same weights, of numbers of which the first is 0: where the one is positive, so is the other, if its second number is
pub mean_too : (k l m z f g u s t : ℤ) → pos 0 <ℤ k → pos 0 ≤ℤ m → k *ℤ z ≡ l *ℤ f +ℤ m *ℤ g → f ≡ pos 0 → pos 0 <ℤ z
    → k *ℤ u ≡ l *ℤ s +ℤ m *ℤ t → s ≡ pos 0 → pos 0 <ℤ t → pos 0 <ℤ u
mean_too k l m z f g u s t hk hm e ef hz d es ht =
    let part : pos 0 <ℤ (m *ℤ g) = omega (arith, ints, e, product_zero l ef, mul_positive k z hk hz) in
    elim (sign m) [
      | is_negative n ↦ absurd (not_both n hm)
      | is_zero n ↦ absurd (omega (arith, ints, part, ap (λ w. w *ℤ g) n, zero-mul g))
      | is_positive n ↦ factor_positive k u hk (omega (arith, ints, d, product_zero l es, mul_positive m t n ht))
    ]

-- a product that is another product less a negative one has a positive factor
opens_still : (ad ba ab da aa bh bf : ℤ) → ad *ℤ ba ≡ ab *ℤ da -ℤ (bh -ℤ bf) *ℤ aa → pos 0 <ℤ ad → pos 0 <ℤ ab → pos 0 <ℤ da → aa <ℤ pos 0
    → pos 0 <ℤ bh → bf ≤ℤ pos 0 → pos 0 <ℤ ba
opens_still ad ba ab da aa bh bf e had hab hda haa hh hf =
    let first = mul_positive ab da hab hda in
    let last = mul_negative (bh -ℤ bf) aa (omega (arith, ints)) haa in
    factor_positive ad ba had (omega (arith, ints))

-- ---- ways

-- the determinant of three whole points, written, by the numbers of their variables
at : ℕ → ℕ → ℕ → Polynomial
at a b c =
    let one = lit (pos 1) in
    written_determinant (var (2 * a)) (var (2 * a + 1)) one (var (2 * b)) (var (2 * b + 1)) one (var (2 * c)) (var (2 * c + 1)) one

-- the cross product of two ways between such points
across : ℕ → ℕ → ℕ → ℕ → Polynomial
across a b c d =
    (var (2 * b) ⊖ var (2 * a)) ⊗ (var (2 * d + 1) ⊖ var (2 * c + 1)) ⊖ (var (2 * b + 1) ⊖ var (2 * a + 1)) ⊗ (var (2 * d) ⊖ var (2 * c))

module _ (p h y q g f : Point) where
  -- they are related
  related : (side : Bool) → turning side p (whole h) (whole f) *ℤ opening side h y q g
      ≡ opening side p h q g *ℤ turning side h (whole y) (whole f)
      -ℤ (turning (not side) q (whole g) (whole h) -ℤ turning (not side) q (whole g) (whole f)) *ℤ turning side p (whole h) (whole y)
  unfolding at across
  related true =
      same_value (at 0 1 5 ⊗ across 1 2 3 4) (across 0 1 3 4 ⊗ at 1 2 5 ⊖ (neg (at 3 4 1) ⊖ neg (at 3 4 5)) ⊗ at 0 1 2)
      (p.x ∷ p.y ∷ h.x ∷ h.y ∷ y.x ∷ y.y ∷ q.x ∷ q.y ∷ g.x ∷ g.y ∷ f.x ∷ f.y ∷ []) refl
  related false =
      same_value (neg (at 0 1 5) ⊗ neg (across 1 2 3 4)) (neg (across 0 1 3 4) ⊗ neg (at 1 2 5) ⊖ (at 3 4 1 ⊖ at 3 4 5) ⊗ neg (at 0 1 2))
      (p.x ∷ p.y ∷ h.x ∷ h.y ∷ y.x ∷ y.y ∷ q.x ∷ q.y ∷ g.x ∷ g.y ∷ f.x ∷ f.y ∷ []) refl

  -- so the ways still open where the first turns away
  pub opens : (side : Bool) → pos 0 <ℤ turning side p (whole h) (whole f) → pos 0 <ℤ opening side p h q g
      → pos 0 <ℤ turning side h (whole y) (whole f) → turning side p (whole h) (whole y) <ℤ pos 0
      → pos 0 <ℤ turning (not side) q (whole g) (whole h) → turning (not side) q (whole g) (whole f) ≤ℤ pos 0 → pos 0 <ℤ opening side h y q g
  opens side = opens_still _ _ _ _ _ _ _ (related side)

-- from the other side, in the other order, two ways open as before
pub opening_not : (side : Bool) (p h q g : Point) → opening (not side) q g p h ≡ opening side p h q g
opening_not true p h q g =
    same_value (neg ((var 6 ⊖ var 4) ⊗ (var 3 ⊖ var 1) ⊖ (var 7 ⊖ var 5) ⊗ (var 2 ⊖ var 0)))
    ((var 2 ⊖ var 0) ⊗ (var 7 ⊖ var 5) ⊖ (var 3 ⊖ var 1) ⊗ (var 6 ⊖ var 4))
    (p.x ∷ p.y ∷ h.x ∷ h.y ∷ q.x ∷ q.y ∷ g.x ∷ g.y ∷ []) refl
opening_not false p h q g =
    same_value ((var 6 ⊖ var 4) ⊗ (var 3 ⊖ var 1) ⊖ (var 7 ⊖ var 5) ⊗ (var 2 ⊖ var 0))
    (neg ((var 2 ⊖ var 0) ⊗ (var 7 ⊖ var 5) ⊖ (var 3 ⊖ var 1) ⊗ (var 6 ⊖ var 4)))
    (p.x ∷ p.y ∷ h.x ∷ h.y ∷ q.x ∷ q.y ∷ g.x ∷ g.y ∷ []) refl

-- the ways pass so
pub flipped : {side : Bool} {corners : List Point} {far own : ℕ} {p h : Point} {I : Type 0} {x : Triple} {q g : Point} {J : Type 0} {z : Triple}
    → ArePassing side corners far own p h I x q g J z → ArePassing (not side) corners own far q g J z p h I x
flipped {side = true} {p = p} {h = h} {q = q} {g = g} passing = record {
  one = passing.other;
  other = passing.one;
  apart = subst (λ n. pos 0 <ℤ n) (sym (opening_not true p h q g)) passing.apart;
}
flipped {side = false} {p = p} {h = h} {q = q} {g = g} passing = record {
  one = passing.other;
  other = passing.one;
  apart = subst (λ n. pos 0 <ℤ n) (sym (opening_not false p h q g)) passing.apart;
}

-- and where they do in the mirror image, they do
pub flipped_back : (side : Bool) {corners : List Point} {far own : ℕ} {p h : Point} {I : Type 0} {x : Triple} {q g : Point} {J : Type 0} {z : Triple}
    → ArePassing (not side) corners own far q g J z p h I x → ArePassing side corners far own p h I x q g J z
flipped_back true passing = flipped {side = false} passing
flipped_back false passing = flipped {side = true} passing

-- ---- a mean of two numbers

module _ (k l m z f g : ℤ) (hk : pos 0 <ℤ k) (hl : pos 0 ≤ℤ l) (hm : pos 0 ≤ℤ m) (e : k *ℤ z ≡ l *ℤ f +ℤ m *ℤ g) where
  -- where it is 0 and the first number is positive, the second is not
  other_not_positive : pos 0 <ℤ (l +ℤ m) → z ≡ pos 0 → pos 0 <ℤ f → g ≤ℤ pos 0
  other_not_positive some none hf = elim (sign m) [
    | is_negative h ↦ absurd (not_both h hm)
    | is_zero h ↦
        let no_part = ap (λ n. n *ℤ g) h in
        let rest = mul_positive l f (omega (arith, ints)) hf in
        absurd (omega (arith, ints, e, rest, no_part, zero-mul g, product_zero k none))
    | is_positive h ↦ factor_nonpositive m g h (omega (arith, ints, e, product_zero k none, mul_nonnegative l f hl (weak hf)))
  ]

  -- where it is positive and the first number is not, the second is
  other_positive : pos 0 <ℤ z → f ≤ℤ pos 0 → pos 0 <ℤ g
  other_positive hz hf =
      let part : pos 0 <ℤ (m *ℤ g) = omega (arith, ints, e, mul_positive k z hk hz, mul_nonpositive l f hl hf) in
      elim (sign m) [
        | is_negative h ↦ absurd (not_both h hm)
        | is_zero h ↦ absurd (omega (arith, ints, part, ap (λ n. n *ℤ g) h, zero-mul g))
        | is_positive h ↦ factor_positive m g h part
      ]

  -- where it is positive, and the second number is the first and a positive one more, that is positive
  last_positive : pos 0 <ℤ (l +ℤ m) → (c : ℤ) → pos 0 <ℤ c → g ≡ f +ℤ c → pos 0 <ℤ z → pos 0 <ℤ g
  last_positive some c hc more hz =
      let less : f ≡ g -ℤ c = omega (arith, ints) in
      let parts = ap (λ n. l *ℤ n) less ∙ mul-sub l g c in
      factor_positive (l +ℤ m) g some
      (omega (arith, ints, e, add-mul l m g, parts, mul_positive k z hk hz, mul_nonnegative l c hl (weak hc)))

-- ---- turnings

-- a point on a way does not turn from it
pub level_on_way : (side : Bool) (p h : Point) (x : Triple) → IsPoint x → On x (whole p) (whole h) → turning side p (whole h) x ≡ pos 0
level_on_way true p h x at_x on = on_is_straight x (whole p) (whole h) at_x (whole_is_point p) (whole_is_point h) on
level_on_way false p h x at_x on = ap neg_ℤ (on_is_straight x (whole p) (whole h) at_x (whole_is_point p) (whole_is_point h) on)

-- along another way a turning grows by how far the two ways open
pub turning_grows : (side : Bool) (p h q g : Point) → turning side p (whole h) (whole g) ≡ turning side p (whole h) (whole q) +ℤ opening side p h q g
turning_grows true p h q g =
    let one = lit (pos 1) in
    let at = written_determinant (var 0) (var 1) one (var 2) (var 3) one in
    same_value (at (var 6) (var 7) one)
    (at (var 4) (var 5) one ⊕ ((var 2 ⊖ var 0) ⊗ (var 7 ⊖ var 5) ⊖ (var 3 ⊖ var 1) ⊗ (var 6 ⊖ var 4)))
    (p.x ∷ p.y ∷ h.x ∷ h.y ∷ q.x ∷ q.y ∷ g.x ∷ g.y ∷ []) refl
turning_grows false p h q g =
    let one = lit (pos 1) in
    let at = written_determinant (var 0) (var 1) one (var 2) (var 3) one in
    same_value (neg (at (var 6) (var 7) one))
    (neg (at (var 4) (var 5) one) ⊕ neg ((var 2 ⊖ var 0) ⊗ (var 7 ⊖ var 5) ⊖ (var 3 ⊖ var 1) ⊗ (var 6 ⊖ var 4)))
    (p.x ∷ p.y ∷ h.x ∷ h.y ∷ q.x ∷ q.y ∷ g.x ∷ g.y ∷ []) refl

module _ (side : Bool) (p h : Point) where
  -- where the way passes a segment, and one end is ahead of it, the other is not
  pub other_end_not_ahead : (x a b : Triple) → IsPoint x → IsPoint a → IsPoint b → On x (whole p) (whole h) → On x a b
      → pos 0 <ℤ turning side p (whole h) a → turning side p (whole h) b ≤ℤ pos 0
  other_end_not_ahead x a b at_x at_a at_b way on ahead =
      let c = combination_of x a b at_x at_a at_b on in
      other_not_positive c.k c.l c.m _ _ _ c.k_positive c.l_nonnegative c.m_nonnegative (turning_along side x a b c p (whole h))
      (weights_positive x a b c at_x) (level_on_way side p h x at_x way) ahead

  -- where a point of a segment is ahead and one end is not, the other is
  pub other_end_ahead : (x a b : Triple) → IsPoint x → IsPoint a → IsPoint b → On x a b → pos 0 <ℤ turning side p (whole h) x
      → turning side p (whole h) a ≤ℤ pos 0 → pos 0 <ℤ turning side p (whole h) b
  other_end_ahead x a b at_x at_a at_b on ahead behind =
      let c = combination_of x a b at_x at_a at_b on in
      other_positive c.k c.l c.m _ _ _ c.k_positive c.l_nonnegative c.m_nonnegative (turning_along side x a b c p (whole h)) ahead behind

  module _ (q g : Point) (apart : pos 0 <ℤ opening side p h q g) (z : Triple) (at_z : IsPoint z) (on : On z (whole q) (whole g))
      (ahead : pos 0 <ℤ turning side p (whole h) z) where
    -- where a point of a way that opens is ahead, its head is,
    pub head_ahead : pos 0 <ℤ turning side p (whole h) (whole g)
    head_ahead =
        let c = combination_of z (whole q) (whole g) at_z (whole_is_point q) (whole_is_point g) on in
        last_positive c.k c.l c.m _ _ _ c.k_positive c.l_nonnegative c.m_nonnegative (turning_along side z (whole q) (whole g) c p (whole h))
        (weights_positive z (whole q) (whole g) c at_z) (opening side p h q g) apart (turning_grows side p h q g) ahead

    -- and so are all points between them
    pub rest_ahead : (w : Triple) → IsPoint w → On w z (whole g) → pos 0 <ℤ turning side p (whole h) w
    rest_ahead w at_w near =
        let c = combination_of w z (whole g) at_w at_z (whole_is_point g) near in
        mean_positive c.k c.l c.m _ _ _ c.k_positive c.l_nonnegative c.m_nonnegative (turning_along side w z (whole g) c p (whole h))
        (weights_positive w z (whole g) c at_w) ahead head_ahead
