-- Points on one ray from a vertex: what is left of the one is left of the other.
-- Directions in line with each other, seen from a vertex on either side: of two different lines only the vertex is on both, and what
-- is to one side of a line is on one ray.
-- The two neighbours of a vertex in a simple ring are on two rays from it.
use Rattle.std.proofs.Common.{◌≡◌, ◌⊎◌, inl, inr, Bool, true, false, refl, sym, ℤ, pos, ◌+ℤ◌, ◌*ℤ◌, neg_ℤ, ◌<ℤ◌, ◌≤ℤ◌, arith, ◌≢◌, not, []}
use Rattle.std.proofs.Common.{◌∷◌, subst, ap, ◌∙◌, ◌-ℤ◌, ℕ, ◌+◌, ◌-◌, ◌<◌, ◌≤◌, List, length}
use Rattle.std.proofs.lemmas.Int.{ints}
use Rattle.integer_algebra.proofs.Certificate.{product_zero}
use Rattle.integer_algebra.proofs.Laws.{eq_of_sub-zero, neg-mul, zero-mul}
use Rattle.integer_algebra.proofs.Polynomial.{lit, var, ◌⊖◌, ◌⊗◌, same_value}
use Rattle.integer_algebra.proofs.SignSteps.{positive_of_not_zero, weak, negative_not_zero, negative_of_opposite, positive_not_zero}
use Rattle.integer_algebra.proofs.SignSteps.{positive_of_opposite, zero_of_opposite}
use Rattle.integer_algebra.proofs.Signs.{factor_negative, factor_nonnegative, factor_nonpositive, factor_positive, mul_negative}
use Rattle.integer_algebra.proofs.Signs.{mul_nonnegative, mul_nonpositive, mul_positive, factor_zero}
use Rattle.plane.proofs.Points.{whole_is_point}
use Rattle.plane.proofs.Segments.{same_without_last, ray_on_left, ray_on_right, same_straight}
use Rattle.plane.proofs.Turns.{determinant_same_ends, combination_of, determinant_along, four_triples_in_W, four_triples_in_X}
use Rattle.plane.proofs.Turns.{four_triples_in_Y}
use Rattle.plane.specs.Prelude.{determinant, IsPoint, IsSame, IsStraight, On, Point, Triple, whole}
use Rattle.rings.specs.Prelude.{AreNeighbours, IsSimple, vertex}
use Rattle.ring_laws.proofs.Vertices.{beside_next, neighbours_not_on_ray}
use Rattle.funnels.proofs.Bends.Turnings.{turning_swap, turning_not}
use Rattle.funnels.specs.Fanned.{turning}

-- ---- numbers of one sign

-- q is positive where p is, negative where p is, 0 where p is, and so on
pub record HasSignOf (p q : ℤ) : Type 0 where
  pub positive : pos 0 <ℤ p → pos 0 <ℤ q
  pub negative : p <ℤ pos 0 → q <ℤ pos 0
  pub zero : p ≡ pos 0 → q ≡ pos 0
  pub not_positive : p ≤ℤ pos 0 → q ≤ℤ pos 0
  pub not_negative : pos 0 ≤ℤ p → pos 0 ≤ℤ q

-- two numbers with an equal positive multiple have one sign
sign_of_multiple : (k m p q : ℤ) → pos 0 <ℤ k → pos 0 <ℤ m → k *ℤ p ≡ m *ℤ q → HasSignOf p q
sign_of_multiple k m p q hk hm e = record {
  positive = λ h. let product = mul_positive k p hk h in factor_positive m q hm (omega (arith, ints));
  negative = λ h. let product = mul_negative k p hk h in factor_negative m q hm (omega (arith, ints));
  zero = λ h.
      let product = product_zero k h in
      let low = factor_nonpositive m q hm (omega (arith, ints)) in
      let high = factor_nonnegative m q hm (omega (arith, ints)) in
      omega (arith, ints);
  not_positive = λ h. let product = mul_nonpositive k p (weak hk) h in factor_nonpositive m q hm (omega (arith, ints));
  not_negative = λ h. let product = mul_nonnegative k p (weak hk) h in factor_nonnegative m q hm (omega (arith, ints));
}

-- so have their opposites
sign_of_opposites : {p q r s : ℤ} → r ≡ neg_ℤ p → s ≡ neg_ℤ q → HasSignOf p q → HasSignOf r s
sign_of_opposites e f h = record {
  positive = λ k. let back = h.negative (omega (arith, ints)) in omega (arith, ints);
  negative = λ k. let back = h.positive (omega (arith, ints)) in omega (arith, ints);
  zero = λ k. let back = h.zero (omega (arith, ints)) in omega (arith, ints);
  not_positive = λ k. let back = h.not_negative (omega (arith, ints)) in omega (arith, ints);
  not_negative = λ k. let back = h.not_positive (omega (arith, ints)) in omega (arith, ints);
}

-- a part of a sum is nothing
first_is_nothing : (l m f g s : ℤ) → f ≡ pos 0 → s ≡ l *ℤ f +ℤ m *ℤ g → s ≡ m *ℤ g
first_is_nothing l m f g s none e = let nothing = product_zero l none in omega (arith, ints)

-- ---- points on one ray

-- b and x, both other than v, are on one ray from v
pub record AreOnRay (v b x : Triple) : Type 0 where
  pub first_rational : IsPoint b
  pub last_rational : IsPoint x
  pub first_differs : ¬ IsSame b v
  pub last_differs : ¬ IsSame x v
  pub on_ray : On b v x ⊎ On x v b

-- each of them may be the first
pub on_ray_back : {v b x : Triple} → AreOnRay v b x → AreOnRay v x b
on_ray_back h = record {
  first_rational = h.last_rational;
  last_rational = h.first_rational;
  first_differs = h.last_differs;
  last_differs = h.first_differs;
  on_ray = elim h.on_ray [ inl on ↦ inr on | inr on ↦ inl on ];
}

module _ (v : Point) where
  -- a point other than v on the way from v to another point is seen on the side of that
  sign_along : (b x z : Triple) → IsPoint b → IsPoint x → ¬ IsSame b (whole v) → On b (whole v) x
      → HasSignOf (determinant (whole v) z b) (determinant (whole v) z x)
      × HasSignOf (determinant (whole v) z x) (determinant (whole v) z b)
  sign_along b x z at_b at_x differs on =
      let c = combination_of b (whole v) x at_b (whole_is_point v) at_x on in
      let some = positive_of_not_zero c.m_nonnegative (λ none. differs (same_without_last b (whole v) x c none)) in
      let e = first_is_nothing c.l c.m _ _ _ (determinant_same_ends (whole v) z) (determinant_along b (whole v) x c (whole v) z) in
      (sign_of_multiple _ _ _ _ c.k_positive some e, sign_of_multiple _ _ _ _ some c.k_positive (sym e))

  -- so it is for two points on one ray,
  sign_on_ray : (b x z : Triple) → AreOnRay (whole v) b x → HasSignOf (determinant (whole v) z b) (determinant (whole v) z x)
  sign_on_ray b x z h = elim h.on_ray [
    | inl on ↦ (sign_along b x z h.first_rational h.last_rational h.first_differs on).0
    | inr on ↦ (sign_along x b z h.last_rational h.first_rational h.last_differs on).1
  ]

  -- they turn the same way from any direction,
  pub turning_to_ray : (side : Bool) (b x z : Triple) → AreOnRay (whole v) b x → HasSignOf (turning side v z b) (turning side v z x)
  turning_to_ray true b x z h = sign_on_ray b x z h
  turning_to_ray false b x z h = sign_of_opposites refl refl (sign_on_ray b x z h)

  -- and any direction turns the same way from them
  pub turning_from_ray : (side : Bool) (b x z : Triple) → AreOnRay (whole v) b x → HasSignOf (turning side v b z) (turning side v x z)
  turning_from_ray side b x z h =
      sign_of_opposites (turning_swap side v z b) (turning_swap side v z x) (turning_to_ray side b x z h)

-- ---- lines through the vertex

-- a direction that does not turn is straight,
pub turning_straight : (side : Bool) (v : Point) (a b : Triple) → turning side v a b ≡ pos 0 → IsStraight (whole v) a b
turning_straight true v a b e = e
turning_straight false v a b e = zero_of_opposite e

-- and one that turns is not
turning_not_straight : (side : Bool) (v : Point) (a b : Triple) → pos 0 <ℤ turning side v a b → ¬ IsStraight (whole v) a b
turning_not_straight true v a b h = positive_not_zero h
turning_not_straight false v a b h = negative_not_zero (negative_of_opposite h)

-- ---- the vertex itself

-- one part of the relation of four points, where two of its determinants are 0
multiple_of : (e r d s v a x c : ℤ) → r ≡ pos 0 → s ≡ pos 0 → e *ℤ v -ℤ r *ℤ a +ℤ d *ℤ x -ℤ s *ℤ c ≡ pos 0 → d *ℤ x ≡ neg_ℤ e *ℤ v
multiple_of e r d s v a x c er es h =
    omega (arith, ints, neg-mul e v, ap (λ n. n *ℤ a) er, ap (λ n. n *ℤ c) es, zero-mul a, zero-mul c)

-- what is one multiple of two parts is in proportion to them
in_proportion : (d e x w v u : ℤ) → d ≢ pos 0 → d *ℤ x ≡ e *ℤ v → d *ℤ w ≡ e *ℤ u → x *ℤ u ≡ v *ℤ w
in_proportion d e x w v u some hx hw =
    eq_of_sub-zero _ _ (factor_zero d (x *ℤ u -ℤ v *ℤ w) some
    (same_value (var 0 ⊗ (var 2 ⊗ var 5 ⊖ var 4 ⊗ var 3)) ((var 0 ⊗ var 2) ⊗ var 5 ⊖ (var 0 ⊗ var 3) ⊗ var 4)
    (d ∷ e ∷ x ∷ w ∷ v ∷ u ∷ []) refl
    ∙ (λ i. hx i *ℤ u -ℤ hw i *ℤ v)
    ∙ same_value ((var 1 ⊗ var 4) ⊗ var 5 ⊖ (var 1 ⊗ var 5) ⊗ var 4) (lit (pos 0)) (d ∷ e ∷ x ∷ w ∷ v ∷ u ∷ []) refl))

-- a point on two lines through v is v
one_of_two_lines : (v a c x : Triple) → ¬ IsStraight v a c → IsStraight v a x → IsStraight v x c → IsSame x v
one_of_two_lines v a c x some first last =
    let in_X = multiple_of _ _ _ _ v.X a.X x.X c.X last first (four_triples_in_X v a x c) in
    let in_Y = multiple_of _ _ _ _ v.Y a.Y x.Y c.Y last first (four_triples_in_Y v a x c) in
    let in_W = multiple_of _ _ _ _ v.W a.W x.W c.W last first (four_triples_in_W v a x c) in
    record { same_x = in_proportion _ _ x.X x.W v.X v.W some in_X in_W; same_y = in_proportion _ _ x.Y x.W v.Y v.W some in_Y in_W }

module _ (side : Bool) (v : Point) where
  -- so where c is left of a, and x is in line with both, x is v;
  pub level_is_vertex : (a c x : Triple) → pos 0 <ℤ turning side v a c → turning side v a x ≡ pos 0 → turning side v x c ≡ pos 0
      → IsSame x (whole v)
  level_is_vertex a c x some first last =
      one_of_two_lines (whole v) a c x (turning_not_straight side v a c some) (turning_straight side v a x first)
      (turning_straight side v x c last)

  -- and c is not v
  pub turning_differs : (a c : Triple) → pos 0 <ℤ turning side v a c → ¬ IsSame c (whole v)
  turning_differs a c some same =
      turning_not_straight side v a c some
      (same_straight (whole v) a c (whole v) (whole_is_point v) same (determinant_same_ends (whole v) a))

-- nor is a
pub turning_differs_first : (side : Bool) (v : Point) (a c : Triple) → pos 0 <ℤ turning side v a c → ¬ IsSame a (whole v)
turning_differs_first side v a c some = turning_differs (not side) v c a (subst (λ z. pos 0 <ℤ z) (sym (turning_not side v c a)) some)

-- ---- rays

-- two points in line with v and ahead of one direction are on one ray,
pub ray_ahead : (side : Bool) (v : Point) (b x u : Triple) → IsPoint x → IsPoint u → turning side v x u ≡ pos 0
    → pos 0 <ℤ turning side v b x → pos 0 <ℤ turning side v b u → On u (whole v) x ⊎ On x (whole v) u
ray_ahead true v b x u at_x at_u level ahead_x ahead_u = ray_on_left (whole v) x u (whole_is_point v) at_x at_u b level ahead_x ahead_u
ray_ahead false v b x u at_x at_u level ahead_x ahead_u =
    ray_on_right (whole v) x u (whole_is_point v) at_x at_u b (zero_of_opposite level) (negative_of_opposite ahead_x)
    (negative_of_opposite ahead_u)

-- and so are two that are behind one
pub ray_behind : (side : Bool) (v : Point) (b x u : Triple) → IsPoint x → IsPoint u → turning side v x u ≡ pos 0
    → turning side v b x <ℤ pos 0 → turning side v b u <ℤ pos 0 → On u (whole v) x ⊎ On x (whole v) u
ray_behind true v b x u at_x at_u level behind_x behind_u =
    ray_on_right (whole v) x u (whole_is_point v) at_x at_u b level behind_x behind_u
ray_behind false v b x u at_x at_u level behind_x behind_u =
    ray_on_left (whole v) x u (whole_is_point v) at_x at_u b (zero_of_opposite level) (positive_of_opposite behind_x)
    (positive_of_opposite behind_u)

-- v has two neighbours, on two rays
pub record HasTwoRays (ring : List Point) (v : Point) : Type 0 where
  pub first : Point
  pub last : Point
  pub first_next : AreNeighbours ring v first
  pub last_next : AreNeighbours ring v last
  pub two : ¬ (On (whole first) (whole v) (whole last) ⊎ On (whole last) (whole v) (whole first))

-- each vertex of a simple ring does
pub two_rays : (ring : List Point) → IsSimple ring → 3 ≤ length ring → (r : ℕ) → r < length ring → HasTwoRays ring (vertex ring r)
two_rays ring simple three r h = record {
  first = vertex ring (r + (length ring - 1));
  last = vertex ring (r + 1);
  first_next = beside_next ring simple three r h false;
  last_next = beside_next ring simple three r h true;
  two = neighbours_not_on_ray ring simple three r h;
}
