-- Ways on from one point, of which one is to the left of the other where they part.
-- Three ways on from one point, each to the left of the one before: the last is to the left of the first.
-- Two bends over one point, with one way to it: the ways on are to one side of that.
-- Three ways on from one point, with their next points ahead of a line: to be to the left goes on from one to the next.
use Rattle.std.proofs.Common.{◌≡◌, ◌≢◌, ◌⊎◌, refl, List, [], ◌∷◌, inr, ◌≤◌, length, inl, sym, ap, subst, ◌∙◌, true, ℤ, pos, ◌+ℤ◌, ◌-ℤ◌}
use Rattle.std.proofs.Common.{◌*ℤ◌, ◌<ℤ◌, arith, neg_ℤ}
use Rattle.std.proofs.lemmas.Int.{ints}
use Rattle.integer_algebra.proofs.Polynomial.{lit, neg, var, ◌⊖◌, ◌⊗◌, same_value}
use Rattle.integer_algebra.proofs.SignSteps.{turned_negative, turned_positive, positive_not_negative, positive_not_zero}
use Rattle.integer_algebra.proofs.Signs.{is_negative, is_positive, is_zero, sign, factor_positive, mul_positive}
use Rattle.plane.proofs.Order.{point_or_other}
use Rattle.plane.proofs.Points.{whole_is_point}
use Rattle.plane.proofs.Segments.{nearer_each, nearer_on, on_total}
use Rattle.plane.proofs.Turns.{determinant_swap_first, straight_swap_first, determinant_same_last, written_determinant}
use Rattle.plane.specs.Prelude.{determinant, IsLeft, IsRight, On, Point, whole}
use Rattle.rings.specs.Prelude.{IsBend, IsBentChain, IsSimple, point_at}
use Rattle.funnels.proofs.Bends.{AreOnRay, turning_differs, turning_four, turning_from_ray, turning_to_ray}
use Rattle.funnels.proofs.OneChain.{bend_back}
use Rattle.hulls.proofs.Cones.{joined_one_side}
use Rattle.hulls.proofs.Joined.{rest_bent}
use Rattle.hulls.specs.Turning.{TurnsTo, apart, first_nearer, second_nearer}

-- the second of two ways on is to the left of the first
abbrev pub TurnsLeft : Point → Point → List Point → Point → List Point → Type 0
TurnsLeft = TurnsTo IsLeft IsRight

-- two ways on from v part there, or go on to one point and part later, the second to the left of the first
abbrev pub IsLeftOf : Point → List Point → List Point → Type 0
IsLeftOf v [] other = ⊥
IsLeftOf v (p ∷ first) [] = ⊥
IsLeftOf v (p ∷ first) (q ∷ second) = ((p ≢ q) × TurnsLeft v p first q second) ⊎ ((p ≡ q) × IsLeftOf p first second)

-- a list has a first point
pub record HasFirst (points : List Point) : Type 0 where
  pub r : Point
  pub rest : List Point
  pub is : points ≡ r ∷ rest

-- such ways have one
first_of_one : (v : Point) (one other : List Point) → IsLeftOf v one other → HasFirst one
first_of_one v [] other h = absurd h
first_of_one v (p ∷ first) other h = record { r = p; rest = first; is = refl }

-- both of them
pub first_of_other : (v : Point) (one other : List Point) → IsLeftOf v one other → HasFirst other
first_of_other v [] other h = absurd h
first_of_other v (p ∷ first) [] h = absurd h
first_of_other v (p ∷ first) (q ∷ second) h = record { r = q; rest = second; is = refl }

module _ (ring : List Point) (some : 3 ≤ length ring) (simple : IsSimple ring) (v q r s : Point) (bend : IsBend ring v q r)
    (bend_too : IsBend ring v q s) where
  -- they do not go on to two sides of the way to the point,
  pub not_both_sides : IsLeft (whole v) (whole q) (whole r) → ¬ IsRight (whole v) (whole q) (whole s)
  not_both_sides left right =
      joined_one_side ring simple some q s r v (inr (bend_back ring v q s bend_too)) (inr (bend_back ring v q r bend)) (
        turned_positive (determinant_swap_first (whole v) (whole q) (whole s)) right,
        turned_negative (determinant_swap_first (whole v) (whole q) (whole r)) left,
      )

  -- so where the one goes on to the left, the other does
  pub left_alike : IsLeft (whole v) (whole q) (whole r) → IsLeft (whole v) (whole q) (whole s)
  left_alike left = elim (sign (determinant (whole v) (whole q) (whole s))) [
    | is_positive h ↦ h
    | is_zero h ↦ absurd (bend_too.turns (straight_swap_first (whole v) (whole q) (whole s) h))
    | is_negative h ↦ absurd (not_both_sides left h)
  ]

module _ (ring : List Point) (some : 3 ≤ length ring) (simple : IsSimple ring) (v q r s : Point) (bend : IsBend ring v q r)
    (bend_too : IsBend ring v q s) where
  -- and where the one goes on to the right, the other does
  pub right_alike : IsRight (whole v) (whole q) (whole r) → IsRight (whole v) (whole q) (whole s)
  right_alike right = elim (sign (determinant (whole v) (whole q) (whole s))) [
    | is_negative h ↦ h
    | is_zero h ↦ absurd (bend_too.turns (straight_swap_first (whole v) (whole q) (whole s) h))
    | is_positive h ↦ absurd (not_both_sides ring some simple v q s r bend_too bend h right)
  ]

-- ---- directions ahead of a line

-- by the relation of four directions n, p, q, r
left_sign : (np qr nq pr nr pq : ℤ) → np *ℤ qr -ℤ nq *ℤ pr +ℤ nr *ℤ pq ≡ pos 0 → pos 0 <ℤ np → pos 0 <ℤ nq → pos 0 <ℤ nr
    → pos 0 <ℤ pq → pos 0 <ℤ qr → pos 0 <ℤ pr
left_sign np qr nq pr nr pq e hp hq hr first last =
    let a = mul_positive np qr hp last in
    let b = mul_positive nr pq hr first in
    factor_positive nq pr hq (omega (arith, ints))

-- v has p to the left of the way to n
abbrev pub IsAhead : Point → Point → Point → Type 0
IsAhead v n p = IsLeft (whole v) (whole n) (whole p)

-- a point on a step of a way with bends, and the point after it
pub bend_after : (ring : List Point) (v p s : Point) (first rest : List Point) → IsBentChain ring (v ∷ p ∷ first) → first ≡ s ∷ rest
    → IsBend ring v p s
bend_after ring v p s first rest bent is =
    let chain : IsBentChain ring (v ∷ p ∷ s ∷ rest) = subst (λ ps. IsBentChain ring (v ∷ p ∷ ps)) is bent in
    chain.bends 1 (record { not_first = omega arith; not_last = omega arith })

-- lists that begin with r and with s
pub same_first : {r s : Point} {rest last ps : List Point} → ps ≡ r ∷ rest → ps ≡ s ∷ last → r ≡ s
same_first e f = ap (λ points. point_at points 0) (sym e ∙ f)

module _ (v n : Point) where
  -- what is ahead of it is not v
  ray_of : (p q : Point) → IsAhead v n p → IsAhead v n q → On (whole p) (whole v) (whole q) ⊎ On (whole q) (whole v) (whole p)
      → AreOnRay (whole v) (whole p) (whole q)
  ray_of p q ahead_p ahead_q on = record {
    first_rational = whole_is_point p;
    last_rational = whole_is_point q;
    first_differs = turning_differs true v (whole n) (whole p) ahead_p;
    last_differs = turning_differs true v (whole n) (whole q) ahead_q;
    on_ray = on;
  }

module _ (ring : List Point) (some : 3 ≤ length ring) (simple : IsSimple ring) (v n p q r : Point) (first second third : List Point)
    (bent : IsBentChain ring (v ∷ p ∷ first)) (bent_last : IsBentChain ring (v ∷ r ∷ third))
    (ahead_p : IsAhead v n p) (ahead_q : IsAhead v n q) (ahead_r : IsAhead v n r) (differ : p ≢ q) (differ_too : q ≢ r) where
  -- where r is to the left of p, so is the way over it
  by_side : IsLeft (whole v) (whole p) (whole r) → IsLeftOf v (p ∷ first) (r ∷ third)
  by_side left =
      inl (
        (λ e. positive_not_zero (subst (λ x. IsLeft (whole v) (whole p) (whole x)) (sym e) left) (determinant_same_last (whole v) (whole p))),
        apart left,
      )

  -- what is on the ray of q and nearer than it, p or r
  both_nearer : (s t : Point) (rest last : List Point) → On (whole p) (whole v) (whole q) → On (whole r) (whole v) (whole q)
      → first ≡ s ∷ rest → IsRight (whole v) (whole p) (whole s) → third ≡ t ∷ last → IsLeft (whole v) (whole r) (whole t)
      → IsLeftOf v (p ∷ first) (r ∷ third)
  both_nearer s t rest last on_p on_r is right is_too left = elim (point_or_other p r) [
    | inl e ↦
        absurd (not_both_sides ring some simple v r t s (bend_after ring v r t third last bent_last is_too)
        (subst (λ x. IsBend ring v x s) e (bend_after ring v p s first rest bent is)) left
        (subst (λ x. IsRight (whole v) (whole x) (whole s)) e right))
    | inr other ↦
        elim (on_total (whole p) (whole r) (whole v) (whole q) (whole_is_point p) (whole_is_point r) (whole_is_point v) (whole_is_point q)
        on_p on_r) [
          | inl on ↦ inl (other, first_nearer s rest on is right)
          | inr on ↦ inl (other, second_nearer t last on is_too left)
        ]
  ]

  -- so the third is to the left of the first where the second is between
  pub left_at_once : TurnsLeft v p first q second → TurnsLeft v q second r third → IsLeftOf v (p ∷ first) (r ∷ third)
  left_at_once (apart left) (apart left_too) =
      by_side (left_sign _ _ _ _ _ _ (turning_four true v (whole n) (whole p) (whole q) (whole r)) ahead_p ahead_q ahead_r left left_too)
  left_at_once (apart left) (first_nearer s rest on is right) =
      by_side ((turning_to_ray v true (whole q) (whole r) (whole p) (ray_of v n q r ahead_q ahead_r (inl on))).positive left)
  left_at_once (apart left) (second_nearer s rest on is left_too) =
      by_side ((turning_to_ray v true (whole q) (whole r) (whole p) (ray_of v n q r ahead_q ahead_r (inr on))).positive left)
  left_at_once (first_nearer s rest on is right) (apart left) =
      by_side ((turning_from_ray v true (whole q) (whole p) (whole r) (ray_of v n q p ahead_q ahead_p (inr on))).positive left)
  left_at_once (second_nearer s rest on is left_too) (apart left) =
      by_side ((turning_from_ray v true (whole q) (whole p) (whole r) (ray_of v n q p ahead_q ahead_p (inl on))).positive left)
  left_at_once (first_nearer s rest on is right) (first_nearer t last on_too is_too right_too) =
      inl (
        (λ e. differ (nearer_each v p q on (subst (λ x. On (whole q) (whole v) (whole x)) (sym e) on_too))),
        first_nearer s rest (nearer_on v p q r on on_too) is right,
      )
  left_at_once (first_nearer s rest on is right) (second_nearer t last on_too is_too left) =
      both_nearer s t rest last on on_too is right is_too left
  left_at_once (second_nearer s rest on is left) (first_nearer t last on_too is_too right) =
      absurd (positive_not_negative left (subst (λ x. IsRight (whole v) (whole q) (whole x)) (same_first is_too is) right))
  left_at_once (second_nearer s rest on is left) (second_nearer t last on_too is_too left_too) =
      inl (
        (λ e. differ_too (nearer_each v q r (subst (λ x. On (whole q) (whole v) (whole x)) e on) on_too)),
        second_nearer t last (nearer_on v r q p on_too on) is_too left_too,
      )

-- ---- a side of a line through p

-- the point that has p between it and v, at the distance of v
abbrev mirrored : Point → Point → Point
mirrored p v = record { x = pos 2 *ℤ p.x -ℤ v.x; y = pos 2 *ℤ p.y -ℤ v.y }

-- seen from p it is on the other side
turned_by_mirror : (p v s : Point) → determinant (whole p) (whole (mirrored p v)) (whole s) ≡ neg_ℤ (determinant (whole p) (whole v) (whole s))
turned_by_mirror p v s =
    let one = lit (pos 1) in
    same_value (written_determinant (var 0) (var 1) one (lit (pos 2) ⊗ var 0 ⊖ var 2) (lit (pos 2) ⊗ var 1 ⊖ var 3) one (var 4) (var 5) one)
    (neg (written_determinant (var 0) (var 1) one (var 2) (var 3) one (var 4) (var 5) one))
    (p.x ∷ p.y ∷ v.x ∷ v.y ∷ s.x ∷ s.y ∷ []) refl

-- the points are ahead of one line through p
pub record AreAhead (p r s t : Point) : Type 0 where
  pub n : Point
  pub first : IsAhead p n r
  pub second : IsAhead p n s
  pub third : IsAhead p n t

module _ (ring : List Point) (some : 3 ≤ length ring) (simple : IsSimple ring) (v p r s t : Point) (bend_r : IsBend ring v p r)
    (bend_s : IsBend ring v p s) (bend_t : IsBend ring v p t) where
  -- what ways from v over p go on to is
  ahead_of_bends : AreAhead p r s t
  ahead_of_bends = elim (sign (determinant (whole v) (whole p) (whole r))) [
    | is_positive h ↦
        let turned = λ (x : Point) (left : IsLeft (whole v) (whole p) (whole x)).
        turned_positive (turned_by_mirror p v x) (turned_negative (determinant_swap_first (whole v) (whole p) (whole x)) left) in
        record {
          n = mirrored p v;
          first = turned r h;
          second = turned s (left_alike ring some simple v p r s bend_r bend_s h);
          third = turned t (left_alike ring some simple v p r t bend_r bend_t h);
        }
    | is_zero h ↦ absurd (bend_r.turns (straight_swap_first (whole v) (whole p) (whole r) h))
    | is_negative h ↦
        let turned = λ (x : Point) (right : IsRight (whole v) (whole p) (whole x)).
        turned_positive (determinant_swap_first (whole v) (whole p) (whole x)) right in
        record {
          n = v;
          first = turned r h;
          second = turned s (right_alike ring some simple v p r s bend_r bend_s h);
          third = turned t (right_alike ring some simple v p r t bend_r bend_t h);
        }
  ]

-- ---- two that go on alike, and a third

module _ (ring : List Point) (some : 3 ≤ length ring) (simple : IsSimple ring) (v q : Point) (second third : List Point)
    (bent : IsBentChain ring (v ∷ q ∷ second)) (bent_too : IsBentChain ring (v ∷ q ∷ third)) where
  -- a way that is to the left of another is to the left of what goes on with that
  pub left_of_alike : (p : Point) (first : List Point) → HasFirst third → TurnsLeft v p first q second → TurnsLeft v p first q third
  left_of_alike p first more (apart left) = apart left
  left_of_alike p first more (first_nearer s rest on is right) = first_nearer s rest on is right
  left_of_alike p first more (second_nearer s rest on is left) =
      second_nearer more.r more.rest on more.is
      (left_alike ring some simple v q s more.r (bend_after ring v q s second rest bent is)
      (bend_after ring v q more.r third more.rest bent_too more.is) left)

  -- and what goes on with one is to the right of what that is to the right of
  pub right_of_alike : (r : Point) (last : List Point) → HasFirst second → TurnsLeft v q third r last → TurnsLeft v q second r last
  right_of_alike r last more (apart left) = apart left
  right_of_alike r last more (first_nearer s rest on is right) =
      first_nearer more.r more.rest on more.is
      (right_alike ring some simple v q s more.r (bend_after ring v q s third rest bent_too is)
      (bend_after ring v q more.r second more.rest bent more.is) right)
  right_of_alike r last more (second_nearer s rest on is left) = second_nearer s rest on is left

-- ---- three ways

-- the points with which three ways go on are ahead of one line
abbrev BeginAhead : Point → List Point → List Point → List Point → Type 0
BeginAhead v one two three = AreAhead v (point_at one 0) (point_at two 0) (point_at three 0)

module _ (ring : List Point) (some : 3 ≤ length ring) (simple : IsSimple ring) where
  -- where a way with bends goes on
  bend_on : (v p : Point) (first : List Point) → IsBentChain ring (v ∷ p ∷ first) → HasFirst first → IsBend ring v p (point_at first 0)
  bend_on v p first bent more =
      subst (IsBend ring v p) (sym (ap (λ ps. point_at ps 0) more.is)) (bend_after ring v p more.r first more.rest bent more.is)

  -- beyond its first step a way with bends is one
  beyond : (v p : Point) (first : List Point) → IsBentChain ring (v ∷ p ∷ first) → IsBentChain ring (p ∷ first)
  beyond v p first bent = rest_bent ring (v ∷ p ∷ first) bent 1 (omega arith)

  -- to be to the left goes on from one to the next
  pub left_follows : (v : Point) (one two three : List Point) → IsBentChain ring (v ∷ one) → IsBentChain ring (v ∷ two)
      → IsBentChain ring (v ∷ three) → BeginAhead v one two three → IsLeftOf v one two → IsLeftOf v two three → IsLeftOf v one three
  left_follows v [] two three bent bent_two bent_three ahead h k = absurd h
  left_follows v (p ∷ first) [] three bent bent_two bent_three ahead h k = absurd h
  left_follows v (p ∷ first) (q ∷ second) [] bent bent_two bent_three ahead h k = absurd k
  left_follows v (p ∷ first) (q ∷ second) (r ∷ third) bent bent_two bent_three ahead (inl h) (inl k) =
      left_at_once ring some simple v ahead.n p q r first second third bent bent_three ahead.first ahead.second ahead.third h.0 k.0 h.1 k.1
  left_follows v (p ∷ first) (q ∷ second) (r ∷ third) bent bent_two bent_three ahead (inl h) (inr k) =
      inl (
        (λ e. h.0 (e ∙ sym k.0)),
        subst (λ x. TurnsLeft v p first x third) k.0
            (left_of_alike ring some simple v q second third bent_two (subst (λ x. IsBentChain ring (v ∷ x ∷ third)) (sym k.0) bent_three) p first
            (first_of_other q second third k.1) h.1),
      )
  left_follows v (p ∷ first) (q ∷ second) (r ∷ third) bent bent_two bent_three ahead (inr h) (inl k) =
      inl (
        (λ e. k.0 (sym h.0 ∙ e)),
        right_of_alike ring some simple v p first second bent (subst (λ x. IsBentChain ring (v ∷ x ∷ second)) (sym h.0) bent_two) r third
            (first_of_one p first second h.1) (subst (λ x. TurnsLeft v x second r third) (sym h.0) k.1),
      )
  left_follows v (p ∷ first) (q ∷ second) (r ∷ third) bent bent_two bent_three ahead (inr h) (inr k) =
      let two = subst (λ x. IsBentChain ring (v ∷ x ∷ second)) (sym h.0) bent_two in
      let three = subst (λ x. IsBentChain ring (v ∷ x ∷ third)) (sym (h.0 ∙ k.0)) bent_three in
      let later = subst (λ x. IsLeftOf x second third) (sym h.0) k.1 in
      inr (
        h.0 ∙ k.0,
        left_follows p first second third (beyond v p first bent) (beyond v p second two) (beyond v p third three)
            (ahead_of_bends ring some simple v p (point_at first 0) (point_at second 0) (point_at third 0)
            (bend_on v p first bent (first_of_one p first second h.1)) (bend_on v p second two (first_of_other p first second h.1))
            (bend_on v p third three (first_of_other p second third later))) h.1 later,
      )
