-- Points that are joined over a point.
-- No three points are joined with each other over one point.
-- Joined points, in either order: with the point between them a line through it has them on two sides, and else there is a bend.
-- Points that are joined with one point are not strictly on two sides of the line to it.
-- Beside two joined points, a third that is joined with neither, nor on a line with one of them, has them on two sides.
use Rattle.std.proofs.Common.{◌≡◌, ◌≢◌, inl, inr, refl, Bool, true, false, ℤ, pos, ◌+ℤ◌, ◌*ℤ◌, ◌<ℤ◌, List, arith, ◌⊎◌, sym, subst, neg_ℤ}
use Rattle.std.proofs.Common.{◌-ℤ◌, ◌≤ℤ◌, ◌≤◌, length, ◌↔◌}
use Rattle.std.proofs.lemmas.Int.{ints}
use Rattle.integer_algebra.proofs.Certificate.{product_zero}
use Rattle.integer_algebra.proofs.OneSign.{OneSign}
use Rattle.integer_algebra.proofs.SignSteps.{positive_of_not_zero, turned_zero, negative_not_zero, negative_of_not_zero, turned_negative}
use Rattle.integer_algebra.proofs.SignSteps.{turned_positive, opposite_positive, positive_not_negative, weak_order, positive_of_opposite}
use Rattle.integer_algebra.proofs.Signs.{factor_negative, mul_positive, factor_zero, is_negative, is_positive, is_zero, sign}
use Rattle.plane.proofs.Points.{same_whole, whole_is_point}
use Rattle.plane.proofs.Segments.{on_is_straight, on_reversed, same_without_first, same_without_last, on_first_end}
use Rattle.plane.proofs.Turns.{combination_of_ends, determinant_same_ends, straight_shift_back, determinant_swap_last, straight_swap_last}
use Rattle.plane.proofs.Turns.{determinant_shift}
use Rattle.plane.specs.Prelude.{determinant, IsLeft, IsRight, IsStraight, On, Point, whole}
use Rattle.rings.specs.Prelude.{AreNeighbours, IsBend, IsSimple}
use Rattle.ring_laws.proofs.Triangles.{left_of, left_of_is_left}
use Rattle.funnels.proofs.Bends.{turning_along, level_is_vertex, ray_behind, turning_four, turnings_of_bend, two_rays, turning_straight}
use Rattle.funnels.proofs.Bends.{turning_swap, wider_bend}
use Rattle.funnels.proofs.OneChain.{bend_back}
use Rattle.funnels.specs.Fanned.{turning}
use Rattle.hulls.specs.Joined.{AreJoined}

-- ---- strictly between

-- v is strictly between p and q
abbrev pub IsBetween : Point → Point → Point → Type 0
IsBetween v p q = (v ≢ p) × (v ≢ q) × On (whole v) (whole p) (whole q)

-- the two may change places
pub between_back : {v p q : Point} → IsBetween v p q → IsBetween v q p
between_back {v} {p} {q} h = (h.1, h.0, on_reversed (whole v) (whole p) (whole q) h.2)

-- where a sum of positive multiples is nothing, and its first number is positive, the other is negative
other_is_negative : (k l m z f g : ℤ) → pos 0 <ℤ l → pos 0 <ℤ m → z ≡ pos 0 → k *ℤ z ≡ l *ℤ f +ℤ m *ℤ g → pos 0 <ℤ f → g <ℤ pos 0
other_is_negative k l m z f g hl hm none e hf =
    let nothing = product_zero k none in
    let first = mul_positive l f hl hf in
    factor_negative m g hm (omega (arith, ints))

-- a point is in line with itself
own_end : (side : Bool) (v n : Point) → turning side v (whole n) (whole v) ≡ pos 0
own_end true v n = determinant_same_ends (whole v) (whole n)
own_end false v n = turned_zero refl (determinant_same_ends (whole v) (whole n))

-- so v has p and q on the two sides of each line through it that has one of them to a side
pub across : (side : Bool) (v p q n : Point) → IsBetween v p q → pos 0 <ℤ turning side v (whole n) (whole p)
    → turning side v (whole n) (whole q) <ℤ pos 0
across side v p q n h ahead =
    let c = combination_of_ends (whole v) p q (whole_is_point v) h.2 in
    let l = positive_of_not_zero c.l_nonnegative (λ none. h.1 (same_whole v q (same_without_first (whole v) (whole p) (whole q) c none))) in
    let m = positive_of_not_zero c.m_nonnegative (λ none. h.0 (same_whole v p (same_without_last (whole v) (whole p) (whole q) c none))) in
    other_is_negative c.k c.l c.m _ _ _ l m (own_end side v n) (turning_along side (whole v) (whole p) (whole q) c v (whole n)) ahead

-- ---- joined points

-- two joined points may change places
pub joined_back : (ring : List Point) (v p q : Point) → AreJoined ring v p q → AreJoined ring v q p
joined_back ring v p q (inl between) = inl (between_back between)
joined_back ring v p q (inr bend) = inr (bend_back ring p v q bend)

-- where they are not in line with v, there is a bend,
pub bend_of_joined : (ring : List Point) (v p q : Point) → ¬ IsStraight (whole v) (whole p) (whole q) → AreJoined ring v p q → IsBend ring p v q
bend_of_joined ring v p q turns (inl h) =
    absurd (turns (straight_shift_back (whole p) (whole q) (whole v)
    (on_is_straight (whole v) (whole p) (whole q) (whole_is_point v) (whole_is_point p) (whole_is_point q) h.2)))
bend_of_joined ring v p q turns (inr bend) = bend

-- and where they are, v is strictly between them
pub between_of_joined : (ring : List Point) (v p q : Point) → IsStraight (whole v) (whole p) (whole q) → AreJoined ring v p q → IsBetween v p q
between_of_joined ring v p q straight (inl between) = between
between_of_joined ring v p q straight (inr bend) = absurd (bend.turns straight)

-- two directions in line with a third, beside a fourth that is not, are in line
in_line : (po ab pa ob pb oa : ℤ) → po *ℤ ab -ℤ pa *ℤ ob +ℤ pb *ℤ oa ≡ pos 0 → po <ℤ pos 0 → oa ≡ pos 0 → ob ≡ pos 0 → ab ≡ pos 0
in_line po ab pa ob pb oa e behind level_a level_b =
    let middle = product_zero pa level_b in
    let last = product_zero pb level_a in
    factor_zero po ab (negative_not_zero behind) (omega (arith, ints))

-- and one that is not positive is 0 where its opposite is not
both_level : {z w : ℤ} → w ≡ neg_ℤ z → z ≤ℤ pos 0 → w ≤ℤ pos 0 → z ≡ pos 0
both_level e h k = omega (arith, ints)

module _ (ring : List Point) (v p o q : Point) (first : IsBend ring p v o) (last : IsBend ring o v q)
    (behind : determinant (whole v) (whole p) (whole o) <ℤ pos 0) (beyond : determinant (whole v) (whole o) (whole q) <ℤ pos 0) where
  -- where q turns on beyond o, each neighbour of v is in line with o,
  level : (a : Point) → AreNeighbours ring v a → determinant (whole v) (whole o) (whole a) ≡ pos 0
  level a n =
      both_level (determinant_swap_last (whole v) (whole o) (whole a)) (turnings_of_bend true ring o v q beyond last a n).0
      (turnings_of_bend true ring p v o behind first a n).1

  -- and behind p
  behind_first : (a : Point) → AreNeighbours ring v a → ¬ (a ≡ v) → determinant (whole v) (whole p) (whole a) <ℤ pos 0
  behind_first a n other =
      negative_of_not_zero (turnings_of_bend true ring p v o behind first a n).0
      (λ straight. other (same_whole a v
      (level_is_vertex true v (whole o) (whole p) (whole a) (turned_positive (determinant_swap_last (whole v) (whole p) (whole o)) behind)
      (level a n) (straight_swap_last (whole v) (whole p) (whole a) straight))))

  -- so two of them are on one ray
  on_one_ray : (a b : Point) → AreNeighbours ring v a → AreNeighbours ring v b → ¬ (a ≡ v) → ¬ (b ≡ v)
      → On (whole a) (whole v) (whole b) ⊎ On (whole b) (whole v) (whole a)
  on_one_ray a b next_a next_b other_a other_b =
      ray_behind true v (whole p) (whole b) (whole a) (whole_is_point b) (whole_is_point a)
      (in_line _ _ _ _ _ _ (turning_four true v (whole p) (whole o) (whole b) (whole a)) behind (level b next_b) (level a next_a))
      (behind_first b next_b other_b) (behind_first a next_a other_a)

  -- which in a simple ring they are not
  none_in_simple : (a b : Point) → AreNeighbours ring v a → AreNeighbours ring v b
      → ¬ (On (whole a) (whole v) (whole b) ⊎ On (whole b) (whole v) (whole a)) → ⊥
  none_in_simple a b next_a next_b two =
      two (on_one_ray a b next_a next_b
      (λ same. two (inl (subst (λ (z : Point). On (whole z) (whole v) (whole b)) (sym same) (on_first_end (whole v) (whole b)))))
      (λ same. two (inr (subst (λ (z : Point). On (whole z) (whole v) (whole a)) (sym same) (on_first_end (whole v) (whole a))))))

module _ (ring : List Point) (simple : IsSimple ring) (three : 3 ≤ length ring) (v p q o : Point) where
  -- two points that are joined with o are not strictly on two sides of the line to it
  pub joined_one_side : AreJoined ring v p o → AreJoined ring v q o
      → ¬ (IsLeft (whole v) (whole o) (whole p) × IsRight (whole v) (whole o) (whole q))
  joined_one_side first last sides =
      let behind = turned_negative (determinant_swap_last (whole v) (whole o) (whole p)) sides.0 in
      let left = bend_of_joined ring v p o (negative_not_zero behind) first in
      let right = bend_of_joined ring v q o (λ e. negative_not_zero sides.1 (straight_swap_last (whole v) (whole q) (whole o) e)) last in
      let at = left.reflex in
      let rays = two_rays ring simple three at.i at.in_ring in
      let a = rays.first in
      let b = rays.last in
      none_in_simple ring v p o q left (bend_back ring q v o right) behind sides.1 a b
      (subst (λ (z : Point). AreNeighbours ring z a) at.is_vertex rays.first_next)
      (subst (λ (z : Point). AreNeighbours ring z b) at.is_vertex rays.last_next)
      (subst (λ (z : Point). ¬ (On (whole a) (whole z) (whole b) ⊎ On (whole b) (whole z) (whole a))) at.is_vertex rays.two)

module _ (side : Bool) (ring : List Point) (v n : Point) where
  -- where both ends of a bend are ahead of n, the one that is farther ahead makes one with n
  wider : (u w : Point) → IsBend ring u v w → turning side v (whole u) (whole w) <ℤ pos 0 → pos 0 <ℤ turning side v (whole n) (whole u)
      → pos 0 <ℤ turning side v (whole n) (whole w) → IsBend ring u v n
  wider u w bend behind ahead_u ahead_w =
      wider_bend side ring u v w n bend behind (turned_negative (turning_swap side v (whole n) (whole u)) ahead_u)
      (weak_order (turned_negative (turning_swap side v (whole n) (whole w)) ahead_w))

  -- so one of two joined points that are ahead of n is joined with it
  pub ahead_of_none : (u w : Point) → AreJoined ring v u w → ¬ AreJoined ring v u n → ¬ AreJoined ring v w n
      → pos 0 <ℤ turning side v (whole n) (whole u) → pos 0 <ℤ turning side v (whole n) (whole w) → ⊥
  ahead_of_none u w (inl between) not_u not_w ahead_u ahead_w = positive_not_negative ahead_w (across side v u w n between ahead_u)
  ahead_of_none u w (inr bend) not_u not_w ahead_u ahead_w = elim (sign (turning side v (whole u) (whole w))) [
    | is_negative h ↦ not_u (inr (wider u w bend h ahead_u ahead_w))
    | is_zero h ↦ bend.turns (turning_straight side v (whole u) (whole w) h)
    | is_positive h ↦
        not_w (inr (wider w u (bend_back ring u v w bend) (turned_negative (turning_swap side v (whole u) (whole w)) h) ahead_w ahead_u))
  ]

-- two numbers that are not 0, without one sign: the first has the signs of the opposite of the second
signs_with_opposite : (f g x y : ℤ) → ¬ OneSign f g → ¬ (f ≡ pos 0) → ¬ (g ≡ pos 0) → f ≡ x → y ≡ neg_ℤ g
    → (pos 0 <ℤ x ↔ pos 0 <ℤ y) × (x <ℤ pos 0 ↔ y <ℤ pos 0)
signs_with_opposite f g x y n some_f some_g ex ey = grind (arith, ints)

module _ (ring : List Point) (v u w n : Point) where
  -- the turn from u over v to n has the side of that from v over w to n
  pub same_side_of_joined : AreJoined ring v u w → ¬ AreJoined ring v u n → ¬ AreJoined ring v w n
      → ¬ IsStraight (whole v) (whole u) (whole n) → ¬ IsStraight (whole v) (whole w) (whole n)
      → (IsLeft (whole u) (whole v) (whole n) ↔ IsLeft (whole v) (whole w) (whole n))
      × (IsRight (whole u) (whole v) (whole n) ↔ IsRight (whole v) (whole w) (whole n))
  same_side_of_joined joined not_u not_w turns_u turns_w =
      signs_with_opposite (determinant (whole v) (whole n) (whole u)) (determinant (whole v) (whole n) (whole w)) _ _
      (λ one. elim one [
        | inl h ↦ ahead_of_none true ring v n u w joined not_u not_w h.0 h.1
        | inr h ↦ ahead_of_none false ring v n u w joined not_u not_w (opposite_positive h.0) (opposite_positive h.1)
      ])
      (λ e. turns_u (straight_swap_last (whole v) (whole n) (whole u) e))
      (λ e. turns_w (straight_swap_last (whole v) (whole n) (whole w) e))
      (determinant_shift (whole u) (whole v) (whole n)) (determinant_swap_last (whole v) (whole n) (whole w))

-- of three numbers, no two of one sign, one is 0
one_is_zero : (x y z : ℤ) → ¬ OneSign x y → ¬ OneSign y z → ¬ OneSign z x → (x ≡ pos 0) ⊎ ((y ≡ pos 0) ⊎ (z ≡ pos 0))
one_is_zero x y z n m k = grind (arith, ints)

-- a point is not strictly between each two of three others
not_between_all : (v p q o : Point) → IsBetween v p q → IsBetween v q o → IsBetween v o p → ⊥
not_between_all v p q o pq qo op =
    let n = left_of v p in
    let right = turned_negative (determinant_swap_last (whole v) (whole p) (whole n)) (left_of_is_left v p pq.0) in
    let left_q = positive_of_opposite (across false v p q n pq (opposite_positive right)) in
    let right_o = across true v q o n qo left_q in
    let left_p = positive_of_opposite (across false v o p n op (opposite_positive right_o)) in
    positive_not_negative left_p right

module _ (ring : List Point) (simple : IsSimple ring) (three : 3 ≤ length ring) (v : Point) where
  -- the turn from q to o, and that from o to p, are not to one side, where q and p are joined with o
  not_one_sign : (q o p : Point) → AreJoined ring v q o → AreJoined ring v o p
      → ¬ OneSign (determinant (whole v) (whole q) (whole o)) (determinant (whole v) (whole o) (whole p))
  not_one_sign q o p qo op (inl h) =
      joined_one_side ring simple three v p q o (joined_back ring v o p op) qo
      (h.1, turned_negative (determinant_swap_last (whole v) (whole q) (whole o)) h.0)
  not_one_sign q o p qo op (inr h) =
      joined_one_side ring simple three v q p o qo (joined_back ring v o p op)
      (turned_positive (determinant_swap_last (whole v) (whole q) (whole o)) h.0, h.1)

  -- where p and q are on one line with v, o is on it too
  straight_next : (p q o : Point) → AreJoined ring v p q → AreJoined ring v q o → AreJoined ring v o p
      → IsStraight (whole v) (whole p) (whole q) → IsStraight (whole v) (whole q) (whole o)
  straight_next p q o pq qo op straight =
      let back = between_back (between_of_joined ring v p q straight pq) in
      let swap = determinant_swap_last (whole v) (whole q) (whole o) in
      elim (sign (determinant (whole v) (whole q) (whole o))) [
        | is_zero h ↦ h
        | is_positive h ↦
            let left = positive_of_opposite (across false v q p o back (opposite_positive (turned_negative swap h))) in
            absurd (not_one_sign q o p qo op (inl (h, left)))
        | is_negative h ↦
            let right = across true v q p o back (turned_positive swap h) in
            absurd (not_one_sign q o p qo op (inr (h, right)))
      ]

  -- so of three that are joined with each other no two are on one line with v
  not_straight : (p q o : Point) → AreJoined ring v p q → AreJoined ring v q o → AreJoined ring v o p
      → ¬ IsStraight (whole v) (whole p) (whole q)
  not_straight p q o pq qo op straight_pq =
      let straight_qo = straight_next p q o pq qo op straight_pq in
      let straight_op = straight_next q o p qo op pq straight_qo in
      not_between_all v p q o (between_of_joined ring v p q straight_pq pq) (between_of_joined ring v q o straight_qo qo)
      (between_of_joined ring v o p straight_op op)

  -- and there are no such three
  pub no_three_joined : (p q o : Point) → AreJoined ring v p q → AreJoined ring v q o → AreJoined ring v o p → ⊥
  no_three_joined p q o pq qo op =
      elim (one_is_zero _ _ _ (not_one_sign p q o pq qo) (not_one_sign q o p qo op) (not_one_sign o p q op pq)) [
        | inl e ↦ not_straight p q o pq qo op e
        | inr (inl e) ↦ not_straight q o p qo op pq e
        | inr (inr e) ↦ not_straight o p q op pq qo e
      ]
