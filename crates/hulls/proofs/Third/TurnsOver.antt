-- The two sides of a line, in one form.
-- Paths from one point that part to a side, with one point before it: they still do.
use Rattle.std.proofs.Common.{◌↔◌, true, sym, subst, pos, ◌<ℤ◌, ◌≢◌, ◌⊎◌, inl, inr, refl, ◌≤◌, List, [], ◌∷◌, ◌++◌, length, arith}
use Rattle.integer_algebra.proofs.SignSteps.{negative_not_zero, positive_not_negative, positive_not_zero, turned_negative, turned_positive}
use Rattle.plane.proofs.Points.{same_whole, whole_is_point}
use Rattle.plane.proofs.Segments.{on_reversed, on_is_straight, on_last_end, on_nested, on_one_ray}
use Rattle.plane.proofs.Turns.{determinant_shift, determinant_swap_last, straight_swap_last}
use Rattle.plane.specs.Prelude.{IsLeft, IsRight, IsStraight, On, Point, Triple, whole}
use Rattle.rings.specs.Prelude.{IsPath, IsSimple}
use Rattle.funnels.proofs.Bends.{AreOnRay, on_ray_back, turning_from_ray, turning_to_ray}
use Rattle.hulls.proofs.Cones.{IsBetween}
use Rattle.hulls.proofs.Joined.{path_is_taut}
use Rattle.hulls.proofs.Third.Cuts.{step_of_list, IsProlonged, bent, past_first, prolonged, straight, with_bend}
use Rattle.hulls.proofs.Third.Rays.{ray_of_on, line_of_between}
use Rattle.hulls.proofs.Turning.{part_to}
use Rattle.hulls.specs.Joined.{AreJoined, IsFirstStep}
use Rattle.hulls.specs.Steps.{IsOpenStep}
use Rattle.hulls.specs.Turning.{IsTo, TurnsTo, apart, first_nearer, second_nearer}

-- three points turn as three others do
abbrev pub TurnAlike : Triple → Triple → Triple → Triple → Triple → Triple → Type 0
TurnAlike a b c d e f = (IsLeft a b c ↔ IsLeft d e f) × (IsRight a b c ↔ IsRight d e f)

-- a side: a point of it isn't on the line, the three points may be shifted, and farther points on a ray are as good
pub record IsSide (Side : Triple → Triple → Triple → Type 0) : Type 0 where
  pub off : (a b c : Triple) → Side a b c → ¬ IsStraight a b c
  pub shift : (a b c : Triple) → Side a b c → Side b c a
  pub from_ray : (v : Point) (x n z : Triple) → AreOnRay (whole v) x n → Side (whole v) x z → Side (whole v) n z
  pub to_ray : (v : Point) (x n z : Triple) → AreOnRay (whole v) x n → Side (whole v) z x → Side (whole v) z n
  pub agree : (a b c d e f : Triple) → TurnAlike a b c d e f → Side a b c → Side d e f

-- a side and the other one
pub record AreSides (Side Other : Triple → Triple → Triple → Type 0) : Type 0 where
  pub side : IsSide Side
  pub other : IsSide Other
  pub swap : (a b c : Triple) → Side a b c → Other a c b
  pub swap_back : (a b c : Triple) → Other a b c → Side a c b
  pub not_both : (a b c : Triple) → Side a b c → ¬ Other a b c

left_is_side : IsSide IsLeft
left_is_side = record {
  off = λ a b c h. positive_not_zero h;
  shift = λ a b c h. subst (λ z. pos 0 <ℤ z) (sym (determinant_shift a b c)) h;
  from_ray = λ v x n z ray h. (turning_from_ray v true x n z ray).positive h;
  to_ray = λ v x n z ray h. (turning_to_ray v true x n z ray).positive h;
  agree = λ a b c d e f alike h. alike.0.0 h;
}

right_is_side : IsSide IsRight
right_is_side = record {
  off = λ a b c h. negative_not_zero h;
  shift = λ a b c h. subst (λ z. z <ℤ pos 0) (sym (determinant_shift a b c)) h;
  from_ray = λ v x n z ray h. (turning_from_ray v true x n z ray).negative h;
  to_ray = λ v x n z ray h. (turning_to_ray v true x n z ray).negative h;
  agree = λ a b c d e f alike h. alike.1.0 h;
}

-- left and right are the sides of a line,
pub left_and_right : AreSides IsLeft IsRight
left_and_right = record {
  side = left_is_side;
  other = right_is_side;
  swap = λ a b c h. turned_negative (determinant_swap_last a b c) h;
  swap_back = λ a b c h. turned_positive (determinant_swap_last a b c) h;
  not_both = λ a b c h k. positive_not_negative h k;
}

-- two sides may change places,
pub sides_back : (Side Other : Triple → Triple → Triple → Type 0) → AreSides Side Other → AreSides Other Side
sides_back Side Other sides = record {
  side = sides.other;
  other = sides.side;
  swap = sides.swap_back;
  swap_back = sides.swap;
  not_both = λ a b c h k. sides.not_both a b c k h;
}

-- so right and left are too
pub right_and_left : AreSides IsRight IsLeft
right_and_left = sides_back IsLeft IsRight left_and_right

module _ (Side : Triple → Triple → Triple → Type 0) (is : IsSide Side) (x y p q : Point) (between : IsBetween y x p) where
  -- what is on a side of the way on from y is on that side of the way from x over y,
  pub side_further : Side (whole y) (whole p) (whole q) → Side (whole x) (whole p) (whole q)
  side_further h =
      let ray = ray_of_on p y x (on_reversed (whole y) (whole x) (whole p) between.2) between.1 in
      is.shift (whole q) (whole x) (whole p)
      (is.shift (whole p) (whole q) (whole x) (is.to_ray p (whole y) (whole x) (whole q) ray (is.shift (whole y) (whole p) (whole q) h)))

  -- also at its begin
  pub side_before : Side (whole y) (whole p) (whole q) → Side (whole x) (whole y) (whole q)
  side_before h = is.from_ray x (whole p) (whole y) (whole q) (on_ray_back (ray_of_on x y p between.2 between.0)) (side_further h)

-- where y is between x and one of two points of a ray from y, the other is in line with them
line_along : (x y p q : Point) → IsBetween y x q → On (whole p) (whole y) (whole q) ⊎ On (whole q) (whole y) (whole p) → y ≢ p
    → IsStraight (whole y) (whole x) (whole p)
line_along x y p q between (inl on) differ =
    (turning_to_ray y true (whole q) (whole p) (whole x) (on_ray_back (ray_of_on y p q on (λ e. differ (sym e))))).zero
    (line_of_between y x q between)
line_along x y p q between (inr on) differ =
    (turning_to_ray y true (whole q) (whole p) (whole x) (ray_of_on y q p on (λ e. between.1 (sym e)))).zero (line_of_between y x q between)

-- where it is between x and both, the two are in line with it
line_of_both : (x y p q : Point) → IsBetween y x p → IsBetween y x q → IsStraight (whole y) (whole p) (whole q)
line_of_both x y p q first last =
    elim (on_one_ray (whole y) (whole x) (whole p) (whole q) (whole_is_point y) (whole_is_point x) (whole_is_point p) (whole_is_point q) first.2
    last.2 (λ s. first.0 (same_whole y x s)) (λ s. first.1 (same_whole y p s)) (λ s. last.1 (same_whole y q s))) [
      | inl on ↦ straight_swap_last (whole y) (whole q) (whole p)
          (on_is_straight (whole p) (whole y) (whole q) (whole_is_point p) (whole_is_point y) (whole_is_point q) on)
      | inr on ↦ on_is_straight (whole q) (whole y) (whole p) (whole_is_point q) (whole_is_point y) (whole_is_point p) on
    ]

-- a point between y and q is between x and q, where y is
nested : (x y p q : Point) → IsBetween y x q → On (whole p) (whole y) (whole q) → On (whole p) (whole x) (whole q)
nested x y p q between on =
    on_nested (whole p) (whole y) (whole q) (whole x) (whole q) (whole_is_point p) (whole_is_point y) (whole_is_point q) (whole_is_point x)
    (whole_is_point q) between.2 (on_last_end (whole x) (whole q)) on

module _ (Side Other : Triple → Triple → Triple → Type 0) (sides : AreSides Side Other) (ring : List Point) (some : 3 ≤ length ring)
    (simple : IsSimple ring) (x y c b : Point) (clear : IsOpenStep ring x y) where
  module _ (p q : Point) (first second : List Point) (y_p : y ≢ p) (y_q : y ≢ q) (differ : p ≢ q) where
    -- paths that part at y, of which the one has a bend there, part at x,
    bent_first : IsPath ring x c (x ∷ y ∷ p ∷ first) → IsPath ring x b (x ∷ q ∷ second) → ¬ IsStraight (whole y) (whole x) (whole p)
        → IsBetween y x q → TurnsTo Side Other y p first q second → IsTo Side Other ring x c b
    bent_first is is_too turns between (apart h) =
        part_to ring x c b x y q Side Other [] (p ∷ first) second is is_too y_q
        (first_nearer p first between.2 refl (side_before Other sides.other x y q p between (sides.swap (whole y) (whole p) (whole q) h)))
    bent_first is is_too turns between (first_nearer r rest on e h) = absurd (turns (line_along x y p q between (inl on) y_p))
    bent_first is is_too turns between (second_nearer r rest on e h) = absurd (turns (line_along x y p q between (inr on) y_p))

    -- also where it is the other,
    bent_second : IsPath ring x c (x ∷ p ∷ first) → IsPath ring x b (x ∷ y ∷ q ∷ second) → IsBetween y x p
        → ¬ IsStraight (whole y) (whole x) (whole q) → TurnsTo Side Other y p first q second → IsTo Side Other ring x c b
    bent_second is is_too between turns (apart h) =
        part_to ring x c b x p y Side Other [] first (q ∷ second) is is_too (λ e. y_p (sym e))
        (second_nearer q second between.2 refl (side_before Side sides.side x y p q between h))
    bent_second is is_too between turns (first_nearer r rest on e h) = absurd (turns (line_along x y q p between (inr on) y_q))
    bent_second is is_too between turns (second_nearer r rest on e h) = absurd (turns (line_along x y q p between (inl on) y_q))

    -- or none
    none_bent : IsPath ring x c (x ∷ p ∷ first) → IsPath ring x b (x ∷ q ∷ second) → IsBetween y x p → IsBetween y x q
        → TurnsTo Side Other y p first q second → IsTo Side Other ring x c b
    none_bent is is_too to_p to_q (apart h) = absurd (sides.side.off (whole y) (whole p) (whole q) h (line_of_both x y p q to_p to_q))
    none_bent is is_too to_p to_q (first_nearer r rest on e h) =
        part_to ring x c b x p q Side Other [] first second is is_too differ
        (first_nearer r rest (nested x y p q to_q on) e (side_further Other sides.other x y p r to_p h))
    none_bent is is_too to_p to_q (second_nearer r rest on e h) =
        part_to ring x c b x p q Side Other [] first second is is_too differ
        (second_nearer r rest (nested x y q p to_p on) e (side_further Side sides.side x y q r to_q h))

    -- so they do in any case
    parted_here : IsProlonged ring x y c p first → IsProlonged ring x y b q second → TurnsTo Side Other y p first q second
        → IsTo Side Other ring x c b
    parted_here (bent bend is) (bent bend_too is_too) turns = part_to ring x c b y p q Side Other (x ∷ []) first second is is_too differ turns
    parted_here (bent bend is) (straight between is_too) turns = bent_first is is_too bend.turns between turns
    parted_here (straight between is) (bent bend is_too) turns = bent_second is is_too between bend.turns turns
    parted_here (straight between is) (straight between_too is_too) turns = none_bent is is_too between between_too turns

  module _ (joined_c : (p : Point) → IsFirstStep ring y c p → AreJoined ring y x p)
      (joined_b : (p : Point) → IsFirstStep ring y b p → AreJoined ring y x p) where
    -- paths with a common step from y are both prolonged alike
    common : (u h : Point) (one other : List Point) → IsPath ring y c (u ∷ h ∷ one) → IsPath ring y b (u ∷ h ∷ other)
        → (IsPath ring x c (x ∷ y ∷ h ∷ one) × IsPath ring x b (x ∷ y ∷ h ∷ other))
        ⊎ (IsPath ring x c (x ∷ h ∷ one) × IsPath ring x b (x ∷ h ∷ other))
    common u h one other is is_too =
        let begins = (path_is_taut ring y c (u ∷ h ∷ one) is).first in
        let here = subst (λ z. IsPath ring y c (z ∷ h ∷ one)) begins is in
        let here_too = subst (λ z. IsPath ring y b (z ∷ h ∷ other)) begins is_too in
        elim (joined_c h (step_of_list ring y c h one here)) [
          | inl between ↦ inr (
            past_first ring some simple x y c h one clear here between,
            past_first ring some simple x y b h other clear here_too between,
          )
          | inr bend ↦ inl (with_bend ring some simple x y c h one clear here bend, with_bend ring some simple x y b h other clear here_too bend)
        ]

    -- and paths that part somewhere do so with x before them
    over_front : (front : List Point) (v p q : Point) (first second : List Point) → IsPath ring y c (front ++ v ∷ p ∷ first)
        → IsPath ring y b (front ++ v ∷ q ∷ second) → p ≢ q → TurnsTo Side Other v p first q second → IsTo Side Other ring x c b
    over_front [] v p q first second is is_too differ turns =
        let taut = path_is_taut ring y c (v ∷ p ∷ first) is in
        let begins = taut.first in
        let here = subst (λ z. IsPath ring y c (z ∷ p ∷ first)) begins is in
        let here_too = subst (λ z. IsPath ring y b (z ∷ q ∷ second)) begins is_too in
        parted_here p q first second ((path_is_taut ring y c (y ∷ p ∷ first) here).bent.chain.distinct 0 (omega arith))
        ((path_is_taut ring y b (y ∷ q ∷ second) here_too).bent.chain.distinct 0 (omega arith)) differ
        (prolonged ring some simple x y c p first clear here (joined_c p (step_of_list ring y c p first here)))
        (prolonged ring some simple x y b q second clear here_too (joined_b q (step_of_list ring y b q second here_too)))
        (subst (λ z. TurnsTo Side Other z p first q second) begins turns)
    over_front (u ∷ []) v p q first second is is_too differ turns = elim (common u v (p ∷ first) (q ∷ second) is is_too) [
      | inl both ↦ part_to ring x c b v p q Side Other (x ∷ y ∷ []) first second both.0 both.1 differ turns
      | inr both ↦ part_to ring x c b v p q Side Other (x ∷ []) first second both.0 both.1 differ turns
    ]
    over_front (u ∷ w ∷ front) v p q first second is is_too differ turns =
        elim (common u w (front ++ v ∷ p ∷ first) (front ++ v ∷ q ∷ second) is is_too) [
          | inl both ↦ part_to ring x c b v p q Side Other (x ∷ y ∷ w ∷ front) first second both.0 both.1 differ turns
          | inr both ↦ part_to ring x c b v p q Side Other (x ∷ w ∷ front) first second both.0 both.1 differ turns
        ]

    pub turns_over : IsTo Side Other ring y c b → IsTo Side Other ring x c b
    turns_over to = over_front to.front to.v to.p to.q to.first to.second to.is_first to.is_second to.differ to.turns
