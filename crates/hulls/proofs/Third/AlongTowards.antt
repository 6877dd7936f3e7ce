-- Along a way of steps, from one with a side on: there follow such of that side, and then steps away.
-- Along a way of steps from one of three free points to another, seen from the third: first come steps towards that, and then one with a
-- side.
-- Of three free points, where c is to a side of b, seen from a, b is to that side of a, seen from c.
use Rattle.std.proofs.Common.{subst, ◌≤◌, List, [], ◌∷◌, length, ◌≡◌, ◌⊎◌, inl, inr, refl, sym, ◌∙◌, ◌-◌, arith}
use Rattle.std.proofs.lemmas.Bool.{cases_lt}
use Rattle.plane.specs.Prelude.{IsLeft, IsRight, Point, Triple, whole}
use Rattle.rings.specs.Prelude.{IsIn, IsPath, IsSimple, point_at}
use Rattle.hulls.proofs.Cones.{joined_back}
use Rattle.hulls.proofs.Joined.{path_is_taut}
use Rattle.hulls.proofs.StepsSeen.{steps}
use Rattle.hulls.proofs.Third.Cuts.{on_path_back}
use Rattle.hulls.proofs.Third.Ways.{Reaches, joined_first, reach_next, reach_over, sight_step, step_back, step_beyond, IsStepPast, IsStrict}
use Rattle.hulls.proofs.Third.Ways.{IsWay, Sorts, away_goes_on, first_other, goes_away, goes_towards, joined_ahead, last_other, not_towards}
use Rattle.hulls.proofs.Third.Ways.{on_other, on_side, parts_here, side_goes_on, towards_before, way_begins, on_path_ahead, reach_end}
use Rattle.hulls.proofs.Third.Ways.{sorts_left, sorts_right, towards_then_away, way_reaches}
use Rattle.hulls.proofs.Third.TurnsOver.{AreSides, left_and_right, right_and_left, sides_back, turns_over}
use Rattle.hulls.proofs.Third.SplitSteps.{way_of_path}
use Rattle.hulls.proofs.Turning.{exchanged, exchanged_back, not_both}
use Rattle.hulls.specs.Joined.{AreJoined, IsFirstStep, IsOnPath}
use Rattle.hulls.specs.Steps.{SeesSteps}
use Rattle.hulls.specs.Turning.{IsTo, AreFree, IsToLeft, IsToRight}

module _ (ring : List Point) (some : 3 ≤ length ring) (simple : IsSimple ring) (a b c : Point) where
  module _ (x y z : Point) (first : IsStepPast ring b x y) (second : IsStepPast ring b y z) (joined : AreJoined ring y x z)
      (reach : Reaches ring y x a) where
    -- the path back from the next point goes over y too
    pub reach_back : Reaches ring z y a
    reach_back =
        reach_over ring some simple z y (step_back ring y z second.clear) x a first.clear.differ (joined_back ring y x z joined) reach

    module _ (n : Point) (step : IsFirstStep ring y b n) (on : IsOnPath ring b z y) where
      -- where the next step goes away, the path to b from its end goes over y,
      joined_b : (p : Point) → IsFirstStep ring y b p → AreJoined ring y z p
      joined_b p step_too =
          joined_back ring y p z
          (joined_first ring some simple z y (step_back ring y z second.clear) b (first_other ring b y z second) on
          (sight_step ring some simple y z second.clear) p step_too)

      reach_b : Reaches ring z y b
      reach_b = reach_next ring some simple z y (step_back ring y z second.clear) b n step (joined_b n step)

      -- and turns to the same side there as from y
      turns_next : (Side Other : Triple → Triple → Triple → Type 0) → AreSides Side Other → IsTo Side Other ring y a b → IsTo Side Other ring z a b
      turns_next Side Other sides to =
          turns_over Side Other sides ring some simple z y a b (step_back ring y z second.clear)
          (joined_ahead ring some simple b a y x (step_back ring x y first.clear) reach n step z (joined_back ring y x z joined)) joined_b to

  -- along steps away the side at their begin is that at their end
  turns_away : (Side Other : Triple → Triple → Triple → Type 0) → AreSides Side Other → (x y z : Point) (rest : List Point)
      → IsStepPast ring b x y → AreJoined ring y x z → IsWay ring b c y z rest → Reaches ring y x a → (n : Point) → IsFirstStep ring y b n
      → IsOnPath ring b z y → IsTo Side Other ring y a b → IsTo Side Other ring c a b
  turns_away Side Other sides x y z [] first joined way reach n step on to =
      subst (λ w. IsTo Side Other ring w a b) way.1 (turns_next x y z first way.0 joined reach n step on Side Other sides to)
  turns_away Side Other sides x y z (w ∷ rest) first joined way reach n step on to =
      let next = reach_b x y z first way.0 joined reach n step on in
      let third = way_begins ring b c z w rest way.2 in
      turns_away Side Other sides y z w rest way.0 way.1 way.2 (reach_back x y z first way.0 joined reach) next.p next.step
      (away_goes_on ring some simple b y z w next.p way.0.clear third.clear way.1 (first_other ring b y z way.0) next.step on)
      (turns_next x y z first way.0 joined reach n step on Side Other sides to)

  module _ (sees : SeesSteps ring b) (Side Other : Triple → Triple → Triple → Type 0) (sides : AreSides Side Other)
      (sorts : Sorts Side Other ring b) where
    -- seen from the end of a step with a side, b is to the other side of a,
    turns_back : (x y : Point) → IsStepPast ring b x y → Reaches ring y x a → IsStrict Side ring b x y → IsTo Other Side ring y a b
    turns_back x y first reach strict =
        parts_here ring some simple b a y x (step_back ring x y first.clear) reach strict.q strict.last Other Side (sides_back Side Other sides)
        (sides.swap (whole y) (whole strict.q) (whole x) (sides.side.shift (whole x) (whole y) (whole strict.q) strict.side_last))

    -- and so from the end of the way
    pub turns_at_end : (x y : Point) (rest : List Point) → IsWay ring b c x y rest → Reaches ring y x a → IsStrict Side ring b x y
        → IsTo Other Side ring c a b
    turns_at_end x y [] way reach strict = subst (λ w. IsTo Other Side ring w a b) way.1 (turns_back x y way.0 reach strict)
    turns_at_end x y (z ∷ rest) way reach strict =
        let first = way.0 in
        let second = way_begins ring b c y z rest way.2 in
        let x_other = first_other ring b x y first in
        let y_other = last_other ring b x y first in
        let z_other = last_other ring b y z second in
        elim (sorts y z (sees y z second.clear second.off)) [
          | goes_away on ↦
              turns_away Other Side (sides_back Side Other sides) x y z rest first way.1 way.2 reach strict.q strict.last on
              (turns_back x y first reach strict)
          | goes_towards on ↦ absurd (not_towards ring some simple b x y first.clear x_other y_other Side sides.side strict
              (towards_before ring some simple b x y z strict.q first.clear second.clear way.1 x_other y_other z_other strict.last on))
          | on_side next ↦ turns_at_end y z rest way.2 (reach_back x y z first second way.1 reach) next
          | on_other next ↦ absurd (sides.not_both (whole y) (whole z) (whole next.p)
              (side_goes_on ring some simple b x y z next.p first.clear second.clear way.1 x_other y_other z_other next.first Side Other
              sides.side sides.other strict next) next.side_first)
        ]

-- seen from a, b is to one side of c, and seen from c it is to the other side of a
abbrev pub AreFacing : List Point → Point → Point → Point → Type 0
AreFacing ring a b c = (IsToLeft ring a c b × IsToRight ring c a b) ⊎ (IsToRight ring a c b × IsToLeft ring c a b)

-- seen from a, b is to the side of c on which it is seen from x
record Carries (ring : List Point) (a b c x : Point) : Type 0 where
  left : IsToLeft ring x c b → IsToLeft ring a c b
  right : IsToRight ring x c b → IsToRight ring a c b

module _ (ring : List Point) (some : 3 ≤ length ring) (simple : IsSimple ring) (a b c : Point) (sees : SeesSteps ring b)
    (not_c : ¬ IsOnPath ring a b c) where
  -- where the way comes to a step with a side, it is that side at both its ends,
  side_found : (Side Other : Triple → Triple → Triple → Type 0) → AreSides Side Other → Sorts Side Other ring b → (x y : Point) (rest : List Point)
      → IsWay ring b c x y rest → Reaches ring y x a → (strict : IsStrict Side ring b x y) → IsTo Side Other ring x c b × IsTo Other Side ring c a b
  side_found Side Other sides sorts x y rest way reach strict =
      let first = way_begins ring b c x y rest way in (
        parts_here ring some simple b c x y first.clear (way_reaches ring some simple b c x y rest way) strict.p strict.first Side Other sides
            strict.side_first,
        turns_at_end ring some simple a b c sees Side Other sides sorts x y rest way reach strict,
      )

  -- the last step doesn't go towards b,
  last_not_towards : (x y : Point) → IsStepPast ring b x y → Reaches ring y x a → y ≡ c → ¬ IsOnPath ring b x y
  last_not_towards x y step reach end on =
      let other = last_other ring b x y step in
      let beyond = step_beyond ring some simple x y step.clear b other on in
      not_c (subst (IsOnPath ring a b) end (on_path_back ring some simple b a y
      (on_path_ahead ring some simple b a y x (step_back ring x y step.clear) reach beyond.0 beyond.1 other on)))

  module _ (x y z : Point) (rest : List Point) (first : IsStepPast ring b x y) (joined : AreJoined ring y x z) (way : IsWay ring b c y z rest)
      (on : IsOnPath ring b x y) (n : Point) (step : IsFirstStep ring y b n) where
    -- and along a step towards it the side from its end is that from its begin
    carries_on : (Side Other : Triple → Triple → Triple → Type 0) → AreSides Side Other → IsTo Side Other ring y c b → IsTo Side Other ring x c b
    carries_on Side Other sides to =
        let second = way_begins ring b c y z rest way in
        turns_over Side Other sides ring some simple x y c b first.clear
        (joined_ahead ring some simple b c y z second.clear (way_reaches ring some simple b c y z rest way) n step x joined)
        (λ p step_too. joined_back ring y p x (joined_first ring some simple x y first.clear b (last_other ring b x y first) on
        (sight_step ring some simple y x (step_back ring x y first.clear)) p step_too)) to

  -- so where the first step doesn't go away, the two sides are one
  faces_on : (x y : Point) (rest : List Point) → IsWay ring b c x y rest → Reaches ring y x a → ¬ IsOnPath ring b y x → Carries ring a b c x
      → AreFacing ring a b c
  faces_on x y [] way reach not_away carries = elim (sorts_left ring some simple b x y (sees x y way.0.clear way.0.off)) [
    | goes_away on ↦ absurd (not_away on)
    | goes_towards on ↦ absurd (last_not_towards x y way.0 reach way.1 on)
    | on_side strict ↦
        let both = side_found IsLeft IsRight left_and_right (sorts_left ring some simple b) x y [] way reach strict in
        inl (carries.left both.0, both.1)
    | on_other strict ↦
        let both = side_found IsRight IsLeft right_and_left (sorts_right ring some simple b) x y [] way reach strict in
        inr (carries.right both.0, both.1)
  ]
  faces_on x y (z ∷ rest) way reach not_away carries = elim (sorts_left ring some simple b x y (sees x y way.0.clear way.0.off)) [
    | goes_away on ↦ absurd (not_away on)
    | goes_towards on ↦
        let second = way_begins ring b c y z rest way.2 in
        let other = last_other ring b x y way.0 in
        let beyond = step_beyond ring some simple x y way.0.clear b other on in
        let n = beyond.0 in
        let step = beyond.1 in
        let on_left = carries_on x y z rest way.0 way.1 way.2 on n step IsLeft IsRight left_and_right in
        let on_right = carries_on x y z rest way.0 way.1 way.2 on n step IsRight IsLeft right_and_left in
        faces_on y z rest way.2 (reach_back ring some simple a b c x y z way.0 second way.1 reach)
        (towards_then_away ring some simple b x y z n way.0.clear second.clear way.1 (first_other ring b x y way.0) other
        (last_other ring b y z second) step on)
        (record { left = λ to. carries.left (on_left to); right = λ to. carries.right (on_right to) })
    | on_side strict ↦
        let both = side_found IsLeft IsRight left_and_right (sorts_left ring some simple b) x y (z ∷ rest) way reach strict in
        inl (carries.left both.0, both.1)
    | on_other strict ↦
        let both = side_found IsRight IsLeft right_and_left (sorts_right ring some simple b) x y (z ∷ rest) way reach strict in
        inr (carries.right both.0, both.1)
  ]

-- where a way goes from one of three free points to another, the third is seen from the two on one side of the way
pub faces : (ring : List Point) → 3 ≤ length ring → IsSimple ring → (a b c : Point) → SeesSteps ring b → AreFree ring a b c → (n : Point)
    → IsFirstStep ring a b n → (y : Point) (rest : List Point) → IsWay ring b c a y rest → AreFacing ring a b c
faces ring some simple a b c sees free n step y rest way =
    let first = way_begins ring b c a y rest way in
    let reach = way_reaches ring some simple b c a y rest way in
    faces_on ring some simple a b c sees free.not_c a y rest way (reach_end ring some simple y a (step_back ring a y first.clear))
    (λ on. free.not_a (on_path_ahead ring some simple b c a y first.clear reach n step (first_other ring b a y first) on))
    (record { left = λ to. to; right = λ to. to })

module _ (ring : List Point) (some : 3 ≤ length ring) (simple : IsSimple ring) (a b c : Point) (free : AreFree ring a b c)
    (ab ac : List Point) (to_b : IsPath ring a b ab) (to_c : IsPath ring a c ac) where
  -- the path between different points has a step
  first_of_path : IsFirstStep ring a b (point_at ab 1)
  first_of_path =
      let taut = path_is_taut ring a b ab to_b in
      record {
        path = ab;
        is_path = to_b;
        more = elim (cases_lt 1 (length ab)) [
          | inl more ↦ more
          | inr none ↦
              let alone : 0 ≡ length ab - 1 = omega arith in
              absurd (free.a_b (sym taut.first ∙ (λ i. point_at ab (alone i)) ∙ taut.last))
        ];
        is_next = refl;
      }

  -- each step past no vertex is seen from b, which is in the ring,
  sees : SeesSteps ring b
  sees =
      let taut = path_is_taut ring a b ab to_b in
      let some_points = taut.bent.chain.some in
      steps ring some simple b
      (subst (λ (p : Point). IsIn ring (whole p)) taut.last (taut.bent.chain.inside (length ab - 1) (omega arith)))

  -- so b is seen from a and from c on one side of the path between them
  facing : AreFacing ring a b c
  facing =
      let found = way_of_path ring b c a ac to_c free.a_c free.not_b in
      faces ring some simple a b c sees free (point_at ab 1) first_of_path found.0 found.1 found.2

  -- so where c is to the left of b, seen from a, b is to the left of a, seen from c,
  pub from_third : IsToLeft ring a b c → IsToLeft ring c a b
  from_third left = elim facing [
    | inl both ↦ absurd (not_both ring a c b both.0 (exchanged ring a b c left))
    | inr both ↦ both.1
  ]

  -- and to the right where it is to the right
  pub from_third_right : IsToRight ring a b c → IsToRight ring c a b
  from_third_right right = elim facing [
    | inl both ↦ both.1
    | inr both ↦ absurd (not_both ring a c b (exchanged_back ring a b c right) both.0)
  ]
