-- A step, one of whose ends is on the path from a point to the other: where the paths from both ends to that point go first.
-- Two steps that follow each other, as they are seen from a point.
-- Ways of steps past no vertex, with a point on none of them, and the paths along them.
use Rattle.std.proofs.Common.{◌≢◌, refl, sym, subst, ◌≤◌, List, [], ◌∷◌, length, arith, ◌≡◌}
use Rattle.plane.proofs.Points.{whole_is_point}
use Rattle.plane.proofs.Segments.{on_last_end, on_is_straight, on_first_end}
use Rattle.plane.proofs.Turns.{straight_swap_first, straight_swap_last}
use Rattle.plane.specs.Prelude.{IsLeft, IsRight, IsStraight, On, Point, Triple, whole}
use Rattle.rings.specs.From.{IsPredecessor}
use Rattle.rings.specs.Simple.{IsSimple}
use Rattle.funnels.proofs.Chains.{one_bent}
use Rattle.funnels.proofs.OneChain.{bent_is_path}
use Rattle.hulls.proofs.Cones.{joined_back, no_three_joined, same_side_of_joined}
use Rattle.hulls.proofs.Joined.{GoesOnTo, joined_of_on_path, sees_back, on_path_of_joined}
use Rattle.hulls.proofs.StepsSeen.{none_between_back}
use Rattle.hulls.proofs.Third.Cuts.{cut, list_of_step, on_path_back, same_step, step_of_list, IsProlonged, bent, prolonged, straight}
use Rattle.hulls.proofs.Third.Cuts.{with_point, with_point_ends, step_of_before}
use Rattle.hulls.proofs.Third.Rays.{joined_on_ray, ray_of_on}
use Rattle.hulls.proofs.Third.TurnsOver.{AreSides, IsSide}
use Rattle.hulls.proofs.Turning.{part_to}
use Rattle.hulls.specs.Joined.{AreJoined, IsFirstStep, IsOnPath}
use Rattle.hulls.specs.Steps.{IsOpenStep, IsSeenFrom, away, from_left, from_right, towards}
use Rattle.hulls.specs.Turning.{IsTo, apart}

-- the path from x to a goes first along the ray over y
pub record Reaches (ring : List Point) (x y a : Point) : Type 0 where
  pub p : Point
  pub step : IsFirstStep ring x a p
  pub on : On (whole y) (whole x) (whole p)

-- a step may be read backward
pub step_back : (ring : List Point) (x y : Point) → IsOpenStep ring x y → IsOpenStep ring y x
step_back ring x y step = record {
  x_in = step.y_in;
  y_in = step.x_in;
  differ = λ e. step.differ (sym e);
  sees = sees_back ring x y step.sees;
  clear = none_between_back ring x y step.clear;
}

-- a prolonged path goes first along the ray over the point that it was prolonged at
reach_of_prolonged : (ring : List Point) (x y a p : Point) (rest : List Point) → IsProlonged ring x y a p rest → Reaches ring x y a
reach_of_prolonged ring x y a p rest (bent bend is) =
    record { p = y; step = step_of_list ring x a y (p ∷ rest) is; on = on_last_end (whole x) (whole y) }
reach_of_prolonged ring x y a p rest (straight between is) = record { p = p; step = step_of_list ring x a p rest is; on = between.2 }

module _ (ring : List Point) (some : 3 ≤ length ring) (simple : IsSimple ring) (x y : Point) (clear : IsOpenStep ring x y) where
  -- the path from the one end goes straight to the other
  pub sight_step : IsFirstStep ring x y y
  sight_step =
      let alone = one_bent ring y clear.y_in in
      let on_to : GoesOnTo ring x (y ∷ []) = record { differ = clear.differ; sees = clear.sees; bend = λ more. absurd (omega (arith, more)) } in
      step_of_list ring x y y []
      (bent_is_path ring some simple (x ∷ y ∷ []) (with_point ring x (y ∷ []) alone clear.x_in on_to) x y refl
      (with_point_ends ring x (y ∷ []) alone clear.x_in on_to))

  -- where x is joined with the first step from y, its path goes over y
  pub reach_next : (a p : Point) → IsFirstStep ring y a p → AreJoined ring y x p → Reaches ring x y a
  reach_next a p step joined =
      let list = list_of_step ring y a p step in
      reach_of_prolonged ring x y a p list.0 (prolonged ring some simple x y a p list.0 clear list.1 joined)

  -- also where it is joined with a point before that
  pub reach_over : (z a : Point) → z ≢ y → AreJoined ring y x z → Reaches ring y z a → Reaches ring x y a
  reach_over z a differ joined reach =
      reach_next a reach.p reach.step
      (joined_back ring y reach.p x (joined_on_ray ring y z reach.p x reach.on differ (joined_back ring y x z joined)))

  module _ (b : Point) (other : y ≢ b) (on : IsOnPath ring b x y) where
    -- where y is on the path to x, the path from y is prolonged by x,
    pub joined_first : (sight_back : IsFirstStep ring y x x) (n : Point) → IsFirstStep ring y b n → AreJoined ring y n x
    joined_first sight_back n step = joined_of_on_path ring some simple y b x n x step sight_back on

    -- there is such a path,
    pub step_beyond : (n : Point) × IsFirstStep ring y b n
    step_beyond = cut ring some simple x b y (on_path_back ring some simple b x y on) other

    -- and that from x goes first along the ray over y
    pub ray_first : (sight_back : IsFirstStep ring y x x) (n : Point) → IsFirstStep ring x b n → On (whole y) (whole x) (whole n)
    ray_first sight_back n step =
        let beyond = step_beyond in
        let reach = reach_next b beyond.0 beyond.1 (joined_back ring y beyond.0 x (joined_first sight_back beyond.0 beyond.1)) in
        subst (λ z. On (whole y) (whole x) (whole z)) (same_step ring x b reach.p n reach.step step) reach.on

-- the paths to b from both ends of the step go first to one side of it
pub record IsStrict (Side : Triple → Triple → Triple → Type 0) (ring : List Point) (b x y : Point) : Type 0 where
  pub p : Point
  pub q : Point
  pub first : IsFirstStep ring x b p
  pub last : IsFirstStep ring y b q
  pub side_first : Side (whole x) (whole y) (whole p)
  pub side_last : Side (whole x) (whole y) (whole q)

-- how a step is seen, by one side and the other
pub data IsSorted (Side Other : Triple → Triple → Triple → Type 0) (ring : List Point) (b x y : Point) : Type 0 where
  goes_away : IsOnPath ring b y x → IsSorted Side Other ring b x y
  goes_towards : IsOnPath ring b x y → IsSorted Side Other ring b x y
  on_side : IsStrict Side ring b x y → IsSorted Side Other ring b x y
  on_other : IsStrict Other ring b x y → IsSorted Side Other ring b x y

-- the ways in which steps are seen, sorted by side
abbrev pub Sorts : (Side Other : Triple → Triple → Triple → Type 0) → List Point → Point → Type 0
Sorts Side Other ring b = (x y : Point) → IsSeenFrom ring b x y → IsSorted Side Other ring b x y

-- three points where one is on the way between the two others are on one line
pub line_of_on : (x y n : Point) → On (whole y) (whole x) (whole n) → IsStraight (whole x) (whole y) (whole n)
line_of_on x y n on =
    straight_swap_last (whole x) (whole n) (whole y)
    (on_is_straight (whole y) (whole x) (whole n) (whole_is_point y) (whole_is_point x) (whole_is_point n) on)

module _ (ring : List Point) (some : 3 ≤ length ring) (simple : IsSimple ring) (b : Point) where
  -- by what comes before both ends
  strict_of : (Side : Triple → Triple → Triple → Type 0) (x y p q : Point) → IsPredecessor ring b x p → IsPredecessor ring b y q
      → Side (whole x) (whole y) (whole p) → Side (whole x) (whole y) (whole q) → IsStrict Side ring b x y
  strict_of Side x y p q first last side_first side_last = record {
    p = p;
    q = q;
    first = step_of_before ring some simple b x p first;
    last = step_of_before ring some simple b y q last;
    side_first = side_first;
    side_last = side_last;
  }

  -- left and right,
  pub sorts_left : Sorts IsLeft IsRight ring b
  sorts_left x y (away on) = goes_away on
  sorts_left x y (towards on) = goes_towards on
  sorts_left x y (from_left p q first last side_p side_q) = on_side (strict_of IsLeft x y p q first last side_p side_q)
  sorts_left x y (from_right p q first last side_p side_q) = on_other (strict_of IsRight x y p q first last side_p side_q)

  -- or right and left
  pub sorts_right : Sorts IsRight IsLeft ring b
  sorts_right x y seen = elim (sorts_left x y seen) [
    | goes_away on ↦ goes_away on
    | goes_towards on ↦ goes_towards on
    | on_side strict ↦ on_other strict
    | on_other strict ↦ on_side strict
  ]

  module _ (x y : Point) (clear : IsOpenStep ring x y) (x_other : x ≢ b) (y_other : y ≢ b) (Side : Triple → Triple → Triple → Type 0)
      (is : IsSide Side) (strict : IsStrict Side ring b x y) where
    -- a step with a side goes not towards b,
    pub not_towards : ¬ IsOnPath ring b x y
    not_towards on =
        is.off (whole x) (whole y) (whole strict.p) strict.side_first
        (line_of_on x y strict.p
        (ray_first ring some simple x y clear b y_other on (sight_step ring some simple y x (step_back ring x y clear)) strict.p strict.first))

    -- nor away
    pub not_away : ¬ IsOnPath ring b y x
    not_away on =
        is.off (whole x) (whole y) (whole strict.q) strict.side_last
        (straight_swap_first (whole y) (whole x) (whole strict.q)
        (line_of_on y x strict.q
        (ray_first ring some simple y x (step_back ring x y clear) b x_other on (sight_step ring some simple x y clear) strict.q strict.last)))

  -- after a step away comes one away
  pub away_goes_on : (x y z n : Point) → IsOpenStep ring x y → IsOpenStep ring y z → AreJoined ring y x z → x ≢ b → IsFirstStep ring y b n
      → IsOnPath ring b y x → IsOnPath ring b z y
  away_goes_on x y z n first second joined other step on =
      let ray = ray_first ring some simple y x (step_back ring x y first) b other on (sight_step ring some simple x y first) n step in
      on_path_of_joined ring some simple y b z n z step (sight_step ring some simple y z second)
      (joined_on_ray ring y x n z ray first.differ joined)

  module _ (x y z n : Point) (first : IsOpenStep ring x y) (second : IsOpenStep ring y z) (joined : AreJoined ring y x z) (x_other : x ≢ b)
      (y_other : y ≢ b) (z_other : z ≢ b) (step : IsFirstStep ring y b n) where
    -- before one towards comes one towards,
    pub towards_before : IsOnPath ring b y z → IsOnPath ring b x y
    towards_before on = away_goes_on z y x n (step_back ring y z second) (step_back ring x y first) (joined_back ring y x z joined) z_other step on

    -- and after one towards comes none away
    pub towards_then_away : IsOnPath ring b x y → ¬ IsOnPath ring b z y
    towards_then_away on on_too =
        let to_x = sight_step ring some simple y x (step_back ring x y first) in
        let to_z = sight_step ring some simple y z second in
        let joined_x = joined_first ring some simple x y first b y_other on to_x n step in
        let joined_z = joined_first ring some simple z y (step_back ring y z second) b y_other on_too to_z n step in
        no_three_joined ring simple some y n x z joined_x joined (joined_back ring y n z joined_z)

    -- steps with a side have one side
    pub side_goes_on : (Side Other : Triple → Triple → Triple → Type 0) → IsSide Side → IsSide Other → IsStrict Side ring b x y
        → IsStrict Other ring b y z → Side (whole y) (whole z) (whole n)
    side_goes_on Side Other is is_too strict strict_too =
        let side = subst (λ m. Side (whole x) (whole y) (whole m)) (same_step ring y b strict.q n strict.last step) strict.side_last in
        let side_too = subst (λ m. Other (whole y) (whole z) (whole m)) (same_step ring y b strict_too.p n strict_too.first step)
        strict_too.side_first in
        let to_x = sight_step ring some simple y x (step_back ring x y first) in
        let to_z = sight_step ring some simple y z second in
        is.agree (whole x) (whole y) (whole n) (whole y) (whole z) (whole n)
        (same_side_of_joined ring y x z n joined
        (λ j. not_towards x y first x_other y_other Side is strict
        (on_path_of_joined ring some simple y b x n x step to_x (joined_back ring y x n j)))
        (λ j. not_away y z second y_other z_other Other is_too strict_too
        (on_path_of_joined ring some simple y b z n z step to_z (joined_back ring y z n j)))
        (λ e. is.off (whole x) (whole y) (whole n) side (straight_swap_first (whole y) (whole x) (whole n) e))
        (λ e. is_too.off (whole y) (whole z) (whole n) side_too e)) side

-- a step past no vertex, that b is not on
pub record IsStepPast (ring : List Point) (b x y : Point) : Type 0 where
  pub clear : IsOpenStep ring x y
  pub off : ¬ On (whole b) (whole x) (whole y)

-- from x to y and on over the points of the list to c go steps, each two joined over the point between them
abbrev pub IsWayOf : (Point → Point → Type 0) → List Point → Point → Point → Point → List Point → Type 0
IsWayOf IsStep ring c x y [] = IsStep x y × (y ≡ c)
IsWayOf IsStep ring c x y (z ∷ rest) = IsStep x y × AreJoined ring y x z × IsWayOf IsStep ring c y z rest

-- they go past no vertex, and b is on none of them
abbrev pub IsWay : List Point → Point → Point → Point → Point → List Point → Type 0
IsWay ring b c x y rest = IsWayOf (IsStepPast ring b) ring c x y rest

module _ (ring : List Point) (b : Point) where
  -- b is not an end of a step that it is not on
  pub first_other : (x y : Point) → IsStepPast ring b x y → x ≢ b
  first_other x y step e = step.off (subst (λ z. On (whole z) (whole x) (whole y)) e (on_first_end (whole x) (whole y)))

  pub last_other : (x y : Point) → IsStepPast ring b x y → y ≢ b
  last_other x y step e = step.off (subst (λ z. On (whole z) (whole x) (whole y)) e (on_last_end (whole x) (whole y)))

  -- a way begins with a step
  pub way_begins : (c x y : Point) (rest : List Point) → IsWay ring b c x y rest → IsStepPast ring b x y
  way_begins c x y [] way = way.0
  way_begins c x y (z ∷ rest) way = way.0

module _ (ring : List Point) (some : 3 ≤ length ring) (simple : IsSimple ring) where
  -- the path from a point to another that it sees goes first there
  pub reach_end : (x y : Point) → IsOpenStep ring x y → Reaches ring x y y
  reach_end x y clear = record { p = y; step = sight_step ring some simple x y clear; on = on_last_end (whole x) (whole y) }

  -- the path to the end of a way goes first along its first step
  pub way_reaches : (b c x y : Point) (rest : List Point) → IsWay ring b c x y rest → Reaches ring x y c
  way_reaches b c x y [] way = subst (Reaches ring x y) way.1 (reach_end x y way.0.clear)
  way_reaches b c x y (z ∷ rest) way =
      let next = way_begins ring b c y z rest way.2 in
      reach_over ring some simple x y way.0.clear z c (λ e. next.clear.differ (sym e)) way.1 (way_reaches b c y z rest way.2)

  module _ (b d x y : Point) (clear : IsOpenStep ring x y) (reach : Reaches ring x y d) (n : Point) (step : IsFirstStep ring x b n) where
    -- the first step along a step is joined with what the other end is
    pub joined_ahead : (u : Point) → AreJoined ring x u y → (p : Point) → IsFirstStep ring x d p → AreJoined ring x u p
    joined_ahead u joined p step_too =
        joined_back ring x p u
        (subst (λ z. AreJoined ring x z u) (same_step ring x d reach.p p reach.step step_too)
        (joined_on_ray ring x y reach.p u reach.on (λ e. clear.differ (sym e)) (joined_back ring x u y joined)))

    -- where x is on the path from b to y, it is on that to where the path over y goes
    pub on_path_ahead : x ≢ b → IsOnPath ring b y x → IsOnPath ring b d x
    on_path_ahead other on =
        let joined = joined_first ring some simple y x (step_back ring x y clear) b other on (sight_step ring some simple x y clear) n step in
        on_path_of_joined ring some simple x b d n reach.p step reach.step (joined_ahead n joined reach.p reach.step)

    -- where the path to b goes first to a side of the step, it is to that side of the path over y
    pub parts_here : (Side Other : Triple → Triple → Triple → Type 0) → AreSides Side Other → Side (whole x) (whole y) (whole n)
        → IsTo Side Other ring x d b
    parts_here Side Other sides side =
        let one = list_of_step ring x d reach.p reach.step in
        let other = list_of_step ring x b n step in
        part_to ring x d b x reach.p n Side Other [] one.0 other.0 one.1 other.1
        (λ e. sides.side.off (whole x) (whole y) (whole n) side (line_of_on x y n (subst (λ z. On (whole y) (whole x) (whole z)) e reach.on)))
        (apart (sides.side.from_ray x (whole y) (whole reach.p) (whole n) (ray_of_on x y reach.p reach.on (λ e. clear.differ (sym e))) side))
