-- What a point sees of a side lies between the ends that the narrowed cone tells.
use Rattle.std.proofs.Common.{◌≡◌, inl, inr, ℤ, pos, ◌+ℤ◌, ◌-ℤ◌, ◌*ℤ◌, neg_ℤ, ◌<ℤ◌, ◌≤ℤ◌, arith, ◌⊎◌, ◌↔◌, sym, subst, List, Some, None}
use Rattle.std.proofs.lemmas.Int.{ints}
use Rattle.std.specs.Prelude.{Option}
use Rattle.integer_algebra.proofs.SameSigns.{same_nonpositive}
use Rattle.integer_algebra.proofs.SignSteps.{zero_not_negative, zero_of_neither, at_least_unless, at_most_unless, zero_not_positive}
use Rattle.plane.proofs.Meetings.{no_value, values_apart, zero_combination, zero_point}
use Rattle.plane.proofs.Points.{same_sym, whole_is_point, same_trans}
use Rattle.plane.proofs.Segments.{as_far, on_is_straight, on_last_end, on_one_side, on_reversed, on_same_point, one_meeting}
use Rattle.plane.proofs.Segments.{combination_of_same, later_between, on_first_end, on_nested}
use Rattle.plane.proofs.Turns.{IsCombination, determinant_along, on_of_combination, combination_of, determinant_same, determinant_same_last}
use Rattle.plane.proofs.Turns.{determinant_swap_last, five_triples, straight_swap_last}
use Rattle.plane.specs.Line.{cross_product}
use Rattle.plane.specs.Prelude.{determinant, IsPoint, IsRight, IsSame, IsStraight, On, Point, Triple, whole}
use Rattle.rings.specs.Sees.{Sees}
use Rattle.ring_laws.proofs.Triangles.{not_right_between}
use Rattle.meshes.proofs.Cones.Held.{end_on_side, held_between, not_left_between}
use Rattle.meshes.proofs.Cones.RaySigns.{bound_side}
use Rattle.meshes.proofs.Cones.SideViews.{ReachesSide, IsWindow, SideView, hidden, one_end, through_window, whole_side}
use Rattle.meshes.specs.Cone.{IsPartEnd, Cone}

-- the points of the side from r to l that q sees are those from a to b, and it goes from a to b
pub record IsPartOfSide (ring : List Point) (q l r : Point) (a b : Triple) : Type 0 where
  pub in_order : On a (whole r) b
  pub seen : (x : Triple) → IsPoint x → (On x (whole r) (whole l) × Sees ring (whole q) x) ↔ On x a b

-- a difference of two numbers that are apart is not 0
apart_not_zero : (c f g : ℤ) → f -ℤ g ≡ c → g <ℤ f → ¬ (c ≡ pos 0)
apart_not_zero c f g e h none = omega (arith, ints)

module _ (q l r : Point) where
  abbrev Q : Triple
  Q = whole q

  abbrev L : Triple
  L = whole l

  abbrev R : Triple
  R = whole r

  -- ---- where a ray meets a side that it reaches, and which points of the side are before the meeting

  module _ (c e : Point) (reach : ReachesSide q l r c) (m : Triple) (end : IsPartEnd q c r l e m) where
    abbrev C : Triple
    C = whole c

    -- the ray and the side are not parallel,
    crossing : ¬ (cross_product q c r l ≡ pos 0)
    crossing = apart_not_zero _ _ _ (as_far q c r l) reach.apart

    -- so m is on the ray
    meeting_on_ray : IsStraight Q C m
    meeting_on_ray = end.on_ray crossing

    -- the meeting by its weights,
    meeting : Triple
    meeting = zero_point (determinant Q C L) (determinant Q C R) L R

    at_meeting : IsPoint meeting
    unfolding meeting
    at_meeting = values_apart _ _ reach.apart

    weights : IsCombination meeting L R
    unfolding meeting
    weights = zero_combination (determinant Q C L) (determinant Q C R) L R reach.not_past_left reach.not_past_right

    -- what another ray says of it
    at_weights : (a : Point) → pos 1 *ℤ determinant Q (whole a) meeting
        ≡ neg_ℤ (determinant Q C R) *ℤ determinant Q (whole a) L +ℤ determinant Q C L *ℤ determinant Q (whole a) R
    unfolding weights zero_combination
    at_weights a = determinant_along meeting L R weights Q (whole a)

    -- it is m
    same_meeting : IsSame m meeting
    same_meeting =
        let on = on_of_combination meeting L R at_meeting (whole_is_point l) (whole_is_point r) weights in
        one_meeting q c r l m meeting crossing meeting_on_ray (no_value _ (determinant Q C L) (determinant Q C R) (at_weights c))
        (end.on_line crossing)
        (on_is_straight meeting R L at_meeting (whole_is_point r) (whole_is_point l) (on_reversed meeting L R on))

    -- so m is on the side,
    meeting_on : On m R L
    meeting_on =
        let on = on_of_combination meeting L R at_meeting (whole_is_point l) (whole_is_point r) weights in
        on_same_point at_meeting (same_sym same_meeting) (on_reversed meeting L R on)

    -- and no other point of the side is in line with the ray
    only_meeting : (y : Triple) → IsPoint y → On y R L → IsStraight Q C y → IsSame y m
    only_meeting y at_y on straight =
        one_meeting q c r l y m crossing straight meeting_on_ray (on_is_straight y R L at_y (whole_is_point r) (whole_is_point l) on)
        (end.on_line crossing)

    module _ (y : Triple) (at_y : IsPoint y) (on : On y R L) where
      -- a point of the side that is not left of the ray is between the right end and the meeting
      before_meeting : determinant Q C y ≤ℤ pos 0 → On y R m
      before_meeting h = elim (on_one_side y m R L at_y end.rational (whole_is_point r) (whole_is_point l) on meeting_on) [
        | inl before ↦ before
        | inr after ↦
            let up = not_right_between Q C y m L at_y end.rational (whole_is_point l) (zero_not_negative meeting_on_ray)
            reach.not_past_left after in
            on_same_point end.rational (same_sym (only_meeting y at_y on (zero_of_neither h up))) (on_last_end R m)
      ]

  -- ---- through a window

  -- between the meetings of its rays and the side
  module _ (ring : List Point) (cone : Cone) (w : IsWindow ring q l r cone) (a b : Triple)
      (first : IsPartEnd q cone.right r l r a) (last : IsPartEnd q cone.left r l l b) where
    -- the line of the left ray, and that of the right one
    abbrev A : Triple
    A = whole cone.left

    abbrev B : Triple
    B = whole cone.right

    first_on_ray : IsStraight Q B a
    first_on_ray = meeting_on_ray cone.right r w.right_ray a first

    last_on_ray : IsStraight Q A b
    last_on_ray = meeting_on_ray cone.left l w.left_ray b last

    first_on : On a R L
    first_on = meeting_on cone.right r w.right_ray a first

    last_on : On b R L
    last_on = meeting_on cone.left l w.left_ray b last

    -- the first is not left of the left ray,
    first_not_left : determinant Q A a ≤ℤ pos 0
    first_not_left =
        let m = meeting cone.right r w.right_ray a first in
        let value = bound_side _ _ _ (determinant Q A R) (determinant Q A L) (determinant Q B R) (determinant Q B L) (five_triples Q B A R L)
        (at_weights cone.right r w.right_ray a first cone.left) (at_least_unless w.in_order) w.before in
        same_nonpositive _ _ m.W a.W (at_meeting cone.right r w.right_ray a first) first.rational
        (determinant_same Q A m a (same_sym (same_meeting cone.right r w.right_ray a first))) value

    first_before_last : On a R b
    first_before_last = before_meeting cone.left l w.left_ray b last a first.rational first_on first_not_left

    -- so the last is not right of the right one
    last_not_right : pos 0 ≤ℤ determinant Q B b
    last_not_right =
        not_right_between Q B b a L last.rational first.rational (whole_is_point l) (zero_not_negative first_on_ray)
        w.right_ray.not_past_left
        (later_between a R b L first.rational (whole_is_point r) last.rational (whole_is_point l) first_before_last last_on)

    module _ (x : Triple) (at_x : IsPoint x) where
      seen_between : On x R L → Sees ring Q x → On x a b
      seen_between on sees =
          let holds = (w.seen x at_x on).0 sees in
          let before = before_meeting cone.left l w.left_ray b last x at_x on (at_most_unless holds.not_left) in
          elim (on_one_side x a R b at_x first.rational (whole_is_point r) last.rational before first_before_last) [
            | inr after ↦ after
            | inl near ↦
                let down = not_left_between Q B x R a at_x (whole_is_point r) first.rational w.right_ray.not_past_right
                (zero_not_positive first_on_ray) near in
                let straight = zero_of_neither down (at_least_unless holds.not_right) in
                on_same_point first.rational (same_sym (only_meeting cone.right r w.right_ray a first x at_x on straight))
                (on_first_end a b)
          ]

      between_seen : On x a b → On x R L × Sees ring Q x
      between_seen on =
          let on_side = on_nested x a b R L at_x first.rational last.rational (whole_is_point r) (whole_is_point l) first_on last_on on in (
            on_side,
            (w.seen x at_x on_side).1 (held_between q cone x a b at_x first.rational last.rational first_not_left
                (zero_not_positive last_on_ray) (zero_not_negative first_on_ray) last_not_right on),
          )

    window_part : IsPartOfSide ring q l r a b
    window_part = record { in_order = first_before_last; seen = λ x at_x. (λ h. seen_between x at_x h.0 h.1, between_seen x at_x) }

-- ---- in line with the side

-- the ways are parallel where both ends of the side are in line with the ray
parallel : (c f g : ℤ) → f -ℤ g ≡ c → f ≡ pos 0 → g ≡ pos 0 → c ≡ pos 0
parallel c f g e hf hg = omega (arith, ints)

-- all of it
side_part : (ring : List Point) (q l r : Point) → IsStraight (whole q) (whole r) (whole l)
    → ((y : Triple) → IsPoint y → On y (whole r) (whole l) → Sees ring (whole q) y) → (a b : Triple)
    → IsPartEnd q r r l r a → IsPartEnd q l r l l b → IsPartOfSide ring q l r a b
side_part ring q l r flat seen a b first last =
    let Q = whole q in
    let L = whole l in
    let R = whole r in
    let is_first : a ≡ R = first.at_end (parallel _ _ _ (as_far q r r l) flat (determinant_same_last Q R)) in
    let is_last : b ≡ L = last.at_end (parallel _ _ _ (as_far q l r l) (determinant_same_last Q L) (straight_swap_last Q R L flat)) in
    subst (λ m. IsPartOfSide ring q l r m b) (sym is_first) (subst (λ m. IsPartOfSide ring q l r R m) (sym is_last) (record {
      in_order = on_first_end R L;
      seen = λ x at_x. (λ h. h.0, λ on. (on, seen x at_x on));
    }))

-- ---- from beyond the line of the side

-- the ways are not parallel where just one end of the side is off the ray: the first,
first_off : (c f g d : ℤ) → f -ℤ g ≡ c → f ≡ pos 0 → g ≡ neg_ℤ d → d <ℤ pos 0 → ¬ (c ≡ pos 0)
first_off c f g d e hf hg h none = omega (arith, ints)

-- or the last
last_off : (c f g : ℤ) → f -ℤ g ≡ c → f <ℤ pos 0 → g ≡ pos 0 → ¬ (c ≡ pos 0)
last_off c f g e h hg none = omega (arith, ints)

-- one end
module _ (ring : List Point) (q l r c : Point) (which : (c ≡ l) ⊎ (c ≡ r)) (right : IsRight (whole q) (whole r) (whole l))
    (seen : (y : Triple) → IsPoint y → On y (whole r) (whole l) → Sees ring (whole q) y ↔ IsSame y (whole c)) where
  on_end : On (whole c) (whole r) (whole l)
  on_end = end_on_side l r c which

  end_crossing : ¬ (cross_product q c r l ≡ pos 0)
  end_crossing = elim which [
    | inl e ↦ subst (λ p. ¬ (cross_product q p r l ≡ pos 0)) (sym e)
        (first_off _ _ _ _ (as_far q l r l) (determinant_same_last (whole q) (whole l))
        (determinant_swap_last (whole q) (whole r) (whole l)) right)
    | inr e ↦ subst (λ p. ¬ (cross_product q p r l ≡ pos 0)) (sym e)
        (last_off _ _ _ (as_far q r r l) right (determinant_same_last (whole q) (whole r)))
  ]

  -- which is each meeting
  is_end : (e : Point) (m : Triple) → IsPartEnd q c r l e m → IsSame m (whole c)
  is_end e m end =
      one_meeting q c r l m (whole c) end_crossing (end.on_ray end_crossing) (determinant_same_last (whole q) (whole c))
      (end.on_line end_crossing)
      (on_is_straight (whole c) (whole r) (whole l) (whole_is_point c) (whole_is_point r) (whole_is_point l) on_end)

  end_part : (a b : Triple) → IsPartEnd q c r l r a → IsPartEnd q c r l l b → IsPartOfSide ring q l r a b
  end_part a b first last =
      let at_c = whole_is_point c in
      let is_first = is_end r a first in
      let one : IsSame b a = same_trans at_c (is_end l b last) (same_sym is_first) in
      record {
        in_order = on_same_point last.rational one (on_last_end (whole r) b);
        seen = λ x at_x. (
          λ h. on_same_point first.rational (same_trans at_c is_first (same_sym ((seen x at_x h.0).0 h.1))) (on_first_end a b),
          λ on.
              let on_first = combination_of_same x a b one (combination_of x a b at_x first.rational last.rational on) in
              let same = same_trans first.rational on_first is_first in
              let on_side = on_same_point at_c (same_sym same) on_end in
              (on_side, (seen x at_x on_side).1 same),
        );
      }

-- ---- all cases

-- with no cone nothing is seen,
pub none_seen : (ring : List Point) (q l r : Point) (sight : Option Cone) → SideView ring q l r sight → sight ≡ None
    → (y : Triple) → IsPoint y → On y (whole r) (whole l) → ¬ Sees ring (whole q) y
none_seen ring q l r sight (hidden e unseen) none = unseen
none_seen ring q l r sight (through_window cone e w) none = absurd (cc)
none_seen ring q l r sight (whole_side e flat seen) none = absurd (cc)
none_seen ring q l r sight (one_end c e which right seen) none = absurd (cc)

-- and with one the part between its ends
pub part_seen : (ring : List Point) (q l r : Point) (sight : Option Cone) → SideView ring q l r sight → (cone : Cone) → sight ≡ Some cone
    → (a b : Triple) → IsPartEnd q cone.right r l r a → IsPartEnd q cone.left r l l b → IsPartOfSide ring q l r a b
part_seen ring q l r sight (hidden e unseen) cone some a b first last = absurd (cc)
part_seen ring q l r sight (through_window other e w) cone some a b first last =
    let same : other ≡ cone = cc in
    window_part q l r ring cone (subst (IsWindow ring q l r) same w) a b first last
part_seen ring q l r sight (whole_side e flat seen) cone some a b first last =
    let same : cone ≡ record { left = l; right = r } = cc in
    side_part ring q l r flat seen a b (subst (λ c. IsPartEnd q c.right r l r a) same first)
    (subst (λ c. IsPartEnd q c.left r l l b) same last)
part_seen ring q l r sight (one_end c e which right seen) cone some a b first last =
    let same : cone ≡ record { left = c; right = c } = cc in
    end_part ring q l r c which right seen a b (subst (λ x. IsPartEnd q x.right r l r a) same first)
    (subst (λ x. IsPartEnd q x.left r l l b) same last)
