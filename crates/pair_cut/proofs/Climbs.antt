-- Climbs from the ends of a door to its apex: where one is, what is found, and the tangent.
use Rattle.std.proofs.Common.{◌≡◌, ◌≢◌, ◌↔◌, inl, inr, refl, sym, ap, subst, ◌∙◌, ℕ, ◌+◌, ◌-◌, ◌<◌, min, max}
use Rattle.std.proofs.Common.{List, length, slice_index, Some, None, arith}
use Rattle.std.proofs.lemmas.Bool.{cases_lt}
use Rattle.plane.specs.Point.{Point, whole}
use Rattle.rings.specs.Chain.{point_at}
use Rattle.rings.specs.Ring.{vertex}
use Rattle.funnels.proofs.Funnels.{passed_left, passed_right}
use Rattle.funnels.specs.Funnel.{IsPassed}
use Rattle.exact_plane.proofs.Directions.{not_left_iff, right_iff_negative}
use Rattle.exact_plane.specs.declared.direction.Direction.{Direction}
use Rattle.exact_plane.specs.declared.direction.Direction.TheVariants.{Left, Right}
use Rattle.exact_plane.specs.Direction.{turn_of}
use Rattle.pair_cut.specs.Climbs.{IsClimb, IsTangentVertex, IsTangent, IsVertexAt, from_left, from_right, turn_over}

-- one has come up to a vertex in so many steps, and over none below it the turn to y is to the side
pub record IsUp (ring : List Point) (points : ℕ → Point) (count : ℕ) (y : Point) (side : Direction) (old at steps : ℕ) : Type 0 where
  pub place : ℕ
  pub below : place < count
  pub is : IsVertexAt ring at (points place)
  pub tested : (j : ℕ) → j < place → turn_over points y j ≢ side
  pub paid : steps ≡ old + place

module _ (ring : List Point) (before : List ℕ) (end apex : ℕ) (points : ℕ → Point) (count : ℕ)
    (c : IsClimb ring before end apex points count) (y : Point) (side : Direction) (old : ℕ) where
  -- at first at the end,
  pub up_begins : IsUp ring points count y side old end old
  up_begins = record {
    place = 0;
    below = c.some;
    is = c.first;
    tested = λ j less. absurd (omega (arith, less));
    paid = omega arith;
  }

  module _ (at steps : ℕ) (up : IsUp ring points count y side old at steps) where
    -- and off the apex one more point is above,
    pub more_above : at ≢ apex → up.place + 1 < count
    more_above other = elim (cases_lt (up.place + 1) count) [
      | inl less ↦ less
      | inr last ↦ let below = up.below in absurd (other ((c.ends up.place at below up.is).1 (omega (arith, below, last))))
    ]

    -- that of what comes before the vertex.
    pub next_above : at ≢ apex → IsVertexAt ring (slice_index before at) (points (up.place + 1))
    next_above other = c.goes_up up.place at (more_above other) up.is

    -- The turn over the vertex is that over its point:
    turn_is : at ≢ apex
        → turn_of (whole (vertex ring (slice_index before at))) (whole (vertex ring at)) (whole y) ≡ turn_over points y up.place
    turn_is other =
        ap (λ p. turn_of (whole p) (whole (vertex ring at)) (whole y)) (next_above other).1
        ∙ ap (λ p. turn_of (whole (points (up.place + 1))) (whole p) (whole y)) up.is.1

    -- where it is to the side, this is what is found,
    pub found_here : at ≢ apex → turn_of (whole (vertex ring (slice_index before at))) (whole (vertex ring at)) (whole y) ≡ side
        → IsTangentVertex ring points count y side (Some at)
    found_here other turns = (up.place, more_above other, up.is, sym (turn_is other) ∙ turns, up.tested)

    -- and where it is not, one goes up;
    pub up_on : at ≢ apex → turn_of (whole (vertex ring (slice_index before at))) (whole (vertex ring at)) (whole y) ≢ side
        → IsUp ring points count y side old (slice_index before at) (steps + 1)
    up_on other not_side = record {
      place = up.place + 1;
      below = more_above other;
      is = next_above other;
      tested = λ j less. elim (cases_lt j up.place) [
        | inl earlier ↦ up.tested j earlier
        | inr last ↦
            let place = up.place in
            subst (λ k. turn_over points y k ≢ side) (omega (arith, less, last)) (λ turns. not_side (turn_is other ∙ turns))
      ];
      paid = omega (arith, up.paid);
    }

    -- and at the apex none is found
    pub none_found : at ≡ apex → IsTangentVertex ring points count y side None
    none_found same = λ j less.
        let last : up.place + 1 ≡ count = (c.ends up.place at up.below up.is).0 same in
        up.tested j (omega (arith, less, last))

module _ (ring points : List Point) (a : ℕ) (within : a < length points) (y : Point) where
  -- the edge from the left end's side at place k + 1 is passed exactly where the turn over place k is not to the left,
  left_passed : (k : ℕ) → k < a → (turn_over (from_left points) y k ≢ Left) ↔ IsPassed points a (k + 1) (whole y)
  left_passed k less =
      let place : k ≡ k + 1 - 1 = omega arith in
      let passed = passed_left points a (k + 1) (whole y) (point_at points (k + 1)) (point_at points k) (omega (arith, less)) refl
      (ap (point_at points) place) in
      (λ h. passed.0 ((not_left_iff _).0 h), λ h. (not_left_iff _).1 (passed.1 h))

  -- and on the right one where it is to the right
  right_passed : (k : ℕ) → k + 1 < length points - a
      → (turn_over (from_right points) y k ≡ Right) ↔ IsPassed points a (length points - 1 - k) (whole y)
  right_passed k less =
      let place : length points - 1 - (k + 1) ≡ length points - 1 - k - 1 = omega arith in
      let passed = passed_right points a (length points - 1 - k) (whole y) (from_right points (k + 1)) (from_right points k)
      (omega (arith, less)) (ap (point_at points) place) refl in
      (λ h. passed.0 ((right_iff_negative _).0 h), λ h. (right_iff_negative _).1 (passed.1 h))

  module _ (apex : ℕ) (at_apex : IsVertexAt ring apex (point_at points a)) where
    -- what is found on the left is the tangent,
    pub tangent_on_left : (x : ℕ) → IsTangentVertex ring (from_left points) (a + 1) y Left (Some x)
        → IsTangent ring points a y (record { near = x; right = x; left = apex })
    tangent_on_left x (k, more, is, turns, earlier) =
        let lower : k ≡ min a k = omega (arith, more) in
        let upper : a ≡ max a k = omega (arith, more) in
        record {
          place = k;
          reached = record {
            within = omega (arith, more, within);
            passed = λ some.
                let place : k - 1 + 1 ≡ k = omega (arith, some) in
                subst (λ h. IsPassed points a h (whole y)) place
                ((left_passed (k - 1) (omega (arith, more, some))).0 (earlier (k - 1) (omega (arith, some))));
            not_passed = λ inner passed. (left_passed k (omega (arith, more))).1 passed turns;
          };
          near = is;
          right = subst (λ h. IsVertexAt ring x (point_at points h)) lower is;
          left = subst (λ h. IsVertexAt ring apex (point_at points h)) upper at_apex;
        }

    module _ (none_left : IsTangentVertex ring (from_left points) (a + 1) y Left None) where
      -- where there is none, and so on the right
      pub tangent_on_right : (x : ℕ) → IsTangentVertex ring (from_right points) (length points - a) y Right (Some x)
          → IsTangent ring points a y (record { near = x; right = apex; left = x })
      tangent_on_right x (k, more, is, turns, earlier) =
          let h = length points - 1 - k in
          let lower : a ≡ min a (length points - 1 - k) = omega (arith, more) in
          let upper : length points - 1 - k ≡ max a (length points - 1 - k) = omega (arith, more) in
          record {
            place = h;
            reached = record {
              within = omega (arith, within);
              passed = λ some. (right_passed k more).0 turns;
              not_passed = λ inner passed.
                  let place : h + 1 ≡ length points - 1 - (k - 1) = omega (arith, inner, more) in
                  earlier (k - 1) (omega (arith, inner, more))
                  ((right_passed (k - 1) (omega (arith, more))).1 (subst (λ p. IsPassed points a p (whole y)) place passed));
            };
            near = is;
            right = subst (λ p. IsVertexAt ring apex (point_at points p)) lower at_apex;
            left = subst (λ p. IsVertexAt ring x (point_at points p)) upper is;
          }

      -- where there is none either, it is the apex
      pub tangent_at_apex : IsTangentVertex ring (from_right points) (length points - a) y Right None
          → IsTangent ring points a y (record { near = apex; right = apex; left = apex })
      tangent_at_apex none_right =
          let lower : a ≡ min a a = omega arith in
          let upper : a ≡ max a a = omega arith in
          record {
            place = a;
            reached = record {
              within = within;
              passed = λ some.
                  let place : a - 1 + 1 ≡ a = omega (arith, some) in
                  subst (λ h. IsPassed points a h (whole y)) place
                  ((left_passed (a - 1) (omega (arith, some))).0 (none_left (a - 1) (omega (arith, some))));
              not_passed = λ inner passed.
                  let k = length points - 2 - a in
                  let place : a + 1 ≡ length points - 1 - (length points - 2 - a) = omega (arith, inner) in
                  none_right k (omega (arith, inner))
                  ((right_passed k (omega (arith, inner))).1 (subst (λ p. IsPassed points a p (whole y)) place passed));
            };
            near = at_apex;
            right = subst (λ h. IsVertexAt ring apex (point_at points h)) lower at_apex;
            left = subst (λ h. IsVertexAt ring apex (point_at points h)) upper at_apex;
          }
