-- Ways on from one point that go no farther than another.
-- Ways on from one point of which one goes no farther than another, and that parts from a third, or a third from it, to the left.
use Rattle.std.proofs.Common.{◌≡◌, ◌⊎◌, inl, inr, refl, sym, ap, subst, ◌∙◌, List, [], ◌∷◌, length, arith, ◌≢◌, true, ◌≤◌}
use Rattle.integer_algebra.proofs.SignSteps.{positive_not_zero}
use Rattle.plane.proofs.Order.{point_or_other}
use Rattle.plane.proofs.Points.{whole_is_point}
use Rattle.plane.proofs.Segments.{nearer_each, nearer_on, on_last_end, on_is_straight, on_total}
use Rattle.plane.proofs.Turns.{determinant_same_ends, determinant_same_last}
use Rattle.plane.specs.Prelude.{IsLeft, On, Point, whole}
use Rattle.rings.specs.Prelude.{IsBentChain, IsSimple}
use Rattle.funnels.proofs.Bends.{on_ray_back, turning_from_ray, turning_to_ray}
use Rattle.hulls.proofs.Joined.{rest_bent}
use Rattle.hulls.proofs.Order.{HasFirst, IsLeftOf, TurnsLeft, first_of_other, left_of_alike, right_of_alike}
use Rattle.hulls.proofs.Third.{ray_of_on}
use Rattle.hulls.specs.Turning.{apart, first_nearer, second_nearer}

-- a way on from v goes no farther than another: it ends where that is, or on the way to its next point
abbrev pub IsFrontOf : Point → List Point → List Point → Type 0
IsFrontOf v [] other = Unit {0}
IsFrontOf v (p ∷ first) [] = ⊥
IsFrontOf v (p ∷ first) (q ∷ second) = ((p ≡ q) × IsFrontOf p first second) ⊎ ((first ≡ []) × On (whole p) (whole v) (whole q))

-- ---- fronts of fronts

-- what goes no farther than nothing is nothing
none_before_none : (p : Point) (first second : List Point) → IsFrontOf p first second → second ≡ [] → first ≡ []
none_before_none p [] second h e = refl
none_before_none p (x ∷ xs) [] h e = absurd h
none_before_none p (x ∷ xs) (y ∷ ys) h e = let n = ap length e in absurd (omega arith)

-- a front of a front is one,
pub front_follows : (v : Point) (one two three : List Point) → IsFrontOf v one two → IsFrontOf v two three → IsFrontOf v one three
front_follows v [] two three h k = tt
front_follows v (p ∷ first) [] three h k = absurd h
front_follows v (p ∷ first) (q ∷ second) [] h k = absurd k
front_follows v (p ∷ first) (q ∷ second) (r ∷ third) (inl h) (inl k) =
    inl (h.0 ∙ k.0, front_follows p first second third h.1 (subst (λ x. IsFrontOf x second third) (sym h.0) k.1))
front_follows v (p ∷ first) (q ∷ second) (r ∷ third) (inl h) (inr k) =
    inr (none_before_none p first second h.1 k.0, subst (λ x. On (whole x) (whole v) (whole r)) (sym h.0) k.1)
front_follows v (p ∷ first) (q ∷ second) (r ∷ third) (inr h) (inl k) = inr (h.0, subst (λ x. On (whole p) (whole v) (whole x)) k.0 h.1)
front_follows v (p ∷ first) (q ∷ second) (r ∷ third) (inr h) (inr k) = inr (h.0, nearer_on v p q r h.1 k.1)

-- and fronts of each other are one way
pub fronts_are_one : (v : Point) (one other : List Point) → IsFrontOf v one other → IsFrontOf v other one → one ≡ other
fronts_are_one v [] [] h k = refl
fronts_are_one v [] (q ∷ second) h k = absurd k
fronts_are_one v (p ∷ first) [] h k = absurd h
fronts_are_one v (p ∷ first) (q ∷ second) (inl h) (inl k) =
    (λ i. h.0 i ∷ first) ∙ ap (λ ps. q ∷ ps) (fronts_are_one p first second h.1 (subst (λ x. IsFrontOf x second first) k.0 k.1))
fronts_are_one v (p ∷ first) (q ∷ second) (inl h) (inr k) =
    (λ i. h.0 i ∷ first) ∙ ap (λ ps. q ∷ ps) (none_before_none p first second h.1 k.0 ∙ sym k.0)
fronts_are_one v (p ∷ first) (q ∷ second) (inr h) (inl k) =
    (λ i. sym k.0 i ∷ first) ∙ ap (λ ps. q ∷ ps) (h.0 ∙ sym (none_before_none q second first k.1 h.0))
fronts_are_one v (p ∷ first) (q ∷ second) (inr h) (inr k) =
    (λ i. nearer_each v p q h.1 k.1 i ∷ first) ∙ ap (λ ps. q ∷ ps) (h.0 ∙ sym k.0)

-- ---- where a front ends

-- two ways go on from q, the one no farther than the other
pub record GoOn (q : Point) (first second : List Point) : Type 0 where
  pub more : HasFirst first
  pub more_too : HasFirst second
  pub front : IsFrontOf q first second

-- a front ends within the first step, or both ways go on from its end
pub ends_or_goes_on : (v p q : Point) (first second : List Point) → IsFrontOf v (p ∷ first) (q ∷ second)
    → ((first ≡ []) × On (whole p) (whole v) (whole q)) ⊎ ((p ≡ q) × GoOn p first second)
ends_or_goes_on v p q first second (inr h) = inl h
ends_or_goes_on v p q [] second (inl h) = inl (refl, subst (λ x. On (whole p) (whole v) (whole x)) h.0 (on_last_end (whole v) (whole p)))
ends_or_goes_on v p q (x ∷ xs) [] (inl h) = absurd h.1
ends_or_goes_on v p q (x ∷ xs) (y ∷ ys) (inl h) = inr (
  h.0,
  record { more = record { r = x; rest = xs; is = refl }; more_too = record { r = y; rest = ys; is = refl }; front = h.1 },
)

-- no way has a first point where there is none
pub no_first : (ps : List Point) → ps ≡ [] → ¬ HasFirst ps
no_first ps e h = let n = ap length (sym e ∙ h.is) in omega arith

-- ---- points on one ray

module _ (v p q r : Point) where
  -- what is to the left of p is another point,
  left_differs : IsLeft (whole v) (whole p) (whole q) → p ≢ q
  left_differs left e =
      positive_not_zero (subst (λ x. IsLeft (whole v) (whole p) (whole x)) (sym e) left) (determinant_same_last (whole v) (whole p))

  -- and what is beyond it is to the left too,
  left_of_beyond : IsLeft (whole v) (whole p) (whole q) → On (whole q) (whole v) (whole r) → IsLeft (whole v) (whole p) (whole r)
  left_of_beyond left on =
      let differ : q ≢ v = λ e.
      positive_not_zero (subst (λ x. IsLeft (whole v) (whole p) (whole x)) e left) (determinant_same_ends (whole v) (whole p)) in
      (turning_to_ray v true (whole q) (whole r) (whole p) (ray_of_on v q r on differ)).positive left

  -- and is so of a point before p
  left_of_before : On (whole p) (whole v) (whole q) → p ≢ v → IsLeft (whole v) (whole q) (whole r) → IsLeft (whole v) (whole p) (whole r)
  left_of_before on differ left = (turning_from_ray v true (whole q) (whole p) (whole r) (on_ray_back (ray_of_on v p q on differ))).positive left

-- ---- ways that part, of which one ends within a step

module _ (v p q r : Point) (first second third : List Point) where
  -- where a way to the left of another ends within the first step of a third, the third is to the left of the other too;
  left_beyond_ended : second ≡ [] → On (whole q) (whole v) (whole r) → IsLeftOf v (p ∷ first) (q ∷ second) → IsLeftOf v (p ∷ first) (r ∷ third)
  left_beyond_ended none on (inl (differ, apart left)) =
      let there = left_of_beyond v p q r left on in
      inl (left_differs v p r r there, apart there)
  left_beyond_ended none on (inl (differ, first_nearer s rest on_too is right)) = inl (
    (λ e. differ (nearer_each v p q on_too (subst (λ x. On (whole q) (whole v) (whole x)) (sym e) on))),
    first_nearer s rest (nearer_on v p q r on_too on) is right,
  )
  left_beyond_ended none on (inl (differ, second_nearer s rest on_too is left)) =
      absurd (no_first second none (record { r = s; rest = rest; is = is }))
  left_beyond_ended none on (inr h) = absurd (no_first second none (first_of_other p first second h.1))

  -- what is to the left of a way is to the left of one that ends within its first step, or that is a front of it;
  left_of_ended : first ≡ [] → On (whole p) (whole v) (whole q) → p ≢ v → IsLeftOf v (q ∷ second) (r ∷ third)
      → IsLeftOf v (p ∷ first) (r ∷ third) ⊎ IsFrontOf v (p ∷ first) (r ∷ third)
  left_of_ended none on other (inl (differ, apart left)) =
      let there = left_of_before v p q r on other left in
      inl (inl (left_differs v p r r there, apart there))
  left_of_ended none on other (inl (differ, first_nearer s rest on_too is right)) = inr (inr (none, nearer_on v p q r on on_too))
  left_of_ended none on other (inl (differ, second_nearer s rest on_too is left)) =
      elim (on_total (whole p) (whole r) (whole v) (whole q) (whole_is_point p) (whole_is_point r) (whole_is_point v) (whole_is_point q) on on_too) [
        | inl before ↦ inr (inr (none, before))
        | inr after ↦ elim (point_or_other p r) [
          | inl e ↦ inr (inr (none, subst (λ x. On (whole p) (whole v) (whole x)) e (on_last_end (whole v) (whole p))))
          | inr apart_too ↦ inl (inl (apart_too, second_nearer s rest after is left))
        ]
      ]
  left_of_ended none on other (inr h) = inr (inr (none, subst (λ x. On (whole p) (whole v) (whole x)) h.0 on))

  -- and no way to the left of another ends within its first step
  not_ended_left : second ≡ [] → On (whole q) (whole v) (whole p) → ¬ IsLeftOf v (p ∷ first) (q ∷ second)
  not_ended_left none on (inl (differ, apart left)) =
      positive_not_zero left (on_is_straight (whole q) (whole v) (whole p) (whole_is_point q) (whole_is_point v) (whole_is_point p) on)
  not_ended_left none on (inl (differ, first_nearer s rest on_too is right)) = differ (nearer_each v p q on_too on)
  not_ended_left none on (inl (differ, second_nearer s rest on_too is left)) = no_first second none (record { r = s; rest = rest; is = is })
  not_ended_left none on (inr h) = no_first second none (first_of_other p first second h.1)

-- ---- ways

module _ (ring : List Point) (some : 3 ≤ length ring) (simple : IsSimple ring) where
  -- beyond its first step a way with bends is one, also by another name of the point there
  beyond : (v p q : Point) (first : List Point) → q ≡ p → IsBentChain ring (v ∷ q ∷ first) → IsBentChain ring (p ∷ first)
  beyond v p q first e bent = subst (λ x. IsBentChain ring (x ∷ first)) e (rest_bent ring (v ∷ q ∷ first) bent 1 (omega arith))

  -- where a way to the left of another goes on farther, it stays to the left of that
  pub left_then_farther : (v : Point) (one two three : List Point) → IsBentChain ring (v ∷ two) → IsBentChain ring (v ∷ three)
      → IsLeftOf v one two → IsFrontOf v two three → IsLeftOf v one three
  left_then_farther v [] two three bent bent_too h k = absurd h
  left_then_farther v (p ∷ first) [] three bent bent_too h k = absurd h
  left_then_farther v (p ∷ first) (q ∷ second) [] bent bent_too h k = absurd k
  left_then_farther v (p ∷ first) (q ∷ second) (r ∷ third) bent bent_too h k = elim (ends_or_goes_on v q r second third k) [
    | inl ended ↦ left_beyond_ended v p q r first second third ended.0 ended.1 h
    | inr on ↦ elim h [
      | inl here ↦ inl (
        (λ e. here.0 (e ∙ sym on.0)),
        subst (λ x. TurnsLeft v p first x third) on.0
            (left_of_alike ring some simple v q second third bent (subst (λ x. IsBentChain ring (v ∷ x ∷ third)) (sym on.0) bent_too) p first
            on.1.more_too here.1),
      )
      | inr later ↦ inr (
        later.0 ∙ on.0,
        left_then_farther p first second third (beyond v p q second (sym later.0) bent) (beyond v p r third (sym (later.0 ∙ on.0)) bent_too)
            later.1 (subst (λ x. IsFrontOf x second third) (sym later.0) on.1.front),
      )
    ]
  ]

  -- what is to the left of a way is to the left of each front of it, or the front is one of that too
  pub front_then_left : (v : Point) (one two three : List Point) → IsBentChain ring (v ∷ one) → IsBentChain ring (v ∷ two)
      → IsFrontOf v one two → IsLeftOf v two three → IsLeftOf v one three ⊎ IsFrontOf v one three
  front_then_left v [] two three bent bent_too h k = inr tt
  front_then_left v (p ∷ first) [] three bent bent_too h k = absurd h
  front_then_left v (p ∷ first) (q ∷ second) [] bent bent_too h k = absurd k
  front_then_left v (p ∷ first) (q ∷ second) (r ∷ third) bent bent_too h k = elim (ends_or_goes_on v p q first second h) [
    | inl ended ↦ left_of_ended v p q r first second third ended.0 ended.1 (λ e. bent.chain.distinct 0 (omega arith) (sym e)) k
    | inr on ↦
        let two_bent = subst (λ x. IsBentChain ring (v ∷ x ∷ second)) (sym on.0) bent_too in
        elim k [
          | inl here ↦ inl (inl (
            (λ e. here.0 (sym on.0 ∙ e)),
            right_of_alike ring some simple v p first second bent two_bent r third on.1.more
                (subst (λ x. TurnsLeft v x second r third) (sym on.0) here.1),
          ))
          | inr later ↦
              elim (front_then_left p first second third (beyond v p p first refl bent) (beyond v p p second refl two_bent) on.1.front
              (subst (λ x. IsLeftOf x second third) (sym on.0) later.1)) [
                | inl left ↦ inl (inr (on.0 ∙ later.0, left))
                | inr front ↦ inr (inl (on.0 ∙ later.0, front))
              ]
        ]
  ]

-- no way to the left of another is a front of it
pub not_front_and_left : (v : Point) (one two : List Point) → IsLeftOf v one two → ¬ IsFrontOf v two one
not_front_and_left v [] two h k = absurd h
not_front_and_left v (p ∷ first) [] h k = absurd h
not_front_and_left v (p ∷ first) (q ∷ second) h k = elim (ends_or_goes_on v q p second first k) [
  | inl ended ↦ not_ended_left v p q q first second second ended.0 ended.1 h
  | inr on ↦ elim h [
    | inl here ↦ here.0 (sym on.0)
    | inr later ↦ not_front_and_left p first second later.1 (subst (λ x. IsFrontOf x second first) on.0 on.1.front)
  ]
]
