-- At an end of a step past no vertex: the point before the end on its path from b is the gate of an inner point in one triangle with it,
-- or both are strictly on one side of the step; or the end itself is the gate.
-- A step past no vertex in the triangles of a trail: its inner points there have gates that are one point, or all strictly on one side of
-- the step, and so is what comes before its ends.
-- How a step past no vertex is seen from a point, by what comes before its ends.
use Rattle.std.proofs.Common.{◌≡◌, ◌⊎◌, inl, inr, sym, subst, List, ℕ, ◌<◌, length, ap, ◌∙◌, ◌+◌, ◌-◌, arith}
use Rattle.integer_algebra.proofs.SignSteps.{turned_negative, turned_positive}
use Rattle.integer_algebra.proofs.Signs.{is_negative, is_positive, is_zero, sign}
use Rattle.plane.proofs.Order.{point_or_other}
use Rattle.plane.proofs.Points.{whole_is_point}
use Rattle.plane.proofs.Segments.{on_first_end, on_is_straight, middle, middle_first, middle_is_point, middle_last, middle_on, on_reversed}
use Rattle.plane.proofs.Segments.{on_last_end}
use Rattle.plane.proofs.Turns.{determinant_swap_first}
use Rattle.plane.specs.Prelude.{determinant, IsStraight, On, Point, Triple, whole}
use Rattle.rings.specs.Prelude.{point_at, vertex}
use Rattle.rings.specs.From.{IsPredecessor}
use Rattle.rings.specs.Full.{IsVertexBetween}
use Rattle.ring_laws.proofs.Triangles.{between_in_triangle}
use Rattle.meshes.specs.Prelude.{Fits, IsInTri, tri_at}
use Rattle.meshes.specs.declared.tri.Tri.{Tri}
use Rattle.hulls.proofs.Entrances.{Entrance, IsBetween, IsGate, IsNamed, IsTrail, before_gate, has_gate, last_of, between_back}
use Rattle.hulls.proofs.Joined.{path_is_taut}
use Rattle.hulls.proofs.StepsSeen.InnerPoints.{named_near_end, named_off, named_at_end}
use Rattle.hulls.proofs.StepsSeen.LineSides.{IsAlike, alike_on, alike_on_line, alike_back}
use Rattle.hulls.proofs.StepsSeen.OwnGates.{own_gate, alike_in_triangle, gate_named}
use Rattle.hulls.proofs.Turning.{one_between}
use Rattle.hulls.specs.Joined.{IsOnPath}
use Rattle.hulls.specs.Steps.{IsSeenFrom, away, from_left, from_right, towards}

-- what comes before x, seen from b, is alike with g
pub record ComesAlike (corners : List Point) (b x y g : Point) : Type 0 where
  pub point : Point
  pub before : IsPredecessor corners b x point
  pub named : IsNamed corners b point
  pub alike : IsAlike x y point g

-- or x is g
abbrev pub Comes : List Point → Point → Point → Point → Point → Type 0
Comes corners b x y g = (g ≡ x) ⊎ ComesAlike corners b x y g

-- the first end is on its line
pub first_straight : (x y : Point) → IsStraight (whole x) (whole y) (whole x)
first_straight x y =
    on_is_straight (whole x) (whole x) (whole y) (whole_is_point x) (whole_is_point x) (whole_is_point y) (on_first_end (whole x) (whole y))

-- so it is with a point that is alike with g
pub comes_on : (corners : List Point) (b x y g h : Point) → Comes corners b x y g → IsAlike x y g h → Comes corners b x y h
comes_on corners b x y g h (inl same) alike =
    inl (sym (alike_on_line x y x h (first_straight x y) (subst (λ n. IsAlike x y n h) same alike)))
comes_on corners b x y g h (inr comes) alike =
    inr (record { point = comes.point; before = comes.before; named = comes.named; alike = alike_on x y comes.point g h comes.alike alike })

module _ (corners : List Point) (tris : List Tri) (fits : Fits corners tris) (b : Point) (home : ℕ) (within : home < length tris)
    (in_b : IsInTri corners (tri_at tris home) (whole b)) (x y : Point) (clear : (v : Point) → ¬ IsVertexBetween corners x y v)
    (off : ¬ On (whole b) (whole x) (whole y)) (trail : List Entrance) (is : IsTrail corners tris b home trail) where
  -- b is not the end
  not_source : ¬ (b ≡ x)
  not_source same = off (subst (λ (p : Point). On (whole p) (whole x) (whole y)) (sym same) (on_first_end (whole x) (whole y)))

  -- at the end
  pub comes_first : IsInTri corners (tri_at tris (last_of home trail)) (whole x) → (z : Triple) → IsBetween x y z
      → IsInTri corners (tri_at tris (last_of home trail)) z → (g : Point) → IsGate b trail z g → Comes corners b x y g
  comes_first in_x z at_z in_z g gate =
      let (q, own) = has_gate corners tris b home trail is (whole x) in
      elim (point_or_other q x) [
        | inl same ↦ inl (own_gate corners tris fits b home trail is x not_source in_x (subst (IsGate b trail (whole x)) same own) z in_z g gate)
        | inr differ ↦ elim (point_or_other g x) [
          | inl same ↦ inl same
          | inr other ↦
              let named = gate_named corners tris b home trail is (whole x) q own in
              let near = λ (n : Point) (has : IsNamed corners b n) (on : On (whole n) (whole x) z).
              named_near_end corners b x y clear off n has z at_z on in
              inr (record {
                point = q;
                before = before_gate corners tris fits b home within in_b trail is x q in_x own differ;
                named = named;
                alike = alike_in_triangle corners tris fits b x y (whole x) z (whole_is_point x) at_z.rational
                    (on_first_end (whole x) (whole y)) at_z.on home trail is in_x in_z q g own gate (λ on. differ (near q named on))
                    (λ on. other (near g (gate_named corners tris b home trail is z g gate) on));
              })
        ]
      ]

-- ---- a step

-- where no vertex is between two points, none is in the other order either
pub none_between_back : (corners : List Point) (x y : Point) → ((v : Point) → ¬ IsVertexBetween corners x y v) → (v : Point)
    → ¬ IsVertexBetween corners y x v
none_between_back corners x y none v between = none v (record {
  i = between.i;
  in_ring = between.in_ring;
  is_vertex = between.is_vertex;
  on = on_reversed (whole v) (whole y) (whole x) between.on;
  not_first = between.not_last;
  not_last = between.not_first;
})

-- from x to y, past no vertex, with b not on it
pub record IsClear (corners : List Point) (b x y : Point) : Type 0 where
  pub differ : ¬ (x ≡ y)
  pub clear : (v : Point) → ¬ IsVertexBetween corners x y v
  pub off : ¬ On (whole b) (whole x) (whole y)

-- so it is read backward
pub clear_back : (corners : List Point) (b x y : Point) → IsClear corners b x y → IsClear corners b y x
clear_back corners b x y step = record {
  differ = λ same. step.differ (sym same);
  clear = none_between_back corners x y step.clear;
  off = λ on. step.off (on_reversed (whole b) (whole y) (whole x) on);
}

-- some point is alike with what comes before both ends
pub record ComesToBoth (corners : List Point) (b x y : Point) : Type 0 where
  pub gate : Point
  pub first : Comes corners b x y gate
  pub last : Comes corners b y x gate

module _ (corners : List Point) (tris : List Tri) (fits : Fits corners tris) (b : Point) (home : ℕ) (within : home < length tris)
    (in_b : IsInTri corners (tri_at tris home) (whole b)) (x y : Point) (step : IsClear corners b x y) where
  -- ---- in one triangle

  -- an inner point with a gate that is alike with what comes before x
  pub record HasComeTo (trail : List Entrance) (z : Triple) : Type 0 where
    pub between : IsBetween x y z
    pub inside : IsInTri corners (tri_at tris (last_of home trail)) z
    pub gate : Point
    pub is_gate : IsGate b trail z gate
    pub first : Comes corners b x y gate

  -- from x on there is one at each inner point,
  from_first : (trail : List Entrance) → IsTrail corners tris b home trail → IsInTri corners (tri_at tris (last_of home trail)) (whole x)
      → (z : Triple) → IsBetween x y z → IsInTri corners (tri_at tris (last_of home trail)) z → HasComeTo trail z
  from_first trail is in_x z between in_z =
      let (g, gate) = has_gate corners tris b home trail is z in
      record {
        between = between;
        inside = in_z;
        gate = g;
        is_gate = gate;
        first = comes_first corners tris fits b home within in_b x y step.clear step.off trail is in_x z between in_z g gate;
      }

  -- and so there is from another one on
  from_inner : (trail : List Entrance) → IsTrail corners tris b home trail → (p : Triple) → HasComeTo trail p
      → (z : Triple) → IsBetween x y z → IsInTri corners (tri_at tris (last_of home trail)) z → HasComeTo trail z
  from_inner trail is p come z between in_z =
      let (g, gate) = has_gate corners tris b home trail is z in
      let off = λ (n : Point) (named : IsNamed corners b n). named_off corners b x y step.clear step.off n named p z come.between between in
      record {
        between = between;
        inside = in_z;
        gate = g;
        is_gate = gate;
        first = comes_on corners b x y come.gate g come.first
            (alike_in_triangle corners tris fits b x y p z come.between.rational between.rational come.between.on between.on
            home trail is come.inside in_z come.gate g come.is_gate gate
            (off come.gate (gate_named corners tris b home trail is p come.gate come.is_gate))
            (off g (gate_named corners tris b home trail is z g gate)));
      }

  -- the walk is at x, or at such a point
  abbrev pub IsOnWay : List Entrance → Type 0
  IsOnWay trail = IsInTri corners (tri_at tris (last_of home trail)) (whole x) ⊎ ((z : Triple) × HasComeTo trail z)

  -- so it goes on to each inner point,
  pub goes_on : (trail : List Entrance) → IsTrail corners tris b home trail → IsOnWay trail → (z : Triple) → IsBetween x y z
      → IsInTri corners (tri_at tris (last_of home trail)) z → HasComeTo trail z
  goes_on trail is (inl in_x) = from_first trail is in_x
  goes_on trail is (inr (p, come)) = from_inner trail is p come

  -- the middle is one,
  middle_between : IsBetween x y (middle x y)
  middle_between = record {
    rational = middle_is_point x y;
    on = middle_on x y;
    not_first = λ same. step.differ (middle_first x y same);
    not_last = λ same. step.differ (middle_last x y same);
  }

  -- and to the end
  pub at_last : (trail : List Entrance) → IsTrail corners tris b home trail → IsOnWay trail
      → IsInTri corners (tri_at tris (last_of home trail)) (whole y) → ComesToBoth corners b x y
  at_last trail is way in_y =
      let t = tri_at tris (last_of home trail) in
      let inner : (z : Triple) × HasComeTo trail z = elim way [
        | inl in_x ↦ (
          middle x y,
          from_first trail is in_x (middle x y) middle_between
              (between_in_triangle (vertex corners t.a) (vertex corners t.b) (vertex corners t.c) (middle x y) (whole x) (whole y)
              (middle_is_point x y) (whole_is_point x) (whole_is_point y) in_x in_y (middle_on x y)),
        )
        | inr inner ↦ inner
      ] in
      let (z, come) = inner in
      let back = clear_back corners b x y step in
      record {
        gate = come.gate;
        first = come.first;
        last = comes_first corners tris fits b home within in_b y x back.clear back.off trail is in_y z
            (between_back x y z come.between) come.inside come.gate come.is_gate;
      }

-- a point between an end of a path and what comes before that is on the path
on_last_part : (ring : List Point) (b t n v : Point) → IsPredecessor ring b t n → On (whole v) (whole n) (whole t) → IsOnPath ring b t v
on_last_part ring b t n v before on =
    let path = before.path in
    let k = length path - 2 in
    let place : length path - 1 ≡ k + 1 = omega (arith, before.more) in
    record {
      path = path;
      is_path = before.is_path;
      place = k;
      within = omega (arith, before.more);
      on = subst (λ (p : Point). On (whole v) (whole p) (whole (point_at path (k + 1)))) (sym before.is)
          (subst (λ (p : Point). On (whole v) (whole n) (whole p))
          (sym (path_is_taut ring b t path before.is_path).last ∙ ap (point_at path) place) on);
    }

-- so is what comes before it
on_before : (ring : List Point) (b t n : Point) → IsPredecessor ring b t n → IsOnPath ring b t n
on_before ring b t n before = on_last_part ring b t n n before (on_first_end (whole n) (whole t))

-- points alike along a step are so along it read backward
alike_turned : (x y g h : Point) → IsAlike y x g h → IsAlike x y g h
alike_turned x y g h (inl same) = inl same
alike_turned x y g h (inr (inl left)) =
    let turned = λ (p : Point). turned_negative (determinant_swap_first (whole y) (whole x) (whole p)) in
    inr (inr (turned g left.0, turned h left.1))
alike_turned x y g h (inr (inr right)) =
    let turned = λ (p : Point). turned_positive (determinant_swap_first (whole y) (whole x) (whole p)) in
    inr (inl (turned g right.0, turned h right.1))

-- the last end is on the line of a step
last_straight : (x y : Point) → IsStraight (whole x) (whole y) (whole y)
last_straight x y =
    on_is_straight (whole y) (whole x) (whole y) (whole_is_point y) (whole_is_point x) (whole_is_point y) (on_last_end (whole x) (whole y))

module _ (corners : List Point) (b x y : Point) (step : IsClear corners b x y) where
  -- where one point n comes before both ends
  from_one : (n : Point) → IsNamed corners b n → IsPredecessor corners b x n → IsPredecessor corners b y n → IsSeenFrom corners b x y
  from_one n named first last = elim (sign (determinant (whole x) (whole y) (whole n))) [
    | is_positive h ↦ from_left n n first last h h
    | is_negative h ↦ from_right n n first last h h
    | is_zero straight ↦ elim (one_between x y n straight) [
      | inl beyond_last ↦ towards (on_last_part corners b x n y first (on_reversed (whole y) (whole x) (whole n) beyond_last))
      | inr (inl on) ↦ elim (named_at_end corners b x y step.clear step.off n named on) [
        | inl is_first ↦ away (subst (IsOnPath corners b y) is_first (on_before corners b y n last))
        | inr is_last ↦ towards (subst (IsOnPath corners b x) is_last (on_before corners b x n first))
      ]
      | inr (inr before_first) ↦ away (on_last_part corners b y n x last (on_reversed (whole x) (whole y) (whole n) before_first))
    ]
  ]

  -- where two alike ones do
  from_two : (p q : Point) → IsNamed corners b p → IsPredecessor corners b x p → IsPredecessor corners b y q → IsAlike x y p q → IsSeenFrom corners b x y
  from_two p q named first last (inl same) = from_one p named first (subst (IsPredecessor corners b y) (sym same) last)
  from_two p q named first last (inr (inl left)) = from_left p q first last left.0 left.1
  from_two p q named first last (inr (inr right)) = from_right p q first last right.0 right.1

  -- and in each case
  pub seen : ComesToBoth corners b x y → IsSeenFrom corners b x y
  seen both = elim both.first [
    | inl at_first ↦ elim both.last [
      | inl at_last ↦ absurd (step.differ (sym at_first ∙ at_last))
      | inr last ↦
          let alike = alike_turned x y last.point both.gate last.alike in
          let same : x ≡ last.point = alike_on_line x y x last.point (first_straight x y)
          (alike_back x y last.point x (subst (IsAlike x y last.point) at_first alike)) in
          away (subst (IsOnPath corners b y) (sym same) (on_before corners b y last.point last.before))
    ]
    | inr first ↦ elim both.last [
      | inl at_last ↦
          let same : y ≡ first.point = alike_on_line x y y first.point (last_straight x y)
          (alike_back x y first.point y (subst (IsAlike x y first.point) at_last first.alike)) in
          towards (subst (IsOnPath corners b x) (sym same) (on_before corners b x first.point first.before))
      | inr last ↦
          from_two first.point last.point first.named first.before last.before
          (alike_on x y first.point both.gate last.point first.alike
          (alike_back x y last.point both.gate (alike_turned x y last.point both.gate last.alike)))
    ]
  ]
