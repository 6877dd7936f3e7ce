-- The gates of two points of a step in one triangle are one point, or strictly on one side of the step.
-- Where a point other than b is its own gate in a triangle, it is the gate of all points there: it is the end of the side over which the triangle
-- is entered, and the apex of the funnel, which has no points but the two ends.
use Rattle.std.proofs.Common.{◌≡◌, inl, inr, sym, subst, ap, ◌∙◌, List, [], ◌∷◌, ℕ, arith, ◌⊎◌, length, ◌+◌, ◌-◌, ◌<◌, pos}
use Rattle.std.proofs.lemmas.Bool.{cases_lt}
use Rattle.std.specs.List.{range_with_len}
use Rattle.integer_algebra.proofs.SignSteps.{negative_not_zero, not_both, positive_not_zero, turned_negative}
use Rattle.plane.proofs.Lists.{in_range}
use Rattle.plane.proofs.Points.{whole_is_point}
use Rattle.plane.proofs.Segments.{on_reversed}
use Rattle.plane.proofs.Turns.{determinant_same_ends, determinant_same_last, determinant_swap_first}
use Rattle.plane.specs.Prelude.{height_over, IsLeft, IsPoint, IsRight, On, Point, Triple, whole}
use Rattle.rings.specs.Prelude.{point_at, vertex}
use Rattle.meshes.proofs.Sight.{not_right_of_side}
use Rattle.meshes.specs.Prelude.{Fits, IsInTri, tri_at}
use Rattle.meshes.specs.declared.tri.Tri.{Tri}
use Rattle.funnels.proofs.Corners.{end_of_its_side}
use Rattle.funnels.proofs.Funnels.{left_of_apex, not_negative, right_of_apex}
use Rattle.funnels.specs.Funnel.{IsReachedFrom, IsFunnel}
use Rattle.hulls.proofs.Entrances.{Entrance, IsEntered, IsGate, IsNamed, IsTrail, last_of}
use Rattle.hulls.proofs.Gates.{IsPastDiagonal, gates_beside, past_of_triangle}
use Rattle.hulls.proofs.StepsSeen.LineSides.{IsAlike, beside_by}

-- a gate is b or a vertex
pub gate_named : (corners : List Point) (tris : List Tri) (b : Point) (home : ℕ) (trail : List Entrance) → IsTrail corners tris b home trail
    → (z : Triple) (g : Point) → IsGate b trail z g → IsNamed corners b g
gate_named corners tris b home [] is z g gate = inl (sym gate)
gate_named corners tris b home (e ∷ trail) is z g gate =
    let (h, reached, is_g) = gate in
    subst (IsNamed corners b) is_g (is.0.named h reached.within)

module _ (corners : List Point) (tris : List Tri) (fits : Fits corners tris) (b x y : Point) (p q : Triple) (at_p : IsPoint p) (at_q : IsPoint q)
    (on_p : On p (whole x) (whole y)) (on_q : On q (whole x) (whole y)) where
  module _ (m : ℕ) (e : Entrance) (w : IsEntered corners tris b m e) (in_p : IsInTri corners (tri_at tris e.triangle) p)
      (in_q : IsInTri corners (tri_at tris e.triangle) q) where
    -- the points of a triangle are past the side over which it is entered,
    past : (z : Triple) → IsPoint z → IsInTri corners (tri_at tris e.triangle) z → IsPastDiagonal (vertex corners e.left) (vertex corners e.right) z
    past z at_z in_z =
        let left = (fits.triangles e.triangle w.shared.other_in_list).counterclockwise in
        past_of_triangle corners (tri_at tris e.triangle) left e.left e.right w.shared.other_has z at_z in_z

    -- so two gates are beside the step or one,
    at_places : (j k : ℕ) → IsReachedFrom e.points e.apex j p → IsReachedFrom e.points e.apex k q → ¬ On (whole (point_at e.points j)) p q
        → ¬ On (whole (point_at e.points k)) p q → IsAlike x y (point_at e.points j) (point_at e.points k)
    at_places j k from_p from_q off_p off_q =
        let f = w.funnel.funnel in
        let l = vertex corners e.left in
        let r = vertex corners e.right in
        let past_p = past p at_p in_p in
        let past_q = past q at_q in_q in
        elim (cases_lt j k) [
          | inl less ↦
              let right = gates_beside e.points e.apex l r f p q at_p at_q past_p past_q j k less from_p from_q
              (λ _. off_p) (λ _. off_q) in
              inr (beside_by x y p q at_p at_q on_p on_q (point_at e.points j) (point_at e.points k) (right j (omega arith) (omega (arith, less)))
              (right k (omega (arith, less)) (omega arith)))
          | inr not_less ↦ elim (cases_lt k j) [
            | inl more ↦
                let right = gates_beside e.points e.apex l r f q p at_q at_p past_q past_p k j more from_q from_p
                (λ _ on. off_q (on_reversed (whole (point_at e.points k)) q p on)) (λ _ on. off_p (on_reversed (whole (point_at e.points j)) q p on)) in
                inr (beside_by x y q p at_q at_p on_q on_p (point_at e.points j) (point_at e.points k) (right j (omega (arith, more)) (omega arith))
                (right k (omega arith) (omega (arith, more))))
            | inr not_more ↦ let same : j ≡ k = omega (arith, not_less, not_more) in inl (ap (point_at e.points) same)
          ]
        ]

  -- in each triangle to which a trail leads
  pub alike_in_triangle : (home : ℕ) (trail : List Entrance) → IsTrail corners tris b home trail
      → IsInTri corners (tri_at tris (last_of home trail)) p → IsInTri corners (tri_at tris (last_of home trail)) q → (g h : Point)
      → IsGate b trail p g → IsGate b trail q h → ¬ On (whole g) p q → ¬ On (whole h) p q → IsAlike x y g h
  alike_in_triangle home [] is in_p in_q g h gate_p gate_q off_g off_h = inl (sym gate_p ∙ gate_q)
  alike_in_triangle home (e ∷ trail) is in_p in_q g h gate_p gate_q off_g off_h =
      let (j, from_p, is_g) = gate_p in
      let (k, from_q, is_h) = gate_q in
      subst (λ n. IsAlike x y n h) is_g (subst (IsAlike x y (point_at e.points j)) is_h
      (at_places (last_of home trail) e is.0 in_p in_q j k from_p from_q
      (λ on. off_g (subst (λ (n : Point). On (whole n) p q) is_g on)) (λ on. off_h (subst (λ (n : Point). On (whole n) p q) is_h on))))

-- a point of the funnel that is reached from itself is the apex
own_place : (ns : List Point) (a h : ℕ) (y : Point) → a < length ns → IsReachedFrom ns a h (whole y) → point_at ns h ≡ y → h ≡ a
own_place ns a h y top reached is = elim (cases_lt a h) [
  | inl right ↦ elim (reached.passed (omega (arith, right))) [
    | inl k ↦ absurd (omega (arith, right, k.0))
    | inr k ↦
        absurd (negative_not_zero (subst (λ (p : Point). IsRight (whole (point_at ns (h - 1))) (whole p) (whole y)) is k.1)
        (determinant_same_last (whole (point_at ns (h - 1))) (whole y)))
  ]
  | inr not_right ↦ elim (cases_lt h a) [
    | inl left ↦
        let back : h + 1 - 1 ≡ h = omega arith in
        absurd (reached.not_passed (omega (arith, left, top))
        (inl (
          omega (arith, left),
          λ is_left.
              positive_not_zero (subst (λ (p : Point). IsLeft (whole (point_at ns (h + 1))) (whole p) (whole y)) (ap (point_at ns) back ∙ is) is_left)
              (determinant_same_last (whole (point_at ns (h + 1))) (whole y)),
        )))
    | inr not_left ↦ omega (arith, not_right, not_left)
  ]
]

-- ---- where the apex is an end of the diagonal, all points beyond are reached from it

module _ (ns : List Point) (a : ℕ) (l r : Point) (f : IsFunnel ns a l r) (z : Triple) (beyond : ¬ IsRight (whole l) (whole r) z) (k : ℕ)
    (from_z : IsReachedFrom ns a k z) where
  -- the left end,
  from_left_end : (a ≡ 0 → length ns ≡ 2) → point_at ns a ≡ l → k ≡ a
  from_left_end short is =
      let flat = subst (λ (p : Point). height_over l r (whole p) ≡ pos 0) (sym is) (determinant_same_last (whole r) (whole l)) in
      let none : a ≡ 0 = elim (cases_lt 0 a) [
        | inr none ↦ omega (arith, none)
        | inl some ↦
            let back : a - 1 + 1 ≡ a = omega (arith, some) in
            absurd (f.differ (a - 1) (omega (arith, some, f.apex_within))
            (left_of_apex ns a l r f flat (a - 1) back ∙ sym is ∙ ap (point_at ns) (sym back)))
      ] in
      elim (cases_lt 0 k) [
        | inr first ↦ omega (arith, first, none)
        | inl later ↦
            let one : k ≡ 1 = omega (arith, later, from_z.within, short none) in
            let zero_is : k - 1 ≡ a = omega (arith, one, none) in
            let last_is : length ns - 1 ≡ k = omega (arith, short none, one) in
            elim (from_z.passed later) [
              | inl p ↦ absurd (omega (arith, p.0, none, later))
              | inr p ↦
                  absurd (beyond (subst (λ (u : Point). IsRight (whole u) (whole r) z) (ap (point_at ns) zero_is ∙ is)
                  (subst (λ (u : Point). IsRight (whole (point_at ns (k - 1))) (whole u) z) (ap (point_at ns) (sym last_is) ∙ f.last) p.1)))
            ]
      ]

  -- or the right one
  from_right_end : (a + 1 ≡ length ns → length ns ≡ 2) → point_at ns a ≡ r → k ≡ a
  from_right_end short is =
      let flat = subst (λ (p : Point). height_over l r (whole p) ≡ pos 0) (sym is) (determinant_same_ends (whole r) (whole l)) in
      let last : a + 1 ≡ length ns = elim (cases_lt (a + 1) (length ns)) [
        | inr none ↦ omega (arith, none, f.apex_within)
        | inl some ↦ absurd (f.differ a some (is ∙ sym (right_of_apex ns a l r f flat some)))
      ] in
      elim (cases_lt 0 k) [
        | inl later ↦ omega (arith, later, from_z.within, short last, last)
        | inr first ↦
            let none : k ≡ 0 = omega (arith, first) in
            let next_is : k + 1 ≡ a = omega (arith, none, short last, last) in
            let back : k + 1 - 1 ≡ 0 = omega (arith, none) in
            absurd (from_z.not_passed (omega (arith, none, short last))
            (inl (
              omega (arith, next_is),
              λ is_left. beyond (turned (subst (λ (u : Point). IsLeft (whole u) (whole l) z) (ap (point_at ns) next_is ∙ is)
                  (subst (λ (u : Point). IsLeft (whole (point_at ns (k + 1))) (whole u) z) (ap (point_at ns) back ∙ f.first) is_left))),
            )))
      ]
    where
      -- what is to the left of the way from r to l is to the right of that from l to r
      turned : IsLeft (whole r) (whole l) z → IsRight (whole l) (whole r) z
      turned left = turned_negative (determinant_swap_first (whole r) (whole l) z) left

module _ (corners : List Point) (tris : List Tri) (fits : Fits corners tris) (b : Point) (m : ℕ) (e : Entrance)
    (w : IsEntered corners tris b m e) where
  -- the triangle is in the list
  within : e.triangle < length tris
  within = w.shared.other_in_list

  -- a point of the funnel in the triangle is on the side
  on_side : (h : ℕ) → h < length e.points → IsInTri corners (tri_at tris e.triangle) (whole (point_at e.points h))
      → On (whole (point_at e.points h)) (whole (vertex corners e.left)) (whole (vertex corners e.right))
  on_side h below inside =
      let y = point_at e.points h in
      let l = vertex corners e.left in
      let r = vertex corners e.right in
      let left = (fits.triangles e.triangle within).counterclockwise in
      elim (past_of_triangle corners (tri_at tris e.triangle) left e.left e.right w.shared.other_has (whole y) (whole_is_point y) inside) [
        | inr on ↦ on
        | inl right ↦ absurd (not_both right (not_negative e.points e.apex l r w.funnel.funnel h below))
      ]

  -- so a named point other than b is an end of it
  at_end : (h : ℕ) → h < length e.points → IsInTri corners (tri_at tris e.triangle) (whole (point_at e.points h)) → ¬ (b ≡ point_at e.points h)
      → (point_at e.points h ≡ vertex corners e.left) ⊎ (point_at e.points h ≡ vertex corners e.right)
  at_end h below inside other = elim (w.named h below) [
    | inl same ↦ absurd (other (sym same))
    | inr is_vertex ↦
        let (v, in_ring, is) = is_vertex in
        let l = vertex corners e.left in
        let r = vertex corners e.right in
        elim (end_of_its_side corners (range_with_len 0 (length corners)) tris fits e.triangle e.left e.right v within w.shared.other_has
        (in_range (length corners) v in_ring) (subst (λ (p : Point). On (whole p) (whole l) (whole r)) (sym is) (on_side h below inside))) [
          | inl same ↦ inl (sym is ∙ ap (vertex corners) same)
          | inr same ↦ inr (sym is ∙ ap (vertex corners) same)
        ]
  ]

-- so it is in the last triangle of a trail
pub own_gate : (corners : List Point) (tris : List Tri) (fits : Fits corners tris) (b : Point) (home : ℕ) (trail : List Entrance)
    → IsTrail corners tris b home trail → (y : Point) → ¬ (b ≡ y) → IsInTri corners (tri_at tris (last_of home trail)) (whole y)
    → IsGate b trail (whole y) y → (z : Triple) → IsInTri corners (tri_at tris (last_of home trail)) z → (g : Point) → IsGate b trail z g → g ≡ y
own_gate corners tris fits b home [] is y other in_y own z in_z g gate = absurd (other own)
own_gate corners tris fits b home (e ∷ trail) is y other in_y own z in_z g gate =
    let w = is.0 in
    let l = vertex corners e.left in
    let r = vertex corners e.right in
    let f = w.funnel.funnel in
    let (h, reached, is_y) = own in
    let (k, from_z, is_g) = gate in
    let apex : h ≡ e.apex = own_place e.points e.apex h y f.apex_within reached is_y in
    let at_apex : point_at e.points e.apex ≡ y = ap (point_at e.points) (sym apex) ∙ is_y in
    let beyond = not_right_of_side corners (tri_at tris e.triangle) z in_z e.left e.right w.shared.other_has in
    let ends = at_end corners tris fits b (last_of home trail) e w h reached.within
    (subst (λ (p : Point). IsInTri corners (tri_at tris e.triangle) (whole p)) (sym is_y) in_y) (λ same. other (same ∙ is_y)) in
    let place : k ≡ e.apex = elim ends [
      | inl left ↦ from_left_end e.points e.apex l r f z beyond k from_z w.funnel.ends.short_left (at_apex ∙ sym is_y ∙ left)
      | inr right ↦ from_right_end e.points e.apex l r f z beyond k from_z w.funnel.ends.short_right (at_apex ∙ sym is_y ∙ right)
    ] in
    sym is_g ∙ ap (point_at e.points) place ∙ at_apex
