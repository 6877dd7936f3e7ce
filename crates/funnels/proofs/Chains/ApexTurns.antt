-- To which side the chain turns at the apex of a funnel, by the points at three places.
-- A point that is reached from the apex of a funnel, beyond the diagonal: the way to it turns at the apex as those to both edges do.
-- Signs at the apex of a funnel, over plain integers: of directions there, and of two falls in proportion.
-- A point beyond the diagonal, between the two edges at the apex: the way to it from before the apex turns as those to the edges do.
use Rattle.std.proofs.Common.{◌≡◌, Bool, true, false, sym, subst, List, length, ℕ, ◌+◌, ◌-◌, ◌<◌, pos, ◌<ℤ◌, inl, inr, [], ◌∷◌, refl, ap, ℤ}
use Rattle.std.proofs.Common.{◌+ℤ◌, ◌-ℤ◌, ◌*ℤ◌, neg_ℤ, ◌≤ℤ◌, arith, ◌⊎◌}
use Rattle.std.proofs.lemmas.Int.{ints}
use Rattle.integer_algebra.proofs.Certificate.{product_zero}
use Rattle.integer_algebra.proofs.Laws.{mul_comm}
use Rattle.integer_algebra.proofs.Polynomial.{◌⊕◌, ◌⊖◌, ◌⊗◌, lit, same_value, var}
use Rattle.integer_algebra.proofs.SignSteps.{turned_negative, mean_negative, negative_not_zero, not_both_positive, zero_not_positive}
use Rattle.integer_algebra.proofs.SignSteps.{weak_order, at_least_unless, at_most_unless, opposite_not_negative, opposite_not_positive}
use Rattle.integer_algebra.proofs.SignSteps.{turned_not_negative}
use Rattle.integer_algebra.proofs.Signs.{factor_negative, factor_positive, lt_or_le, mul_negative, mul_negatives, mul_nonpositive}
use Rattle.integer_algebra.proofs.Signs.{mul_positive, is_negative, is_positive, is_zero, sign}
use Rattle.plane.proofs.Points.{whole_is_point}
use Rattle.plane.proofs.Regions.{four_beside}
use Rattle.plane.proofs.Segments.{on_is_straight}
use Rattle.plane.proofs.Turns.{determinant_swap_first, areas_add, combination_of, determinant_same_ends, determinant_swap_last}
use Rattle.plane.proofs.Turns.{straight_swap_first, weights_positive}
use Rattle.plane.specs.Prelude.{determinant, height_over, IsLeft, IsRight, IsStraight, On, Point, whole}
use Rattle.rings.specs.Chain.{point_at}
use Rattle.funnels.proofs.Bends.{turning_along, turning_four, turning_straight}
use Rattle.funnels.proofs.Funnels.{level, lower, straight_on_line, left_of_apex, right_of_apex, window_of_reached, not_negative}
use Rattle.funnels.specs.Fanned.{turning}
use Rattle.funnels.specs.Funnel.{Reaches, IsFunnel, IsReachedFrom}
use Rattle.funnels.specs.OpenFunnel.{IsApexSide}

-- on the way from q over o to n the chain turns to the right, or on the other side to the left
abbrev pub TurnsBack : Bool → Point → Point → Point → Type 0
TurnsBack side q o n = turning side o (whole q) (whole n) <ℤ pos 0

-- what is left of the way from u to v is behind u, seen from v,
pub back_of_left : (u v w : Point) → IsLeft (whole u) (whole v) (whole w) → TurnsBack true u v w
back_of_left u v w left = turned_negative (determinant_swap_first (whole u) (whole v) (whole w)) left

-- and so is, on the other side, what is right of it
pub back_of_right : (u v w : Point) → IsRight (whole u) (whole v) (whole w) → TurnsBack false u v w
back_of_right u v w right = subst (λ z. z <ℤ pos 0) (determinant_swap_first (whole v) (whole u) (whole w)) right

-- where the chain turns to the left there is an edge on the right, and the other way round
abbrev pub HasEdge : Bool → Type 0 → Type 0 → Type 0
HasEdge true on_left on_right = on_right
HasEdge false on_left on_right = on_left

-- there is one where there was one
pub edge_kept : (side : Bool) (A B C D : Type 0) → (A → C) → (B → D) → HasEdge side A B → HasEdge side C D
edge_kept true A B C D f g e = g e
edge_kept false A B C D f g e = f e

-- what holds of two points holds of the same by other names
by_two_points : (T : Point → Point → Type 0) (p q u v : Point) → u ≡ p → v ≡ q → T p q → T u v
by_two_points T p q u v e f t = subst (λ z. T z v) (sym e) (subst (λ z. T p z) (sym f) t)

-- the turns at the apex of a funnel
pub record TurnsAt (ns : List Point) (a : ℕ) (q : Point) (side : Bool) : Type 0 where
  pub edge : HasEdge side (0 < a) (a + 1 < length ns)
  pub left : 0 < a → TurnsBack side q (point_at ns a) (point_at ns (a - 1))
  pub right : a + 1 < length ns → TurnsBack side q (point_at ns a) (point_at ns (a + 1))

module _ (ns : List Point) (a : ℕ) (q : Point) where
  -- are said by the side to which the chain turns,
  pub turns_of_side : (side : Bool) → IsApexSide ns a q side → TurnsAt ns a q side
  turns_of_side true t = record { edge = t.0; left = t.2; right = λ _. t.1 }
  turns_of_side false t = record { edge = t.0; left = λ _. t.1; right = t.2 }

  -- and say it
  side_of_turns : (side : Bool) → TurnsAt ns a q side → IsApexSide ns a q side
  side_of_turns true t = (t.edge, t.right t.edge, t.left)
  side_of_turns false t = (t.edge, t.left t.edge, t.right)

  -- also by other names of the points
  pub side_by : (side : Bool) (o n s : Point) → point_at ns a ≡ o → (0 < a → point_at ns (a - 1) ≡ n)
      → (a + 1 < length ns → point_at ns (a + 1) ≡ s) → HasEdge side (0 < a) (a + 1 < length ns)
      → (0 < a → TurnsBack side q o n) → (a + 1 < length ns → TurnsBack side q o s) → IsApexSide ns a q side
  side_by side o n s apex before after edge left right =
      side_of_turns side (record {
        edge = edge;
        left = λ some. by_two_points (TurnsBack side q) o n (point_at ns a) (point_at ns (a - 1)) apex (before some) (left some);
        right = λ more. by_two_points (TurnsBack side q) o s (point_at ns a) (point_at ns (a + 1)) apex (after more) (right more);
      })

-- the relation of q, p, s and y, where p and s are behind q, y is behind p and not behind s, and s is not ahead of p: y is behind q
pub behind_too : (qp sy qs py qy ps : ℤ) → qp *ℤ sy -ℤ qs *ℤ py +ℤ qy *ℤ ps ≡ pos 0 → qp <ℤ pos 0 → qs <ℤ pos 0 → py <ℤ pos 0
    → pos 0 ≤ℤ sy → ps ≤ℤ pos 0 → qy <ℤ pos 0
behind_too qp sy qs py qy ps e hqp hqs hpy hsy hps = elim (lt_or_le qy (pos 0)) [
  | inl h ↦ h
  | inr h ↦
      let first = mul_nonpositive sy qp hsy (omega (arith, ints)) in
      let middle = mul_negatives qs py hqs hpy in
      let last = mul_nonpositive qy ps h hps in
      absurd (omega (arith, ints))
]

-- two numbers in the proportion of two falls: the one is negative where the other is,
pub same_sign : (gp gy ho hp hy : ℤ) → gp *ℤ (ho -ℤ hy) ≡ gy *ℤ (ho -ℤ hp) → hp <ℤ ho → hy <ℤ ho → gp <ℤ pos 0 → gy <ℤ pos 0
same_sign gp gy ho hp hy e lower_p lower_y h =
    let product = mul_negative (ho -ℤ hy) gp (omega (arith, ints)) h in
    factor_negative (ho -ℤ hp) gy (omega (arith, ints)) (omega (arith, ints))

-- and their opposites too
pub same_sign_opposite : (gp gy ho hp hy : ℤ) → gp *ℤ (ho -ℤ hy) ≡ gy *ℤ (ho -ℤ hp) → hp <ℤ ho → hy <ℤ ho → neg_ℤ gp <ℤ pos 0
    → neg_ℤ gy <ℤ pos 0
same_sign_opposite gp gy ho hp hy e lower_p lower_y h =
    let product = mul_positive (ho -ℤ hy) gp (omega (arith, ints)) (omega (arith, ints)) in
    let positive = factor_positive (ho -ℤ hp) gy (omega (arith, ints)) (omega (arith, ints)) in
    omega (arith, ints)

-- from the relations of four points, of which three are on one line
pub from_relations : (A B C D gp gy ho hp hy hq : ℤ) → A *ℤ ho -ℤ B *ℤ hp +ℤ C *ℤ hy -ℤ D *ℤ hq ≡ pos 0 → A -ℤ B +ℤ C -ℤ D ≡ pos 0
    → B ≡ neg_ℤ gy → C ≡ neg_ℤ gp → D ≡ pos 0 → gp *ℤ (ho -ℤ hy) ≡ gy *ℤ (ho -ℤ hp)
from_relations A B C D gp gy ho hp hy hq e areas b c d =
    let first : A *ℤ ho ≡ (gp -ℤ gy) *ℤ ho = ap (λ n. n *ℤ ho) (omega (arith, ints)) in
    let second : B *ℤ hp ≡ (pos 0 -ℤ gy) *ℤ hp = ap (λ n. n *ℤ hp) (omega (arith, ints)) in
    let third : C *ℤ hy ≡ (pos 0 -ℤ gp) *ℤ hy = ap (λ n. n *ℤ hy) (omega (arith, ints)) in
    let last = product_zero hq d in
    let order = mul_comm D hq in
    let none = lit (pos 0) in
    let same : gp *ℤ (ho -ℤ hy) -ℤ gy *ℤ (ho -ℤ hp) ≡ (gp -ℤ gy) *ℤ ho -ℤ (pos 0 -ℤ gy) *ℤ hp +ℤ (pos 0 -ℤ gp) *ℤ hy =
    same_value (var 0 ⊗ (var 2 ⊖ var 4) ⊖ var 1 ⊗ (var 2 ⊖ var 3))
    ((var 0 ⊖ var 1) ⊗ var 2 ⊖ (none ⊖ var 1) ⊗ var 3 ⊕ (none ⊖ var 0) ⊗ var 4) (gp ∷ gy ∷ ho ∷ hp ∷ hy ∷ []) refl in
    omega (arith, ints)

-- what is not above 0 is below what is above a number that is not below 0
pub far_below : {hy hp ho : ℤ} → hy ≤ℤ pos 0 → pos 0 ≤ℤ hp → hp <ℤ ho → hy <ℤ ho
far_below h k m = omega (arith, ints)

-- numbers of which each is at most the other
pub both_at_most : {h k : ℤ} → h ≤ℤ k → k ≤ℤ h → k ≡ h
both_at_most h k = omega (arith, ints)

-- ---- points on one ray from the apex

module _ (l r o p y : Point) (straight : IsStraight (whole o) (whole p) (whole y)) where
  -- how two points on one line with o are seen from o, by their heights below it
  as_they_fall : (q : Point) → determinant (whole o) (whole q) (whole p) *ℤ (height_over l r (whole o) -ℤ height_over l r (whole y))
      ≡ determinant (whole o) (whole q) (whole y) *ℤ (height_over l r (whole o) -ℤ height_over l r (whole p))
  as_they_fall q =
      from_relations _ _ _ _ _ _ _ _ _ _ (four_beside (whole o) (whole p) (whole y) (whole q) (whole r) (whole l)) (areas_add o p y q)
      (determinant_swap_last (whole o) (whole q) (whole y)) (determinant_swap_last (whole o) (whole q) (whole p)) straight

  -- so they are on one side of each way from o, where they are both lower than o
  same_turn : (side : Bool) (q : Point) → height_over l r (whole p) <ℤ height_over l r (whole o) → height_over l r (whole y) <ℤ height_over l r (whole o)
      → turning side o (whole q) (whole p) <ℤ pos 0 → turning side o (whole q) (whole y) <ℤ pos 0
  same_turn true q = same_sign _ _ _ _ _ (as_they_fall q)
  same_turn false q = same_sign_opposite _ _ _ _ _ (as_they_fall q)

-- ---- between the two edges

module _ (side : Bool) (l r o q y : Point) (beyond : On (whole y) (whole l) (whole r) ⊎ (height_over l r (whole y) <ℤ pos 0)) where
  -- a point beyond the diagonal, or on it, is not above it
  not_above : height_over l r (whole y) ≤ℤ pos 0
  not_above = elim beyond [
    | inr below ↦ weak_order below
    | inl on ↦
        let straight = on_is_straight (whole y) (whole l) (whole r) (whole_is_point y) (whole_is_point l) (whole_is_point r) on in
        zero_not_positive (straight_swap_first (whole l) (whole r) (whole y) straight)
  ]

  -- where both ends of the diagonal are behind q, each point between them is
  behind_between : On (whole y) (whole l) (whole r) → turning side o (whole q) (whole l) <ℤ pos 0
      → turning side o (whole q) (whole r) <ℤ pos 0 → turning side o (whole q) (whole y) <ℤ pos 0
  behind_between on at_l at_r =
      let c = combination_of (whole y) (whole l) (whole r) (whole_is_point y) (whole_is_point l) (whole_is_point r) on in
      mean_negative _ _ _ _ _ _ c.k_positive c.l_nonnegative c.m_nonnegative
      (turning_along side (whole y) (whole l) (whole r) c o (whole q))
      (weights_positive (whole y) (whole l) (whole r) c (whole_is_point y)) at_l at_r

  module _ (p s : Point) (reach : Reaches o p l r) (differ : ¬ (o ≡ p)) (up : pos 0 ≤ℤ height_over l r (whole p))
      (flat : height_over l r (whole o) ≡ pos 0 → (turning side o (whole q) (whole l) <ℤ pos 0) × (turning side o (whole q) (whole r) <ℤ pos 0))
      (at_p : turning side o (whole q) (whole p) <ℤ pos 0) where
    -- where y is in line with the edge to p, it is behind q with p,
    behind_on_edge : turning side o (whole p) (whole y) ≡ pos 0 → turning side o (whole q) (whole y) <ℤ pos 0
    behind_on_edge e =
        let straight = turning_straight side o (whole p) (whole y) e in
        elim (lt_or_le (height_over l r (whole p)) (height_over l r (whole o))) [
          | inl falls ↦ same_turn l r o p y straight side q falls (far_below not_above up falls) at_p
          | inr stays ↦
              let ends = level o p l r reach (both_at_most (lower o p l r reach) stays) in
              let of_o = straight_on_line o p differ (whole r) (whole l) (whole o) ends.1 ends.0
              (determinant_same_ends (whole o) (whole p)) in
              let of_y = straight_on_line o p differ (whole r) (whole l) (whole y) ends.1 ends.0 straight in
              elim beyond [
                | inr below ↦ absurd (negative_not_zero below of_y)
                | inl on ↦ let behind = flat of_o in behind_between on behind.0 behind.1
              ]
        ]

    -- and where it is behind p and not behind s, it is behind q with both
    pub behind_apex : turning side o (whole q) (whole s) <ℤ pos 0 → turning side o (whole p) (whole y) ≤ℤ pos 0
        → pos 0 ≤ℤ turning side o (whole s) (whole y) → turning side o (whole p) (whole s) ≤ℤ pos 0
        → turning side o (whole q) (whole y) <ℤ pos 0
    behind_apex at_s behind ahead opening = elim (sign (turning side o (whole p) (whole y))) [
      | is_positive h ↦ absurd (not_both_positive h behind)
      | is_zero e ↦ behind_on_edge e
      | is_negative h ↦
          behind_too _ _ _ _ _ _ (turning_four side o (whole q) (whole p) (whole s) (whole y)) at_p at_s h ahead opening
    ]

module _ (ns : List Point) (a : ℕ) (l r : Point) (f : IsFunnel ns a l r) (q y : Point)
    (beyond : On (whole y) (whole l) (whole r) ⊎ (height_over l r (whole y) <ℤ pos 0)) (reached : IsReachedFrom ns a a (whole y)) where
  -- such a point is not ahead of the left edge,
  pub not_ahead_of_left : 0 < a → determinant (whole (point_at ns a)) (whole (point_at ns (a - 1))) (whole y) ≤ℤ pos 0
  not_ahead_of_left some =
      at_most_unless ((window_of_reached ns a a (whole y) reached).not_left (point_at ns a) (point_at ns (a - 1)) some
      (inl (omega arith, refl, refl)))

  -- nor behind the right one
  pub not_behind_right : a + 1 < length ns → pos 0 ≤ℤ determinant (whole (point_at ns a)) (whole (point_at ns (a + 1))) (whole y)
  not_behind_right more =
      let e : a ≡ a + 1 - 1 = omega arith in
      at_least_unless ((window_of_reached ns a a (whole y) reached).not_right (point_at ns a) (point_at ns (a + 1)) more
      (inr (omega arith, ap (point_at ns) e, refl)))

  module _ (some : 0 < a) (more : a + 1 < length ns) where
    -- the right edge is not ahead of the left one
    opening : determinant (whole (point_at ns a)) (whole (point_at ns (a - 1))) (whole (point_at ns (a + 1))) ≤ℤ pos 0
    opening = at_most_unless (f.opening some more)

    -- the points beside the apex are other points
    differ_left : ¬ (point_at ns a ≡ point_at ns (a - 1))
    differ_left e =
        let within = f.apex_within in
        let same : a ≡ a - 1 + 1 = omega arith in
        f.differ (a - 1) (omega arith) (sym (subst (λ n. point_at ns n ≡ point_at ns (a - 1)) same e))

    -- where both are behind q, counterclockwise, the point is,
    pub behind_left : turning true (point_at ns a) (whole q) (whole (point_at ns (a - 1))) <ℤ pos 0
        → turning true (point_at ns a) (whole q) (whole (point_at ns (a + 1))) <ℤ pos 0
        → turning true (point_at ns a) (whole q) (whole y) <ℤ pos 0
    behind_left at_left at_right =
        let within = f.apex_within in
        let o = point_at ns a in
        let p = point_at ns (a - 1) in
        let s = point_at ns (a + 1) in
        let behind = λ (z : Point). turning true o (whole q) (whole z) <ℤ pos 0 in
        behind_apex true l r o q y beyond p s (f.reaches a o p some within (inl (omega arith, refl, refl))) differ_left
        (not_negative ns a l r f (a - 1) (omega arith))
        (λ flat. (
          subst behind (left_of_apex ns a l r f flat (a - 1) (omega arith)) at_left,
          subst behind (right_of_apex ns a l r f flat more) at_right,
        )) at_left at_right (not_ahead_of_left some) (not_behind_right more) opening

    -- and clockwise
    pub behind_right : turning false (point_at ns a) (whole q) (whole (point_at ns (a - 1))) <ℤ pos 0
        → turning false (point_at ns a) (whole q) (whole (point_at ns (a + 1))) <ℤ pos 0
        → turning false (point_at ns a) (whole q) (whole y) <ℤ pos 0
    behind_right at_left at_right =
        let o = point_at ns a in
        let p = point_at ns (a - 1) in
        let s = point_at ns (a + 1) in
        let e : a ≡ a + 1 - 1 = omega arith in
        let behind = λ (z : Point). turning false o (whole q) (whole z) <ℤ pos 0 in
        behind_apex false l r o q y beyond s p (f.reaches (a + 1) o s (omega arith) more (inr (omega arith, ap (point_at ns) e, refl)))
        (f.differ a more) (not_negative ns a l r f (a + 1) more)
        (λ flat. (
          subst behind (left_of_apex ns a l r f flat (a - 1) (omega arith)) at_left,
          subst behind (right_of_apex ns a l r f flat more) at_right,
        )) at_right at_left (opposite_not_positive (not_behind_right more)) (opposite_not_negative (not_ahead_of_left some))
        (opposite_not_positive (turned_not_negative (determinant_swap_last (whole o) (whole p) (whole s)) opening))
