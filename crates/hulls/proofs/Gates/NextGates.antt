-- A point of a side beyond a diagonal is reached from one point in two funnels: of the side from m to the right end in that of m and the points from
-- place h on, and of the side from the left end to m in that of the points to place h, and m.
use Rattle.std.proofs.Common.{◌≡◌, inl, inr, refl, sym, subst, List, ◌∷◌, drop, ℕ, ◌+◌, ◌-◌, ◌≤◌, pos, ◌<ℤ◌, ◌≤ℤ◌, arith, ◌++◌, length}
use Rattle.std.proofs.Common.{take, ◌<◌, min, []}
use Rattle.std.proofs.lemmas.Bool.{cases_lt}
use Rattle.integer_algebra.proofs.SignSteps.{at_most_unless, not_both_positive, weak_order, zero_not_positive, at_least_unless, not_both}
use Rattle.integer_algebra.proofs.SignSteps.{zero_not_negative}
use Rattle.integer_algebra.proofs.Signs.{lt_or_le}
use Rattle.plane.proofs.Points.{whole_is_point}
use Rattle.plane.proofs.Segments.{on_reversed}
use Rattle.plane.proofs.Turns.{determinant_same_ends, determinant_same_last}
use Rattle.plane.specs.Prelude.{determinant, height_over, IsPoint, IsSame, On, Point, Triple, whole}
use Rattle.rings.specs.Chain.{point_at}
use Rattle.ring_laws.proofs.Triangles.{not_right_between}
use Rattle.meshes.proofs.Cones.{not_left_between}
use Rattle.funnels.proofs.Funnels.{left_old_at, next_left_length, next_left_old, not_passed_from, passed_from, passed_of, passed_same}
use Rattle.funnels.proofs.Funnels.{reaches_left, reaches_new, reaches_right, next_right_last, next_right_length, next_right_old, passed_to}
use Rattle.funnels.specs.Funnel.{IsFunnel, IsPassed, IsReachedFrom}
use Rattle.hulls.proofs.Gates.PastSides.{right_towards, left_towards}

module _ (ns : List Point) (a : ℕ) (l r : Point) (f : IsFunnel ns a l r) (h : ℕ) (m : Point) (beyond : height_over l r (whole m) <ℤ pos 0)
    (reached : IsReachedFrom ns a h (whole m)) (z : Triple) (at_z : IsPoint z) (j : ℕ) (from_z : IsReachedFrom ns a j z) where
  module _ (on : On z (whole m) (whole r)) (other : ¬ IsSame z (whole r)) where
    low_left : height_over l r z ≤ℤ pos 0
    low_left =
        not_left_between (whole r) (whole l) z (whole m) (whole r) at_z (whole_is_point m) (whole_is_point r)
        (weak_order beyond) (zero_not_positive (determinant_same_ends (whole r) (whole l))) on

    -- the edge before h is passed on the way to z, as it is on that to m,
    passed_here : (i : ℕ) → i + 1 ≡ h → IsPassed ns a (i + 1) z
    passed_here i same =
        let within = reached.within in
        elim (passed_from ns a (whole m) i (subst (λ n. IsPassed ns a n (whole m)) (sym same) (reached.passed (omega (arith, same))))) [
          | inl left ↦
              passed_of ns a z i (inl (
                left.0,
                λ is.
                    not_both_positive is
                    (not_left_between (whole (point_at ns (i + 1))) (whole (point_at ns i)) z (whole m) (whole r) at_z (whole_is_point m)
                    (whole_is_point r) (at_most_unless left.1) (at_most_unless (reaches_left ns a l r f i left.0).not_left) on),
              ))
          | inr right ↦
              passed_of ns a z i (inr (
                right.0,
                right_towards (whole (point_at ns i)) (whole (point_at ns (i + 1))) z (whole r) (whole m) at_z (whole_is_point r)
                    (whole_is_point m) (on_reversed z (whole m) (whole r) on) other
                    (reaches_right ns a l r f i right.0 (omega (arith, same, within))).not_left right.1,
              ))
        ]

    -- so z is not reached from a place before h,
    not_earlier : h ≤ j
    not_earlier = elim (cases_lt j h) [
      | inr le ↦ le
      | inl before ↦
          let same : h - 1 + 1 ≡ h = omega arith in
          let within = reached.within in
          absurd (not_passed_from ns a l r f z at_z low_left j from_z (h - 1 + 1) (omega arith) (omega arith) (passed_here (h - 1) same))
    ]

    -- the new edge is passed too,
    new_passed : IsPassed (m ∷ drop h ns) (a - h + 1) 1 z
    new_passed =
        let first : point_at (m ∷ drop h ns) (0 + 1) ≡ point_at ns h =
        left_old_at ns h m (m ∷ drop h ns) refl (next_left_old ns m h) 1 h (omega arith) (omega arith) in
        passed_of (m ∷ drop h ns) (a - h + 1) z 0 (inl (
          omega arith,
          rw first
              (λ is.
              not_both_positive is
              (not_left_between (whole (point_at ns h)) (whole m) z (whole m) (whole r) at_z (whole_is_point m) (whole_is_point r)
              (zero_not_positive (determinant_same_last (whole (point_at ns h)) (whole m)))
              (at_most_unless (reaches_new ns a l r f h m beyond reached).not_left) on)),
        ))

    -- and in the funnel of m and the points from place h on, from that many places after m
    next_from_left : IsReachedFrom (m ∷ drop h ns) (a - h + 1) (j - h + 1) z
    next_from_left =
        let top = reached.within in
        let within = from_z.within in
        let ks = m ∷ drop h ns in
        let b = a - h + 1 in
        let g = j - h + 1 in
        let le = not_earlier in
        let count = next_left_length ns m h top in
        let old = left_old_at ns h m ks refl (next_left_old ns m h) in
        record {
          within = omega arith;
          passed = λ _. elim (cases_lt h j) [
            | inl later ↦
                passed_same ns ks a b j g z (λ k. omega arith) (λ k. omega arith) (sym (old g j (omega arith) (omega arith)))
                (sym (old (g - 1) (j - 1) (omega arith) (omega arith))) (from_z.passed (omega arith))
            | inr here ↦ let first : 1 ≡ g = omega arith in subst (λ n. IsPassed ks b n z) first new_passed
          ];
          not_passed = λ more passed.
              from_z.not_passed (omega arith)
              (passed_same ks ns b a (g + 1) (j + 1) z (λ k. omega arith) (λ k. omega arith)
              (old (g + 1) (j + 1) (omega arith) (omega arith)) (old (g + 1 - 1) (j + 1 - 1) (omega arith) (omega arith)) passed);
        }

-- a point of the segment from m to r, not r, is reached from one point in both funnels
pub next_gate_left : (ns : List Point) (a : ℕ) (l r : Point) → IsFunnel ns a l r → (h : ℕ) (m : Point) → height_over l r (whole m) <ℤ pos 0
    → IsReachedFrom ns a h (whole m) → (z : Triple) → IsPoint z → On z (whole m) (whole r) → ¬ IsSame z (whole r) → (j : ℕ)
    → IsReachedFrom ns a j z
    → (i : ℕ) × IsReachedFrom (m ∷ drop h ns) (a - h + 1) i z × (point_at (m ∷ drop h ns) i ≡ point_at ns j)
next_gate_left ns a l r f h m beyond reached z at_z on other j from_z =
    let le = not_earlier ns a l r f h m beyond reached z at_z j from_z on other in (
      j - h + 1,
      next_from_left ns a l r f h m beyond reached z at_z j from_z on other,
      left_old_at ns h m (m ∷ drop h ns) refl (next_left_old ns m h) (j - h + 1) j (omega arith) (omega (arith, le)),
    )

-- ---- A point of the side beyond a diagonal, from its left end to m: in the funnel of the points to place h, and m, it is reached from
-- the same place

module _ (ns : List Point) (a : ℕ) (l r : Point) (f : IsFunnel ns a l r) (h : ℕ) (m : Point) (beyond : height_over l r (whole m) <ℤ pos 0)
    (reached : IsReachedFrom ns a h (whole m)) (z : Triple) (at_z : IsPoint z) (j : ℕ) (from_z : IsReachedFrom ns a j z) where
  module _ (on : On z (whole l) (whole m)) (other : ¬ IsSame z (whole l)) where
    low_right : height_over l r z ≤ℤ pos 0
    low_right =
        not_left_between (whole r) (whole l) z (whole l) (whole m) at_z (whole_is_point l) (whole_is_point m)
        (zero_not_positive (determinant_same_last (whole r) (whole l))) (weak_order beyond) on

    -- the edge after h is not passed on the way to z, as it is not on that to m,
    not_passed_here : h + 1 < length ns → ¬ IsPassed ns a (h + 1) z
    not_passed_here within passed = elim (passed_from ns a z h passed) [
      | inl left ↦
          left.1 (left_towards (whole (point_at ns (h + 1))) (whole (point_at ns h)) z (whole l) (whole m) at_z (whole_is_point l)
          (whole_is_point m) on other (reaches_left ns a l r f h left.0).not_right
          (elim (lt_or_le (pos 0) (determinant (whole (point_at ns (h + 1))) (whole (point_at ns h)) (whole m))) [
            | inl is ↦ is
            | inr none ↦
                absurd (reached.not_passed within
                (passed_of ns a (whole m) h (inl (left.0, λ is. not_both_positive is none))))
          ]))
      | inr right ↦
          not_both right.1
          (not_right_between (whole (point_at ns h)) (whole (point_at ns (h + 1))) z (whole l) (whole m) at_z (whole_is_point l)
          (whole_is_point m) (at_least_unless (reaches_right ns a l r f h right.0 within).not_right)
          (at_least_unless (λ is. reached.not_passed within (passed_of ns a (whole m) h (inr (right.0, is))))) on)
    ]

    -- nor is the new edge,
    new_not_passed : ¬ IsPassed (take (h + 1) ns ++ m ∷ []) (min a h) (h + 1) z
    new_not_passed passed = elim (passed_from (take (h + 1) ns ++ m ∷ []) (min a h) z h passed) [
      | inl left ↦ omega (arith, left.0)
      | inr right ↦
          not_both (rw (next_right_old ns m h reached.within h (omega arith), next_right_last ns m h reached.within) at right.1)
          (not_right_between (whole (point_at ns h)) (whole m) z (whole l) (whole m) at_z (whole_is_point l) (whole_is_point m)
          (at_least_unless (reaches_new ns a l r f h m beyond reached).not_right)
          (zero_not_negative (determinant_same_last (whole (point_at ns h)) (whole m))) on)
    ]

    -- so z is not reached from a later place,
    not_later : j ≤ h
    not_later = elim (cases_lt h j) [
      | inr le ↦ le
      | inl later ↦
          let within = from_z.within in
          absurd (not_passed_here (omega arith) (passed_to ns a l r f z at_z low_right j from_z (h + 1) (omega arith) (omega (arith, later))))
    ]

    -- and in the funnel of the points to place h, and m, from the same place
    next_from_right : IsReachedFrom (take (h + 1) ns ++ m ∷ []) (min a h) j z
    next_from_right =
        let top = reached.within in
        let ks = take (h + 1) ns ++ m ∷ [] in
        let old = next_right_old ns m h top in
        let le = not_later in
        record {
          within = omega (arith, next_right_length ns m h top);
          passed = λ some.
              passed_same ns ks a (min a h) j j z (λ k. omega arith) (λ k. omega arith) (sym (old j le)) (sym (old (j - 1) (omega arith)))
              (from_z.passed some);
          not_passed = λ more passed. elim (cases_lt j h) [
            | inl before ↦
                from_z.not_passed (omega arith)
                (passed_same ks ns (min a h) a (j + 1) (j + 1) z (λ k. omega arith) (λ k. omega arith) (old (j + 1) (omega arith))
                (old (j + 1 - 1) (omega arith)) passed)
            | inr last ↦
                let same : j ≡ h = omega arith in
                new_not_passed (subst (λ n. IsPassed ks (min a h) (n + 1) z) same passed)
          ];
        }

-- a point of the segment from l to m, not l, is reached from one point in both funnels
pub next_gate_right : (ns : List Point) (a : ℕ) (l r : Point) → IsFunnel ns a l r → (h : ℕ) (m : Point) → height_over l r (whole m) <ℤ pos 0
    → IsReachedFrom ns a h (whole m) → (z : Triple) → IsPoint z → On z (whole l) (whole m) → ¬ IsSame z (whole l) → (j : ℕ)
    → IsReachedFrom ns a j z
    → (i : ℕ) × IsReachedFrom (take (h + 1) ns ++ m ∷ []) (min a h) i z × (point_at (take (h + 1) ns ++ m ∷ []) i ≡ point_at ns j)
next_gate_right ns a l r f h m beyond reached z at_z on other j from_z = (
  j,
  next_from_right ns a l r f h m beyond reached z at_z j from_z on other,
  next_right_old ns m h reached.within j (not_later ns a l r f h m beyond reached z at_z j from_z on other),
)
