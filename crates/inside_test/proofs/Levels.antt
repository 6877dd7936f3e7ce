-- How coordinates compare with a quotient, by the whole numbers below it and above.
use Rattle.std.proofs.Common.{◌≡◌, ◌↔◌, ◌<◌, ◌≤◌, ◌^◌, w64, [], ◌∷◌, refl, ap, ◌∙◌, subst, sym, zero, suc, ℤ, pos, negsuc, neg_ℤ, ◌+ℤ◌, ◌-ℤ◌, ◌*ℤ◌, ◌<ℤ◌, ◌≤ℤ◌, arith}
use Rattle.std.proofs.lemmas.Int.{clamps, ints, to_z-of_z}
use Rattle.std.specs.Int.{int_div_euclid, int_max, int_min, int_rem_euclid}
use Rattle.std.specs.Prelude.{FitsSigned, unsigned_abs}
use mir.Syntax.{w128}
use Rattle.integer_algebra.proofs.Laws.{neg-mul}
use Rattle.integer_algebra.proofs.Polynomial.{var, lit, ◌⊖◌, ◌⊗◌, same_value}
use Rattle.integer_algebra.proofs.Signs.{comparison, is_above, is_below, is_equal, mul_nonnegative}
use Rattle.plane.specs.Point.{IsInLimit, IsSame, Point, Triple, whole}
use Rattle.exact_plane.proofs.Registers.{read, wide}
use Rattle.inside_test.specs.Level.{IsLevel}

-- q is the quotient of a number by w, rounded down, and r the remainder
pub record IsQuotient (part w q r : ℤ) : Type 0 where
  pub positive : pos 0 <ℤ w
  pub whole : q *ℤ w +ℤ r ≡ part
  pub least : pos 0 ≤ℤ r
  pub small : r <ℤ w

-- the quotient and the remainder as they are computed
pub quotient_is : (part w : ℤ) → pos 0 <ℤ w → IsQuotient part w (int_div_euclid part w) (int_rem_euclid part w)
quotient_is (pos n) (pos zero) h = absurd (omega (arith, ints))
quotient_is (pos n) (pos (suc k)) h = record { positive = h; whole = omega (arith, ints); least = omega (arith, ints); small = omega (arith, ints) }
quotient_is (negsuc n) (pos zero) h = absurd (omega (arith, ints))
quotient_is (negsuc n) (pos (suc k)) h = record { positive = h; whole = omega (arith, ints); least = omega (arith, ints); small = omega (arith, ints) }
quotient_is part (negsuc k) h = absurd (omega (arith, ints))

-- products by a positive number, where the first factors differ
product_below : (z q w : ℤ) → z <ℤ q → pos 0 <ℤ w → (z *ℤ w +ℤ w) ≤ℤ (q *ℤ w)
product_below z q w h positive =
    let less : pos 0 ≤ℤ ((q -ℤ z -ℤ pos 1) *ℤ w) = mul_nonnegative _ w (omega (arith, ints)) (omega (arith, ints)) in
    let is : (q -ℤ z -ℤ pos 1) *ℤ w ≡ q *ℤ w -ℤ z *ℤ w -ℤ w =
    same_value ((var 1 ⊖ var 0 ⊖ lit (pos 1)) ⊗ var 2) (var 1 ⊗ var 2 ⊖ var 0 ⊗ var 2 ⊖ var 2) (z ∷ q ∷ w ∷ []) refl in
    below_from _ _ w (rw is at less)
  where
    below_from : (x y w : ℤ) → pos 0 ≤ℤ (y -ℤ x -ℤ w) → (x +ℤ w) ≤ℤ y
    below_from x y w h = omega (arith, ints)

-- the quotient, kept between limits beyond all coordinates
abbrev pub kept : ℤ → ℤ
kept q = int_max (negsuc 4294967295) (int_min q (pos 4294967296))

module _ (part w q r : ℤ) (h : IsQuotient part w q r) (z : ℤ) (small : IsInLimit z) where
  -- it is below the same coordinates as the number
  pub below_is : (kept q <ℤ z) ↔ (part <ℤ (z *ℤ w))
  below_is = elim (comparison z q) [
    | is_below k ↦
        let product = product_below z q w k h.positive in
        (λ l. absurd (omega (arith, ints, clamps)), λ l. absurd (omega (arith, ints, h.whole, h.least, h.positive)))
    | is_equal k ↦
        let product = ap (λ y. y *ℤ w) k in
        (λ l. absurd (omega (arith, ints, clamps)), λ l. absurd (omega (arith, ints, h.whole, h.least)))
    | is_above k ↦
        let product = product_below q z w k h.positive in
        (λ _. omega (arith, ints, h.whole, h.small), λ _. omega (arith, ints, clamps))
  ]

-- what is below the same coordinates as the opposite of a number has an opposite that is above the same ones as the number
above_is : (part w f : ℤ) → ((z : ℤ) → IsInLimit z → (f <ℤ z) ↔ ((pos 0 -ℤ part) <ℤ (z *ℤ w)))
    → (z : ℤ) → IsInLimit z → (z <ℤ (pos 0 -ℤ f)) ↔ ((z *ℤ w) <ℤ part)
above_is part w f h z small =
    let (from, back) = h (neg_ℤ z) (omega (arith, ints, small)) in
    let product = neg-mul z w in
    (λ l. let k = from (omega (arith, ints, l)) in omega (arith, ints, k, product), λ l. let k = back (omega (arith, ints, l, product)) in omega (arith, ints, k))

-- so the two make a level
pub level_is : (part w f g : ℤ) → unsigned_abs part < 2 ^ 75 → unsigned_abs w < 2 ^ 50 → unsigned_abs f ≤ 2 ^ 32 → unsigned_abs g ≤ 2 ^ 32
    → ((z : ℤ) → IsInLimit z → (f <ℤ z) ↔ (wide part <ℤ (z *ℤ wide w)))
    → ((z : ℤ) → IsInLimit z → (g <ℤ z) ↔ (wide (pos 0 -ℤ wide part) <ℤ (z *ℤ wide w)))
    → IsLevel (record { floor = read f; ceiling = read (pos 0 -ℤ read g) }) part w
level_is part w f g small_part small_w small_f small_g below opposite =
    let fits_part : FitsSigned w128 part = omega (arith, ints, small_part) in
    let fits_opposite : FitsSigned w128 (pos 0 -ℤ part) = omega (arith, ints, small_part) in
    let fits_w : FitsSigned w128 w = omega (arith, ints, small_w) in
    let fits_f : FitsSigned w64 f = omega (arith, ints, small_f) in
    let fits_g : FitsSigned w64 g = omega (arith, ints, small_g) in
    let fits_ceiling : FitsSigned w64 (pos 0 -ℤ g) = omega (arith, ints, small_g) in
    let is_part : wide part ≡ part = to_z-of_z w128 part fits_part in
    let is_opposite : wide (pos 0 -ℤ wide part) ≡ pos 0 -ℤ part = ap (λ x. wide (pos 0 -ℤ x)) is_part ∙ to_z-of_z w128 (pos 0 -ℤ part) fits_opposite in
    let is_w : wide w ≡ w = to_z-of_z w128 w fits_w in
    let is_f : read f ≡ f = to_z-of_z w64 f fits_f in
    let is_ceiling : read (pos 0 -ℤ read g) ≡ pos 0 -ℤ g = ap (λ x. read (pos 0 -ℤ x)) (to_z-of_z w64 g fits_g) ∙ to_z-of_z w64 (pos 0 -ℤ g) fits_ceiling in
    record {
      below = λ z small. subst (λ x. (x <ℤ z) ↔ (part <ℤ (z *ℤ w))) (sym is_f)
          (subst (λ x. (f <ℤ z) ↔ (x <ℤ (z *ℤ w))) is_part (subst (λ x. (f <ℤ z) ↔ (wide part <ℤ (z *ℤ x))) is_w (below z small)));
      above = λ z small. subst (λ x. (z <ℤ x) ↔ ((z *ℤ w) <ℤ part)) (sym is_ceiling)
          (above_is part w g (λ y limit. subst (λ x. (g <ℤ y) ↔ (x <ℤ (y *ℤ w))) is_opposite
          (subst (λ x. (g <ℤ y) ↔ (wide (pos 0 -ℤ wide part) <ℤ (y *ℤ x))) is_w (opposite y limit))) z small);
    }

-- ---- points

-- equal coordinates make the same point
pub same_from : (v : Point) (p : Triple) → v.x *ℤ p.W ≡ p.X → v.y *ℤ p.W ≡ p.Y → IsSame (whole v) p
same_from v p across height = record { same_x = omega (arith, ints, across); same_y = omega (arith, ints, height) }

-- and back
pub across_of_same : (v : Point) (p : Triple) → IsSame (whole v) p → v.x *ℤ p.W ≡ p.X
across_of_same v p s = omega (arith, ints, s.same_x)

pub height_of_same : (v : Point) (p : Triple) → IsSame (whole v) p → v.y *ℤ p.W ≡ p.Y
height_of_same v p s = omega (arith, ints, s.same_y)
