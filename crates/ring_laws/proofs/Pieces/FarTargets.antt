-- From each rational point a way far away that avoids two other points.
use Rattle.std.proofs.Common.{◌≡◌, inl, inr, [], ◌∷◌, refl, ℕ, ◌+◌, ◌<◌, ◌≤◌, List, ℤ, pos, ◌+ℤ◌, ◌-ℤ◌, ◌*ℤ◌, neg_ℤ, ◌<ℤ◌, ◌≤ℤ◌, arith}
use Rattle.std.proofs.lemmas.Int.{ints}
use Rattle.std.specs.Prelude.{unsigned_abs}
use Rattle.integer_algebra.proofs.Laws.{mul_comm, neg-mul}
use Rattle.integer_algebra.proofs.Polynomial.{lit, var, ◌⊖◌, ◌⊗◌, same_value}
use Rattle.integer_algebra.proofs.Signs.{factor_zero, mul_order}
use Rattle.plane.proofs.Points.{whole_is_point}
use Rattle.plane.proofs.Segments.{on_is_straight, first_end_by, on_or_not}
use Rattle.plane.proofs.Turns.{combination_of, written_determinant}
use Rattle.plane.specs.Prelude.{determinant, IsPoint, IsSame, On, Point, Triple, whole}
use Rattle.rings.proofs.Inside.{below_abs, none_crossed_above}
use Rattle.rings.proofs.Vertices.{AllEnds}
use Rattle.rings.specs.Prelude.{Edge, winding}

-- ---- heights

-- a bound of the heights of all ends
height : List Edge → ℕ
height [] = 0
height (e ∷ es) = unsigned_abs e.from.y + unsigned_abs e.to.y + height es

-- a number is at most its size
at_most_size : (y : ℤ) (n : ℕ) → unsigned_abs y ≤ n → (y *ℤ pos 1) ≤ℤ pos n
at_most_size y n h = omega (arith, ints)

-- no end is above a point that is as high as the bound
ends_below : (es : List Edge) (n : ℕ) → height es ≤ n → AllEnds (λ v. (v.y *ℤ pos 1) ≤ℤ pos n) es
unfolding height
ends_below [] n h = tt
ends_below (e ∷ es) n h = (at_most_size e.from.y n (omega arith), at_most_size e.to.y n (omega arith), ends_below es n (omega arith))

-- the point k to the right at height n
abbrev target : ℕ → ℕ → Triple
target n k = record { X = pos k; Y = pos n; W = pos 1 }

-- it is a point
target_is_point : (n k : ℕ) → IsPoint (target n k)
target_is_point n k = omega (arith, ints)

-- it is above p
above_size : (Y W n : ℤ) → pos 0 <ℤ W → pos 0 <ℤ n → Y <ℤ n → Y <ℤ (n *ℤ W)
above_size Y W n hW hn h = omega (arith, ints, mul_order (pos 1) W n (omega (arith, ints)) (omega (arith, ints)))

-- ---- two ways from p up to the same height have only p in common

-- the turns from two targets differ by the height over p
turns_differ : (X Y W x y n i j : ℤ) →
    determinant (record { X = X; Y = Y; W = W }) (record { X = i; Y = n; W = pos 1 }) (record { X = x; Y = y; W = pos 1 })
    -ℤ determinant (record { X = X; Y = Y; W = W }) (record { X = j; Y = n; W = pos 1 }) (record { X = x; Y = y; W = pos 1 })
    ≡ (i -ℤ j) *ℤ (W *ℤ y -ℤ Y)
turns_differ X Y W x y n i j =
    let one = lit (pos 1) in
    let at = written_determinant (var 0) (var 1) (var 2) in
    same_value (at (var 6) (var 5) one (var 3) (var 4) one ⊖ at (var 7) (var 5) one (var 3) (var 4) one)
    ((var 6 ⊖ var 7) ⊗ (var 2 ⊗ var 4 ⊖ var 1)) (X ∷ Y ∷ W ∷ x ∷ y ∷ n ∷ i ∷ j ∷ []) refl

-- a factor beside one that is not 0
height_zero : (d e i j h : ℤ) → d -ℤ e ≡ (i -ℤ j) *ℤ h → d ≡ pos 0 → e ≡ pos 0 → ¬ (i ≡ j) → h ≡ pos 0
height_zero d e i j h r ed ee differ = factor_zero (i -ℤ j) h (λ k. differ (omega (arith, ints))) (omega (arith, ints))

-- the height over p, of p itself,
height_itself : (X Y W : ℤ) → pos 0 *ℤ X +ℤ W *ℤ Y +ℤ neg_ℤ Y *ℤ W ≡ pos 0
height_itself X Y W = omega (arith, ints, mul_comm W Y, neg-mul Y W)

-- of a target,
height_target : (X Y W n : ℤ) → Y <ℤ (n *ℤ W) → pos 0 <ℤ (pos 0 *ℤ X +ℤ W *ℤ n +ℤ neg_ℤ Y *ℤ pos 1)
height_target X Y W n h = omega (arith, ints, mul_comm W n)

-- and of a point at the same height
height_level : (x Y W y : ℤ) → W *ℤ y -ℤ Y ≡ pos 0 → (pos 0 *ℤ x +ℤ W *ℤ y +ℤ neg_ℤ Y *ℤ pos 1) ≤ℤ pos 0
height_level x Y W y h = omega (arith, ints)

module _ (p : Triple) (at_p : IsPoint p) (n : ℕ) (above : p.Y <ℤ (pos n *ℤ p.W)) (a : Point) where
  -- a whole point on the ways to two targets is p
  only_start : (i j : ℕ) → ¬ (pos i ≡ pos j) → On (whole a) p (target n i) → On (whole a) p (target n j) → IsSame (whole a) p
  only_start i j differ on_i on_j =
      let at_a = whole_is_point a in
      let s = target n i in
      let t = target n j in
      let level = height_zero _ _ (pos i) (pos j) (p.W *ℤ a.y -ℤ p.Y) (turns_differ p.X p.Y p.W a.x a.y (pos n) (pos i) (pos j))
      (on_is_straight (whole a) p s at_a at_p (target_is_point n i) on_i)
      (on_is_straight (whole a) p t at_a at_p (target_is_point n j) on_j) differ in
      first_end_by (whole a) p s (combination_of (whole a) p s at_a at_p (target_is_point n i) on_i) (pos 0) p.W (neg_ℤ p.Y)
      (height_itself p.X p.Y p.W) (height_target (pos i) p.Y p.W (pos n) above) (height_level a.x p.Y p.W a.y level)

-- ---- a target that two points do not hide

-- the way from p to a far point, round which the edges do not wind, avoids v and z
pub record FarTarget (p : Triple) (v z : Point) (es : List Edge) : Type 0 where
  pub point : Triple
  pub rational : IsPoint point
  pub avoids_first : ¬ (On (whole v) p point)
  pub avoids_last : ¬ (On (whole z) p point)
  pub not_round : winding es point ≡ pos 0

-- the target k steps to the right is one, or v hides it, or z does
data Sight (p : Triple) (v z : Point) (es : List Edge) (n k : ℕ) : Type 0 where
  seen : FarTarget p v z es → Sight p v z es n k
  by_first : On (whole v) p (target n k) → Sight p v z es n k
  by_last : On (whole z) p (target n k) → Sight p v z es n k

-- two numbers of steps that differ
steps_differ : (i j : ℕ) → i < j → ¬ (pos i ≡ pos j)
steps_differ i j h e = omega (arith, ints)

module _ (p : Triple) (at_p : IsPoint p) (v z : Point) (not_v : ¬ (IsSame (whole v) p)) (not_z : ¬ (IsSame (whole z) p))
    (es : List Edge) (n : ℕ) (high : height es ≤ n) (above : p.Y <ℤ (pos n *ℤ p.W)) where
  -- each of the targets is one of these
  sight : (k : ℕ) → Sight p v z es n k
  sight k =
      let t = target n k in
      elim (on_or_not (whole v) p t (whole_is_point v) at_p (target_is_point n k)) [
        | inl on ↦ by_first on
        | inr off_v ↦ elim (on_or_not (whole z) p t (whole_is_point z) at_p (target_is_point n k)) [
          | inl on ↦ by_last on
          | inr off_z ↦ seen (record {
            point = t;
            rational = target_is_point n k;
            avoids_first = off_v;
            avoids_last = off_z;
            not_round = (none_crossed_above t es (ends_below es n high)).no_winding;
          })
        ]
      ]

  -- v does not hide two of them,
  one_by_first : (i j : ℕ) → i < j → On (whole v) p (target n i) → On (whole v) p (target n j) → FarTarget p v z es
  one_by_first i j h on_i on_j = absurd (not_v (only_start p at_p n above v i j (steps_differ i j h) on_i on_j))

  -- nor does z
  one_by_last : (i j : ℕ) → i < j → On (whole z) p (target n i) → On (whole z) p (target n j) → FarTarget p v z es
  one_by_last i j h on_i on_j = absurd (not_z (only_start p at_p n above z i j (steps_differ i j h) on_i on_j))

  -- so of three targets one is seen
  one_seen : Sight p v z es n 0 → Sight p v z es n 1 → Sight p v z es n 2 → FarTarget p v z es
  one_seen (seen f) b c = f
  one_seen a (seen f) c = f
  one_seen a b (seen f) = f
  one_seen (by_first x) (by_first y) c = one_by_first 0 1 (omega arith) x y
  one_seen (by_last x) (by_last y) c = one_by_last 0 1 (omega arith) x y
  one_seen (by_first x) b (by_first y) = one_by_first 0 2 (omega arith) x y
  one_seen (by_last x) b (by_last y) = one_by_last 0 2 (omega arith) x y
  one_seen a (by_first x) (by_first y) = one_by_first 1 2 (omega arith) x y
  one_seen a (by_last x) (by_last y) = one_by_last 1 2 (omega arith) x y

-- a natural number above another is positive
above_positive : (m n : ℕ) → m < n → pos 0 <ℤ pos n
above_positive m n h = omega (arith, ints)

-- each point that is neither v nor z has a way far away that avoids them
pub far_target : (p : Triple) → IsPoint p → (v z : Point) → ¬ (IsSame (whole v) p) → ¬ (IsSame (whole z) p) → (es : List Edge)
    → FarTarget p v z es
far_target p at_p v z not_v not_z es =
    let n : ℕ = height es + unsigned_abs p.Y + 1 in
    let size : unsigned_abs p.Y < n = omega arith in
    let above = above_size p.Y p.W (pos n) at_p (above_positive _ n size) (below_abs p.Y n size) in
    let at = sight p at_p v z not_v not_z es n (omega arith) above in
    one_seen p at_p v z not_v not_z es n (omega arith) above (at 0) (at 1) (at 2)
