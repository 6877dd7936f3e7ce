-- A point of a region is a mean of corners: in three corners or more, of the first and two neighbours. So where all corners are on
-- one side of a line, the region is.
use Rattle.std.proofs.Common.{◌≡◌, inl, inr, sym, subst, ◌∙◌, ℕ, zero, suc, ◌+◌, ◌-◌, ◌<◌, ◌≤◌, arith, List, [], ◌∷◌, length, ℤ, pos, ◌+ℤ◌, ◌-ℤ◌, ◌*ℤ◌, neg_ℤ, ◌≤ℤ◌, ◌<ℤ◌}
use Rattle.std.proofs.lemmas.Int.{ints}
use Rattle.integer_algebra.proofs.Laws.{neg-mul}
use Rattle.integer_algebra.proofs.SameSigns.{same_negative, same_nonnegative}
use Rattle.integer_algebra.proofs.SignSteps.{mean_negative, mean_not_negative, opposite_not_negative, turned_not_positive, weak}
use Rattle.integer_algebra.proofs.Signs.{lt_or_le}
use Rattle.plane.proofs.Regions.Sides.{IsInSides, sides_of_region}
use Rattle.plane.proofs.Regions.Weighing.{three_negative, three_not_negative}
use Rattle.plane.proofs.Turns.{combination_of, determinant_along, determinant_is_linear, determinant_same, determinant_swap_first, four_triples}
use Rattle.plane.proofs.Turns.{four_triples_in_W, four_triples_in_X, four_triples_in_Y, weights_positive}
use Rattle.plane.specs.Convex.{AreConvex, corner}
use Rattle.plane.specs.Prelude.{determinant, IsPoint, IsRight, Triple}
use Rattle.plane.specs.Region.{IsInRegion}

-- k p = u a + v b + w c as triples, where k is positive and no weight is negative
pub record IsMeanOfThree (p a b c : Triple) : Type 0 where
  pub k : ℤ
  pub u : ℤ
  pub v : ℤ
  pub w : ℤ
  pub k_positive : pos 0 <ℤ k
  pub u_nonnegative : pos 0 ≤ℤ u
  pub v_nonnegative : pos 0 ≤ℤ v
  pub w_nonnegative : pos 0 ≤ℤ w
  pub in_X : k *ℤ p.X ≡ u *ℤ a.X +ℤ v *ℤ b.X +ℤ w *ℤ c.X
  pub in_Y : k *ℤ p.Y ≡ u *ℤ a.Y +ℤ v *ℤ b.Y +ℤ w *ℤ c.Y
  pub in_W : k *ℤ p.W ≡ u *ℤ a.W +ℤ v *ℤ b.W +ℤ w *ℤ c.W
  pub beside : (x y : Triple) → k *ℤ determinant x y p ≡ u *ℤ determinant x y a +ℤ v *ℤ determinant x y b +ℤ w *ℤ determinant x y c

-- the first corner and two neighbours, and the point as their mean
pub record IsFanned (cs : List Triple) (p : Triple) : Type 0 where
  pub j : ℕ
  pub inner : 1 ≤ j
  pub within : j + 1 < length cs
  pub mean : IsMeanOfThree p (corner cs 0) (corner cs j) (corner cs (j + 1))

-- such a relation as a mean
as_mean : (d u v w z f g h : ℤ) → u *ℤ f -ℤ v *ℤ g +ℤ w *ℤ h -ℤ d *ℤ z ≡ pos 0 → d *ℤ z ≡ u *ℤ f +ℤ neg_ℤ v *ℤ g +ℤ w *ℤ h
as_mean d u v w z f g h e = omega (arith, ints, e, neg-mul v g)

-- the relation of four triples, at a determinant
pub four_beside : (a b c p x y : Triple) →
    determinant b c p *ℤ determinant x y a -ℤ determinant a c p *ℤ determinant x y b
    +ℤ determinant a b p *ℤ determinant x y c -ℤ determinant a b c *ℤ determinant x y p ≡ pos 0
four_beside a b c p x y =
    (λ i. determinant b c p *ℤ determinant_is_linear x y a i -ℤ determinant a c p *ℤ determinant_is_linear x y b i
    +ℤ determinant a b p *ℤ determinant_is_linear x y c i -ℤ determinant a b c *ℤ determinant_is_linear x y p i)
    ∙ four_triples a b c p _ _ _

-- a point between two ways from a, and not right of the way from b to c
mean_between : (p a b c : Triple) → pos 0 <ℤ determinant a b c → pos 0 ≤ℤ determinant b c p → determinant a c p ≤ℤ pos 0
    → pos 0 ≤ℤ determinant a b p → IsMeanOfThree p a b c
mean_between p a b c turned beyond right left = record {
  k = determinant a b c;
  u = determinant b c p;
  v = neg_ℤ (determinant a c p);
  w = determinant a b p;
  k_positive = turned;
  u_nonnegative = beyond;
  v_nonnegative = opposite_not_negative right;
  w_nonnegative = left;
  in_X = as_mean (determinant a b c) (determinant b c p) (determinant a c p) (determinant a b p) _ _ _ _ (four_triples_in_X a b c p);
  in_Y = as_mean (determinant a b c) (determinant b c p) (determinant a c p) (determinant a b p) _ _ _ _ (four_triples_in_Y a b c p);
  in_W = as_mean (determinant a b c) (determinant b c p) (determinant a c p) (determinant a b p) _ _ _ _ (four_triples_in_W a b c p);
  beside = λ x y. as_mean (determinant a b c) (determinant b c p) (determinant a c p) (determinant a b p) _ _ _ _ (four_beside a b c p x y);
}

module _ (cs : List Triple) (p : Triple) (convex : AreConvex cs) (sides : IsInSides cs p) where
  -- p is between the ways from the first corner to these neighbours
  fan_at : (j : ℕ) → 1 ≤ j → j + 1 < length cs → pos 0 ≤ℤ determinant (corner cs 0) (corner cs j) p
      → determinant (corner cs 0) (corner cs (j + 1)) p ≤ℤ pos 0 → IsFanned cs p
  fan_at j inner within left right = record {
    j = j;
    inner = inner;
    within = within;
    mean = mean_between p (corner cs 0) (corner cs j) (corner cs (j + 1))
        (convex.left 0 j (j + 1) (omega (arith, inner)) (omega arith) within) (sides.along j within) right left;
  }

  -- such neighbours are found from corner j on
  fan_from : (t j : ℕ) → 1 ≤ j → j + 2 + t ≡ length cs → pos 0 ≤ℤ determinant (corner cs 0) (corner cs j) p → IsFanned cs p
  fan_from zero j inner count left =
      let last : j + 1 ≡ length cs - 1 = omega (arith, count) in
      fan_at j inner (omega (arith, count)) left
      (subst (λ k. determinant (corner cs 0) (corner cs k) p ≤ℤ pos 0) (sym last)
      (turned_not_positive (determinant_swap_first (corner cs (length cs - 1)) (corner cs 0) p) sides.closing))
  fan_from (suc t) j inner count left = elim (lt_or_le (pos 0) (determinant (corner cs 0) (corner cs (j + 1)) p)) [
    | inl more ↦ fan_from t (j + 1) (omega (arith, inner)) (omega (arith, count)) (weak more)
    | inr here ↦ fan_at j inner (omega (arith, count)) left here
  ]

-- so a point of a region of three corners or more is in a triangle of its fan
pub fanned : (cs : List Triple) (p : Triple) → AreConvex cs → 3 ≤ length cs → IsInSides cs p → IsFanned cs p
fanned cs p convex many sides =
    fan_from cs p convex sides (length cs - 3) 1 (omega arith) (omega (arith, many)) (sides.along 0 (omega (arith, many)))

-- ---- one side of a line

module _ (x y : Triple) where
  -- where no corner is right of a line, the region is not
  pub region_not_right : (cs : List Triple) (p : Triple) → AreConvex cs → IsPoint p → IsInRegion cs p
      → ((i : ℕ) → i < length cs → pos 0 ≤ℤ determinant x y (corner cs i)) → pos 0 ≤ℤ determinant x y p
  region_not_right [] p convex at_p h all = absurd h
  region_not_right (a ∷ []) p convex at_p h all =
      same_nonnegative _ _ a.W p.W (convex.rational 0 (omega arith)) at_p (sym (determinant_same x y p a h)) (all 0 (omega arith))
  region_not_right (a ∷ b ∷ []) p convex at_p h all =
      let c = combination_of p a b at_p (convex.rational 0 (omega arith)) (convex.rational 1 (omega arith)) h in
      mean_not_negative c.k c.l c.m _ _ _ c.k_positive c.l_nonnegative c.m_nonnegative (determinant_along p a b c x y)
      (all 0 (omega arith)) (all 1 (omega arith))
  region_not_right (a ∷ b ∷ c ∷ cs) p convex at_p h all =
      let f = fanned (a ∷ b ∷ c ∷ cs) p convex (omega arith) (sides_of_region (a ∷ b ∷ c ∷ cs) p (omega arith) h) in
      let m = f.mean in
      three_not_negative m.k m.u m.v m.w _ _ _ _ m.k_positive m.u_nonnegative m.v_nonnegative m.w_nonnegative (m.beside x y)
      (all 0 (omega arith)) (all f.j (omega (arith, f.within))) (all (f.j + 1) f.within)

  -- and where all corners are right of it, the region is
  pub region_right : (cs : List Triple) (p : Triple) → AreConvex cs → IsPoint p → IsInRegion cs p
      → ((i : ℕ) → i < length cs → IsRight x y (corner cs i)) → IsRight x y p
  region_right [] p convex at_p h all = absurd h
  region_right (a ∷ []) p convex at_p h all =
      same_negative _ _ a.W p.W (convex.rational 0 (omega arith)) at_p (sym (determinant_same x y p a h)) (all 0 (omega arith))
  region_right (a ∷ b ∷ []) p convex at_p h all =
      let c = combination_of p a b at_p (convex.rational 0 (omega arith)) (convex.rational 1 (omega arith)) h in
      mean_negative c.k c.l c.m _ _ _ c.k_positive c.l_nonnegative c.m_nonnegative (determinant_along p a b c x y)
      (weights_positive p a b c at_p) (all 0 (omega arith)) (all 1 (omega arith))
  region_right (a ∷ b ∷ c ∷ cs) p convex at_p h all =
      let f = fanned (a ∷ b ∷ c ∷ cs) p convex (omega arith) (sides_of_region (a ∷ b ∷ c ∷ cs) p (omega arith) h) in
      let m = f.mean in
      three_negative m.k m.u m.v m.w _ _ _ _ m.k_positive m.u_nonnegative m.v_nonnegative m.w_nonnegative (m.beside x y)
      _ _ _ _ at_p m.in_W (all 0 (omega arith)) (all f.j (omega (arith, f.within))) (all (f.j + 1) f.within)
