-- A rational point that is farther in some direction than all vertices of a ring is not in it; and from each point there is such a point in
-- each direction.
use Rattle.std.proofs.Common.{◌≡◌, inl, inr, refl, ℕ, ◌+◌, ◌<◌, ◌≤◌, le_refl, List, [], ◌∷◌, arith, ℤ, pos, ◌+ℤ◌, ◌-ℤ◌, ◌*ℤ◌, ◌<ℤ◌, ◌≤ℤ◌}
use Rattle.std.proofs.lemmas.Int.{ints}
use Rattle.std.specs.Prelude.{unsigned_abs}
use Rattle.integer_algebra.proofs.Laws.{eq_of_sub-zero, sub-mul}
use Rattle.integer_algebra.proofs.Polynomial.{var, lit, ◌⊕◌, ◌⊖◌, ◌⊗◌, same_value}
use Rattle.integer_algebra.proofs.SignSteps.{natural_not_negative, not_both_positive, one_positive, weak, weak_order}
use Rattle.integer_algebra.proofs.Signs.{mul_nonnegative, mul_order, squares_positive}
use Rattle.plane.proofs.Order.{rise, run}
use Rattle.plane.proofs.Points.{same_sym, whole_is_point}
use Rattle.plane.proofs.Segments.{not_positive_between, on_first_end, on_same_point}
use Rattle.plane.proofs.Turns.{on_of_combination}
use Rattle.plane.specs.Prelude.{IsPoint, IsSame, On, Point, Triple, whole}
use Rattle.rings.proofs.Inside.ExtremePoints.{below_abs, extreme_point, how_far}
use Rattle.rings.proofs.Inside.BreakpointLaw.{not_in_from_even}
use Rattle.rings.proofs.Simple.{same_or_not}
use Rattle.rings.proofs.Vertices.{AllEnds, all_ends_map, closed_edges_of}
use Rattle.rings.specs.Prelude.{Edge, edges_of, IsIn, IsOnSome}

-- ---- beyond all vertices

-- v is less far along (α, β) than p
abbrev pub IsLessFar : ℤ → ℤ → Triple → Point → Type 0
IsLessFar α β p v = ((α *ℤ v.x +ℤ β *ℤ v.y) *ℤ p.W) <ℤ (α *ℤ p.X +ℤ β *ℤ p.Y)

-- how far it is beyond, and one more
not_beyond : (α β X Y W x y : ℤ) → ((α *ℤ x +ℤ β *ℤ y) *ℤ W) <ℤ (α *ℤ X +ℤ β *ℤ Y)
    → ((α *ℤ W) *ℤ x +ℤ (β *ℤ W) *ℤ y +ℤ (pos 1 -ℤ (α *ℤ X +ℤ β *ℤ Y)) *ℤ pos 1) ≤ℤ pos 0
not_beyond α β X Y W x y h = omega (arith, ints, how_far α β W x y)

-- the same of the point itself
one_more : (α β X Y W : ℤ) → pos 0 <ℤ W → pos 0 <ℤ ((α *ℤ W) *ℤ X +ℤ (β *ℤ W) *ℤ Y +ℤ (pos 1 -ℤ (α *ℤ X +ℤ β *ℤ Y)) *ℤ W)
one_more α β X Y W h = omega (arith, ints, how_far α β W X Y, sub-mul (pos 1) (α *ℤ X +ℤ β *ℤ Y) W)

module _ (α β : ℤ) (p : Triple) (at_p : IsPoint p) where
  -- a point that is farther along than all ends is on no edge,
  off_far : (es : List Edge) → AllEnds (IsLessFar α β p) es → ¬ IsOnSome es p
  off_far (e ∷ es) (from, to, rest) (inl on) =
      let end = not_beyond α β p.X p.Y p.W in
      let side = not_positive_between p (whole e.from) (whole e.to) at_p (whole_is_point e.from) (whole_is_point e.to) (α *ℤ p.W) (β *ℤ p.W)
      (pos 1 -ℤ (α *ℤ p.X +ℤ β *ℤ p.Y)) (end e.from.x e.from.y from) (end e.to.x e.to.y to) on in
      not_both_positive (one_more α β p.X p.Y p.W at_p) side
  off_far (e ∷ es) (from, to, rest) (inr on) = off_far es rest on
  off_far [] ends on = on

  -- so it is not in the ring
  pub not_in_extreme : ¬ ((α ≡ pos 0) × (β ≡ pos 0)) → (ring : List Point) → AllEnds (IsLessFar α β p) (edges_of ring) → ¬ IsIn ring p
  not_in_extreme some ring ends =
      let off = off_far (edges_of ring) ends in
      not_in_from_even ring p (pos 0) off
      (extreme_point α β some (edges_of ring) (closed_edges_of ring) p at_p off (all_ends_map (λ v h. weak_order h) (edges_of ring) ends))

-- ---- far away

-- the point n steps on from x
abbrev steps_on : ℤ → ℤ → Triple → ℕ → Triple
steps_on α β x n = record { X = x.X +ℤ pos n *ℤ α; Y = x.Y +ℤ pos n *ℤ β; W = x.W }

-- how far x is from v, along (α, β)
abbrev before : ℤ → ℤ → Triple → Point → ℤ
before α β x v = (α *ℤ v.x +ℤ β *ℤ v.y) *ℤ x.W -ℤ (α *ℤ x.X +ℤ β *ℤ x.Y)

-- steps past all ends
enough : ℤ → ℤ → Triple → List Edge → ℕ
enough α β x [] = 0
enough α β x (e ∷ es) = unsigned_abs (before α β x e.from) + unsigned_abs (before α β x e.to) + enough α β x es + 1

-- n steps lead past what is less far than n
past : (α β X Y z n : ℤ) → pos 0 ≤ℤ n → pos 0 <ℤ (α *ℤ α +ℤ β *ℤ β) → (z -ℤ (α *ℤ X +ℤ β *ℤ Y)) <ℤ n
    → z <ℤ (α *ℤ (X +ℤ n *ℤ α) +ℤ β *ℤ (Y +ℤ n *ℤ β))
past α β X Y z n hn some h =
    let e =
    same_value (var 0 ⊗ (var 2 ⊕ var 4 ⊗ var 0) ⊕ var 1 ⊗ (var 3 ⊕ var 4 ⊗ var 1))
    ((var 0 ⊗ var 2 ⊕ var 1 ⊗ var 3) ⊕ var 4 ⊗ (var 0 ⊗ var 0 ⊕ var 1 ⊗ var 1)) (α ∷ β ∷ X ∷ Y ∷ n ∷ []) refl in
    omega (arith, ints, e, mul_order (pos 1) (α *ℤ α +ℤ β *ℤ β) n hn (omega (arith, ints)))

module _ (α β : ℤ) (some : ¬ ((α ≡ pos 0) × (β ≡ pos 0))) (x : Triple) where
  -- one end
  past_end : (v : Point) (n : ℕ) → unsigned_abs (before α β x v) < n → IsLessFar α β (steps_on α β x n) v
  past_end v n h =
      past α β x.X x.Y ((α *ℤ v.x +ℤ β *ℤ v.y) *ℤ x.W) (pos n) (natural_not_negative n) (squares_positive α β some) (below_abs _ n h)

  -- all of them
  past_all : (es : List Edge) (n : ℕ) → enough α β x es ≤ n → AllEnds (IsLessFar α β (steps_on α β x n)) es
  unfolding enough
  past_all [] n h = tt
  past_all (e ∷ es) n h = (past_end e.from n (omega arith), past_end e.to n (omega arith), past_all es n (omega arith))

-- ---- on from a point, away from another

-- a rational point that is not in the ring, with x on the way to it from q
pub record Outside (ring : List Point) (q x : Triple) : Type 0 where
  pub point : Triple
  pub rational : IsPoint point
  pub on_way : On x q point
  pub out : ¬ IsIn ring point

-- one coordinate of a point between q and what is n steps on
between_steps : (n x w q v : ℤ) → (pos 1 +ℤ n *ℤ v) *ℤ x ≡ (n *ℤ w) *ℤ q +ℤ pos 1 *ℤ (x +ℤ n *ℤ (x *ℤ v -ℤ q *ℤ w))
between_steps n x w q v =
    same_value ((lit (pos 1) ⊕ var 0 ⊗ var 4) ⊗ var 1)
    ((var 0 ⊗ var 2) ⊗ var 3 ⊕ lit (pos 1) ⊗ (var 1 ⊕ var 0 ⊗ (var 1 ⊗ var 4 ⊖ var 3 ⊗ var 2)))
    (n ∷ x ∷ w ∷ q ∷ v ∷ []) refl

-- the weight
weight_between : (n w v : ℤ) → (pos 1 +ℤ n *ℤ v) *ℤ w ≡ (n *ℤ w) *ℤ v +ℤ pos 1 *ℤ w
weight_between n w v =
    same_value ((lit (pos 1) ⊕ var 0 ⊗ var 2) ⊗ var 1) ((var 0 ⊗ var 1) ⊗ var 2 ⊕ lit (pos 1) ⊗ var 1) (n ∷ w ∷ v ∷ []) refl

-- a number that is not negative, and 1
one_and_more : {z : ℤ} → pos 0 ≤ℤ z → pos 0 <ℤ (pos 1 +ℤ z)
one_and_more h = omega (arith, ints)

module _ (ring : List Point) (q x : Triple) (at_q : IsPoint q) (at_x : IsPoint x) where
  -- there is one beyond another point,
  beyond : ¬ IsSame x q → Outside ring q x
  beyond differ =
      let α = run x q in
      let β = rise x q in
      let n : ℕ = enough α β x (edges_of ring) in
      let t = steps_on α β x n in
      let some = λ (h : (α ≡ pos 0) × (β ≡ pos 0)).
      differ (record { same_x = eq_of_sub-zero _ _ h.0; same_y = eq_of_sub-zero _ _ h.1 }) in
      record {
        point = t;
        rational = at_x;
        on_way = on_of_combination x q t at_x at_q at_x (record {
          k = pos 1 +ℤ pos n *ℤ q.W;
          l = pos n *ℤ x.W;
          m = pos 1;
          k_positive = one_and_more (mul_nonnegative (pos n) q.W (natural_not_negative n) (weak at_q));
          l_nonnegative = mul_nonnegative (pos n) x.W (natural_not_negative n) (weak at_x);
          m_nonnegative = weak one_positive;
          in_X = between_steps (pos n) x.X x.W q.X q.W;
          in_Y = between_steps (pos n) x.Y x.W q.Y q.W;
          in_W = weight_between (pos n) x.W q.W;
        });
        out = not_in_extreme α β t at_x some ring (past_all α β some x (edges_of ring) n (le_refl n));
      }

  -- and where both are one point, anywhere
  pub outside : Outside ring q x
  outside = elim (same_or_not x q) [
    | inr differ ↦ beyond differ
    | inl same ↦
        let right : ¬ ((pos 1 ≡ pos 0) × (pos 0 ≡ pos 0)) = λ h. let e = h.0 in omega (arith, ints) in
        let n : ℕ = enough (pos 1) (pos 0) q (edges_of ring) in
        let t = steps_on (pos 1) (pos 0) q n in
        record {
          point = t;
          rational = at_q;
          on_way = on_same_point at_q (same_sym same) (on_first_end q t);
          out = not_in_extreme (pos 1) (pos 0) t at_q right ring (past_all (pos 1) (pos 0) right q (edges_of ring) n (le_refl n));
        }
  ]
