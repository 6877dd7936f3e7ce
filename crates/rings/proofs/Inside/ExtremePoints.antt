-- Points from which no edge is crossed: above all ends of the edges, or below all.
-- A point that is farthest in some direction is wound round by no closed list of edges.
use Rattle.std.proofs.Common.{◌≡◌, refl, ◌∙◌, ◌+◌, pos, ◌+ℤ◌, ◌*ℤ◌, ◌<ℤ◌, ◌≤ℤ◌, List, [], ◌∷◌, ◌⊎◌, inl, inr, ℕ, ◌<◌, ◌≤◌, le_refl, arith}
use Rattle.std.proofs.Common.{ℤ, negsuc, ◌-ℤ◌, neg_ℤ}
use Rattle.std.proofs.lemmas.Int.{ints}
use Rattle.std.specs.Prelude.{cond, unsigned_abs}
use Rattle.integer_algebra.proofs.Laws.{sub-mul}
use Rattle.integer_algebra.proofs.Polynomial.{var, lit, ◌⊕◌, ◌⊖◌, ◌⊗◌, same_value}
use Rattle.integer_algebra.proofs.SignSteps.{not_below, natural_not_negative}
use Rattle.integer_algebra.proofs.Signs.{is_negative, is_positive, is_zero, mul_order, mul_positive, sign, square_positive}
use Rattle.integer_algebra.proofs.Signs.{squares_positive}
use Rattle.plane.proofs.Order.{rise}
use Rattle.plane.proofs.Points.{whole_is_point}
use Rattle.plane.proofs.Segments.{first_end_by, not_positive_between}
use Rattle.plane.proofs.Turns.{linear, combination_of}
use Rattle.plane.specs.Point.{IsPoint, Point, Triple, whole}
use Rattle.rings.proofs.Crossings.{crossings-cons, CrossedDown, CrossedUp, CrossingCase, crossing_cases, downward, uncrossed, upward}
use Rattle.rings.proofs.Crossings.{winding_law}
use Rattle.rings.proofs.Vertices.{AllEnds, all_ends_map, on_some_same}
use Rattle.rings.specs.Across.{Misses}
use Rattle.rings.specs.Prelude.{crossings, Edge, IsClosed, IsOnSome, winding}

-- ---- a segment along which a linear functional rises misses edges at whose ends it is not positive

-- ---- a functional that is not positive at the ends of the edges

module _ (α β γ : ℤ) where
  -- is not positive on the edges
  not_positive_on : (es : List Edge) → AllEnds (λ v. linear α β γ (whole v) ≤ℤ pos 0) es → (x : Triple) → IsPoint x
      → IsOnSome es x → linear α β γ x ≤ℤ pos 0
  not_positive_on (e ∷ es) (from, to, rest) x at_x (inl on) =
      not_positive_between x (whole e.from) (whole e.to) at_x (whole_is_point e.from) (whole_is_point e.to) α β γ from to on
  not_positive_on (e ∷ es) (from, to, rest) x at_x (inr on) = not_positive_on es rest x at_x on
  not_positive_on [] ends x at_x on = absurd on

  -- a segment along which it rises from 0 misses the edges, where it does not begin on them
  pub misses_rising : (p q : Triple) (es : List Edge) → IsPoint p → IsPoint q
      → AllEnds (λ v. linear α β γ (whole v) ≤ℤ pos 0) es → linear α β γ p ≡ pos 0 → pos 0 <ℤ linear α β γ q
      → ¬ (IsOnSome es p) → Misses p q es
  misses_rising p q es at_p at_q ends zero up off x at_x on h =
      let same = first_end_by x p q (combination_of x p q at_x at_p at_q on) α β γ zero up (not_positive_on es ends x at_x h) in
      off (on_some_same x p at_x same es h)

-- ---- points from which no edge is crossed: above all ends of the edges, or below all. A point that is farthest in some direction is wound round by no closed list of edges

-- no edge is crossed
pub record NoneCrossed (es : List Edge) (p : Triple) : Type 0 where
  pub no_crossings : crossings es p ≡ 0
  pub no_winding : winding es p ≡ pos 0

-- so it is where all ends have a property, and no edge whose ends have it is crossed
none_crossed : (P : Point → Type 0) (p : Triple) → ((e : Edge) → P e.from → P e.to → ¬ (CrossedUp e p) × ¬ (CrossedDown e p))
    → (es : List Edge) → AllEnds P es → NoneCrossed es p
none_crossed P p not [] ends = record { no_crossings = refl; no_winding = refl }
none_crossed P p not (e ∷ es) (from, to, rest) = go (crossing_cases e p) (none_crossed P p not es rest)
  where
    go : CrossingCase e p → NoneCrossed es p → NoneCrossed (e ∷ es) p
    go (upward h v t) k = absurd ((not e from to).0 h)
    go (downward h v t) k = absurd ((not e from to).1 h)
    go (uncrossed m n v t) k = record {
      no_crossings = crossings-cons p e es ∙ (λ i. cond (t i) 1 0 + k.no_crossings i);
      no_winding = λ i. v i +ℤ k.no_winding i;
    }

module _ (p : Triple) where
  -- from a point with no end above it no edge is crossed,
  pub none_crossed_above : (es : List Edge) → AllEnds (λ v. (v.y *ℤ p.W) ≤ℤ p.Y) es → NoneCrossed es p
  none_crossed_above = none_crossed _ p (λ e from to. (λ h. not_below to h.ends_high, λ h. not_below from h.begins_high))

  -- nor from one with all ends above it
  pub none_crossed_below : (es : List Edge) → AllEnds (λ v. p.Y <ℤ (v.y *ℤ p.W)) es → NoneCrossed es p
  none_crossed_below = none_crossed _ p (λ e from to. (λ h. not_below h.begins_low from, λ h. not_below h.ends_low to))

-- ---- ends within a height

-- a bound of the heights of all ends over p
height_bound : Triple → List Edge → ℕ
height_bound p [] = 1
height_bound p (e ∷ es) = unsigned_abs (rise (whole e.from) p) + unsigned_abs (rise (whole e.to) p) + height_bound p es + 1

-- v is less than n above p, and less than n below it
record IsWithinHeight (p : Triple) (n : ℤ) (v : Point) : Type 0 where
  less_above : rise (whole v) p <ℤ n
  less_below : neg_ℤ n <ℤ rise (whole v) p

-- a number is below each number above its size,
pub below_abs : (z : ℤ) (n : ℕ) → unsigned_abs z < n → z <ℤ pos n
below_abs z n h = omega (arith, ints)

-- and above the opposite
above_abs : (z : ℤ) (n : ℕ) → unsigned_abs z < n → neg_ℤ (pos n) <ℤ z
above_abs z n h = omega (arith, ints)

-- what is within a height by its size is so in both directions
within_height : (p : Triple) (n : ℕ) (v : Point) → unsigned_abs (rise (whole v) p) < n → IsWithinHeight p (pos n) v
within_height p n v h = record { less_above = below_abs _ n h; less_below = above_abs _ n h }

-- all ends are within the bound
within_bound : (p : Triple) (n : ℕ) (es : List Edge) → height_bound p es ≤ n → AllEnds (IsWithinHeight p (pos n)) es
unfolding height_bound
within_bound p n [] h = tt
within_bound p n (e ∷ es) h =
    (within_height p n e.from (omega arith), within_height p n e.to (omega arith), within_bound p n es (omega arith))

-- ---- a direction that rises or falls

-- a vector that is not level, and goes forward along (α, β)
record Ahead (α β : ℤ) : Type 0 where
  step : ℤ
  not_level : (pos 0 <ℤ step) ⊎ (step <ℤ pos 0)
  forward : pos 0 <ℤ (α *ℤ α +ℤ β *ℤ step)

-- there is one for each direction
ahead : (α β : ℤ) → ¬ ((α ≡ pos 0) × (β ≡ pos 0)) → Ahead α β
ahead α β some = elim (sign β) [
  | is_negative h ↦ record { step = β; not_level = inr h; forward = squares_positive α β some }
  | is_positive h ↦ record { step = β; not_level = inl h; forward = squares_positive α β some }
  | is_zero h ↦ record {
    step = pos 1;
    not_level = inl (omega (arith, ints));
    forward = omega (arith, ints, h, square_positive α (λ e. some (e, h)));
  }
]

-- ---- how far a point is beyond the point (X / W, Y / W), along (α, β)

-- how far a point is along (α, β), times W
pub how_far : (α β W x y : ℤ) → (α *ℤ W) *ℤ x +ℤ (β *ℤ W) *ℤ y ≡ (α *ℤ x +ℤ β *ℤ y) *ℤ W
how_far α β W x y =
    same_value ((var 0 ⊗ var 2) ⊗ var 3 ⊕ (var 1 ⊗ var 2) ⊗ var 4) ((var 0 ⊗ var 3 ⊕ var 1 ⊗ var 4) ⊗ var 2) (α ∷ β ∷ W ∷ x ∷ y ∷ []) refl

-- a whole point that is not beyond it
beyond_end : (α β X Y W x y : ℤ) → ((α *ℤ x +ℤ β *ℤ y) *ℤ W) ≤ℤ (α *ℤ X +ℤ β *ℤ Y)
    → ((α *ℤ W) *ℤ x +ℤ (β *ℤ W) *ℤ y +ℤ (pos 0 -ℤ (α *ℤ X +ℤ β *ℤ Y)) *ℤ pos 1) ≤ℤ pos 0
beyond_end α β X Y W x y h = omega (arith, ints, how_far α β W x y)

-- the point itself
beyond_itself : (α β X Y W : ℤ) → (α *ℤ W) *ℤ X +ℤ (β *ℤ W) *ℤ Y +ℤ (pos 0 -ℤ (α *ℤ X +ℤ β *ℤ Y)) *ℤ W ≡ pos 0
beyond_itself α β X Y W = omega (arith, ints, how_far α β W X Y, sub-mul (pos 0) (α *ℤ X +ℤ β *ℤ Y) W)

-- the point t steps on, each of α to the right and s upward
beyond_steps : (α β X Y W t s : ℤ) →
    (α *ℤ W) *ℤ (X +ℤ t *ℤ α) +ℤ (β *ℤ W) *ℤ (Y +ℤ t *ℤ s) +ℤ (pos 0 -ℤ (α *ℤ X +ℤ β *ℤ Y)) *ℤ W
    ≡ (t *ℤ W) *ℤ (α *ℤ α +ℤ β *ℤ s)
beyond_steps α β X Y W t s =
    let here = lit (pos 0) ⊖ (var 0 ⊗ var 2 ⊕ var 1 ⊗ var 3) in
    same_value ((var 0 ⊗ var 4) ⊗ (var 2 ⊕ var 5 ⊗ var 0) ⊕ (var 1 ⊗ var 4) ⊗ (var 3 ⊕ var 5 ⊗ var 6) ⊕ here ⊗ var 4)
    ((var 5 ⊗ var 4) ⊗ (var 0 ⊗ var 0 ⊕ var 1 ⊗ var 6)) (α ∷ β ∷ X ∷ Y ∷ W ∷ t ∷ s ∷ []) refl

-- ---- far away

-- n steps upward come to a height that is less than n above,
reached_above : (z Y n s : ℤ) → pos 0 ≤ℤ n → pos 0 <ℤ s → (z -ℤ Y *ℤ pos 1) <ℤ n → z ≤ℤ (Y +ℤ n *ℤ s)
reached_above z Y n s hn hs h = omega (arith, ints, mul_order (pos 1) s n hn (omega (arith, ints)))

-- and n steps downward below a height that is less than n below
reached_below : (z Y n s : ℤ) → pos 0 ≤ℤ n → s <ℤ pos 0 → neg_ℤ n <ℤ (z -ℤ Y *ℤ pos 1) → (Y +ℤ n *ℤ s) <ℤ z
reached_below z Y n s hn hs h = omega (arith, ints, mul_order s (negsuc 0) n hn (omega (arith, ints)))

-- far from p in a direction that is not level no edge is crossed
far_away : (p : Triple) (es : List Edge) (n : ℕ) → AllEnds (IsWithinHeight p (pos n)) es → (α s : ℤ)
    → (pos 0 <ℤ s) ⊎ (s <ℤ pos 0) → NoneCrossed es (record { X = p.X +ℤ pos n *ℤ α; Y = p.Y +ℤ pos n *ℤ s; W = p.W })
far_away p es n ends α s (inl up) =
    none_crossed_above _ es
    (all_ends_map (λ v h. reached_above (v.y *ℤ p.W) p.Y (pos n) s (natural_not_negative n) up h.less_above) es ends)
far_away p es n ends α s (inr down) =
    none_crossed_below _ es
    (all_ends_map (λ v h. reached_below (v.y *ℤ p.W) p.Y (pos n) s (natural_not_negative n) down h.less_below) es ends)

-- ---- the law

-- the bound is positive
bound_positive : (p : Triple) (es : List Edge) → pos 0 <ℤ pos (height_bound p es)
unfolding height_bound
bound_positive p [] = omega (arith, ints)
bound_positive p (e ∷ es) = omega (arith, ints)

-- a rational point on no edge of a closed list, and as far along (α, β) as all ends of the edges, is not wound round
pub extreme_point : (α β : ℤ) → ¬ ((α ≡ pos 0) × (β ≡ pos 0)) → (es : List Edge) → IsClosed es → (p : Triple) → IsPoint p
    → ¬ (IsOnSome es p) → AllEnds (λ v. ((α *ℤ v.x +ℤ β *ℤ v.y) *ℤ p.W) ≤ℤ (α *ℤ p.X +ℤ β *ℤ p.Y)) es → winding es p ≡ pos 0
extreme_point α β some es closed p at_p off ends =
    let way = ahead α β some in
    let n : ℕ = height_bound p es in
    let q : Triple = record { X = p.X +ℤ pos n *ℤ α; Y = p.Y +ℤ pos n *ℤ way.step; W = p.W } in
    let up = mul_positive (pos n *ℤ p.W) _ (mul_positive (pos n) p.W (bound_positive p es) at_p) way.forward in
    let not_beyond = all_ends_map (λ v h. beyond_end α β p.X p.Y p.W v.x v.y h) es ends in
    let misses =
    misses_rising (α *ℤ p.W) (β *ℤ p.W) (pos 0 -ℤ (α *ℤ p.X +ℤ β *ℤ p.Y)) p q es at_p at_p not_beyond
    (beyond_itself α β p.X p.Y p.W) (rw (beyond_steps α β p.X p.Y p.W (pos n) way.step) up) off in
    let far = far_away p es n (within_bound p n es (le_refl n)) α way.step way.not_level in
    winding_law p q at_p at_p es closed misses ∙ far.no_winding
