-- What it says that the ray from a point to the right crosses an edge, upward or downward.
use Rattle.std.proofs.Common.{◌≡◌, refl, ◌∙◌, sym, ℤ, pos, negsuc, ◌*ℤ◌, ◌<ℤ◌, ◌≤ℤ◌, Bool, true, false, neg_ℤ, arith, ◌+◌, ◌+ℤ◌, List, []}
use Rattle.std.proofs.Common.{◌∷◌, ◌++◌}
use Rattle.std.proofs.lemmas.Int.{ints}
use Rattle.std.proofs.lemmas.List.Sums.{sum_by-append, sum_by-cons}
use Rattle.std.specs.Int.Signed.{le_z, lt_z}
use Rattle.std.specs.Prelude.{◌&&◌, ◌||◌, if◌then◌else◌, cond}
use Rattle.integer_algebra.proofs.SignSteps.{opposite_sum}
use Rattle.plane.proofs.Turns.{determinant_swap_first}
use Rattle.plane.specs.Prelude.{determinant, IsLeft, IsRight, Triple, whole}
use Rattle.rings.proofs.Vertices.{reversed, backward, sum_regrouped}
use Rattle.rings.specs.Prelude.{crossing, crossings, Edge, is_crossed, is_crossed_down, is_crossed_up, winding}

-- the ray from p crosses the edge upward
pub record CrossedUp (e : Edge) (p : Triple) : Type 0 where
  pub begins_low : (e.from.y *ℤ p.W) ≤ℤ p.Y
  pub ends_high : p.Y <ℤ (e.to.y *ℤ p.W)
  pub on_left : IsLeft (whole e.from) (whole e.to) p

-- it crosses the edge downward
pub record CrossedDown (e : Edge) (p : Triple) : Type 0 where
  pub ends_low : (e.to.y *ℤ p.W) ≤ℤ p.Y
  pub begins_high : p.Y <ℤ (e.from.y *ℤ p.W)
  pub on_right : IsRight (whole e.from) (whole e.to) p

-- ---- the tests, over the heights of the edge's ends and of the point, and the determinant

-- upward
abbrev up : (a b y d : ℤ) → Bool
up a b y d = le_z a y && lt_z y b && lt_z (pos 0) d

-- downward
abbrev down : (a b y d : ℤ) → Bool
down a b y d = le_z b y && lt_z y a && lt_z d (pos 0)

-- the test for upward passes where the three inequalities hold,
up_from : (a b y d : ℤ) → a ≤ℤ y → y <ℤ b → pos 0 <ℤ d → up a b y d ≡ true
up_from a b y d h k l = grind (arith, ints)

-- and only there
up_facts : (a b y d : ℤ) → up a b y d ≡ true → (a ≤ℤ y) × (y <ℤ b) × (pos 0 <ℤ d)
up_facts a b y d h = grind (arith, ints)

-- so does the test for downward
down_from : (a b y d : ℤ) → b ≤ℤ y → y <ℤ a → d <ℤ pos 0 → down a b y d ≡ true
down_from a b y d h k l = grind (arith, ints)

-- and only there
down_facts : (a b y d : ℤ) → down a b y d ≡ true → (b ≤ℤ y) × (y <ℤ a) × (d <ℤ pos 0)
down_facts a b y d h = grind (arith, ints)

-- the test for upward of the edge read backward is the test for downward
up_backward : (a b y d e : ℤ) → e ≡ neg_ℤ d → up b a y e ≡ down a b y d
up_backward a b y d e h = grind (arith, ints)

-- the signed crossing, from the two tests
abbrev crossing_value : Bool → Bool → ℤ
crossing_value u d = if u then pos 1 else if d then negsuc 0 else pos 0

-- with the tests exchanged the crossing has the opposite sign
backward_value : (u d : Bool) → ¬ ((u ≡ true) × (d ≡ true)) → crossing_value d u ≡ neg_ℤ (crossing_value u d)
backward_value true true h = absurd (h (refl, refl))
backward_value true false h = refl
backward_value false true h = refl
backward_value false false h = refl

-- the order of two tests is free
or_comm : (b c : Bool) → (b || c) ≡ (c || b)
or_comm b c = grind arith

-- ---- as facts

module _ (e : Edge) (p : Triple) where
  -- the test for upward answers true exactly at an upward crossing
  pub crossed_up_from : CrossedUp e p → is_crossed_up e p ≡ true
  crossed_up_from h =
      up_from (e.from.y *ℤ p.W) (e.to.y *ℤ p.W) p.Y (determinant (whole e.from) (whole e.to) p)
      h.begins_low h.ends_high h.on_left

  -- and back
  pub crossed_up_facts : is_crossed_up e p ≡ true → CrossedUp e p
  crossed_up_facts h =
      let k = up_facts (e.from.y *ℤ p.W) (e.to.y *ℤ p.W) p.Y (determinant (whole e.from) (whole e.to) p) h in
      record { begins_low = k.0; ends_high = k.1; on_left = k.2 }

  -- the test for downward at a downward one
  pub crossed_down_from : CrossedDown e p → is_crossed_down e p ≡ true
  crossed_down_from h =
      down_from (e.from.y *ℤ p.W) (e.to.y *ℤ p.W) p.Y (determinant (whole e.from) (whole e.to) p)
      h.ends_low h.begins_high h.on_right

  -- and back
  pub crossed_down_facts : is_crossed_down e p ≡ true → CrossedDown e p
  crossed_down_facts h =
      let k = down_facts (e.from.y *ℤ p.W) (e.to.y *ℤ p.W) p.Y (determinant (whole e.from) (whole e.to) p) h in
      record { ends_low = k.0; begins_high = k.1; on_right = k.2 }

  -- an edge is not crossed both ways
  not_crossed_both : CrossedUp e p → ¬ (CrossedDown e p)
  not_crossed_both h k =
      let a = h.begins_low in
      let b = k.begins_high in
      omega (arith, ints)

-- how an edge is crossed, with the values that follow
pub data CrossingCase (e : Edge) (p : Triple) : Type 0 where
  upward : CrossedUp e p → crossing e p ≡ pos 1 → is_crossed e p ≡ true → CrossingCase e p
  downward : CrossedDown e p → crossing e p ≡ negsuc 0 → is_crossed e p ≡ true → CrossingCase e p
  uncrossed : ¬ (CrossedUp e p) → ¬ (CrossedDown e p) → crossing e p ≡ pos 0 → is_crossed e p ≡ false → CrossingCase e p

module _ (e : Edge) (p : Triple) where
  -- each edge is crossed in one of these ways
  pub crossing_cases : CrossingCase e p
  crossing_cases = go (is_crossed_up e p) (is_crossed_down e p) refl refl
    where
      go : (u d : Bool) → is_crossed_up e p ≡ u → is_crossed_down e p ≡ d → CrossingCase e p
      go true d hu hd = upward (crossed_up_facts e p hu) (λ i. crossing_value (hu i) (hd i)) (λ i. hu i || hd i)
      go false true hu hd = downward (crossed_down_facts e p hd) (λ i. crossing_value (hu i) (hd i)) (λ i. hu i || hd i)
      go false false hu hd =
          uncrossed (λ h. cc (crossed_up_from e p h)) (λ h. cc (crossed_down_from e p h)) (λ i. crossing_value (hu i) (hd i))
          (λ i. hu i || hd i)

-- ---- an edge read backward

-- it is crossed upward where the edge is crossed downward
is_crossed_up_reversed : (e : Edge) (p : Triple) → is_crossed_up (reversed e) p ≡ is_crossed_down e p
is_crossed_up_reversed e p =
    up_backward (e.from.y *ℤ p.W) (e.to.y *ℤ p.W) p.Y (determinant (whole e.from) (whole e.to) p)
    (determinant (whole e.to) (whole e.from) p) (determinant_swap_first (whole e.from) (whole e.to) p)

-- and downward where it is crossed upward
is_crossed_down_reversed : (e : Edge) (p : Triple) → is_crossed_down (reversed e) p ≡ is_crossed_up e p
is_crossed_down_reversed e p = sym (is_crossed_up_reversed (reversed e) p)

-- so it is crossed where the edge is
pub is_crossed_reversed : (e : Edge) (p : Triple) → is_crossed (reversed e) p ≡ is_crossed e p
is_crossed_reversed e p =
    (λ i. is_crossed_up_reversed e p i || is_crossed_down_reversed e p i) ∙ or_comm (is_crossed_down e p) (is_crossed_up e p)

-- with the opposite sign
pub crossing_reversed : (e : Edge) (p : Triple) → crossing (reversed e) p ≡ neg_ℤ (crossing e p)
crossing_reversed e p =
    (λ i. crossing_value (is_crossed_up_reversed e p i) (is_crossed_down_reversed e p i))
    ∙ backward_value (is_crossed_up e p) (is_crossed_down e p)
    (λ h. not_crossed_both e p (crossed_up_facts e p h.0) (crossed_down_facts e p h.1))

-- ---- crossings and winding numbers of lists of edges: appended lists, and edges read backward

module _ (p : Triple) where
  -- crossings add up
  pub crossings-append : (es fs : List Edge) → crossings (es ++ fs) p ≡ crossings es p + crossings fs p
  crossings-append es fs = sum_by-append (λ e. cond (is_crossed e p) 1 0) es fs

  -- one edge and the others
  pub crossings-cons : (e : Edge) (es : List Edge) → crossings (e ∷ es) p ≡ cond (is_crossed e p) 1 0 + crossings es p
  crossings-cons e es = sum_by-cons (λ f. cond (is_crossed f p) 1 0) e es

  -- read backward, the edges have the same number of them
  pub crossings-backward : (es : List Edge) → crossings (backward es) p ≡ crossings es p
  crossings-backward [] = refl
  crossings-backward (e ∷ es) =
      crossings-cons (reversed e) (backward es)
      ∙ (λ i. cond (is_crossed_reversed e p i) 1 0 + crossings-backward es i)
      ∙ sym (crossings-cons e es)

  -- winding numbers add up
  pub winding-append : (es fs : List Edge) → winding (es ++ fs) p ≡ winding es p +ℤ winding fs p
  winding-append [] fs = omega (arith, ints)
  winding-append (e ∷ es) fs = sum_regrouped (crossing e p) (winding es p) (winding fs p) _ _ (winding-append es fs) refl

  -- read backward, the edges have the opposite one
  pub winding-backward : (es : List Edge) → winding (backward es) p ≡ neg_ℤ (winding es p)
  winding-backward [] = refl
  winding-backward (e ∷ es) = opposite_sum (crossing e p) (winding es p) _ _ (crossing_reversed e p) (winding-backward es)
