-- Crossings, windings and segments do not tell two triples of one rational point apart.
use Rattle.std.proofs.Common.{◌≡◌, [], ◌∷◌, refl, sym, List, Bool, true, false, ℤ, ◌-ℤ◌, ◌*ℤ◌, ◌<ℤ◌, ◌≤ℤ◌, arith}
use Rattle.std.proofs.lemmas.Int.{ints}
use Rattle.std.specs.Prelude.{◌||◌, count_by}
use Rattle.integer_algebra.proofs.Laws.{sub-mul}
use Rattle.integer_algebra.proofs.Polynomial.{var, ◌⊗◌, same_value}
use Rattle.integer_algebra.proofs.SameSigns.{same_negative, same_nonpositive, same_positive}
use Rattle.plane.proofs.Points.{same_sym}
use Rattle.plane.proofs.Turns.{determinant_same}
use Rattle.plane.specs.Point.{IsPoint, IsSame, Triple, whole}
use Rattle.rings.proofs.Crossings.{crossed_down_facts, crossed_down_from, crossed_up_facts, crossed_up_from}
use Rattle.rings.specs.Prelude.{crossings, Edge, is_crossed, is_crossed_down, is_crossed_up}

-- ---- heights

-- the height of a whole number over a point, times the weight of the other triple
height_same : (n y z P Q : ℤ) → y *ℤ Q ≡ z *ℤ P → (n *ℤ P -ℤ y) *ℤ Q ≡ (n *ℤ Q -ℤ z) *ℤ P
height_same n y z P Q e =
    let turned = same_value ((var 0 ⊗ var 1) ⊗ var 2) ((var 0 ⊗ var 2) ⊗ var 1) (n ∷ P ∷ Q ∷ []) refl in
    omega (arith, ints, e, turned, sub-mul (n *ℤ P) y Q, sub-mul (n *ℤ Q) z P)

module _ (p q : Triple) (at_p : IsPoint p) (at_q : IsPoint q) (s : IsSame p q) (n : ℤ) where
  -- a whole number is not above both triples of a point,
  not_above_same : (n *ℤ p.W) ≤ℤ p.Y → (n *ℤ q.W) ≤ℤ q.Y
  not_above_same h =
      let k = same_nonpositive _ _ p.W q.W at_p at_q (height_same n p.Y q.Y p.W q.W s.same_y) (omega (arith, ints)) in
      omega (arith, ints)

  -- or above both
  above_same : p.Y <ℤ (n *ℤ p.W) → q.Y <ℤ (n *ℤ q.W)
  above_same h =
      let k = same_positive _ _ p.W q.W at_p at_q (height_same n p.Y q.Y p.W q.W s.same_y) (omega (arith, ints)) in
      omega (arith, ints)

-- ---- crossings

-- tests that answer true together are equal
same_test : (b c : Bool) → (b ≡ true → c ≡ true) → (c ≡ true → b ≡ true) → b ≡ c
same_test true c h k = sym (h refl)
same_test false true h k = k refl
same_test false false h k = refl

module _ (p q : Triple) (at_p : IsPoint p) (at_q : IsPoint q) (s : IsSame p q) (e : Edge) where
  -- from one triple the test for upward passes where it does from the other,
  crossed_up_same : is_crossed_up e p ≡ true → is_crossed_up e q ≡ true
  crossed_up_same t =
      let h = crossed_up_facts e p t in
      crossed_up_from e q (record {
        begins_low = not_above_same p q at_p at_q s e.from.y h.begins_low;
        ends_high = above_same p q at_p at_q s e.to.y h.ends_high;
        on_left = same_positive _ _ p.W q.W at_p at_q (determinant_same (whole e.from) (whole e.to) p q s) h.on_left;
      })

  -- and that for downward
  crossed_down_same : is_crossed_down e p ≡ true → is_crossed_down e q ≡ true
  crossed_down_same t =
      let h = crossed_down_facts e p t in
      crossed_down_from e q (record {
        ends_low = not_above_same p q at_p at_q s e.to.y h.ends_low;
        begins_high = above_same p q at_p at_q s e.from.y h.begins_high;
        on_right = same_negative _ _ p.W q.W at_p at_q (determinant_same (whole e.from) (whole e.to) p q s) h.on_right;
      })

module _ (p q : Triple) (at_p : IsPoint p) (at_q : IsPoint q) (s : IsSame p q) where
  -- an edge is crossed from both triples alike: upward,
  is_crossed_up_same : (e : Edge) → is_crossed_up e p ≡ is_crossed_up e q
  is_crossed_up_same e =
      same_test _ _ (crossed_up_same p q at_p at_q s e) (crossed_up_same q p at_q at_p (same_sym s) e)

  -- downward,
  is_crossed_down_same : (e : Edge) → is_crossed_down e p ≡ is_crossed_down e q
  is_crossed_down_same e =
      same_test _ _ (crossed_down_same p q at_p at_q s e) (crossed_down_same q p at_q at_p (same_sym s) e)

  -- and at all
  is_crossed_same : (e : Edge) → is_crossed e p ≡ is_crossed e q
  is_crossed_same e = λ i. is_crossed_up_same e i || is_crossed_down_same e i

  -- so they have the same number of crossings
  pub crossings_same : (es : List Edge) → crossings es p ≡ crossings es q
  crossings_same es = λ i. count_by (λ e. is_crossed_same e i) es
