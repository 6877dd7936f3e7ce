-- Laws of determinants: rows that change places, equal rows, the relations of four and of five triples, whole points.
use Rattle.std.proofs.Common.{◌≡◌, List, [], ◌∷◌, refl, ap, ◌∙◌, ℤ, pos, ◌+ℤ◌, ◌-ℤ◌, ◌*ℤ◌, neg_ℤ, arith}
use Rattle.std.proofs.lemmas.Int.{ints}
use Rattle.integer_algebra.proofs.Polynomial.{Polynomial, var, lit, ◌⊕◌, ◌⊖◌, ◌⊗◌, same_value, zero_value}
use Rattle.plane.proofs.Turns.Written.{determinant as det, pairing, written_determinant}
use Rattle.plane.specs.Prelude.{determinant, IsStraight, Point, Triple, whole}

-- the parts of some triples, and further integers behind them: the variables of a written polynomial
abbrev pub parts : List Triple → List ℤ → List ℤ
parts [] more = more
parts (t ∷ ts) more = t.X ∷ t.Y ∷ t.W ∷ parts ts more

-- a linear functional, by its three coefficients, at a triple
abbrev pub linear : (α β γ : ℤ) → Triple → ℤ
linear α β γ p = α *ℤ p.X +ℤ β *ℤ p.Y +ℤ γ *ℤ p.W

-- where a sum is 0, one part is the opposite of the other
opposite : (x y : ℤ) → x +ℤ y ≡ pos 0 → x ≡ neg_ℤ y
opposite x y h = omega (arith, ints)

-- ---- rows that change places

module _ (a b c : Triple) where
  -- where the first two rows change places, the determinant changes its sign
  pub determinant_swap_first : determinant b a c ≡ neg_ℤ (determinant a b c)
  determinant_swap_first = opposite _ _ (zero_value (det 1 0 2 ⊕ det 0 1 2) (parts (a ∷ b ∷ c ∷ []) []) refl)

  -- so it does with the last two
  pub determinant_swap_last : determinant a c b ≡ neg_ℤ (determinant a b c)
  determinant_swap_last = opposite _ _ (zero_value (det 0 2 1 ⊕ det 0 1 2) (parts (a ∷ b ∷ c ∷ []) []) refl)

  -- and with the first and the last
  pub determinant_swap_ends : determinant c b a ≡ neg_ℤ (determinant a b c)
  determinant_swap_ends = opposite _ _ (zero_value (det 2 1 0 ⊕ det 0 1 2) (parts (a ∷ b ∷ c ∷ []) []) refl)

  -- where all move up and the first goes to the end, it stays
  pub determinant_shift : determinant b c a ≡ determinant a b c
  determinant_shift = same_value (det 1 2 0) (det 0 1 2) (parts (a ∷ b ∷ c ∷ []) []) refl

  -- the other way round too
  pub determinant_shift_back : determinant c a b ≡ determinant a b c
  determinant_shift_back = same_value (det 2 0 1) (det 0 1 2) (parts (a ∷ b ∷ c ∷ []) []) refl

  -- so points on a line are on it in each order: the first two may change places
  pub straight_swap_first : IsStraight a b c → IsStraight b a c
  straight_swap_first h = determinant_swap_first ∙ ap neg_ℤ h

  -- the last two may change places
  pub straight_swap_last : IsStraight a b c → IsStraight a c b
  straight_swap_last h = determinant_swap_last ∙ ap neg_ℤ h

  -- the first may go to the end
  pub straight_shift : IsStraight a b c → IsStraight b c a
  straight_shift h = determinant_shift ∙ h

  -- and the last to the front
  pub straight_shift_back : IsStraight a b c → IsStraight c a b
  straight_shift_back h = determinant_shift_back ∙ h

-- ---- equal rows

module _ (a b : Triple) where
  -- the determinant is 0 where the first two are equal
  pub determinant_same_first : determinant a a b ≡ pos 0
  determinant_same_first = zero_value (det 0 0 1) (parts (a ∷ b ∷ []) []) refl

  -- the last two
  pub determinant_same_last : determinant a b b ≡ pos 0
  determinant_same_last = zero_value (det 0 1 1) (parts (a ∷ b ∷ []) []) refl

  -- the first and the last
  pub determinant_same_ends : determinant a b a ≡ pos 0
  determinant_same_ends = zero_value (det 0 1 0) (parts (a ∷ b ∷ []) []) refl

-- ---- the relation of four triples

-- the relation, where the triples have these values
relation : Polynomial → Polynomial → Polynomial → Polynomial → Polynomial
relation f g h i = det 1 2 3 ⊗ f ⊖ det 0 2 3 ⊗ g ⊕ det 0 1 3 ⊗ h ⊖ det 0 1 2 ⊗ i

module _ (a b c d : Triple) where
  -- at every linear functional
  pub four_triples : (α β γ : ℤ) →
      determinant b c d *ℤ linear α β γ a -ℤ determinant a c d *ℤ linear α β γ b
      +ℤ determinant a b d *ℤ linear α β γ c -ℤ determinant a b c *ℤ linear α β γ d ≡ pos 0
  unfolding relation
  four_triples α β γ =
      zero_value (relation (pairing 4 0) (pairing 4 1) (pairing 4 2) (pairing 4 3))
      (parts (a ∷ b ∷ c ∷ d ∷ []) (α ∷ β ∷ γ ∷ [])) refl

  -- at the first parts
  pub four_triples_in_X :
      determinant b c d *ℤ a.X -ℤ determinant a c d *ℤ b.X +ℤ determinant a b d *ℤ c.X -ℤ determinant a b c *ℤ d.X ≡ pos 0
  unfolding relation
  four_triples_in_X = zero_value (relation (var 0) (var 3) (var 6) (var 9)) (parts (a ∷ b ∷ c ∷ d ∷ []) []) refl

  -- at the second parts
  pub four_triples_in_Y :
      determinant b c d *ℤ a.Y -ℤ determinant a c d *ℤ b.Y +ℤ determinant a b d *ℤ c.Y -ℤ determinant a b c *ℤ d.Y ≡ pos 0
  unfolding relation
  four_triples_in_Y = zero_value (relation (var 1) (var 4) (var 7) (var 10)) (parts (a ∷ b ∷ c ∷ d ∷ []) []) refl

  -- at the third parts: areas add up
  pub four_triples_in_W :
      determinant b c d *ℤ a.W -ℤ determinant a c d *ℤ b.W +ℤ determinant a b d *ℤ c.W -ℤ determinant a b c *ℤ d.W ≡ pos 0
  unfolding relation
  four_triples_in_W = zero_value (relation (var 2) (var 5) (var 8) (var 11)) (parts (a ∷ b ∷ c ∷ d ∷ []) []) refl

-- ---- the relation of five triples

-- round the first triple
pub five_triples : (a b c d e : Triple) →
    determinant a b c *ℤ determinant a d e -ℤ determinant a b d *ℤ determinant a c e
    +ℤ determinant a b e *ℤ determinant a c d ≡ pos 0
five_triples a b c d e =
    zero_value (det 0 1 2 ⊗ det 0 3 4 ⊖ det 0 1 3 ⊗ det 0 2 4 ⊕ det 0 1 4 ⊗ det 0 2 3) (parts (a ∷ b ∷ c ∷ d ∷ e ∷ []) []) refl

-- ---- whole points

-- the determinant is the cross product of the ways from the first point to the others
pub determinant_of_whole : (a b c : Point) →
    determinant (whole a) (whole b) (whole c) ≡ ((b.x -ℤ a.x) *ℤ (c.y -ℤ a.y)) -ℤ ((b.y -ℤ a.y) *ℤ (c.x -ℤ a.x))
determinant_of_whole a b c =
    let one = lit (pos 1) in
    same_value (written_determinant (var 0) (var 1) one (var 2) (var 3) one (var 4) (var 5) one)
    ((var 2 ⊖ var 0) ⊗ (var 5 ⊖ var 1) ⊖ (var 3 ⊖ var 1) ⊗ (var 4 ⊖ var 0))
    (a.x ∷ a.y ∷ b.x ∷ b.y ∷ c.x ∷ c.y ∷ []) refl

-- factors 1 may be left out
drop_ones : (k l m n : ℤ) → k *ℤ pos 1 -ℤ l *ℤ pos 1 +ℤ m *ℤ pos 1 -ℤ n *ℤ pos 1 ≡ pos 0 → k -ℤ l +ℤ m -ℤ n ≡ pos 0
drop_ones k l m n h = omega (arith, ints)

-- areas of whole points add up
pub areas_add : (a b c d : Point) →
    determinant (whole b) (whole c) (whole d) -ℤ determinant (whole a) (whole c) (whole d)
    +ℤ determinant (whole a) (whole b) (whole d) -ℤ determinant (whole a) (whole b) (whole c) ≡ pos 0
areas_add a b c d =
    let at = λ (p q r : Point). determinant (whole p) (whole q) (whole r) in
    drop_ones (at b c d) (at a c d) (at a b d) (at a b c) (four_triples_in_W (whole a) (whole b) (whole c) (whole d))
