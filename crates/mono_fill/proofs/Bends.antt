-- Turns toward the other chain, and edges of both chains that run at one place.
-- Turns toward the other chain, among points in lexicographic order.
-- Two edges of different chains that run at one place: the one that ends first ends inward of the other.
use Rattle.std.proofs.Common.{◌≡◌, inl, inr, refl, List, [], ◌∷◌, ℕ, ◌+◌, ◌*◌, ℤ, pos, ◌+ℤ◌, ◌-ℤ◌, ◌*ℤ◌, neg_ℤ, ◌<ℤ◌, ◌≤ℤ◌, arith, ◌⊎◌, sym}
use Rattle.std.proofs.Common.{subst}
use Rattle.std.proofs.lemmas.Int.{ints}
use Rattle.integer_algebra.proofs.Polynomial.{Polynomial, var, lit, neg, ◌⊕◌, ◌⊖◌, ◌⊗◌, zero_value}
use Rattle.integer_algebra.proofs.SignSteps.{at_most_unless, opposite_not_negative, positive_not_zero, weak, turned_negative}
use Rattle.integer_algebra.proofs.SignSteps.{turned_positive}
use Rattle.integer_algebra.proofs.Signs.{lt_or_le}
use Rattle.plane.proofs.Order.{before_irrefl}
use Rattle.plane.proofs.Turns.{written_determinant, determinant_shift, determinant_shift_back, determinant_swap_last}
use Rattle.plane.specs.Order.{IsBefore}
use Rattle.plane.specs.Point.{Point, whole}
use Rattle.plane.specs.Turn.{determinant, IsLeft, IsRight}
use Rattle.rings.proofs.Sweeps.{Part, none_gains}
use Rattle.rings.specs.Apart.{MeetAtEnds}
use Rattle.rings.specs.Edge.{edge}
use Rattle.meshes.proofs.Monotone.{enters_above, enters_below}
use Rattle.mono_fill.specs.Sides.{other_chain_side}
use Rattle.mono_fill.specs.declared.side.Side.{Side}
use Rattle.mono_fill.specs.declared.side.Side.TheVariants.{Lower, Upper}

-- the determinant of the turn from a over b to c: positive where it is inward, that is toward the other chain
abbrev pub bend : Side → Point → Point → Point → ℤ
bend Lower a b c = determinant (whole a) (whole b) (whole c)
bend Upper a b c = determinant (whole b) (whole a) (whole c)

-- ---- sums of ways that go forward

-- from a point to a later one, with a weight
way : (w : ℤ) → pos 0 ≤ℤ w → (p q : Point) → IsBefore p q → Part
way w h p q k = record {
  w = w;
  x = q.x -ℤ p.x;
  y = q.y -ℤ p.y;
  weighs = h;
  forward = elim k [ inl l ↦ inl (omega (arith, ints)) | inr l ↦ let e = l.0 in let u = l.1 in inr (omega (arith, ints), omega (arith, ints)) ];
}

-- no way at all
none : Part
none = record { w = pos 0; x = pos 0; y = pos 0; weighs = omega (arith, ints); forward = inr (refl, omega (arith, ints)) }

-- a way from a point to a later one is not nothing
some_way : (p q : Point) → IsBefore p q → ¬ ((q.x -ℤ p.x ≡ pos 0) × (q.y -ℤ p.y ≡ pos 0))
some_way p q (inl l) (e, f) = omega (arith, ints)
some_way p q (inr l) (e, f) = let u = l.1 in omega (arith, ints)

-- three ways that add up to nothing have no weight, as the first of them shows
module _ (p p' q q' r r' : Point) (hp : IsBefore p p') (hq : IsBefore q q') (hr : IsBefore r r') where
  pub no_weight : (u v w : ℤ) → pos 0 ≤ℤ u → pos 0 ≤ℤ v → pos 0 ≤ℤ w
      → u *ℤ (p'.x -ℤ p.x) +ℤ v *ℤ (q'.x -ℤ q.x) +ℤ w *ℤ (r'.x -ℤ r.x) ≡ pos 0
      → u *ℤ (p'.y -ℤ p.y) +ℤ v *ℤ (q'.y -ℤ q.y) +ℤ w *ℤ (r'.y -ℤ r.y) ≡ pos 0 → u ≡ pos 0
  unfolding way none
  no_weight u v w hu hv hw e f =
      elim (none_gains (way u hu p p' hp) (way v hv q q' hq) (way w hw r r' hr) none (omega (arith, ints)) (omega (arith, ints))).0 [
        | inl k ↦ k
        | inr k ↦ absurd (some_way p p' hp k)
      ]

-- ---- written determinants of whole points, of which point i has the variables 2i and 2i + 1

abbrev det : ℕ → ℕ → ℕ → Polynomial
det a b c =
    let x = λ (i : ℕ). var (2 * i) in let y = λ (i : ℕ). var (2 * i + 1) in
    written_determinant (x a) (y a) (lit (pos 1)) (x b) (y b) (lit (pos 1)) (x c) (y c) (lit (pos 1))

abbrev run : ℕ → ℕ → Polynomial
run p q = var (2 * q) ⊖ var (2 * p)

abbrev rise : ℕ → ℕ → Polynomial
rise p q = var (2 * q + 1) ⊖ var (2 * p + 1)

abbrev parts : List Point → List ℤ
parts [] = []
parts (p ∷ ps) = p.x ∷ p.y ∷ parts ps

-- ---- four points

-- where x is strictly inward of the way from a over b, and c is not, x is strictly inward of that from b over c
module _ (a b c x : Point) (ab : IsBefore a b) (bc : IsBefore b c) (bx : IsBefore b x) where
  abbrev fourth_x : (side : Side)
      → bend side a b x *ℤ (c.x -ℤ b.x) +ℤ neg_ℤ (bend side a b c) *ℤ (x.x -ℤ b.x) +ℤ neg_ℤ (bend side b c x) *ℤ (b.x -ℤ a.x) ≡ pos 0
  fourth_x Lower = zero_value (det 0 1 3 ⊗ run 1 2 ⊕ neg (det 0 1 2) ⊗ run 1 3 ⊕ neg (det 1 2 3) ⊗ run 0 1) (parts (a ∷ b ∷ c ∷ x ∷ [])) refl
  fourth_x Upper = zero_value (det 1 0 3 ⊗ run 1 2 ⊕ neg (det 1 0 2) ⊗ run 1 3 ⊕ neg (det 2 1 3) ⊗ run 0 1) (parts (a ∷ b ∷ c ∷ x ∷ [])) refl

  fourth_y : (side : Side)
      → bend side a b x *ℤ (c.y -ℤ b.y) +ℤ neg_ℤ (bend side a b c) *ℤ (x.y -ℤ b.y) +ℤ neg_ℤ (bend side b c x) *ℤ (b.y -ℤ a.y) ≡ pos 0
  fourth_y Lower = zero_value (det 0 1 3 ⊗ rise 1 2 ⊕ neg (det 0 1 2) ⊗ rise 1 3 ⊕ neg (det 1 2 3) ⊗ rise 0 1) (parts (a ∷ b ∷ c ∷ x ∷ [])) refl
  fourth_y Upper = zero_value (det 1 0 3 ⊗ rise 1 2 ⊕ neg (det 1 0 2) ⊗ rise 1 3 ⊕ neg (det 2 1 3) ⊗ rise 0 1) (parts (a ∷ b ∷ c ∷ x ∷ [])) refl

  pub inward_next : (side : Side) → pos 0 <ℤ bend side a b x → ¬ (pos 0 <ℤ bend side a b c) → pos 0 <ℤ bend side b c x
  inward_next side h n = elim (lt_or_le (pos 0) (bend side b c x)) [
    | inl k ↦ k
    | inr k ↦ absurd (positive_not_zero h (no_weight b c b x a b bc bx ab (bend side a b x) _ _ (weak h) (opposite_not_negative (at_most_unless n))
        (opposite_not_negative k) (fourth_x side) (fourth_y side)))
  ]

-- an edge from c to d of one chain, and vertices b and then b' of the other: b comes before d and is inward of the edge
module _ (c d b b' : Point) (cd : IsBefore c d) (bd : IsBefore b d) where
  over_x : (side : Side)
      → bend side c b d *ℤ (d.x -ℤ b'.x) +ℤ neg_ℤ (bend side c b' d) *ℤ (d.x -ℤ b.x) +ℤ bend (other_chain_side side) b d b' *ℤ (d.x -ℤ c.x) ≡ pos 0
  over_x Lower = zero_value (det 0 2 1 ⊗ run 3 1 ⊕ neg (det 0 3 1) ⊗ run 2 1 ⊕ det 1 2 3 ⊗ run 0 1) (parts (c ∷ d ∷ b ∷ b' ∷ [])) refl
  over_x Upper = zero_value (det 2 0 1 ⊗ run 3 1 ⊕ neg (det 3 0 1) ⊗ run 2 1 ⊕ det 2 1 3 ⊗ run 0 1) (parts (c ∷ d ∷ b ∷ b' ∷ [])) refl

  over_y : (side : Side)
      → bend side c b d *ℤ (d.y -ℤ b'.y) +ℤ neg_ℤ (bend side c b' d) *ℤ (d.y -ℤ b.y) +ℤ bend (other_chain_side side) b d b' *ℤ (d.y -ℤ c.y) ≡ pos 0
  over_y Lower = zero_value (det 0 2 1 ⊗ rise 3 1 ⊕ neg (det 0 3 1) ⊗ rise 2 1 ⊕ det 1 2 3 ⊗ rise 0 1) (parts (c ∷ d ∷ b ∷ b' ∷ [])) refl
  over_y Upper = zero_value (det 2 0 1 ⊗ rise 3 1 ⊕ neg (det 3 0 1) ⊗ rise 2 1 ⊕ det 2 1 3 ⊗ rise 0 1) (parts (c ∷ d ∷ b ∷ b' ∷ [])) refl

  -- the same with the opposite weights
  past_x : (side : Side)
      → bend side c b d *ℤ (b'.x -ℤ d.x) +ℤ bend side c b' d *ℤ (d.x -ℤ b.x) +ℤ neg_ℤ (bend (other_chain_side side) b d b') *ℤ (d.x -ℤ c.x) ≡ pos 0
  past_x Lower = zero_value (det 0 2 1 ⊗ run 1 3 ⊕ det 0 3 1 ⊗ run 2 1 ⊕ neg (det 1 2 3) ⊗ run 0 1) (parts (c ∷ d ∷ b ∷ b' ∷ [])) refl
  past_x Upper = zero_value (det 2 0 1 ⊗ run 1 3 ⊕ det 3 0 1 ⊗ run 2 1 ⊕ neg (det 2 1 3) ⊗ run 0 1) (parts (c ∷ d ∷ b ∷ b' ∷ [])) refl

  past_y : (side : Side)
      → bend side c b d *ℤ (b'.y -ℤ d.y) +ℤ bend side c b' d *ℤ (d.y -ℤ b.y) +ℤ neg_ℤ (bend (other_chain_side side) b d b') *ℤ (d.y -ℤ c.y) ≡ pos 0
  past_y Lower = zero_value (det 0 2 1 ⊗ rise 1 3 ⊕ det 0 3 1 ⊗ rise 2 1 ⊕ neg (det 1 2 3) ⊗ rise 0 1) (parts (c ∷ d ∷ b ∷ b' ∷ [])) refl
  past_y Upper = zero_value (det 2 0 1 ⊗ rise 1 3 ⊕ det 3 0 1 ⊗ rise 2 1 ⊕ neg (det 2 1 3) ⊗ rise 0 1) (parts (c ∷ d ∷ b ∷ b' ∷ [])) refl

  -- where b' comes before d too, and d is inward of the way from b to it, it is inward of the edge,
  pub inward_before : (side : Side) → IsBefore b' d → pos 0 <ℤ bend side c b d → pos 0 <ℤ bend (other_chain_side side) b d b' → pos 0 <ℤ bend side c b' d
  inward_before side before h k = elim (lt_or_le (pos 0) (bend side c b' d)) [
    | inl l ↦ l
    | inr l ↦ absurd (positive_not_zero h (no_weight b' d b d c d before bd cd _ _ _ (weak h) (opposite_not_negative l) (weak k) (over_x side)
        (over_y side)))
  ]

  -- and where b' comes after d and is inward of the line of the edge, d is inward of the way from b to b'
  pub inward_after : (side : Side) → IsBefore d b' → pos 0 <ℤ bend side c b d → pos 0 <ℤ bend side c b' d → pos 0 <ℤ bend (other_chain_side side) b d b'
  inward_after side after h k = elim (lt_or_le (pos 0) (bend (other_chain_side side) b d b')) [
    | inl l ↦ l
    | inr l ↦ absurd (positive_not_zero h (no_weight d b' b d c d after bd cd _ _ _ (weak h) (weak k) (opposite_not_negative l) (past_x side)
        (past_y side)))
  ]

-- edge ab of one chain and edge cd of the other
pub record EndInward (side facing : Side) (a b c d : Point) : Type 0 where
  pub own : IsBefore b d → pos 0 <ℤ bend side c b d
  pub other : IsBefore d b → pos 0 <ℤ bend facing a d b

-- edge cd runs where edge bb' of the other chain begins, and b is inward of it
module _ (c d b b' : Point) (cd : IsBefore c d) (cb : IsBefore c b) (bd : IsBefore b d) (on : IsBefore b b')
    (apart : MeetAtEnds (edge c d) (edge b b')) where
  -- so edge bb' stays on that side: one of the last ends shows it, or they are one
  enters : (side : Side) → pos 0 <ℤ bend side c b d → (pos 0 <ℤ bend (other_chain_side side) b d b' ⊎ pos 0 <ℤ bend side c b' d) ⊎ (b' ≡ d)
  enters Lower h =
      let right : IsRight (whole c) (whole d) (whole b) = turned_negative (determinant_swap_last (whole c) (whole b) (whole d)) h in
      elim (enters_below (edge c d) (edge b b') on apart cb bd right).finish [
        | inl (inl k) ↦ inl (inl (subst (λ z. pos 0 <ℤ z) (sym (determinant_shift_back (whole b) (whole b') (whole d))) k))
        | inl (inr k) ↦ inl (inr (turned_positive (determinant_swap_last (whole c) (whole d) (whole b')) k))
        | inr e ↦ inr e
      ]
  enters Upper h =
      let left : IsLeft (whole c) (whole d) (whole b) = subst (λ z. pos 0 <ℤ z) (sym (determinant_shift (whole b) (whole c) (whole d))) h in
      elim (enters_above (edge c d) (edge b b') on apart cb bd left).finish [
        | inl (inl k) ↦ inl (inr (subst (λ z. pos 0 <ℤ z) (sym (determinant_shift_back (whole c) (whole d) (whole b'))) k))
        | inl (inr k) ↦ inl (inl (turned_positive (determinant_swap_last (whole b) (whole b') (whole d)) k))
        | inr e ↦ inr (sym e)
      ]

  -- the next edge of the chain that ended
  pub next_inward : (side : Side) → pos 0 <ℤ bend side c b d → EndInward side (other_chain_side side) b b' c d
  next_inward side h = elim (enters side h) [
    | inl (inl k) ↦ record { own = λ before. inward_before c d b b' cd bd side before h k; other = λ after. k }
    | inl (inr k) ↦ record { own = λ before. k; other = λ after. inward_after c d b b' cd bd side after h k }
    | inr e ↦ record {
      own = λ before. absurd (before_irrefl d (subst (λ p. IsBefore p d) e before));
      other = λ after. absurd (before_irrefl d (subst (λ p. IsBefore d p) e after));
    }
  ]
