-- A chord from s to t with a point x between them, and the line ab on one side of all three.
use Rattle.std.proofs.Common.{◌≡◌, ◌⊎◌, inl, inr, [], ◌∷◌, refl, ◌+◌, ◌*◌, ℤ, pos, ◌+ℤ◌, ◌*ℤ◌, neg_ℤ, ◌≤ℤ◌, arith}
use Rattle.std.proofs.lemmas.Int.{ints}
use Rattle.integer_algebra.proofs.Polynomial.{neg, ◌⊕◌, ◌⊗◌, zero_value}
use Rattle.integer_algebra.proofs.SignSteps.{opposite_not_negative, zero_of_opposite}
use Rattle.plane.proofs.Order.{NotAfter, rise, run, written_rise, written_run}
use Rattle.plane.proofs.Turns.{parts, determinant as det}
use Rattle.plane.specs.Prelude.{determinant, IsSame, Triple}
use Rattle.rings.proofs.Sweeps.ForwardSums.{Part, none_gains}

-- the way from a point to one that it is not after, with a weight
abbrev pub way : (w : ℤ) → pos 0 ≤ℤ w → (p q : Triple) → NotAfter p q → Part
way w h p q k = record {
  w = w;
  x = run q p;
  y = rise q p;
  weighs = h;
  forward = elim k [ inl l ↦ inl (omega (arith, ints)) | inr l ↦ let e = l.0 in let u = l.1 in inr (omega (arith, ints), omega (arith, ints)) ];
}

-- where there is no way, the points are the same
pub same_of : {p q : Triple} → (run q p ≡ pos 0) × (rise q p ≡ pos 0) → IsSame p q
same_of h = let e = h.0 in let f = h.1 in record { same_x = omega (arith, ints); same_y = omega (arith, ints) }

-- a way that is nothing has no weight, or its points are the same
idle : {w : ℤ} {p q : Triple} → (w ≡ pos 0) ⊎ ((run q p ≡ pos 0) × (rise q p ≡ pos 0)) → (w ≡ pos 0) ⊎ IsSame p q
idle (inl e) = inl e
idle (inr h) = inr (same_of h)

-- the same where the weight is an opposite
idle_opposite : {w : ℤ} {p q : Triple} → (neg_ℤ w ≡ pos 0) ⊎ ((run q p ≡ pos 0) × (rise q p ≡ pos 0)) → (w ≡ pos 0) ⊎ IsSame p q
idle_opposite (inl e) = inl (zero_of_opposite e)
idle_opposite (inr h) = inr (same_of h)

-- s is on the line or x is t, t is on the line or x is s, and x is on the chord or the line is none
abbrev pub IsBalanced : (a b s t x : Triple) → Type 0
IsBalanced a b s t x = ((determinant a b s ≡ pos 0) ⊎ IsSame x t) × ((determinant a b t ≡ pos 0) ⊎ IsSame s x)
    × ((determinant s t x ≡ pos 0) ⊎ IsSame a b)

-- x comes between s and t
module _ (a b s t x : Triple) (ab : NotAfter a b) (sx : NotAfter s x) (xt : NotAfter x t) (st : NotAfter s t) where
  -- four ways balance, in X
  balance_X : neg_ℤ (determinant a b x) *ℤ run t s +ℤ determinant a b s *ℤ run t x +ℤ determinant a b t *ℤ run x s
      +ℤ determinant s t x *ℤ run b a ≡ pos 0
  balance_X =
      zero_value (neg (det 0 1 4) ⊗ written_run 3 2 ⊕ det 0 1 2 ⊗ written_run 3 4 ⊕ det 0 1 3 ⊗ written_run 4 2 ⊕ det 2 3 4 ⊗ written_run 1 0)
      (parts (a ∷ b ∷ s ∷ t ∷ x ∷ []) []) refl

  -- and in Y
  balance_Y : neg_ℤ (determinant a b x) *ℤ rise t s +ℤ determinant a b s *ℤ rise t x +ℤ determinant a b t *ℤ rise x s
      +ℤ determinant s t x *ℤ rise b a ≡ pos 0
  balance_Y =
      zero_value (neg (det 0 1 4) ⊗ written_rise 3 2 ⊕ det 0 1 2 ⊗ written_rise 3 4 ⊕ det 0 1 3 ⊗ written_rise 4 2 ⊕ det 2 3 4 ⊗ written_rise 1 0)
      (parts (a ∷ b ∷ s ∷ t ∷ x ∷ []) []) refl

  -- the same with the opposite weights
  opposite_X : determinant a b x *ℤ run t s +ℤ neg_ℤ (determinant a b s) *ℤ run t x +ℤ neg_ℤ (determinant a b t) *ℤ run x s
      +ℤ neg_ℤ (determinant s t x) *ℤ run b a ≡ pos 0
  opposite_X =
      zero_value (det 0 1 4 ⊗ written_run 3 2 ⊕ neg (det 0 1 2) ⊗ written_run 3 4 ⊕ neg (det 0 1 3) ⊗ written_run 4 2 ⊕ neg (det 2 3 4) ⊗ written_run 1 0)
      (parts (a ∷ b ∷ s ∷ t ∷ x ∷ []) []) refl

  opposite_Y : determinant a b x *ℤ rise t s +ℤ neg_ℤ (determinant a b s) *ℤ rise t x +ℤ neg_ℤ (determinant a b t) *ℤ rise x s
      +ℤ neg_ℤ (determinant s t x) *ℤ rise b a ≡ pos 0
  opposite_Y =
      zero_value (det 0 1 4 ⊗ written_rise 3 2 ⊕ neg (det 0 1 2) ⊗ written_rise 3 4 ⊕ neg (det 0 1 3) ⊗ written_rise 4 2 ⊕ neg (det 2 3 4) ⊗ written_rise 1 0)
      (parts (a ∷ b ∷ s ∷ t ∷ x ∷ []) []) refl

  -- x is not above the line, s and t are not below it, and x is not below the chord
  pub chord_above : determinant a b x ≤ℤ pos 0 → pos 0 ≤ℤ determinant a b s → pos 0 ≤ℤ determinant a b t → pos 0 ≤ℤ determinant s t x
      → IsBalanced a b s t x
  chord_above hx hs ht h =
      let n = none_gains (way _ (opposite_not_negative hx) s t st) (way _ hs x t xt) (way _ ht s x sx) (way _ h a b ab) balance_X balance_Y in
      (idle n.1, idle n.2, idle n.3)

  -- x is not below the line, s and t are not above it, and x is not above the chord
  pub chord_below : pos 0 ≤ℤ determinant a b x → determinant a b s ≤ℤ pos 0 → determinant a b t ≤ℤ pos 0 → determinant s t x ≤ℤ pos 0
      → IsBalanced a b s t x
  chord_below hx hs ht h =
      let n = none_gains (way _ hx s t st) (way _ (opposite_not_negative hs) x t xt) (way _ (opposite_not_negative ht) s x sx)
      (way _ (opposite_not_negative h) a b ab) opposite_X opposite_Y in
      (idle_opposite n.1, idle_opposite n.2, idle_opposite n.3)
