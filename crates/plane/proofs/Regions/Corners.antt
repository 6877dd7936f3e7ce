-- Corners in convex position: one more, the first some of them, and the corner list that they make.
use Rattle.std.proofs.Common.{◌≡◌, ◌≢◌, inl, inr, sym, subst, ap, ◌∙◌, ℕ, ◌+◌, ◌%◌, ◌<◌, arith, List, [], ◌∷◌, ◌++◌, length, take, ℤ, pos, ◌*ℤ◌, ◌<ℤ◌}
use Rattle.std.proofs.Math.Nat.{mod-eq_of_lt, mod_self}
use Rattle.std.proofs.lemmas.Bool.{cases_lt}
use Rattle.std.proofs.lemmas.Int.{ints}
use Rattle.std.proofs.lemmas.List.{get_or-take, get_or_append_left, get_or_push, length-take-le, length_push}
use Rattle.integer_algebra.proofs.Laws.{zero-mul}
use Rattle.integer_algebra.proofs.Signs.{mul_positive}
use Rattle.plane.proofs.Turns.{determinant_same, determinant_same_last, determinant_shift, determinant_shift_back}
use Rattle.plane.specs.Convex.{AreConvex, corner}
use Rattle.plane.specs.Prelude.{determinant, IsLeft, IsPoint, IsSame, Precedes, Triple}
use Rattle.plane.specs.Region.{AreCorners, corner_at}

-- ---- turns to the left

-- equal points turn alike
pub left_at : {a b c d e f : Triple} → d ≡ a → e ≡ b → f ≡ c → IsLeft a b c → IsLeft d e f
left_at ea eb ec h = subst (λ (z : ℤ). pos 0 <ℤ z) (sym (λ k. determinant (ea k) (eb k) (ec k))) h

-- the first point may go to the end
pub left_shift : (a b c : Triple) → IsLeft a b c → IsLeft b c a
left_shift a b c h = subst (λ (z : ℤ). pos 0 <ℤ z) (sym (determinant_shift a b c)) h

-- and the last to the front
pub left_shift_back : (a b c : Triple) → IsLeft a b c → IsLeft c a b
left_shift_back a b c h = subst (λ (z : ℤ). pos 0 <ℤ z) (sym (determinant_shift_back a b c)) h

-- a product of positive numbers is none with 0
pub no_product : (d w e v : ℤ) → d *ℤ w ≡ e *ℤ v → e ≡ pos 0 → pos 0 <ℤ d → pos 0 <ℤ w → ⊥
no_product d w e v h zero hd hw = omega (arith, ints, mul_positive d w hd hw, h, ap (λ z. z *ℤ v) zero, zero-mul v)

-- the ends of a way that turns differ
pub left_differs : (a b c : Triple) → IsPoint a → IsLeft a b c → ¬ (IsSame a b)
left_differs a b c at_a left same =
    no_product (determinant c a b) a.W (determinant c a a) b.W
    (sym (determinant_same c a a b same)) (determinant_same_last c a) (left_shift_back a b c left) at_a

-- ---- one more corner

-- what holds of the corners and of one more holds of all
pub all_more : (P : Triple → Type 0) (cs : List Triple) (x : Triple) → ((i : ℕ) → i < length cs → P (corner cs i)) → P x
    → (i : ℕ) → i < length (cs ++ x ∷ []) → P (corner (cs ++ x ∷ []) i)
all_more P cs x all here i within = elim (cases_lt i (length cs)) [
  | inl less ↦ subst P (sym (get_or_append_left cs (x ∷ []) _ i less)) (all i less)
  | inr not ↦ subst P (sym (get_or_push cs x _ i (omega (arith, not, within, length_push cs x)))) here
]

module _ (cs : List Triple) (x : Triple) where
  -- the corners stay,
  pub old_corner : (i : ℕ) → i < length cs → corner (cs ++ x ∷ []) i ≡ corner cs i
  old_corner i less = get_or_append_left cs (x ∷ []) _ i less

  -- and the new one is the last
  pub new_corner : (i : ℕ) → length cs ≡ i → corner (cs ++ x ∷ []) i ≡ x
  new_corner i here = get_or_push cs x _ i here

  -- they are convex, where the new one is left of the way between any two
  pub convex_more : AreConvex cs → IsPoint x → ((i j : ℕ) → i < j → j < length cs → IsLeft (corner cs i) (corner cs j) x)
      → (length cs ≡ 1 → ¬ (IsSame (corner cs 0) x)) → AreConvex (cs ++ x ∷ [])
  convex_more convex at_x left differs = record {
    rational = all_more IsPoint cs x convex.rational at_x;
    left = λ i j l before after within. elim (cases_lt l (length cs)) [
      | inl less ↦ left_at (old_corner i (omega (arith, before, after, less))) (old_corner j (omega (arith, after, less)))
          (old_corner l less) (convex.left i j l before after less)
      | inr not ↦
          let here : length cs ≡ l = omega (arith, not, within, length_push cs x) in
          left_at (old_corner i (omega (arith, before, after, here))) (old_corner j (omega (arith, after, here))) (new_corner l here)
          (left i j before (omega (arith, after, here)))
    ];
    different = λ two.
        let one : length cs ≡ 1 = omega (arith, two, length_push cs x) in
        subst (λ (c : Triple). ¬ (IsSame c (corner (cs ++ x ∷ []) 1))) (sym (old_corner 0 (omega (arith, one))))
        (subst (λ (c : Triple). ¬ (IsSame (corner cs 0) c)) (sym (new_corner 1 one)) (differs one));
  }

-- ---- the first some corners

module _ (cs : List Triple) (m : ℕ) (rest : m < length cs) where
  -- their number
  pub length_first : length (take m cs) ≡ m
  length_first = length-take-le m cs (omega (arith, rest))

  -- they stay,
  pub first_corner : (i : ℕ) → i < m → corner (take m cs) i ≡ corner cs i
  first_corner i less = get_or-take m cs i _ less

  -- and what holds of each holds in the list
  pub all_first : (P : Triple → Type 0) → ((i : ℕ) → i < m → P (corner cs i)) → (i : ℕ) → i < length (take m cs) → P (corner (take m cs) i)
  all_first P all i within =
      let less : i < m = omega (arith, within, length_first) in
      subst P (sym (first_corner i less)) (all i less)

  -- they are convex, where not all
  pub convex_first : AreConvex cs → AreConvex (take m cs)
  convex_first convex = record {
    rational = all_first IsPoint (λ i less. convex.rational i (omega (arith, less, rest)));
    left = λ i j l before after within.
        let less : l < m = omega (arith, within, length_first) in
        left_at (first_corner i (omega (arith, before, after, less))) (first_corner j (omega (arith, after, less)))
        (first_corner l less) (convex.left i j l before after (omega (arith, less, rest)));
    different = λ two.
        let some : 2 ≡ m = omega (arith, two, length_first) in
        subst (λ (c : Triple). ¬ (IsSame c (corner (take m cs) 1))) (sym (first_corner 0 (omega (arith, some))))
        (subst (λ (c : Triple). ¬ (IsSame (corner cs 0) c)) (sym (first_corner 1 (omega (arith, some))))
        (left_differs (corner cs 0) (corner cs 1) (corner cs 2) (convex.rational 0 (omega (arith, rest)))
        (convex.left 0 1 2 (omega arith) (omega arith) (omega (arith, some, rest)))));
  }

-- ---- the corner list

module _ (cs : List Triple) where
  -- a corner that is counted round
  pub corner_within : (i : ℕ) → i < length cs → corner_at cs i ≡ corner cs i
  corner_within i less = ap (λ k. corner cs k) (mod-eq_of_lt less)

  -- after the last comes the first
  pub at_first : (i : ℕ) → i ≡ length cs → corner_at cs i ≡ corner cs 0
  at_first i end = ap (λ k. corner cs k) (ap (λ k. k % length cs) end ∙ mod_self (length cs))

  -- all others are left of a side
  left_of_side : AreConvex cs → (i j : ℕ) → i < length cs → j < length cs → j ≢ i → j ≢ (i + 1) % length cs
      → IsLeft (corner_at cs i) (corner_at cs (i + 1)) (corner_at cs j)
  left_of_side convex i j in_i in_j other next = elim (cases_lt (i + 1) (length cs)) [
    | inl more ↦
        let apart : j ≢ i + 1 = λ e. next (e ∙ sym (mod-eq_of_lt more)) in
        left_at (corner_within i in_i) (corner_within (i + 1) more) (corner_within j in_j) (elim (cases_lt j i) [
          | inl before ↦ left_shift (corner cs j) (corner cs i) (corner cs (i + 1)) (convex.left j i (i + 1) before (omega arith) more)
          | inr not ↦ convex.left i (i + 1) j (omega arith) (omega (arith, not, other, apart)) in_j
        ])
    | inr end ↦
        let last : i + 1 ≡ length cs = omega (arith, end, in_i) in
        let round : (i + 1) % length cs ≡ 0 = ap (λ k. k % length cs) last ∙ mod_self (length cs) in
        let apart : j ≢ 0 = λ e. next (e ∙ sym round) in
        left_at (corner_within i in_i) (at_first (i + 1) last) (corner_within j in_j)
        (left_shift_back (corner cs 0) (corner cs j) (corner cs i)
        (convex.left 0 j i (omega (arith, apart)) (omega (arith, in_j, last, other)) in_i))
  ]

  -- convex corners of which the first is the least are a corner list
  pub corners_of_convex : AreConvex cs → ((i : ℕ) → i < length cs → ¬ (Precedes (corner cs i) (corner cs 0))) → AreCorners cs
  corners_of_convex convex least = record {
    rational = λ i less. subst IsPoint (sym (corner_within i less)) (convex.rational i less);
    different = λ two same.
        convex.different two
        (subst (λ (c : Triple). IsSame c (corner cs 1)) (corner_within 0 (omega (arith, two)))
        (subst (λ (c : Triple). IsSame (corner_at cs 0) c) (corner_within 1 (omega (arith, two))) same));
    convex = λ many i j in_i in_j other next. left_of_side convex i j in_i in_j other next;
    least = λ i less before.
        least i less
        (subst (λ (c : Triple). Precedes c (corner cs 0)) (corner_within i less)
        (subst (λ (c : Triple). Precedes (corner_at cs i) c) (corner_within 0 (omega (arith, less))) before));
  }
