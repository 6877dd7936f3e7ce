-- What a comparison of two pairs of integers tells, the first of each before the second.
use Rattle.std.proofs.Common.{◌≡◌, ◌↔◌, ◌⊎◌, inl, inr, refl, subst, sym, ◌∙◌, ℤ, ◌*ℤ◌, ◌<ℤ◌, Less, Equal, Greater, arith}
use Rattle.std.proofs.lemmas.Int.{ints}
use Rattle.std.specs.Cmp.{int_ranks}
use Rattle.std.specs.Ordering.{MatchOrdering, int_cmp, ordering_then}
use Rattle.std.specs.declared.cmp.Ordering.{Ordering}
use Rattle.plane.specs.Order.{Precedes}
use Rattle.plane.specs.Point.{IsSame, Triple}
use Rattle.exact_plane.proofs.Registers.{wide}
use Rattle.exact_plane.proofs.WideProducts.{part_is}
use Rattle.exact_plane.specs.Size.{IsSized}

-- the integers compare as the answer says
abbrev Ranks : Ordering → ℤ → ℤ → Type 0
Ranks r a b = MatchOrdering r (a <ℤ b) (a ≡ b) (b <ℤ a)

less_by : (r s : Ordering) (a b c d : ℤ) → Ranks r a b → Ranks s c d → (ordering_then r s ≡ Less) ↔ ((a <ℤ b) ⊎ ((a ≡ b) × (c <ℤ d)))
less_by Less s a b c d h k = (λ _. inl h, λ _. refl)
less_by Equal Less a b c d h k = (λ _. inr (h, k), λ _. refl)
less_by Equal Equal a b c d h k = (λ e. cc, λ m. elim m [ inl l ↦ absurd (omega (arith, ints)) | inr l ↦ absurd (omega (arith, ints, l.1)) ])
less_by Equal Greater a b c d h k = (λ e. cc, λ m. elim m [ inl l ↦ absurd (omega (arith, ints)) | inr l ↦ absurd (omega (arith, ints, l.1)) ])
less_by Greater s a b c d h k = (λ e. cc, λ m. elim m [ inl l ↦ absurd (omega (arith, ints)) | inr l ↦ absurd (omega (arith, ints, l.0)) ])

equal_by : (r s : Ordering) (a b c d : ℤ) → Ranks r a b → Ranks s c d → (ordering_then r s ≡ Equal) ↔ ((a ≡ b) × (c ≡ d))
equal_by Less s a b c d h k = (λ e. cc, λ m. absurd (omega (arith, ints, m.0)))
equal_by Equal Less a b c d h k = (λ e. cc, λ m. absurd (omega (arith, ints, m.1)))
equal_by Equal Equal a b c d h k = (λ _. (h, k), λ _. refl)
equal_by Equal Greater a b c d h k = (λ e. cc, λ m. absurd (omega (arith, ints, m.1)))
equal_by Greater s a b c d h k = (λ e. cc, λ m. absurd (omega (arith, ints, m.0)))

greater_by : (r s : Ordering) (a b c d : ℤ) → Ranks r a b → Ranks s c d → (ordering_then r s ≡ Greater) ↔ ((b <ℤ a) ⊎ ((b ≡ a) × (d <ℤ c)))
greater_by Less s a b c d h k = (λ e. cc, λ m. elim m [ inl l ↦ absurd (omega (arith, ints)) | inr l ↦ absurd (omega (arith, ints, l.0)) ])
greater_by Equal Less a b c d h k = (λ e. cc, λ m. elim m [ inl l ↦ absurd (omega (arith, ints)) | inr l ↦ absurd (omega (arith, ints, l.1)) ])
greater_by Equal Equal a b c d h k = (λ e. cc, λ m. elim m [ inl l ↦ absurd (omega (arith, ints)) | inr l ↦ absurd (omega (arith, ints, l.1)) ])
greater_by Equal Greater a b c d h k = (λ _. inr (omega (arith, ints), k), λ _. refl)
greater_by Greater s a b c d h k = (λ _. inl h, λ _. refl)

module _ (a b c d : ℤ) where
  -- the first pair is less, by the first numbers or by the second,
  pub then_less : (ordering_then (int_cmp a b) (int_cmp c d) ≡ Less) ↔ ((a <ℤ b) ⊎ ((a ≡ b) × (c <ℤ d)))
  then_less = less_by _ _ a b c d (int_ranks a b) (int_ranks c d)

  -- they are equal,
  pub then_equal : (ordering_then (int_cmp a b) (int_cmp c d) ≡ Equal) ↔ ((a ≡ b) × (c ≡ d))
  then_equal = equal_by _ _ a b c d (int_ranks a b) (int_ranks c d)

  -- or the first is greater
  pub then_greater : (ordering_then (int_cmp a b) (int_cmp c d) ≡ Greater) ↔ ((b <ℤ a) ⊎ ((b ≡ a) × (d <ℤ c)))
  then_greater = greater_by _ _ a b c d (int_ranks a b) (int_ranks c d)

-- the comparison of two rational points
abbrev pub compared : Triple → Triple → Ordering
compared p q = ordering_then (int_cmp (p.X *ℤ q.W) (q.X *ℤ p.W)) (int_cmp (p.Y *ℤ q.W) (q.Y *ℤ p.W))

-- all that it tells of two points, from whatever it was computed
pub record TellsOrder (r : Ordering) (p q : Triple) : Type 0 where
  pub less : (r ≡ Less) ↔ Precedes p q
  pub equal : (r ≡ Equal) ↔ IsSame p q
  pub greater : (r ≡ Greater) ↔ Precedes q p

pub compared_tells : (p q : Triple) → TellsOrder (compared p q) p q
compared_tells p q =
    let equal = then_equal (p.X *ℤ q.W) (q.X *ℤ p.W) (p.Y *ℤ q.W) (q.Y *ℤ p.W) in
    record {
      less = then_less _ _ _ _;
      equal = (λ e. let s = equal.0 e in record { same_x = s.0; same_y = s.1 }, λ s. equal.1 (s.same_x, s.same_y));
      greater = then_greater _ _ _ _;
    }

-- so it is with the points that two values stand for
pub comparison_tells : (P Q p q : Triple) (r s t : Ordering) → IsSized P → IsSized Q → P ≡ p → Q ≡ q
    → r ≡ int_cmp (wide P.X *ℤ wide Q.W) (wide Q.X *ℤ wide P.W) → s ≡ int_cmp (wide P.Y *ℤ wide Q.W) (wide Q.Y *ℤ wide P.W)
    → t ≡ ordering_then r s → TellsOrder t p q
comparison_tells P Q p q r s t a b is_p is_q er es et =
    let first : r ≡ int_cmp (P.X *ℤ Q.W) (Q.X *ℤ P.W) =
    er ∙ (λ i. int_cmp (part_is P.X Q.W a.X_small b.W_small i) (part_is Q.X P.W b.X_small a.W_small i)) in
    let second : s ≡ int_cmp (P.Y *ℤ Q.W) (Q.Y *ℤ P.W) =
    es ∙ (λ i. int_cmp (part_is P.Y Q.W a.Y_small b.W_small i) (part_is Q.Y P.W b.Y_small a.W_small i)) in
    let is : t ≡ compared P Q = et ∙ (λ i. ordering_then (first i) (second i)) in
    subst (λ v. TellsOrder t p v) is_q (subst (λ u. TellsOrder t u Q) is_p (subst (λ o. TellsOrder o P Q) (sym is) (compared_tells P Q)))
