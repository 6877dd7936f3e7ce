-- The first funnels: of a source s with r not right of the way from l to s, at the diagonal from l to r.
use Rattle.std.proofs.Common.{◌≡◌, inl, inr, refl, sym, subst, ◌∙◌, [], ◌∷◌, ℕ, zero, suc, ◌+◌, ◌<◌, ◌≤◌, pos, ◌≤ℤ◌, arith}
use Rattle.integer_algebra.proofs.SignSteps.{not_both, not_both_positive, turned_not_positive, zero_not_negative, zero_not_positive}
use Rattle.plane.proofs.Turns.{determinant_same_last, determinant_shift, determinant_swap_first}
use Rattle.plane.specs.Prelude.{determinant, IsLeft, Point, whole}
use Rattle.rings.specs.Chain.{point_at}
use Rattle.funnels.specs.Funnel.{IsFunnel, IsFunnelEdge, Reaches}

-- what holds of the one edge of a funnel of two points holds of each
edge_of_two : (p q : Point) (a : ℕ) (P : Point → Point → Type 0) → (0 < a → P q p) → (a ≡ 0 → P p q) → (e : ℕ) (u w : Point) → 0 < e → e < 2
    → IsFunnelEdge (p ∷ q ∷ []) a e u w → P u w
edge_of_two p q a P left right zero u w some less is = absurd (omega (arith, some))
edge_of_two p q a P left right (suc zero) u w some less (inl is) = rw (is.1, is.2) (left (omega (arith, is.0)))
edge_of_two p q a P left right (suc zero) u w some less (inr is) = rw (is.1, is.2) (right (omega (arith, is.0)))
edge_of_two p q a P left right (suc (suc e)) u w some less is = absurd (omega (arith, less))

-- two points beside each other, the apex and an end or two ends, are a funnel where the edge reaches the diagonal
funnel_of_two : (p q l r : Point) (a : ℕ) → a ≤ 1 → ¬ (l ≡ r) → p ≡ l → q ≡ r → (0 < a → Reaches q p l r) → (a ≡ 0 → Reaches p q l r)
    → IsFunnel (p ∷ q ∷ []) a l r
funnel_of_two p q l r a within differ first last left right = record {
  apex_within = omega arith;
  first = first;
  last = last;
  ends_differ = differ;
  differ = λ i less.
      let place : 0 ≡ i = omega (arith, less) in
      subst (λ n. ¬ (point_at (p ∷ q ∷ []) n ≡ point_at (p ∷ q ∷ []) (n + 1))) place (λ same. differ (sym first ∙ same ∙ last));
  left_turns = λ i some less. absurd (omega (arith, some, less));
  right_turns = λ i some less. absurd (omega (arith, some, less));
  opening = λ some less. absurd (omega (arith, some, less));
  reaches = edge_of_two p q a (λ u w. Reaches u w l r) left right;
}

module _ (l s r : Point) (differ : ¬ (l ≡ r)) (turn : pos 0 ≤ℤ determinant (whole l) (whole s) (whole r)) where
  -- ---- edges

  -- r is not left of the way from s to l,
  not_left : ¬ IsLeft (whole s) (whole l) (whole r)
  not_left left = not_both_positive left (turned_not_positive (determinant_swap_first (whole l) (whole s) (whole r)) turn)

  -- so an edge from s to l reaches the diagonal,
  reaches_left : Reaches s l l r
  reaches_left = record {
    not_right = λ right. not_both right (zero_not_negative (determinant_same_last (whole s) (whole l)));
    not_left = not_left;
  }

  -- and so does one from s to r
  reaches_right : Reaches s r l r
  reaches_right = record {
    not_right = λ right. not_both right (subst (λ d. pos 0 ≤ℤ d) (sym (determinant_shift (whole l) (whole s) (whole r))) turn);
    not_left = λ left. not_both_positive left (zero_not_positive (determinant_same_last (whole s) (whole r)));
  }

  -- ---- funnels

  -- the edges of the funnel with an apex between l and r,
  reaches_between : (e : ℕ) (u w : Point) → 0 < e → e < 3 → IsFunnelEdge (l ∷ s ∷ r ∷ []) 1 e u w → Reaches u w l r
  reaches_between zero u w some less is = absurd (omega (arith, some))
  reaches_between (suc zero) u w some less (inl is) = rw (is.1, is.2) reaches_left
  reaches_between (suc zero) u w some less (inr is) = absurd (omega (arith, is.0))
  reaches_between (suc (suc zero)) u w some less (inl is) = absurd (omega (arith, is.0))
  reaches_between (suc (suc zero)) u w some less (inr is) = rw (is.1, is.2) reaches_right
  reaches_between (suc (suc (suc e))) u w some less is = absurd (omega (arith, less))

  -- whose points differ from the next,
  three_differ : ¬ (l ≡ s) → ¬ (s ≡ r) → (i : ℕ) → i + 1 < 3
      → ¬ (point_at (l ∷ s ∷ r ∷ []) i ≡ point_at (l ∷ s ∷ r ∷ []) (i + 1))
  three_differ h k zero less = h
  three_differ h k (suc zero) less = k
  three_differ h k (suc (suc i)) less = absurd (omega (arith, less))

  -- a source that is neither end makes a funnel of three points,
  pub funnel_between : ¬ (l ≡ s) → ¬ (s ≡ r) → IsFunnel (l ∷ s ∷ r ∷ []) 1 l r
  funnel_between h k = record {
    apex_within = omega arith;
    first = refl;
    last = refl;
    ends_differ = differ;
    differ = three_differ h k;
    left_turns = λ i some less. absurd (omega (arith, some, less));
    right_turns = λ i some less. absurd (omega (arith, some, less));
    opening = λ some less. not_left;
    reaches = reaches_between;
  }

  -- one at the left end makes one of two,
  pub funnel_from_left : s ≡ l → IsFunnel (s ∷ r ∷ []) 0 l r
  funnel_from_left same = funnel_of_two s r l r 0 (omega arith) differ same refl (λ some. absurd (omega (arith, some))) (λ _. reaches_right)

  -- and so does one at the right end
  pub funnel_from_right : s ≡ r → IsFunnel (l ∷ s ∷ []) 1 l r
  funnel_from_right same = funnel_of_two l s l r 1 (omega arith) differ refl same (λ _. reaches_left) (λ none. absurd (omega (arith, none)))
