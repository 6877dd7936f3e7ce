-- The edges of a funnel at its places, and the window of the place from which a point is reached.
use Rattle.std.proofs.Common.{◌≡◌, inl, inr, refl, sym, subst, ◌∙◌, List, length, ℕ, ◌+◌, ◌-◌, ◌<◌, arith}
use Rattle.std.proofs.lemmas.Bool.{cases_lt}
use Rattle.integer_algebra.proofs.SignSteps.{positive_not_negative}
use Rattle.plane.specs.Prelude.{IsLeft, IsRight, Point, Triple, whole}
use Rattle.rings.specs.Chain.{point_at}
use Rattle.funnels.proofs.Funnels.CrossingDiagonal.{IsEnd}
use Rattle.funnels.specs.Funnel.{IsFunnel, IsFunnelEdge, IsInWindow, IsPassed, IsReachedFrom, Reaches}

-- ---- the edges at a place

-- edge j of a funnel, which begins or ends at n
pub record EdgeAt (ns : List Point) (a j : ℕ) (l r n : Point) : Type 0 where
  pub from : Point
  pub to : Point
  pub is : IsFunnelEdge ns a j from to
  pub end : IsEnd n from to
  pub differ : ¬ (from ≡ to)
  pub reach : Reaches from to l r

module _ (ns : List Point) (a : ℕ) (l r : Point) (f : IsFunnel ns a l r) where
  -- points beside each other differ
  differ_before : (j : ℕ) → 0 < j → j < length ns → ¬ (point_at ns (j - 1) ≡ point_at ns j)
  differ_before j some within =
      let e : j - 1 + 1 ≡ j = omega arith in
      subst (λ n. ¬ (point_at ns (j - 1) ≡ point_at ns n)) e (f.differ (j - 1) (omega arith))

  -- so edge j is one at both of its places:
  edge_at : (j : ℕ) → 0 < j → j < length ns → (n : Point) → IsEnd n (point_at ns (j - 1)) (point_at ns j) → EdgeAt ns a j l r n
  edge_at j some within n end = elim (cases_lt a j) [
    | inl right ↦
        let is : IsFunnelEdge ns a j (point_at ns (j - 1)) (point_at ns j) = inr (right, refl, refl) in
        record {
          from = point_at ns (j - 1);
          to = point_at ns j;
          is = is;
          end = end;
          differ = differ_before j some within;
          reach = f.reaches j (point_at ns (j - 1)) (point_at ns j) some within is;
        }
    | inr left ↦
        let is : IsFunnelEdge ns a j (point_at ns j) (point_at ns (j - 1)) = inl (left, refl, refl) in
        record {
          from = point_at ns j;
          to = point_at ns (j - 1);
          is = is;
          end = elim end [ inl e ↦ inr e | inr e ↦ inl e ];
          differ = λ e. differ_before j some within (sym e);
          reach = f.reaches j (point_at ns j) (point_at ns (j - 1)) some within is;
        }
  ]

  -- the edge before a place,
  pub edge_before : (h : ℕ) → 0 < h → h < length ns → EdgeAt ns a h l r (point_at ns h)
  edge_before h some within = edge_at h some within (point_at ns h) (inr refl)

  -- and the one after it
  pub edge_after : (h : ℕ) → h + 1 < length ns → EdgeAt ns a (h + 1) l r (point_at ns h)
  edge_after h more =
      let e : h ≡ h + 1 - 1 = omega arith in
      edge_at (h + 1) (omega arith) more (point_at ns h) (inl (subst (λ n. point_at ns h ≡ point_at ns n) e refl))

-- each number has only one edge
pub one_edge : (ns : List Point) (a e : ℕ) (u w p q : Point) → IsFunnelEdge ns a e u w → IsFunnelEdge ns a e p q → (u ≡ p) × (w ≡ q)
one_edge ns a e u w p q (inl h) (inl k) = (h.1 ∙ sym k.1, h.2 ∙ sym k.2)
one_edge ns a e u w p q (inl h) (inr k) = absurd (omega (arith, h.0, k.0))
one_edge ns a e u w p q (inr h) (inl k) = absurd (omega (arith, h.0, k.0))
one_edge ns a e u w p q (inr h) (inr k) = (h.1 ∙ sym k.1, h.2 ∙ sym k.2)

-- so a point between the two edges at a place is in the window
pub in_window_of : (ns : List Point) (a i : ℕ) (l r n : Point) (d : EdgeAt ns a i l r n) (e : EdgeAt ns a (i + 1) l r n) (x : Triple)
    → ¬ IsLeft (whole d.from) (whole d.to) x → ¬ IsRight (whole e.from) (whole e.to) x → IsInWindow ns a i x
in_window_of ns a i l r n d e x not_left not_right = record {
  not_left = λ u w some is h.
      let same = one_edge ns a i u w d.from d.to is d.is in
      not_left (rw same.0 at (rw same.1 at h));
  not_right = λ u w within is h.
      let same = one_edge ns a (i + 1) u w e.from e.to is e.is in
      not_right (rw same.0 at (rw same.1 at h));
}

-- ---- the place from which a point is reached

module _ (ns : List Point) (a : ℕ) (y : Triple) where
  -- no point is left of an edge that the way to it passes,
  pub passed_not_left : (j : ℕ) (u w : Point) → IsFunnelEdge ns a j u w → IsPassed ns a j y → ¬ IsLeft (whole u) (whole w) y
  passed_not_left j u w (inl e) (inl k) = rw (e.1, e.2) k.1
  passed_not_left j u w (inl e) (inr k) = absurd (omega (arith, e.0, k.0))
  passed_not_left j u w (inr e) (inl k) = absurd (omega (arith, e.0, k.0))
  passed_not_left j u w (inr e) (inr k) = rw (e.1, e.2) (λ h. positive_not_negative h k.1)

  -- nor right of one that it does not pass
  pub not_passed_not_right : (j : ℕ) (u w : Point) → IsFunnelEdge ns a j u w → ¬ IsPassed ns a j y → ¬ IsRight (whole u) (whole w) y
  not_passed_not_right j u w (inl e) not = rw (e.1, e.2) (λ h. not (inl (e.0, λ k. positive_not_negative k h)))
  not_passed_not_right j u w (inr e) not = rw (e.1, e.2) (λ h. not (inr (e.0, h)))

-- so what is reached from a place is in its window
pub window_of_reached : (ns : List Point) (a h : ℕ) (y : Triple) → IsReachedFrom ns a h y → IsInWindow ns a h y
window_of_reached ns a h y from = record {
  not_left = λ u w some is. passed_not_left ns a y h u w is (from.passed some);
  not_right = λ u w more is. not_passed_not_right ns a y (h + 1) u w is (from.not_passed more);
}
