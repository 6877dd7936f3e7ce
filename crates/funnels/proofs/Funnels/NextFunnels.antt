-- The two next funnels, of the diagonals from a point beyond to the right end and from the left end to it: the point, and the points from the
-- place that it is reached from, or those to that place.
-- On the side from an end of the diagonal to m the window of an old point in the next funnel is within its old window.
use Rattle.std.proofs.Common.{◌≡◌, refl, inl, inr, sym, subst, ◌∙◌, List, ◌∷◌, length, drop, ℕ, ◌+◌, ◌-◌, ◌<◌, ◌≤◌, pos, ◌<ℤ◌, arith, ◌++◌}
use Rattle.std.proofs.Common.{take, min, []}
use Rattle.std.proofs.lemmas.Bool.{cases_lt}
use Rattle.integer_algebra.proofs.SignSteps.{negative_not_zero, not_both, turned_negative, weak_order, positive_not_zero}
use Rattle.plane.proofs.Points.{whole_is_point}
use Rattle.plane.proofs.Turns.{determinant_same_ends, determinant_same_last, determinant_swap_last}
use Rattle.plane.specs.Prelude.{height_over, IsPoint, On, Point, Triple, whole}
use Rattle.rings.specs.Chain.{point_at}
use Rattle.funnels.proofs.Funnels.FunnelEdges.{not_passed_not_right, passed_not_left, window_of_reached}
use Rattle.funnels.proofs.Funnels.Heights.{not_negative}
use Rattle.funnels.proofs.Funnels.NewEdge.{reaches_new}
use Rattle.funnels.proofs.Funnels.NextEdges.{new_edge_left, old_edge_left, new_edge_right, old_edge_right, edge_left, edge_right}
use Rattle.funnels.proofs.Funnels.NextPoints.{left_ends_at, left_keeps, left_old_at, left_on_left, left_on_right, next_left_length}
use Rattle.funnels.proofs.Funnels.NextPoints.{next_left_old, next_right_last, next_right_length, next_right_old, right_ends_at, right_keeps}
use Rattle.funnels.proofs.Funnels.NextPoints.{right_new_at, right_on_left, right_on_right}
use Rattle.funnels.proofs.Funnels.PassedEdges.{not_passed_from, passed_to, left_of_way, right_of_way}
use Rattle.funnels.proofs.Funnels.LineCrossed.{not_left_along, not_right_along}
use Rattle.funnels.proofs.Funnels.ThreePoints.{by_points, turns_left, turns_not_left, turns_right}
use Rattle.funnels.specs.Funnel.{IsFunnel, IsFunnelEdge, IsReachedFrom, Reaches, IsInWindow}

module _ (ns : List Point) (a : ℕ) (l r : Point) (f : IsFunnel ns a l r) (h : ℕ) (m : Point) (beyond : height_over l r (whole m) <ℤ pos 0)
    (reached : IsReachedFrom ns a h (whole m)) where
  -- m is no end of the old diagonal, and no point of the old funnel
  not_right_end : ¬ (m ≡ r)
  not_right_end e =
      negative_not_zero (subst (λ (p : Point). height_over l r (whole p) <ℤ pos 0) e beyond) (determinant_same_ends (whole r) (whole l))

  not_old_left : (i : ℕ) → i < length ns → ¬ (m ≡ point_at ns i)
  not_old_left i within e =
      not_both (subst (λ (p : Point). height_over l r (whole p) <ℤ pos 0) e beyond) (not_negative ns a l r f i within)

  -- where the edge after h is on the right, the way to m does not turn to the left along it
  opens_from_new : a ≤ h → h + 1 < length ns → turns_not_left (point_at ns h) m (point_at ns (h + 1))
  opens_from_new right more left =
      let e : h + 1 - 1 ≡ h = omega arith in
      reached.not_passed more (inr (
        omega arith,
        subst (λ n. turns_right (point_at ns n) (point_at ns (h + 1)) m) (sym e)
            (turned_negative (determinant_swap_last (whole (point_at ns h)) (whole m) (whole (point_at ns (h + 1)))) left),
      ))

  module _ (ks : List Point) (count : length ks ≡ length ns - h + 1) (new : point_at ks 0 ≡ m)
      (old : (i : ℕ) → point_at ks (i + 1) ≡ point_at ns (h + i)) where
    -- points beside each other differ
    differ_left : (i : ℕ) → i + 1 < length ks → ¬ (point_at ks i ≡ point_at ks (i + 1))
    differ_left i within =
        let top = reached.within in
        elim (cases_lt 0 i) [
          | inl later ↦
              left_keeps ns h m ks new old (λ u v w. ¬ (u ≡ v)) i (i + 1) i (h + i - 1) (h + i - 1 + 1) (h + i - 1)
              later (omega arith) later (omega arith) (omega arith) (omega arith) (f.differ (h + i - 1) (omega arith))
          | inr first ↦
              left_ends_at ns h m ks new old (λ u v w. ¬ (w ≡ u)) (i + 1) (i + 1) i h h
              (omega arith) (omega arith) (omega arith) (omega arith) (omega arith) (not_old_left h top)
        ]

    -- the opening is the old one, or between the way to m and the edge after h
    opening_left : a - h + 1 + 1 < length ks
        → turns_not_left (point_at ks (a - h + 1)) (point_at ks (a - h + 1 - 1)) (point_at ks (a - h + 1 + 1))
    opening_left within =
        let top = reached.within in
        let b = a - h + 1 in
        elim (cases_lt h a) [
          | inl left ↦
              left_keeps ns h m ks new old turns_not_left b (b - 1) (b + 1) a (a - 1) (a + 1)
              (omega arith) (omega arith) (omega arith) (omega arith) (omega arith) (omega arith) (f.opening (omega arith) (omega arith))
          | inr right ↦
              left_ends_at ns h m ks new old (λ u v w. turns_not_left u w v) b (b + 1) (b - 1) h (h + 1)
              (omega arith) (omega arith) (omega arith) (omega arith) (omega arith) (opens_from_new right (omega arith))
        ]

  -- each edge meets the new diagonal
  reaches_next_left : (j : ℕ) (u w : Point) → 0 < j → j < length (m ∷ drop h ns) → IsFunnelEdge (m ∷ drop h ns) (a - h + 1) j u w
      → Reaches u w m r
  reaches_next_left j u w some within edge =
      let top = reached.within in
      let count = next_left_length ns m h top in
      elim (cases_lt 1 j) [
        | inl later ↦
            let at = old_edge_left ns a h m u w j later edge in
            let e = h + j - 1 in
            record {
              not_right = not_passed_not_right ns a (whole m) e u w at
                  (not_passed_from ns a l r f (whole m) (whole_is_point m) (weak_order beyond) h reached e (omega arith) (omega arith));
              not_left = (f.reaches e u w (omega arith) (omega arith) at).not_left;
            }
        | inr first ↦
            let place : j ≡ 1 = omega arith in
            let ends = new_edge_left ns a h m u w (subst (λ n. IsFunnelEdge (m ∷ drop h ns) (a - h + 1) n u w) place edge) in
            let other = reaches_new ns a l r f h m beyond reached in
            by_points (λ p q s. Reaches p q s r) (point_at ns h) m m u w m ends.0 ends.1 refl (record {
              not_right = λ right. negative_not_zero right (determinant_same_last (whole (point_at ns h)) (whole m));
              not_left = other.not_left;
            })
      ]

  -- so m, and the points from place h on, are a funnel
  pub funnel_left : IsFunnel (m ∷ drop h ns) (a - h + 1) m r
  funnel_left =
      let top = reached.within in
      let apex = f.apex_within in
      let ks = m ∷ drop h ns in
      let count = next_left_length ns m h top in
      let old = next_left_old ns m h in
      record {
        apex_within = omega arith;
        first = refl;
        last = left_old_at ns h m ks refl old (length ks - 1) (length ns - 1) (omega arith) (omega arith) ∙ f.last;
        ends_differ = not_right_end;
        differ = differ_left ks count refl old;
        left_turns = left_on_left ns h m ks refl old turns_left a f.left_turns (left_of_way ns a l r f h (whole m) reached);
        right_turns = left_on_right ns h m ks refl old turns_right a count top f.right_turns;
        opening = λ _ within. opening_left ks count refl old within;
        reaches = reaches_next_left;
      }

-- ---- the funnel of the diagonal from the left end to a point beyond: the points to the place that the point is reached from, and the
-- point

module _ (ns : List Point) (a : ℕ) (l r : Point) (f : IsFunnel ns a l r) (h : ℕ) (m : Point) (beyond : height_over l r (whole m) <ℤ pos 0)
    (reached : IsReachedFrom ns a h (whole m)) where
  -- m is no end of the old diagonal, and no point of the old funnel
  not_left_end : ¬ (l ≡ m)
  not_left_end e =
      negative_not_zero (subst (λ (p : Point). height_over l r (whole p) <ℤ pos 0) (sym e) beyond) (determinant_same_last (whole r) (whole l))

  not_old_right : (i : ℕ) → i < length ns → ¬ (point_at ns i ≡ m)
  not_old_right i within e =
      not_both (subst (λ (p : Point). height_over l r (whole p) <ℤ pos 0) (sym e) beyond) (not_negative ns a l r f i within)

  module _ (ks : List Point) (count : length ks ≡ h + 2)
      (old : (i : ℕ) → i ≤ h → point_at ks i ≡ point_at ns i) (new : point_at ks (h + 1) ≡ m) where
    -- points beside each other differ
    differ_right : (i : ℕ) → i + 1 < length ks → ¬ (point_at ks i ≡ point_at ks (i + 1))
    differ_right i within =
        let top = reached.within in
        elim (cases_lt i h) [
          | inl below ↦
              right_keeps ns h m ks old new (λ u v w. ¬ (u ≡ v)) i (i + 1) i (omega arith) (omega arith) (omega arith)
              (f.differ i (omega arith))
          | inr last ↦
              right_ends_at ns h m ks old new (λ u v w. ¬ (u ≡ w)) i i (i + 1) h h
              (omega arith) (omega arith) (omega arith) (omega arith) (omega arith) (not_old_right h top)
        ]

    -- the opening is the old one, or m is not left of the last edge
    opening_right : 0 < min a h → turns_not_left (point_at ks (min a h)) (point_at ks (min a h - 1)) (point_at ks (min a h + 1))
    opening_right some =
        let top = reached.within in
        elim (cases_lt a h) [
          | inl below ↦
              let e : a ≡ min a h = omega arith in
              subst (λ n. turns_not_left (point_at ks n) (point_at ks (n - 1)) (point_at ks (n + 1))) e
              (right_keeps ns h m ks old new turns_not_left a (a - 1) (a + 1) (omega arith) (omega arith) (omega arith)
              (f.opening (omega arith) (omega arith)))
          | inr last ↦
              right_ends_at ns h m ks old new turns_not_left (min a h) (min a h - 1) (min a h + 1) h (h - 1)
              (omega arith) (omega arith) (omega arith) (omega arith) (omega arith)
              (elim (passed_to ns a l r f (whole m) (whole_is_point m) (weak_order beyond) h reached h (omega arith) (omega arith)) [
                | inl k ↦ k.1
                | inr k ↦ absurd (omega (arith, k.0))
              ])
        ]

  -- each edge meets the new diagonal
  reaches_next_right : (j : ℕ) (u w : Point) → 0 < j → j < length (take (h + 1) ns ++ m ∷ [])
      → IsFunnelEdge (take (h + 1) ns ++ m ∷ []) (min a h) j u w → Reaches u w l m
  reaches_next_right j u w some within edge =
      let top = reached.within in
      let count = next_right_length ns m h top in
      elim (cases_lt h j) [
        | inr below ↦
            let at = old_edge_right ns a h m u w top j below edge in
            record {
              not_right = (f.reaches j u w some (omega arith) at).not_right;
              not_left = passed_not_left ns a (whole m) j u w at (passed_to ns a l r f (whole m) (whole_is_point m) (weak_order beyond) h reached j some below);
            }
        | inl last ↦
            let place : j ≡ h + 1 = omega arith in
            let ends = new_edge_right ns a h m u w top (subst (λ n. IsFunnelEdge (take (h + 1) ns ++ m ∷ []) (min a h) n u w) place edge) in
            let other = reaches_new ns a l r f h m beyond reached in
            by_points (λ p q s. Reaches p q l s) (point_at ns h) m m u w m ends.0 ends.1 refl (record {
              not_right = other.not_right;
              not_left = λ left. positive_not_zero left (determinant_same_last (whole (point_at ns h)) (whole m));
            })
      ]

  -- so the points to place h, and m, are a funnel
  pub funnel_right : IsFunnel (take (h + 1) ns ++ m ∷ []) (min a h) l m
  funnel_right =
      let top = reached.within in
      let ks = take (h + 1) ns ++ m ∷ [] in
      let count = next_right_length ns m h top in
      let old = next_right_old ns m h top in
      let new = next_right_last ns m h top in
      let e : length ks - 1 ≡ h + 1 = omega arith in
      record {
        apex_within = omega arith;
        first = old 0 (omega arith) ∙ f.first;
        last = right_new_at ns h m ks old new (length ks - 1) e;
        ends_differ = not_left_end;
        differ = differ_right ks count old new;
        left_turns = right_on_left ns h m ks old new turns_left a f.left_turns;
        right_turns = right_on_right ns h m ks old new turns_right a count top f.right_turns (right_of_way ns a l r f h (whole m) reached);
        opening = λ some _. opening_right ks count old new some;
        reaches = reaches_next_right;
      }

module _ (ns : List Point) (a : ℕ) (l r : Point) (f : IsFunnel ns a l r)
    (m : Point) (h : ℕ) (reached : IsReachedFrom ns a h (whole m)) where
  -- of the points to place h, and then m, the window of each old point is within its old window
  pub old_window_right : (x : Triple) → IsPoint x → On x (whole l) (whole m) → (g : ℕ) → g ≤ h
      → IsInWindow (take (h + 1) ns ++ m ∷ []) (min a h) g x → IsInWindow ns a g x
  old_window_right x at_x on g le window =
      let within = reached.within in
      let so_many = next_right_length ns m h within in
      record {
        not_left = λ u w some e. window.not_left u w some (edge_right ns a h m u w within g le e);
        not_right = λ u w more e. elim (cases_lt g h) [
          | inl before ↦ window.not_right u w (omega (arith, so_many)) (edge_right ns a h m u w within (g + 1) (omega arith) e)
          | inr last ↦
              let same : h ≡ g = omega arith in
              not_right_along (whole u) (whole w) x (whole l) (whole m) at_x (whole_is_point l) (whole_is_point m) on
              (f.reaches (g + 1) u w (omega arith) more e).not_right
              ((window_of_reached ns a g (whole m) (subst (λ n. IsReachedFrom ns a n (whole m)) same reached)).not_right u w more e)
        ];
      }

  -- and so it is with m, and then the points from place h on
  pub old_window_left : (x : Triple) → IsPoint x → On x (whole m) (whole r) → (g : ℕ) → 0 < g → g < length (m ∷ drop h ns)
      → IsInWindow (m ∷ drop h ns) (a - h + 1) g x
      → IsInWindow ns a (h + g - 1) x
  old_window_left x at_x on g some less window =
      let so_many = next_left_length ns m h reached.within in
      let place : h + g - 1 + 1 ≡ h + (g + 1) - 1 = omega arith in
      record {
        not_left = λ u w above e. elim (cases_lt 1 g) [
          | inl later ↦ window.not_left u w some (edge_left ns a h m u w g later e)
          | inr first ↦
              let same : h ≡ h + g - 1 = omega arith in
              not_left_along (whole u) (whole w) x (whole m) (whole r) at_x (whole_is_point m) (whole_is_point r) on
              ((window_of_reached ns a (h + g - 1) (whole m) (subst (λ n. IsReachedFrom ns a n (whole m)) same reached)).not_left
              u w above e) (f.reaches (h + g - 1) u w above (omega (arith, reached.within)) e).not_left
        ];
        not_right = λ u w more e.
            window.not_right u w (omega (arith, so_many))
            (edge_left ns a h m u w (g + 1) (omega arith) (subst (λ n. IsFunnelEdge ns a n u w) place e));
      }
