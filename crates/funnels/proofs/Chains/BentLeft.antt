-- How the chains bend on the way to the points of the next funnel on the left: the points from the place that the corner is reached from.
use Rattle.std.proofs.Common.{◌≡◌, refl, inl, inr, sym, subst, Bool, false, List, [], ◌∷◌, ◌++◌, length, drop, ℕ, ◌+◌, ◌-◌, ◌<◌, max, arith}
use Rattle.std.proofs.lemmas.Bool.{cases_lt}
use Rattle.plane.specs.Point.{Point, whole}
use Rattle.rings.specs.Prelude.{IsBend, IsBentChain, point_at}
use Rattle.funnels.proofs.Chains.ApexTurns.{TurnsBack, back_of_right, edge_kept, side_by, turns_of_side}
use Rattle.funnels.proofs.Chains.WaysBefore.{chain_right, IsWayBefore, before_apex_right, before_last_right}
use Rattle.funnels.proofs.Funnels.{by_points, left_new_at, left_old_at, left_on_left, left_on_right, next_left_length, next_left_old, right_of_way}
use Rattle.funnels.specs.Funnel.{IsFunnel, IsReachedFrom}
use Rattle.funnels.specs.OpenFunnel.{IsApexSide, IsBentFunnel, IsLastOf, IsOpenSight, right_behind}

module _ (ring before ns : List Point) (a : ℕ) (l r : Point) (f : IsFunnel ns a l r) (bent : IsBentFunnel ring before ns a)
    (h : ℕ) (p : Point) (reached : IsReachedFrom ns a h (whole p)) (ks : List Point) (count : length ks ≡ length ns - h + 1)
    (new : point_at ks 0 ≡ p) (old : (i : ℕ) → point_at ks (i + 1) ≡ point_at ns (h + i)) where
  -- places with old points, and that of the new one
  at : (i j : ℕ) → 0 < i → h + i ≡ j + 1 → point_at ks i ≡ point_at ns j
  at = left_old_at ns h p ks new old

  first_at : (i : ℕ) → i ≡ 0 → point_at ks i ≡ p
  first_at = left_new_at ns h p ks new old

  -- ---- to which side the chain turns at the apex

  module _ (turns : h ≡ a → (q : Point) → IsLastOf before q → (side : Bool) × IsApexSide ns a q side × TurnsBack side q (point_at ns a) p)
      (q : Point) (last : IsLastOf (before ++ right_behind ns a (h - a)) q) where
    -- the chain turns to the side of the old apex,
    side_kept : h < a → (side : Bool) × IsApexSide ks (a - h + 1) q side
    side_kept less =
        let top = f.apex_within in
        let (side, is) = bent.apex_side q (before_apex_right ns before a h q (omega arith) last) in
        let t = turns_of_side ns a q side is in (
          side,
          side_by ks (a - h + 1) q side (point_at ns a) (point_at ns (a - 1)) (point_at ns (a + 1))
              (at (a - h + 1) a (omega arith) (omega arith)) (λ _. at (a - h + 1 - 1) (a - 1) (omega arith) (omega arith))
              (λ _. at (a - h + 1 + 1) (a + 1) (omega arith) (omega arith))
              (edge_kept side (0 < a) (a + 1 < length ns) (0 < a - h + 1) (a - h + 1 + 1 < length ks)
              (λ some. omega arith) (λ more. omega arith) t.edge)
              (λ some. t.left (omega arith)) (λ more. t.right (omega arith)),
        )

    -- or to the one to which the new point is behind the old ways,
    side_at_apex : h ≡ a → (side : Bool) × IsApexSide ks (a - h + 1) q side
    side_at_apex same =
        let top = f.apex_within in
        let (side, is, back) = turns same q (before_apex_right ns before a h q (omega arith) last) in
        let t = turns_of_side ns a q side is in (
          side,
          side_by ks (a - h + 1) q side (point_at ns a) p (point_at ns (a + 1))
              (at (a - h + 1) a (omega arith) (omega arith)) (λ _. first_at (a - h + 1 - 1) (omega arith))
              (λ _. at (a - h + 1 + 1) (a + 1) (omega arith) (omega arith))
              (edge_kept side (0 < a) (a + 1 < length ns) (0 < a - h + 1) (a - h + 1 + 1 < length ks)
              (λ some. omega arith) (λ more. omega arith) t.edge)
              (λ _. back) (λ more. t.right (omega arith)),
        )

    -- or to the right
    side_on_right : a < h → (side : Bool) × IsApexSide ks (a - h + 1) q side
    side_on_right less =
        let within = reached.within in
        let e = before_last_right ns before a h q less last in (
          false,
          side_by ks (a - h + 1) q false (point_at ns h) p (point_at ns (h + 1))
              (at (a - h + 1) h (omega arith) (omega arith)) (λ _. first_at (a - h + 1 - 1) (omega arith))
              (λ _. at (a - h + 1 + 1) (h + 1) (omega arith) (omega arith)) (omega arith)
              (λ _. subst (λ x. TurnsBack false x (point_at ns h) p) (sym e)
              (back_of_right (point_at ns (h - 1)) (point_at ns h) p (right_of_way ns a l r f h (whole p) reached less)))
              (λ more. subst (λ x. TurnsBack false x (point_at ns h) (point_at ns (h + 1))) (sym e)
              (back_of_right (point_at ns (h - 1)) (point_at ns h) (point_at ns (h + 1)) (f.right_turns h less (omega arith)))),
        )

    -- to one side in each case
    pub next_apex_side : (side : Bool) × IsApexSide ks (a - h + 1) q side
    next_apex_side = elim (cases_lt h a) [
      | inl less ↦ side_kept less
      | inr le ↦ elim (cases_lt a h) [
        | inl less ↦ side_on_right less
        | inr ge ↦ side_at_apex (omega arith)
      ]
    ]

  -- ---- how it bends there

  module _ (bends : (x : Point) → IsWayBefore before ns a h x → IsBend ring x (point_at ns h) p)
      (q : Point) (last : IsLastOf (before ++ right_behind ns a (h - a)) q) where
    -- the last point before it comes before the place that the new point is reached from
    way_before : a < h + 1 → IsWayBefore before ns a h q
    way_before le = elim (cases_lt a h) [
      | inl less ↦ inr (inl (less, before_last_right ns before a h q less last))
      | inr same ↦ inr (inr (omega arith, before_apex_right ns before a h q (omega arith) last))
    ]

    -- the bend to the left is one, or the bend to the new point,
    next_apex_left : IsBend ring q (point_at ks (a - h + 1)) (point_at ks (a - h + 1 - 1))
    next_apex_left = elim (cases_lt h a) [
      | inl less ↦
          by_points (IsBend ring) q (point_at ns a) (point_at ns (a - 1))
          q (point_at ks (a - h + 1)) (point_at ks (a - h + 1 - 1)) refl
          (at (a - h + 1) a (omega arith) (omega arith)) (at (a - h + 1 - 1) (a - 1) (omega arith) (omega arith))
          (bent.apex_left q (before_apex_right ns before a h q (omega arith) last) (omega arith))
      | inr le ↦
          by_points (IsBend ring) q (point_at ns h) p
          q (point_at ks (a - h + 1)) (point_at ks (a - h + 1 - 1)) refl
          (at (a - h + 1) h (omega arith) (omega arith)) (first_at (a - h + 1 - 1) (omega arith))
          (bends q (way_before (omega arith)))
    ]

    -- and that to the right is an old one
    next_apex_right : a - h + 1 + 1 < length ks → IsBend ring q (point_at ks (a - h + 1)) (point_at ks (a - h + 1 + 1))
    next_apex_right more = elim (cases_lt a h) [
      | inl less ↦
          by_points (IsBend ring) (point_at ns (h - 1)) (point_at ns h) (point_at ns (h + 1))
          q (point_at ks (a - h + 1)) (point_at ks (a - h + 1 + 1)) (before_last_right ns before a h q less last)
          (at (a - h + 1) h (omega arith) (omega arith)) (at (a - h + 1 + 1) (h + 1) (omega arith) (omega arith))
          (bent.right_bends h less (omega arith))
      | inr le ↦
          by_points (IsBend ring) q (point_at ns a) (point_at ns (a + 1))
          q (point_at ks (a - h + 1)) (point_at ks (a - h + 1 + 1)) refl
          (at (a - h + 1) a (omega arith) (omega arith)) (at (a - h + 1 + 1) (a + 1) (omega arith) (omega arith))
          (bent.apex_right q (before_apex_right ns before a h q le last) (omega arith))
    ]

-- from p, and the points from place h on, with what is left behind on the right
pub bent_left : (ring before ns : List Point) (a : ℕ) (l r : Point) → IsFunnel ns a l r → IsOpenSight ring ns a l r
    → IsBentFunnel ring before ns a → (h : ℕ) (p : Point) → IsReachedFrom ns a h (whole p)
    → ((x : Point) → IsWayBefore before ns a h x → IsBend ring x (point_at ns h) p)
    → (h ≡ a → (q : Point) → IsLastOf before q → (side : Bool) × IsApexSide ns a q side × TurnsBack side q (point_at ns a) p)
    → IsBentFunnel ring (before ++ right_behind ns a (h - a)) (p ∷ drop h ns) (a - h + 1)
bent_left ring before ns a l r f sight bent h p reached bends turns =
    let ks = p ∷ drop h ns in
    let count = next_left_length ns p h reached.within in
    let old = next_left_old ns p h in
    let place = at ring before ns a l r f bent h p reached ks count refl old (a - h + 1) (max a h) (omega arith) (omega arith) in
    record {
      chain = subst (λ x. IsBentChain ring (before ++ right_behind ns a (h - a) ++ x ∷ [])) (sym place)
          (chain_right ring ns a l r f sight before bent h reached.within);
      left_bends = left_on_left ns h p ks refl old (IsBend ring) a bent.left_bends
          (λ less. bends (point_at ns (h + 1)) (inl (less, refl)));
      right_bends = left_on_right ns h p ks refl old (IsBend ring) a count reached.within bent.right_bends;
      apex_left = λ q last _. next_apex_left ring before ns a l r f bent h p reached ks count refl old bends q last;
      apex_right = next_apex_right ring before ns a l r f bent h p reached ks count refl old bends;
      apex_side = next_apex_side ring before ns a l r f bent h p reached ks count refl old turns;
    }
