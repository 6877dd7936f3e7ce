-- How the chains bend on the way to the points of the next funnel on the right: the points to the place that the corner is reached from.
use Rattle.std.proofs.Common.{◌≡◌, refl, inl, inr, sym, subst, Bool, true, List, [], ◌∷◌, ◌++◌, length, take, ℕ, ◌+◌, ◌-◌, ◌<◌, ◌≤◌, min, arith}
use Rattle.std.proofs.lemmas.Bool.{cases_lt}
use Rattle.plane.specs.Point.{Point, whole}
use Rattle.rings.specs.Prelude.{IsBend, IsBentChain, point_at}
use Rattle.funnels.proofs.Chains.ApexTurns.{TurnsBack, back_of_left, edge_kept, side_by, turns_of_side}
use Rattle.funnels.proofs.Chains.WaysBefore.{chain_left, IsWayBefore, before_apex_left, before_last_left}
use Rattle.funnels.proofs.Funnels.{by_points, left_of_way, next_right_last, next_right_length, next_right_old, right_new_at, right_old_at}
use Rattle.funnels.proofs.Funnels.{right_on_left, right_on_right}
use Rattle.funnels.specs.Funnel.{IsFunnel, IsReachedFrom}
use Rattle.funnels.specs.OpenFunnel.{IsApexSide, IsBentFunnel, IsLastOf, IsOpenSight, left_behind}

module _ (ring before ns : List Point) (a : ℕ) (l r : Point) (f : IsFunnel ns a l r) (bent : IsBentFunnel ring before ns a)
    (h : ℕ) (p : Point) (reached : IsReachedFrom ns a h (whole p)) (ks : List Point) (count : length ks ≡ h + 2)
    (old : (i : ℕ) → i ≤ h → point_at ks i ≡ point_at ns i) (new : point_at ks (h + 1) ≡ p) where
  -- places with old points, and that of the new one
  at : (i j : ℕ) → i ≡ j → j ≤ h → point_at ks i ≡ point_at ns j
  at = right_old_at ns h p ks old new

  new_at : (i : ℕ) → i ≡ h + 1 → point_at ks i ≡ p
  new_at = right_new_at ns h p ks old new

  -- ---- to which side the chain turns at the apex

  module _ (turns : h ≡ a → (q : Point) → IsLastOf before q → (side : Bool) × IsApexSide ns a q side × TurnsBack side q (point_at ns a) p)
      (q : Point) (last : IsLastOf (before ++ left_behind ns a (a - h)) q) where
    -- the chain turns to the side of the old apex,
    side_kept : a < h → (side : Bool) × IsApexSide ks (min a h) q side
    side_kept less =
        let top = reached.within in
        let (side, is) = bent.apex_side q (before_apex_left ns before a h q (omega arith) last) in
        let t = turns_of_side ns a q side is in (
          side,
          side_by ks (min a h) q side (point_at ns a) (point_at ns (a - 1)) (point_at ns (a + 1))
              (at (min a h) a (omega arith) (omega arith)) (λ _. at (min a h - 1) (a - 1) (omega arith) (omega arith))
              (λ _. at (min a h + 1) (a + 1) (omega arith) (omega arith))
              (edge_kept side (0 < a) (a + 1 < length ns) (0 < min a h) (min a h + 1 < length ks)
              (λ some. omega arith) (λ more. omega arith) t.edge)
              (λ some. t.left (omega arith)) (λ more. t.right (omega arith)),
        )

    -- or to the one to which the new point is behind the old ways,
    side_at_apex : h ≡ a → (side : Bool) × IsApexSide ks (min a h) q side
    side_at_apex same =
        let top = reached.within in
        let (side, is, back) = turns same q (before_apex_left ns before a h q (omega arith) last) in
        let t = turns_of_side ns a q side is in (
          side,
          side_by ks (min a h) q side (point_at ns a) (point_at ns (a - 1)) p
              (at (min a h) a (omega arith) (omega arith)) (λ _. at (min a h - 1) (a - 1) (omega arith) (omega arith))
              (λ _. new_at (min a h + 1) (omega arith))
              (edge_kept side (0 < a) (a + 1 < length ns) (0 < min a h) (min a h + 1 < length ks)
              (λ some. omega arith) (λ more. omega arith) t.edge)
              (λ some. t.left (omega arith)) (λ _. back),
        )

    -- or to the left
    side_on_left : h < a → (side : Bool) × IsApexSide ks (min a h) q side
    side_on_left less =
        let within = f.apex_within in
        let e = before_last_left ns before a h q less last in (
          true,
          side_by ks (min a h) q true (point_at ns h) (point_at ns (h - 1)) p
              (at (min a h) h (omega arith) (omega arith)) (λ _. at (min a h - 1) (h - 1) (omega arith) (omega arith))
              (λ _. new_at (min a h + 1) (omega arith)) (omega arith)
              (λ some. subst (λ x. TurnsBack true x (point_at ns h) (point_at ns (h - 1))) (sym e)
              (back_of_left (point_at ns (h + 1)) (point_at ns h) (point_at ns (h - 1)) (f.left_turns h (omega arith) less)))
              (λ _. subst (λ x. TurnsBack true x (point_at ns h) p) (sym e)
              (back_of_left (point_at ns (h + 1)) (point_at ns h) p (left_of_way ns a l r f h (whole p) reached less))),
        )

    -- to one side in each case
    pub next_apex_side : (side : Bool) × IsApexSide ks (min a h) q side
    next_apex_side = elim (cases_lt a h) [
      | inl less ↦ side_kept less
      | inr le ↦ elim (cases_lt h a) [
        | inl less ↦ side_on_left less
        | inr ge ↦ side_at_apex (omega arith)
      ]
    ]

  -- ---- how it bends there

  module _ (bends : (x : Point) → IsWayBefore before ns a h x → IsBend ring x (point_at ns h) p)
      (q : Point) (last : IsLastOf (before ++ left_behind ns a (a - h)) q) where
    -- the last point before it comes before the place that the new point is reached from
    way_before : h ≤ a → IsWayBefore before ns a h q
    way_before le = elim (cases_lt h a) [
      | inl less ↦ inl (less, before_last_left ns before a h q less last)
      | inr same ↦ inr (inr (omega arith, before_apex_left ns before a h q (omega arith) last))
    ]

    -- the bend to the left is an old one,
    next_apex_left : 0 < min a h → IsBend ring q (point_at ks (min a h)) (point_at ks (min a h - 1))
    next_apex_left some = elim (cases_lt h a) [
      | inl less ↦
          by_points (IsBend ring) (point_at ns (h + 1)) (point_at ns h) (point_at ns (h - 1))
          q (point_at ks (min a h)) (point_at ks (min a h - 1)) (before_last_left ns before a h q less last)
          (at (min a h) h (omega arith) (omega arith)) (at (min a h - 1) (h - 1) (omega arith) (omega arith))
          (bent.left_bends h (omega arith) less)
      | inr le ↦
          by_points (IsBend ring) q (point_at ns a) (point_at ns (a - 1))
          q (point_at ks (min a h)) (point_at ks (min a h - 1)) refl
          (at (min a h) a (omega arith) (omega arith)) (at (min a h - 1) (a - 1) (omega arith) (omega arith))
          (bent.apex_left q (before_apex_left ns before a h q le last) (omega arith))
    ]

    -- and that to the right is one, or the bend to the new point
    next_apex_right : IsBend ring q (point_at ks (min a h)) (point_at ks (min a h + 1))
    next_apex_right =
        let top = reached.within in
        elim (cases_lt a h) [
          | inl less ↦
              by_points (IsBend ring) q (point_at ns a) (point_at ns (a + 1))
              q (point_at ks (min a h)) (point_at ks (min a h + 1)) refl
              (at (min a h) a (omega arith) (omega arith)) (at (min a h + 1) (a + 1) (omega arith) (omega arith))
              (bent.apex_right q (before_apex_left ns before a h q (omega arith) last) (omega arith))
          | inr le ↦
              by_points (IsBend ring) q (point_at ns h) p
              q (point_at ks (min a h)) (point_at ks (min a h + 1)) refl
              (at (min a h) h (omega arith) (omega arith)) (new_at (min a h + 1) (omega arith))
              (bends q (way_before le))
        ]

-- from the points to place h, and p, with what is left behind on the left
pub bent_right : (ring before ns : List Point) (a : ℕ) (l r : Point) → IsFunnel ns a l r → IsOpenSight ring ns a l r
    → IsBentFunnel ring before ns a → (h : ℕ) (p : Point) → IsReachedFrom ns a h (whole p)
    → ((x : Point) → IsWayBefore before ns a h x → IsBend ring x (point_at ns h) p)
    → (h ≡ a → (q : Point) → IsLastOf before q → (side : Bool) × IsApexSide ns a q side × TurnsBack side q (point_at ns a) p)
    → IsBentFunnel ring (before ++ left_behind ns a (a - h)) (take (h + 1) ns ++ p ∷ []) (min a h)
bent_right ring before ns a l r f sight bent h p reached bends turns =
    let ks = take (h + 1) ns ++ p ∷ [] in
    let count = next_right_length ns p h reached.within in
    let old = next_right_old ns p h reached.within in
    let new = next_right_last ns p h reached.within in
    record {
      chain = subst (λ x. IsBentChain ring (before ++ left_behind ns a (a - h) ++ x ∷ [])) (sym (old (min a h) (omega arith)))
          (chain_left ring ns a l r f sight before bent h);
      left_bends = right_on_left ns h p ks old new (IsBend ring) a bent.left_bends;
      right_bends = right_on_right ns h p ks old new (IsBend ring) a count reached.within bent.right_bends
          (λ less. bends (point_at ns (h - 1)) (inr (inl (less, refl))));
      apex_left = next_apex_left ring before ns a l r f bent h p reached ks count old new bends;
      apex_right = λ q last _. next_apex_right ring before ns a l r f bent h p reached ks count old new bends q last;
      apex_side = next_apex_side ring before ns a l r f bent h p reached ks count old new turns;
    }
