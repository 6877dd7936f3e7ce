-- The way from a source over the apex of a funnel to one of its points: which point comes before that one.
-- The chain from a source over the apex of a funnel goes on to each of its points, and to what is seen from there.
use Rattle.std.proofs.Common.{◌≡◌, ◌⊎◌, inl, inr, sym, subst, ap, ◌∙◌, List, [], ◌∷◌, ◌++◌, ℕ, zero, suc, ◌+◌, ◌-◌, ◌<◌, ◌≤◌, min, arith}
use Rattle.std.proofs.Common.{refl, length, max}
use Rattle.std.proofs.lemmas.Bool.{cases_lt}
use Rattle.std.proofs.lemmas.List.{append-nil, append_assoc}
use Rattle.plane.specs.Point.{Point, whole}
use Rattle.rings.specs.Prelude.{IsBend, IsBentChain, point_at, Sees}
use Rattle.funnels.proofs.Chains.LastPoints.{last_of_more, goes_on}
use Rattle.funnels.specs.Funnel.{IsFunnel}
use Rattle.funnels.specs.OpenFunnel.{IsLastOf, left_behind, right_behind, IsBentFunnel, IsOpenSight}

-- x comes before the point at place h on the way from the source
abbrev pub IsWayBefore : List Point → List Point → ℕ → ℕ → Point → Type 0
IsWayBefore before ns a h x =
    ((h < a) × (x ≡ point_at ns (h + 1))) ⊎ ((a < h) × (x ≡ point_at ns (h - 1))) ⊎ ((h ≡ a) × IsLastOf before x)

module _ (ns : List Point) where
  -- ---- the last point that is left behind

  -- to the left,
  last_left : (c b : ℕ) (front : List Point) (q : Point) → IsLastOf (front ++ left_behind ns b (suc c)) q → q ≡ point_at ns (b - c)
  last_left zero b front q last =
      let place : b ≡ b - 0 = omega arith in
      last_of_more front (point_at ns b) q last ∙ ap (point_at ns) place
  last_left (suc c) b front q last =
      let place : b - 1 - c ≡ b - suc c = omega arith in
      last_left c (b - 1) (front ++ point_at ns b ∷ []) q
      (subst (λ points. IsLastOf points q) (sym (append_assoc front (point_at ns b ∷ []) (left_behind ns (b - 1) (suc c)))) last)
      ∙ ap (point_at ns) place

  -- and to the right
  last_right : (c b : ℕ) (front : List Point) (q : Point) → IsLastOf (front ++ right_behind ns b (suc c)) q → q ≡ point_at ns (b + c)
  last_right zero b front q last =
      let place : b ≡ b + 0 = omega arith in
      last_of_more front (point_at ns b) q last ∙ ap (point_at ns) place
  last_right (suc c) b front q last =
      let place : b + 1 + c ≡ b + suc c = omega arith in
      last_right c (b + 1) (front ++ point_at ns b ∷ []) q
      (subst (λ points. IsLastOf points q) (sym (append_assoc front (point_at ns b ∷ []) (right_behind ns (b + 1) (suc c)))) last)
      ∙ ap (point_at ns) place

  module _ (before : List Point) (a h : ℕ) where
    -- ---- which points are left behind

    -- none to the left for a point that is not on the left,
    none_left : a ≤ h → before ++ left_behind ns a (a - h) ≡ before
    none_left le =
        let none : a - h ≡ 0 = omega arith in
        ap (λ n. before ++ left_behind ns a n) none ∙ append-nil before

    -- none to the right for one that is not on the right,
    none_right : h ≤ a → before ++ right_behind ns a (h - a) ≡ before
    none_right le =
        let none : h - a ≡ 0 = omega arith in
        ap (λ n. before ++ right_behind ns a n) none ∙ append-nil before

    -- so on the whole way it is those to the left,
    pub only_left : h ≤ a
        → before ++ left_behind ns a (a - h) ++ right_behind ns (min a h) (h - min a h) ≡ before ++ left_behind ns a (a - h)
    only_left le =
        let none : h - min a h ≡ 0 = omega arith in
        ap (λ n. before ++ left_behind ns a (a - h) ++ right_behind ns (min a h) n) none ∙ append-nil (before ++ left_behind ns a (a - h))

    -- or those to the right
    pub only_right : a ≤ h
        → before ++ left_behind ns a (a - h) ++ right_behind ns (min a h) (h - min a h) ≡ before ++ right_behind ns a (h - a)
    only_right le =
        let place : min a h ≡ a = omega arith in
        ap (λ points. points ++ right_behind ns (min a h) (h - min a h)) (none_left le)
        ∙ ap (λ n. before ++ right_behind ns n (h - n)) place

    -- ---- the point before the last

    module _ (q : Point) where
      -- on the way to the left it is the next to the right,
      pub before_last_left : h < a → IsLastOf (before ++ left_behind ns a (a - h)) q → q ≡ point_at ns (h + 1)
      before_last_left less last =
          let count : a - h ≡ suc (a - h - 1) = omega arith in
          let place : a - (a - h - 1) ≡ h + 1 = omega arith in
          last_left (a - h - 1) a before q (subst (λ n. IsLastOf (before ++ left_behind ns a n) q) count last) ∙ ap (point_at ns) place

      -- or, where nothing is left behind, the last before the apex,
      pub before_apex_left : a ≤ h → IsLastOf (before ++ left_behind ns a (a - h)) q → IsLastOf before q
      before_apex_left le = subst (λ points. IsLastOf points q) (none_left le)

      -- on the way to the right it is the next to the left,
      pub before_last_right : a < h → IsLastOf (before ++ right_behind ns a (h - a)) q → q ≡ point_at ns (h - 1)
      before_last_right less last =
          let count : h - a ≡ suc (h - a - 1) = omega arith in
          let place : a + (h - a - 1) ≡ h - 1 = omega arith in
          last_right (h - a - 1) a before q (subst (λ n. IsLastOf (before ++ right_behind ns a n) q) count last) ∙ ap (point_at ns) place

      -- or the last before the apex,
      pub before_apex_right : h ≤ a → IsLastOf (before ++ right_behind ns a (h - a)) q → IsLastOf before q
      before_apex_right le = subst (λ points. IsLastOf points q) (none_right le)

      -- so on each way it is the one that comes before
      pub before_last : IsLastOf (before ++ left_behind ns a (a - h) ++ right_behind ns (min a h) (h - min a h)) q
          → IsWayBefore before ns a h q
      before_last last = elim (cases_lt h a) [
        | inl left ↦ inl (left, before_last_left left (subst (λ points. IsLastOf points q) (only_left (omega arith)) last))
        | inr not_left ↦
            let rest = subst (λ points. IsLastOf points q) (only_right not_left) last in
            elim (cases_lt a h) [
              | inl right ↦ inr (inl (right, before_last_right right rest))
              | inr same ↦ inr (inr (omega arith, before_apex_right same rest))
            ]
      ]

module _ (ring ns : List Point) (a : ℕ) (l r : Point) (f : IsFunnel ns a l r) (sight : IsOpenSight ring ns a l r)
    (before : List Point) (bent : IsBentFunnel ring before ns a) where
  -- ---- one point further

  -- to the left
  step_left : (b : ℕ) (front : List Point) → 0 < b → b ≤ a → IsBentChain ring (front ++ point_at ns b ∷ [])
      → ((q : Point) → IsLastOf front q → IsBend ring q (point_at ns b) (point_at ns (b - 1)))
      → IsBentChain ring (front ++ point_at ns b ∷ [] ++ point_at ns (b - 1) ∷ [])
  step_left b front some le chain =
      let place : b - 1 + 1 ≡ b = omega arith in
      goes_on ring front (point_at ns b) (point_at ns (b - 1)) chain
      (sight.edge b (point_at ns b) (point_at ns (b - 1)) some (omega (arith, f.apex_within)) (inl (le, refl, refl)))
      (λ same. f.differ (b - 1) (omega (arith, f.apex_within)) (sym (ap (point_at ns) place ∙ same)))

  -- to the right
  step_right : (b : ℕ) (front : List Point) → a ≤ b → b + 1 < length ns → IsBentChain ring (front ++ point_at ns b ∷ [])
      → ((q : Point) → IsLastOf front q → IsBend ring q (point_at ns b) (point_at ns (b + 1)))
      → IsBentChain ring (front ++ point_at ns b ∷ [] ++ point_at ns (b + 1) ∷ [])
  step_right b front le more chain =
      let place : b ≡ b + 1 - 1 = omega arith in
      goes_on ring front (point_at ns b) (point_at ns (b + 1)) chain
      (sight.edge (b + 1) (point_at ns b) (point_at ns (b + 1)) (omega arith) more (inr (omega arith, ap (point_at ns) place, refl)))
      (f.differ b more)

  -- ---- so many further

  -- to the left
  walk_left : (c b : ℕ) (front : List Point) → c ≤ b → b ≤ a → IsBentChain ring (front ++ point_at ns b ∷ [])
      → (0 < c → (q : Point) → IsLastOf front q → IsBend ring q (point_at ns b) (point_at ns (b - 1)))
      → IsBentChain ring (front ++ left_behind ns b c ++ point_at ns (b - c) ∷ [])
  walk_left zero b front few le chain bend =
      let place : b ≡ b - 0 = omega arith in
      subst (λ n. IsBentChain ring (front ++ [] ++ point_at ns n ∷ [])) place
      (subst (λ points. IsBentChain ring (points ++ point_at ns b ∷ [])) (sym (append-nil front)) chain)
  walk_left (suc c) b front few le chain bend =
      let place : b - 1 - c ≡ b - suc c = omega arith in
      let here : b ≡ b - 1 + 1 = omega arith in
      let longer = front ++ point_at ns b ∷ [] in
      let whole_way = walk_left c (b - 1) longer (omega arith) (omega arith)
      (step_left b front (omega arith) le chain (bend (omega arith)))
      (λ some q last. subst (λ p. IsBend ring p (point_at ns (b - 1)) (point_at ns (b - 1 - 1)))
      (sym (last_of_more front (point_at ns b) q last ∙ ap (point_at ns) here)) (bent.left_bends (b - 1) (omega arith) (omega arith))) in
      subst (λ points. IsBentChain ring (points ++ point_at ns (b - suc c) ∷ []))
      (append_assoc front (point_at ns b ∷ []) (left_behind ns (b - 1) c))
      (subst (λ n. IsBentChain ring (longer ++ left_behind ns (b - 1) c ++ point_at ns n ∷ [])) place whole_way)

  -- to the right
  walk_right : (c b : ℕ) (front : List Point) → a ≤ b → b + c < length ns → IsBentChain ring (front ++ point_at ns b ∷ [])
      → (0 < c → (q : Point) → IsLastOf front q → IsBend ring q (point_at ns b) (point_at ns (b + 1)))
      → IsBentChain ring (front ++ right_behind ns b c ++ point_at ns (b + c) ∷ [])
  walk_right zero b front le within chain bend =
      let place : b ≡ b + 0 = omega arith in
      subst (λ n. IsBentChain ring (front ++ [] ++ point_at ns n ∷ [])) place
      (subst (λ points. IsBentChain ring (points ++ point_at ns b ∷ [])) (sym (append-nil front)) chain)
  walk_right (suc c) b front le within chain bend =
      let place : b + 1 + c ≡ b + suc c = omega arith in
      let here : b ≡ b + 1 - 1 = omega arith in
      let longer = front ++ point_at ns b ∷ [] in
      let whole_way = walk_right c (b + 1) longer (omega arith) (omega arith)
      (step_right b front le (omega arith) chain (bend (omega arith)))
      (λ some q last. subst (λ p. IsBend ring p (point_at ns (b + 1)) (point_at ns (b + 1 + 1)))
      (sym (last_of_more front (point_at ns b) q last ∙ ap (point_at ns) here)) (bent.right_bends (b + 1) (omega arith) (omega arith))) in
      subst (λ points. IsBentChain ring (points ++ point_at ns (b + suc c) ∷ []))
      (append_assoc front (point_at ns b ∷ []) (right_behind ns (b + 1) c))
      (subst (λ n. IsBentChain ring (longer ++ right_behind ns (b + 1) c ++ point_at ns n ∷ [])) place whole_way)

  -- ---- to the point at place h

  module _ (h : ℕ) where
    -- with the points that are left behind on the left,
    pub chain_left : IsBentChain ring (before ++ left_behind ns a (a - h) ++ point_at ns (min a h) ∷ [])
    chain_left =
        let place : a - (a - h) ≡ min a h = omega arith in
        subst (λ n. IsBentChain ring (before ++ left_behind ns a (a - h) ++ point_at ns n ∷ [])) place
        (walk_left (a - h) a before (omega arith) (omega arith) bent.chain (λ some q last. bent.apex_left q last (omega arith)))

    module _ (within : h < length ns) where
      -- on the right,
      pub chain_right : IsBentChain ring (before ++ right_behind ns a (h - a) ++ point_at ns (max a h) ∷ [])
      chain_right =
          let place : a + (h - a) ≡ max a h = omega arith in
          subst (λ n. IsBentChain ring (before ++ right_behind ns a (h - a) ++ point_at ns n ∷ [])) place
          (walk_right (h - a) a before (omega arith) (omega (arith, f.apex_within)) bent.chain
          (λ some q last. bent.apex_right q last (omega arith)))

      -- and on either side,
      pub chain_to : IsBentChain ring
          (before ++ left_behind ns a (a - h) ++ right_behind ns (min a h) (h - min a h) ++ point_at ns h ∷ [])
      chain_to = elim (cases_lt a h) [
        | inr left ↦
            let place : min a h ≡ h = omega arith in
            subst (λ points. IsBentChain ring (points ++ point_at ns h ∷ [])) (sym (only_left ns before a h left))
            (subst (λ n. IsBentChain ring (before ++ left_behind ns a (a - h) ++ point_at ns n ∷ [])) place chain_left)
        | inl right ↦
            let place : max a h ≡ h = omega arith in
            subst (λ points. IsBentChain ring (points ++ point_at ns h ∷ [])) (sym (only_right ns before a h (omega arith)))
            (subst (λ n. IsBentChain ring (before ++ right_behind ns a (h - a) ++ point_at ns n ∷ [])) place chain_right)
      ]

      -- and on to what is seen from there
      pub chain_on : (y : Point) → Sees ring (whole (point_at ns h)) (whole y) → ¬ (point_at ns h ≡ y)
          → ((x : Point) → IsWayBefore before ns a h x → IsBend ring x (point_at ns h) y)
          → IsBentChain ring
          (before ++ left_behind ns a (a - h) ++ right_behind ns (min a h) (h - min a h) ++ point_at ns h ∷ y ∷ [])
      chain_on y sees differ bend =
          let way = before ++ left_behind ns a (a - h) ++ right_behind ns (min a h) (h - min a h) in
          subst (IsBentChain ring) (append_assoc way (point_at ns h ∷ []) (y ∷ []))
          (goes_on ring way (point_at ns h) y chain_to sees differ (λ q last. bend q (before_last ns before a h q last)))
