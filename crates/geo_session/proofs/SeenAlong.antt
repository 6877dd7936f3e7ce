-- Two points see each other exactly where the path between them has no other point.
use Rattle.std.proofs.Common.{◌≡◌, inl, inr, refl, sym, ap, subst, ◌∙◌, ◌≤◌, ◌-◌, List, [], ◌∷◌, length, arith}
use Rattle.std.proofs.lemmas.Bool.{cases_eq}
use Rattle.plane.proofs.Order.{point_or_other}
use Rattle.plane.proofs.Points.{whole_is_point}
use Rattle.plane.proofs.Segments.{on_first_end, on_last_end}
use Rattle.plane.specs.Point.{Point, whole}
use Rattle.rings.specs.Chain.{IsPath, IsTaut, point_at}
use Rattle.rings.specs.Inside.{IsIn}
use Rattle.rings.specs.Sees.{Sees}
use Rattle.rings.specs.Simple.{IsSimple}
use Rattle.funnels.proofs.Bends.{chain_more}
use Rattle.funnels.proofs.Chains.{one_bent}
use Rattle.funnels.proofs.OneChain.{bent_is_path}
use Rattle.taut_check.proofs.Leaving.{sees_itself}

module _ (ring : List Point) (p q : Point) where
  first_in : Sees ring (whole p) (whole q) → IsIn ring (whole p)
  first_in sees = sees (whole p) (whole_is_point p) (on_first_end (whole p) (whole q))

  last_in : Sees ring (whole p) (whole q) → IsIn ring (whole q)
  last_in sees = sees (whole q) (whole_is_point q) (on_last_end (whole p) (whole q))

  -- no point outside is seen, and it sees none
  pub unseen_outside : ¬ (IsIn ring (whole p) × IsIn ring (whole q)) → ¬ Sees ring (whole p) (whole q)
  unseen_outside outside sees = outside (first_in sees, last_in sees)

  module _ (path : List Point) (is_path : IsPath ring p q path) where
    taut : IsTaut ring p q path
    taut = (is_path path).1 refl

    -- a path of two points is one segment, and one of one point stays there
    pub sees_of_short : length path ≤ 2 → Sees ring (whole p) (whole q)
    sees_of_short short = elim (cases_eq (length path) 2) [
      | inl two ↦
          let last : point_at path 1 ≡ q = ap (point_at path) (omega (arith, two)) ∙ taut.last in
          subst (λ v. Sees ring (whole v) (whole q)) taut.first
          (subst (λ v. Sees ring (whole (point_at path 0)) (whole v)) last (taut.bent.chain.sees 0 (omega (arith, two))))
      | inr other ↦
          let some = taut.bent.chain.some in
          let alone : length path - 1 ≡ 0 = omega (arith, short, other, some) in
          let same : p ≡ q = sym taut.first ∙ ap (point_at path) (sym alone) ∙ taut.last in
          let inside : IsIn ring (whole p) = subst (λ v. IsIn ring (whole v)) taut.first (taut.bent.chain.inside 0 some) in
          subst (λ v. Sees ring (whole p) (whole v)) same ((sees_itself ring (whole p) (whole_is_point p)).1 inside)
    ]

    -- points that see each other are the path
    pub short_of_sees : 3 ≤ length ring → IsSimple ring → Sees ring (whole p) (whole q) → length path ≤ 2
    short_of_sees some simple sees = elim (point_or_other p q) [
      | inl same ↦ omega (arith, taut.single same)
      | inr differ ↦
          let bent = chain_more (p ∷ []) p q refl ring (one_bent ring p (first_in sees)) sees differ (last_in sees) (λ two. absurd (omega (arith, two))) in
          let two : path ≡ p ∷ q ∷ [] = (bent_is_path ring some simple (p ∷ q ∷ []) bent p q refl refl path).0 taut in
          omega (arith, ap length two)
    ]
