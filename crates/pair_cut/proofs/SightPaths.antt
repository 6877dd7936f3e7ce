-- In a simple ring two different vertices see each other exactly if the first comes before the second on the path between them.
use Rattle.std.proofs.Common.{◌≡◌, ◌≢◌, inl, inr, refl, sym, ap, subst, ◌∙◌, ℕ, ◌-◌, ◌<◌, List, [], ◌∷◌, length, arith}
use Rattle.std.proofs.lemmas.Bool.{cases_eq}
use Rattle.plane.specs.Point.{Point, whole}
use Rattle.rings.proofs.Simple.{apart_of_simple}
use Rattle.rings.proofs.Vertices.{one_to_one}
use Rattle.rings.specs.Chain.{IsBentChain, IsPath, IsTaut, point_at}
use Rattle.rings.specs.Inside.{IsIn}
use Rattle.rings.specs.Ring.{vertex}
use Rattle.rings.specs.Sees.{Sees}
use Rattle.funnels.proofs.Bends.{chain_more}
use Rattle.funnels.proofs.Chains.{one_bent}
use Rattle.funnels.proofs.OneChain.{bent_is_path}
use Rattle.funnels.proofs.Trees.{path_differs}
use Rattle.pair_cut.specs.Pairs.{IsMadeFor, pair_before}

module _ (ring : List Point) (before : List (List ℕ)) (made : IsMadeFor ring before) where
  -- vertices are at different points
  pub one_vertex : (i j : ℕ) → i < length ring → j < length ring → vertex ring i ≡ vertex ring j → i ≡ j
  one_vertex = one_to_one (vertex ring) (length ring) (apart_of_simple ring made.simple).distinct

  module _ (i j : ℕ) (h : i < length ring) (k : j < length ring) (differ : i ≢ j) where
    -- the first vertex, the second, and the path
    abbrev s : Point
    s = vertex ring i

    abbrev t : Point
    t = vertex ring j

    abbrev path : List Point
    path = (made.others i j h k differ).before.path

    is_path : IsPath ring s t path
    is_path = (made.others i j h k differ).before.is_path

    taut : IsTaut ring s t path
    taut = (is_path path).1 refl

    -- where the first comes before the second it is the only other point of the path,
    only_two : pair_before before i j ≡ i → length path ≡ 2
    only_two first =
        let more = (made.others i j h k differ).before.more in
        let is = (made.others i j h k differ).before.is in
        elim (cases_eq (length path) 2) [
          | inl two ↦ two
          | inr other ↦
              absurd
              (path_differs ring made.some made.simple s t path is_path 0 (length path - 2) (omega (arith, more, other))
              (omega (arith, more)) (taut.first ∙ ap (vertex ring) (sym first) ∙ sym is))
        ]

    -- so they see each other
    pub sees_first : pair_before before i j ≡ i → Sees ring (whole s) (whole t)
    sees_first first =
        let two = only_two first in
        let last : point_at path 1 ≡ t = ap (point_at path) (omega (arith, two)) ∙ taut.last in
        subst (λ p. Sees ring (whole p) (whole t)) taut.first
        (subst (λ p. Sees ring (whole (point_at path 0)) (whole p)) last (taut.bent.chain.sees 0 (omega (arith, two))))

    -- where they see each other they are a chain with bends,
    straight_bent : Sees ring (whole s) (whole t) → IsBentChain ring (s ∷ t ∷ [])
    straight_bent sees =
        let inside = taut.bent.chain.inside in
        let some = taut.bent.chain.some in
        let s_in = subst (λ p. IsIn ring (whole p)) taut.first (inside 0 some) in
        let t_in = subst (λ p. IsIn ring (whole p)) taut.last (inside (length path - 1) (omega (arith, some))) in
        chain_more (s ∷ []) s t refl ring (one_bent ring s s_in) sees (λ same. differ (one_vertex i j h k same)) t_in
        (λ two. absurd (omega (arith, two)))

    -- so these two are the path, and the first comes before the second
    pub first_of_sees : Sees ring (whole s) (whole t) → pair_before before i j ≡ i
    first_of_sees sees =
        let found = made.others i j h k differ in
        let straight = bent_is_path ring made.some made.simple (s ∷ t ∷ []) (straight_bent sees) s t refl refl in
        let same : path ≡ s ∷ t ∷ [] = (straight path).0 taut in
        let is : s ≡ vertex ring (pair_before before i j) = ap (λ ps. point_at ps (length ps - 2)) (sym same) ∙ found.before.is in
        sym (one_vertex i (pair_before before i j) h found.in_ring is)
