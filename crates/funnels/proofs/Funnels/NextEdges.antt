-- The edges of the next funnel by their numbers: old ones of the last funnel, and a new one to m.
use Rattle.std.proofs.Common.{◌≡◌, inl, inr, sym, ap, ◌∙◌, List, [], ◌∷◌, ◌++◌, length, take, drop, ℕ, ◌+◌, ◌-◌, ◌<◌, ◌≤◌, min, arith}
use Rattle.plane.specs.Point.{Point}
use Rattle.rings.specs.Chain.{point_at}
use Rattle.funnels.proofs.Funnels.NextPoints.{next_left_old, next_right_last, next_right_old}
use Rattle.funnels.specs.Funnel.{IsFunnelEdge}

-- an edge by other places with the same points
edge_moved : (ns ms : List Point) (a b i j : ℕ) (u w : Point) → (i ≤ a → j ≤ b) → (a < i → b < j) → point_at ns i ≡ point_at ms j
    → point_at ns (i - 1) ≡ point_at ms (j - 1) → IsFunnelEdge ns a i u w → IsFunnelEdge ms b j u w
edge_moved ns ms a b i j u w left right same before (inl e) = inl (left e.0, e.1 ∙ same, e.2 ∙ before)
edge_moved ns ms a b i j u w left right same before (inr e) = inr (right e.0, e.1 ∙ before, e.2 ∙ same)

module _ (ns : List Point) (m : Point) (h : ℕ) where
  -- after m the point at each place is an old one,
  pub left_place : (g : ℕ) → 0 < g → point_at (m ∷ drop h ns) g ≡ point_at ns (h + g - 1)
  left_place g some =
      let same : g ≡ g - 1 + 1 = omega arith in
      let place : h + (g - 1) ≡ h + g - 1 = omega arith in
      ap (point_at (m ∷ drop h ns)) same ∙ next_left_old ns m h (g - 1) ∙ ap (point_at ns) place

  -- and so is the one before it, but for the first of them
  left_place_before : (g : ℕ) → 1 < g → point_at (m ∷ drop h ns) (g - 1) ≡ point_at ns (h + g - 1 - 1)
  left_place_before g more =
      let place : h + (g - 1) - 1 ≡ h + g - 1 - 1 = omega arith in
      left_place (g - 1) (omega arith) ∙ ap (point_at ns) place

module _ (ns : List Point) (a h : ℕ) (m u w : Point) where
  -- ---- the points to place h, and then m

  module _ (within : h < length ns) where
    -- the edges to the point at place h are the old ones,
    pub old_edge_right : (e : ℕ) → e ≤ h → IsFunnelEdge (take (h + 1) ns ++ m ∷ []) (min a h) e u w → IsFunnelEdge ns a e u w
    old_edge_right e le =
        edge_moved (take (h + 1) ns ++ m ∷ []) ns (min a h) a e e u w (λ k. omega arith) (λ k. omega arith)
        (next_right_old ns m h within e le) (next_right_old ns m h within (e - 1) (omega arith))

    -- and back,
    pub edge_right : (e : ℕ) → e ≤ h → IsFunnelEdge ns a e u w → IsFunnelEdge (take (h + 1) ns ++ m ∷ []) (min a h) e u w
    edge_right e le =
        edge_moved ns (take (h + 1) ns ++ m ∷ []) a (min a h) e e u w (λ k. omega arith) (λ k. omega arith)
        (sym (next_right_old ns m h within e le)) (sym (next_right_old ns m h within (e - 1) (omega arith)))

    -- and the last one goes from there to m
    pub new_edge_right : IsFunnelEdge (take (h + 1) ns ++ m ∷ []) (min a h) (h + 1) u w → (u ≡ point_at ns h) × (w ≡ m)
    new_edge_right (inl e) = absurd (omega (arith, e.0))
    new_edge_right (inr e) =
        let place : h + 1 - 1 ≡ h = omega arith in (
          e.1 ∙ ap (point_at (take (h + 1) ns ++ m ∷ [])) place ∙ next_right_old ns m h within h (omega arith),
          e.2 ∙ next_right_last ns m h within,
        )

  -- ---- m, and then the points from place h on

  -- the edges between them are the old ones,
  pub old_edge_left : (e : ℕ) → 1 < e → IsFunnelEdge (m ∷ drop h ns) (a - h + 1) e u w → IsFunnelEdge ns a (h + e - 1) u w
  old_edge_left e more =
      edge_moved (m ∷ drop h ns) ns (a - h + 1) a e (h + e - 1) u w (λ k. omega arith) (λ k. omega arith)
      (left_place ns m h e (omega arith)) (left_place_before ns m h e more)

  -- and back,
  pub edge_left : (e : ℕ) → 1 < e → IsFunnelEdge ns a (h + e - 1) u w → IsFunnelEdge (m ∷ drop h ns) (a - h + 1) e u w
  edge_left e more =
      edge_moved ns (m ∷ drop h ns) a (a - h + 1) (h + e - 1) e u w (λ k. omega arith) (λ k. omega arith)
      (sym (left_place ns m h e (omega arith))) (sym (left_place_before ns m h e more))

  -- and the first one goes from the point at place h to m
  pub new_edge_left : IsFunnelEdge (m ∷ drop h ns) (a - h + 1) 1 u w → (u ≡ point_at ns h) × (w ≡ m)
  new_edge_left (inl e) =
      let place : h + 1 - 1 ≡ h = omega arith in
      (e.1 ∙ left_place ns m h 1 (omega arith) ∙ ap (point_at ns) place, e.2)
  new_edge_left (inr e) = absurd (omega (arith, e.0))
