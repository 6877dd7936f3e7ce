-- The edges of a ring by their numbers: edge i goes from vertex i to the next.
use Rattle.std.proofs.Common.{◌≡◌, ◌⊎◌, inl, inr, refl, sym, subst, ap, ◌∙◌, ℕ, zero, suc, ◌+◌, ◌<◌, arith, cond, List, [], ◌∷◌, ◌++◌}
use Rattle.std.proofs.Common.{length, get_or, take, ◌%◌}
use Rattle.std.proofs.Math.Nat.{mod-eq_of_lt, mod-mod, mod_self}
use Rattle.std.proofs.lemmas.List.{take_all, take_more, get_or_default}
use Rattle.std.proofs.lemmas.List.Sums.{sum_by_push}
use Rattle.std.specs.Prelude.{◌↔◌, slice_index_or}
use Rattle.plane.specs.Prelude.{IsPoint, On, Point, Triple, whole}
use Rattle.rings.proofs.Vertices.Edges.{on_some_cases, on_some_left, on_some_right, backward, reversed}
use Rattle.rings.proofs.Vertices.Items.{next_round, has_number, number_of}
use Rattle.rings.specs.Prelude.{crossings, Edge, edges_along, edges_of, HasEdge, is_crossed, IsOn, IsOnEdge, IsOnSome, origin, vertex}

-- ---- the vertices of a ring by their numbers

-- the vertex with a number below the length is that item of the list
pub vertex_in_range : (ring : List Point) (i : ℕ) (d : Point) → i < length ring → vertex ring i ≡ slice_index_or ring i d
vertex_in_range ring i d h = ap (λ k. slice_index_or ring k origin) (mod-eq_of_lt h) ∙ get_or_default ring i origin d h

-- after the last vertex comes the first
pub vertex_round : (ring : List Point) → 0 < length ring → vertex ring (length ring) ≡ vertex ring 0
vertex_round ring some =
    let first : length ring % length ring ≡ 0 = mod_self (length ring) in
    let same : 0 % length ring ≡ 0 = mod-eq_of_lt some in
    ap (λ k. slice_index_or ring k origin) (first ∙ sym same)

-- and so is the one after the last vertex
pub vertex_after_last : (ring : List Point) (j : ℕ) → j + 1 ≡ length ring → vertex ring (j + 1) ≡ vertex ring 0
vertex_after_last ring j last = ap (vertex ring) last ∙ vertex_round ring (omega arith)

-- vertices are counted round
pub vertex_mod : (ring : List Point) (i : ℕ) → vertex ring (i % length ring) ≡ vertex ring i
vertex_mod ring i = ap (λ k. slice_index_or ring k origin) (mod-mod i (length ring))

-- ---- the edges of a ring by their numbers: edge i goes from vertex i to the next

-- edge i, counted round
abbrev pub edge_at : List Point → ℕ → Edge
edge_at ring i = record { from = vertex ring i; to = vertex ring (i + 1) }

-- ---- edges

-- along some points there is an edge for each of them and one more
length-edges_along : (v : Point) (ws : List Point) (last : Point) → length (edges_along v ws last) ≡ length ws + 1
length-edges_along v [] last = refl
length-edges_along v (w ∷ ws) last = let h = length-edges_along w ws last in omega arith

-- a ring has as many edges as vertices
pub length-edges_of : (ring : List Point) → length (edges_of ring) ≡ length ring
length-edges_of [] = refl
length-edges_of (v ∷ vs) = let h = length-edges_along v vs v in omega arith

-- edge i along some points goes from the point at i to the next
get_or-edges_along : (v : Point) (ws : List Point) (last : Point) (i : ℕ) (d : Edge) (o : Point) → i < length ws + 1
    → get_or (edges_along v ws last) i d ≡ record { from = get_or (v ∷ ws) i o; to = get_or (ws ++ last ∷ []) i o }
get_or-edges_along v [] last zero d o h = refl
get_or-edges_along v [] last (suc i) d o h = absurd (omega arith)
get_or-edges_along v (w ∷ ws) last zero d o h = refl
get_or-edges_along v (w ∷ ws) last (suc i) d o h = get_or-edges_along w ws last i d o (omega arith)

-- edge i goes from vertex i to the next
pub get_or-edges_of : (ring : List Point) (i : ℕ) (d : Edge) → i < length ring → get_or (edges_of ring) i d ≡ edge_at ring i
get_or-edges_of [] i d h = absurd (omega arith)
get_or-edges_of (v ∷ vs) i d h =
    get_or-edges_along v vs v i d origin (omega arith)
    ∙ (λ k. record { from = sym (vertex_in_range (v ∷ vs) i origin h) k; to = sym (next_round origin v vs i h) k })

-- ---- points on edges

module _ (p : Triple) where
  -- a point on the edge at i is on some edge of a list
  on_some_at : (es : List Edge) (i : ℕ) (d : Edge) → i < length es
      → On p (whole (get_or es i d).from) (whole (get_or es i d).to) → IsOnSome es p
  on_some_at [] i d h on = absurd (omega arith)
  on_some_at (e ∷ es) zero d h on = inl on
  on_some_at (e ∷ es) (suc i) d h on = inr (on_some_at es i d (omega arith) on)

  -- and a point on some edge is on one at some i
  some_index : (es : List Edge) → IsOnSome es p
      → (i : ℕ) × (i < length es) × ((d : Edge) → On p (whole (get_or es i d).from) (whole (get_or es i d).to))
  some_index [] h = absurd h
  some_index (e ∷ es) (inl on) = (0, omega arith, λ d. on)
  some_index (e ∷ es) (inr h) = let (i, within, on) = some_index es h in (suc i, omega arith, on)

  -- a point on edge i is on some edge
  pub on_some_from : (ring : List Point) (i : ℕ) → i < length ring → IsOnEdge ring i p → IsOnSome (edges_of ring) p
  on_some_from ring i h on =
      let d = edge_at ring i in
      let is = get_or-edges_of ring i d h in
      on_some_at (edges_of ring) i d (omega (arith, length-edges_of ring))
      (subst (λ (e : Edge). On p (whole e.from) (whole e.to)) (sym is) on)

  -- and a point on some edge is on an edge i
  pub on_some_edge : (ring : List Point) → IsOnSome (edges_of ring) p → (i : ℕ) × (i < length ring) × IsOnEdge ring i p
  on_some_edge ring h =
      let (i, within, on) = some_index (edges_of ring) h in
      let below : i < length ring = omega (arith, length-edges_of ring) in
      let is = get_or-edges_of ring i (edge_at ring i) below in
      (i, below, subst (λ (e : Edge). On p (whole e.from) (whole e.to)) is (on (edge_at ring i)))

-- ---- a step over the edges

module _ (ring : List Point) (i : ℕ) (within : i < length ring) where
  -- the first edges and edge i
  take_more_edges : take (i + 1) (edges_of ring) ≡ take i (edges_of ring) ++ edge_at ring i ∷ []
  take_more_edges =
      let d = edge_at ring i in
      take_more (edges_of ring) i d (omega (arith, length-edges_of ring))
      ∙ ap (λ (e : Edge). take i (edges_of ring) ++ e ∷ []) (get_or-edges_of ring i d within)

  module _ (p : Triple) where
    -- one more edge adds its crossing
    pub crossings_more : crossings (take (i + 1) (edges_of ring)) p
        ≡ crossings (take i (edges_of ring)) p + cond (is_crossed (edge_at ring i) p) 1 0
    crossings_more =
        ap (λ es. crossings es p) take_more_edges
        ∙ sum_by_push (λ e. cond (is_crossed e p) 1 0) (take i (edges_of ring)) (edge_at ring i)

    -- a point on one of them is on an earlier one or on edge i
    pub on_some_more : IsOnSome (take (i + 1) (edges_of ring)) p ↔ (IsOnSome (take i (edges_of ring)) p ⊎ IsOnEdge ring i p)
    on_some_more = (
      λ h.
          let split = subst (λ es. IsOnSome es p) take_more_edges h in
          elim (on_some_cases p (take i (edges_of ring)) (edge_at ring i ∷ []) split) [
            | inl k ↦ inl k
            | inr k ↦ elim k [ inl on ↦ inr on | inr none ↦ absurd none ]
          ],
      λ h. subst (λ es. IsOnSome es p) (sym take_more_edges) (elim h [
        | inl k ↦ on_some_left p (take i (edges_of ring)) (edge_at ring i ∷ []) k
        | inr on ↦ on_some_right p (take i (edges_of ring)) (edge_at ring i ∷ []) (inl on)
      ]),
    )

-- after as many steps as there are vertices, these are all edges
pub take_all_edges : (ring : List Point) → take (length ring) (edges_of ring) ≡ edges_of ring
take_all_edges ring = take_all (length ring) (edges_of ring) (omega (arith, length-edges_of ring))

-- ---- the edges of a list, the points on them, and the edges of a ring by their numbers

-- ---- edges read backward

module _ (e : Edge) where
  -- an edge read backward is one of the edges read backward
  pub has_edge_backward : (es : List Edge) → HasEdge es e → HasEdge (backward es) (reversed e)
  has_edge_backward (f ∷ es) (inl h) = inl (λ i. reversed (h i))
  has_edge_backward (f ∷ es) (inr h) = inr (has_edge_backward es h)
  has_edge_backward [] h = absurd h

-- ---- points on the edges

module _ (x : Triple) where
  -- a point on one of the edges is on some of them,
  pub on_some_of : (e : Edge) (es : List Edge) → HasEdge es e → IsOn e x → IsOnSome es x
  on_some_of e (f ∷ es) (inl h) on = inl (subst (λ (g : Edge). IsOn g x) (sym h) on)
  on_some_of e (f ∷ es) (inr h) on = inr (on_some_of e es h on)
  on_some_of e [] h on = absurd h

  -- and one on some of them is on one of them
  pub edge_with : (es : List Edge) → IsOnSome es x → (e : Edge) × HasEdge es e × IsOn e x
  edge_with (f ∷ es) (inl on) = (f, inl refl, on)
  edge_with (f ∷ es) (inr h) = let (e, has, on) = edge_with es h in (e, inr has, on)
  edge_with [] h = absurd h

  -- a point on some edge of a list is so on each list with the same edges
  pub on_some_among : (es fs : List Edge) → ((e : Edge) → HasEdge es e → HasEdge fs e) → IsOnSome es x → IsOnSome fs x
  on_some_among es fs among h = let (e, has, on) = edge_with es h in on_some_of e fs (among e has) on

-- what holds of the rational points of each edge holds of those on some edge
pub on_each : (P : Triple → Type 0) (es : List Edge) → ((e : Edge) → HasEdge es e → (x : Triple) → IsPoint x → IsOn e x → P x)
    → (x : Triple) → IsPoint x → IsOnSome es x → P x
on_each P es holds x at h = let (e, has, on) = edge_with x es h in holds e has x at on

-- ---- by their numbers

-- edge i of a ring is one of its edges
pub has_edge_at : (ring : List Point) (i : ℕ) → i < length ring → HasEdge (edges_of ring) (edge_at ring i)
has_edge_at ring i h =
    let d = edge_at ring i in
    subst (HasEdge (edges_of ring)) (get_or-edges_of ring i d h)
    (has_number (edges_of ring) i d (omega (arith, length-edges_of ring)))

-- and each of its edges is edge i for some i
pub edge_number : (ring : List Point) (e : Edge) → HasEdge (edges_of ring) e → (i : ℕ) × (i < length ring) × (edge_at ring i ≡ e)
edge_number ring e h =
    let (i, within, is) = number_of (edges_of ring) e h in
    let below : i < length ring = omega (arith, length-edges_of ring) in
    (i, below, sym (get_or-edges_of ring i e below) ∙ is e)
