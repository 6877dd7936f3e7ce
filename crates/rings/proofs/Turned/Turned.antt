-- A ring read the other way round: its edges are those of the ring, the last one first, each read backward.
use Rattle.std.proofs.Common.{◌≡◌, ℕ, suc, ◌+◌, ◌-◌, ◌<◌, ◌≤◌, List, [], ◌∷◌, ◌++◌, length, reverse, inl, inr, zero, refl, ap, sym, ◌∙◌}
use Rattle.std.proofs.Common.{arith, ◌%◌, ◌+ℤ◌, neg_ℤ, subst}
use Rattle.std.proofs.lemmas.Bool.{cases_lt}
use Rattle.std.proofs.lemmas.Int.{ints}
use Rattle.std.proofs.lemmas.List.{get_or-reverse, length-reverse, reverse-reverse}
use Rattle.std.specs.Prelude.{slice_index_or}
use Rattle.plane.proofs.Segments.{on_reversed}
use Rattle.plane.specs.Point.{IsSame, Point, Triple, whole}
use Rattle.rings.proofs.Vertices.{backward, edges_along_append, reverse-cons, vertex_in_range, vertex_mod, vertex_round}
use Rattle.rings.specs.Prelude.{Clash, doubled_area, Edge, edges_along, edges_of, HasEqualEnds, IsOnEdge, IsSimple, origin, SharesPoint}
use Rattle.rings.specs.Prelude.{swept, turned_round, vertex}
use Rattle.rings.specs.Full.{IsVertexBetween}

-- ---- the list of vertices

-- as many vertices
pub length-turned_round : (ring : List Point) → length (turned_round ring) ≡ length ring
length-turned_round [] = refl
length-turned_round (v ∷ vs) = ap suc (length-reverse vs)

-- turned twice, the ring is as before
pub turned_round-turned_round : (ring : List Point) → turned_round (turned_round ring) ≡ ring
turned_round-turned_round [] = refl
turned_round-turned_round (v ∷ vs) = ap (λ ws. v ∷ ws) (reverse-reverse vs)

-- ---- edges

-- the way back
edges_along-reverse : (v : Point) (ws : List Point) (last : Point) → edges_along last (reverse ws) v ≡ reverse (backward (edges_along v ws last))
edges_along-reverse v [] last = refl
edges_along-reverse v (w ∷ ws) last =
    let e : Edge = record { from = w; to = v } in
    ap (λ us. edges_along last us v) (reverse-cons w ws)
    ∙ edges_along_append last (reverse ws) w [] v
    ∙ ap (λ es. es ++ e ∷ []) (edges_along-reverse w ws last)
    ∙ sym (reverse-cons e (backward (edges_along w ws last)))

-- the edges of a turned ring
pub edges_of-turned_round : (ring : List Point) → edges_of (turned_round ring) ≡ reverse (backward (edges_of ring))
edges_of-turned_round [] = refl
edges_of-turned_round (v ∷ vs) = edges_along-reverse v vs v

-- ---- vertices by their numbers

-- behind the first vertex they are those of the rest
vertex_behind : (v : Point) (vs : List Point) (j k : ℕ) → j ≡ suc k → k < length vs → vertex (v ∷ vs) j ≡ slice_index_or vs k origin
vertex_behind v vs j k e h = vertex_in_range (v ∷ vs) j origin (omega arith) ∙ ap (λ n. slice_index_or (v ∷ vs) n origin) e

-- so the two lists have them in opposite orders
vertex_reversed : (v : Point) (vs : List Point) (k : ℕ) → k < length vs → vertex (v ∷ reverse vs) (suc k) ≡ vertex (v ∷ vs) (length vs - k)
vertex_reversed v vs k h =
    vertex_behind v (reverse vs) (suc k) k refl (omega (arith, length-reverse vs))
    ∙ get_or-reverse vs k origin h
    ∙ sym (vertex_behind v vs (length vs - k) (length vs - 1 - k) (omega arith) (omega arith))

-- the first vertex stays
vertex_first : (v : Point) (vs : List Point) → vertex (v ∷ vs) 0 ≡ v
vertex_first v vs = vertex_in_range (v ∷ vs) 0 origin (omega arith)

-- it also comes after the last
vertex_last : (v : Point) (vs : List Point) (n : ℕ) → n ≡ length (v ∷ vs) → vertex (v ∷ vs) n ≡ v
vertex_last v vs n e = ap (vertex (v ∷ vs)) e ∙ vertex_round (v ∷ vs) (omega arith) ∙ vertex_first v vs

-- vertex 0 is that of the ring
pub vertex-turned_round-zero : (ring : List Point) → vertex (turned_round ring) 0 ≡ vertex ring 0
vertex-turned_round-zero [] = refl
vertex-turned_round-zero (v ∷ vs) = vertex_first v (reverse vs) ∙ sym (vertex_first v vs)

-- vertex j is vertex n - j of the ring
pub vertex-turned_round : (ring : List Point) (j : ℕ) → j ≤ length ring → vertex (turned_round ring) j ≡ vertex ring (length ring - j)
vertex-turned_round [] j h = refl
vertex-turned_round (v ∷ vs) zero h = vertex_first v (reverse vs) ∙ sym (vertex_last v vs _ (omega arith))
vertex-turned_round (v ∷ vs) (suc k) h = elim (cases_lt k (length vs)) [
  | inl less ↦ vertex_reversed v vs k less ∙ ap (vertex (v ∷ vs)) (omega arith)
  | inr most ↦
      vertex_last v (reverse vs) (suc k) (omega (arith, length-reverse vs))
      ∙ sym (vertex_first v vs)
      ∙ ap (vertex (v ∷ vs)) (omega arith)
]

-- ---- edges by their numbers

module _ (ring : List Point) (i : ℕ) (h : i < length ring) where
  -- edge i goes from the end of edge n - 1 - i of the ring
  pub turned_from : vertex (turned_round ring) i ≡ vertex ring (length ring - 1 - i + 1)
  turned_from = vertex-turned_round ring i (omega arith) ∙ ap (vertex ring) (omega arith)

  -- to its beginning
  pub turned_to : vertex (turned_round ring) (i + 1) ≡ vertex ring (length ring - 1 - i)
  turned_to = vertex-turned_round ring (i + 1) (omega arith) ∙ ap (vertex ring) (omega arith)

  -- edge n - 1 - i goes from the end of edge i of the ring
  pub turned_begin : vertex (turned_round ring) (length ring - 1 - i) ≡ vertex ring (i + 1)
  turned_begin = vertex-turned_round ring (length ring - 1 - i) (omega arith) ∙ ap (vertex ring) (omega arith)

  -- to its beginning
  pub turned_end : vertex (turned_round ring) (length ring - 1 - i + 1) ≡ vertex ring i
  turned_end = vertex-turned_round ring (length ring - 1 - i + 1) (omega arith) ∙ ap (vertex ring) (omega arith)

-- what is a vertex of it between two points is one of the ring,
pub between_turned : (ring : List Point) (a b v : Point) → IsVertexBetween (turned_round ring) a b v → IsVertexBetween ring a b v
between_turned ring a b v between = record {
  i = (length ring - between.i) % length ring;
  in_ring = omega (arith, length-turned_round ring);
  is_vertex = vertex_mod ring (length ring - between.i)
      ∙ sym (vertex-turned_round ring between.i (omega (arith, length-turned_round ring)))
      ∙ between.is_vertex;
  on = between.on;
  not_first = between.not_first;
  not_last = between.not_last;
}

-- ---- the area of a ring that is read the other way round has the opposite sign

-- areas add up
pub swept-append : (es fs : List Edge) → swept (es ++ fs) ≡ swept es +ℤ swept fs
swept-append [] fs = omega (arith, ints)
swept-append (e ∷ es) fs = omega (arith, ints, swept-append es fs)

-- in any order
swept-reverse : (es : List Edge) → swept (reverse es) ≡ swept es
swept-reverse [] = refl
swept-reverse (e ∷ es) = ap swept (reverse-cons e es) ∙ omega (arith, ints, swept-append (reverse es) (e ∷ []), swept-reverse es)

-- read backward, the edges sweep out the opposite area
swept-backward : (es : List Edge) → swept (backward es) ≡ neg_ℤ (swept es)
swept-backward [] = refl
swept-backward (e ∷ es) = omega (arith, ints, swept-backward es)

-- the area of a turned ring
pub doubled_area-turned_round : (ring : List Point) → doubled_area (turned_round ring) ≡ neg_ℤ (doubled_area ring)
doubled_area-turned_round ring = ap swept (edges_of-turned_round ring) ∙ swept-reverse (backward (edges_of ring)) ∙ swept-backward (edges_of ring)

-- ---- a ring that is read the other way round is simple where the ring is

module _ (ring : List Point) (i : ℕ) (h : i < length ring) where
  -- an edge with equal ends has them also backward
  equal_ends_back : HasEqualEnds (turned_round ring) i → HasEqualEnds ring (length ring - 1 - i)
  equal_ends_back e = sym (sym (turned_from ring i h) ∙ e ∙ turned_to ring i h)

  -- a point on an edge is on it read backward
  on_edge_back : (p : Triple) → IsOnEdge (turned_round ring) i p → IsOnEdge ring (length ring - 1 - i) p
  on_edge_back p on =
      let on_turned = rw (turned_from ring i h, turned_to ring i h) at on in
      on_reversed p (whole (vertex ring (length ring - 1 - i + 1))) (whole (vertex ring (length ring - 1 - i))) on_turned

module _ (ring : List Point) (i j : ℕ) (less : i < j) (h : j < length ring) where
  -- edges that share a point share it backward, where their order is the other one
  shared_back : SharesPoint (turned_round ring) i j → SharesPoint ring (length ring - 1 - j) (length ring - 1 - i)
  shared_back shared =
      let is_at = λ (v : Point). IsSame shared.point (whole v) in
      record {
        point = shared.point;
        rational = shared.rational;
        on_first = on_edge_back ring j h shared.point shared.on_second;
        on_second = on_edge_back ring i (omega arith) shared.point shared.on_first;
        not_between = λ next same.
            shared.not_between (omega arith)
            (subst is_at (ap (vertex ring) (omega arith) ∙ sym (vertex-turned_round ring j (omega arith))) same);
        not_round = λ first last same.
            shared.not_round (omega arith) (omega (arith, length-turned_round ring))
            (subst is_at (sym (vertex-turned_round-zero ring)) same);
      }

  -- so edges that clash do
  clash_back : Clash (turned_round ring) i j → Clash ring (length ring - 1 - j) (length ring - 1 - i)
  clash_back (inl e) = inr (inl (equal_ends_back ring i (omega arith) e))
  clash_back (inr (inl e)) = inl (equal_ends_back ring j h e)
  clash_back (inr (inr shared)) = inr (inr (shared_back shared))

-- a simple ring is simple turned round
pub simple_turned : (ring : List Point) → IsSimple ring → IsSimple (turned_round ring)
simple_turned ring simple i j less h clash =
    let below : j < length ring = omega (arith, length-turned_round ring) in
    simple (length ring - 1 - j) (length ring - 1 - i) (omega arith) (omega arith) (clash_back ring i j less below clash)
