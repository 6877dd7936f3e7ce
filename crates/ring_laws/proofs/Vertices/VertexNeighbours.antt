-- Neighbours in a ring: the ends of one edge. In a simple ring a vertex has two, which are not on one ray.
use Rattle.std.proofs.Common.{◌≡◌, ◌⊎◌, inl, inr, refl, sym, subst, ap, ◌∙◌, Bool, true, false, ℕ, ◌+◌, ◌-◌, ◌<◌, ◌≤◌, List, length, arith}
use Rattle.plane.proofs.Points.{same_whole, whole_is_point}
use Rattle.plane.proofs.Segments.{on_first_end, on_last_end, on_reversed}
use Rattle.plane.specs.Prelude.{On, Point, Triple, whole}
use Rattle.rings.proofs.Simple.{apart_of_simple, proper_edges}
use Rattle.rings.proofs.Vertices.{edge_at, edge_number, has_edge_at}
use Rattle.rings.specs.Apart.{IsApartRing}
use Rattle.rings.specs.Prelude.{AreNeighbours, Edge, edge, edges_of, HasEdge, HasEnd, IsOn, IsSimple, vertex}
use Rattle.ring_laws.proofs.Vertices.VertexEdges.{edges_at}

-- ---- neighbours

-- an edge of the ring with these ends
pub record IsEdgeBetween (ring : List Point) (u v : Point) (e : Edge) : Type 0 where
  pub has : HasEdge (edges_of ring) e
  pub first_end : HasEnd e u
  pub last_end : HasEnd e v
  pub ends : (y : Point) → HasEnd e y → (y ≡ u) ⊎ (y ≡ v)
  pub on : (x : Triple) → On x (whole u) (whole v) → IsOn e x

-- there is one between two neighbours
pub edge_between : (ring : List Point) (u v : Point) → AreNeighbours ring u v → (e : Edge) × IsEdgeBetween ring u v e
edge_between ring u v n = (
  edge_at ring n.i,
  elim n.ends [
    | inl h ↦ record {
      has = has_edge_at ring n.i n.in_ring;
      first_end = inl h.0;
      last_end = inr h.1;
      ends = λ y end. elim end [ inl e ↦ inl (sym e ∙ h.0) | inr e ↦ inr (sym e ∙ h.1) ];
      on = λ x on. rw (h.0, h.1) on;
    }
    | inr h ↦ record {
      has = has_edge_at ring n.i n.in_ring;
      first_end = inr h.1;
      last_end = inl h.0;
      ends = λ y end. elim end [ inl e ↦ inr (sym e ∙ h.0) | inr e ↦ inl (sym e ∙ h.1) ];
      on = λ x on. rw (h.0, h.1) (on_reversed x (whole u) (whole v) on);
    }
  ],
)

-- which are two points
pub neighbours_differ : (ring : List Point) → IsApartRing ring → 1 < length ring → (u v : Point) → AreNeighbours ring u v → ¬ (u ≡ v)
neighbours_differ ring apart some u v n same =
    let proper = proper_edges ring apart some (edge_at ring n.i) (has_edge_at ring n.i n.in_ring) in
    elim n.ends [ inl h ↦ proper (h.0 ∙ same ∙ sym h.1) | inr h ↦ proper (h.0 ∙ sym same ∙ sym h.1) ]

-- ---- the two neighbours of a vertex

-- the vertex after vertex r; or, on the other side, the one before it
abbrev pub vertex_beside : Bool → List Point → ℕ → Point
vertex_beside true ring r = vertex ring (r + 1)
vertex_beside false ring r = vertex ring (r + (length ring - 1))

module _ (ring : List Point) (simple : IsSimple ring) (three : 3 ≤ length ring) (r : ℕ) (h : r < length ring) where
  -- it is another vertex,
  pub beside_differs : (side : Bool) → ¬ (vertex_beside side ring r ≡ vertex ring r)
  beside_differs true same =
      let apart = apart_of_simple ring simple in
      proper_edges ring apart (omega arith) (edge (vertex ring r) (vertex ring (r + 1))) (edges_at ring apart three r h).second (sym same)
  beside_differs false same =
      let apart = apart_of_simple ring simple in
      proper_edges ring apart (omega arith) (edge (vertex ring (r + (length ring - 1))) (vertex ring r))
      (edges_at ring apart three r h).first same

  -- and a neighbour,
  pub beside_next : (side : Bool) → AreNeighbours ring (vertex ring r) (vertex_beside side ring r)
  beside_next true = record { i = r; in_ring = h; ends = inl (refl, refl) }
  beside_next false =
      let (i, within, is) = edge_number ring _ (edges_at ring (apart_of_simple ring simple) three r h).first in
      record { i = i; in_ring = within; ends = inr (ap (λ (e : Edge). e.from) is, ap (λ (e : Edge). e.to) is) }

  -- each neighbour is one of the two,
  pub neighbour_is : (x : Point) → AreNeighbours ring (vertex ring r) x
      → (x ≡ vertex ring (r + (length ring - 1))) ⊎ (x ≡ vertex ring (r + 1))
  neighbour_is x n =
      let apart = apart_of_simple ring simple in
      let at = edges_at ring apart three r h in
      let (e, between) = edge_between ring (vertex ring r) x n in
      let is_end = λ (f : Edge). HasEnd f x in
      let other : ¬ (vertex ring r ≡ x) = neighbours_differ ring apart (omega arith) (vertex ring r) x n in
      elim (at.only e between.has between.first_end) [
        | inl is ↦ elim (subst is_end (sym is) between.last_end) [ inl from ↦ inl (sym from) | inr to ↦ absurd (other to) ]
        | inr is ↦ elim (subst is_end (sym is) between.last_end) [ inl from ↦ absurd (other from) | inr to ↦ inr (sym to) ]
      ]

  -- and these are not on one ray
  pub neighbours_not_on_ray :
      ¬ (On (whole (vertex ring (r + (length ring - 1)))) (whole (vertex ring r)) (whole (vertex ring (r + 1)))
      ⊎ On (whole (vertex ring (r + 1))) (whole (vertex ring r)) (whole (vertex ring (r + (length ring - 1)))))
  neighbours_not_on_ray on =
      let u = vertex ring (r + (length ring - 1)) in
      let v = vertex ring r in
      let w = vertex ring (r + 1) in
      let apart = apart_of_simple ring simple in
      let at = edges_at ring apart three r h in
      elim (apart.apart (edge u v) (edge v w) at.first at.second) [
        | inl same ↦ beside_differs false (ap (λ (e : Edge). e.from) same)
        | inr meets ↦ elim on [
          | inl near ↦
              let c = meets (whole u) (whole_is_point u) (on_first_end (whole u) (whole v)) near in
              let is = same_whole u c.end c.same in
              elim c.of_second [ inl e ↦ beside_differs false (is ∙ sym e) | inr e ↦ at.differ (is ∙ sym e) ]
          | inr near ↦
              let c = meets (whole w) (whole_is_point w) (on_reversed (whole w) (whole v) (whole u) near)
              (on_last_end (whole v) (whole w)) in
              let is = same_whole w c.end c.same in
              elim c.of_first [ inl e ↦ at.differ (e ∙ sym is) | inr e ↦ beside_differs true (is ∙ sym e) ]
        ]
      ]
