-- A ring at its first vertex v, with w after it and u before it: its edges there, and the ring without it.
use Rattle.std.proofs.Common.{◌≡◌, ◌⊎◌, inl, inr, refl, sym, subst, ap, ◌∙◌, pos, ◌+ℤ◌, List, [], ◌∷◌, ◌++◌, arith}
use Rattle.std.proofs.lemmas.Int.{ints}
use Rattle.integer_algebra.proofs.Polynomial.{var, lit, ◌⊕◌, ◌⊖◌, ◌⊗◌, same_value}
use Rattle.plane.specs.Prelude.{determinant, Point, Triple, whole}
use Rattle.rings.proofs.Inside.{closed_swapped, on_some_swapped, swept_swapped, winding_swapped}
use Rattle.rings.proofs.Vertices.{apart_among, apart_more, AreDistinct, HasPoint, distinct_vertices, ends_along, vertices_differ, closed_edges_of}
use Rattle.rings.proofs.Vertices.{has_left, has_right, has_swapped, edges_along_append}
use Rattle.rings.specs.Apart.{IsApartRing, MeetAtEnds}
use Rattle.rings.specs.Prelude.{doubled_area, Edge, edge, edges_along, edges_of, HasEdge, HasEnd, IsClosed, IsOnSome, swept, winding}
use Rattle.ring_laws.proofs.Triangles.{triangle}

-- twice the area of a triangle is a determinant
pub swept_triangle : (u v w : Point) → swept (triangle u v w) ≡ determinant (whole u) (whole v) (whole w)
swept_triangle u v w =
    let one = lit (pos 1) in
    let cross = (var 0 ⊗ var 3 ⊖ var 2 ⊗ var 1) ⊕ ((var 2 ⊗ var 5 ⊖ var 4 ⊗ var 3) ⊕ ((var 4 ⊗ var 1 ⊖ var 0 ⊗ var 5) ⊕ lit (pos 0))) in
    same_value cross
    (var 0 ⊗ (var 3 ⊗ one ⊖ var 5 ⊗ one) ⊖ var 1 ⊗ (var 2 ⊗ one ⊖ var 4 ⊗ one) ⊕ one ⊗ (var 2 ⊗ var 5 ⊖ var 4 ⊗ var 3))
    (u.x ∷ u.y ∷ v.x ∷ v.y ∷ w.x ∷ w.y ∷ []) refl

module _ (v w : Point) (ms : List Point) (u : Point) where
  -- the edges of the ring, in order,
  edges_of_ring : edges_of (v ∷ w ∷ (ms ++ u ∷ [])) ≡ (edge v w ∷ edges_along w ms u) ++ edge u v ∷ []
  edges_of_ring = ap (λ es. edge v w ∷ es) (edges_along_append w ms u [] v)

  -- those of the ring without v
  edges_of_rest : edges_of (w ∷ (ms ++ u ∷ [])) ≡ edges_along w ms u ++ edge u w ∷ []
  edges_of_rest = edges_along_append w ms u [] w

  -- ---- the two edges at v first

  -- each edge of the ring is one of the two at v or one of the others,
  has_edge_corner : (e : Edge) → HasEdge (edges_of (v ∷ w ∷ (ms ++ u ∷ []))) e → HasEdge (edge u v ∷ edge v w ∷ edges_along w ms u) e
  has_edge_corner e h = has_swapped e (edge v w ∷ edges_along w ms u) (edge u v ∷ []) (subst (λ es. HasEdge es e) edges_of_ring h)

  -- and back
  pub has_edge_of_corner : (e : Edge) → HasEdge (edge u v ∷ edge v w ∷ edges_along w ms u) e → HasEdge (edges_of (v ∷ w ∷ (ms ++ u ∷ []))) e
  has_edge_of_corner e h =
      subst (λ es. HasEdge es e) (sym edges_of_ring) (has_swapped e (edge u v ∷ []) (edge v w ∷ edges_along w ms u) h)

  -- so it is with the points on the edges,
  pub on_some_corner : (x : Triple) → IsOnSome (edge u v ∷ edge v w ∷ edges_along w ms u) x → IsOnSome (edges_of (v ∷ w ∷ (ms ++ u ∷ []))) x
  on_some_corner x h = subst (λ es. IsOnSome es x) (sym edges_of_ring) (on_some_swapped (edge u v ∷ []) (edge v w ∷ edges_along w ms u) x h)

  -- with the winding numbers,
  pub winding_corner : (x : Triple) → winding (edges_of (v ∷ w ∷ (ms ++ u ∷ []))) x ≡ winding (edge u v ∷ edge v w ∷ edges_along w ms u) x
  winding_corner x = ap (λ es. winding es x) edges_of_ring ∙ winding_swapped (edge v w ∷ edges_along w ms u) (edge u v ∷ []) x

  -- and with the area
  pub area_corner : doubled_area (v ∷ w ∷ (ms ++ u ∷ [])) ≡ swept (edge u v ∷ edge v w ∷ edges_along w ms u)
  area_corner = ap swept edges_of_ring ∙ swept_swapped (edge v w ∷ edges_along w ms u) (edge u v ∷ [])

  -- ---- the ring without v, its new edge first

  -- the edges are closed
  pub closed_rest : IsClosed (edge u w ∷ edges_along w ms u)
  closed_rest = closed_swapped (edges_along w ms u) (edge u w ∷ []) (subst IsClosed edges_of_rest (closed_edges_of (w ∷ (ms ++ u ∷ []))))

  -- a point on the edges is on the edges of that ring,
  pub on_some_rest : (x : Triple) → IsOnSome (edges_of (w ∷ (ms ++ u ∷ []))) x → IsOnSome (edge u w ∷ edges_along w ms u) x
  on_some_rest x h = on_some_swapped (edges_along w ms u) (edge u w ∷ []) x (subst (λ es. IsOnSome es x) edges_of_rest h)

  -- the winding numbers are the same,
  pub winding_rest : (x : Triple) → winding (edges_of (w ∷ (ms ++ u ∷ []))) x ≡ winding (edge u w ∷ edges_along w ms u) x
  winding_rest x = ap (λ es. winding es x) edges_of_rest ∙ winding_swapped (edges_along w ms u) (edge u w ∷ []) x

  -- so is the area
  area_rest : doubled_area (w ∷ (ms ++ u ∷ [])) ≡ swept (edge u w ∷ edges_along w ms u)
  area_rest = ap swept edges_of_rest ∙ swept_swapped (edges_along w ms u) (edge u w ∷ [])

  -- ---- the ear cut off

  -- the area is that of the triangle at v and that of the rest
  pub area_ear : doubled_area (v ∷ w ∷ (ms ++ u ∷ [])) ≡ determinant (whole u) (whole v) (whole w) +ℤ doubled_area (w ∷ (ms ++ u ∷ []))
  area_ear = omega (arith, ints, area_corner, area_rest, swept_triangle u v w)

  module _ (apart : IsApartRing (v ∷ w ∷ (ms ++ u ∷ []))) where
    -- the vertices are different
    pub distinct_corner : AreDistinct (v ∷ w ∷ (ms ++ u ∷ []))
    distinct_corner = distinct_vertices (v ∷ w ∷ (ms ++ u ∷ [])) apart.distinct

    -- the other edges do not have the end v,
    pub not_at_corner : (e : Edge) → HasEdge (edges_along w ms u) e → ¬ (HasEnd e v)
    not_at_corner e has (inl is) =
        distinct_corner.0 (has_left v (w ∷ ms) (u ∷ []) (subst (HasPoint (w ∷ ms)) is (ends_along e w ms u has).0))
    not_at_corner e has (inr is) = distinct_corner.0 (inr (subst (HasPoint (ms ++ u ∷ [])) is (ends_along e w ms u has).1))

    -- so two edges have it
    pub edges_at_corner : (e : Edge) → HasEdge (edges_of (v ∷ w ∷ (ms ++ u ∷ []))) e → HasEnd e v → (edge u v ≡ e) ⊎ (edge v w ≡ e)
    edges_at_corner e has at = elim (has_edge_corner e has) [
      | inl is ↦ inl is
      | inr k ↦ elim k [ inl is ↦ inr is | inr other ↦ absurd (not_at_corner e other at) ]
    ]

    -- the ring without v is apart if its other edges meet the new one at ends
    pub apart_rest : ((e : Edge) → HasEdge (edges_along w ms u) e → MeetAtEnds e (edge u w)) → IsApartRing (w ∷ (ms ++ u ∷ []))
    apart_rest meets = record {
      distinct = vertices_differ (w ∷ (ms ++ u ∷ [])) distinct_corner.1;
      apart =
          let chain = edges_along w ms u in
          let among = λ (e : Edge) (has : HasEdge chain e). has_edge_of_corner e (inr (inr has)) in
          let more = apart_more (edge u w) chain (apart_among chain (edges_of (v ∷ w ∷ (ms ++ u ∷ []))) among apart.apart) meets in
          apart_among (edges_of (w ∷ (ms ++ u ∷ []))) (edge u w ∷ chain)
          (λ e has. has_swapped e chain (edge u w ∷ []) (subst (λ es. HasEdge es e) edges_of_rest has)) more;
    }

module _ (v w m : Point) (ms : List Point) (u : Point) (apart : IsApartRing (v ∷ w ∷ (m ∷ ms ++ u ∷ []))) where
  -- with a vertex between w and u, no edge has both of them as ends
  pub no_edge_across : (e : Edge) → HasEdge (edges_of (v ∷ w ∷ (m ∷ ms ++ u ∷ []))) e → HasEnd e u → ¬ (HasEnd e w)
  no_edge_across e has at_u at_w = go (has_edge_corner v w (m ∷ ms) u e has)
    where
      differ : AreDistinct (v ∷ w ∷ (m ∷ ms ++ u ∷ []))
      differ = distinct_corner v w (m ∷ ms) u apart

      last : HasPoint (m ∷ ms ++ u ∷ []) u
      last = has_right u (m ∷ ms) (u ∷ []) (inl refl)

      go : HasEdge (edge u v ∷ edge v w ∷ edges_along w (m ∷ ms) u) e → ⊥
      go (inl is) = elim (subst (λ d. HasEnd d w) (sym is) at_w) [
        | inl k ↦ differ.1.0 (subst (HasPoint (m ∷ ms ++ u ∷ [])) k last)
        | inr k ↦ differ.0 (inl (sym k))
      ]
      go (inr (inl is)) = elim (subst (λ d. HasEnd d u) (sym is) at_u) [
        | inl k ↦ differ.0 (inr (subst (HasPoint (m ∷ ms ++ u ∷ [])) (sym k) last))
        | inr k ↦ differ.1.0 (subst (HasPoint (m ∷ ms ++ u ∷ [])) (sym k) last)
      ]
      go (inr (inr (inl is))) = elim (subst (λ d. HasEnd d u) (sym is) at_u) [
        | inl k ↦ differ.1.0 (subst (HasPoint (m ∷ ms ++ u ∷ [])) (sym k) last)
        | inr k ↦ differ.1.1.0 (has_right m ms (u ∷ []) (inl (sym k)))
      ]
      go (inr (inr (inr k))) =
          let ends = ends_along e m ms u k in
          elim at_w [
            | inl is ↦ differ.1.0 (has_left w (m ∷ ms) (u ∷ []) (subst (HasPoint (m ∷ ms)) is ends.0))
            | inr is ↦ differ.1.0 (inr (subst (HasPoint (ms ++ u ∷ [])) is ends.1))
          ]
