-- A ring cut along a diagonal: its edges, winding numbers and area are those of the two pieces together.
use Rattle.std.proofs.Common.{◌≡◌, ◌⊎◌, inl, inr, sym, subst, ap, ◌∙◌, ◌+ℤ◌, List, [], ◌∷◌, ◌++◌, arith}
use Rattle.std.proofs.lemmas.Int.{ints}
use Rattle.std.proofs.lemmas.List.{append_assoc}
use Rattle.plane.specs.Point.{Point, Triple}
use Rattle.rings.proofs.Crossings.{winding-append, crossing_reversed}
use Rattle.rings.proofs.Turned.{swept-append}
use Rattle.rings.proofs.Vertices.{apart_among, apart_more, meet_reversed, AreDistinct, distinct_left, distinct_right, distinct_vertices}
use Rattle.rings.proofs.Vertices.{vertices_differ, has_cases, has_left, has_right, has_swapped, edge_with, on_some_of, edges_along_append}
use Rattle.rings.specs.Apart.{IsApartRing, MeetAtEnds}
use Rattle.rings.specs.Prelude.{doubled_area, Edge, edges_along, edges_of, HasEdge, IsOnSome, swept, winding}

-- ---- edges that are apart

-- ---- the cut from v to z

module _ (v : Point) (ps : List Point) (z : Point) (qs : List Point) where
  -- the edges of the ring are those from v to z and those back,
  pub edges_of_cut : edges_of (v ∷ (ps ++ z ∷ qs)) ≡ edges_along v ps z ++ edges_along z qs v
  edges_of_cut = edges_along_append v ps z qs v

  -- and the first piece has the diagonal in place of those back
  pub edges_of_first : edges_of (v ∷ (ps ++ z ∷ [])) ≡ edges_along v ps z ++ record { from = z; to = v } ∷ []
  edges_of_first = edges_along_append v ps z [] v

  -- each edge of the ring is one of a piece
  has_edge_cut : (e : Edge) → HasEdge (edges_of (v ∷ (ps ++ z ∷ qs))) e
      → HasEdge (edges_of (v ∷ (ps ++ z ∷ []))) e ⊎ HasEdge (edges_of (v ∷ z ∷ qs)) e
  has_edge_cut e h =
      elim (has_cases e (edges_along v ps z) (edges_along z qs v) (subst (λ es. HasEdge es e) edges_of_cut h)) [
        | inl k ↦ inl (subst (λ es. HasEdge es e) (sym edges_of_first) (has_left e (edges_along v ps z) _ k))
        | inr k ↦ inr (inr k)
      ]

  -- so a point on some edge of it is on one of a piece
  pub on_some_cut : (x : Triple) → IsOnSome (edges_of (v ∷ (ps ++ z ∷ qs))) x
      → IsOnSome (edges_of (v ∷ (ps ++ z ∷ []))) x ⊎ IsOnSome (edges_of (v ∷ z ∷ qs)) x
  on_some_cut x h =
      let (e, has, on) = edge_with x (edges_of (v ∷ (ps ++ z ∷ qs))) h in
      elim (has_edge_cut e has) [
        | inl k ↦ inl (on_some_of x e (edges_of (v ∷ (ps ++ z ∷ []))) k on)
        | inr k ↦ inr (on_some_of x e (edges_of (v ∷ z ∷ qs)) k on)
      ]

  -- each edge of the first piece is one of the ring or the diagonal
  pub has_edge_of_first : (e : Edge) → HasEdge (edges_of (v ∷ (ps ++ z ∷ []))) e
      → HasEdge (edges_of (v ∷ (ps ++ z ∷ qs))) e ⊎ (record { from = z; to = v } ≡ e)
  has_edge_of_first e h =
      elim (has_cases e (edges_along v ps z) _ (subst (λ es. HasEdge es e) edges_of_first h)) [
        | inl k ↦ inl (subst (λ es. HasEdge es e) (sym edges_of_cut) (has_left e (edges_along v ps z) (edges_along z qs v) k))
        | inr k ↦ elim k [ inl is ↦ inr is | inr none ↦ absurd none ]
      ]

  -- winding numbers add up
  pub winding_cut : (x : Triple) → winding (edges_of (v ∷ (ps ++ z ∷ qs))) x
      ≡ winding (edges_of (v ∷ (ps ++ z ∷ []))) x +ℤ winding (edges_of (v ∷ z ∷ qs)) x
  winding_cut x =
      let cut = ap (λ es. winding es x) edges_of_cut ∙ winding-append x (edges_along v ps z) (edges_along z qs v) in
      let first = ap (λ es. winding es x) edges_of_first ∙ winding-append x (edges_along v ps z) (record { from = z; to = v } ∷ []) in
      omega (arith, ints, cut, first, crossing_reversed (record { from = v; to = z }) x)

  -- and so do areas
  pub area_cut : doubled_area (v ∷ (ps ++ z ∷ qs)) ≡ doubled_area (v ∷ (ps ++ z ∷ [])) +ℤ doubled_area (v ∷ z ∷ qs)
  area_cut =
      let cut = ap swept edges_of_cut ∙ swept-append (edges_along v ps z) (edges_along z qs v) in
      let first = ap swept edges_of_first ∙ swept-append (edges_along v ps z) (record { from = z; to = v } ∷ []) in
      omega (arith, ints, cut, first)

  module _ (apart : IsApartRing (v ∷ (ps ++ z ∷ qs))) where
    -- the vertices are different
    pub distinct_cut : AreDistinct (v ∷ (ps ++ z ∷ qs))
    distinct_cut = distinct_vertices (v ∷ (ps ++ z ∷ qs)) apart.distinct

    -- so are those of the first piece
    distinct_first : AreDistinct (v ∷ (ps ++ z ∷ []))
    distinct_first =
        distinct_left (v ∷ (ps ++ z ∷ [])) qs (subst AreDistinct (ap (λ rs. v ∷ rs) (sym (append_assoc ps (z ∷ []) qs))) distinct_cut)

    -- and those of the second
    pub distinct_second : AreDistinct (v ∷ z ∷ qs)
    distinct_second = (λ has. distinct_cut.0 (has_right v ps (z ∷ qs) has), distinct_right ps (z ∷ qs) distinct_cut.1)

    -- the first piece is apart if its other edges meet the diagonal at ends,
    pub apart_first : ((e : Edge) → HasEdge (edges_along v ps z) e → MeetAtEnds e (record { from = v; to = z })) → IsApartRing (v ∷ (ps ++ z ∷ []))
    apart_first meets = record {
      distinct = vertices_differ (v ∷ (ps ++ z ∷ [])) distinct_first;
      apart =
          let chain = edges_along v ps z in
          let back : Edge = record { from = z; to = v } in
          let among = λ (e : Edge) (has : HasEdge chain e). subst (λ es. HasEdge es e) (sym edges_of_cut) (has_left e chain (edges_along z qs v) has) in
          let more = apart_more back chain (apart_among chain (edges_of (v ∷ (ps ++ z ∷ qs))) among apart.apart)
          (λ e has. meet_reversed e (record { from = v; to = z }) (meets e has)) in
          apart_among (edges_of (v ∷ (ps ++ z ∷ []))) (back ∷ chain)
          (λ e has. has_swapped e chain (back ∷ []) (subst (λ es. HasEdge es e) edges_of_first has)) more;
    }

    -- and so is the second
    pub apart_second : ((e : Edge) → HasEdge (edges_along z qs v) e → MeetAtEnds e (record { from = v; to = z })) → IsApartRing (v ∷ z ∷ qs)
    apart_second meets = record {
      distinct = vertices_differ (v ∷ z ∷ qs) distinct_second;
      apart =
          let chain = edges_along z qs v in
          let among = λ (e : Edge) (has : HasEdge chain e). subst (λ es. HasEdge es e) (sym edges_of_cut) (has_right e (edges_along v ps z) chain has) in
          apart_more (record { from = v; to = z }) chain (apart_among chain (edges_of (v ∷ (ps ++ z ∷ qs))) among apart.apart) meets;
    }
