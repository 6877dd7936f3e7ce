-- The two pieces of a ring that is cut from v to z meet at v and z alone, apart from the diagonal.
use Rattle.std.proofs.Common.{◌≡◌, ◌⊎◌, inl, inr, sym, subst, ◌∙◌, List, [], ◌∷◌, ◌++◌}
use Rattle.plane.proofs.Points.{same_whole, whole_is_point}
use Rattle.plane.proofs.Segments.{on_first_end, on_reversed}
use Rattle.plane.specs.Point.{IsPoint, IsSame, Point, Triple, whole}
use Rattle.rings.proofs.Inside.{apart_rotated, has_edge_rotated}
use Rattle.rings.proofs.Vertices.{meet_reversed, HasPoint, distinct_between, edge_from, ends_along, has_cases, has_left, has_right, edge_with}
use Rattle.rings.proofs.Vertices.{on_some_of}
use Rattle.rings.specs.Apart.{IsApartRing, IsCommonEnd, MeetAtEnds}
use Rattle.rings.specs.Edge.{Edge, edge, edges_along, edges_of, HasEdge, HasEnd, IsOn, IsOnSome}
use Rattle.ring_laws.proofs.Pieces.Pieces.{distinct_cut, distinct_second, edges_of_cut, has_edge_of_first}

-- an end of an edge along some points is one of them or the last one
end_along : (e : Edge) (p v : Point) (ws : List Point) (last : Point) → HasEdge (edges_along v ws last) e → HasEnd e p
    → HasPoint (v ∷ ws) p ⊎ (last ≡ p)
end_along e p v ws last has (inl is) = inl (subst (HasPoint (v ∷ ws)) is (ends_along e v ws last has).0)
end_along e p v ws last has (inr is) =
    elim (has_cases p ws (last ∷ []) (subst (HasPoint (ws ++ last ∷ [])) is (ends_along e v ws last has).1)) [
      | inl k ↦ inl (inr k)
      | inr k ↦ elim k [ inl at ↦ inr at | inr none ↦ absurd none ]
    ]

module _ (v : Point) (ps : List Point) (z : Point) (qs : List Point) (apart : IsApartRing (v ∷ (ps ++ z ∷ qs))) where
  -- no point is on both ways
  not_on_both : (p : Point) → HasPoint (v ∷ ps) p → ¬ (HasPoint (z ∷ qs) p)
  not_on_both = distinct_between (v ∷ ps) (z ∷ qs) (distinct_cut v ps z qs apart)

  -- the edges from v to z are edges of the ring,
  pub has_edge_there : (e : Edge) → HasEdge (edges_along v ps z) e → HasEdge (edges_of (v ∷ (ps ++ z ∷ qs))) e
  has_edge_there e h =
      subst (λ es. HasEdge es e) (sym (edges_of_cut v ps z qs)) (has_left e (edges_along v ps z) (edges_along z qs v) h)

  -- and so are those back
  pub has_edge_back : (e : Edge) → HasEdge (edges_along z qs v) e → HasEdge (edges_of (v ∷ (ps ++ z ∷ qs))) e
  has_edge_back e h =
      subst (λ es. HasEdge es e) (sym (edges_of_cut v ps z qs)) (has_right e (edges_along v ps z) (edges_along z qs v) h)

  -- a point off the ring and the diagonal is off the first piece,
  pub off_first : (x : Triple) → ¬ IsOnSome (edges_of (v ∷ (ps ++ z ∷ qs))) x → ¬ IsOn (edge v z) x → ¬ IsOnSome (edges_of (v ∷ (ps ++ z ∷ []))) x
  off_first x off not on =
      let (e, has, on_e) = edge_with x (edges_of (v ∷ (ps ++ z ∷ []))) on in
      elim (has_edge_of_first v ps z qs e has) [
        | inl k ↦ off (on_some_of x e (edges_of (v ∷ (ps ++ z ∷ qs))) k on_e)
        | inr is ↦ not (on_reversed x (whole z) (whole v) (subst (λ (d : Edge). IsOn d x) (sym is) on_e))
      ]

  -- and off the second
  pub off_second : (x : Triple) → ¬ IsOnSome (edges_of (v ∷ (ps ++ z ∷ qs))) x → ¬ IsOn (edge v z) x → ¬ IsOnSome (edges_of (v ∷ z ∷ qs)) x
  off_second x off not (inl on) = not on
  off_second x off not (inr on) =
      let (e, has, on_e) = edge_with x (edges_along z qs v) on in
      off (on_some_of x e (edges_of (v ∷ (ps ++ z ∷ qs))) (has_edge_back e has) on_e)

  -- the edges back are edges of the ring
  pub on_back : (x : Triple) → IsOnSome (edges_along z qs v) x → IsOnSome (edges_of (v ∷ (ps ++ z ∷ qs))) x
  on_back x on =
      let (e, has, on_e) = edge_with x (edges_along z qs v) on in
      on_some_of x e (edges_of (v ∷ (ps ++ z ∷ qs))) (has_edge_back e has) on_e

  -- a point on an edge there and on an edge back is v or z
  pub meet_at_cut : (e f : Edge) → HasEdge (edges_along z qs v) e → HasEdge (edges_along v ps z) f
      → (x : Triple) → IsPoint x → IsOn e x → IsOn f x → IsSame x (whole v) ⊎ IsSame x (whole z)
  meet_at_cut e f has_e has_f x at on_e on_f =
      elim (apart.apart e f (has_edge_back e has_e) (has_edge_there f has_f)) [
        | inl same ↦
            absurd (not_on_both f.from (ends_along f v ps z has_f).0
            (subst (λ (d : Edge). HasPoint (z ∷ qs) d.from) same (ends_along e z qs v has_e).0))
        | inr meets ↦ common (meets x at on_e on_f)
      ]
    where
      common : IsCommonEnd e f x → IsSame x (whole v) ⊎ IsSame x (whole z)
      common c = elim (end_along e c.end z qs v has_e c.of_first) [
        | inr first ↦ inl (subst (λ (p : Point). IsSame x (whole p)) (sym first) c.same)
        | inl back ↦ elim (end_along f c.end v ps z has_f c.of_second) [
          | inl there ↦ absurd (not_on_both c.end there back)
          | inr last ↦ inr (subst (λ (p : Point). IsSame x (whole p)) (sym last) c.same)
        ]
      ]

  module _ (meets : (e : Edge) → HasEdge (edges_of (v ∷ (ps ++ z ∷ qs))) e → MeetAtEnds e (edge v z)) where
    -- no vertex on the way back is on an edge of the first piece
    pub off_first_piece : (m : Point) → HasPoint qs m → ¬ IsOnSome (edge z v ∷ edges_along v ps z) (whole m)
    off_first_piece m has on =
        let (e, has_e, is) = edge_from m z qs v (inr has) in
        let on_e : IsOn e (whole m) = subst (λ (p : Point). IsOn e (whole p)) is (on_first_end (whole e.from) (whole e.to)) in
        elim on [
          | inl diagonal ↦
              let common = meets e (has_edge_back e has_e) (whole m) (whole_is_point m) on_e (on_reversed (whole m) (whole z) (whole v) diagonal) in
              let same = same_whole m common.end common.same in
              elim common.of_second [ inl at ↦ not_v (same ∙ sym at) | inr at ↦ not_z (same ∙ sym at) ]
          | inr chain ↦
              let (f, has_f, on_f) = edge_with (whole m) (edges_along v ps z) chain in
              elim (meet_at_cut e f has_e has_f (whole m) (whole_is_point m) on_e on_f) [
                | inl at ↦ not_v (same_whole m v at)
                | inr at ↦ not_z (same_whole m z at)
              ]
        ]
      where
        not_v : ¬ (m ≡ v)
        not_v e = not_on_both m (inl (sym e)) (inr has)

        not_z : ¬ (m ≡ z)
        not_z e = (distinct_second v ps z qs apart).1.0 (subst (HasPoint qs) e has)

module _ (v : Point) (ps : List Point) (z : Point) (qs : List Point) (apart : IsApartRing (v ∷ (ps ++ z ∷ qs)))
    (meets : (e : Edge) → HasEdge (edges_of (v ∷ (ps ++ z ∷ qs))) e → MeetAtEnds e (edge v z)) where
  -- no vertex on the way there is on an edge of the second piece
  pub off_second_piece : (m : Point) → HasPoint ps m → ¬ IsOnSome (edge v z ∷ edges_along z qs v) (whole m)
  off_second_piece =
      off_first_piece z qs v ps (apart_rotated (v ∷ ps) (z ∷ qs) apart)
      (λ e has. meet_reversed e (edge v z) (meets e (has_edge_rotated (z ∷ qs) (v ∷ ps) e has)))
