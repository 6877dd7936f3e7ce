-- A corner among edges that are apart, with a left turn: what meets the triangle there, and the farthest end in it.
use Rattle.std.proofs.Common.{◌≡◌, ◌⊎◌, inl, inr, sym, ◌<ℤ◌, ◌≤ℤ◌, List}
use Rattle.plane.specs.Prelude.{height_over, IsInTriangle, IsLeft, IsPoint, Point, Triple, whole}
use Rattle.rings.specs.Apart.{AreApart, IsCommonEnd, MeetAtEnds}
use Rattle.rings.specs.Edge.{Edge, edge, HasEdge, HasEnd, IsOn}
use Rattle.ring_laws.proofs.Triangles.NoneEnters.{base_is_diagonal, none_enters}
use Rattle.ring_laws.proofs.Triangles.FarthestVertex.{below_middle, farthest_is_diagonal, first_piece_turns, none_higher_beside, second_piece_turns}

-- edges that are apart, with a left turn at v from uv to vw, which are the only edges at v
pub record IsCorner (es : List Edge) (u v w : Point) : Type 0 where
  pub apart : AreApart es
  pub left : IsLeft (whole u) (whole v) (whole w)
  pub has_first : HasEdge es (edge u v)
  pub has_second : HasEdge es (edge v w)
  pub only : (e : Edge) → HasEdge es e → HasEnd e v → (edge u v ≡ e) ⊎ (edge v w ≡ e)

-- z is an end in the triangle at v, none of its corners, and no other end there is farther from the side uw
pub record IsFarthestEnd (es : List Edge) (u v w z : Point) : Type 0 where
  pub in_triangle : IsInTriangle u v w (whole z)
  pub not_u : ¬ (z ≡ u)
  pub not_v : ¬ (z ≡ v)
  pub not_w : ¬ (z ≡ w)
  pub with_edge : Edge
  pub has_edge : HasEdge es with_edge
  pub is_end : HasEnd with_edge z
  pub farthest : (e : Edge) (y : Point) → HasEdge es e → HasEnd e y → IsInTriangle u v w (whole y)
      → (y ≡ u) ⊎ (y ≡ v) ⊎ (y ≡ w) ⊎ (height_over u w (whole y) ≤ℤ height_over u w (whole z))

module _ (es : List Edge) (u v w : Point) (c : IsCorner es u v w) where
  -- the edges at v, in the other order of the equations
  at_corner : (e : Edge) → HasEdge es e → HasEnd e v → (e ≡ edge u v) ⊎ (e ≡ edge v w)
  at_corner e has end = elim (c.only e has end) [ inl is ↦ inl (sym is) | inr is ↦ inr (sym is) ]

  -- no other end is in the triangle, and no edge has the ends u and w
  module _ (empty : (e : Edge) (y : Point) → HasEdge es e → HasEnd e y → IsInTriangle u v w (whole y) → (y ≡ u) ⊎ (y ≡ v) ⊎ (y ≡ w))
      (across : (e : Edge) → HasEdge es e → HasEnd e u → ¬ (HasEnd e w)) where
    -- then the other edges meet the triangle at u and w alone,
    pub corner_not_entered : (e : Edge) → HasEdge es e → ¬ (edge u v ≡ e) → ¬ (edge v w ≡ e) → (x : Triple) → IsPoint x → IsOn e x
        → IsInTriangle u v w x → IsCommonEnd e (edge u w) x
    corner_not_entered e has not_first not_second =
        none_enters es c.apart u v w c.left c.has_first c.has_second at_corner (λ f has_f y. empty f y has_f) across e has
        (λ is. not_first (sym is)) (λ is. not_second (sym is))

    -- and all meet its third side at ends
    pub corner_base_meets : (e : Edge) → HasEdge es e → MeetAtEnds e (edge u w)
    corner_base_meets =
        base_is_diagonal es c.apart u v w c.left c.has_first c.has_second at_corner (λ f has_f y. empty f y has_f) across

  module _ (z : Point) (end : IsFarthestEnd es u v w z) where
    -- the segment from v to the farthest end meets all edges at ends,
    pub farthest_meets : (e : Edge) → HasEdge es e → MeetAtEnds e (edge v z)
    farthest_meets =
        farthest_is_diagonal es c.apart u v w c.left c.has_first c.has_second z end.in_triangle end.not_u end.not_v end.not_w
        end.with_edge end.has_edge end.is_end at_corner (λ e has y. end.farthest e y has)

    -- and it is strictly between the two edges at v
    pub farthest_between : IsLeft (whole u) (whole v) (whole z) × IsLeft (whole z) (whole v) (whole w)
    farthest_between = (
      first_piece_turns es c.apart u v w c.left c.has_first c.has_second z end.in_triangle end.not_u end.not_v end.not_w
          end.with_edge end.has_edge end.is_end,
      second_piece_turns es c.apart u v w c.left c.has_first c.has_second z end.in_triangle end.not_u end.not_v end.not_w
          end.with_edge end.has_edge end.is_end,
    )

    -- It is not as far as v,
    pub farthest_below : height_over u w (whole z) <ℤ height_over u w (whole v)
    farthest_below =
        below_middle es c.apart u v w c.left c.has_first c.has_second z end.in_triangle end.not_u end.not_v end.not_w
        end.with_edge end.has_edge end.is_end

    -- and no end beside it is farther
    pub farthest_beside : (e : Edge) → HasEdge es e → HasEnd e z → (a : Point) → HasEnd e a
        → ¬ (height_over u w (whole z) <ℤ height_over u w (whole a))
    farthest_beside =
        none_higher_beside es c.apart u v w c.left c.has_first c.has_second z end.in_triangle end.not_u end.not_v end.not_w
        end.with_edge end.has_edge end.is_end at_corner (λ e has y. end.farthest e y has)
