-- Two chains between the ends of a diagonal, which meet each other and the diagonal only there: each of them is on one side of
-- the piece that the other makes with the diagonal.
use Rattle.std.proofs.Common.{◌≡◌, ◌⊎◌, inl, inr, ◌∷◌, sym, subst, List, pos}
use Rattle.plane.proofs.Points.{same_whole, whole_is_point}
use Rattle.plane.proofs.Segments.{on_reversed, on_same_point, on_antisym, on_total, on_nested}
use Rattle.plane.specs.Prelude.{IsPoint, IsSame, On, Point, Triple, whole}
use Rattle.rings.proofs.Vertices.{end_of_second, meet_reversed, HasPoint, edge_with}
use Rattle.rings.specs.Apart.{MeetAtEnds}
use Rattle.rings.specs.Edge.{Edge, edge, edges_along, edges_of, HasEdge, HasEnd, IsOn, IsOnSome}
use Rattle.rings.specs.Winding.{WindsUpTo}

-- the diagonal goes from v to z, the first chain along ms back from z to v, and the second along ns from v to z: the pieces
-- are edges_of (v ∷ z ∷ ms) and edges_of (z ∷ v ∷ ns)
pub record ArePieces (v z : Point) (ms ns : List Point) : Type 0 where
  pub differ : ¬ (v ≡ z)
  pub first_apart : (e : Edge) → HasEdge (edges_along z ms v) e → MeetAtEnds e (edge v z)
  pub second_apart : (e : Edge) → HasEdge (edges_along v ns z) e → MeetAtEnds e (edge v z)
  pub chains_apart : (x : Triple) → IsPoint x → IsOnSome (edges_along z ms v) x → IsOnSome (edges_along v ns z) x
      → IsSame x (whole v) ⊎ IsSame x (whole z)
  pub first_off : (m : Point) → HasPoint ms m → ¬ (IsOnSome (edges_of (z ∷ v ∷ ns)) (whole m))
  pub second_off : (n : Point) → HasPoint ns n → ¬ (IsOnSome (edges_of (v ∷ z ∷ ms)) (whole n))
  pub first_values : WindsUpTo (pos 1) (edges_of (v ∷ z ∷ ms))
  pub second_values : WindsUpTo (pos 1) (edges_of (z ∷ v ∷ ns))

-- the two chains may change places
pub swapped : (v z : Point) (ms ns : List Point) → ArePieces v z ms ns → ArePieces z v ns ms
swapped v z ms ns c = record {
  differ = λ e. c.differ (sym e);
  first_apart = λ e h. meet_reversed e (edge v z) (c.second_apart e h);
  second_apart = λ e h. meet_reversed e (edge v z) (c.first_apart e h);
  chains_apart = λ x at_x one other. elim (c.chains_apart x at_x other one) [ inl s ↦ inr s | inr s ↦ inl s ];
  first_off = c.second_off;
  second_off = c.first_off;
  first_values = c.second_values;
  second_values = c.first_values;
}

-- x is neither v nor z
pub record IsNeither (v z : Point) (x : Triple) : Type 0 where
  pub not_first : ¬ (IsSame x (whole v))
  pub not_last : ¬ (IsSame x (whole z))

-- in the other order too
pub neither_swapped : (v z : Point) (x : Triple) → IsNeither v z x → IsNeither z v x
neither_swapped v z x h = record { not_first = h.not_last; not_last = h.not_first }

-- an end of a segment is between two points of it only where it is one of them
end_between : (x y a b : Triple) → IsPoint x → IsPoint y → IsPoint a → IsPoint b → On x a b → On y a b → On a x y
    → IsSame x a ⊎ IsSame y a
end_between x y a b at_x at_y at_a at_b on_x on_y between = elim (on_total x y a b at_x at_y at_a at_b on_x on_y) [
  | inl on ↦ inl (on_antisym x a y at_x at_a at_y (on_reversed x a y on) (on_reversed a x y between))
  | inr on ↦ inr (on_antisym y a x at_y at_a at_x (on_reversed y a x on) between)
]

-- edges that meet the diagonal at ends share no other points with it
meet_only_ends : (v z : Point) (es : List Edge) → ((e : Edge) → HasEdge es e → MeetAtEnds e (edge v z)) → (x : Triple)
    → IsPoint x → IsOnSome es x → On x (whole v) (whole z) → IsSame x (whole v) ⊎ IsSame x (whole z)
meet_only_ends v z es apart x at_x on_some on =
    let (e, has, on_e) = edge_with x es on_some in
    end_of_second e (edge v z) x (apart e has x at_x on_e on)

module _ (v z : Point) (ms ns : List Point) (c : ArePieces v z ms ns) where
  -- the first chain meets the diagonal only at its ends,
  pub chain_on_diagonal : (x : Triple) → IsPoint x → IsOnSome (edges_along z ms v) x → On x (whole v) (whole z)
      → IsSame x (whole v) ⊎ IsSame x (whole z)
  chain_on_diagonal = meet_only_ends v z (edges_along z ms v) c.first_apart

  -- and so the other piece
  pub chain_on_piece : (x : Triple) → IsPoint x → IsOnSome (edges_along z ms v) x → IsOnSome (edges_of (z ∷ v ∷ ns)) x
      → IsSame x (whole v) ⊎ IsSame x (whole z)
  chain_on_piece x at_x h (inl on) = chain_on_diagonal x at_x h (on_reversed x (whole z) (whole v) on)
  chain_on_piece x at_x h (inr on) = c.chains_apart x at_x h on

  -- elsewhere it is off the other piece
  pub chain_off_piece : (x : Triple) → IsPoint x → IsOnSome (edges_along z ms v) x → IsNeither v z x
      → ¬ (IsOnSome (edges_of (z ∷ v ∷ ns)) x)
  chain_off_piece x at_x h neither on =
      elim (chain_on_piece x at_x h on) [ inl s ↦ neither.not_first s | inr s ↦ neither.not_last s ]

  -- an end of the diagonal is on an edge of the chain only as an end of it
  end_on_edge : (e : Edge) → HasEdge (edges_along z ms v) e → (d : Point) → On (whole d) (whole v) (whole z) → IsOn e (whole d)
      → HasEnd e d
  end_on_edge e h d on on_e =
      let k = c.first_apart e h (whole d) (whole_is_point d) on_e on in
      subst (λ (a : Point). HasEnd e a) (sym (same_whole d k.end k.same)) k.of_first

  -- so it is not between two other points of such an edge
  pub not_between : (e : Edge) → HasEdge (edges_along z ms v) e → (d : Point) → On (whole d) (whole v) (whole z)
      → (x y t : Triple) → IsPoint x → IsPoint y → IsPoint t → IsOn e x → IsOn e y → On t x y → IsSame t (whole d)
      → IsSame x (whole d) ⊎ IsSame y (whole d)
  not_between e h d on x y t at_x at_y at_t on_x on_y between same =
      let a = whole e.from in
      let b = whole e.to in
      let at_a = whole_is_point e.from in
      let at_b = whole_is_point e.to in
      let here = on_same_point at_t same between in
      let on_e = on_same_point at_t same (on_nested t x y a b at_t at_x at_y at_a at_b on_x on_y between) in
      elim (end_on_edge e h d on on_e) [
        | inl s ↦
            subst (λ (g : Point). IsSame x (whole g) ⊎ IsSame y (whole g)) s
            (end_between x y a b at_x at_y at_a at_b on_x on_y (subst (λ (g : Point). On (whole g) x y) (sym s) here))
        | inr s ↦
            subst (λ (g : Point). IsSame x (whole g) ⊎ IsSame y (whole g)) s
            (end_between x y b a at_x at_y at_b at_a (on_reversed x a b on_x) (on_reversed y a b on_y)
            (subst (λ (g : Point). On (whole g) x y) (sym s) here))
      ]
