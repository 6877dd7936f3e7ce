-- Along one chain beside a diagonal the winding number of the other piece stays.
use Rattle.std.proofs.Common.{◌≡◌, inl, inr, [], ◌∷◌, refl, ◌∙◌, List}
use Rattle.plane.proofs.Points.{same_sym, whole_is_point}
use Rattle.plane.proofs.Segments.{on_first_end, on_last_end, on_nested}
use Rattle.plane.specs.Point.{IsPoint, Point, Triple, whole}
use Rattle.rings.proofs.Crossings.{winding_law}
use Rattle.rings.proofs.Vertices.{HasPoint, closed_edges_of, on_some_same, on_some_of, first_on_along, last_on_along}
use Rattle.rings.specs.Across.{Misses}
use Rattle.rings.specs.Prelude.{Edge, edge, edges_along, edges_of, HasEdge, IsOn, IsOnSome, winding}
use Rattle.ring_laws.proofs.Pieces.TwoChains.{ArePieces, IsNeither, chain_on_piece, not_between}

module _ (v z : Point) (ms ns : List Point) (c : ArePieces v z ms ns) where
  -- ---- one edge of the first chain

  -- between two points of an edge that are not ends of the diagonal, the other piece is missed
  edge_misses : (e : Edge) → HasEdge (edges_along z ms v) e → (x y : Triple) → IsPoint x → IsPoint y → IsOn e x → IsOn e y
      → IsNeither v z x → IsNeither v z y → Misses x y (edges_of (z ∷ v ∷ ns))
  edge_misses e h x y at_x at_y on_x on_y nx ny t at_t between on =
      let a = whole e.from in
      let b = whole e.to in
      let on_e = on_nested t x y a b at_t at_x at_y (whole_is_point e.from) (whole_is_point e.to) on_x on_y between in
      let end = not_between v z ms ns c e h in
      elim (chain_on_piece v z ms ns c t at_t (on_some_of t e (edges_along z ms v) h on_e) on) [
        | inl s ↦ elim (end v (on_first_end (whole v) (whole z)) x y t at_x at_y at_t on_x on_y between s) [
          | inl k ↦ nx.not_first k
          | inr k ↦ ny.not_first k
        ]
        | inr s ↦ elim (end z (on_last_end (whole v) (whole z)) x y t at_x at_y at_t on_x on_y between s) [
          | inl k ↦ nx.not_last k
          | inr k ↦ ny.not_last k
        ]
      ]

  -- so it winds round both alike
  edge_constant : (e : Edge) → HasEdge (edges_along z ms v) e → (x y : Triple) → IsPoint x → IsPoint y → IsOn e x → IsOn e y
      → IsNeither v z x → IsNeither v z y → winding (edges_of (z ∷ v ∷ ns)) x ≡ winding (edges_of (z ∷ v ∷ ns)) y
  edge_constant e h x y at_x at_y on_x on_y nx ny =
      winding_law x y at_x at_y (edges_of (z ∷ v ∷ ns)) (closed_edges_of (z ∷ v ∷ ns))
      (edge_misses e h x y at_x at_y on_x on_y nx ny)

  -- ---- the chain

  -- the points of the first chain are not ends of the diagonal
  pub member_neither : (m : Point) → HasPoint ms m → IsNeither v z (whole m)
  member_neither m h =
      record {
        not_first = λ s. c.first_off m h
            (on_some_same (whole v) (whole m) (whole_is_point v) (same_sym s) (edges_of (z ∷ v ∷ ns)) (inr (first_on_along v ns z)));
        not_last = λ s. c.first_off m h
            (on_some_same (whole z) (whole m) (whole_is_point z) (same_sym s) (edges_of (z ∷ v ∷ ns)) (inr (last_on_along v ns z)));
      }

  -- along a part of the chain the winding number of the other piece stays
  part_constant : (a : Point) (bs : List Point) (last : Point)
      → ((e : Edge) → HasEdge (edges_along a bs last) e → HasEdge (edges_along z ms v) e)
      → ((b : Point) → HasPoint bs b → IsNeither v z (whole b))
      → (x y : Triple) → IsPoint x → IsPoint y → IsOnSome (edges_along a bs last) x → IsOnSome (edges_along a bs last) y
      → IsNeither v z x → IsNeither v z y → winding (edges_of (z ∷ v ∷ ns)) x ≡ winding (edges_of (z ∷ v ∷ ns)) y
  part_constant a [] last part joints x y at_x at_y (inl on_x) (inl on_y) nx ny =
      edge_constant (edge a last) (part (edge a last) (inl refl)) x y at_x at_y on_x on_y nx ny
  part_constant a [] last part joints x y at_x at_y (inr on_x) on_y nx ny = absurd on_x
  part_constant a [] last part joints x y at_x at_y (inl on_x) (inr on_y) nx ny = absurd on_y
  part_constant a (b ∷ bs) last part joints x y at_x at_y (inl on_x) (inl on_y) nx ny =
      edge_constant (edge a b) (part (edge a b) (inl refl)) x y at_x at_y on_x on_y nx ny
  part_constant a (b ∷ bs) last part joints x y at_x at_y (inl on_x) (inr on_y) nx ny =
      let nb = joints b (inl refl) in
      edge_constant (edge a b) (part (edge a b) (inl refl)) x (whole b) at_x (whole_is_point b) on_x
      (on_last_end (whole a) (whole b)) nx nb
      ∙ part_constant b bs last (λ e h. part e (inr h)) (λ d h. joints d (inr h)) (whole b) y (whole_is_point b) at_y
      (first_on_along b bs last) on_y nb ny
  part_constant a (b ∷ bs) last part joints x y at_x at_y (inr on_x) (inl on_y) nx ny =
      let nb = joints b (inl refl) in
      part_constant b bs last (λ e h. part e (inr h)) (λ d h. joints d (inr h)) x (whole b) at_x (whole_is_point b) on_x
      (first_on_along b bs last) nx nb
      ∙ edge_constant (edge a b) (part (edge a b) (inl refl)) (whole b) y (whole_is_point b) at_y
      (on_last_end (whole a) (whole b)) on_y nb ny
  part_constant a (b ∷ bs) last part joints x y at_x at_y (inr on_x) (inr on_y) nx ny =
      part_constant b bs last (λ e h. part e (inr h)) (λ d h. joints d (inr h)) x y at_x at_y on_x on_y nx ny

  -- and so it does along the whole chain
  pub chain_constant : (x y : Triple) → IsPoint x → IsPoint y → IsOnSome (edges_along z ms v) x → IsOnSome (edges_along z ms v) y
      → IsNeither v z x → IsNeither v z y → winding (edges_of (z ∷ v ∷ ns)) x ≡ winding (edges_of (z ∷ v ∷ ns)) y
  chain_constant = part_constant z ms v (λ e h. h) member_neither
