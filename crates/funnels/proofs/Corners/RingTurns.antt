-- The edges of a piece as edges of its points, and a vertex on a side of a triangle.
-- The edges of a ring by the numbers of their ends, and the neighbours of a vertex on one ray.
-- The turn of a ring at a vertex from which one of its edges is known.
use Rattle.std.proofs.Common.{◌≡◌, ◌⊎◌, inl, inr, ap, subst, sym, ◌∙◌, ℕ, ◌+◌, ◌%◌, ◌<◌, List, length, get_or, arith, refl, Bool, true}
use Rattle.std.proofs.Common.{false, ◌≤◌, not, ◌-◌, pos, ◌≤ℤ◌}
use Rattle.std.proofs.Math.Nat.{mod-lt, mod-eq_of_lt}
use Rattle.std.proofs.lemmas.List.{get_or-map}
use Rattle.std.specs.List.{Contains, range_with_len}
use Rattle.std.specs.Prelude.{slice_index_or}
use Rattle.plane.proofs.Turns.{determinant_shift, determinant_swap_first}
use Rattle.plane.specs.Prelude.{On, Point, whole}
use Rattle.rings.proofs.Simple.{apart_of_simple}
use Rattle.rings.proofs.Vertices.{has_edge_at}
use Rattle.rings.specs.Prelude.{AreNeighbours, Edge, edge, edges_of, HasEdge, IsSimple, origin, turn_at, vertex}
use Rattle.ring_laws.proofs.Vertices.{neighbour_is, neighbours_not_on_ray, beside_differs, beside_next, edges_at, vertex_beside}
use Rattle.meshes.proofs.Parts.{one_vertex, shared_of, vertex_is_end, end_of_side, parted, side_numbers, paved}
use Rattle.meshes.proofs.Sides.{edge_of_piece, edge_or_not, length_points, vertex_of_piece, ring_edge_is}
use Rattle.meshes.specs.Prelude.{FitsPiece, HasSide, IsPieceEdge, piece_points, tri_at}
use Rattle.meshes.specs.declared.tri.Tri.{Tri}
use Rattle.funnels.specs.Fanned.{turning}

module _ (corners : List Point) (piece : List ℕ) (tris : List Tri) (fits : FitsPiece corners piece tris) where
  -- a vertex on a side of a triangle is an end of the side
  pub end_of_its_side : (k i j x : ℕ) → k < length tris → HasSide (tri_at tris k) i j → Contains piece x
      → On (whole (vertex corners x)) (whole (vertex corners i)) (whole (vertex corners j)) → (x ≡ i) ⊎ (x ≡ j)
  end_of_its_side k i j x within has contains on =
      let ends = side_numbers corners piece tris (paved fits) k i j within (inl has) in
      elim (edge_or_not piece i j) [
        | inl outer ↦
            let e = edge (vertex corners i) (vertex corners j) in
            elim (vertex_is_end corners piece tris (paved fits) x contains e (edge_of_piece corners piece i j outer) on) [
              | inl same ↦ inl (one_vertex corners piece tris (paved fits) x i contains ends.0 (sym same))
              | inr same ↦ inr (one_vertex corners piece tris (paved fits) x j contains ends.1 (sym same))
            ]
        | inr inner ↦
            let (l, two) = fits.inner_sides i j k within has inner in
            let s = shared_of corners piece tris (paved fits) i j k l two two.in_list two.other_in_list in
            let p = parted corners piece tris (paved fits) i j k l s in
            end_of_side corners piece tris (paved fits) i j k l s p.first p.second p.covered x contains on
      ]

-- the ring goes from corner i to corner j; or, on the other side, in the other direction
abbrev pub IsRingStep : Bool → List Point → ℕ → ℕ → Type 0
IsRingStep true corners i j = IsPieceEdge (range_with_len 0 (length corners)) i j
IsRingStep false corners i j = IsPieceEdge (range_with_len 0 (length corners)) j i

-- ---- edges

-- where an edge goes from number i to number j, vertex j is the one after vertex i,
pub step_vertex : (ring : List Point) (i j : ℕ) → IsPieceEdge (range_with_len 0 (length ring)) i j → vertex ring (i + 1) ≡ vertex ring j
step_vertex ring i j e =
    let (within, is) = ring_edge_is (length ring) i j e in
    let next : (i + 1) % length ring < length ring = mod-lt (i + 1) (omega (arith, within)) in
    ap (λ k. slice_index_or ring k origin) (sym (ap (λ k. k % length ring) is ∙ mod-eq_of_lt next))

-- and they are neighbours
pub step_neighbours : (ring : List Point) (i j : ℕ) → IsPieceEdge (range_with_len 0 (length ring)) i j
    → AreNeighbours ring (vertex ring i) (vertex ring j) × AreNeighbours ring (vertex ring j) (vertex ring i)
step_neighbours ring i j e =
    let within = (ring_edge_is (length ring) i j e).0 in
    let next = step_vertex ring i j e in (
      record { i = i; in_ring = within; ends = inl (refl, next) },
      record { i = i; in_ring = within; ends = inr (refl, next) },
    )

-- ---- neighbours on one ray

-- two neighbours of a vertex on one ray are one
pub one_on_ray : (ring : List Point) → IsSimple ring → 3 ≤ length ring → (r : ℕ) → r < length ring → (u w : Point)
    → AreNeighbours ring (vertex ring r) u → AreNeighbours ring (vertex ring r) w
    → On (whole u) (whole (vertex ring r)) (whole w) ⊎ On (whole w) (whole (vertex ring r)) (whole u) → u ≡ w
one_on_ray ring simple three r h u w n m ray =
    let v = vertex ring r in
    let ray_of = λ (x y : Point). On (whole x) (whole v) (whole y) ⊎ On (whole y) (whole v) (whole x) in
    elim (neighbour_is ring simple three r h u n) [
      | inl e ↦ elim (neighbour_is ring simple three r h w m) [
        | inl f ↦ e ∙ sym f
        | inr f ↦ absurd (neighbours_not_on_ray ring simple three r h (subst (λ x. ray_of x (vertex ring (r + 1))) e (subst (ray_of u) f ray)))
      ]
      | inr e ↦ elim (neighbour_is ring simple three r h w m) [
        | inl f ↦
            let back = subst (λ x. ray_of x (vertex ring (r + 1))) f (subst (ray_of w) e (elim ray [ inl on ↦ inr on | inr on ↦ inl on ])) in
            absurd (neighbours_not_on_ray ring simple three r h back)
        | inr f ↦ e ∙ sym f
      ]
    ]

module _ (ring : List Point) (simple : IsSimple ring) (three : 3 ≤ length ring) (r : ℕ) (h : r < length ring) where
  -- the vertex to which the ring goes from this one, on either side, is the one beside it,
  beside_is : (side : Bool) (t : ℕ) → IsRingStep side ring r t → vertex_beside side ring r ≡ vertex ring t
  beside_is true t step = step_vertex ring r t step
  beside_is false t step =
      let next = step_vertex ring t r step in
      let at = edges_at ring (apart_of_simple ring simple) three r h in
      elim (at.only _ (has_edge_at ring t (ring_edge_is (length ring) t r step).0) (inr next)) [
        | inl e ↦ ap (λ (e : Edge). e.from) e
        | inr e ↦ absurd (beside_differs ring simple three r h true (ap (λ (e : Edge). e.to) e ∙ next))
      ]

  -- which is not the one on the other side,
  others_differ : (side : Bool) → ¬ (vertex_beside (not side) ring r ≡ vertex_beside side ring r)
  others_differ true e = (edges_at ring (apart_of_simple ring simple) three r h).differ e
  others_differ false e = (edges_at ring (apart_of_simple ring simple) three r h).differ (sym e)

  -- and from it to that one the ring turns
  turn_between : (side : Bool) → turning side (vertex ring r) (whole (vertex_beside side ring r)) (whole (vertex_beside (not side) ring r))
      ≡ turn_at ring r
  turn_between true = determinant_shift (whole (vertex ring (r + (length ring - 1)))) (whole (vertex ring r)) (whole (vertex ring (r + 1)))
  turn_between false =
      sym (determinant_swap_first (whole (vertex ring r)) (whole (vertex ring (r + (length ring - 1)))) (whole (vertex ring (r + 1))))

  -- so where the other neighbour is not behind the edge, the turn is not to the right
  pub step_turn : (side : Bool) (t : ℕ) → IsRingStep side ring r t
      → ((u : Point) → AreNeighbours ring (vertex ring r) u → ¬ (u ≡ vertex ring t)
      → pos 0 ≤ℤ turning side (vertex ring r) (whole (vertex ring t)) (whole u)) → pos 0 ≤ℤ turn_at ring r
  step_turn side t step others =
      let is = beside_is side t step in
      let other = vertex_beside (not side) ring r in
      subst (λ n. pos 0 ≤ℤ n) (turn_between side)
      (subst (λ x. pos 0 ≤ℤ turning side (vertex ring r) (whole x) (whole other)) (sym is)
      (others other (beside_next ring simple three r h (not side)) (λ e. others_differ side (e ∙ sym is))))
