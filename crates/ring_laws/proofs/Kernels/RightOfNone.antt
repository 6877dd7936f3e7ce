-- The kernel law: a rational point sees all of a simple ring that runs counterclockwise exactly if it is right of no edge.
-- A point that is right of no edge of a ring whose vertices are within the limit is in the square of the limit.
use Rattle.std.proofs.Common.{inl, inr, sym, subst, ℕ, ◌+◌, ◌%◌, ◌<◌, ◌≤◌, le_refl, pos, ◌≤ℤ◌, List, length, arith, ◌≡◌, ℤ, negsuc, ◌+ℤ◌}
use Rattle.std.proofs.Common.{◌*ℤ◌, ◌<ℤ◌}
use Rattle.std.proofs.Math.Nat.{mod-lt}
use Rattle.std.proofs.lemmas.Int.{ints}
use Rattle.integer_algebra.proofs.Laws.{mul_comm}
use Rattle.integer_algebra.proofs.SignSteps.{mean_not_negative, not_both, zero_not_negative, weak}
use Rattle.integer_algebra.proofs.Signs.{lt_or_le, mul_order}
use Rattle.plane.proofs.Nearness.{right_toward, toward, toward_is_point, toward_on}
use Rattle.plane.proofs.Points.{same_sym, same_trans, whole_is_point}
use Rattle.plane.proofs.Segments.{later_between, middle, middle_first, middle_is_point, middle_last, middle_on, on_first_end}
use Rattle.plane.proofs.Segments.{on_is_straight, on_last_end, on_nested, on_reversed, on_same_point}
use Rattle.plane.proofs.Turns.{combination_of, determinant_along}
use Rattle.plane.specs.Prelude.{determinant, IsInBounds, IsInLimit, IsPoint, IsRight, IsSame, On, Point, Triple, whole}
use Rattle.plane.specs.Square.{IsInSquare}
use Rattle.plane.specs.declared.limits.TheConstants.{MAX_COORDINATE}
use Rattle.rings.proofs.Crossings.{in_law, misses_swapped}
use Rattle.rings.proofs.Inside.{in_or_not, IsLessFar, not_in_extreme}
use Rattle.rings.proofs.Simple.{apart_of_simple, proper_edges, same_or_not}
use Rattle.rings.proofs.Vertices.{FirstHit, edge_at, edge_number, edge_with, first_hit_or_misses, has_edge_at, misses_eventually}
use Rattle.rings.proofs.Vertices.{on_some_from, vertex_mod, all_ends_from}
use Rattle.rings.specs.Prelude.{Edge, edges_of, HasEdge, IsCounterclockwise, IsIn, IsOnSome, IsSimple, Sees, vertex}
use Rattle.rings.specs.Kernel.{IsInKernel, IsRightOfNoEdge}
use Rattle.rings.specs.Winding.{WindsUpTo}
use Rattle.ring_laws.proofs.Kernels.InnerHits.{MeetsOnlyAt, right_of_edge}
use Rattle.ring_laws.proofs.Kernels.VertexHits.{RightOfEdgeAt, alone_at_hit, right_at}
use Rattle.ring_laws.proofs.Simple.{runs_round}
use Rattle.ring_laws.proofs.Triangles.{off_others}
use Rattle.ring_laws.proofs.Vertices.{IsStrictlyOn, rest_of, right_is_out}
use Rattle.ring_laws.specs.Laws.{KernelLaw}

module _ (ring : List Point) (simple : IsSimple ring) (three : 3 ≤ length ring) (winds : WindsUpTo (pos 1) (edges_of ring)) where
  -- ---- a point out of the ring is right of an edge where it hits the edges

  module _ (y : Triple) (at_y : IsPoint y) (out : ¬ IsIn ring y) (x : Triple) (at_x : IsPoint x)
      (alone : MeetsOnlyAt (edges_of ring) y x) where
    -- at a vertex,
    hit_vertex : (r : ℕ) → r < length ring → IsSame x (whole (vertex ring r)) → RightOfEdgeAt ring y x
    hit_vertex r within same =
        let v = whole (vertex ring r) in
        let at_v = whole_is_point (vertex ring r) in
        let k = right_at ring simple three winds r within y at_y out (λ z at_z way on.
        let way_x = on_nested z y v y x at_z at_y at_v at_y at_x (on_first_end y x) (on_same_point at_x same (on_last_end y x)) way in
        same_trans at_x (alone z at_z way_x on) same) in
        record { edge = k.edge; has = k.has; on = on_same_point at_v (same_sym same) k.on; right = k.right }

    -- and anywhere else
    hit : IsOnSome (edges_of ring) x → RightOfEdgeAt ring y x
    hit on_some =
        let (e, has, on) = edge_with x (edges_of ring) on_some in
        let (i, within, is) = edge_number ring e has in
        elim (same_or_not x (whole e.from)) [
          | inl same ↦ hit_vertex i within (subst (λ (g : Edge). IsSame x (whole g.from)) (sym is) same)
          | inr not_from ↦ elim (same_or_not x (whole e.to)) [
            | inl same ↦
                let at_next = subst (λ (g : Edge). IsSame x (whole g.to)) (sym is) same in
                hit_vertex ((i + 1) % length ring) (mod-lt (i + 1) (omega arith))
                (subst (λ (v : Point). IsSame x (whole v)) (sym (vertex_mod ring (i + 1))) at_next)
            | inr not_to ↦ record {
              edge = e;
              has = has;
              on = on;
              right = right_of_edge ring (apart_of_simple ring simple) (omega arith) winds y at_y out e has x at_x
                  (record { on = on; not_from = not_from; not_to = not_to }) alone;
            }
          ]
        ]

  -- ---- a point that is right of no edge

  module _ (p : Triple) (at_p : IsPoint p) (none : IsRightOfNoEdge ring p) where
    -- is right of none in the list,
    not_right : (e : Edge) → HasEdge (edges_of ring) e → pos 0 ≤ℤ determinant (whole e.from) (whole e.to) p
    not_right e has =
        let (i, within, is) = edge_number ring e has in
        elim (lt_or_le (determinant (whole e.from) (whole e.to) p) (pos 0)) [
          | inl right ↦ absurd (none i within (subst (λ (g : Edge). IsRight (whole g.from) (whole g.to) p) (sym is) right))
          | inr not ↦ not
        ]

    -- so no way from it to a point of the ring hits an edge from outside,
    no_hit : (z : Triple) → IsPoint z → (y : Triple) → IsPoint y → On y p z → ¬ IsIn ring y → ¬ FirstHit y z (edges_of ring)
    no_hit z at_z y at_y on out h =
        let x = h.point in
        let at_x = h.rational in
        let k = hit y at_y out x at_x (alone_at_hit y z at_y at_z (edges_of ring) h) h.on_edge in
        let a = whole k.edge.from in
        let b = whole k.edge.to in
        let beyond = later_between x z y p at_x at_z at_y at_p (on_reversed x y z h.on_way) (on_reversed y p z on) in
        let c = combination_of y x p at_y at_x at_p beyond in
        let line = on_is_straight x a b at_x (whole_is_point k.edge.from) (whole_is_point k.edge.to) k.on in
        not_both k.right (mean_not_negative c.k c.l c.m _ _ _ c.k_positive c.l_nonnegative c.m_nonnegative
        (determinant_along y x p c a b) (zero_not_negative line) (not_right k.edge k.has))

    -- and it sees each point of the ring
    sees : (z : Triple) → IsPoint z → IsIn ring z → Sees ring p z
    sees z at_z inside y at_y on = elim (in_or_not ring y at_y) [
      | inl h ↦ h
      | inr out ↦ elim (first_hit_or_misses y z at_y at_z (edges_of ring)) [
        | inl h ↦ absurd (no_hit z at_z y at_y on out h)
        | inr misses ↦ absurd (out (in_law ring z y at_z at_y (misses_swapped y z (edges_of ring) misses) inside))
      ]
    ]

    -- it is in the kernel
    right_of_none_in_kernel : IsInKernel ring p
    right_of_none_in_kernel =
        let v = whole (vertex ring 0) in
        let at_v = whole_is_point (vertex ring 0) in
        let on = on_some_from v ring 0 (omega arith) (on_first_end v (whole (vertex ring 1))) in
        record { inside = sees v at_v (inl on) p at_p (on_first_end p v); sees_all = sees }

  -- ---- a point of the kernel

  -- is right of no edge: near its middle the way to the point would leave the ring
  kernel_right_of_none : (p : Triple) → IsPoint p → IsInKernel ring p → IsRightOfNoEdge ring p
  kernel_right_of_none p at_p kernel i within right =
      let apart = apart_of_simple ring simple in
      let e = edge_at ring i in
      let has = has_edge_at ring i within in
      let proper = proper_edges ring apart (omega arith) e has in
      let a = whole e.from in
      let b = whole e.to in
      let m = middle e.from e.to in
      let at_m = middle_is_point e.from e.to in
      let strict : IsStrictlyOn e m = record {
        on = middle_on e.from e.to;
        not_from = λ s. proper (middle_first e.from e.to s);
        not_to = λ s. proper (middle_last e.from e.to s);
      } in
      let near = misses_eventually m p at_m at_p (rest_of ring apart e has)
      (off_others ring apart e has m at_m strict.on strict.not_from strict.not_to) in
      let n : ℕ = near.start in
      let q = toward m p n in
      let at_q = toward_is_point m p at_m at_p n in
      let line = on_is_straight m a b at_m (whole_is_point e.from) (whole_is_point e.to) strict.on in
      let out = right_is_out ring apart (omega arith) winds e has m q at_m at_q strict (right_toward a b m p line right n)
      (near.from_start n (le_refl n)) in
      let seen = kernel.sees_all m at_m (inl (on_some_from m ring i within strict.on)) in
      out (seen q at_q (on_reversed q m p (toward_on m p at_m at_p n)))

-- the winding numbers of a simple ring that runs counterclockwise
pub counterclockwise_winds : (ring : List Point) → 3 ≤ length ring → IsSimple ring → IsCounterclockwise ring
    → WindsUpTo (pos 1) (edges_of ring)
counterclockwise_winds ring three simple way = elim (runs_round ring three (apart_of_simple ring simple)) [
  | inl h ↦ h.windings
  | inr h ↦ let other = h.area in absurd (omega (arith, ints, way, other))
]

-- the law
pub kernel_law : KernelLaw
kernel_law ring three simple way p at_p =
    let winds = counterclockwise_winds ring three simple way in
    (kernel_right_of_none ring simple three winds p at_p, right_of_none_in_kernel ring simple three winds p at_p)

-- what is at most m is less far than what is farther than m
less_far : (α β X Y W x y m : ℤ) → pos 0 <ℤ W → (α *ℤ x +ℤ β *ℤ y) ≤ℤ m → (m *ℤ W) <ℤ (α *ℤ X +ℤ β *ℤ Y)
    → ((α *ℤ x +ℤ β *ℤ y) *ℤ W) <ℤ (α *ℤ X +ℤ β *ℤ Y)
less_far α β X Y W x y m hW h far =
    omega (arith, ints, mul_order (α *ℤ x +ℤ β *ℤ y) m W (weak hW) h, mul_comm W m, mul_comm W (α *ℤ x +ℤ β *ℤ y))

module _ (ring : List Point) (within : (i : ℕ) → i < length ring → IsInBounds (vertex ring i)) (p : Triple) (at_p : IsPoint p)
    (inside : IsIn ring p) where
  -- each end of an edge is a vertex
  of_vertices : (P : Point → Type 0) → ((i : ℕ) → i < length ring → P (vertex ring i)) → (e : Edge) → HasEdge (edges_of ring) e
      → P e.from × P e.to
  of_vertices P holds e has =
      let (i, below, is) = edge_number ring e has in (
        subst (λ (g : Edge). P g.from) is (holds i below),
        subst (λ (g : Edge). P g.to) is (subst P (vertex_mod ring (i + 1)) (holds ((i + 1) % length ring) (mod-lt (i + 1) (omega arith)))),
      )

  -- in a direction in which no vertex is farther than the limit, no point of the ring is
  not_far : (α β : ℤ) → ¬ ((α ≡ pos 0) × (β ≡ pos 0))
      → ((x y : ℤ) → IsInLimit x → IsInLimit y → (α *ℤ x +ℤ β *ℤ y) ≤ℤ pos MAX_COORDINATE)
      → (α *ℤ p.X +ℤ β *ℤ p.Y) ≤ℤ (pos MAX_COORDINATE *ℤ p.W)
  not_far α β some bound = elim (lt_or_le (pos MAX_COORDINATE *ℤ p.W) (α *ℤ p.X +ℤ β *ℤ p.Y)) [
    | inr h ↦ h
    | inl far ↦
        let ends = all_ends_from (IsLessFar α β p) (edges_of ring) (of_vertices (IsLessFar α β p) (λ i below.
        let size = within i below in
        let v = vertex ring i in
        less_far α β p.X p.Y p.W v.x v.y (pos MAX_COORDINATE) at_p (bound v.x v.y size.x_in_limit size.y_in_limit) far)) in
        absurd (not_in_extreme α β p at_p some ring ends inside)
  ]

  -- so a point of the ring is in the square
  in_square : IsInSquare p
  in_square =
      let left = not_far (negsuc 0) (pos 0) (λ h. let e = h.0 in omega (arith, ints)) (λ x y hx hy. omega (arith, ints)) in
      let right = not_far (pos 1) (pos 0) (λ h. let e = h.0 in omega (arith, ints)) (λ x y hx hy. omega (arith, ints)) in
      let below = not_far (pos 0) (negsuc 0) (λ h. let e = h.1 in omega (arith, ints)) (λ x y hx hy. omega (arith, ints)) in
      let above = not_far (pos 0) (pos 1) (λ h. let e = h.1 in omega (arith, ints)) (λ x y hx hy. omega (arith, ints)) in
      record {
        x_within = record { not_below = omega (arith, ints, left); not_above = omega (arith, ints, right) };
        y_within = record { not_below = omega (arith, ints, below); not_above = omega (arith, ints, above) };
      }

-- a point that is right of no edge of a simple ring that runs counterclockwise is in the square, where all vertices are
pub right_of_none_in_square : (ring : List Point) → 3 ≤ length ring → IsSimple ring → IsCounterclockwise ring
    → ((i : ℕ) → i < length ring → IsInBounds (vertex ring i)) → (p : Triple) → IsPoint p → IsRightOfNoEdge ring p → IsInSquare p
right_of_none_in_square ring three simple way within p at_p none =
    let kernel = (kernel_law ring three simple way p at_p).1 none in
    in_square ring within p at_p kernel.inside
