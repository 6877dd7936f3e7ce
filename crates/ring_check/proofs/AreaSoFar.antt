-- The area of a ring, edge by edge.
use Rattle.std.proofs.Common.{◌≡◌, ◌∙◌, sym, ap, ℕ, ◌+◌, ◌-◌, ◌*◌, ◌^◌, ◌<◌, ◌≤◌, FitsSigned, w64, ℤ, ◌+ℤ◌, ◌-ℤ◌, ◌*ℤ◌, List, drop, length, arith}
use Rattle.std.proofs.lemmas.Int.{ints, to_z-of_z}
use Rattle.std.proofs.lemmas.List.{drop_all, drop_more, get_or_read}
use Rattle.std.specs.Prelude.{slice_index_or, unsigned_abs}
use Rattle.plane.specs.Point.{Point}
use Rattle.rings.specs.Chain.{point_at}
use Rattle.rings.specs.Edge.{edges_along}
use Rattle.rings.specs.Orientation.{doubled_area, swept}
use Rattle.rings.specs.Ring.{origin}
use mir.Val.{of_z, to_z}

-- what the edges from vertex i - 1 on sweep out
abbrev pub rest : List Point → ℕ → ℤ
rest ring i = swept (edges_along (point_at ring (i - 1)) (drop i ring) (point_at ring 0))

-- what one edge does
abbrev pub swept_between : Point → Point → ℤ
swept_between p q = p.x *ℤ q.y -ℤ q.x *ℤ p.y

-- the edge from vertex i - 1 to vertex i, and then what is left from there
rest_more : (ring : List Point) (i : ℕ) → i < length ring → rest ring i ≡ swept_between (point_at ring (i - 1)) (point_at ring i) +ℤ rest ring (i + 1)
rest_more ring i within =
    let here : i ≡ i + 1 - 1 = omega arith in
    ap (λ ps. swept (edges_along (point_at ring (i - 1)) ps (point_at ring 0))) (drop_more ring i origin within)
    ∙ ap (λ j. swept_between (point_at ring (i - 1)) (point_at ring i) +ℤ swept (edges_along (point_at ring j) (drop (i + 1) ring) (point_at ring 0))) here

-- with it the area goes on
pub area_more : (ring : List Point) (i : ℕ) (area edge : ℤ) (p q : Point) → 0 < i → i < length ring
    → p ≡ slice_index_or ring (i - 1) p → q ≡ slice_index_or ring i q → edge ≡ swept_between p q
    → area +ℤ rest ring i ≡ doubled_area ring → (area +ℤ edge) +ℤ rest ring (i + 1) ≡ doubled_area ring
area_more ring i area edge p q some within at_p at_q is_edge so_far =
    let first = get_or_read ring (i - 1) p (omega arith) at_p origin in
    let second = get_or_read ring i q within at_q origin in
    let is : edge ≡ swept_between (point_at ring (i - 1)) (point_at ring i) = is_edge ∙ (λ k. swept_between (first k) (second k)) in
    omega (arith, ints, is, rest_more ring i within, so_far)

-- at last the edge back to the first vertex is left
pub rest_last : (ring : List Point) → rest ring (length ring) ≡ swept_between (point_at ring (length ring - 1)) (point_at ring 0)
rest_last ring =
    ap (λ ps. swept (edges_along (point_at ring (length ring - 1)) ps (point_at ring 0))) (drop_all (length ring) ring (omega arith))
    ∙ omega (arith, ints)

-- with it the area is whole
pub area_whole : (ring : List Point) (i : ℕ) (area edge : ℤ) (p q : Point) → 0 < length ring → i ≡ length ring
    → p ≡ slice_index_or ring (length ring - 1) p → q ≡ slice_index_or ring 0 q → edge ≡ swept_between p q
    → area +ℤ rest ring i ≡ doubled_area ring → area +ℤ edge ≡ doubled_area ring
area_whole ring i area edge p q some e at_p at_q is_edge so_far =
    let first = get_or_read ring (length ring - 1) p (omega arith) at_p origin in
    let second = get_or_read ring 0 q some at_q origin in
    let left = ap (rest ring) e ∙ rest_last ring ∙ (λ i. swept_between (sym first i) (sym second i)) in
    omega (arith, ints)

-- a number as it is read from a register
abbrev read : ℤ → ℤ
read z = to_z w64 (of_z w64 z)

module _ (area edge : ℤ) (i : ℕ) (so_far : unsigned_abs area ≤ 2 ^ 47 * i) (small : unsigned_abs edge < 2 ^ 47) where
  -- the area of one edge more is small,
  pub sum_small : unsigned_abs (area +ℤ edge) ≤ 2 ^ 47 * (i + 1)
  sum_small = omega (arith, ints, so_far, small)

  -- so it fits
  pub sum_fits : i < 2 ^ 16 → FitsSigned w64 (area +ℤ read edge)
  sum_fits few =
      let is = to_z-of_z w64 edge (omega (arith, ints, small)) in
      rw is (omega (arith, ints, so_far, small, few))

  -- and is computed as it is
  pub sum_read : i < 2 ^ 16 → read (area +ℤ read edge) ≡ area +ℤ edge
  sum_read few = to_z-of_z w64 _ (sum_fits few) ∙ ap (λ z. area +ℤ z) (to_z-of_z w64 edge (omega (arith, ints, small)))
