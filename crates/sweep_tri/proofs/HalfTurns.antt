-- A ring after a half turn of the plane: it is simple where the ring is, runs the same way round, and has the other lexicographic order;
-- and triangles that fit it fit the ring.
use Rattle.std.proofs.Common.{◌≡◌, inl, inr, refl, sym, subst, ap, ap₂, ◌∙◌, ℕ, ◌+◌, ◌-◌, ◌<◌, ◌≤◌, ◌%◌, ℤ, pos, ◌+ℤ◌, ◌-ℤ◌, ◌*ℤ◌, ◌<ℤ◌, neg_ℤ}
use Rattle.std.proofs.Common.{List, [], ◌∷◌, length, reverse, arith}
use Rattle.std.proofs.lemmas.Int.{ints}
use Rattle.std.proofs.lemmas.List.{get_or-reverse, length-map, length-reverse}
use Rattle.std.proofs.Math.ListN.{get_or-map}
use Rattle.std.specs.List.{Contains, range_with_len}
use Rattle.std.specs.Prelude.{◌↔◌, slice_index, slice_index_or}
use Rattle.integer_algebra.proofs.Polynomial.{var, neg, ◌⊕◌, ◌⊖◌, ◌⊗◌, same_value}
use Rattle.plane.proofs.Turns.{parts, determinant as det, written_determinant}
use Rattle.plane.specs.Order.{IsBefore}
use Rattle.plane.specs.Point.{IsSame, Point, Triple, whole}
use Rattle.plane.specs.Segment.{On, part_of_way}
use Rattle.plane.specs.Turn.{determinant}
use Rattle.rings.specs.Edge.{edges_along}
use Rattle.rings.specs.Orientation.{IsCounterclockwise, doubled_area, swept}
use Rattle.rings.specs.Ring.{IsOnEdge, origin, vertex}
use Rattle.rings.specs.Simple.{Clash, HasEqualEnds, IsSimple}
use Rattle.exact_plane.specs.Spot.{point_named}
use Rattle.exact_plane.specs.declared.turns.Spot.{Spot}
use Rattle.exact_plane.specs.declared.turns.Spot.TheVariants.{Corner, Goal, Start}
use Rattle.meshes.proofs.Boundaries.{fits_bounded, sides_cancel}
use Rattle.meshes.proofs.Triangulations.{ring_is_piece}
use Rattle.meshes.specs.Boundary.{HaveBoundary}
use Rattle.meshes.specs.Fits.{Fits, IsCounterclockwiseTri}
use Rattle.meshes.specs.Side.{tri_at}
use Rattle.meshes.specs.declared.tri.Tri.{Tri}
use Rattle.ring_check.specs.Order.{IsInOrder}
use Rattle.sweep_tri.specs.HalfTurn.{all_half_turned, half_turned}

-- ---- points

-- two half turns are none
opposite_twice : (x : ℤ) → neg_ℤ (neg_ℤ x) ≡ x
opposite_twice x = omega (arith, ints)

turned_twice : (p : Point) → half_turned (half_turned p) ≡ p
turned_twice p = ap₂ (λ (x y : ℤ). record { x = x; y = y }) (opposite_twice p.x) (opposite_twice p.y)

-- so points that come to one are one
pub same_before : (p q : Point) → half_turned p ≡ half_turned q → p ≡ q
same_before p q same = sym (turned_twice p) ∙ ap half_turned same ∙ turned_twice q

-- the point with a name
pub named_turned : (corners : List Point) (start goal : Point) (spot : Spot)
    → point_named (all_half_turned corners) (half_turned start) (half_turned goal) spot ≡ half_turned (point_named corners start goal spot)
named_turned corners start goal (Corner i) = get_or-map half_turned corners i origin
named_turned corners start goal Start = refl
named_turned corners start goal Goal = refl

-- ---- rational points

-- the opposite one
abbrev opposite : Triple → Triple
opposite t = record { X = neg_ℤ t.X; Y = neg_ℤ t.Y; W = t.W }

-- determinants stay
pub determinant_turned : (a b c : Triple) → determinant (opposite a) (opposite b) (opposite c) ≡ determinant a b c
determinant_turned a b c =
    same_value (written_determinant (neg (var 0)) (neg (var 1)) (var 2) (neg (var 3)) (neg (var 4)) (var 5) (neg (var 6)) (neg (var 7)) (var 8))
    (det 0 1 2) (parts (a ∷ b ∷ c ∷ []) []) refl

-- in an equation of products the sign goes to the other side
sign_moved : (x w y v : ℤ) → (neg_ℤ x *ℤ w ≡ y *ℤ v) ↔ (x *ℤ w ≡ neg_ℤ y *ℤ v)
sign_moved x w y v =
    let signed = λ (a b : ℤ). same_value (neg (var 0) ⊗ var 1) (neg (var 0 ⊗ var 1)) (a ∷ b ∷ []) refl in
    let left : neg_ℤ x *ℤ w ≡ neg_ℤ (x *ℤ w) = signed x w in
    let right : neg_ℤ y *ℤ v ≡ neg_ℤ (y *ℤ v) = signed y v in
    (λ same. omega (arith, ints, same, left, right), λ same. omega (arith, ints, same, left, right))

-- a point is opposite to another one where that is opposite to it
same_turned : (p q : Triple) → IsSame (opposite p) q ↔ IsSame p (opposite q)
same_turned p q = (
  λ same. record {
    same_x = (sign_moved p.X q.W q.X p.W).0 same.same_x;
    same_y = (sign_moved p.Y q.W q.Y p.W).0 same.same_y;
  },
  λ same. record {
    same_x = (sign_moved p.X q.W q.X p.W).1 same.same_x;
    same_y = (sign_moved p.Y q.W q.Y p.W).1 same.same_y;
  },
)

-- the part of the way between two opposite points
part_turned : (i j : ℕ) (a b : Triple) → part_of_way i j (opposite a) (opposite b) ≡ opposite (part_of_way i j a b)
part_turned i j a b =
    let coordinate = λ (k l x u y w : ℤ). same_value (var 0 ⊗ neg (var 2) ⊗ var 3 ⊕ var 1 ⊗ neg (var 4) ⊗ var 5)
    (neg (var 0 ⊗ var 2 ⊗ var 3 ⊕ var 1 ⊗ var 4 ⊗ var 5)) (k ∷ l ∷ x ∷ u ∷ y ∷ w ∷ []) refl in
    ap₂ (λ (x y : ℤ). record { X = x; Y = y; W = (pos j *ℤ a.W) *ℤ b.W })
    (coordinate (pos (j - i)) (pos i) a.X b.W b.X a.W) (coordinate (pos (j - i)) (pos i) a.Y b.W b.Y a.W)

-- a point on a segment
on_turned : (p a b : Triple) → On p (opposite a) (opposite b) → On (opposite p) a b
on_turned p a b on = record {
  i = on.i;
  j = on.j;
  positive = on.positive;
  within = on.within;
  same = (same_turned p (part_of_way on.i on.j a b)).1 (subst (IsSame p) (part_turned on.i on.j a b) on.same);
}

-- ---- rings

vertex_turned : (ring : List Point) (i : ℕ) → vertex (all_half_turned ring) i ≡ half_turned (vertex ring i)
vertex_turned ring i =
    ap (λ n. slice_index_or (all_half_turned ring) (i % n) origin) (length-map ring half_turned)
    ∙ get_or-map half_turned ring (i % length ring) origin

-- a point on an edge
on_edge_turned : (ring : List Point) (i : ℕ) (p : Triple) → IsOnEdge (all_half_turned ring) i p → IsOnEdge ring i (opposite p)
on_edge_turned ring i p on =
    on_turned p (whole (vertex ring i)) (whole (vertex ring (i + 1)))
    (rw (vertex_turned ring i, vertex_turned ring (i + 1)) at on)

equal_ends_turned : (ring : List Point) (i : ℕ) → HasEqualEnds (all_half_turned ring) i → HasEqualEnds ring i
equal_ends_turned ring i same =
    same_before (vertex ring i) (vertex ring (i + 1)) (sym (vertex_turned ring i) ∙ same ∙ vertex_turned ring (i + 1))

-- a vertex where the opposite one was
at_vertex_turned : (ring : List Point) (k : ℕ) (p : Triple) → IsSame (opposite p) (whole (vertex ring k)) → IsSame p (whole (vertex (all_half_turned ring) k))
at_vertex_turned ring k p same =
    subst (λ (v : Point). IsSame p (whole v)) (sym (vertex_turned ring k)) ((same_turned p (whole (vertex ring k))).0 same)

clash_turned : (ring : List Point) (i j : ℕ) → Clash (all_half_turned ring) i j → Clash ring i j
clash_turned ring i j (inl same) = inl (equal_ends_turned ring i same)
clash_turned ring i j (inr (inl same)) = inr (inl (equal_ends_turned ring j same))
clash_turned ring i j (inr (inr shared)) = inr (inr record {
  point = opposite shared.point;
  rational = shared.rational;
  on_first = on_edge_turned ring i shared.point shared.on_first;
  on_second = on_edge_turned ring j shared.point shared.on_second;
  not_between = λ next same. shared.not_between next (at_vertex_turned ring j shared.point same);
  not_round = λ first last same. shared.not_round first (omega (arith, last, length-map ring half_turned)) (at_vertex_turned ring 0 shared.point same);
})

-- a simple ring stays simple
pub simple_half_turned : (ring : List Point) → IsSimple ring → IsSimple (all_half_turned ring)
simple_half_turned ring simple i j less in_ring clash = simple i j less (omega (arith, in_ring, length-map ring half_turned)) (clash_turned ring i j clash)

-- what an edge sweeps out stays
edge_turned : (a b c d : ℤ) → (neg_ℤ a *ℤ neg_ℤ d) -ℤ (neg_ℤ c *ℤ neg_ℤ b) ≡ (a *ℤ d) -ℤ (c *ℤ b)
edge_turned a b c d =
    same_value (neg (var 0) ⊗ neg (var 3) ⊖ neg (var 2) ⊗ neg (var 1)) (var 0 ⊗ var 3 ⊖ var 2 ⊗ var 1) (a ∷ b ∷ c ∷ d ∷ []) refl

swept_turned : (v : Point) (ws : List Point) (last : Point)
    → swept (edges_along (half_turned v) (all_half_turned ws) (half_turned last)) ≡ swept (edges_along v ws last)
swept_turned v [] last = ap (λ z. z +ℤ pos 0) (edge_turned v.x v.y last.x last.y)
swept_turned v (w ∷ ws) last = ap₂ ◌+ℤ◌ (edge_turned v.x v.y w.x w.y) (swept_turned w ws last)

area_turned : (ring : List Point) → doubled_area (all_half_turned ring) ≡ doubled_area ring
area_turned [] = refl
area_turned (v ∷ vs) = swept_turned v vs v

-- so it runs the same way round
pub counterclockwise_half_turned : (ring : List Point) → IsCounterclockwise ring → IsCounterclockwise (all_half_turned ring)
counterclockwise_half_turned ring way = subst (λ z. pos 0 <ℤ z) (sym (area_turned ring)) way

-- ---- the lexicographic order

-- it is the other one
before_turned : (p q : Point) → IsBefore p q → IsBefore (half_turned q) (half_turned p)
before_turned p q (inl less) = inl (omega (arith, ints, less))
before_turned p q (inr (same, less)) = inr (ap neg_ℤ (sym same), omega (arith, ints, less))

contains_reversed : (xs : List ℕ) (x : ℕ) → Contains xs x → Contains (reverse xs) x
contains_reversed xs x (i, in_list, is) = (
  length xs - 1 - i,
  omega (arith, in_list, length-reverse xs),
  get_or-reverse xs (length xs - 1 - i) x (omega (arith, in_list)) ∙ ap (λ k. slice_index_or xs k x) (omega (arith, in_list)) ∙ is,
)

pub in_order_half_turned : (ring : List Point) (order : List ℕ) → IsInOrder ring order → IsInOrder (all_half_turned ring) (reverse order)
in_order_half_turned ring order are = record {
  all = length-reverse order ∙ are.all ∙ sym (length-map ring half_turned);
  vertices = λ k d in_list.
      let below : k < length order = omega (arith, in_list, length-reverse order) in
      rw (get_or-reverse order k d below) (omega (arith, are.vertices (length order - 1 - k) d (omega (arith, below)), length-map ring half_turned));
  each = λ v below. contains_reversed order v (are.each v (omega (arith, below, length-map ring half_turned)));
  rises = λ k in_list.
      let below : k + 1 < length order = omega (arith, in_list, length-reverse order) in
      let i = length order - 1 - (k + 1) in
      let next : i + 1 ≡ length order - 1 - k = omega (arith, below) in
      let rises = rw next at (are.rises i (omega (arith, below))) in
      rw (
        get_or-reverse order k 0 (omega (arith, below)),
        get_or-reverse order (k + 1) 0 below,
        vertex_turned ring (slice_index order (length order - 1 - k)),
        vertex_turned ring (slice_index order i),
      )
      (before_turned (vertex ring (slice_index order i)) (vertex ring (slice_index order (length order - 1 - k))) rises);
}

-- ---- triangles

-- a counterclockwise one stays so
left_turned : (ring : List Point) (t : Tri) → IsCounterclockwiseTri (all_half_turned ring) t → IsCounterclockwiseTri ring t
left_turned ring t left =
    subst (λ z. pos 0 <ℤ z) (determinant_turned (whole (vertex ring t.a)) (whole (vertex ring t.b)) (whole (vertex ring t.c)))
    (rw (vertex_turned ring t.a, vertex_turned ring t.b, vertex_turned ring t.c) at left)

-- those that fit it fit the ring
pub fits_before : (ring : List Point) (tris : List Tri) → 3 ≤ length ring → IsSimple ring → IsCounterclockwise ring → Fits (all_half_turned ring) tris → Fits ring tris
fits_before ring tris some simple way fits =
    let as_many = length-map ring half_turned in
    let boundary : HaveBoundary (range_with_len 0 (length (all_half_turned ring))) tris = sides_cancel (all_half_turned ring) _ tris fits in
    fits_bounded ring (range_with_len 0 (length ring)) tris (ring_is_piece ring some simple way)
    (λ k in_list.
    let t = tri_at tris k in
    let is = fits.triangles k in_list in
    record {
      has_a = rw as_many at is.has_a;
      has_b = rw as_many at is.has_b;
      has_c = rw as_many at is.has_c;
      counterclockwise = left_turned ring t is.counterclockwise;
    }) (subst (λ n. HaveBoundary (range_with_len 0 n) tris) as_many boundary)
