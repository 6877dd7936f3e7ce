-- A ring read from another vertex on: its edges, winding numbers and area are the same.
use Rattle.std.proofs.Common.{◌≡◌, inl, inr, refl, sym, subst, ap, ◌∙◌, ℕ, ◌+◌, ◌-◌, ◌%◌, ◌<◌, ◌≤◌, arith, List, [], ◌∷◌, ◌++◌, length, get_or}
use Rattle.std.proofs.Math.Nat.{add-mod_left}
use Rattle.std.proofs.lemmas.Bool.{cases_lt}
use Rattle.std.proofs.lemmas.Int.{ints}
use Rattle.std.proofs.lemmas.List.{append-nil, get_or-append-add, get_or-append_right, get_or_append_left, length-append}
use Rattle.plane.specs.Prelude.{determinant, Point, Triple, whole}
use Rattle.rings.proofs.Crossings.{crossings-append, winding-append}
use Rattle.rings.proofs.Turned.{swept-append}
use Rattle.rings.proofs.Vertices.{distinct_swapped, distinct_vertices, vertices_differ, growth-append, has_swapped, on_some_among, vertex_in_range, edges_along_append}
use Rattle.rings.specs.Apart.{IsApartRing}
use Rattle.rings.specs.Prelude.{crossings, doubled_area, Edge, edges_along, edges_of, HasEdge, IsClosed, IsIn, IsOnSome, origin, swept}
use Rattle.rings.specs.Prelude.{turn_at, vertex, winding}

-- ---- two lists of edges in both orders

module _ (es fs : List Edge) where
  -- they have the same winding numbers,
  pub winding_swapped : (x : Triple) → winding (es ++ fs) x ≡ winding (fs ++ es) x
  winding_swapped x = omega (arith, ints, winding-append x es fs, winding-append x fs es)

  -- the same area,
  pub swept_swapped : swept (es ++ fs) ≡ swept (fs ++ es)
  swept_swapped = omega (arith, ints, swept-append es fs, swept-append fs es)

  -- the same number of crossings,
  crossings_swapped : (x : Triple) → crossings (es ++ fs) x ≡ crossings (fs ++ es) x
  crossings_swapped x = omega (arith, crossings-append x es fs, crossings-append x fs es)

  -- and the same points
  pub on_some_swapped : (x : Triple) → IsOnSome (es ++ fs) x → IsOnSome (fs ++ es) x
  on_some_swapped x = on_some_among x (es ++ fs) (fs ++ es) (λ e. has_swapped e es fs)

  -- they are closed together
  pub closed_swapped : IsClosed (es ++ fs) → IsClosed (fs ++ es)
  closed_swapped closed g = omega (arith, ints, growth-append g es fs, growth-append g fs es, closed g)

-- ---- edges

-- the edges of a ring and of the rotated ring, as two lists in both orders
record InTwoOrders (ps qs : List Point) : Type 0 where
  pub first : List Edge
  pub second : List Edge
  pub are : edges_of (ps ++ qs) ≡ first ++ second
  pub rotated : edges_of (qs ++ ps) ≡ second ++ first

-- there are such lists
in_two_orders : (ps qs : List Point) → InTwoOrders ps qs
in_two_orders [] qs = record {
  first = [];
  second = edges_of qs;
  are = refl;
  rotated = ap edges_of (append-nil qs) ∙ sym (append-nil (edges_of qs));
}
in_two_orders (a ∷ ps) [] = record {
  first = edges_of (a ∷ ps);
  second = [];
  are = ap edges_of (append-nil (a ∷ ps)) ∙ sym (append-nil (edges_of (a ∷ ps)));
  rotated = refl;
}
in_two_orders (a ∷ ps) (b ∷ qs) = record {
  first = edges_along a ps b;
  second = edges_along b qs a;
  are = edges_along_append a ps b qs a;
  rotated = edges_along_append b qs a ps b;
}

module _ (ps qs : List Point) where
  -- each edge of a ring is an edge of the rotated ring
  pub has_edge_rotated : (e : Edge) → HasEdge (edges_of (ps ++ qs)) e → HasEdge (edges_of (qs ++ ps)) e
  has_edge_rotated e h =
      let orders = in_two_orders ps qs in
      subst (λ es. HasEdge es e) (sym orders.rotated)
      (has_swapped e orders.first orders.second (subst (λ es. HasEdge es e) orders.are h))

  -- so each point on some edge of it is on one of the rotated ring
  pub on_some_rotated : (x : Triple) → IsOnSome (edges_of (ps ++ qs)) x → IsOnSome (edges_of (qs ++ ps)) x
  on_some_rotated x = on_some_among x (edges_of (ps ++ qs)) (edges_of (qs ++ ps)) has_edge_rotated

  -- the winding numbers are the same
  pub winding_rotated : (x : Triple) → winding (edges_of (qs ++ ps)) x ≡ winding (edges_of (ps ++ qs)) x
  winding_rotated x =
      let orders = in_two_orders ps qs in
      ap (λ es. winding es x) orders.rotated
      ∙ winding_swapped orders.second orders.first x
      ∙ ap (λ es. winding es x) (sym orders.are)

  -- so are the points in the ring
  pub in_rotated : (x : Triple) → IsIn (ps ++ qs) x → IsIn (qs ++ ps) x
  in_rotated x (inl on) = inl (on_some_rotated x on)
  in_rotated x (inr odd) =
      let orders = in_two_orders ps qs in
      let same : crossings (edges_of (qs ++ ps)) x ≡ crossings (edges_of (ps ++ qs)) x =
      ap (λ es. crossings es x) orders.rotated
      ∙ crossings_swapped orders.second orders.first x
      ∙ ap (λ es. crossings es x) (sym orders.are) in
      inr (ap (λ n. n % 2) same ∙ odd)

  -- and the area
  pub area_rotated : doubled_area (qs ++ ps) ≡ doubled_area (ps ++ qs)
  area_rotated =
      let orders = in_two_orders ps qs in
      ap swept orders.rotated ∙ swept_swapped orders.second orders.first ∙ ap swept (sym orders.are)

  -- and the length
  pub length_rotated : length (qs ++ ps) ≡ length (ps ++ qs)
  length_rotated = omega (arith, length-append ps qs, length-append qs ps)

-- the rotated ring is apart where the ring is
pub apart_rotated : (ps qs : List Point) → IsApartRing (ps ++ qs) → IsApartRing (qs ++ ps)
apart_rotated ps qs h = record {
  distinct = vertices_differ (qs ++ ps) (distinct_swapped ps qs (distinct_vertices (ps ++ qs) h.distinct));
  apart = λ e f has_e has_f. h.apart e f (has_edge_rotated qs ps e has_e) (has_edge_rotated qs ps f has_f);
}

-- ---- vertices

module _ (ps qs : List Point) where
  -- vertex j of the rotated ring is vertex j after the first part
  pub vertex_rotated : (j : ℕ) → j < length (qs ++ ps) → vertex (qs ++ ps) j ≡ vertex (ps ++ qs) (length ps + j)
  vertex_rotated j h = vertex_in_range (qs ++ ps) j origin h ∙ elim (cases_lt j (length qs)) [
    | inl less ↦
        get_or_append_left qs ps origin j less
        ∙ sym (get_or-append-add ps qs j origin)
        ∙ sym (vertex_in_range (ps ++ qs) (length ps + j) origin (omega (arith, length-append ps qs)))
    | inr more ↦
        let sizes : (length ps + length qs ≡ length (ps ++ qs)) × (length qs + length ps ≡ length (qs ++ ps)) =
        (sym (length-append ps qs), sym (length-append qs ps)) in
        let past : length ps + j ≡ length (ps ++ qs) + (j - length qs) = omega (arith, sizes.0) in
        get_or-append_right qs ps (length qs) j origin refl more
        ∙ sym (get_or_append_left ps qs origin (j - length qs) (omega (arith, sizes.1)))
        ∙ sym (vertex_in_range (ps ++ qs) (j - length qs) origin (omega (arith, sizes.0, sizes.1)))
        ∙ ap (λ k. get_or (ps ++ qs) k origin) (sym (ap (λ k. k % length (ps ++ qs)) past ∙ add-mod_left (length (ps ++ qs)) (j - length qs)))
  ]

  -- so its first turn is the turn at that vertex
  pub turn_rotated : 2 ≤ length (ps ++ qs) → turn_at (qs ++ ps) 0 ≡ turn_at (ps ++ qs) (length ps)
  turn_rotated some =
      let n : length (qs ++ ps) ≡ length (ps ++ qs) = length_rotated ps qs in
      let before : vertex (qs ++ ps) (0 + (length (qs ++ ps) - 1)) ≡ vertex (ps ++ qs) (length ps + (length (ps ++ qs) - 1)) =
      vertex_rotated _ (omega arith) ∙ ap (vertex (ps ++ qs)) (omega arith) in
      let at : vertex (qs ++ ps) 0 ≡ vertex (ps ++ qs) (length ps) =
      vertex_rotated 0 (omega arith) ∙ ap (vertex (ps ++ qs)) (omega arith) in
      let after : vertex (qs ++ ps) (0 + 1) ≡ vertex (ps ++ qs) (length ps + 1) =
      vertex_rotated (0 + 1) (omega arith) in
      λ i. determinant (whole (before i)) (whole (at i)) (whole (after i))
