-- One more triangle that a search reaches, and the triangles at the sides of one.
use Rattle.std.proofs.Common.{◌≡◌, sym, ap, ◌∙◌, ℕ, ◌+◌, ◌<◌, ◌≤◌, ◌^◌, inl, inr, List, [], ◌∷◌, ◌++◌, length, map, arith}
use Rattle.std.proofs.Common.{None, get_or, length-append, replicate}
use Rattle.std.proofs.Math.ListN.{set, length-map, length-replicate, length-set}
use Rattle.std.proofs.lemmas.Bool.{cases_eq}
use Rattle.std.proofs.lemmas.List.{get_or-map, get_or-replicate, get_or-set_other, get_or-set_same}
use Rattle.std.proofs.lemmas.List.{get_or_append_left, get_or_push, get_or_read}
use Rattle.std.specs.Prelude.{Option, slice_index, slice_index_or}
use Rattle.meshes.specs.Mesh.{side_begin, side_end}
use Rattle.meshes.specs.Side.{HasSide, HasSidesOnce, tri_at}
use Rattle.meshes.specs.declared.tri.Tri.{Tri}
use Rattle.plane.proofs.Lists.{few_numbers}
use Rattle.tri_mesh.specs.Neighbours.{IsOwner, KeepsNeighbours}
use Rattle.tri_mesh.specs.Outward.{IsJoined, outward_at}
use Rattle.tri_mesh.specs.Search.{IsDone, IsGrown, IsReached, IsSearch, IsSideDone}
use Rattle.tri_mesh.specs.declared.outward.Outward.{Outward}

-- the triangles that were reached
abbrev pub numbers : List Outward → List ℕ
numbers order = map (λ (o : Outward). o.tri) order

-- the one at a place
pub number_at : (order : List Outward) (p d : ℕ) → p < length order → get_or (numbers order) p d ≡ (outward_at order p).tri
number_at order p d below = get_or-map (λ (o : Outward). o.tri) order p (record { tri = 0; toward = 0; side = 0 }) d below

-- where each triangle knows its place, none has two,
pub one_place : (order : List Outward) (places : List ℕ) → ((p : ℕ) → p < length order → slice_index places (outward_at order p).tri ≡ p)
    → (p q : ℕ) → p < length order → q < length order → (outward_at order p).tri ≡ (outward_at order q).tri → p ≡ q
one_place order places known p q p_below q_below same = sym (known p p_below) ∙ ap (λ k. slice_index places k) same ∙ known q q_below

-- so there are no more places than triangles
few_places : (order : List Outward) (places : List ℕ) (n : ℕ)
    → ((p : ℕ) → p < length order → slice_index places (outward_at order p).tri ≡ p)
    → ((p : ℕ) → p < length order → (outward_at order p).tri < n) → length order ≤ n
few_places order places n known in_list =
    let long : length (numbers order) ≡ length order = length-map order (λ (o : Outward). o.tri) in
    let few : length (numbers order) ≤ n = few_numbers (numbers order) n
    (λ i h. let below : i < length order = omega arith in rw (number_at order i 0 below) (in_list i below))
    (λ i j before h same.
    let i_below : i < length order = omega arith in
    let j_below : j < length order = omega arith in
    let one = one_place order places known i j i_below j_below (sym (number_at order i 0 i_below) ∙ same ∙ number_at order j 0 j_below) in
    omega arith) in
    omega arith

-- one change after another
pub grown_twice : (a b c : List Outward) → IsGrown a b → IsGrown b c → IsGrown a c
grown_twice a b c first second = record {
  longer = omega (arith, first.longer, second.longer);
  kept = λ p h. second.kept p (omega (arith, first.longer)) ∙ first.kept p h;
}

-- what was reached stays reached
pub stays_reached : (a b : List Outward) → IsGrown a b → (k : ℕ) → IsReached a k → IsReached b k
stays_reached a b grown k is = (is.0, omega (arith, grown.longer, is.1), ap (λ (o : Outward). o.tri) (grown.kept is.0 is.1) ∙ is.2)

-- a triangle that was reached is at its place
pub at_its_place : (tris : List Tri) (order : List Outward) (places : List ℕ) → IsSearch tris order places → (k : ℕ) → IsReached order k
    → (outward_at order (slice_index places k)).tri ≡ k
at_its_place tris order places s k is =
    let place : slice_index places k ≡ is.0 = ap (λ l. slice_index places l) (sym is.2) ∙ s.known is.0 is.1 in
    ap (λ p. (outward_at order p).tri) place ∙ is.2

module _ (tris : List Tri) (order : List Outward) (places : List ℕ) (s : IsSearch tris order places)
    (k place side : ℕ) (k_below : k < length tris)
    (new : ¬ IsReached order k) (place_below : place < length order) (in_row : side < 3)
    (shared : HasSide (tri_at tris (outward_at order place).tri) (side_end (tri_at tris k) side) (side_begin (tri_at tris k) side)) where
  abbrev more : List Outward
  more = order ++ record { tri = k; toward = place; side = side } ∷ []

  abbrev put : List ℕ
  put = set places k (length order)

  -- there is one place more
  length_more : length more ≡ length order + 1
  length_more = length-append order (record { tri = k; toward = place; side = side } ∷ [])

  -- the earlier places have what they had
  at_earlier : (p : ℕ) → p < length order → outward_at more p ≡ outward_at order p
  at_earlier p h = get_or_append_left order (record { tri = k; toward = place; side = side } ∷ [])
      (record { tri = 0; toward = 0; side = 0 }) p h

  -- the last place has the triangle
  at_last : (p : ℕ) → p ≡ length order → outward_at more p ≡ record { tri = k; toward = place; side = side }
  at_last p is = get_or_push order (record { tri = k; toward = place; side = side }) (record { tri = 0; toward = 0; side = 0 }) p (sym is)

  -- the triangle knows it
  put_here : slice_index put k ≡ length order
  put_here = get_or-set_same places k (length order) 0 (omega (arith, s.size))

  more_in_list : (p : ℕ) → p < length more → (outward_at more p).tri < length tris
  more_in_list p h = elim (cases_eq p (length order)) [
    | inl last ↦ rw (at_last p last) k_below
    | inr other ↦ let earlier : p < length order = omega (arith, length_more) in rw (at_earlier p earlier) (s.in_list p earlier)
  ]

  more_within : (l : ℕ) → l < length tris → slice_index put l < length more
  more_within l h = elim (cases_eq l k) [
    | inl this ↦ rw this (omega (arith, put_here, length_more))
    | inr other ↦ omega (arith, get_or-set_other places k l (length order) 0 other, s.within l h, length_more)
  ]

  more_known : (p : ℕ) → p < length more → slice_index put (outward_at more p).tri ≡ p
  more_known p h = elim (cases_eq p (length order)) [
    | inl last ↦ rw (at_last p last) (put_here ∙ sym last)
    | inr other ↦
        let earlier : p < length order = omega (arith, length_more) in
        rw (at_earlier p earlier)
        (get_or-set_other places k (outward_at order p).tri (length order) 0 (λ same. new (p, earlier, same)) ∙ s.known p earlier)
  ]

  more_joined : (p : ℕ) → 0 < p → p < length more → IsJoined tris more p
  more_joined p some h = elim (cases_eq p (length order)) [
    | inl last ↦
        let is = at_last p last in
        record {
          earlier = rw is (omega (arith, last));
          side = rw is in_row;
          shared = rw (is, at_earlier place place_below) shared;
        }
    | inr other ↦
        let earlier : p < length order = omega (arith, length_more) in
        let joined = s.joined p some earlier in
        let toward : (outward_at order p).toward < length order = omega (arith, joined.earlier) in
        record {
          earlier = rw (at_earlier p earlier) joined.earlier;
          side = rw (at_earlier p earlier) joined.side;
          shared = rw (at_earlier p earlier, at_earlier (outward_at order p).toward toward) joined.shared;
        }
  ]

  -- the search with one triangle more
  pub search_more : IsSearch tris more put
  search_more = record {
    few = s.few;
    size = length-set places k (length order) ∙ s.size;
    count = few_places more put (length tris) more_known more_in_list;
    in_list = more_in_list;
    within = more_within;
    known = more_known;
    joined = more_joined;
  }

  -- so fewer were reached than there are
  pub fewer_reached : length order < length tris
  fewer_reached = omega (arith, length_more, search_more.count)

-- the search that has reached one triangle
pub search_one : (tris : List Tri) (home : ℕ) → length tris < 2 ^ 30 → home < length tris
    → IsSearch tris (record { tri = home; toward = 0; side = 0 } ∷ []) (replicate (length tris) 0)
search_one tris home few below = record {
  few = few;
  size = length-replicate (length tris) 0;
  count = omega arith;
  in_list = λ p h. let first : p ≡ 0 = omega arith in rw first below;
  within = λ k h. omega (arith, get_or-replicate {A = ℕ} (length tris) k 0 0 h);
  known = λ p h. let first : p ≡ 0 = omega arith in rw first (get_or-replicate {A = ℕ} (length tris) home 0 0 below);
  joined = λ p some h. absurd (omega arith);
}

-- ---- the sides of a triangle

-- the row of what is read at a place has the triangles at its sides
pub read_owner : (tris : List Tri) (rows : List (List (Option ℕ))) (order : List Outward) (places : List ℕ) → KeepsNeighbours tris rows
    → IsSearch tris order places → (place : ℕ) → place < length order → (read : Outward) → read ≡ get_or order place read
    → (side : ℕ) → side < 3
    → IsOwner tris (side_end (tri_at tris read.tri) side) (side_begin (tri_at tris read.tri) side)
    (slice_index_or (slice_index_or rows read.tri []) side None)
read_owner tris rows order places keeps s place below read is side in_row =
    let here : read ≡ outward_at order place = get_or_read order place read below is (record { tri = 0; toward = 0; side = 0 }) in
    let k_below : read.tri < length tris = rw here (s.in_list place below) in
    keeps.rows.across read.tri side (omega (arith, keeps.count)) in_row

-- where the triangle with a side was reached, the side is done,
pub done_by : (tris : List Tri) (order : List Outward) (i j k : ℕ) → HasSidesOnce tris
    → k < length tris → HasSide (tri_at tris k) i j → IsReached order k
    → IsSideDone tris order i j
done_by tris order i j k sides k_below has is l below too = let same : l ≡ k = sides.once i j l k below k_below too has in rw same is

-- and a triangle is done where its three sides are
pub done_of_sides : (tris : List Tri) (order : List Outward) (k : ℕ) → HasSidesOnce tris → k < length tris → IsReached order k
    → IsSideDone tris order (tri_at tris k).b (tri_at tris k).a → IsSideDone tris order (tri_at tris k).c (tri_at tris k).b
    → IsSideDone tris order (tri_at tris k).a (tri_at tris k).c → IsDone tris order k
done_of_sides tris order k sides k_below is first second third l below share = elim share.of_second [
  | inl along ↦ let same : l ≡ k = sides.once share.i share.j l k below k_below along share.of_first in rw same is
  | inr back ↦ elim share.of_first [
    | inl e ↦ first l below (rw (e.0, e.1) back)
    | inr rest ↦ elim rest [
      | inl e ↦ second l below (rw (e.0, e.1) back)
      | inr e ↦ third l below (rw (e.0, e.1) back)
    ]
  ]
]
