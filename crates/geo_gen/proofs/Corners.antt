-- The vertices of the comb and its edges by their numbers.
use Rattle.std.proofs.Common.{◌≡◌, inl, inr, sym, subst, ap, ◌∙◌, ℕ, ◌+◌, ◌*◌, ◌-◌, ◌%◌, ◌<◌, ◌≤◌, pos, map, reverse, length, get_or, arith}
use Rattle.std.proofs.lemmas.Bool.{cases_eq, cases_order}
use Rattle.std.proofs.lemmas.Int.{ints}
use Rattle.std.proofs.lemmas.List.{get_or-append_right, get_or-reverse, get_or_append_left, length-append, length-reverse}
use Rattle.std.proofs.lemmas.List.FromFn.{get_or-map-range_with_len, length-map-range_with_len}
use Rattle.std.specs.List.{range_with_len}
use Rattle.plane.specs.Point.{Point, Triple, whole}
use Rattle.plane.specs.Segment.{On}
use Rattle.rings.proofs.Vertices.{vertex_in_range, vertex_round}
use Rattle.rings.specs.Edge.{Edge, IsOn}
use Rattle.rings.specs.Ring.{origin, vertex}
use Rattle.geo_gen.specs.Comb.{above, comb_list, lower, upper}

-- ---- the vertices

length_row : (k y : ℕ) → length (map (λ i. above i y) (range_with_len 0 (k + 1))) ≡ k + 1
length_row k y = length-map-range_with_len (λ i. above i y) 0 (k + 1)

row_at : (k y i : ℕ) → i ≤ k → get_or (map (λ i. above i y) (range_with_len 0 (k + 1))) i origin ≡ above i y
row_at k y i h = get_or-map-range_with_len (λ i. above i y) 0 (k + 1) i i origin (omega arith) (omega arith)

length_back : (k : ℕ) → length (reverse (map upper (range_with_len 0 (k + 1)))) ≡ k + 1
length_back k = length-reverse (map upper (range_with_len 0 (k + 1))) ∙ length_row k 2

pub length_comb : (k : ℕ) → length (comb_list k) ≡ 2 * k + 2
length_comb k =
    length-append (map lower (range_with_len 0 (k + 1))) (reverse (map upper (range_with_len 0 (k + 1))))
    ∙ omega (arith, length_row k 0, length_back k)

module _ (k : ℕ) where
  -- the first vertices are the lower row,
  pub lower_at : (i : ℕ) → i ≤ k → vertex (comb_list k) i ≡ above i 0
  lower_at i h =
      vertex_in_range (comb_list k) i origin (omega (arith, length_comb k))
      ∙ get_or_append_left (map lower (range_with_len 0 (k + 1))) (reverse (map upper (range_with_len 0 (k + 1)))) origin i
      (omega (arith, length_row k 0))
      ∙ row_at k 0 i h

  -- the others the upper row, back
  pub upper_at : (i j : ℕ) → i ≤ k → j + i ≡ 2 * k + 1 → vertex (comb_list k) j ≡ above i 2
  upper_at i j h e =
      let row = map upper (range_with_len 0 (k + 1)) in
      let place : length row - 1 - (j - (k + 1)) ≡ i = omega (arith, length_row k 2) in
      vertex_in_range (comb_list k) j origin (omega (arith, length_comb k))
      ∙ get_or-append_right (map lower (range_with_len 0 (k + 1))) (reverse row) (k + 1) j origin (length_row k 0) (omega arith)
      ∙ get_or-reverse row (j - (k + 1)) origin (omega (arith, length_row k 2))
      ∙ ap (λ n. get_or row n origin) place
      ∙ row_at k 2 i h

  -- and then comes the first again
  pub round_at : vertex (comb_list k) (2 * k + 2) ≡ above 0 0
  round_at =
      ap (vertex (comb_list k)) (sym (length_comb k)) ∙ vertex_round (comb_list k) (omega (arith, length_comb k)) ∙ lower_at 0 (omega arith)

  -- so each vertex is a corner of a row
  pub corner_at : (j : ℕ) → j < 2 * k + 2 → (i : ℕ) × (y : ℕ) × (i ≤ k) × (y ≤ 2) × (vertex (comb_list k) j ≡ above i y)
  corner_at j h = elim (cases_order j k) [
    | inl same ↦ (j, 0, omega arith, omega arith, lower_at j (omega arith))
    | inr (inl less) ↦ (j, 0, omega arith, omega arith, lower_at j (omega arith))
    | inr (inr more) ↦ (2 * k + 1 - j, 2, omega arith, omega arith, upper_at (2 * k + 1 - j) j (omega arith) (omega arith))
  ]

-- ---- the edges

-- edge e is of the lower row, the right end of the strip, of the upper row, or its left end
pub data Kind (k e : ℕ) : Type 0 where
  is_lower : e < k → Kind k e
  is_right : e ≡ k → Kind k e
  is_upper : (m : ℕ) → m < k → e + m ≡ 2 * k → Kind k e
  is_left : e ≡ 2 * k + 1 → Kind k e

pub kind : (k e : ℕ) → e < 2 * k + 2 → Kind k e
kind k e h = elim (cases_order e k) [
  | inl same ↦ is_right same
  | inr (inl less) ↦ is_lower less
  | inr (inr more) ↦ elim (cases_eq e (2 * k + 1)) [
    | inl last ↦ is_left last
    | inr not ↦ is_upper (2 * k - e) (omega arith) (omega arith)
  ]
]

-- a point of a segment, whose ends are called otherwise
pub on_between : (p : Triple) {a b c d : Point} → a ≡ c → b ≡ d → On p (whole a) (whole b) → On p (whole c) (whole d)
on_between p e f on = subst (λ (q : Edge). IsOn q p) (λ t. record { from = e t; to = f t }) on

-- ---- different corners

-- one corner is at one place
place_of_corner : (i j y z : ℕ) → above i y ≡ above j z → i ≡ j
place_of_corner i j y z h = let e : pos (4 * i) ≡ pos (4 * j) = λ t. (h t).x in omega (arith, ints, e)

-- and has one height
height_of_place : (i y z : ℕ) → above i y ≡ above i z → y ≡ z
height_of_place i y z h =
    let e : pos (6 * (i % 2) + y) ≡ pos (6 * (i % 2) + z) = λ t. (h t).y in
    omega (arith, ints, e)

-- no edge has equal ends
pub ends_differ : (k e : ℕ) → Kind k e → ¬ (vertex (comb_list k) e ≡ vertex (comb_list k) (e + 1))
ends_differ k e (is_lower less) h =
    let f = place_of_corner e (e + 1) 0 0 (sym (lower_at k e (omega arith)) ∙ h ∙ lower_at k (e + 1) (omega arith)) in
    absurd (omega arith)
ends_differ k e (is_right last) h =
    let from = ap (vertex (comb_list k)) (sym last) in
    let f = height_of_place k 0 2 (sym (lower_at k k (omega arith)) ∙ from ∙ h ∙ upper_at k k (e + 1) (omega arith) (omega arith)) in
    absurd (omega arith)
ends_differ k e (is_upper m less sum) h =
    let f =
    place_of_corner (m + 1) m 2 2 (sym (upper_at k (m + 1) e (omega arith) (omega arith)) ∙ h ∙ upper_at k m (e + 1) (omega arith) (omega arith))
    in
    absurd (omega arith)
ends_differ k e (is_left last) h =
    let to : vertex (comb_list k) (e + 1) ≡ vertex (comb_list k) (2 * k + 2) = ap (vertex (comb_list k)) (omega arith) in
    let f = height_of_place 0 2 0 (sym (upper_at k 0 e (omega arith) (omega arith)) ∙ h ∙ to ∙ round_at k) in
    absurd (omega arith)
