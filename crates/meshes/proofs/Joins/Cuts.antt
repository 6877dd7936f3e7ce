-- A piece that is cut in two by a diagonal: its vertices and edges, and those of the two parts.
use Rattle.std.proofs.Common.{◌≡◌, ◌⊎◌, inl, inr, refl, sym, ap, subst, ◌∙◌, ℕ, zero, suc, ◌+◌, ◌<◌, List, [], ◌∷◌, ◌++◌, length, get_or}
use Rattle.std.proofs.Common.{arith, ◌%◌}
use Rattle.std.proofs.Math.Nat.{mod-eq_of_lt, mod_self}
use Rattle.std.proofs.lemmas.Bool.{cases_lt}
use Rattle.std.proofs.lemmas.List.{get_or-append-add, get_or_append_left, get_or_default, length-append}
use Rattle.std.proofs.lemmas.List.Elements.{Contains-append_cases, Contains-append_left, Contains-append_right}
use Rattle.std.specs.List.{Contains}
use Rattle.std.specs.Prelude.{◌↔◌}
use Rattle.plane.specs.Prelude.{IsPoint, On, Point, Triple, whole}
use Rattle.rings.specs.Prelude.{IsIn, IsSimple, vertex}
use Rattle.ring_laws.proofs.Diagonals.{AreBoth}
use Rattle.meshes.proofs.Sides.{edge_of_step, step_after, step_before, step_cases, step_of_edge, one_number, one_place}
use Rattle.meshes.specs.Fits.{IsPieceEdge, piece_points}

-- the part before the diagonal from v to z: v, some vertices, and z
abbrev pub first_part : ℕ → List ℕ → ℕ → List ℕ
first_part v ps z = v ∷ (ps ++ z ∷ [])

-- the part after it: v, z and the other vertices
abbrev pub second_part : ℕ → ℕ → List ℕ → List ℕ
second_part v z qs = v ∷ z ∷ qs

-- the piece that is cut
abbrev pub both_parts : ℕ → List ℕ → ℕ → List ℕ → List ℕ
both_parts v ps z qs = v ∷ (ps ++ z ∷ qs)

-- the piece is simple, what is in it is in a part, and what is in both parts is on the diagonal
pub record IsCut (corners : List Point) (v : ℕ) (ps : List ℕ) (z : ℕ) (qs : List ℕ) : Type 0 where
  pub simple : IsSimple (piece_points corners (both_parts v ps z qs))
  pub inside : (p : Triple) → IsPoint p → IsIn (piece_points corners (both_parts v ps z qs)) p
      ↔ (IsIn (piece_points corners (first_part v ps z)) p ⊎ IsIn (piece_points corners (second_part v z qs)) p)
  pub common : (p : Triple) → IsPoint p → IsIn (piece_points corners (first_part v ps z)) p
      → IsIn (piece_points corners (second_part v z qs)) p → On p (whole (vertex corners v)) (whole (vertex corners z))

-- ---- members

-- the first number of a list, or one of the rest
pub contains_cases : (x : ℕ) (xs : List ℕ) (i : ℕ) → Contains (x ∷ xs) i → (x ≡ i) ⊎ Contains xs i
contains_cases x xs i (zero, h, e) = inl e
contains_cases x xs i (suc k, h, e) = inr (k, omega arith, e)

-- the first one is a member
pub contains_first : (x : ℕ) (xs : List ℕ) → Contains (x ∷ xs) x
contains_first x xs = (0, omega arith, refl)

-- so are the others
pub contains_rest : (x : ℕ) (xs : List ℕ) (i : ℕ) → Contains xs i → Contains (x ∷ xs) i
contains_rest x xs i (k, h, e) = (suc k, omega arith, e)

-- a member of a list of one
contains_one : (x i : ℕ) → Contains (x ∷ []) i → x ≡ i
contains_one x i h = elim (contains_cases x [] i h) [ inl e ↦ e | inr k ↦ absurd (omega (arith, k.1)) ]

-- the place of a member
pub place_of : (xs : List ℕ) (i : ℕ) → Contains xs i → (k : ℕ) × (k < length xs) × (get_or xs k 0 ≡ i)
place_of xs i (k, h, e) = (k, h, get_or_default xs k 0 i h ∙ e)

module _ (v : ℕ) (ps : List ℕ) (z : ℕ) (qs : List ℕ) where
  -- the members of the parts are members of the piece
  pub contains_first_part : (i : ℕ) → Contains (first_part v ps z) i → Contains (both_parts v ps z qs) i
  contains_first_part i h = elim (contains_cases v (ps ++ z ∷ []) i h) [
    | inl e ↦ subst (Contains (both_parts v ps z qs)) e (contains_first v (ps ++ z ∷ qs))
    | inr k ↦ contains_rest v (ps ++ z ∷ qs) i (elim (Contains-append_cases ps (z ∷ []) i k) [
      | inl m ↦ Contains-append_left ps (z ∷ qs) i m
      | inr m ↦
          Contains-append_right ps (z ∷ qs) i
          (subst (Contains (z ∷ qs)) (contains_one z i m) (contains_first z qs))
    ])
  ]

  pub contains_second_part : (i : ℕ) → Contains (second_part v z qs) i → Contains (both_parts v ps z qs) i
  contains_second_part i h = elim (contains_cases v (z ∷ qs) i h) [
    | inl e ↦ subst (Contains (both_parts v ps z qs)) e (contains_first v (ps ++ z ∷ qs))
    | inr k ↦ contains_rest v (ps ++ z ∷ qs) i (Contains-append_right ps (z ∷ qs) i k)
  ]

  -- ---- edges

  -- the edges of the piece are those of the parts without the diagonal:
  pub first_part_cases : (i j : ℕ) → IsPieceEdge (first_part v ps z) i j → IsPieceEdge (both_parts v ps z qs) i j ⊎ ((i ≡ z) × (j ≡ v))
  first_part_cases i j e = elim (step_cases z [] v i j v ps (step_of_edge v (ps ++ z ∷ []) i j e)) [
    | inl s ↦ inl (edge_of_step v (ps ++ z ∷ qs) i j (step_before z qs v i j v ps s))
    | inr s ↦ inr (sym s.0, sym s.1)
  ]

  -- of the second part too,
  pub second_part_cases : (i j : ℕ) → IsPieceEdge (second_part v z qs) i j → IsPieceEdge (both_parts v ps z qs) i j ⊎ ((i ≡ v) × (j ≡ z))
  second_part_cases i j e = elim (step_of_edge v (z ∷ qs) i j e) [
    | inl s ↦ inr (sym s.0, sym s.1)
    | inr s ↦ inl (edge_of_step v (ps ++ z ∷ qs) i j (step_after z qs v i j v ps s))
  ]

  -- and each edge of the piece is one of a part
  pub part_of_edge : (i j : ℕ) → IsPieceEdge (both_parts v ps z qs) i j → IsPieceEdge (first_part v ps z) i j ⊎ IsPieceEdge (second_part v z qs) i j
  part_of_edge i j e = elim (step_cases z qs v i j v ps (step_of_edge v (ps ++ z ∷ qs) i j e)) [
    | inl s ↦ inl (edge_of_step v (ps ++ z ∷ []) i j (step_before z [] v i j v ps s))
    | inr s ↦ inr (edge_of_step v (z ∷ qs) i j (inr s))
  ]

  -- the diagonal is an edge of each part, in opposite directions
  pub first_diagonal : IsPieceEdge (first_part v ps z) z v
  first_diagonal = edge_of_step v (ps ++ z ∷ []) z v (step_after z [] v z v v ps (refl, refl))

  pub second_diagonal : IsPieceEdge (second_part v z qs) v z
  second_diagonal = edge_of_step v (z ∷ qs) v z (inl (refl, refl))

  -- ---- places

  -- z is after v and the numbers between them
  pub place_of_last : get_or (both_parts v ps z qs) (suc (length ps)) 0 ≡ z
  place_of_last =
      let e : length ps ≡ length ps + 0 = omega arith in
      ap (λ k. get_or (ps ++ z ∷ qs) k 0) e ∙ get_or-append-add ps (z ∷ qs) 0 0

  -- the number of places of the piece
  pub places : length (both_parts v ps z qs) ≡ length ps + length qs + 2
  places = let e = length-append ps (z ∷ qs) in omega (arith, e)

  module _ (corners : List Point) (simple : IsSimple (piece_points corners (both_parts v ps z qs))) where
    -- the two ends of the diagonal are different points
    pub ends_differ : ¬ (vertex corners v ≡ vertex corners z)
    ends_differ e =
        let k = one_place corners (both_parts v ps z qs) simple 0 (suc (length ps)) (omega arith) (omega (arith, places))
        (e ∙ ap (vertex corners) (sym place_of_last)) in
        omega (arith, k)

    -- a number of both parts is an end of the diagonal
    pub common_ends : (i : ℕ) → Contains (first_part v ps z) i → Contains (second_part v z qs) i → (i ≡ v) ⊎ (i ≡ z)
    common_ends i h k = elim (contains_cases v (ps ++ z ∷ []) i h) [
      | inl e ↦ inl (sym e)
      | inr m ↦ elim (Contains-append_cases ps (z ∷ []) i m) [
        | inr n ↦ inr (sym (contains_one z i n))
        | inl in_ps ↦ elim (contains_cases v (z ∷ qs) i k) [
          | inl e ↦ inl (sym e)
          | inr n ↦ elim (contains_cases z qs i n) [
            | inl e ↦ inr (sym e)
            | inr in_qs ↦
                let (a, a_in, a_is) = place_of ps i in_ps in
                let (b, b_in, b_is) = place_of qs i in_qs in
                let first : get_or (both_parts v ps z qs) (suc a) 0 ≡ i = get_or_append_left ps (z ∷ qs) 0 a a_in ∙ a_is in
                let second : get_or (both_parts v ps z qs) (suc (length ps + suc b)) 0 ≡ i = get_or-append-add ps (z ∷ qs) (suc b) 0 ∙ b_is in
                let same = one_number corners (both_parts v ps z qs) simple (suc a) (suc (length ps + suc b)) (omega (arith, places))
                (omega (arith, places)) (first ∙ sym second) in
                absurd (omega (arith, same, a_in))
          ]
        ]
      ]
    ]

-- ---- the places that an edge of a piece goes from and to; the diagonal that cuts a piece in two is not an edge of it

-- the place after one in a list of n, counted round
pub next_place : (p n : ℕ) → p < n → ((p + 1 < n) × ((p + 1) % n ≡ p + 1)) ⊎ ((p + 1 ≡ n) × ((p + 1) % n ≡ 0))
next_place p n h = elim (cases_lt (p + 1) n) [
  | inl within ↦ inl (within, mod-eq_of_lt within)
  | inr past ↦ let e : p + 1 ≡ n = omega arith in inr (e, ap (λ k. k % n) e ∙ mod_self n)
]

-- it is a place
pub next_within : (p n : ℕ) → p < n → (p + 1) % n < n
next_within p n h = elim (next_place p n h) [ inl k ↦ omega (arith, k.0, k.1) | inr k ↦ omega (arith, k.1) ]

-- an edge between the numbers at two places of a simple piece goes from the one place to the other
pub edge_places : (corners : List Point) (piece : List ℕ) → IsSimple (piece_points corners piece) → (p q i j : ℕ) → p < length piece
    → q < length piece → get_or piece p 0 ≡ i → get_or piece q 0 ≡ j → (e : IsPieceEdge piece i j) → (e.place ≡ p) × ((e.place + 1) % length piece ≡ q)
edge_places corners piece simple p q i j in_p in_q from to e =
    let n = length piece in
    let one = one_number corners piece simple in (
      one e.place p e.in_piece in_p (e.from ∙ sym from),
      one ((e.place + 1) % n) q (next_within e.place n e.in_piece) in_q (e.to ∙ sym to),
    )

module _ (corners : List Point) (v : ℕ) (ps : List ℕ) (z : ℕ) (qs : List ℕ) (simple : IsSimple (piece_points corners (both_parts v ps z qs)))
    (some_before : 0 < length ps) (some_after : 0 < length qs) where
  -- none goes from v to z,
  not_from_first : (e : IsPieceEdge (both_parts v ps z qs) v z) → ⊥
  not_from_first e =
      let at = edge_places corners (both_parts v ps z qs) simple 0 (suc (length ps)) v z (omega (arith, places v ps z qs)) (omega (arith, places v ps z qs)) refl (place_of_last v ps z qs) e in
      elim (next_place e.place (length (both_parts v ps z qs)) e.in_piece) [
        | inl k ↦ omega (arith, k.1, at.0, at.1)
        | inr k ↦ omega (arith, k.1, at.0, at.1)
      ]

  -- and none from z to v
  not_from_last : (e : IsPieceEdge (both_parts v ps z qs) z v) → ⊥
  not_from_last e =
      let at = edge_places corners (both_parts v ps z qs) simple (suc (length ps)) 0 z v (omega (arith, places v ps z qs)) (omega (arith, places v ps z qs)) (place_of_last v ps z qs) refl e in
      elim (next_place e.place (length (both_parts v ps z qs)) e.in_piece) [
        | inl k ↦ omega (arith, k.1, at.0, at.1)
        | inr k ↦ omega (arith, k.0, at.0, places v ps z qs)
      ]

  -- so the diagonal is no edge of the piece
  pub not_edge : (i j : ℕ) → IsPieceEdge (both_parts v ps z qs) i j → ¬ AreBoth v z i j
  not_edge i j e (inl h) =
      not_from_first (subst (λ x. IsPieceEdge (both_parts v ps z qs) x z) h.0 (subst (λ y. IsPieceEdge (both_parts v ps z qs) i y) h.1 e))
  not_edge i j e (inr h) =
      not_from_last (subst (λ x. IsPieceEdge (both_parts v ps z qs) x v) h.0 (subst (λ y. IsPieceEdge (both_parts v ps z qs) i y) h.1 e))
