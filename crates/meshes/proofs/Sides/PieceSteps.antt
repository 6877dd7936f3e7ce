-- The edges of a piece, as the steps along its numbers and back to the first.
use Rattle.std.proofs.Common.{◌≡◌, ◌⊎◌, inl, inr, refl, sym, subst, ◌∙◌, ℕ, zero, suc, ◌+◌, ◌<◌, List, [], ◌∷◌, ◌++◌, length, get_or, arith}
use Rattle.std.proofs.Common.{◌≢◌, ap, ◌%◌, mod-lt}
use Rattle.std.proofs.lemmas.Bool.{cases_eq}
use Rattle.std.proofs.lemmas.Int.{ints}
use Rattle.std.proofs.lemmas.List.FromFn.{get_or-range_with_len, length-range_with_len}
use Rattle.std.specs.List.{range_with_len}
use Rattle.integer_algebra.proofs.Decisions.{both_or_not, either_or_not}
use Rattle.plane.proofs.Turns.{determinant_same_ends, determinant_same_first, determinant_same_last}
use Rattle.plane.specs.Prelude.{IsLeft, Point, Triple, whole}
use Rattle.rings.proofs.Vertices.{next_round}
use Rattle.rings.specs.Ring.{vertex}
use Rattle.meshes.specs.Prelude.{Fits, HasSide, HasSidesOnce, IsPieceEdge, IsSideOfOne, tri_at}
use Rattle.meshes.specs.declared.tri.Tri.{Tri}

-- a step from i to j along some numbers and on to the last one
abbrev pub IsStep : ℕ → List ℕ → ℕ → ℕ → ℕ → Type 0
IsStep a [] last i j = (a ≡ i) × (last ≡ j)
IsStep a (b ∷ bs) last i j = ((a ≡ i) × (b ≡ j)) ⊎ IsStep b bs last i j

-- ---- steps and places

-- at each place a step begins
step_at : (a : ℕ) (bs : List ℕ) (last p : ℕ) → p < length bs + 1 → IsStep a bs last (get_or (a ∷ bs) p 0) (get_or (bs ++ last ∷ []) p 0)
step_at a [] last zero h = (refl, refl)
step_at a [] last (suc p) h = absurd (omega arith)
step_at a (b ∷ bs) last zero h = inl (refl, refl)
step_at a (b ∷ bs) last (suc p) h = inr (step_at b bs last p (omega arith))

-- the place where a step begins
record StepPlace (a : ℕ) (bs : List ℕ) (last i j : ℕ) : Type 0 where
  place : ℕ
  within : place < length bs + 1
  from : get_or (a ∷ bs) place 0 ≡ i
  to : get_or (bs ++ last ∷ []) place 0 ≡ j

-- each step begins at some place
place_of : (a : ℕ) (bs : List ℕ) (last i j : ℕ) → IsStep a bs last i j → StepPlace a bs last i j
place_of a [] last i j s = record { place = 0; within = omega arith; from = s.0; to = s.1 }
place_of a (b ∷ bs) last i j (inl s) = record { place = 0; within = omega arith; from = s.0; to = s.1 }
place_of a (b ∷ bs) last i j (inr s) =
    let at = place_of b bs last i j s in
    record { place = suc at.place; within = omega (arith, at.within); from = at.from; to = at.to }

module _ (v : ℕ) (vs : List ℕ) (i j : ℕ) where
  -- an edge of a piece is a step along its numbers and back to the first,
  pub step_of_edge : IsPieceEdge (v ∷ vs) i j → IsStep v vs v i j
  step_of_edge e =
      let to = sym (next_round 0 v vs e.place e.in_piece) ∙ e.to in
      subst (λ x. IsStep v vs v x j) e.from
      (subst (λ y. IsStep v vs v (get_or (v ∷ vs) e.place 0) y) to (step_at v vs v e.place (omega (arith, e.in_piece))))

  -- and such a step is an edge
  pub edge_of_step : IsStep v vs v i j → IsPieceEdge (v ∷ vs) i j
  edge_of_step s =
      let at = place_of v vs v i j s in
      let within : at.place < length (v ∷ vs) = omega (arith, at.within) in
      record { place = at.place; in_piece = within; from = at.from; to = next_round 0 v vs at.place within ∙ at.to }

-- ---- steps along two lists

module _ (x : ℕ) (xs : List ℕ) (last i j : ℕ) where
  -- a step along numbers with x among them is one up to x or one from x on,
  pub step_cases : (a : ℕ) (bs : List ℕ) → IsStep a (bs ++ x ∷ xs) last i j → IsStep a bs x i j ⊎ IsStep x xs last i j
  step_cases a [] (inl s) = inl s
  step_cases a [] (inr s) = inr s
  step_cases a (b ∷ bs) (inl s) = inl (inl s)
  step_cases a (b ∷ bs) (inr s) = elim (step_cases b bs s) [ inl t ↦ inl (inr t) | inr t ↦ inr t ]

  -- and the other way round:
  pub step_before : (a : ℕ) (bs : List ℕ) → IsStep a bs x i j → IsStep a (bs ++ x ∷ xs) last i j
  step_before a [] s = inl s
  step_before a (b ∷ bs) (inl s) = inl s
  step_before a (b ∷ bs) (inr s) = inr (step_before b bs s)

  -- after x too
  pub step_after : (a : ℕ) (bs : List ℕ) → IsStep x xs last i j → IsStep a (bs ++ x ∷ xs) last i j
  step_after a [] s = inr s
  step_after a (b ∷ bs) s = inr (step_after b bs s)

-- ---- an edge or not

-- two pairs of numbers too
pair_or_not : (a b i j : ℕ) → ((a ≡ i) × (b ≡ j)) ⊎ (¬ ((a ≡ i) × (b ≡ j)))
pair_or_not a b i j = both_or_not (cases_eq a i) (cases_eq b j)

-- a triangle has a side or not
pub has_side_or_not : (t : Tri) (i j : ℕ) → HasSide t i j ⊎ (¬ HasSide t i j)
has_side_or_not t i j = either_or_not (pair_or_not t.a t.b i j) (either_or_not (pair_or_not t.b t.c i j) (pair_or_not t.c t.a i j))

-- there is a step from i to j or there is none
step_or_not : (a : ℕ) (bs : List ℕ) (last i j : ℕ) → IsStep a bs last i j ⊎ (¬ IsStep a bs last i j)
step_or_not a [] last i j = pair_or_not a last i j
step_or_not a (b ∷ bs) last i j = either_or_not (pair_or_not a b i j) (step_or_not b bs last i j)

-- so an edge from i to j is one of the piece or is not
pub edge_or_not : (piece : List ℕ) (i j : ℕ) → IsPieceEdge piece i j ⊎ (¬ IsPieceEdge piece i j)
edge_or_not [] i j = inr (λ e. omega (arith, e.in_piece))
edge_or_not (v ∷ vs) i j = elim (step_or_not v vs v i j) [
  | inl s ↦ inl (edge_of_step v vs i j s)
  | inr n ↦ inr (λ e. n (step_of_edge v vs i j e))
]

-- ---- in a list of triangles that fits a polygon each side belongs to one triangle in each direction, and to none in both

-- where three points turn left, no two of them are one
pub left_apart : (a b c : Triple) → IsLeft a b c → (a ≢ b) × (b ≢ c) × (c ≢ a)
left_apart a b c left = (
  λ same. let flat = determinant_same_first b c in let turn = rw same at left in omega (arith, ints),
  λ same. let flat = determinant_same_last a c in let turn = rw same at left in omega (arith, ints),
  λ same. let flat = determinant_same_ends a b in let turn = rw same at left in omega (arith, ints),
)

-- a triangle with three corners has no side in both directions
pub one_direction : (a b c i j : ℕ) → a ≢ b → b ≢ c → c ≢ a → HasSide (record { a = a; b = b; c = c }) i j → ¬ HasSide (record { a = a; b = b; c = c }) j i
one_direction a b c i j ab bc ca has back = grind arith

-- the corners of a counterclockwise triangle differ
pub corners_differ : (corners : List Point) (t : Tri) → IsLeft (whole (vertex corners t.a)) (whole (vertex corners t.b)) (whole (vertex corners t.c))
    → (t.a ≢ t.b) × (t.b ≢ t.c) × (t.c ≢ t.a)
corners_differ corners t left =
    let apart = left_apart _ _ _ left in
    let at : ℕ → Triple = λ i. whole (vertex corners i) in
    (λ e. apart.0 (ap at e), λ e. apart.1 (ap at e), λ e. apart.2 (ap at e))

module _ (corners : List Point) (tris : List Tri) (fits : Fits corners tris) where
  -- no triangle has a side in both directions
  fitting_one_way : (i j k : ℕ) → k < length tris → HasSide (tri_at tris k) i j → ¬ HasSide (tri_at tris k) j i
  fitting_one_way i j k below =
      let t = tri_at tris k in
      let differ = corners_differ corners t (fits.triangles k below).counterclockwise in
      one_direction t.a t.b t.c i j differ.0 differ.1 differ.2

  -- two triangles with one side in one direction are one
  fitting_once : (i j k l : ℕ) → k < length tris → l < length tris → HasSide (tri_at tris k) i j → HasSide (tri_at tris l) i j → k ≡ l
  fitting_once i j k l k_below l_below k_has l_has = elim (edge_or_not (range_with_len 0 (length corners)) i j) [
    | inl edge ↦ let one = fits.edges i j edge in cc (one.1.only k k_below (inl k_has), one.1.only l l_below (inl l_has))
    | inr inner ↦ let two = fits.inner_sides i j k k_below k_has inner in elim (two.1.only l l_below (inl l_has)) [
      | inl same ↦ sym same
      | inr across ↦ absurd (fitting_one_way i j two.0 two.1.other_in_list (rw across at l_has) two.1.other_has)
    ]
  ]

  -- so it keeps what the table of neighbours needs
  pub fitting_sides : HasSidesOnce tris
  fitting_sides = record { once = fitting_once; one_way = fitting_one_way }

-- ---- the edges of a ring, as those of the piece of all its vertices: each goes from a number to the next, counted round, and is a side of one triangle of a mesh

module _ (n : ℕ) where
  -- the number at a place of all of them
  number_at : (p : ℕ) → p < n → get_or (range_with_len 0 n) p 0 ≡ p
  number_at p h = omega (arith, get_or-range_with_len 0 n p 0 h)

  -- the place after place p
  next_at : (p i : ℕ) → p ≡ i → (p + 1) % length (range_with_len 0 n) ≡ (i + 1) % n
  next_at p i e = λ t. (e t + 1) % length-range_with_len 0 n t

  -- from each number to the next there is an edge,
  ring_edge_from : (i : ℕ) → i < n → IsPieceEdge (range_with_len 0 n) i ((i + 1) % n)
  ring_edge_from i h = record {
    place = i;
    in_piece = omega (arith, length-range_with_len 0 n);
    from = number_at i h;
    to = ap (λ p. get_or (range_with_len 0 n) p 0) (next_at i i refl) ∙ number_at ((i + 1) % n) (mod-lt (i + 1) (omega arith));
  }

  -- and no other
  pub ring_edge_is : (i j : ℕ) → IsPieceEdge (range_with_len 0 n) i j → (i < n) × (j ≡ (i + 1) % n)
  ring_edge_is i j e =
      let place : e.place < n = omega (arith, e.in_piece, length-range_with_len 0 n) in
      let from : e.place ≡ i = sym (number_at e.place place) ∙ e.from in
      let to = ap (λ p. get_or (range_with_len 0 n) p 0) (next_at e.place i from) in (
        omega arith,
        sym e.to ∙ to ∙ number_at ((i + 1) % n) (mod-lt (i + 1) (omega arith)),
      )

module _ (corners : List Point) (tris : List Tri) (fits : Fits corners tris) where
  -- each edge is a side of one triangle,
  pub one_at_edge : (i : ℕ) → i < length corners → (k : ℕ) × IsSideOfOne tris i ((i + 1) % length corners) k
  one_at_edge i h = fits.edges i ((i + 1) % length corners) (ring_edge_from (length corners) i h)

  -- and each side of one triangle is an edge
  pub edge_of_one : (i j k : ℕ) → IsSideOfOne tris i j k → (i < length corners) × (j ≡ (i + 1) % length corners)
  edge_of_one i j k one = elim (edge_or_not (range_with_len 0 (length corners)) i j) [
    | inl edge ↦ ring_edge_is (length corners) i j edge
    | inr inner ↦
        let (l, two) = fits.inner_sides i j k one.in_list one.has inner in
        absurd (two.different (sym (one.only l two.other_in_list (inr two.other_has))))
  ]
