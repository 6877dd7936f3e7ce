-- The triangles round the least vertex of a tiled piece fill the angle there, from its second vertex to its last.
use Rattle.std.proofs.Common.{◌≡◌, ◌⊎◌, inl, inr, refl, sym, ap, subst, ◌∙◌, ℕ, zero, suc, ◌+◌, ◌-◌, ◌%◌, ◌<◌, ◌≤◌, ℤ, pos, ◌<ℤ◌, Bool}
use Rattle.std.proofs.Common.{true, false, List, [], ◌∷◌, ◌++◌, length, get_or, arith}
use Rattle.std.proofs.lemmas.Int.{ints}
use Rattle.std.specs.Int.Signed.{lt_z}
use Rattle.std.specs.List.{Contains}
use Rattle.std.specs.Prelude.{if◌then◌else◌}
use Rattle.integer_algebra.proofs.Decisions.{either_or_not}
use Rattle.plane.proofs.Turns.{determinant_same_last}
use Rattle.plane.specs.Order.{IsBefore}
use Rattle.plane.specs.Point.{Point, Triple, whole}
use Rattle.plane.specs.Turn.{IsLeft, determinant}
use Rattle.rings.specs.Ring.{vertex}
use Rattle.meshes.proofs.Boundaries.{IsEdgeBetween, IsPartTiling}
use Rattle.meshes.proofs.Joins.{contains_cases, contains_first, contains_rest, next_place, next_within}
use Rattle.meshes.proofs.Parts.{side_numbers}
use Rattle.meshes.proofs.Sides.{edge_or_not, left_apart, one_number}
use Rattle.meshes.specs.Side.{HasSide, tri_at}
use Rattle.meshes.specs.declared.tri.Tri.{Tri}
use Rattle.cut_tri.proofs.Shapes.{last_is}
use Rattle.cut_tri.specs.Triangles.{HasRound}
use Rattle.flip_tri.proofs.HalfPlanes.{left_trans}
use Rattle.flip_tri.proofs.Rounds.{round_tile}
use Rattle.flip_tri.specs.Fan.{Fan, IsAbout}
use Rattle.flip_tri.specs.Fan.Fan.{last, next}

-- ---- the corners of a triangle

-- a triangle with a side from i to j runs from there to a third corner
round_of : (t : Tri) (i j : ℕ) → HasSide t i j → (k : ℕ) × HasRound t i j k
round_of t i j (inl h) = (t.c, record { first = inl h; second = inr (inl (h.1, refl)); third = inr (inr (refl, h.0)) })
round_of t i j (inr (inl h)) = (t.a, record { first = inr (inl h); second = inr (inr (h.1, refl)); third = inl (refl, h.0) })
round_of t i j (inr (inr h)) = (t.b, record { first = inr (inr h); second = inl (h.1, refl); third = inr (inl (refl, h.0)) })

-- read from its second corner on
pub round_from_second : (t : Tri) (i j k : ℕ) → HasRound t i j k → HasRound t j k i
round_from_second t i j k round = record { first = round.second; second = round.third; third = round.first }

-- the vertices of a turn to the left have different numbers
pub numbers_apart : (corners : List Point) (i j k : ℕ) → IsLeft (whole (vertex corners i)) (whole (vertex corners j)) (whole (vertex corners k))
    → (¬ (i ≡ j)) × (¬ (j ≡ k)) × (¬ (k ≡ i))
numbers_apart corners i j k left =
    let at : ℕ → Triple = λ n. whole (vertex corners n) in
    let apart = left_apart (at i) (at j) (at k) left in
    (λ e. apart.0 (ap at e), λ e. apart.1 (ap at e), λ e. apart.2 (ap at e))

-- ---- counts

-- one for an item that passes a test, and nothing for another
abbrev unit : Bool → ℕ
unit b = if b then 1 else 0

-- how many items of a list pass a test
abbrev count_of : (ℕ → Bool) → List ℕ → ℕ
count_of f [] = 0
count_of f (x ∷ xs) = unit (f x) + count_of f xs

-- it is at most that for an item that passes where the one does
unit_most : (a b : Bool) → (a ≡ true → b ≡ true) → unit a ≤ unit b
unit_most true b h = omega (arith, ap unit (h refl))
unit_most false b h = omega arith

-- where what passes one test passes the other, no more pass the one,
count_most : (f g : ℕ → Bool) (xs : List ℕ) → ((x : ℕ) → Contains xs x → f x ≡ true → g x ≡ true) → count_of f xs ≤ count_of g xs
count_most f g [] h = omega arith
count_most f g (x ∷ xs) h =
    omega (arith, unit_most (f x) (g x) (h x (contains_first x xs)), count_most f g xs (λ y has. h y (contains_rest x xs y has)))

-- and fewer where an item passes the other alone
count_fewer : (f g : ℕ → Bool) (xs : List ℕ) → ((x : ℕ) → Contains xs x → f x ≡ true → g x ≡ true) → (c : ℕ) → Contains xs c
    → f c ≡ false → g c ≡ true → count_of f xs < count_of g xs
count_fewer f g [] h c has fails passes = absurd (omega (arith, has.1))
count_fewer f g (x ∷ xs) h c has fails passes =
    let rest = λ (y : ℕ) (k : Contains xs y). h y (contains_rest x xs y k) in
    elim (contains_cases x xs c has) [
      | inl e ↦
          let less : unit (f x) < unit (g x) =
          subst (λ (y : ℕ). unit (f y) < unit (g y)) (sym e) (omega (arith, ap unit fails, ap unit passes)) in
          omega (arith, less, count_most f g xs rest)
      | inr k ↦ omega (arith, unit_most (f x) (g x) (h x (contains_first x xs)), count_fewer f g xs rest c k fails passes)
    ]

-- the test whether a number is positive: those that are pass it,
test_of : (d : ℤ) → pos 0 <ℤ d → lt_z (pos 0) d ≡ true
test_of d h = grind (arith, ints)

-- 0 does not
no_test_of : (d : ℤ) → d ≡ pos 0 → lt_z (pos 0) d ≡ false
no_test_of d h = grind (arith, ints)

-- ---- fans

-- a fan has a last triangle
pub last_triangle : (tris : List Tri) (P : ℕ → Type 0) (v u p : ℕ) → Fan tris P v u p → (q : ℕ) × IsAbout tris P v q u
last_triangle tris P v u p (last q about) = (p, about)
last_triangle tris P v u p (next q c about fan) = last_triangle tris P v u c fan

-- ---- at the first vertex of a piece

-- p is w, or left of the way from v to w
abbrev pub IsFrom : List Point → ℕ → ℕ → ℕ → Type 0
IsFrom corners v w p = (p ≡ w) ⊎ IsLeft (whole (vertex corners v)) (whole (vertex corners w)) (whole (vertex corners p))

module _ (corners : List Point) (tris : List Tri) (v w : ℕ) (ms : List ℕ) (u : ℕ) (P : ℕ → Type 0)
    (tiling : IsPartTiling corners (v ∷ w ∷ (ms ++ u ∷ [])) tris P) where
  -- an edge there leads to the second vertex or comes from the last
  edge_at_first : (c : ℕ) → IsEdgeBetween (v ∷ w ∷ (ms ++ u ∷ [])) c v → (c ≡ w) ⊎ (c ≡ u)
  edge_at_first c (inl e) =
      let n : ℕ = length (v ∷ w ∷ (ms ++ u ∷ [])) in
      let at = one_number corners (v ∷ w ∷ (ms ++ u ∷ [])) tiling.cover.simple ((e.place + 1) % n) 0 (next_within e.place n e.in_piece)
      (omega (arith, e.in_piece)) e.to in
      elim (next_place e.place n e.in_piece) [
        | inl k ↦ absurd (omega (arith, k.1, at))
        | inr k ↦
            let is_last : e.place ≡ n - 1 = omega (arith, k.0) in
            inr (sym e.from ∙ ap (λ p. get_or (v ∷ w ∷ (ms ++ u ∷ [])) p 0) is_last ∙ last_is v w ms u)
      ]
  edge_at_first c (inr e) =
      let n : ℕ = length (v ∷ w ∷ (ms ++ u ∷ [])) in
      let at = one_number corners (v ∷ w ∷ (ms ++ u ∷ [])) tiling.cover.simple e.place 0 e.in_piece (omega (arith, e.in_piece)) e.from in
      elim (next_place e.place n e.in_piece) [
        | inl k ↦
            let is_second : (e.place + 1) % n ≡ 1 = omega (arith, k.1, at) in
            inl (sym e.to ∙ ap (λ p. get_or (v ∷ w ∷ (ms ++ u ∷ [])) p 0) is_second)
        | inr k ↦ absurd (omega (arith, k.0, at, tiling.some))
      ]

  -- a triangle round v, p and c turns left,
  pub about_left : (p c : ℕ) → IsAbout tris P v p c → IsLeft (whole (vertex corners v)) (whole (vertex corners p)) (whole (vertex corners c))
  about_left p c about =
      (round_tile corners (tri_at tris about.tri) (tiling.cover.triangles about.tri about.in_part).counterclockwise v p c about.round).left

  -- and its corners are different vertices of the piece
  pub about_ends : (p c : ℕ) → IsAbout tris P v p c
      → Contains (v ∷ w ∷ (ms ++ u ∷ [])) p × Contains (v ∷ w ∷ (ms ++ u ∷ [])) c × (¬ (p ≡ v)) × (¬ (c ≡ v)) × (¬ (p ≡ c))
  about_ends p c about =
      let first = side_numbers corners (v ∷ w ∷ (ms ++ u ∷ [])) tris tiling.cover about.tri v p about.in_part (inl about.round.first) in
      let second = side_numbers corners (v ∷ w ∷ (ms ++ u ∷ [])) tris tiling.cover about.tri p c about.in_part (inl about.round.second) in
      let third = side_numbers corners (v ∷ w ∷ (ms ++ u ∷ [])) tris tiling.cover about.tri c v about.in_part (inl about.round.third) in
      (first.1, third.0, (λ e. first.2 (sym e)), third.2, second.2)

  -- ---- where it is the least

  module _ (least : (i : ℕ) → Contains (v ∷ w ∷ (ms ++ u ∷ [])) i → ¬ (i ≡ v) → IsBefore (vertex corners v) (vertex corners i)) where
    -- the second vertex is one of the piece
    has_second : Contains (v ∷ w ∷ (ms ++ u ∷ [])) w
    has_second = contains_rest v (w ∷ (ms ++ u ∷ [])) w (contains_first w (ms ++ u ∷ []))

    -- the third corner of a triangle is left of the way to the second vertex, where its second corner is so or is that vertex
    pub left_of_second : (p c : ℕ) → IsAbout tris P v p c → IsFrom corners v w p
        → IsLeft (whole (vertex corners v)) (whole (vertex corners w)) (whole (vertex corners c))
    left_of_second p c about (inl e) =
        subst (λ (n : ℕ). IsLeft (whole (vertex corners v)) (whole (vertex corners n)) (whole (vertex corners c))) e (about_left p c about)
    left_of_second p c about (inr left) =
        let ends = about_ends p c about in
        left_trans (vertex corners v) (vertex corners w) (vertex corners p) (vertex corners c)
        (least w has_second (λ e. (numbers_apart corners v w p left).0 (sym e))) (least p ends.0 ends.2) (least c ends.1 ends.3)
        left (about_left p c about)

    -- ---- from one triangle to the next

    -- the test whether a vertex is left of the way from v to p, and how many are
    abbrev is_beyond : ℕ → ℕ → Bool
    is_beyond p x = lt_z (pos 0) (determinant (whole (vertex corners v)) (whole (vertex corners p)) (whole (vertex corners x)))

    abbrev beyond : ℕ → ℕ
    beyond p = count_of (is_beyond p) (v ∷ w ∷ (ms ++ u ∷ []))

    -- there are fewer left of the way to the third corner
    fewer_beyond : (p c : ℕ) → IsAbout tris P v p c → beyond c < beyond p
    fewer_beyond p c about =
        let ends = about_ends p c about in
        let left = about_left p c about in
        let a = whole (vertex corners v) in
        count_fewer (is_beyond c) (is_beyond p) (v ∷ w ∷ (ms ++ u ∷ []))
        (λ x has passes.
        let further : IsLeft a (whole (vertex corners c)) (whole (vertex corners x)) = grind (arith, ints, passes) in
        test_of _ (left_trans (vertex corners v) (vertex corners p) (vertex corners c) (vertex corners x) (least p ends.0 ends.2) (least c ends.1 ends.3)
        (least x has (numbers_apart corners v c x further).2) left further))
        c ends.1 (no_test_of _ (determinant_same_last a (whole (vertex corners c)))) (test_of _ left)

    -- the triangles from one with the side from v to p on
    fan_from : (n p k : ℕ) → beyond p < n → P k → HasSide (tri_at tris k) v p → IsFrom corners v w p → Fan tris P v u p
    fan_from zero p k less within has from = absurd (omega (arith, less))
    fan_from (suc n) p k less within has from =
        let (c, round) = round_of (tri_at tris k) v p has in
        let about : IsAbout tris P v p c = record { tri = k; in_part = within; in_list = tiling.in_list k within; round = round } in
        let left = left_of_second p c about from in
        elim (either_or_not (edge_or_not (v ∷ w ∷ (ms ++ u ∷ [])) c v) (edge_or_not (v ∷ w ∷ (ms ++ u ∷ [])) v c)) [
          | inl outer ↦ elim (edge_at_first c outer) [
            | inl e ↦ absurd ((numbers_apart corners v w c left).1 (sym e))
            | inr e ↦ last p (subst (IsAbout tris P v p) e about)
          ]
          | inr inner ↦
              let (l, in_l, two) = tiling.inner_sides c v k within round.third inner in
              next p c about (fan_from n c l (omega (arith, less, fewer_beyond p c about)) in_l two.other_has (inr left))
        ]

    -- so the triangles fill the angle there, where one has the side to the second vertex
    pub fan_at_first : (k : ℕ) → P k → HasSide (tri_at tris k) v w → Fan tris P v u w
    fan_at_first k within has = fan_from (beyond w + 1) w k (omega arith) within has (inl refl)

    -- and the piece turns left there
    pub left_of_fan : (p : ℕ) → Fan tris P v u p → IsFrom corners v w p
        → IsLeft (whole (vertex corners v)) (whole (vertex corners w)) (whole (vertex corners u))
    left_of_fan p (last q about) from = left_of_second p u about from
    left_of_fan p (next q c about fan) from = left_of_fan c fan (inr (left_of_second p c about from))
