-- Two sides of a triangle by the numbers of their ends: its turn, its points and its other side.
use Rattle.std.proofs.Common.{◌≡◌, ◌⊎◌, inl, inr, refl, sym, subst, ℕ, List, arith}
use Rattle.std.proofs.lemmas.Int.{ints}
use Rattle.plane.proofs.Turns.{determinant_swap_ends}
use Rattle.plane.specs.Prelude.{IsInTriangle, IsLeft, Point, Triple, whole}
use Rattle.rings.specs.Ring.{vertex}
use Rattle.ring_laws.proofs.Triangles.{left_at_last}
use Rattle.meshes.specs.Prelude.{HasSide, IsInTri}
use Rattle.meshes.specs.declared.tri.Tri.{Tri}
use Rattle.meshes.proofs.Sides.{corners_differ}

-- the third corner at a side
pub next_corner : (t : Tri) (i j : ℕ) → HasSide t i j → (m : ℕ) × HasSide t j m × HasSide t m i
next_corner t i j (inl h) = (t.c, inr (inl (h.1, refl)), inr (inr (refl, h.0)))
next_corner t i j (inr (inl h)) = (t.a, inr (inr (h.1, refl)), inl (refl, h.0))
next_corner t i j (inr (inr h)) = (t.b, inl (h.1, refl), inr (inl (refl, h.0)))

-- two sides one after the other, by the three corners
two_sides : (a b c x y z : ℕ) → ¬ (a ≡ b) → ¬ (b ≡ c) → ¬ (c ≡ a) → HasSide (record { a = a; b = b; c = c }) x y
    → HasSide (record { a = a; b = b; c = c }) y z
    → ((a ≡ x) × (b ≡ y) × (c ≡ z)) ⊎ ((b ≡ x) × (c ≡ y) × (a ≡ z)) ⊎ ((c ≡ x) × (a ≡ y) × (b ≡ z))
two_sides a b c x y z ab bc ca h k = grind arith

module _ (corners : List Point) where
  -- the turn over three vertices is left
  abbrev IsLeftTurn : ℕ → ℕ → ℕ → Type 0
  IsLeftTurn x y z = IsLeft (whole (vertex corners x)) (whole (vertex corners y)) (whole (vertex corners z))

  module _ (t : Tri) (left : IsLeftTurn t.a t.b t.c) (x y z : ℕ) (h : HasSide t x y) (k : HasSide t y z) where
    -- what holds of a triangle's corners, and of three numbers in turn as from the next one on, holds of the ends of two of its sides
    pub by_turns : (P : ℕ → ℕ → ℕ → Type 0) → ((a b c : ℕ) → P a b c → P b c a) → P t.a t.b t.c → P x y z
    by_turns P turned p =
        let differ = corners_differ corners t left in
        elim (two_sides t.a t.b t.c x y z differ.0 differ.1 differ.2 h k) [
          | inl e ↦ named e.0 e.1 e.2 p
          | inr (inl e) ↦ named e.0 e.1 e.2 (turned t.a t.b t.c p)
          | inr (inr e) ↦ named e.0 e.1 e.2 (turned t.b t.c t.a (turned t.a t.b t.c p))
        ]
      where
        named : {a b c : ℕ} → a ≡ x → b ≡ y → c ≡ z → P a b c → P x y z
        named {a} {b} {c} e f g q = subst (λ n. P n y z) e (subst (λ n. P a n z) f (subst (λ n. P a b n) g q))

    -- a counterclockwise triangle turns left over them
    pub turns_left : IsLeftTurn x y z
    turns_left = by_turns IsLeftTurn (λ a b c. left_at_last (vertex corners a) (vertex corners b) (vertex corners c)) left

    module _ (p : Triple) where
      -- p is in the closed triangle of three vertices
      abbrev IsInOf : ℕ → ℕ → ℕ → Type 0
      IsInOf a b c = IsInTriangle (vertex corners a) (vertex corners b) (vertex corners c) p

      -- so it is with the vertices in turn
      in_turned : (a b c : ℕ) → IsInOf a b c → IsInOf b c a
      in_turned a b c i = record {
        not_right_of_first = i.not_right_of_second;
        not_right_of_second = i.not_right_of_third;
        not_right_of_third = i.not_right_of_first;
      }

      -- what is in the closed triangle of the three vertices is in the triangle,
      pub closed_by_sides : IsInOf x y z → IsInTri corners t p
      closed_by_sides =
          by_turns (λ a b c. IsInOf a b c → IsInTri corners t p) (λ a b c in_tri i. in_tri (in_turned c a b (in_turned b c a i))) (λ i. i)

      -- and the other way round
      pub closed_of_sides : IsInTri corners t p → IsInOf x y z
      closed_of_sides = by_turns IsInOf in_turned

    -- a side of a triangle with two given sides
    pub side_is_one : (i j : ℕ) → HasSide t i j → ((i ≡ x) × (j ≡ y)) ⊎ ((i ≡ y) × (j ≡ z)) ⊎ ((i ≡ z) × (j ≡ x))
    side_is_one i j s =
        by_turns (λ a b c. ((i ≡ a) × (j ≡ b)) ⊎ ((i ≡ b) × (j ≡ c)) ⊎ ((i ≡ c) × (j ≡ a)))
        (λ a b c one. elim one [ inl e ↦ inr (inr e) | inr (inl e) ↦ inl e | inr (inr e) ↦ inr (inl e) ])
        (elim s [ inl e ↦ inl (sym e.0, sym e.1) | inr (inl e) ↦ inr (inl (sym e.0, sym e.1)) | inr (inr e) ↦ inr (inr (sym e.0, sym e.1)) ])

  -- so two triangles do not share two sides in opposite directions
  pub not_two_shared : (t u : Tri) → IsLeftTurn t.a t.b t.c → IsLeftTurn u.a u.b u.c → (x y z : ℕ) → HasSide t x y → HasSide t y z
      → HasSide u y x → HasSide u z y → ⊥
  not_two_shared t u left_t left_u x y z xy yz yx zy =
      let there = turns_left t left_t x y z xy yz in
      let back = turns_left u left_u z y x zy yx in
      let e = determinant_swap_ends (whole (vertex corners x)) (whole (vertex corners y)) (whole (vertex corners z)) in
      omega (arith, ints, there, back, e)
