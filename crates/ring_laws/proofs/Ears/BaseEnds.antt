-- The ends of the first of some closed edges are as far to the right as those of the others.
use Rattle.std.proofs.Common.{◌≡◌, ◌⊎◌, inl, inr, [], ◌∷◌, refl, sym, ◌∙◌, List, ℤ, pos, ◌+ℤ◌, ◌-ℤ◌, ◌<ℤ◌, ◌≤ℤ◌, arith}
use Rattle.std.proofs.lemmas.Int.{ints}
use Rattle.integer_algebra.proofs.Signs.{lt_or_le}
use Rattle.plane.proofs.Order.{same_coordinates}
use Rattle.plane.specs.Point.{Point}
use Rattle.rings.proofs.Vertices.{AllEnds, all_ends_map}
use Rattle.rings.specs.Edge.{Edge, edge, growth, IsClosed}

-- a value that counts only where a number is below another
counted : {x y : ℤ} → (x <ℤ y) ⊎ (y ≤ℤ x) → ℤ → ℤ
counted (inl h) n = n
counted (inr h) n = pos 0

-- it counts where the number is below,
counted_below : (x y n : ℤ) (d : (x <ℤ y) ⊎ (y ≤ℤ x)) → x <ℤ y → counted d n ≡ n
unfolding counted
counted_below x y n (inl h) k = refl
counted_below x y n (inr h) k = absurd (omega (arith, ints))

-- and not elsewhere
counted_above : (x y n : ℤ) (d : (x <ℤ y) ⊎ (y ≤ℤ x)) → y ≤ℤ x → counted d n ≡ pos 0
unfolding counted
counted_above x y n (inl h) k = absurd (omega (arith, ints))
counted_above x y n (inr h) k = refl

-- sums of nothing
nothing_more : (a b g : ℤ) → a ≡ pos 0 → b ≡ pos 0 → g ≡ pos 0 → (b -ℤ a) +ℤ g ≡ pos 0
nothing_more a b g h k l = omega (arith, ints)

-- a function that is 0 at all ends does not grow
no_growth : (g : Point → ℤ) (es : List Edge) → AllEnds (λ a. g a ≡ pos 0) es → growth g es ≡ pos 0
no_growth g [] ends = refl
no_growth g (e ∷ es) (from, to, rest) = nothing_more _ _ _ from to (no_growth g es rest)

-- so it is the same at both ends of one more edge that closes the others
equal_ends : (gu gw g : ℤ) → (gw -ℤ gu) +ℤ g ≡ pos 0 → g ≡ pos 0 → gu ≡ gw
equal_ends gu gw g h k = omega (arith, ints)

module _ (u w : Point) (x : ℤ) (es : List Edge) (closed : IsClosed (edge u w ∷ es)) (least : AllEnds (λ a. x ≤ℤ a.x) es) where
  -- a function of the points left of x is the same at u and at w
  same_value : (f : Point → ℤ) → counted (lt_or_le u.x x) (f u) ≡ counted (lt_or_le w.x x) (f w)
  same_value f =
      let g = λ (a : Point). counted (lt_or_le a.x x) (f a) in
      equal_ends (g u) (g w) _ (closed g)
      (no_growth g es (all_ends_map (λ a h. counted_above a.x x (f a) (lt_or_le a.x x) h) es least))

  -- so they are not both left of x, but where they are equal
  both_left : u.x <ℤ x → w.x <ℤ x → u ≡ w
  both_left hu hw =
      let ex = same_value (λ a. a.x) in
      let ey = same_value (λ a. a.y) in
      same_coordinates u w
      (sym (counted_below u.x x u.x (lt_or_le u.x x) hu) ∙ ex ∙ counted_below w.x x w.x (lt_or_le w.x x) hw)
      (sym (counted_below u.x x u.y (lt_or_le u.x x) hu) ∙ ey ∙ counted_below w.x x w.y (lt_or_le w.x x) hw)

  -- u is not alone there,
  not_first_alone : u.x <ℤ x → x ≤ℤ w.x → ⊥
  not_first_alone hu hw =
      let e = same_value (λ a. pos 1) in
      let one = counted_below u.x x (pos 1) (lt_or_le u.x x) hu in
      let none = counted_above w.x x (pos 1) (lt_or_le w.x x) hw in
      omega (arith, ints, sym one ∙ e ∙ none)

  -- nor is w
  not_last_alone : x ≤ℤ u.x → w.x <ℤ x → ⊥
  not_last_alone hu hw =
      let e = same_value (λ a. pos 1) in
      let one = counted_below w.x x (pos 1) (lt_or_le w.x x) hw in
      let none = counted_above u.x x (pos 1) (lt_or_le u.x x) hu in
      omega (arith, ints, sym none ∙ e ∙ one)

  -- where they differ, neither is left of x
  pub base_ends : ¬ (u ≡ w) → (x ≤ℤ u.x) × (x ≤ℤ w.x)
  base_ends differ = elim (lt_or_le u.x x) [
    | inl hu ↦ elim (lt_or_le w.x x) [ inl hw ↦ absurd (differ (both_left hu hw)) | inr kw ↦ absurd (not_first_alone hu kw) ]
    | inr ku ↦ elim (lt_or_le w.x x) [ inl hw ↦ absurd (not_last_alone ku hw) | inr kw ↦ (ku, kw) ]
  ]
