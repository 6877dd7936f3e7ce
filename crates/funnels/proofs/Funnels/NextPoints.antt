-- The points of the next funnel by their places: m and then some last points, or some first points and then m; and what holds of three of them.
use Rattle.std.proofs.Common.{◌≡◌, ap, ◌∙◌, List, [], ◌∷◌, ◌++◌, length, take, drop, ℕ, ◌+◌, ◌-◌, ◌<◌, ◌≤◌, add-one, arith, inl, inr, min}
use Rattle.std.proofs.lemmas.Bool.{cases_lt}
use Rattle.std.proofs.lemmas.List.{get_or-append_right, get_or-drop, get_or-take, get_or_append_left, length-append, length-drop}
use Rattle.std.proofs.lemmas.List.{length-take-le}
use Rattle.plane.specs.Point.{Point}
use Rattle.rings.specs.Prelude.{origin, point_at}
use Rattle.funnels.proofs.Funnels.ThreePoints.{by_points}

module _ (ns : List Point) (m : Point) (h : ℕ) where
  -- m and the points from place h on are so many,
  pub next_left_length : h < length ns → length (m ∷ drop h ns) ≡ length ns - h + 1
  next_left_length within = omega (arith, length-drop h ns)

  -- and after m come the points that were at h, h + 1 and so on
  pub next_left_old : (i : ℕ) → point_at (m ∷ drop h ns) (i + 1) ≡ point_at ns (h + i)
  next_left_old i = ap (λ n. point_at (m ∷ drop h ns) n) (add-one i) ∙ get_or-drop h ns i origin

  module _ (within : h < length ns) where
    -- so many are the first of them
    first_length : length (take (h + 1) ns) ≡ h + 1
    first_length = length-take-le (h + 1) ns (omega arith)

    -- the points to place h, and then m, are one more,
    pub next_right_length : length (take (h + 1) ns ++ m ∷ []) ≡ h + 2
    next_right_length = omega (arith, length-append (take (h + 1) ns) (m ∷ []), first_length)

    -- of which those to place h are where they were,
    pub next_right_old : (i : ℕ) → i ≤ h → point_at (take (h + 1) ns ++ m ∷ []) i ≡ point_at ns i
    next_right_old i le =
        get_or_append_left (take (h + 1) ns) (m ∷ []) origin i (omega (arith, first_length))
        ∙ get_or-take (h + 1) ns i origin (omega arith)

    -- and the last is m
    pub next_right_last : point_at (take (h + 1) ns ++ m ∷ []) (h + 1) ≡ m
    next_right_last =
        let none : h + 1 - (h + 1) ≡ 0 = omega arith in
        get_or-append_right (take (h + 1) ns) (m ∷ []) (h + 1) (h + 1) origin first_length (omega arith)
        ∙ ap (λ n. point_at (m ∷ []) n) none

-- ---- the points of a funnel that begins with a point m and goes on with the points from place h on, and what holds of three of them

module _ (ns : List Point) (h : ℕ) (m : Point) (ks : List Point) (new : point_at ks 0 ≡ m)
    (old : (i : ℕ) → point_at ks (i + 1) ≡ point_at ns (h + i)) where
  -- the first place has m,
  pub left_new_at : (i : ℕ) → i ≡ 0 → point_at ks i ≡ m
  left_new_at i e = ap (point_at ks) e ∙ new

  -- and each later one an old point
  pub left_old_at : (i j : ℕ) → 0 < i → h + i ≡ j + 1 → point_at ks i ≡ point_at ns j
  left_old_at i j some e =
      let first : i ≡ i - 1 + 1 = omega arith in
      let second : h + (i - 1) ≡ j = omega arith in
      ap (point_at ks) first ∙ old (i - 1) ∙ ap (point_at ns) second

  module _ (T : Point → Point → Point → Type 0) where
    -- what holds of three old points,
    pub left_keeps : (i j k p q s : ℕ) → 0 < i → 0 < j → 0 < k → h + i ≡ p + 1 → h + j ≡ q + 1 → h + k ≡ s + 1
        → T (point_at ns p) (point_at ns q) (point_at ns s) → T (point_at ks i) (point_at ks j) (point_at ks k)
    left_keeps i j k p q s hi hj hk ei ej ek =
        by_points T (point_at ns p) (point_at ns q) (point_at ns s) (point_at ks i) (point_at ks j) (point_at ks k)
        (left_old_at i p hi ei) (left_old_at j q hj ej) (left_old_at k s hk ek)

    -- or of two and m, holds of the points of the new funnel
    pub left_ends_at : (i j k p q : ℕ) → 0 < i → 0 < j → h + i ≡ p + 1 → h + j ≡ q + 1 → k ≡ 0
        → T (point_at ns p) (point_at ns q) m → T (point_at ks i) (point_at ks j) (point_at ks k)
    left_ends_at i j k p q hi hj ei ej ek =
        by_points T (point_at ns p) (point_at ns q) m (point_at ks i) (point_at ks j) (point_at ks k)
        (left_old_at i p hi ei) (left_old_at j q hj ej) (left_new_at k ek)

    module _ (a : ℕ) where
      -- so what holds at the old points of the left chain, and at place h with m, holds on the left,
      pub left_on_left : ((i : ℕ) → 0 < i → i < a → T (point_at ns (i + 1)) (point_at ns i) (point_at ns (i - 1)))
          → (h < a → T (point_at ns (h + 1)) (point_at ns h) m)
          → (i : ℕ) → 0 < i → i < a - h + 1 → T (point_at ks (i + 1)) (point_at ks i) (point_at ks (i - 1))
      left_on_left each last i some below = elim (cases_lt 1 i) [
        | inl later ↦
            let p = h + i - 1 in
            left_keeps (i + 1) i (i - 1) (p + 1) p (p - 1)
            (omega arith) some (omega arith) (omega arith) (omega arith) (omega arith) (each p (omega arith) (omega arith))
        | inr first ↦
            left_ends_at (i + 1) i (i - 1) (h + 1) h (omega arith) some (omega arith) (omega arith) (omega arith) (last (omega arith))
      ]

      -- and what holds at those of the right chain holds on the right
      pub left_on_right : length ks ≡ length ns - h + 1 → h < length ns
          → ((i : ℕ) → a < i → i + 1 < length ns → T (point_at ns (i - 1)) (point_at ns i) (point_at ns (i + 1)))
          → (i : ℕ) → a - h + 1 < i → i + 1 < length ks → T (point_at ks (i - 1)) (point_at ks i) (point_at ks (i + 1))
      left_on_right count top each i after within =
          let p = h + i - 1 in
          left_keeps (i - 1) i (i + 1) (p - 1) p (p + 1)
          (omega arith) (omega arith) (omega arith) (omega arith) (omega arith) (omega arith) (each p (omega arith) (omega arith))

-- ---- the points of a funnel of the points to place h, and then a point m, and what holds of three of them

module _ (ns : List Point) (h : ℕ) (m : Point) (ks : List Point)
    (old : (i : ℕ) → i ≤ h → point_at ks i ≡ point_at ns i) (new : point_at ks (h + 1) ≡ m) where
  -- the last place has m,
  pub right_new_at : (i : ℕ) → i ≡ h + 1 → point_at ks i ≡ m
  right_new_at i e = ap (point_at ks) e ∙ new

  -- and each place before it an old point
  pub right_old_at : (i j : ℕ) → i ≡ j → j ≤ h → point_at ks i ≡ point_at ns j
  right_old_at i j e le = old i (omega arith) ∙ ap (point_at ns) e

  module _ (T : Point → Point → Point → Type 0) where
    -- what holds of three old points,
    pub right_keeps : (i j k : ℕ) → i ≤ h → j ≤ h → k ≤ h
        → T (point_at ns i) (point_at ns j) (point_at ns k) → T (point_at ks i) (point_at ks j) (point_at ks k)
    right_keeps i j k hi hj hk =
        by_points T (point_at ns i) (point_at ns j) (point_at ns k) (point_at ks i) (point_at ks j) (point_at ks k)
        (old i hi) (old j hj) (old k hk)

    -- or of two and m, holds of the points of the new funnel
    pub right_ends_at : (i j k p q : ℕ) → i ≡ p → j ≡ q → p ≤ h → q ≤ h → k ≡ h + 1
        → T (point_at ns p) (point_at ns q) m → T (point_at ks i) (point_at ks j) (point_at ks k)
    right_ends_at i j k p q ei ej hp hq hk =
        by_points T (point_at ns p) (point_at ns q) m (point_at ks i) (point_at ks j) (point_at ks k)
        (right_old_at i p ei hp) (right_old_at j q ej hq) (right_new_at k hk)

    module _ (a : ℕ) where
      -- so what holds at the old points of the left chain holds on the left,
      pub right_on_left : ((i : ℕ) → 0 < i → i < a → T (point_at ns (i + 1)) (point_at ns i) (point_at ns (i - 1)))
          → (i : ℕ) → 0 < i → i < min a h → T (point_at ks (i + 1)) (point_at ks i) (point_at ks (i - 1))
      right_on_left each i some below =
          right_keeps (i + 1) i (i - 1) (omega arith) (omega arith) (omega arith) (each i some (omega arith))

      -- and what holds at those of the right chain, and at place h with m, holds on the right
      pub right_on_right : length ks ≡ h + 2 → h < length ns
          → ((i : ℕ) → a < i → i + 1 < length ns → T (point_at ns (i - 1)) (point_at ns i) (point_at ns (i + 1)))
          → (a < h → T (point_at ns (h - 1)) (point_at ns h) m)
          → (i : ℕ) → min a h < i → i + 1 < length ks → T (point_at ks (i - 1)) (point_at ks i) (point_at ks (i + 1))
      right_on_right count top each last i after within = elim (cases_lt i h) [
        | inl below ↦
            right_keeps (i - 1) i (i + 1) (omega arith) (omega arith) (omega arith) (each i (omega arith) (omega arith))
        | inr end ↦
            right_ends_at (i - 1) i (i + 1) (h - 1) h (omega arith) (omega arith) (omega arith) (omega arith) (omega arith)
            (last (omega arith))
      ]
