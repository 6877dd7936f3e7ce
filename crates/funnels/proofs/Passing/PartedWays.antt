-- Two ways from one point that pass a segment: they go on one ray, or each is ahead of the other where they pass.
use Rattle.std.proofs.Common.{◌≡◌, ◌⊎◌, inl, inr, true, ℤ, pos, ◌+ℤ◌, ◌-ℤ◌, ◌*ℤ◌, ◌<ℤ◌, ◌≤ℤ◌, arith}
use Rattle.std.proofs.lemmas.Int.{ints}
use Rattle.integer_algebra.proofs.SignSteps.{mean_not_negative, mean_not_positive, negative_not_zero, zero_not_negative, zero_not_positive}
use Rattle.integer_algebra.proofs.Signs.{is_negative, is_positive, is_zero, mul_negative, mul_negative_cases, mul_nonpositive, sign}
use Rattle.plane.proofs.Points.{same_sym, same_whole, whole_is_point}
use Rattle.plane.proofs.Segments.{on_is_straight, on_same_point, first_on_line, one_meeting, same_straight}
use Rattle.plane.proofs.Turns.{determinant_same_last, determinant_shift, determinant_swap_last, combination_of, determinant_along}
use Rattle.plane.specs.Line.{cross_product}
use Rattle.plane.specs.Prelude.{determinant, IsLeft, IsPoint, IsRight, IsSame, IsStraight, On, Point, Triple, whole}
use Rattle.funnels.proofs.Bends.{level_is_vertex, ray_ahead, ray_behind, AreOnRay, on_ray_back, turning_from_ray, turning_to_ray, turning_four}

-- ---- numbers

-- of the relation of four directions: where the one product is negative, so are the factors of the next
both_strict : {xz lr xl zr xr zl : ℤ} → xz *ℤ lr -ℤ xl *ℤ zr +ℤ xr *ℤ zl ≡ pos 0 → pos 0 <ℤ xz → lr <ℤ pos 0 → pos 0 ≤ℤ xl → zr ≤ℤ pos 0
    → xr ≤ℤ pos 0 → pos 0 ≤ℤ zl → (pos 0 <ℤ xl) × (zr <ℤ pos 0)
both_strict {xz} {lr} {xl} {zr} {xr} {zl} e hxz hlr hxl hzr hxr hzl =
    let first = mul_negative xz lr hxz hlr in
    let last = mul_nonpositive zl xr hzl hxr in
    let order : xr *ℤ zl ≡ zl *ℤ xr = omega (arith, ints) in
    elim (mul_negative_cases xl zr (omega (arith, ints))) [
      | inl h ↦ h
      | inr h ↦ absurd (omega (arith, ints))
    ]

module _ (t l r : Point) (right : IsRight (whole l) (whole r) (whole t)) where
  -- ---- one way

  -- from t the end r is right of the end l
  ends_turn : determinant (whole t) (whole l) (whole r) <ℤ pos 0
  ends_turn = rw (← determinant_shift (whole t) (whole l) (whole r)) right

  module _ (x : Triple) (at_x : IsPoint x) (side : On x (whole l) (whole r)) where
    -- a point of the segment is not t,
    not_t : ¬ IsSame x (whole t)
    not_t same =
        negative_not_zero right
        (same_straight (whole l) (whole r) (whole t) x at_x (same_sym same) (on_is_straight x (whole l) (whole r) at_x (whole_is_point l) (whole_is_point r) side))

    -- it is not left of l,
    from_first : determinant (whole t) (whole l) x ≤ℤ pos 0
    from_first =
        let c = combination_of x (whole l) (whole r) at_x (whole_is_point l) (whole_is_point r) side in
        mean_not_positive c.k c.l c.m _ _ _ c.k_positive c.l_nonnegative c.m_nonnegative (determinant_along x (whole l) (whole r) c (whole t) (whole l))
        (zero_not_positive (determinant_same_last (whole t) (whole l))) (omega (arith, ints, ends_turn))

    -- nor right of r,
    from_last : pos 0 ≤ℤ determinant (whole t) (whole r) x
    from_last =
        let c = combination_of x (whole l) (whole r) at_x (whole_is_point l) (whole_is_point r) side in
        let e = determinant_swap_last (whole t) (whole l) (whole r) in
        mean_not_negative c.k c.l c.m _ _ _ c.k_positive c.l_nonnegative c.m_nonnegative (determinant_along x (whole l) (whole r) c (whole t) (whole r))
        (omega (arith, ints, ends_turn, e)) (zero_not_negative (determinant_same_last (whole t) (whole r)))

    -- so the ends are on its two sides
    to_first : pos 0 ≤ℤ determinant (whole t) x (whole l)
    to_first = let e = determinant_swap_last (whole t) (whole l) x in omega (arith, ints, from_first, e)

    to_last : determinant (whole t) x (whole r) ≤ℤ pos 0
    to_last = let e = determinant_swap_last (whole t) (whole r) x in omega (arith, ints, from_last, e)

    -- and a way from t over it goes on one ray with it
    over : (p : Point) → ¬ (p ≡ t) → On x (whole t) (whole p) → AreOnRay (whole t) x (whole p)
    over p differ way = record {
      first_rational = at_x;
      last_rational = whole_is_point p;
      first_differs = not_t;
      last_differs = λ same. differ (same_whole p t same);
      on_ray = inl way;
    }

  -- ---- two ways

  module _ (p q : Point) (x z : Triple) (at_x : IsPoint x) (at_z : IsPoint z) (differ : ¬ (p ≡ t)) (differ_too : ¬ (q ≡ t))
      (way : On x (whole t) (whole p)) (side : On x (whole l) (whole r)) (way_too : On z (whole t) (whole q)) (side_too : On z (whole l) (whole r)) where
    ray : AreOnRay (whole t) x (whole p)
    ray = over x at_x side p differ way

    ray_too : AreOnRay (whole t) z (whole q)
    ray_too = over z at_z side_too q differ_too way_too

    -- where the one is left of the other,
    module _ (left : IsLeft (whole t) (whole p) (whole q)) where
      -- the other passes left of it,
      pub passes_left : pos 0 <ℤ determinant (whole t) (whole p) z
      passes_left = (turning_to_ray t true (whole q) z (whole p) (on_ray_back ray_too)).positive left

      -- and it passes right of the other
      pub passes_right : determinant (whole t) (whole q) x <ℤ pos 0
      passes_right =
          let e = determinant_swap_last (whole t) (whole p) (whole q) in
          (turning_to_ray t true (whole p) x (whole q) (on_ray_back ray)).negative (omega (arith, ints, left, e))

      points_turn : pos 0 <ℤ determinant (whole t) x z
      points_turn = (turning_from_ray t true (whole p) x z (on_ray_back ray)).positive passes_left

      points_strict : (pos 0 <ℤ determinant (whole t) x (whole l)) × (determinant (whole t) z (whole r) <ℤ pos 0)
      points_strict =
          both_strict (turning_four true t x z (whole l) (whole r)) points_turn ends_turn (to_first x at_x side) (to_last z at_z side_too)
          (to_last x at_x side) (to_first z at_z side_too)

      -- the end l is strictly left of the one, and r right of the other
      pub first_left : pos 0 <ℤ determinant (whole t) (whole p) (whole l)
      first_left = (turning_from_ray t true x (whole p) (whole l) ray).positive points_strict.0

      pub last_right : determinant (whole t) (whole q) (whole r) <ℤ pos 0
      last_right = (turning_from_ray t true z (whole q) (whole r) ray_too).negative points_strict.1

    -- where they are on one line,
    module _ (straight : IsStraight (whole t) (whole p) (whole q)) where
      -- they pass at one point,
      not_parallel : ¬ (cross_product l r t p ≡ pos 0)
      not_parallel parallel =
          negative_not_zero right
          (first_on_line l r t p x at_x parallel (on_is_straight x (whole l) (whole r) at_x (whole_is_point l) (whole_is_point r) side) way)

      one_point : IsSame z x
      one_point =
          one_meeting l r t p z x not_parallel (on_is_straight z (whole l) (whole r) at_z (whole_is_point l) (whole_is_point r) side_too)
          (on_is_straight x (whole l) (whole r) at_x (whole_is_point l) (whole_is_point r) side)
          ((turning_to_ray t true (whole q) z (whole p) (on_ray_back ray_too)).zero straight)
          (on_is_straight x (whole t) (whole p) at_x (whole_is_point t) (whole_is_point p) way)

      ray_of_other : AreOnRay (whole t) x (whole q)
      ray_of_other = over x at_x side q differ_too (on_same_point at_z one_point way_too)

      -- so on one ray
      pub on_one_ray : On (whole q) (whole t) (whole p) ⊎ On (whole p) (whole t) (whole q)
      on_one_ray = elim (sign (determinant (whole t) (whole l) x)) [
        | is_positive h ↦ let low = from_first x at_x side in absurd (omega (arith, ints))
        | is_negative h ↦
            ray_behind true t (whole l) (whole p) (whole q) (whole_is_point p) (whole_is_point q) straight
            ((turning_to_ray t true x (whole p) (whole l) ray).negative h) ((turning_to_ray t true x (whole q) (whole l) ray_of_other).negative h)
        | is_zero h ↦ elim (sign (determinant (whole t) (whole r) x)) [
          | is_negative k ↦ let high = from_last x at_x side in absurd (omega (arith, ints))
          | is_positive k ↦
              ray_ahead true t (whole r) (whole p) (whole q) (whole_is_point p) (whole_is_point q) straight
              ((turning_to_ray t true x (whole p) (whole r) ray).positive k) ((turning_to_ray t true x (whole q) (whole r) ray_of_other).positive k)
          | is_zero k ↦
              let e = determinant_swap_last (whole t) (whole l) (whole r) in
              let f = determinant_swap_last (whole t) (whole l) x in
              absurd (not_t x at_x side
              (level_is_vertex true t (whole r) (whole l) x (omega (arith, ints, ends_turn, e)) k (omega (arith, ints, h, f))))
        ]
      ]
