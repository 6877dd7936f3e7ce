-- The points of a step past no vertex that b is not on, without its ends: no named point is one of them, or between two of them.
use Rattle.std.proofs.Common.{◌≡◌, ◌⊎◌, inl, inr, subst, List}
use Rattle.plane.proofs.Order.{point_or_other}
use Rattle.plane.proofs.Points.{same_sym, whole_is_point}
use Rattle.plane.proofs.Segments.{on_antisym, on_first_end, on_nested, on_reversed, on_same_point, on_total}
use Rattle.plane.specs.Prelude.{IsSame, On, Point, Triple, whole}
use Rattle.rings.specs.Full.{IsVertexBetween}
use Rattle.hulls.proofs.Entrances.{IsBetween, IsNamed, between_back}

-- ---- an end

module _ (x y : Point) where
  -- the first end is not between two inner points,
  first_off : (z w : Triple) → IsBetween x y z → IsBetween x y w → ¬ On (whole x) z w
  first_off z w at_z at_w on =
      let X = whole x in
      let at_x = whole_is_point x in
      elim (on_total z w X (whole y) at_z.rational at_w.rational at_x (whole_is_point y) at_z.on at_w.on) [
        | inl before ↦
            at_z.not_first (same_sym (on_antisym X z w at_x at_z.rational at_w.rational (on_reversed X z w on) (on_reversed z X w before)))
        | inr after ↦ at_w.not_first (same_sym (on_antisym X w z at_x at_w.rational at_z.rational on (on_reversed w X z after)))
      ]

  -- and the last one is not between the first and an inner point
  last_off : (z : Triple) → IsBetween x y z → ¬ On (whole y) (whole x) z
  last_off z at_z on =
      at_z.not_last (same_sym (on_antisym (whole y) z (whole x) (whole_is_point y) at_z.rational (whole_is_point x) on at_z.on))

-- ---- named points

module _ (corners : List Point) (b x y : Point) (clear : (v : Point) → ¬ IsVertexBetween corners x y v) (off : ¬ On (whole b) (whole x) (whole y))
    (g : Point) (named : IsNamed corners b g) where
  -- a named point of the step is an end,
  pub named_at_end : On (whole g) (whole x) (whole y) → (g ≡ x) ⊎ (g ≡ y)
  named_at_end on = elim named [
    | inl same ↦ absurd (off (subst (λ (p : Point). On (whole p) (whole x) (whole y)) same on))
    | inr is_vertex ↦ elim (point_or_other g x) [
      | inl first ↦ inl first
      | inr not_first ↦ elim (point_or_other g y) [
        | inl last ↦ inr last
        | inr not_last ↦
            let (v, in_ring, is) = is_vertex in
            absurd (clear g (record { i = v; in_ring = in_ring; is_vertex = is; on = on; not_first = not_first; not_last = not_last }))
      ]
    ]
  ]

  -- so it is no inner point,
  pub not_named : (z : Triple) → IsBetween x y z → ¬ IsSame z (whole g)
  not_named z at_z same = elim (named_at_end (on_same_point at_z.rational same at_z.on)) [
    | inl first ↦ at_z.not_first (subst (λ (p : Point). IsSame z (whole p)) first same)
    | inr last ↦ at_z.not_last (subst (λ (p : Point). IsSame z (whole p)) last same)
  ]

  -- not between two of them,
  pub named_off : (z w : Triple) → IsBetween x y z → IsBetween x y w → ¬ On (whole g) z w
  named_off z w at_z at_w on =
      elim (named_at_end (on_nested (whole g) z w (whole x) (whole y) (whole_is_point g) at_z.rational at_w.rational (whole_is_point x)
      (whole_is_point y) at_z.on at_w.on on)) [
        | inl first ↦ first_off x y z w at_z at_w (subst (λ (p : Point). On (whole p) z w) first on)
        | inr last ↦
            first_off y x z w (between_back x y z at_z) (between_back x y w at_w) (subst (λ (p : Point). On (whole p) z w) last on)
      ]

  -- and between the first end and one of them only as the end
  pub named_near_end : (z : Triple) → IsBetween x y z → On (whole g) (whole x) z → g ≡ x
  named_near_end z at_z on =
      elim (named_at_end (on_nested (whole g) (whole x) z (whole x) (whole y) (whole_is_point g) (whole_is_point x) at_z.rational
      (whole_is_point x) (whole_is_point y) (on_first_end (whole x) (whole y)) at_z.on on)) [
        | inl first ↦ first
        | inr last ↦ absurd (last_off x y z at_z (subst (λ (p : Point). On (whole p) (whole x) z) last on))
      ]
