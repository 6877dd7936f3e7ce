-- A way out of a closed triangle: the point at which it leaves, and the side that this point is on.
-- Edges that are apart, two of which are the sides of a triangle at one vertex: how another edge can meet these sides.
use Rattle.std.proofs.Common.{◌≡◌, ◌⊎◌, inl, inr, refl, sym, subst, ◌∙◌, ℤ, pos, ◌-ℤ◌, ◌*ℤ◌, ◌<ℤ◌, ◌≤ℤ◌, arith, ap, List}
use Rattle.std.proofs.lemmas.Int.{ints}
use Rattle.integer_algebra.proofs.Laws.{mul_comm, zero-mul}
use Rattle.integer_algebra.proofs.SignSteps.{mean_last_positive, not_both, weak, weak_order, zero_not_negative, positive_not_zero}
use Rattle.integer_algebra.proofs.Signs.{lt_or_le, mul_negative, mul_nonnegative}
use Rattle.plane.proofs.Meetings.{no_value, zero_combination, zero_point}
use Rattle.plane.proofs.Points.{same_whole, whole_is_point}
use Rattle.plane.proofs.Segments.{on_first_end, on_last_end, on_nested}
use Rattle.plane.proofs.Turns.{determinant_along, on_of_combination, determinant_same}
use Rattle.plane.specs.Prelude.{determinant, height_over, IsInTriangle, IsLeft, IsPoint, IsRight, IsSame, IsStraight, On, Point, Triple}
use Rattle.plane.specs.Prelude.{whole}
use Rattle.rings.specs.Apart.{AreApart}
use Rattle.rings.specs.Edge.{Edge, HasEdge, HasEnd, IsOn}
use Rattle.ring_laws.proofs.Triangles.Triangles.{in_triangle, not_right_between, height_of_first, height_of_last, on_first_side}
use Rattle.ring_laws.proofs.Triangles.Triangles.{on_second_side}

-- ---- numbers

-- a multiple that is not negative, less one that is
weights_apart : (f g v w : ℤ) → pos 0 ≤ℤ f → g <ℤ pos 0 → pos 0 <ℤ v → pos 0 <ℤ w → pos 0 <ℤ (f *ℤ w -ℤ g *ℤ v)
weights_apart f g v w hf hg hv hw =
    omega (arith, ints, mul_nonnegative f w hf (weak hw), mul_negative v g hv hg, mul_comm v g)

-- ---- the way up to where a determinant is 0

-- a point on the way from x to y, not right of the line from s to t: y, or a point of that line
record Clip (s t x y : Triple) : Type 0 where
  point : Triple
  rational : IsPoint point
  on_way : On point x y
  not_right : pos 0 ≤ℤ determinant s t point
  ending : (IsStraight s t point × IsRight s t y) ⊎ (point ≡ y)
  rises : pos 0 <ℤ determinant s t x → (a b : Triple) → pos 0 ≤ℤ determinant a b x → pos 0 <ℤ determinant a b y
      → pos 0 <ℤ determinant a b point

module _ (s t x y : Triple) (at_x : IsPoint x) (at_y : IsPoint y) (not_right : pos 0 ≤ℤ determinant s t x) where
  -- where y is right of the line, it is a point of the line
  falls : IsRight s t y → Clip s t x y
  unfolding zero_combination
  falls right =
      let f = determinant s t x in
      let g = determinant s t y in
      let z = zero_point f g x y in
      let c = zero_combination f g x y not_right (weak_order right) in
      let at_z : IsPoint z = weights_apart f g x.W y.W not_right right at_x at_y in
      let zero : IsStraight s t z = no_value _ f g (determinant_along z x y c s t) in
      record {
        point = z;
        rational = at_z;
        on_way = on_of_combination z x y at_z at_x at_y c;
        not_right = zero_not_negative zero;
        ending = inl (zero, right);
        rises = λ up a b low high.
            mean_last_positive c.k c.l c.m _ _ _ c.k_positive c.l_nonnegative up (determinant_along z x y c a b) low high;
      }

  -- else it is y
  clip : Clip s t x y
  clip = elim (lt_or_le (determinant s t y) (pos 0)) [
    | inl right ↦ falls right
    | inr stays ↦ record {
      point = y;
      rational = at_y;
      on_way = on_last_end x y;
      not_right = stays;
      ending = inr refl;
      rises = λ up a b low high. high;
    }
  ]

-- ---- out of a triangle

module _ (u v w : Point) where
  -- a point of the triangle on the way from x to a, on the first or the second side, of which a is right
  pub record Exit (x a : Triple) : Type 0 where
    pub point : Triple
    pub rational : IsPoint point
    pub on_way : On point x a
    pub inside : IsInTriangle u v w point
    pub side : (IsStraight (whole u) (whole v) point × IsRight (whole u) (whole v) a)
        ⊎ (IsStraight (whole v) (whole w) point × IsRight (whole v) (whole w) a)
    pub high : pos 0 <ℤ height_over u w a → pos 0 <ℤ height_over u w point

  module _ (x a : Triple) (at_x : IsPoint x) (at_a : IsPoint a) (outside : ¬ IsInTriangle u v w a) where
    -- where x is strictly left of the first two sides, and neither x nor a is right of the third
    module _ (first : pos 0 <ℤ determinant (whole u) (whole v) x) (second : pos 0 <ℤ determinant (whole v) (whole w) x)
        (low : pos 0 ≤ℤ height_over u w x) (high : pos 0 ≤ℤ height_over u w a) where
      -- the way to a leaves by the first or by the second
      pub exit : Exit x a
      exit =
          let p = clip (whole u) (whole v) x a at_x at_a (weak first) in
          let q = clip (whole v) (whole w) x p.point at_x p.rational (weak second) in
          let on_way = on_nested q.point x p.point x a q.rational at_x p.rational at_x at_a (on_first_end x a) p.on_way q.on_way in
          let not_right =
          not_right_between (whole u) (whole v) q.point x p.point q.rational at_x p.rational (weak first) p.not_right q.on_way
          in
          let not_low = not_right_between (whole w) (whole u) q.point x a q.rational at_x at_a low high on_way in
          let inside = in_triangle u v w q.point not_right q.not_right not_low in
          record {
            point = q.point;
            rational = q.rational;
            on_way = on_way;
            inside = inside;
            side = elim q.ending [
              | inl k ↦ inr (k.0, right_too p k.1)
              | inr e ↦ elim p.ending [
                | inl k ↦ inl (subst (λ (z : Triple). IsStraight (whole u) (whole v) z) (sym e) k.0, k.1)
                | inr f ↦ absurd (outside (subst (λ (z : Triple). IsInTriangle u v w z) (e ∙ f) inside))
              ]
            ];
            high = λ up. q.rises second (whole w) (whole u) low (p.rises first (whole w) (whole u) low up);
          }
        where
          right_too : (p : Clip (whole u) (whole v) x a) → IsRight (whole v) (whole w) p.point → IsRight (whole v) (whole w) a
          right_too p right = elim (lt_or_le (determinant (whole v) (whole w) a) (pos 0)) [
            | inl h ↦ h
            | inr h ↦
                absurd (not_both right
                (not_right_between (whole v) (whole w) p.point x a p.rational at_x at_a (weak second) h p.on_way))
          ]

-- an end of an edge is on it
pub end_is_on : (e : Edge) (a : Point) → HasEnd e a → IsOn e (whole a)
end_is_on e a (inl h) = subst (λ (z : Point). On (whole z) (whole e.from) (whole e.to)) h (on_first_end (whole e.from) (whole e.to))
end_is_on e a (inr h) = subst (λ (z : Point). On (whole z) (whole e.from) (whole e.to)) h (on_last_end (whole e.from) (whole e.to))

-- a number that agrees with 0 through a factor is 0
no_number : (z f w : ℤ) → f ≡ pos 0 → z *ℤ pos 1 ≡ f *ℤ w → z ≡ pos 0
no_number z f w none e = omega (arith, ints, e, ap (λ n. n *ℤ w) none, zero-mul w)

-- a determinant that is 0 at a whole point is 0 at each triple of it
zero_at_same : (a b y : Triple) (c : Point) → IsSame y (whole c) → determinant a b (whole c) ≡ pos 0 → determinant a b y ≡ pos 0
zero_at_same a b y c same none = no_number _ _ y.W none (determinant_same a b y (whole c) same)

-- an end of one edge that is on another is an end of that one
pub end_of_other : (es : List Edge) → AreApart es → (f e : Edge) → HasEdge es f → HasEdge es e → (z : Point) → HasEnd f z → IsOn e (whole z)
    → HasEnd e z
end_of_other es apart f e has_f has_e z end on = elim (apart f e has_f has_e) [
  | inl same ↦ subst (λ (g : Edge). HasEnd g z) same end
  | inr meet ↦
      let c = meet (whole z) (whole_is_point z) (end_is_on f z end) on in
      subst (λ (p : Point). HasEnd e p) (sym (same_whole z c.end c.same)) c.of_second
]

module _ (es : List Edge) (apart : AreApart es) (u v w : Point)
    (first : HasEdge es (record { from = u; to = v })) (second : HasEdge es (record { from = v; to = w })) where
  module _ (e : Edge) (has : HasEdge es e) where
    -- an edge that meets another, from a to v or from v to a, has the end v, or meets it at the end a
    meets_side : (f : Edge) → HasEdge es f → (a : Point) → HasEnd f v → ((z : Point) → HasEnd f z → (a ≡ z) ⊎ (v ≡ z))
        → (y : Triple) → IsPoint y → IsOn e y → IsOn f y → HasEnd e v ⊎ (HasEnd e a × IsSame y (whole a))
    meets_side f has_f a end ends y at_y on_edge on_side = elim (apart e f has has_f) [
      | inl same ↦ inl (subst (λ (g : Edge). HasEnd g v) (sym same) end)
      | inr meet ↦
          let c = meet y at_y on_edge on_side in
          elim (ends c.end c.of_second) [
            | inl h ↦ inr (
              subst (λ (z : Point). HasEnd e z) (sym h) c.of_first,
              subst (λ (z : Point). IsSame y (whole z)) (sym h) c.same,
            )
            | inr h ↦ inl (subst (λ (z : Point). HasEnd e z) (sym h) c.of_first)
          ]
    ]

    -- so it is with the first side,
    pub meets_first : (y : Triple) → IsPoint y → IsOn e y → On y (whole u) (whole v) → HasEnd e v ⊎ (HasEnd e u × IsSame y (whole u))
    meets_first = meets_side (record { from = u; to = v }) first u (inr refl) (λ z h. h)

    -- and with the second
    pub meets_second : (y : Triple) → IsPoint y → IsOn e y → On y (whole v) (whole w) → HasEnd e v ⊎ (HasEnd e w × IsSame y (whole w))
    meets_second = meets_side (record { from = v; to = w }) second w (inl refl) (λ z h. elim h [ inl k ↦ inr k | inr k ↦ inl k ])

    -- how an edge can leave the triangle by a side at v, toward its end a
    pub data WayOut (a : Point) : Type 0 where
      at_middle : HasEnd e v → WayOut a
      at_first : HasEnd e u → IsRight (whole u) (whole v) (whole a) → ¬ (pos 0 <ℤ height_over u w (whole a)) → WayOut a
      at_last : HasEnd e w → IsRight (whole v) (whole w) (whole a) → ¬ (pos 0 <ℤ height_over u w (whole a)) → WayOut a

    -- from a point strictly left of both these sides, toward an end that is outside and not below
    pub way_out : IsLeft (whole u) (whole v) (whole w) → (x : Triple) → IsPoint x → IsOn e x
        → IsLeft (whole u) (whole v) x → IsLeft (whole v) (whole w) x → pos 0 ≤ℤ height_over u w x
        → (a : Point) → HasEnd e a → ¬ IsInTriangle u v w (whole a) → pos 0 ≤ℤ height_over u w (whole a) → WayOut a
    way_out left x at_x on_edge x_first x_second low a end outside high =
        let z = exit u v w x (whole a) at_x (whole_is_point a) outside x_first x_second low high in
        let on = on_nested z.point x (whole a) (whole e.from) (whole e.to) z.rational at_x (whole_is_point a)
        (whole_is_point e.from) (whole_is_point e.to) on_edge (end_is_on e a end) z.on_way in
        elim z.side [
          | inl k ↦ elim (meets_first z.point z.rational on (on_first_side u v w left z.point z.rational z.inside k.0)) [
            | inl h ↦ at_middle h
            | inr h ↦
                let flat = zero_at_same (whole w) (whole u) z.point u h.1 (height_of_first u v w) in
                at_first h.0 k.1 (λ up. positive_not_zero (z.high up) flat)
          ]
          | inr k ↦ elim (meets_second z.point z.rational on (on_second_side u v w left z.point z.rational z.inside k.0)) [
            | inl h ↦ at_middle h
            | inr h ↦
                let flat = zero_at_same (whole w) (whole u) z.point w h.1 (height_of_last u v w) in
                at_last h.0 k.1 (λ up. positive_not_zero (z.high up) flat)
          ]
        ]
