-- The first hit: on the way from one rational point to another, the first point that is on some edge of a list.
use Rattle.std.proofs.Common.{◌⊎◌, inl, inr, List, [], ◌∷◌}
use Rattle.plane.proofs.Meetings.{First, first_or_none}
use Rattle.plane.proofs.Points.{whole_is_point}
use Rattle.plane.proofs.Segments.{on_first_end, on_antisym, on_total, on_nested}
use Rattle.plane.specs.Prelude.{IsPoint, IsSame, Meet, On, Triple, whole}
use Rattle.rings.specs.Across.{Misses}
use Rattle.rings.specs.Edge.{Edge, IsOnSome}

-- a rational point on the way from y to t that is on some edge, and before all others
pub record FirstHit (y t : Triple) (es : List Edge) : Type 0 where
  pub point : Triple
  pub rational : IsPoint point
  pub on_way : On point y t
  pub on_edge : IsOnSome es point
  pub before : (z : Triple) → IsPoint z → On z y t → IsOnSome es z → On point y z

module _ (y t : Triple) (at_y : IsPoint y) (at_t : IsPoint t) where
  -- a point before another is before all that are after that one
  before_later : (p q z : Triple) → IsPoint p → IsPoint q → IsPoint z → On p y q → On q y z → On p y z
  before_later p q z at_p at_q at_z first second =
      on_nested p y q y z at_p at_y at_q at_y at_z (on_first_end y z) second first

  module _ (e : Edge) (es : List Edge) where
    -- of the first point of an edge and the first hit of the others, the one that is before the other is the first of all
    edge_first : (f : First y t (whole e.from) (whole e.to))
        → ((z : Triple) → IsPoint z → On z y t → IsOnSome es z → On f.point y z) → FirstHit y t (e ∷ es)
    edge_first f rest = record {
      point = f.point;
      rational = f.rational;
      on_way = f.on_way;
      on_edge = inl f.on_segment;
      before = λ z at_z way on. elim on [ inl k ↦ f.before z at_z way k | inr k ↦ rest z at_z way k ];
    }

    -- so it is where the first hit of the others is before
    others_first : (h : FirstHit y t es)
        → ((z : Triple) → IsPoint z → On z y t → On z (whole e.from) (whole e.to) → On h.point y z) → FirstHit y t (e ∷ es)
    others_first h rest = record {
      point = h.point;
      rational = h.rational;
      on_way = h.on_way;
      on_edge = inr h.on_edge;
      before = λ z at_z way on. elim on [ inl k ↦ rest z at_z way k | inr k ↦ h.before z at_z way k ];
    }

    -- one of the two is before the other
    nearer_first : First y t (whole e.from) (whole e.to) → FirstHit y t es → FirstHit y t (e ∷ es)
    nearer_first f h = elim (on_total f.point h.point y t f.rational h.rational at_y at_t f.on_way h.on_way) [
      | inl on ↦
          edge_first f (λ z at_z way k. before_later f.point h.point z f.rational h.rational at_z on (h.before z at_z way k))
      | inr on ↦
          others_first h (λ z at_z way k. before_later h.point f.point z h.rational f.rational at_z on (f.before z at_z way k))
    ]

    -- with the edge there is a first hit, or all are missed
    with_edge : First y t (whole e.from) (whole e.to) ⊎ (¬ Meet y t (whole e.from) (whole e.to))
        → FirstHit y t es ⊎ Misses y t es → FirstHit y t (e ∷ es) ⊎ Misses y t (e ∷ es)
    with_edge (inl f) (inl h) = inl (nearer_first f h)
    with_edge (inl f) (inr misses) = inl (edge_first f (λ z at_z way k. absurd (misses z at_z way k)))
    with_edge (inr n) (inl h) = inl (others_first h (λ z at_z way k.
        absurd (n (record { point = z; rational = at_z; on_first = way; on_second = k }))))
    with_edge (inr n) (inr misses) = inr (λ z at_z way on. elim on [
      | inl k ↦ n (record { point = z; rational = at_z; on_first = way; on_second = k })
      | inr k ↦ misses z at_z way k
    ])

  -- the way from y to t has a first hit, or it misses all edges
  pub first_hit_or_misses : (es : List Edge) → FirstHit y t es ⊎ Misses y t es
  first_hit_or_misses [] = inr (λ z at_z way on. on)
  first_hit_or_misses (e ∷ es) =
      let one = first_or_none y t at_y at_t (whole e.from) (whole e.to) (whole_is_point e.from) (whole_is_point e.to) in
      with_edge e es one (first_hit_or_misses es)

  -- so it has a first hit where a point of it is on some edge
  pub first_hit : (es : List Edge) (x : Triple) → IsPoint x → On x y t → IsOnSome es x → FirstHit y t es
  first_hit es x at_x way on = elim (first_hit_or_misses es) [ inl h ↦ h | inr misses ↦ absurd (misses x at_x way on) ]

  -- before the first hit the way misses all edges
  pub misses_before : (es : List Edge) (h : FirstHit y t es) (w : Triple) → IsPoint w → On w y h.point
      → ¬ (IsSame w h.point) → Misses y w es
  misses_before es h w at_w near differ z at_z on_z on_es =
      let at_x = h.rational in
      let within = before_later z w h.point at_z at_w at_x on_z near in
      let way = on_nested z y h.point y t at_z at_y at_x at_y at_t (on_first_end y t) h.on_way within in
      let beyond = before_later h.point z w at_x at_z at_w (h.before z at_z way on_es) on_z in
      differ (on_antisym w h.point y at_w at_x at_y near beyond)
