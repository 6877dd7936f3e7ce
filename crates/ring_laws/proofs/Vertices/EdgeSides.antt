-- Beside an edge of a ring that runs counterclockwise: a point from which the way to a point strictly inside the edge meets no
-- other edge is in the ring on the left of the edge, and not on its right.
use Rattle.std.proofs.Common.{◌≡◌, inl, inr, sym, subst, ap, ◌∙◌, ℕ, ◌<◌, pos, ◌+ℤ◌, List, ◌∷◌, ◌++◌, length, arith}
use Rattle.std.proofs.lemmas.Int.{ints}
use Rattle.plane.proofs.Nearness.{toward, toward_differs, toward_is_point, toward_on}
use Rattle.plane.proofs.Points.{whole_is_point}
use Rattle.plane.proofs.Segments.{left_not_on, middle, middle_first, middle_is_point, middle_last, middle_on, on_antisym, on_first_end, on_last_end}
use Rattle.plane.proofs.Segments.{on_nested, on_reversed, on_same_point, right_not_on, within_from}
use Rattle.plane.specs.Prelude.{IsLeft, IsPoint, IsRight, IsSame, Point, Triple, whole}
use Rattle.rings.proofs.Crossings.{winding-append}
use Rattle.rings.proofs.Inside.{in_from_odd, not_in_from_even}
use Rattle.rings.proofs.Simple.{proper_edges}
use Rattle.rings.proofs.Vertices.{closed_edges_of, growth-append, has_cases, has_left, has_right, on_none_with}
use Rattle.rings.specs.Across.{Misses}
use Rattle.rings.specs.Apart.{IsApartRing}
use Rattle.rings.specs.Prelude.{Edge, edges_of, HasEdge, IsClosed, IsIn, IsOn, IsOnSome, winding}
use Rattle.rings.specs.Winding.{WindsUpTo}
use Rattle.ring_laws.proofs.Ears.{greater_is_one, smaller_is_zero}
use Rattle.ring_laws.proofs.Triangles.{across_edge, BesideEdge, beside_edge, off_others, other_edges}

-- ---- strictly inside an edge

-- x is on the edge and at none of its ends
pub record IsStrictlyOn (e : Edge) (x : Triple) : Type 0 where
  pub on : IsOn e x
  pub not_from : ¬ IsSame x (whole e.from)
  pub not_to : ¬ IsSame x (whole e.to)

-- the points from one end of an edge toward its middle are strictly inside it,
pub strictly_from : (e : Edge) → ¬ (e.from ≡ e.to) → (n : ℕ) → IsStrictlyOn e (toward (whole e.from) (middle e.from e.to) n)
strictly_from e differ n =
    let a = whole e.from in
    let b = whole e.to in
    let c = middle e.from e.to in
    let at_a = whole_is_point e.from in
    let at_b = whole_is_point e.to in
    let at_c = middle_is_point e.from e.to in
    let x = toward a c n in
    let at_x = toward_is_point a c at_a at_c n in
    let on = toward_on a c at_a at_c n in
    record {
      on = on_nested x a c a b at_x at_a at_c at_a at_b (on_first_end a b) (middle_on e.from e.to) on;
      not_from = toward_differs a c n (λ s. differ (middle_first e.from e.to s));
      not_to = λ s. differ (middle_last e.from e.to (on_antisym c b a at_c at_b at_a (middle_on e.from e.to) (on_same_point at_x s on)));
    }

-- those from the other end too
pub strictly_to : (e : Edge) → ¬ (e.from ≡ e.to) → (n : ℕ) → IsStrictlyOn e (toward (whole e.to) (middle e.to e.from) n)
strictly_to e differ n =
    let back = strictly_from (record { from = e.to; to = e.from }) (λ same. differ (sym same)) n in
    record {
      on = on_reversed (toward (whole e.to) (middle e.to e.from) n) (whole e.to) (whole e.from) back.on;
      not_from = back.not_to;
      not_to = back.not_from;
    }

-- ---- one edge first

module _ (before : List Edge) (e : Edge) (after : List Edge) where
  -- with one edge put first, a list is closed as before,
  closed_first : IsClosed (before ++ e ∷ after) → IsClosed (e ∷ (before ++ after))
  closed_first closed g = omega (arith, ints, growth-append g before after, growth-append g before (e ∷ after), closed g)

  -- and it winds as before
  winding_first : (x : Triple) → winding (before ++ e ∷ after) x ≡ winding (e ∷ (before ++ after)) x
  winding_first x = omega (arith, ints, winding-append x before after, winding-append x before (e ∷ after))

-- ---- the other edges

module _ (ring : List Point) (apart : IsApartRing ring) (e : Edge) (has : HasEdge (edges_of ring) e) where
  -- the edges of the ring but e
  abbrev pub rest_of : List Edge
  rest_of = (other_edges ring apart e has).before ++ (other_edges ring apart e has).after

  -- are edges of the ring
  pub rest_is_edge : (f : Edge) → HasEdge rest_of f → HasEdge (edges_of ring) f
  rest_is_edge f h =
      let rest = other_edges ring apart e has in
      subst (λ es. HasEdge es f) (sym rest.are) (elim (has_cases f rest.before rest.after h) [
        | inl k ↦ has_left f rest.before (e ∷ rest.after) k
        | inr k ↦ has_right f rest.before (e ∷ rest.after) (inr k)
      ])

-- ---- beside an edge

module _ (ring : List Point) (apart : IsApartRing ring) (some : 1 < length ring) (winds : WindsUpTo (pos 1) (edges_of ring))
    (e : Edge) (has : HasEdge (edges_of ring) e) where
  -- the other edges
  abbrev others : List Edge
  others = rest_of ring apart e has

  module _ (m p q : Triple) (at_m : IsPoint m) (at_p : IsPoint p) (at_q : IsPoint q) (inside : IsStrictlyOn e m)
      (left : IsLeft (whole e.from) (whole e.to) p) (right : IsRight (whole e.from) (whole e.to) q)
      (from_left : Misses m p others) (from_right : Misses m q others) where
    -- from left to right the winding number falls by 1,
    falls : winding (edges_of ring) p ≡ winding (edges_of ring) q +ℤ pos 1
    falls =
        let rest = other_edges ring apart e has in
        let within = within_from m (whole e.from) (whole e.to) at_m (whole_is_point e.from) (whole_is_point e.to) inside.on inside.not_from
        inside.not_to in
        let closed : IsClosed (rest.before ++ e ∷ rest.after) = subst IsClosed rest.are (closed_edges_of ring) in
        let fall = across_edge e m p q at_m at_p at_q within left right others (closed_first rest.before e rest.after closed)
        from_left from_right in
        subst (λ fs. winding fs p ≡ winding fs q +ℤ pos 1) (sym rest.are)
        (winding_first rest.before e rest.after p ∙ fall ∙ ap (λ z. z +ℤ pos 1) (sym (winding_first rest.before e rest.after q)))

    -- where neither point is on an edge,
    off_left : ¬ IsOnSome (edges_of ring) p
    off_left =
        let rest = other_edges ring apart e has in
        subst (λ fs. ¬ IsOnSome fs p) (sym rest.are) (on_none_with p rest.before e rest.after (left_not_on e.from e.to p at_p left)
        (λ k. from_left p at_p (on_last_end m p) k))

    -- on neither side
    off_right : ¬ IsOnSome (edges_of ring) q
    off_right =
        let rest = other_edges ring apart e has in
        subst (λ fs. ¬ IsOnSome fs q) (sym rest.are) (on_none_with q rest.before e rest.after (right_not_on e.from e.to q at_q right)
        (λ k. from_right q at_q (on_last_end m q) k))

    -- so the left is in the ring,
    left_in : IsIn ring p
    left_in = in_from_odd ring p (pos 0) (greater_is_one _ _ falls (winds p at_p off_left) (winds q at_q off_right))

    -- and the right is not
    right_out : ¬ IsIn ring q
    right_out = not_in_from_even ring q (pos 0) off_right (smaller_is_zero _ _ falls (winds p at_p off_left) (winds q at_q off_right))

  -- a point strictly inside the edge has points on both sides
  both_sides : (m : Triple) → IsPoint m → IsStrictlyOn e m → BesideEdge e m others
  both_sides m at_m inside =
      beside_edge e (proper_edges ring apart some e has) m at_m inside.on inside.not_from inside.not_to others
      (off_others ring apart e has m at_m inside.on inside.not_from inside.not_to)

  module _ (m q : Triple) (at_m : IsPoint m) (at_q : IsPoint q) (inside : IsStrictlyOn e m) where
    -- q right of the edge, from which the way to a point strictly inside it meets no other, is not in the ring
    pub right_is_out : IsRight (whole e.from) (whole e.to) q → Misses m q others → ¬ IsIn ring q
    right_is_out right misses =
        let h = both_sides m at_m inside in
        right_out m h.left q at_m h.left_rational at_q inside h.crosses.starts_left right h.misses_left misses

    -- and left of it, q is in the ring
    pub left_is_in : IsLeft (whole e.from) (whole e.to) q → Misses m q others → IsIn ring q
    left_is_in left misses =
        let h = both_sides m at_m inside in
        left_in m q h.right at_m at_q h.right_rational inside left h.crosses.ends_right misses h.misses_right
