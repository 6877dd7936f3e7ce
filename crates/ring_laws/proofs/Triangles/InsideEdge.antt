-- Points strictly inside an edge: near each point of it, and on no other edge of a ring.
use Rattle.std.proofs.Common.{◌≡◌, inl, inr, refl, sym, subst, ap, ℤ, pos, ◌+ℤ◌, ◌*ℤ◌, List, [], ◌∷◌, ◌++◌, map, arith}
use Rattle.std.proofs.lemmas.Int.{ints}
use Rattle.std.proofs.lemmas.List.{map-append}
use Rattle.plane.proofs.Nearness.{toward, toward_differs, toward_is_point, toward_on}
use Rattle.plane.proofs.Points.{same_sym, same_trans, same_whole, whole_is_point}
use Rattle.plane.proofs.Segments.{on_first_end, on_last_end, on_reversed, on_same_point, on_antisym, on_nested}
use Rattle.plane.specs.Prelude.{IsPoint, IsSame, On, Point, Triple, whole}
use Rattle.rings.proofs.Simple.{same_or_not}
use Rattle.rings.proofs.Vertices.{end_of_first, AreDistinct, HasPoint, distinct_between, distinct_right, distinct_vertices, has_cases, has_left}
use Rattle.rings.proofs.Vertices.{has_right, edge_with, shrink}
use Rattle.rings.specs.Across.{Misses}
use Rattle.rings.specs.Apart.{IsApartRing}
use Rattle.rings.specs.Edge.{Edge, edges_along, edges_of, HasEdge, IsOn, IsOnSome}

-- ---- each edge stands once in a ring

-- where the edges begin
starts : List Edge → List Point
starts es = map (λ (e : Edge). e.from) es

-- along some points they begin at each of them
starts-edges_along : (v : Point) (ws : List Point) (last : Point) → starts (edges_along v ws last) ≡ v ∷ ws
unfolding starts
starts-edges_along v [] last = refl
starts-edges_along v (w ∷ ws) last = ap (λ ps. v ∷ ps) (starts-edges_along w ws last)

-- an edge begins at one of these points
has_start : (e : Edge) (es : List Edge) → HasEdge es e → HasPoint (starts es) e.from
unfolding starts
has_start e (f ∷ es) (inl h) = inl (λ i. (h i).from)
has_start e (f ∷ es) (inr h) = inr (has_start e es h)
has_start e [] h = absurd h

-- the edges before an edge of a list and those after it
pub record Others (es : List Edge) (e : Edge) : Type 0 where
  pub before : List Edge
  pub after : List Edge
  pub are : es ≡ before ++ e ∷ after

-- each edge of a list has others
others : (es : List Edge) (e : Edge) → HasEdge es e → Others es e
others (f ∷ es) e (inl h) = record { before = []; after = es; are = ap (λ (g : Edge). g ∷ es) h }
others (f ∷ es) e (inr h) =
    let rest = others es e h in record { before = f ∷ rest.before; after = rest.after; are = ap (λ fs. f ∷ fs) rest.are }
others [] e h = absurd h

-- where no two edges begin at one point, they differ from it
others_differ : (before after : List Edge) (e f : Edge) → AreDistinct (starts (before ++ e ∷ after)) → HasEdge (before ++ after) f → ¬ (e ≡ f)
unfolding starts
others_differ before after e f distinct has same =
    let from = λ (g : Edge). g.from in
    let parts = subst AreDistinct (map-append from before (e ∷ after)) distinct in
    elim (has_cases f before after has) [
      | inl k ↦ distinct_between (starts before) (starts (e ∷ after)) parts f.from (has_start f before k) (inl (ap from same))
      | inr k ↦ (distinct_right (starts before) (starts (e ∷ after)) parts).0 (subst (HasPoint (starts after)) (sym (ap from same)) (has_start f after k))
    ]

-- the edges of a ring with different vertices begin at different points
starts_distinct : (ring : List Point) → AreDistinct ring → AreDistinct (starts (edges_of ring))
unfolding starts
starts_distinct [] h = tt
starts_distinct (v ∷ vs) h = subst AreDistinct (sym (starts-edges_along v vs v)) h

module _ (ring : List Point) (apart : IsApartRing ring) (e : Edge) (has : HasEdge (edges_of ring) e) where
  -- the other edges of the ring
  pub other_edges : Others (edges_of ring) e
  other_edges = others (edges_of ring) e has

  -- a point strictly inside the edge is on none of them
  pub off_others : (x : Triple) → IsPoint x → IsOn e x → ¬ IsSame x (whole e.from) → ¬ IsSame x (whole e.to)
      → ¬ IsOnSome (other_edges.before ++ other_edges.after) x
  unfolding other_edges
  off_others x at on not_from not_to on_other =
      let rest = others (edges_of ring) e has in
      let (f, has_f, on_f) = edge_with x (rest.before ++ rest.after) on_other in
      let differ = others_differ rest.before rest.after e f
      (subst (λ es. AreDistinct (starts es)) rest.are (starts_distinct ring (distinct_vertices ring apart.distinct))) has_f in
      let member : HasEdge (edges_of ring) f = subst (λ es. HasEdge es f) (sym rest.are) (within rest.before rest.after f has_f) in
      elim (apart.apart e f has member) [
        | inl same ↦ differ same
        | inr meets ↦ elim (end_of_first e f x (meets x at on on_f)) [ inl is ↦ not_from is | inr is ↦ not_to is ]
      ]
    where
      within : (before after : List Edge) (f : Edge) → HasEdge (before ++ after) f → HasEdge (before ++ e ∷ after) f
      within before after f h = elim (has_cases f before after h) [
        | inl k ↦ has_left f before (e ∷ after) k
        | inr k ↦ has_right f before (e ∷ after) (inr k)
      ]

-- ---- near a point of an edge

-- the middle between a point and another is not the other
middle_differs : (x c : Triple) → ¬ IsSame x c → ¬ IsSame (toward x c 1) c
middle_differs x c differ same =
    let turned : toward x c 1 ≡ toward c x 1 =
    λ i. record { X = swapped x.X c.X i; Y = swapped x.Y c.Y i; W = swapped x.W c.W i } in
    toward_differs c x 1 differ (subst (λ t. IsSame t c) turned same)
  where
    swapped : (a b : ℤ) → pos 1 *ℤ a +ℤ b ≡ pos 1 *ℤ b +ℤ a
    swapped a b = omega (arith, ints)

-- a point strictly inside the segment from a to b, and the way to it from x, which misses the edges
pub record InsideNear (a b x : Triple) (es : List Edge) : Type 0 where
  pub point : Triple
  pub rational : IsPoint point
  pub on : On point a b
  pub not_first : ¬ IsSame point a
  pub not_last : ¬ IsSame point b
  pub misses : Misses x point es

-- there is such a point near each point of the segment other than its last
inside_before_last : (a b x : Triple) (es : List Edge) → IsPoint a → IsPoint b → IsPoint x → On x a b → ¬ IsSame x b → ¬ IsOnSome es x
    → InsideNear a b x es
inside_before_last a b x es at_a at_b at_x on not_last off =
    let m = toward x b 1 in
    let at_m = toward_is_point x b at_x at_b 1 in
    let on_m = toward_on x b at_x at_b 1 in
    let near = shrink x m es at_x at_m (toward_differs x b 1 (λ s. not_last (same_sym s))) off in
    let q = near.point in
    let at_q = near.rational in
    let on_q : On q x b = on_nested q x m x b at_q at_x at_m at_x at_b (on_first_end x b) on_m near.on in
    record {
      point = q;
      rational = at_q;
      on = on_nested q x b a b at_q at_x at_b at_a at_b on (on_last_end a b) on_q;
      not_first = λ s.
          let first_on : On a x b = on_same_point at_q s on_q in
          let same : IsSame x a = on_antisym x a b at_x at_a at_b (on_reversed x a b on) (on_reversed a x b first_on) in
          near.differs (same_trans at_a s (same_sym same));
      not_last = λ s.
          let last_on : On b x m = on_same_point at_q s near.on in
          middle_differs x b not_last (same_sym (on_antisym b m x at_b at_m at_x last_on on_m));
      misses = near.misses;
    }

-- so there is near each of its points
pub inside_near : (e : Edge) (x : Triple) (es : List Edge) → ¬ (e.from ≡ e.to) → IsPoint x → IsOn e x → ¬ IsOnSome es x
    → InsideNear (whole e.from) (whole e.to) x es
inside_near e x es proper at_x on off =
    let a = whole e.from in
    let b = whole e.to in
    let at_a = whole_is_point e.from in
    let at_b = whole_is_point e.to in
    elim (same_or_not x b) [
      | inr not ↦ inside_before_last a b x es at_a at_b at_x on not off
      | inl last ↦
          let not_first = λ (s : IsSame x a). proper (same_whole e.from e.to (same_trans at_x (same_sym s) last)) in
          let back = inside_before_last b a x es at_b at_a at_x (on_reversed x a b on) not_first off in
          record {
            point = back.point;
            rational = back.rational;
            on = on_reversed back.point b a back.on;
            not_first = back.not_last;
            not_last = back.not_first;
            misses = back.misses;
          }
    ]
