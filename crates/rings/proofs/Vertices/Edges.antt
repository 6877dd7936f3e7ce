-- Laws of lists of edges: appended lists, edges read backward, closed lists.
use Rattle.std.proofs.Common.{◌≡◌, ◌⊎◌, inl, inr, refl, ap, ◌∙◌, ℤ, ◌+ℤ◌, ◌-ℤ◌, List, [], ◌∷◌, ◌++◌, map, arith, sym, subst}
use Rattle.std.proofs.lemmas.Int.{ints}
use Rattle.plane.proofs.Segments.{on_reversed, on_same_point}
use Rattle.plane.specs.Point.{IsPoint, IsSame, Point, Triple, whole}
use Rattle.rings.specs.Apart.{AreApart, IsCommonEnd, MeetAtEnds}
use Rattle.rings.specs.Edge.{Edge, edges_along, edges_of, growth, HasEdge, IsClosed, IsOn, IsOnSome}

-- the edge read backward
abbrev pub reversed : Edge → Edge
reversed e = record { from = e.to; to = e.from }

-- each edge of the list, read backward
abbrev pub backward : List Edge → List Edge
backward es = map reversed es

-- ---- numbers

-- the grouping of a sum is free
pub sum_regrouped : (a b c d e : ℤ) → d ≡ b +ℤ c → e ≡ (a +ℤ b) +ℤ c → a +ℤ d ≡ e
sum_regrouped a b c d e h k = omega (arith, ints)

-- ---- points on the edges

module _ (p : Triple) where
  -- a point on an edge of one of two lists is on an edge of both together, and back
  pub on_some_left : (es fs : List Edge) → IsOnSome es p → IsOnSome (es ++ fs) p
  on_some_left (e ∷ es) fs (inl h) = inl h
  on_some_left (e ∷ es) fs (inr h) = inr (on_some_left es fs h)
  on_some_left [] fs h = absurd h

  -- of the second list too
  pub on_some_right : (es fs : List Edge) → IsOnSome fs p → IsOnSome (es ++ fs) p
  on_some_right [] fs h = h
  on_some_right (e ∷ es) fs h = inr (on_some_right es fs h)

  -- and back
  pub on_some_cases : (es fs : List Edge) → IsOnSome (es ++ fs) p → IsOnSome es p ⊎ IsOnSome fs p
  on_some_cases [] fs h = inr h
  on_some_cases (e ∷ es) fs (inl h) = inl (inl h)
  on_some_cases (e ∷ es) fs (inr h) = elim (on_some_cases es fs h) [ inl k ↦ inl (inr k) | inr k ↦ inr k ]

  -- a point on no edge but perhaps one, and not on that one, is on none
  pub on_none_with : (before : List Edge) (e : Edge) (after : List Edge) → ¬ IsOn e p → ¬ IsOnSome (before ++ after) p
      → ¬ IsOnSome (before ++ e ∷ after) p
  on_none_with before e after not off on = elim (on_some_cases before (e ∷ after) on) [
    | inl k ↦ off (on_some_left before after k)
    | inr (inl at) ↦ not at
    | inr (inr k) ↦ off (on_some_right before after k)
  ]

  -- a point on an edge is on it read backward
  pub on_some_backward : (es : List Edge) → IsOnSome es p → IsOnSome (backward es) p
  on_some_backward (e ∷ es) (inl h) = inl (on_reversed p (whole e.from) (whole e.to) h)
  on_some_backward (e ∷ es) (inr h) = inr (on_some_backward es h)
  on_some_backward [] h = absurd h

-- what is on an edge is so by each triple
pub on_some_same : (p q : Triple) → IsPoint p → IsSame p q → (es : List Edge) → IsOnSome es p → IsOnSome es q
on_some_same p q at_p s (e ∷ es) (inl h) = inl (on_same_point at_p s h)
on_some_same p q at_p s (e ∷ es) (inr h) = inr (on_some_same p q at_p s es h)
on_some_same p q at_p s [] h = absurd h

-- ---- closed lists

-- growth adds up
pub growth-append : (g : Point → ℤ) (es fs : List Edge) → growth g (es ++ fs) ≡ growth g es +ℤ growth g fs
growth-append g [] fs = omega (arith, ints)
growth-append g (e ∷ es) fs = sum_regrouped (g e.to -ℤ g e.from) (growth g es) (growth g fs) _ _ (growth-append g es fs) refl

-- the growth along some points is the difference between the last and the first
pub growth-edges_along : (g : Point → ℤ) (v : Point) (ws : List Point) (last : Point)
    → growth g (edges_along v ws last) ≡ g last -ℤ g v
growth-edges_along g v [] last = omega (arith, ints)
growth-edges_along g v (w ∷ ws) last = ap (λ z. (g w -ℤ g v) +ℤ z) (growth-edges_along g w ws last) ∙ omega (arith, ints)

-- the edges of a ring are closed
pub closed_edges_of : (ring : List Point) → IsClosed (edges_of ring)
closed_edges_of [] g = refl
closed_edges_of (v ∷ vs) g = growth-edges_along g v vs v ∙ omega (arith, ints)

-- ---- ends

-- P holds of both ends of each edge
abbrev pub AllEnds : (Point → Type 0) → List Edge → Type 0
AllEnds P [] = Unit {0}
AllEnds P (e ∷ es) = P e.from × P e.to × AllEnds P es

-- what all ends have in common stays so under a weaker property
pub all_ends_map : {P Q : Point → Type 0} → ((v : Point) → P v → Q v) → (es : List Edge) → AllEnds P es → AllEnds Q es
all_ends_map f [] ends = tt
all_ends_map f (e ∷ es) (from, to, rest) = (f e.from from, f e.to to, all_ends_map f es rest)

-- what holds of both ends of each edge holds of all ends
pub all_ends_from : (P : Point → Type 0) (es : List Edge) → ((e : Edge) → HasEdge es e → P e.from × P e.to) → AllEnds P es
all_ends_from P [] h = tt
all_ends_from P (e ∷ es) h = let (from, to) = h e (inl refl) in (from, to, all_ends_from P es (λ f has. h f (inr has)))

-- ---- edges that meet at common ends only: in the other order, read backward, and with one more edge

-- a common end is an end of the first edge,
pub end_of_first : (e f : Edge) (x : Triple) → IsCommonEnd e f x → IsSame x (whole e.from) ⊎ IsSame x (whole e.to)
end_of_first e f x c = elim c.of_first [
  | inl is ↦ inl (subst (λ (p : Point). IsSame x (whole p)) (sym is) c.same)
  | inr is ↦ inr (subst (λ (p : Point). IsSame x (whole p)) (sym is) c.same)
]

-- and of the second
pub end_of_second : (e f : Edge) (x : Triple) → IsCommonEnd e f x → IsSame x (whole f.from) ⊎ IsSame x (whole f.to)
end_of_second e f x c = elim c.of_second [
  | inl is ↦ inl (subst (λ (p : Point). IsSame x (whole p)) (sym is) c.same)
  | inr is ↦ inr (subst (λ (p : Point). IsSame x (whole p)) (sym is) c.same)
]

-- a common end of two edges is one in the other order
pub common_end_swapped : (e f : Edge) (x : Triple) → IsCommonEnd e f x → IsCommonEnd f e x
common_end_swapped e f x h = record { end = h.end; of_first = h.of_second; of_second = h.of_first; same = h.same }

-- so edges that meet at ends do in the other order
pub meet_swapped : (e f : Edge) → MeetAtEnds e f → MeetAtEnds f e
meet_swapped e f meet x at on_f on_e = common_end_swapped e f x (meet x at on_e on_f)

-- edges that meet at ends do where one is read backward
pub meet_reversed : (e d : Edge) → MeetAtEnds e d → MeetAtEnds e (reversed d)
meet_reversed e d meet x at on_e on_d =
    let common = meet x at on_e (on_reversed x (whole d.to) (whole d.from) on_d) in
    record {
      end = common.end;
      of_first = common.of_first;
      of_second = elim common.of_second [ inl k ↦ inr k | inr k ↦ inl k ];
      same = common.same;
    }

-- edges among some that are apart are so
pub apart_among : (es fs : List Edge) → ((e : Edge) → HasEdge es e → HasEdge fs e) → AreApart fs → AreApart es
apart_among es fs among apart e f has_e has_f = apart e f (among e has_e) (among f has_f)

-- one more edge is apart from all that it meets at ends
pub apart_more : (d : Edge) (es : List Edge) → AreApart es → ((e : Edge) → HasEdge es e → MeetAtEnds e d) → AreApart (d ∷ es)
apart_more d es apart meets e f (inl h) (inl k) = inl (sym h ∙ k)
apart_more d es apart meets e f (inl h) (inr k) = inr (subst (λ c. MeetAtEnds c f) h (meet_swapped f d (meets f k)))
apart_more d es apart meets e f (inr h) (inl k) = inr (subst (MeetAtEnds e) k (meets e h))
apart_more d es apart meets e f (inr h) (inr k) = apart e f h k
