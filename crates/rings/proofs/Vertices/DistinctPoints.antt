-- Lists of different points, by recursion on the list and by numbers.
use Rattle.std.proofs.Common.{◌≡◌, inl, inr, refl, sym, subst, ◌∙◌, ℕ, zero, suc, ◌<◌, arith, List, [], ◌∷◌, ◌++◌, length, get_or, ap}
use Rattle.plane.proofs.Segments.{on_first_end, on_last_end}
use Rattle.plane.specs.Point.{Point, whole}
use Rattle.rings.proofs.Vertices.Edges.{AllEnds}
use Rattle.rings.proofs.Vertices.Indexing.{vertex_in_range}
use Rattle.rings.proofs.Vertices.Items.{has_cases, has_left, has_number, has_right, number_of}
use Rattle.rings.specs.Prelude.{Edge, edges_along, edges_of, Has, HasEdge, HasEnd, IsOnSome, origin, vertex}

-- p is one of the points
abbrev pub HasPoint : List Point → Point → Type 0
HasPoint ps p = Has ps p

-- each point differs from all later ones
abbrev pub AreDistinct : List Point → Type 0
AreDistinct [] = Unit {0}
AreDistinct (p ∷ ps) = (¬ HasPoint ps p) × AreDistinct ps

-- ---- appended lists

-- the points of two lists are different together where they are in each list, and no point is in both
distinct_append : (ps qs : List Point) → AreDistinct ps → AreDistinct qs → ((p : Point) → HasPoint ps p → ¬ HasPoint qs p)
    → AreDistinct (ps ++ qs)
distinct_append [] qs h k apart = k
distinct_append (r ∷ ps) qs (new, h) k apart = (
  λ has. elim (has_cases r ps qs has) [ inl l ↦ new l | inr l ↦ apart r (inl refl) l ],
  distinct_append ps qs h k (λ p l. apart p (inr l)),
)

-- where they are different together, they are in the first list,
pub distinct_left : (ps qs : List Point) → AreDistinct (ps ++ qs) → AreDistinct ps
distinct_left [] qs h = tt
distinct_left (r ∷ ps) qs (new, h) = (λ has. new (has_left r ps qs has), distinct_left ps qs h)

-- and in the second,
pub distinct_right : (ps qs : List Point) → AreDistinct (ps ++ qs) → AreDistinct qs
distinct_right [] qs h = h
distinct_right (r ∷ ps) qs (new, h) = distinct_right ps qs h

-- and no point is in both
pub distinct_between : (ps qs : List Point) → AreDistinct (ps ++ qs) → (p : Point) → HasPoint ps p → ¬ HasPoint qs p
distinct_between (r ∷ ps) qs (new, h) p (inl e) has = new (has_right r ps qs (subst (HasPoint qs) (sym e) has))
distinct_between (r ∷ ps) qs (new, h) p (inr k) has = distinct_between ps qs h p k has
distinct_between [] qs h p k has = absurd k

-- the order of two lists is free
pub distinct_swapped : (ps qs : List Point) → AreDistinct (ps ++ qs) → AreDistinct (qs ++ ps)
distinct_swapped ps qs h =
    distinct_append qs ps (distinct_right ps qs h) (distinct_left ps qs h) (λ p k l. distinct_between ps qs h p l k)

-- ---- by numbers

-- different points have different numbers
differ_by_number : (ps : List Point) (d : Point) → AreDistinct ps → (i j : ℕ) → i < j → j < length ps → ¬ (get_or ps i d ≡ get_or ps j d)
differ_by_number [] d h i j less within e = omega arith
differ_by_number (p ∷ ps) d h i zero less within e = omega arith
differ_by_number (p ∷ ps) d (new, h) zero (suc j) less within e = new (subst (HasPoint ps) (sym e) (has_number ps j d (omega arith)))
differ_by_number (p ∷ ps) d (new, h) (suc i) (suc j) less within e = differ_by_number ps d h i j (omega arith) (omega arith) e

-- and points that differ by their numbers are different
differ_from_number : (ps : List Point) (d : Point) → ((i j : ℕ) → i < j → j < length ps → ¬ (get_or ps i d ≡ get_or ps j d)) → AreDistinct ps
differ_from_number [] d h = tt
differ_from_number (p ∷ ps) d h = (
  λ has. let (k, within, is) = number_of ps p has in h 0 (suc k) (omega arith) (omega arith) (sym (is d)),
  differ_from_number ps d (λ i j less within. h (suc i) (suc j) (omega arith) (omega arith)),
)

module _ (ring : List Point) where
  -- so it is with the vertices of a ring,
  pub vertices_differ : AreDistinct ring → (i j : ℕ) → i < j → j < length ring → ¬ (vertex ring i ≡ vertex ring j)
  vertices_differ h i j less within e =
      differ_by_number ring origin h i j less within
      (sym (vertex_in_range ring i origin (omega arith)) ∙ e ∙ vertex_in_range ring j origin within)

  -- and back
  pub distinct_vertices : ((i j : ℕ) → i < j → j < length ring → ¬ (vertex ring i ≡ vertex ring j)) → AreDistinct ring
  distinct_vertices h =
      differ_from_number ring origin
      (λ i j less within e.
      h i j less within
      (vertex_in_range ring i origin (omega arith) ∙ e ∙ sym (vertex_in_range ring j origin within)))

-- ---- ends of edges

-- an edge along some points begins at one of them and ends at one of them
pub ends_along : (e : Edge) (v : Point) (ws : List Point) (last : Point) → HasEdge (edges_along v ws last) e
    → HasPoint (v ∷ ws) e.from × HasPoint (ws ++ last ∷ []) e.to
ends_along e v [] last (inl h) = (inl (λ i. (h i).from), inl (λ i. (h i).to))
ends_along e v [] last (inr h) = absurd h
ends_along e v (w ∷ ws) last (inl h) = (inl (λ i. (h i).from), inl (λ i. (h i).to))
ends_along e v (w ∷ ws) last (inr h) = let (from, to) = ends_along e w ws last h in (inr from, inr to)

-- each end of an edge of a ring is one of its points
pub end_of_ring : (e : Edge) (p v : Point) (vs : List Point) → HasEdge (edges_of (v ∷ vs)) e → HasEnd e p → HasPoint (v ∷ vs) p
end_of_ring e p v vs has (inl is) = subst (HasPoint (v ∷ vs)) is (ends_along e v vs v has).0
end_of_ring e p v vs has (inr is) = elim (has_cases p vs (v ∷ []) (subst (HasPoint (vs ++ v ∷ [])) is (ends_along e v vs v has).1)) [
  | inl k ↦ inr k
  | inr k ↦ elim k [ inl first ↦ inl first | inr none ↦ absurd none ]
]

-- at each of some points but the last an edge along them begins
pub edge_from : (p v : Point) (ws : List Point) (last : Point) → HasPoint (v ∷ ws) p
    → (e : Edge) × HasEdge (edges_along v ws last) e × (e.from ≡ p)
edge_from p v [] last (inl is) = (record { from = v; to = last }, inl refl, is)
edge_from p v [] last (inr none) = absurd none
edge_from p v (w ∷ ws) last (inl is) = (record { from = v; to = w }, inl refl, is)
edge_from p v (w ∷ ws) last (inr has) = let (e, in_list, is) = edge_from p w ws last has in (e, inr in_list, is)

-- ---- the edges along some points: points on them, and their ends

-- the edges along points with x among them are those up to x and those from x on
pub edges_along_append : (v : Point) (ws : List Point) (x : Point) (xs : List Point) (last : Point)
    → edges_along v (ws ++ x ∷ xs) last ≡ edges_along v ws x ++ edges_along x xs last
edges_along_append v [] x xs last = refl
edges_along_append v (w ∷ ws) x xs last = ap (λ es. record { from = v; to = w } ∷ es) (edges_along_append w ws x xs last)

-- the first point is on the edges,
pub first_on_along : (a : Point) (bs : List Point) (last : Point) → IsOnSome (edges_along a bs last) (whole a)
first_on_along a [] last = inl (on_first_end (whole a) (whole last))
first_on_along a (b ∷ bs) last = inl (on_first_end (whole a) (whole b))

-- so is the last,
pub last_on_along : (a : Point) (bs : List Point) (last : Point) → IsOnSome (edges_along a bs last) (whole last)
last_on_along a [] last = inl (on_last_end (whole a) (whole last))
last_on_along a (b ∷ bs) last = inr (last_on_along b bs last)

-- and each point between
pub member_on_along : (a : Point) (bs : List Point) (last b : Point) → HasPoint bs b → IsOnSome (edges_along a bs last) (whole b)
member_on_along a [] last b h = absurd h
member_on_along a (c ∷ bs) last b (inl e) =
    subst (λ (d : Point). IsOnSome (edges_along a (c ∷ bs) last) (whole d)) e (inl (on_last_end (whole a) (whole c)))
member_on_along a (c ∷ bs) last b (inr h) = inr (member_on_along c bs last b h)

-- what holds of all points holds of all ends of the edges along them
pub all_ends_along : (P : Point → Type 0) (a : Point) (bs : List Point) (last : Point) → P a → ((b : Point) → HasPoint bs b → P b)
    → P last → AllEnds P (edges_along a bs last)
all_ends_along P a [] last first rest end = (first, end, tt)
all_ends_along P a (b ∷ bs) last first rest end =
    let next = rest b (inl refl) in
    (first, next, all_ends_along P b bs last next (λ c h. rest c (inr h)) end)
