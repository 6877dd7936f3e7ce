-- The least vertex of a ring in the order of points, and the ring read from it on.
use Rattle.std.proofs.Common.{◌≡◌, inl, inr, refl, sym, subst, ap, ◌∙◌, ℕ, ◌+◌, ◌<◌, ◌≤◌, List, [], ◌∷◌, ◌++◌, length, take, drop, arith}
use Rattle.std.proofs.lemmas.List.{drop_more, length-append, length-drop, length-take-le}
use Rattle.plane.proofs.Order.{before_irrefl, before_or_not, before_trans}
use Rattle.plane.specs.Prelude.{IsBefore, Point}
use Rattle.rings.proofs.Vertices.{HasPoint, has_number, number_of, vertex_in_range}
use Rattle.rings.specs.Ring.{origin, vertex}
use Rattle.rings.specs.Winding.{IsLeastVertex}

-- no point of the list is before v
abbrev pub NoneBefore : List Point → Point → Type 0
NoneBefore ps v = (p : Point) → HasPoint ps p → ¬ (IsBefore p v)

-- a point that is before the least of some others is before all
least_more : (p v : Point) (ps : List Point) → IsBefore p v → NoneBefore ps v → NoneBefore (p ∷ ps) p
least_more p v ps h least q (inl e) k = before_irrefl p (subst (λ (r : Point). IsBefore r p) (sym e) k)
least_more p v ps h least q (inr has) k = least q has (before_trans q p v k h)

-- each list that is not empty has a least point
least_point : (p : Point) (ps : List Point) → (v : Point) × HasPoint (p ∷ ps) v × NoneBefore (p ∷ ps) v
least_point p [] = (p, inl refl, λ q has h. elim has [ inl e ↦ before_irrefl p (subst (λ (r : Point). IsBefore r p) (sym e) h) | inr none ↦ none ])
least_point p (q ∷ qs) =
    let (v, has, least) = least_point q qs in
    elim (before_or_not p v) [
      | inl h ↦ (p, inl refl, least_more p v (q ∷ qs) h least)
      | inr not ↦ (v, inr has, λ r in_list h. elim in_list [ inl e ↦ not (subst (λ (s : Point). IsBefore s v) (sym e) h) | inr k ↦ least r k h ])
    ]

-- no point of a ring is before a least vertex
pub none_before_least : (ring : List Point) (i : ℕ) → IsLeastVertex ring i → NoneBefore ring (vertex ring i)
none_before_least ring i least p has h =
    let (j, within, is) = number_of ring p has in
    least j within (subst (λ (q : Point). IsBefore q (vertex ring i)) (sym (vertex_in_range ring j origin within ∙ is origin)) h)

-- each ring that is not empty has a least vertex
pub least_vertex : (ring : List Point) → 0 < length ring → (i : ℕ) × (i < length ring) × IsLeastVertex ring i
least_vertex [] some = absurd (omega arith)
least_vertex (p ∷ ps) some =
    let ring : List Point = p ∷ ps in
    let (v, has, least) = least_point p ps in
    let (i, within, is) = number_of ring v has in
    let at : vertex ring i ≡ v = vertex_in_range ring i origin within ∙ is origin in (
      i,
      within,
      λ j inside h.
          least (vertex ring j)
          (subst (HasPoint ring) (sym (vertex_in_range ring j origin inside)) (has_number ring j origin inside))
          (subst (IsBefore (vertex ring j)) at h),
    )

-- ---- the ring read from a vertex on

-- a list has a last item
last_item : (p : Point) (ps : List Point) → (ms : List Point) × (u : Point) × (p ∷ ps ≡ ms ++ u ∷ [])
last_item p [] = ([], p, refl)
last_item p (q ∷ qs) = let (ms, u, is) = last_item q qs in (p ∷ ms, u, ap (λ rs. p ∷ rs) is)

-- vertex i first, then w, and u last
pub record FromVertex (ring : List Point) (i : ℕ) : Type 0 where
  pub w : Point
  pub ms : List Point
  pub u : Point
  pub is : drop i ring ++ take i ring ≡ vertex ring i ∷ w ∷ (ms ++ u ∷ [])

-- a list of two points or more has a first and another last one
both_ends : (ps : List Point) → 2 ≤ length ps → (w : Point) × (ms : List Point) × (u : Point) × (ps ≡ w ∷ (ms ++ u ∷ []))
both_ends [] some = absurd (omega arith)
both_ends (p ∷ []) some = absurd (omega arith)
both_ends (p ∷ q ∷ qs) some = let (ms, u, is) = last_item q qs in (p, ms, u, ap (λ rs. p ∷ rs) is)

-- a list of three points or more can be split so
from_parts : (ring : List Point) (i : ℕ) (rest : List Point) → drop i ring ++ take i ring ≡ vertex ring i ∷ rest → 2 ≤ length rest
    → FromVertex ring i
from_parts ring i rest is enough =
    let (w, ms, u, parts) = both_ends rest enough in
    record { w = w; ms = ms; u = u; is = is ∙ ap (λ qs. vertex ring i ∷ qs) parts }

-- each ring of three vertices or more can be read so
pub from_vertex : (ring : List Point) (i : ℕ) → 3 ≤ length ring → i < length ring → FromVertex ring i
from_vertex ring i some within =
    from_parts ring i (drop (i + 1) ring ++ take i ring)
    (ap (λ qs. qs ++ take i ring)
    (drop_more ring i origin within ∙ (λ k. sym (vertex_in_range ring i origin within) k ∷ drop (i + 1) ring)))
    (omega (arith, length-append (drop (i + 1) ring) (take i ring), length-drop (i + 1) ring, length-take-le i ring (omega arith)))
