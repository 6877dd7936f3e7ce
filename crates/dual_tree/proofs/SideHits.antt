-- A point of a side of a triangle of a mesh that is no end of it: the only other triangle that holds it is the one across the side.
use Rattle.std.proofs.Common.{◌≡◌, ◌⊎◌, inl, inr, refl, sym, subst, ◌∙◌, ℕ, zero, suc, ◌+◌, ◌-◌, ◌<◌, ◌≤◌, ◌↔◌, ℤ, pos, negsuc, ◌<ℤ◌, List, length, get_or, Some, None, IfSome, arith}
use Rattle.std.specs.Prelude.{IsNone, Option, min}
use Rattle.std.proofs.lemmas.Bool.{cases_lt}
use Rattle.std.proofs.lemmas.Int.{ints}
use Rattle.plane.proofs.Meetings.{meet_only_at_from}
use Rattle.plane.proofs.Points.{same_whole, whole_is_point}
use Rattle.plane.proofs.Segments.{on_reversed}
use Rattle.plane.specs.Point.{Point, whole}
use Rattle.plane.specs.Segment.{On}
use Rattle.plane.specs.Turn.{IsLeft, determinant}
use Rattle.rings.specs.Ring.{vertex}
use Rattle.ring_laws.proofs.Triangles.{on_first_side, on_second_side, on_third_side}
use Rattle.meshes.proofs.Parts.{opposite}
use Rattle.meshes.proofs.Sides.{fitting_sides}
use Rattle.meshes.proofs.Sight.{separation_law}
use Rattle.meshes.proofs.TreeLeaves.{next_corner, side_is_one, turns_left}
use Rattle.meshes.specs.Fits.{Fits, IsInTri, IsSideOfOne, IsSideOfTwo}
use Rattle.meshes.specs.Laws.{CrossesSide}
use Rattle.meshes.specs.Side.{HasSide, HasSideBetween, HasSidesOnce, IsWalk, IsWalkBetween, tri_at}
use Rattle.meshes.specs.declared.tri.Tri.{Tri}
use Rattle.dual_tree.specs.Location.{IsLeastHolding}

-- the point is on the side between vertices i and j, and is neither
pub record IsWithinSide (corners : List Point) (p : Point) (i j : ℕ) : Type 0 where
  pub on : On (whole p) (whole (vertex corners i)) (whole (vertex corners j))
  pub not_first : ¬ (p ≡ vertex corners i)
  pub not_last : ¬ (p ≡ vertex corners j)

-- so it is from j to i
turned : (corners : List Point) (p : Point) (i j : ℕ) → IsWithinSide corners p i j → IsWithinSide corners p j i
turned corners p i j w = record { on = on_reversed (whole p) _ _ w.on; not_first = w.not_last; not_last = w.not_first }

-- two segments that turn have only the point between them in common
one_common : (a b c p : Point) → IsLeft (whole a) (whole b) (whole c) → On (whole p) (whole a) (whole b) → On (whole p) (whole b) (whole c) → p ≡ b
one_common a b c p left first second =
    same_whole p b (meet_only_at_from a b c (inl (λ e. not_both left e)) (whole p) (whole_is_point p) first second)
  where
    not_both : IsLeft (whole a) (whole b) (whole c) → determinant (whole a) (whole b) (whole c) ≡ pos 0 → ⊥
    not_both h e = omega (arith, ints)

-- ---- one triangle

module _ (corners : List Point) (t : Tri) (left : IsLeft (whole (vertex corners t.a)) (whole (vertex corners t.b)) (whole (vertex corners t.c)))
    (p : Point) where
  -- a side in the same direction that the point is on is this side
  same_along : (i j k l : ℕ) → HasSide t i j → IsWithinSide corners p i j → HasSide t k l
      → On (whole p) (whole (vertex corners k)) (whole (vertex corners l)) → (k ≡ i) × (l ≡ j)
  same_along i j k l has within other on =
      let third = next_corner t i j has in
      at_third third.0 third.1 third.2
    where
      at_third : (m : ℕ) → HasSide t j m → HasSide t m i → (k ≡ i) × (l ≡ j)
      at_third m next last = elim (side_is_one corners t left i j m has next k l other) [
        | inl e ↦ e
        | inr (inl e) ↦
            let here : On (whole p) (whole (vertex corners j)) (whole (vertex corners m)) = named e.0 e.1 in
            absurd (within.not_last (one_common (vertex corners i) (vertex corners j) (vertex corners m) p (turns_left corners t left i j m has next) within.on here))
        | inr (inr e) ↦
            let here : On (whole p) (whole (vertex corners m)) (whole (vertex corners i)) = named e.0 e.1 in
            absurd (within.not_first (one_common (vertex corners m) (vertex corners i) (vertex corners j) p (turns_left corners t left m i j last has) here within.on))
      ]
        where
          named : {x y : ℕ} → k ≡ x → l ≡ y → On (whole p) (whole (vertex corners x)) (whole (vertex corners y))
          named {x} {y} e f =
              subst (λ n. On (whole p) (whole (vertex corners x)) (whole (vertex corners n))) f
              (subst (λ n. On (whole p) (whole (vertex corners n)) (whole (vertex corners l))) e on)

  -- and one in any direction has its two ends
  same_between : (i j k l : ℕ) → HasSideBetween t i j → IsWithinSide corners p i j → HasSideBetween t k l
      → On (whole p) (whole (vertex corners k)) (whole (vertex corners l)) → ((k ≡ i) × (l ≡ j)) ⊎ ((k ≡ j) × (l ≡ i))
  same_between i j k l (inl has) within (inl other) on = inl (same_along i j k l has within other on)
  same_between i j k l (inl has) within (inr other) on =
      let e = same_along i j l k has within other (on_reversed (whole p) _ _ on) in inr (e.1, e.0)
  same_between i j k l (inr has) within (inl other) on = inr (same_along j i k l has (turned corners p i j within) other on)
  same_between i j k l (inr has) within (inr other) on =
      let e = same_along j i l k has (turned corners p i j within) other (on_reversed (whole p) _ _ on) in inl (e.1, e.0)

-- ---- the triangles that hold the point

-- a side between two ends, by the same ends in any order
between_same : (t : Tri) (i j k l : ℕ) → ((k ≡ i) × (l ≡ j)) ⊎ ((k ≡ j) × (l ≡ i)) → HasSideBetween t k l → HasSideBetween t i j
between_same t i j k l (inl e) has = rw (← e.0, ← e.1) has
between_same t i j k l (inr e) (inl has) = inr (rw (← e.0, ← e.1) has)
between_same t i j k l (inr e) (inr has) = inl (rw (← e.0, ← e.1) has)

-- the lesser of two numbers is at most each, and one of them
min_below : (k l : ℕ) → (min k l ≤ k) × (min k l ≤ l)
min_below k l = (omega arith, omega arith)

min_is_one : (k l : ℕ) → (min k l ≡ k) ⊎ (min k l ≡ l)
min_is_one k l = elim (cases_lt k l) [ inl h ↦ inl (omega arith) | inr h ↦ inr (omega arith) ]

-- of three triangles with a side between two corners two are one
two_of_three : (tris : List Tri) → HasSidesOnce tris → (i j k l m : ℕ) → k < length tris → l < length tris → m < length tris
    → HasSideBetween (tri_at tris k) i j → HasSideBetween (tri_at tris l) i j → HasSideBetween (tri_at tris m) i j → (k ≡ l) ⊎ (l ≡ m) ⊎ (k ≡ m)
two_of_three tris sides i j k l m in_k in_l in_m (inl a) (inl b) c = inl (sides.once i j k l in_k in_l a b)
two_of_three tris sides i j k l m in_k in_l in_m (inr a) (inr b) c = inl (sides.once j i k l in_k in_l a b)
two_of_three tris sides i j k l m in_k in_l in_m (inl a) (inr b) (inl c) = inr (inr (sides.once i j k m in_k in_m a c))
two_of_three tris sides i j k l m in_k in_l in_m (inl a) (inr b) (inr c) = inr (inl (sides.once j i l m in_l in_m b c))
two_of_three tris sides i j k l m in_k in_l in_m (inr a) (inl b) (inl c) = inr (inl (sides.once i j l m in_l in_m b c))
two_of_three tris sides i j k l m in_k in_l in_m (inr a) (inl b) (inr c) = inr (inr (sides.once j i k m in_k in_m a c))

module _ (corners : List Point) (tris : List Tri) (fits : Fits corners tris) (p : Point) (i j : ℕ) (within : IsWithinSide corners p i j) where
  -- on a walk between two triangles that hold the point, with the side in the triangle at a place, it is in the next one too
  next_has : (walk : List ℕ) → IsWalk tris walk → (m last : ℕ) → m < last → last + 1 ≡ length walk
      → IsInTri corners (tri_at tris (get_or walk 0 0)) (whole p) → IsInTri corners (tri_at tris (get_or walk last 0)) (whole p)
      → HasSideBetween (tri_at tris (get_or walk m 0)) i j → HasSideBetween (tri_at tris (get_or walk (m + 1) 0)) i j
  next_has walk is_walk m last before ends held_first held_last has =
      let share = is_walk.sharing m (omega arith) in
      let crosses : CrossesSide tris walk m share.i share.j =
      record { has_next = omega arith; of_this = inl share.of_first; of_next = share.of_second } in
      let on = separation_law corners _ tris fits walk is_walk m share.i share.j crosses 0 last (omega arith) before (omega arith)
      (whole p) (whole_is_point p) held_first held_last in
      let left = (fits.triangles (get_or walk m 0) (is_walk.in_list m (omega arith))).counterclockwise in
      between_same (tri_at tris (get_or walk (m + 1) 0)) i j share.i share.j
      (same_between corners (tri_at tris (get_or walk m 0)) left p i j share.i share.j has within (inl share.of_first) on) share.of_second

  -- so another triangle that holds the point than one with the side has the side too
  pub other_has_side : (k l : ℕ) → k < length tris → l < length tris → ¬ (k ≡ l) → HasSideBetween (tri_at tris k) i j
      → IsInTri corners (tri_at tris k) (whole p) → IsInTri corners (tri_at tris l) (whole p) → HasSideBetween (tri_at tris l) i j
  other_has_side k l in_k in_l differ has held_k held_l =
      let one = fits.tree k l in_k in_l in
      by_walk one.walk one.between
    where
      by_walk : (walk : List ℕ) → IsWalkBetween tris k l walk → HasSideBetween (tri_at tris l) i j
      by_walk walk b = by_length (length walk - 1) (omega (arith, b.is_walk.some)) (subst (λ n. get_or walk n 0 ≡ l) refl b.last)
        where
          first_has : HasSideBetween (tri_at tris (get_or walk 0 0)) i j
          first_has = rw b.first has

          held_first : IsInTri corners (tri_at tris (get_or walk 0 0)) (whole p)
          held_first = rw b.first held_k

          by_length : (last : ℕ) → last + 1 ≡ length walk → get_or walk last 0 ≡ l → HasSideBetween (tri_at tris l) i j
          by_length zero e at_last = absurd (differ (sym b.first ∙ at_last))
          by_length (suc zero) e at_last =
              subst (λ n. HasSideBetween (tri_at tris n) i j) at_last
              (next_has walk b.is_walk 0 1 (omega arith) e held_first (rw at_last held_l) first_has)
          by_length (suc (suc n)) e at_last =
              let held_last : IsInTri corners (tri_at tris (get_or walk (suc (suc n)) 0)) (whole p) = rw at_last held_l in
              let second = next_has walk b.is_walk 0 (suc (suc n)) (omega arith) e held_first held_last first_has in
              let third = next_has walk b.is_walk 1 (suc (suc n)) (omega arith) e held_first held_last second in
              let once = b.is_walk.once in
              let in_list = b.is_walk.in_list in
              elim (two_of_three tris (fitting_sides corners tris fits) i j _ _ _ (in_list 0 (omega arith)) (in_list 1 (omega arith)) (in_list 2 (omega arith))
              first_has second third) [
                | inl same ↦ absurd (once 0 1 (omega arith) (omega arith) same)
                | inr (inl same) ↦ absurd (once 1 2 (omega arith) (omega arith) same)
                | inr (inr same) ↦ absurd (once 0 2 (omega arith) (omega arith) same)
              ]

  -- so the least that holds it is the lesser of the one with the side and the one across
  module _ (k : ℕ) (in_k : k < length tris) (has : HasSide (tri_at tris k) i j) (held : IsInTri corners (tri_at tris k) (whole p)) where
    none_other : (l : ℕ) → l < length tris → ¬ (k ≡ l) → IsInTri corners (tri_at tris l) (whole p) → HasSideBetween (tri_at tris l) i j
    none_other l in_l differ held_l = other_has_side k l in_k in_l differ (inl has) held held_l

    pub least_of_side : (answer : Option ℕ) → IsNone answer ↔ IsSideOfOne tris i j k → IfSome answer (IsSideOfTwo tris i j k)
        → (r : ℕ) → (IsNone answer → r ≡ k) → IfSome answer (λ l. r ≡ min k l) → IsLeastHolding corners tris (whole p) r
    least_of_side None alone two r is_k is_min =
        let same = is_k refl in
        let one = alone.0 refl in
        rw same (record {
          in_list = in_k;
          holds = held;
          least = λ l less held_l. let e = one.only l (omega arith) (none_other l (omega arith) (λ e. omega (arith, e)) held_l) in omega (arith, e);
        })
    least_of_side (Some o) alone two r is_k is_min =
        let held_o = (opposite corners (tri_at tris o) (fits.triangles o two.other_in_list).counterclockwise j i two.other_has).1.side
        (whole p) (whole_is_point p) (on_reversed (whole p) _ _ within.on) in
        let below = min_below k o in
        let least : (l : ℕ) → l < r → ¬ IsInTri corners (tri_at tris l) (whole p) =
        λ l less held_l. elim (two.only l (omega (arith, is_min, below.0)) (none_other l (omega (arith, is_min, below.0)) (λ e. omega (arith, e, is_min, below.0)) held_l)) [
          | inl e ↦ omega (arith, e, is_min, below.0)
          | inr e ↦ omega (arith, e, is_min, below.1)
        ] in
        elim (min_is_one k o) [
          | inl e ↦ let same : r ≡ k = is_min ∙ e in
              record { in_list = omega (arith, same); holds = rw same held; least = least }
          | inr e ↦ let same : r ≡ o = is_min ∙ e in
              record { in_list = omega (arith, same, two.other_in_list); holds = rw same held_o; least = least }
        ]

-- ---- on a side

-- what is neither negative nor positive is 0
zero_of_held : (z : ℤ) → ¬ (z <ℤ pos 0) → ¬ (pos 0 <ℤ z) → z ≡ pos 0
zero_of_held (pos zero) not_less not_more = refl
zero_of_held (pos (suc n)) not_less not_more = absurd (not_more (omega (arith, ints)))
zero_of_held (negsuc n) not_less not_more = absurd (not_less (omega (arith, ints)))

-- a point of a triangle that is not left of a side is on it: of the first,
module _ (corners : List Point) (t : Tri) (left : IsLeft (whole (vertex corners t.a)) (whole (vertex corners t.b)) (whole (vertex corners t.c)))
    (p : Point) (held : IsInTri corners t (whole p)) where
  pub on_first : ¬ IsLeft (whole (vertex corners t.a)) (whole (vertex corners t.b)) (whole p) → On (whole p) (whole (vertex corners t.a)) (whole (vertex corners t.b))
  on_first not_left =
      on_first_side (vertex corners t.a) (vertex corners t.b) (vertex corners t.c) left (whole p) (whole_is_point p) held
      (zero_of_held _ held.not_right_of_first not_left)

  -- of the second,
  pub on_second : ¬ IsLeft (whole (vertex corners t.b)) (whole (vertex corners t.c)) (whole p) → On (whole p) (whole (vertex corners t.b)) (whole (vertex corners t.c))
  on_second not_left =
      on_second_side (vertex corners t.a) (vertex corners t.b) (vertex corners t.c) left (whole p) (whole_is_point p) held
      (zero_of_held _ held.not_right_of_second not_left)

  -- and of the third
  pub on_third : ¬ IsLeft (whole (vertex corners t.c)) (whole (vertex corners t.a)) (whole p) → On (whole p) (whole (vertex corners t.c)) (whole (vertex corners t.a))
  on_third not_left =
      on_third_side (vertex corners t.a) (vertex corners t.b) (vertex corners t.c) left (whole p) (whole_is_point p) held
      (zero_of_held _ held.not_right_of_third not_left)
