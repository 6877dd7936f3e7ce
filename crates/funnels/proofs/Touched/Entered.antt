-- A chain with bends along a walk enters the walk's triangles in order: from which place on the sides matter to each of its steps.
use Rattle.std.proofs.Common.{◌≡◌, inl, inr, true, refl, sym, subst, ap, ◌∙◌, ℕ, zero, suc, ◌+◌, ◌-◌, ◌<◌, ◌≤◌, List, length, arith}
use Rattle.std.proofs.lemmas.Bool.{cases_lt}
use Rattle.plane.proofs.Points.{whole_is_point}
use Rattle.plane.proofs.Segments.{on_first_end}
use Rattle.plane.specs.Point.{Point, whole}
use Rattle.rings.specs.Prelude.{IsBentChain, point_at, vertex}
use Rattle.meshes.proofs.Sides.{ends_below}
use Rattle.meshes.specs.Prelude.{Fits, HasSide, HasSideBetween, IsInTri, IsWalk}
use Rattle.meshes.specs.declared.tri.Tri.{Tri}
use Rattle.meshes.specs.Laws.{CrossesSide, walk_tri}
use Rattle.funnels.proofs.DeadEnds.{end_of_crossed, follows}
use Rattle.funnels.proofs.Touched.LookedAt.{IsEntered, IsNextAt}
use Rattle.funnels.proofs.Touched.TouchedCorners.{side_in_triangle}
use Rattle.funnels.specs.Corner.{FollowsWalk}

-- from which place on the sides matter to a step of the chain, by the places at which its points are entered
start_at : (ℕ → ℕ) → ℕ → ℕ
start_at place zero = 0
start_at place (suc k) = place (suc k) + 1

-- for a first place it is 0,
start_first : (place : ℕ → ℕ) → start_at place 0 ≡ 0
unfolding start_at
start_first place = refl

-- for another it is the place after that of the point
start_later : (place : ℕ → ℕ) (k : ℕ) → start_at place (suc k) ≡ place (suc k) + 1
unfolding start_at
start_later place k = refl

module _ (corners : List Point) (tris : List Tri) (fits : Fits corners tris) (walk : List ℕ) (w : IsWalk tris walk) (from to : ℕ → ℕ)
    (crosses : (m : ℕ) → m + 1 < length walk → CrossesSide tris walk m (from m) (to m))
    (sides : (m : ℕ) → m + 1 < length walk → HasSide (walk_tri tris walk m) (from m) (to m)) where
  -- a number of a side is one of a vertex
  pub number_below : (m i j : ℕ) → m < length walk → HasSideBetween (walk_tri tris walk m) i j → i < length corners
  number_below m i j within (inl s) = (ends_below corners tris fits _ i j (w.in_list m within) s).0
  number_below m i j within (inr s) = (ends_below corners tris fits _ j i (w.in_list m within) s).1

  module _ (chain : List Point) (bent : IsBentChain corners chain) (in_first : IsInTri corners (walk_tri tris walk 0) (whole (point_at chain 0)))
      (in_last : IsInTri corners (walk_tri tris walk (length walk - 1)) (whole (point_at chain (length chain - 1)))) where
    module _ (t : FollowsWalk corners tris walk chain) where
      abbrev start : ℕ → ℕ
      start = start_at t.place

      within_at : (k : ℕ) → k + 1 < length chain → start k < length walk
      within_at zero more = rw (start_first t.place) w.some
      within_at (suc k) more =
          let (i, j, c, is) = t.leaves (suc k) (record { not_first = omega arith; not_last = more }) in
          rw (start_later t.place k) c.has_next

      inside_at : (k : ℕ) → k + 1 < length chain → IsInTri corners (walk_tri tris walk (start k)) (whole (point_at chain k))
      inside_at zero more = rw (start_first t.place) in_first
      inside_at (suc k) more =
          let (i, j, c, is) = t.leaves (suc k) (record { not_first = omega arith; not_last = more }) in
          rw (start_later t.place k, is)
          (side_in_triangle corners tris fits _ (w.in_list (t.place (suc k) + 1) c.has_next) i j c.of_next (whole (vertex corners i))
          (whole_is_point (vertex corners i)) (on_first_end (whole (vertex corners i)) (whole (vertex corners j))))

      not_after : (k : ℕ) → suc k + 1 < length chain → start k ≤ t.place (suc k)
      not_after zero more = omega (arith, start_first t.place)
      not_after (suc k) more =
          let next : suc k + 1 ≡ suc (suc k) = omega arith in
          let rise = subst (λ n. t.place (suc k) < t.place n) next (t.rises (suc k) (omega arith) (omega arith)) in
          omega (arith, start_later t.place k, rise)

      next_at : (k : ℕ) → suc k + 1 < length chain → IsNextAt corners tris walk from to start chain k
      next_at k more =
          let (i, j, c, is) = t.leaves (suc k) (record { not_first = omega arith; not_last = more }) in
          let next : suc k ≡ k + 1 = omega arith in
          record {
            place = t.place (suc k);
            after = not_after k more;
            is = ap start (sym next) ∙ start_later t.place k;
            within = c.has_next;
            first = λ l less. subst (λ n. ¬ IsInTri corners (walk_tri tris walk l) (whole (point_at chain n))) next
                ((t.first (suc k) (omega arith) (omega arith)).least l less);
            x = i;
            is_vertex = number_below (t.place (suc k)) i j (omega (arith, c.has_next)) c.of_this;
            at = sym is ∙ ap (point_at chain) next;
            end = end_of_crossed corners tris fits walk w (t.place (suc k)) (from (t.place (suc k))) (to (t.place (suc k)))
                (crosses (t.place (suc k)) c.has_next) true (sides (t.place (suc k)) c.has_next) i j c;
          }

      followed : IsEntered corners tris walk from to start chain
      followed = record { start_within = within_at; inside = inside_at; next = λ k more. next_at k (omega (arith, more)) }

    -- a search along a chain has some such places, of which the first is 0
    pub record Entering : Type 0 where
      pub start : ℕ → ℕ
      pub first : start 0 ≡ 0
      pub entered : IsEntered corners tris walk from to start chain

    pub entering : Entering
    entering = elim (cases_lt 1 (length chain)) [
      | inl long ↦
          let t = follows corners tris fits walk w chain bent (omega arith) in_first in_last in
          record { start = start_at t.place; first = start_first t.place; entered = followed t }
      | inr short ↦ record {
        start = λ k. 0;
        first = refl;
        entered = record {
          start_within = λ k more. w.some;
          inside = λ k more. absurd (omega (arith, more, short));
          next = λ k more. absurd (omega (arith, more, short));
        };
      }
    ]
