-- Regions left of some lines: near a point of one all points are in it, so where the region is in a ring, it meets no edge.
use Rattle.std.proofs.Common.{◌≡◌, ◌⊎◌, inl, inr, sym, subst, List, [], ◌∷◌, ◌++◌, length, ℕ, ◌+◌, ◌<◌, pos, ◌+ℤ◌, arith}
use Rattle.plane.proofs.Nearness.{Eventually, left_eventually, toward, toward_differs, toward_is_point, toward_on}
use Rattle.plane.proofs.Points.{same_sym, same_trans, whole_is_point}
use Rattle.plane.proofs.Segments.{on_first_end, on_last_end, on_reversed, on_same_point, on_antisym, on_total, on_nested, middle, middle_first}
use Rattle.plane.proofs.Segments.{middle_is_point, middle_last, middle_on, left_not_on, right_not_on, within_from}
use Rattle.plane.specs.Prelude.{IsLeft, IsPoint, IsSame, On, Point, Triple, whole}
use Rattle.rings.proofs.Crossings.{winding_law_crossed, right_swapped, other_parity}
use Rattle.rings.proofs.Inside.{both_odd}
use Rattle.rings.proofs.Simple.{proper_edges, same_or_not}
use Rattle.rings.proofs.Vertices.{closed_edges_of, on_some_cases, on_some_left, on_some_right, edge_with, misses_between}
use Rattle.rings.specs.Across.{CrossesRight, Misses}
use Rattle.rings.specs.Apart.{IsApartRing}
use Rattle.rings.specs.Prelude.{Edge, edges_of, HasEdge, IsClosed, IsIn, IsOn, IsOnSome, winding}
use Rattle.ring_laws.proofs.Triangles.{crosses_near, left_of, left_of_is_left, off_others, other_edges}

-- left of the lines of all these edges
abbrev pub IsLeftOfAll : List Edge → Triple → Type 0
IsLeftOfAll [] y = Unit {0}
IsLeftOfAll (e ∷ es) y = IsLeft (whole e.from) (whole e.to) y × IsLeftOfAll es y

-- near such a point all points are so
pub left_of_all_eventually : (x c : Triple) (es : List Edge) → IsLeftOfAll es x → Eventually (λ n. IsLeftOfAll es (toward x c n))
left_of_all_eventually x c [] h = record { start = 0; from_start = λ n above. tt }
left_of_all_eventually x c (e ∷ es) h =
    let first = left_eventually x c (whole e.from) (whole e.to) h.0 in
    let rest = left_of_all_eventually x c es h.1 in
    record { start = first.start + rest.start; from_start = λ n above. (first.from_start n (omega arith), rest.from_start n (omega arith)) }

-- ---- points toward the inside of a segment

module _ (a b x m : Triple) (at_a : IsPoint a) (at_b : IsPoint b) (at_x : IsPoint x) (at_m : IsPoint m) where
  -- on a segment, from a point toward another one that is not the first end, no point is the first end
  toward_not_end : On x a b → On m a b → ¬ IsSame m a → ¬ IsSame m x → (n : ℕ) → ¬ IsSame (toward x m n) a
  toward_not_end on_x on_m not_first differ n s =
      let a_on : On a x m = on_same_point (toward_is_point x m at_x at_m n) s (toward_on x m at_x at_m n) in
      elim (on_total x m a b at_x at_m at_a at_b on_x on_m) [
        | inl near ↦
            let same = on_antisym x a m at_x at_a at_m (on_reversed x a m near) (on_reversed a x m a_on) in
            toward_differs x m n differ (same_trans at_a s (same_sym same))
        | inr far ↦ not_first (same_sym (on_antisym a m x at_a at_m at_x a_on (on_reversed m a x far)))
      ]

-- ---- both sides of an edge

-- a point that is in a ring and on no edge has an odd number of crossings
odd_off : {A B : Type 0} → ¬ A → A ⊎ B → B
odd_off off (inl h) = absurd (off h)
odd_off off (inr h) = h

module _ (ring : List Point) (before after : List Edge) (e : Edge) (are : edges_of ring ≡ before ++ e ∷ after)
    (p q : Triple) (at_p : IsPoint p) (at_q : IsPoint q) (misses : Misses p q (before ++ after)) (c : CrossesRight p q e) where
  -- a point that is on no other edge, and not on this one, is on none
  off_all : (z : Triple) → IsPoint z → On z p q → ¬ IsOn e z → ¬ IsOnSome (edges_of ring) z
  off_all z at_z on not h = elim (on_some_cases z before (e ∷ after) (subst (λ es. IsOnSome es z) are h)) [
    | inl k ↦ misses z at_z on (on_some_left z before after k)
    | inr k ↦ elim k [ inl here ↦ not here | inr k ↦ misses z at_z on (on_some_right z before after k) ]
  ]

  -- across an edge not both points are in the ring
  not_both_in : IsIn ring p → IsIn ring q → ⊥
  not_both_in in_p in_q =
      let law : winding (edges_of ring) p ≡ winding (edges_of ring) q +ℤ pos 1 =
      subst (λ es. winding es p ≡ winding es q +ℤ pos 1) (sym are)
      (winding_law_crossed p q at_p at_q before after e (subst IsClosed are (closed_edges_of ring))
      (λ z at_z on k. misses z at_z on (on_some_left z before after k)) (λ z at_z on k. misses z at_z on (on_some_right z before after k)) c) in
      let off_p = off_all p at_p (on_first_end p q) (left_not_on e.from e.to p at_p c.starts_left) in
      let off_q = off_all q at_q (on_last_end p q) (right_not_on e.from e.to q at_q c.ends_right) in
      both_odd _ _ (other_parity (edges_of ring) (edges_of ring) p q law) (odd_off off_p in_p) (odd_off off_q in_q)

-- ---- regions in a ring

module _ (ring : List Point) (apart : IsApartRing ring) (some : 1 < length ring) (es : List Edge)
    (all : (y : Triple) → IsPoint y → IsLeftOfAll es y → IsIn ring y) where
  -- no point of the region is strictly inside an edge,
  off_inside : (e : Edge) → HasEdge (edges_of ring) e → (x : Triple) → IsPoint x → IsOn e x → ¬ IsSame x (whole e.from) → ¬ IsSame x (whole e.to)
      → ¬ IsLeftOfAll es x
  off_inside e has x at_x on not_from not_to here =
      let proper = proper_edges ring apart some e has in
      let rest = other_edges ring apart e has in
      let off = off_others ring apart e has x at_x on not_from not_to in
      let p = whole (left_of e.from e.to) in
      let q = whole (left_of e.to e.from) in
      let at_p = whole_is_point (left_of e.from e.to) in
      let at_q = whole_is_point (left_of e.to e.from) in
      let left = left_of_is_left e.from e.to proper in
      let right = right_swapped (whole e.to) (whole e.from) q (left_of_is_left e.to e.from (λ s. proper (sym s))) in
      let within = within_from x (whole e.from) (whole e.to) at_x (whole_is_point e.from) (whole_is_point e.to) on not_from not_to in
      let first = left_of_all_eventually x p es here in
      let last = left_of_all_eventually x q es here in
      let between = misses_between x p q at_x at_p at_q (rest.before ++ rest.after) off in
      let across = crosses_near e x p q at_x at_p at_q within left right in
      let n : ℕ = first.start + last.start + between.start + across.start in
      let at_y = toward_is_point x p at_x at_p n in
      let at_z = toward_is_point x q at_x at_q n in
      not_both_in ring rest.before rest.after e rest.are (toward x p n) (toward x q n) at_y at_z (between.from_start n (omega arith))
      (across.from_start n (omega arith)) (all _ at_y (first.from_start n (omega arith))) (all _ at_z (last.from_start n (omega arith)))

  -- and none is on an edge
  pub region_off_edges : (x : Triple) → IsPoint x → IsLeftOfAll es x → ¬ IsOnSome (edges_of ring) x
  region_off_edges x at_x here on =
      let (e, has, on_e) = edge_with x (edges_of ring) on in
      let a = whole e.from in
      let b = whole e.to in
      let at_a = whole_is_point e.from in
      let at_b = whole_is_point e.to in
      let proper = proper_edges ring apart some e has in
      let m = middle e.from e.to in
      let at_m = middle_is_point e.from e.to in
      let on_m = middle_on e.from e.to in
      let not_from = λ (s : IsSame m a). proper (middle_first e.from e.to s) in
      let not_to = λ (s : IsSame m b). proper (middle_last e.from e.to s) in
      elim (same_or_not m x) [
        | inl same ↦ off_inside e has x at_x on_e (λ s. not_from (same_trans at_x same s)) (λ s. not_to (same_trans at_x same s)) here
        | inr differ ↦
            let near = left_of_all_eventually x m es here in
            let n : ℕ = near.start in
            let y = toward x m n in
            let at_y = toward_is_point x m at_x at_m n in
            off_inside e has y at_y (on_nested y x m a b at_y at_x at_m at_a at_b on_e on_m (toward_on x m at_x at_m n))
            (toward_not_end a b x m at_a at_b at_x at_m on_e on_m not_from differ n)
            (toward_not_end b a x m at_b at_a at_x at_m (on_reversed x a b on_e) (on_reversed m a b on_m) not_to differ n)
            (near.from_start n (omega arith))
      ]
