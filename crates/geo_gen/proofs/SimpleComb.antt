-- The comb is a simple ring: two of its edges share no more than the vertex between them.
use Rattle.std.proofs.Common.{◌≡◌, inl, inr, sym, subst, ap, ◌∙◌, ℕ, ◌+◌, ◌*◌, ◌<◌, length, pos, ◌*ℤ◌, arith}
use Rattle.plane.proofs.Segments.{on_reversed}
use Rattle.plane.specs.Point.{IsPoint, IsSame, Point, Triple, whole}
use Rattle.rings.specs.Ring.{IsOnEdge, vertex}
use Rattle.rings.specs.Simple.{IsSimple}
use Rattle.geo_gen.proofs.Columns.{IsOver, at_place, at_two_places, between_columns, height_is_one, on_over, on_upright}
use Rattle.geo_gen.proofs.Corners.{Kind, ends_differ, is_left, is_lower, is_right, is_upper, kind, length_comb, lower_at, on_between, round_at, upper_at}
use Rattle.geo_gen.specs.Comb.{above, comb_list}

-- where a point of edge e lies
data Place (k e : ℕ) (p : Triple) : Type 0 where
  low : e < k → IsOver e 0 p → Place k e p
  right : e ≡ k → p.X ≡ pos (4 * k) *ℤ p.W → Place k e p
  high : (m : ℕ) → m < k → e + m ≡ 2 * k → IsOver m 2 p → Place k e p
  left : e ≡ 2 * k + 1 → p.X ≡ pos (4 * 0) *ℤ p.W → Place k e p

module _ (k : ℕ) (p : Triple) (at : IsPoint p) where
  place : (e : ℕ) → Kind k e → IsOnEdge (comb_list k) e p → Place k e p
  place e (is_lower less) on =
      low less (on_over e 0 p at (on_between p (lower_at k e (omega arith)) (lower_at k (e + 1) (omega arith)) on))
  place e (is_right last) on =
      let from = ap (vertex (comb_list k)) last ∙ lower_at k k (omega arith) in
      right last (on_upright p _ _ _ at (on_between p from (upper_at k k (e + 1) (omega arith) (omega arith)) on))
  place e (is_upper m less sum) on =
      let ends =
      on_between p (upper_at k (m + 1) e (omega arith) (omega arith)) (upper_at k m (e + 1) (omega arith) (omega arith)) on
      in
      high m less sum (on_over m 2 p at (on_reversed p (whole (above (m + 1) 2)) (whole (above m 2)) ends))
  place e (is_left last) on =
      let to : vertex (comb_list k) (e + 1) ≡ above 0 0 = ap (vertex (comb_list k)) (omega arith) ∙ round_at k in
      left last (on_upright p _ _ _ at (on_between p (upper_at k 0 e (omega arith) (omega arith)) to on))

  module _ (some : 0 < k) (i j : ℕ) (less : i < j) (next : j ≡ i + 1 → ¬ (IsSame p (whole (vertex (comb_list k) j))))
      (round : i ≡ 0 → j + 1 ≡ length (comb_list k) → ¬ (IsSame p (whole (vertex (comb_list k) 0)))) where
    -- a point of both edges is no vertex between them
    not_next : (a : Point) → vertex (comb_list k) j ≡ a → j ≡ i + 1 → IsSame p (whole a) → ⊥
    not_next a is follows same = next follows (subst (λ (v : Point). IsSame p (whole v)) (sym is) same)

    shared : Place k i p → Place k j p → ⊥
    shared (low in_row h) (low in_row' h') =
        let (same, least, most) = at_place p at i j 0 h (between_columns p at i j 0 0 less h h') in
        not_next (above j 0) (lower_at k j (omega arith)) (omega arith) same
    shared (low in_row h) (right last e) =
        let (same, least, most) = at_place p at i k 0 h e in
        not_next (above k 0) (ap (vertex (comb_list k)) last ∙ lower_at k k (omega arith)) (omega arith) same
    shared (low in_row h) (high m in_row' sum h') = let e = height_is_one p at i m 0 2 h h' in absurd (omega arith)
    shared (low in_row h) (left last e) =
        let (same, least, most) = at_place p at i 0 0 h e in
        round (omega arith) (omega (arith, length_comb k)) (subst (λ (v : Point). IsSame p (whole v)) (sym (lower_at k 0 (omega arith))) same)
    shared (right last e) (low in_row' h') = absurd (omega arith)
    shared (right last e) (right last' e') = absurd (omega arith)
    shared (right last e) (high m in_row' sum h') =
        let (same, least, most) = at_place p at m k 2 h' e in
        not_next (above k 2) (upper_at k k j (omega arith) (omega arith)) (omega arith) same
    shared (right last e) (left last' e') = let f = at_two_places p at 0 k e' e in absurd (omega arith)
    shared (high m in_row sum h) (low in_row' h') = absurd (omega arith)
    shared (high m in_row sum h) (right last' e') = absurd (omega arith)
    shared (high m in_row sum h) (high n in_row' sum' h') =
        let (same, least, most) = at_place p at n m 2 h' (between_columns p at n m 2 2 (omega arith) h' h) in
        not_next (above m 2) (upper_at k m j (omega arith) (omega arith)) (omega arith) same
    shared (high m in_row sum h) (left last' e') =
        let (same, least, most) = at_place p at m 0 2 h e' in
        not_next (above 0 2) (upper_at k 0 j (omega arith) (omega arith)) (omega arith) same
    shared (left last e) (low in_row' h') = absurd (omega arith)
    shared (left last e) (right last' e') = absurd (omega arith)
    shared (left last e) (high m in_row' sum h') = absurd (omega arith)
    shared (left last e) (left last' e') = absurd (omega arith)

pub simple_comb : (k : ℕ) → 0 < k → IsSimple (comb_list k)
simple_comb k some i j less within clash =
    let in_ring : j < 2 * k + 2 = omega (arith, length_comb k) in
    let first = kind k i (omega arith) in
    let second = kind k j in_ring in
    elim clash [
      | inl equal ↦ ends_differ k i first equal
      | inr (inl equal) ↦ ends_differ k j second equal
      | inr (inr s) ↦
          shared k s.point s.rational some i j less s.not_between s.not_round
          (place k s.point s.rational i first s.on_first) (place k s.point s.rational j second s.on_second)
    ]
