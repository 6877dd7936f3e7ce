-- Chains with bends: one of one point, one read backward, and one without its first points.
-- Two chains with bends from points that see each other: the one read backward goes on to the other.
use Rattle.std.proofs.Common.{◌≡◌, refl, sym, ap, ◌∙◌, ℕ, ◌+◌, ◌-◌, ◌<◌, List, length, reverse, drop, arith, inl, subst, ◌≤◌, ◌++◌}
use Rattle.std.proofs.lemmas.List.{get_or-drop, get_or-reverse, length-drop, length-reverse}
use Rattle.plane.proofs.Points.{same_whole, whole_is_point}
use Rattle.plane.proofs.Segments.{on_reversed}
use Rattle.plane.specs.Prelude.{On, Point, whole}
use Rattle.rings.specs.Prelude.{IsBend, IsBentChain, IsPath, IsSimple, origin, point_at, Sees}
use Rattle.meshes.proofs.Sight.{sees_before, sees_on}
use Rattle.funnels.proofs.Bends.{AreOnRay, on_ray_back}
use Rattle.funnels.proofs.OneChain.{bend_back, bend_from_ray, last_of, one_taut_chain, taut_iff_bent}
use Rattle.funnels.proofs.Touched.{only_point}
use Rattle.hulls.proofs.Joined.LinkedChains.{IsLinked, at_first, at_second, both_length, linked_bent}
use Rattle.hulls.specs.Joined.{IsOnPath}

-- ---- places

module _ (chain : List Point) where
  -- in the list read backward,
  pub back_at : (k l : ℕ) → k + l + 1 ≡ length chain → point_at (reverse chain) k ≡ point_at chain l
  back_at k l e = get_or-reverse chain k origin (omega arith) ∙ ap (point_at chain) (omega arith)

  -- and in the list without the first n
  pub rest_at : (n k l : ℕ) → n + k ≡ l → point_at (drop n chain) k ≡ point_at chain l
  rest_at n k l e = get_or-drop n chain k origin ∙ ap (point_at chain) e

-- ---- chains with bends

-- sight goes both ways
pub sees_back : (ring : List Point) (p q : Point) → Sees ring (whole p) (whole q) → Sees ring (whole q) (whole p)
sees_back ring p q sees x at_x on = sees x at_x (on_reversed x (whole q) (whole p) on)

module _ (ring : List Point) (chain : List Point) (bent : IsBentChain ring chain) where
  -- read backward a chain with bends is one
  pub back_bent : IsBentChain ring (reverse chain)
  back_bent =
      let n = length-reverse chain in
      record {
        chain = record {
          some = omega (arith, bent.chain.some);
          inside = λ k h.
              let l = length chain - 1 - k in
              rw (back_at chain k l (omega arith)) (bent.chain.inside l (omega arith));
          distinct = λ k h.
              let l = length chain - 1 - (k + 1) in
              rw (back_at chain k (l + 1) (omega arith), back_at chain (k + 1) l (omega arith))
              (λ same. bent.chain.distinct l (omega arith) (sym same));
          sees = λ k h.
              let l = length chain - 1 - (k + 1) in
              rw (back_at chain k (l + 1) (omega arith), back_at chain (k + 1) l (omega arith))
              (sees_back ring (point_at chain l) (point_at chain (l + 1)) (bent.chain.sees l (omega arith)));
        };
        bends = λ k inner.
            let l = length chain - 1 - k in
            let first = inner.not_first in
            let last = inner.not_last in
            rw (back_at chain (k - 1) (l + 1) (omega arith), back_at chain k l (omega arith), back_at chain (k + 1) (l - 1) (omega arith))
            (bend_back ring (point_at chain (l - 1)) (point_at chain l) (point_at chain (l + 1))
            (bent.bends l (record { not_first = omega arith; not_last = omega arith })));
      }

  -- without the first n points too
  pub rest_bent : (n : ℕ) → n < length chain → IsBentChain ring (drop n chain)
  rest_bent n some =
      let count = length-drop n chain in
      record {
        chain = record {
          some = omega arith;
          inside = λ k h. rw (rest_at chain n k (n + k) refl) (bent.chain.inside (n + k) (omega arith));
          distinct = λ k h.
              rw (rest_at chain n k (n + k) refl, rest_at chain n (k + 1) (n + k + 1) (omega arith)) (bent.chain.distinct (n + k) (omega arith));
          sees = λ k h.
              rw (rest_at chain n k (n + k) refl, rest_at chain n (k + 1) (n + k + 1) (omega arith)) (bent.chain.sees (n + k) (omega arith));
        };
        bends = λ k inner.
            let first = inner.not_first in
            let last = inner.not_last in
            rw (rest_at chain n (k - 1) (n + k - 1) (omega arith), rest_at chain n k (n + k) refl, rest_at chain n (k + 1) (n + k + 1) (omega arith))
            (bent.bends (n + k) (record { not_first = omega arith; not_last = omega arith }));
      }

-- v sees the first point of the chain, which is another one, and the way from v along the chain has a bend there
pub record GoesOnTo (ring : List Point) (v : Point) (chain : List Point) : Type 0 where
  pub differ : ¬ (v ≡ point_at chain 0)
  pub sees : Sees ring (whole v) (whole (point_at chain 0))
  pub bend : 2 ≤ length chain → IsBend ring v (point_at chain 0) (point_at chain 1)

-- two points other than a third, of which one is on the way from that to the other, are on one ray
ray_along : (w u x : Point) → On (whole u) (whole w) (whole x) → ¬ (u ≡ w) → ¬ (x ≡ w) → AreOnRay (whole w) (whole u) (whole x)
ray_along w u x on differ differ_too = record {
  first_rational = whole_is_point u;
  last_rational = whole_is_point x;
  first_differs = λ same. differ (same_whole u w same);
  last_differs = λ same. differ_too (same_whole x w same);
  on_ray = inl on;
}

module _ (ring : List Point) (chain : List Point) where
  abbrev w : Point
  w = point_at chain 0

  -- where v goes on to a chain, so does what sees v from beyond it
  pub goes_on_beyond : (v x : Point) → GoesOnTo ring v chain → On (whole v) (whole x) (whole w) → Sees ring (whole x) (whole v)
      → GoesOnTo ring x chain
  goes_on_beyond v x on_to on sees =
      let differ : ¬ (x ≡ w) = λ e. on_to.differ (only_point w v (subst (λ p. On (whole v) (whole p) (whole w)) e on)) in
      record {
        differ = differ;
        sees = sees_on ring (whole x) (whole v) (whole w) (whole_is_point x) (whole_is_point v) (whole_is_point w) on sees on_to.sees;
        bend = λ more.
            bend_from_ray ring v x w (point_at chain 1)
            (ray_along w v x (on_reversed (whole v) (whole x) (whole w) on) on_to.differ differ) (on_to.bend more);
      }

module _ (ring : List Point) (chain : List Point) (bent : IsBentChain ring chain) where
  -- a point on a step goes on to where the step ends
  pub goes_on_step : (v : Point) (k : ℕ) → k + 1 < length chain → On (whole v) (whole (point_at chain k)) (whole (point_at chain (k + 1)))
      → ¬ (v ≡ point_at chain (k + 1)) → GoesOnTo ring v (drop (k + 1) chain)
  goes_on_step v k h on differ =
      let u = point_at chain k in
      let w = point_at chain (k + 1) in
      let first = rest_at chain (k + 1) 0 (k + 1) (omega arith) in
      let second = rest_at chain (k + 1) 1 (k + 1 + 1) (omega arith) in
      let back = on_reversed (whole v) (whole u) (whole w) on in
      record {
        differ = rw first differ;
        sees = rw first
            (sees_back ring w v
            (sees_before ring (whole w) (whole v) (whole u) (whole_is_point w) (whole_is_point v) (whole_is_point u) back
            (sees_back ring u w (bent.chain.sees k h))));
        bend = λ more.
            let before : k + 1 - 1 ≡ k = omega arith in
            let count = length-drop (k + 1) chain in
            let bend = bent.bends (k + 1) (record { not_first = omega arith; not_last = omega arith }) in
            rw (first, second)
            (bend_from_ray ring u v w (point_at chain (k + 1 + 1))
            (on_ray_back (ray_along w v u back differ (bent.chain.distinct k h)))
            (subst (λ n. IsBend ring (point_at chain n) w (point_at chain (k + 1 + 1))) before bend));
      }

module _ (ring one other : List Point) (bent : IsBentChain ring one) (bent_too : IsBentChain ring other)
    (on_to : GoesOnTo ring (point_at one 0) other) (on_to_one : GoesOnTo ring (point_at other 0) one) where
  -- the one read backward, and then the other,
  abbrev pub over : List Point
  over = reverse one ++ other

  -- of as many points as both
  count : length over ≡ length one + length other
  count = omega (arith, both_length (reverse one) other, length-reverse one)

  -- the parts are linked, so they
  link : IsLinked ring (reverse one) other
  link =
      let n = length-reverse one in
      let some = bent.chain.some in
      let last = back_at one (length (reverse one) - 1) 0 (omega arith) in
      record {
        differ = rw last on_to.differ;
        sees = rw last on_to.sees;
        bend_last = λ more.
            rw (last, back_at one (length (reverse one) - 2) 1 (omega arith))
            (bend_back ring (point_at other 0) (point_at one 0) (point_at one 1) (on_to_one.bend (omega arith)));
        bend_first = λ more. rw last (on_to.bend more);
      }

  -- are a chain with bends,
  pub over_bent : IsBentChain ring over
  over_bent = linked_bent ring (reverse one) other (back_bent ring one bent) bent_too link

  -- which goes from the end of the one
  over_begins : point_at over 0 ≡ last_of one
  over_begins =
      let n = length-reverse one in
      let some = bent.chain.some in
      at_first (reverse one) other 0 (omega arith) ∙ back_at one 0 (length one - 1) (omega arith)

  -- to that of the other,
  pub over_ends : last_of over ≡ last_of other
  over_ends =
      let n = length-reverse one in
      let some = bent_too.chain.some in
      at_second (reverse one) other (length over - 1) (length other - 1) (omega (arith, count))

  -- and on the way from the first point of the one
  over_from : point_at over (length one - 1) ≡ point_at one 0
  over_from =
      let n = length-reverse one in
      let some = bent.chain.some in
      at_first (reverse one) other (length one - 1) (omega arith) ∙ back_at one (length one - 1) 0 (omega arith)

  -- to that of the other
  over_to : point_at over (length one - 1 + 1) ≡ point_at other 0
  over_to =
      let n = length-reverse one in
      let some = bent.chain.some in
      at_second (reverse one) other (length one - 1 + 1) 0 (omega arith)

  -- so in a simple ring what is on that step is on the path
  pub on_path_over : 3 ≤ length ring → IsSimple ring → (a b v : Point) → last_of one ≡ a → last_of other ≡ b
      → On (whole v) (whole (point_at one 0)) (whole (point_at other 0)) → IsOnPath ring a b v
  on_path_over some simple a b v end end_too on =
      let some_one = bent.chain.some in
      let some_other = bent_too.chain.some in
      let is = one_taut_chain ring some simple (point_at over 0) (last_of over) over ((taut_iff_bent ring some simple over).1 over_bent) in
      record {
        path = over;
        is_path = subst (λ p. IsPath ring p b over) (over_begins ∙ end)
            (subst (λ p. IsPath ring (point_at over 0) p over) (over_ends ∙ end_too) is);
        place = length one - 1;
        within = omega (arith, count);
        on = rw (over_from, over_to) on;
      }
