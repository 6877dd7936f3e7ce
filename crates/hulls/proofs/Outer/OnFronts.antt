-- A point is on the path from t to another exactly if the path to it is a front of the path there.
use Rattle.std.proofs.Common.{◌≡◌, ◌≢◌, inl, inr, refl, sym, subst, ap, ◌∙◌, ℕ, zero, suc, ◌+◌, ◌-◌, ◌<◌, ◌≤◌, List, [], ◌∷◌, length, drop, arith}
use Rattle.plane.proofs.Order.{point_or_other}
use Rattle.plane.proofs.Points.{whole_is_point}
use Rattle.plane.proofs.Segments.{on_last_end}
use Rattle.plane.specs.Prelude.{On, Point, whole}
use Rattle.rings.specs.Prelude.{IsBend, IsBentChain, IsPath, IsSimple, point_at}
use Rattle.meshes.proofs.Sight.{sees_before}
use Rattle.funnels.proofs.Bends.{on_ray_back}
use Rattle.funnels.proofs.Chains.{one_bent}
use Rattle.funnels.proofs.OneChain.{bend_on_ray, bent_is_path, last_of}
use Rattle.hulls.proofs.Joined.{GoesOnTo, path_is_taut, rest_at, rest_bent}
use Rattle.hulls.proofs.Outer.Fronts.{IsFrontOf}
use Rattle.hulls.proofs.Third.{ray_of_on, with_point, with_point_ends}
use Rattle.hulls.proofs.Turning.{one_path}
use Rattle.hulls.specs.Joined.{IsOnPath}

-- the places of a list with one more point before it
place_after : (v : Point) (path : List Point) (k l : ℕ) → 1 + k ≡ l → point_at path k ≡ point_at (v ∷ path) l
place_after v path k l e = rest_at (v ∷ path) 1 k l e

module _ (ring : List Point) where
  -- ---- the front of a way that ends at a point on it

  -- a way with bends from v to u that is a front of another
  record HasFrontTo (v u : Point) (way : List Point) : Type 0 where
    one : List Point
    bent : IsBentChain ring (v ∷ one)
    ends : last_of (v ∷ one) ≡ u
    front : IsFrontOf v one way

  -- a front that goes on from q has a bend there where the way has
  front_bends : (v q : Point) (one way : List Point) → IsBentChain ring (v ∷ q ∷ way) → IsBentChain ring (q ∷ one) → IsFrontOf q one way
      → 0 < length one → IsBend ring v q (point_at one 0)
  front_bends v q [] way bent bent_one front some = absurd (omega (arith, some))
  front_bends v q (x ∷ xs) [] bent bent_one front some = absurd front
  front_bends v q (x ∷ xs) (y ∷ ys) bent bent_one (inl h) some =
      subst (IsBend ring v q) (sym h.0) (bent.bends 1 (record { not_first = omega arith; not_last = omega arith }))
  front_bends v q (x ∷ xs) (y ∷ ys) bent bent_one (inr h) some =
      bend_on_ray ring v q y x (on_ray_back (ray_of_on q x y h.1 (λ e. bent_one.chain.distinct 0 (omega arith) (sym e))))
      (bent.bends 1 (record { not_first = omega arith; not_last = omega arith }))

  module _ (v q : Point) (second : List Point) (bent : IsBentChain ring (v ∷ q ∷ second)) where
    -- to a point on its first step, other than its begin, goes a front,
    first_front : (u : Point) → On (whole u) (whole v) (whole q) → ¬ (u ≡ v) → HasFrontTo v u (q ∷ second)
    first_front u on differ =
        let sees = bent.chain.sees 0 (omega arith) in
        let alone = one_bent ring u (sees (whole u) (whole_is_point u) on) in
        let v_in = bent.chain.inside 0 (omega arith) in
        let on_to : GoesOnTo ring v (u ∷ []) = record {
          differ = λ e. differ (sym e);
          sees = sees_before ring (whole v) (whole u) (whole q) (whole_is_point v) (whole_is_point u) (whole_is_point q) on sees;
          bend = λ more. absurd (omega (arith, more));
        } in
        record { one = u ∷ []; bent = with_point ring v (u ∷ []) alone v_in on_to; ends = refl; front = inr (refl, on) }

    -- and the front of what comes after the step is one of the whole
    later_front : (u : Point) → HasFrontTo q u second → HasFrontTo v u (q ∷ second)
    later_front u rest =
        let v_in = bent.chain.inside 0 (omega arith) in
        let on_to : GoesOnTo ring v (q ∷ rest.one) = record {
          differ = bent.chain.distinct 0 (omega arith);
          sees = bent.chain.sees 0 (omega arith);
          bend = λ more. front_bends v q rest.one second bent rest.bent rest.front (omega (arith, more));
        } in
        record {
          one = q ∷ rest.one;
          bent = with_point ring v (q ∷ rest.one) rest.bent v_in on_to;
          ends = with_point_ends ring v (q ∷ rest.one) rest.bent v_in on_to ∙ rest.ends;
          front = inl (refl, rest.front);
        }

  -- so to each point on a way goes a front of it,
  front_to : (k : ℕ) (v u : Point) (way : List Point) → IsBentChain ring (v ∷ way) → k + 1 < length (v ∷ way)
      → On (whole u) (whole (point_at (v ∷ way) k)) (whole (point_at (v ∷ way) (k + 1))) → HasFrontTo v u way
  front_to k v u [] bent h on = absurd (omega (arith, h))
  front_to zero v u (q ∷ second) bent h on = elim (point_or_other u v) [
    | inl e ↦ record { one = []; bent = one_bent ring v (bent.chain.inside 0 (omega arith)); ends = sym e; front = tt }
    | inr differ ↦ first_front v q second bent u on differ
  ]
  front_to (suc k) v u (q ∷ second) bent h on =
      let here = place_after v (q ∷ second) k (suc k) (omega arith) in
      let next = place_after v (q ∷ second) (k + 1) (suc k + 1) (omega arith) in
      later_front v q second bent u
      (front_to k q u second (rest_bent ring (v ∷ q ∷ second) bent 1 (omega arith)) (omega (arith, h)) (rw (here, next) on))

-- ---- the point where a front ends

-- u is on a step of the list
record IsOnStep (u : Point) (path : List Point) : Type 0 where
  place : ℕ
  within : place + 1 < length path
  on : On (whole u) (whole (point_at path place)) (whole (point_at path (place + 1)))

-- what is on a step is so with one more point before the list,
on_step_more : (u v : Point) (path : List Point) → IsOnStep u path → IsOnStep u (v ∷ path)
on_step_more u v path h =
    let here = place_after v path h.place (h.place + 1) (omega arith) in
    let next = place_after v path (h.place + 1) (h.place + 1 + 1) (omega arith) in
    record { place = h.place + 1; within = omega (arith, h.within); on = rw (sym here, sym next) h.on }

-- and where a front ends is on a step
end_on_step : (v : Point) (one way : List Point) → 0 < length one → IsFrontOf v one way → IsOnStep (last_of (v ∷ one)) (v ∷ way)
end_on_step v [] way some h = absurd (omega (arith, some))
end_on_step v (p ∷ first) [] some h = absurd h
end_on_step v (p ∷ []) (q ∷ second) some (inl h) =
    record { place = 0; within = omega arith; on = subst (λ x. On (whole x) (whole v) (whole q)) (sym h.0) (on_last_end (whole v) (whole q)) }
end_on_step v (p ∷ x ∷ xs) (q ∷ second) some (inl h) =
    let last = rest_at (v ∷ p ∷ x ∷ xs) 1 (length (p ∷ x ∷ xs) - 1) (length (v ∷ p ∷ x ∷ xs) - 1) (omega arith) in
    subst (λ y. IsOnStep y (v ∷ q ∷ second)) last
    (on_step_more (last_of (p ∷ x ∷ xs)) v (q ∷ second)
    (subst (λ y. IsOnStep (last_of (p ∷ x ∷ xs)) (y ∷ second)) h.0 (end_on_step p (x ∷ xs) second (omega arith) h.1)))
end_on_step v (p ∷ first) (q ∷ second) some (inr h) =
    let alone : p ≡ last_of (v ∷ p ∷ first) = ap (λ xs. last_of (v ∷ p ∷ xs)) (sym h.0) in
    record { place = 0; within = omega arith; on = subst (λ x. On (whole x) (whole v) (whole q)) alone h.1 }

-- ---- paths

module _ (ring : List Point) (some : 3 ≤ length ring) (simple : IsSimple ring) (t u w : Point) (one way : List Point)
    (to_u : IsPath ring t u (t ∷ one)) (to_w : IsPath ring t w (t ∷ way)) where
  -- to a point on the path to w goes a front of it,
  pub front_of_on_path : IsOnPath ring t w u → IsFrontOf t one way
  front_of_on_path h =
      let same = one_path ring t w h.path (t ∷ way) h.is_path to_w in
      let taut = path_is_taut ring t w (t ∷ way) to_w in
      let within = subst (λ ps. h.place + 1 < length ps) same h.within in
      let on = subst (λ ps. On (whole u) (whole (point_at ps h.place)) (whole (point_at ps (h.place + 1)))) same h.on in
      let found = front_to ring h.place t u way taut.bent within on in
      let there = bent_is_path ring some simple (t ∷ found.one) found.bent t u refl found.ends in
      subst (λ ps. IsFrontOf t ps way) (ap (drop 1) (one_path ring t u (t ∷ found.one) (t ∷ one) there to_u)) found.front

  -- and where a front goes to another point than t, that is on the path to w
  pub on_path_of_front : t ≢ u → IsFrontOf t one way → IsOnPath ring t w u
  on_path_of_front differ front =
      let taut = path_is_taut ring t u (t ∷ one) to_u in
      let found = end_on_step t one way (goes one taut.last) front in
      record {
        path = t ∷ way;
        is_path = to_w;
        place = found.place;
        within = found.within;
        on = subst (λ x. On (whole x) (whole (point_at (t ∷ way) found.place)) (whole (point_at (t ∷ way) (found.place + 1)))) taut.last found.on;
      }
    where
      goes : (xs : List Point) → last_of (t ∷ xs) ≡ u → 0 < length xs
      goes [] e = absurd (differ e)
      goes (x ∷ xs) e = omega arith
