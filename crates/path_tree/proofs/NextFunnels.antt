-- The triangles at the places of an order outward: each is entered over the side that it shares with the one from which it is reached,
-- and has one corner that no earlier one need have.
-- The funnel at the side over which the triangle at a place is entered: from home, and from the funnel of the triangle from which it
-- is reached.
use Rattle.std.proofs.Common.{◌≡◌, ◌≢◌, sym, subst, List, length, ℕ, ◌<◌, arith, ◌⊎◌, inl, inr, ◌∙◌, ◌+◌, ◌≤◌}
use Rattle.std.proofs.lemmas.Bool.{cases_eq}
use Rattle.std.proofs.lemmas.List.{length-map}
use Rattle.plane.specs.Point.{Point, whole}
use Rattle.rings.specs.Ring.{vertex}
use Rattle.meshes.proofs.Sides.{ends_below, fitting_sides, two_fewer}
use Rattle.meshes.specs.Fits.{Fits, IsInTri, IsSideOfTwo}
use Rattle.meshes.specs.Side.{tri_at, HasCorner, HasSide}
use Rattle.meshes.specs.declared.tri.Tri.{Tri}
use Rattle.funnels.proofs.Corners.{side_corners}
use Rattle.funnels.specs.Funnel.{IsReachedFrom}
use Rattle.tri_mesh.proofs.Neighbours.{has_side_numbered}
use Rattle.tri_mesh.specs.Outward.{IsOutward, outward_at, at_place}
use Rattle.tri_mesh.specs.declared.outward.Outward.{Outward}
use Rattle.shared_seq.proofs.Digits.{binary_digits_mono}
use Rattle.shared_seq.specs.Digits.{binary_digits}
use Rattle.path_tree.proofs.Doors.{beyond_of, corner_cases, side_of_both, third_numbered, funnel_later, goes_on}
use Rattle.path_tree.proofs.StepCounts.{three_digits}
use Rattle.path_tree.specs.Entered.{IsFromStart, left_of, right_of, third_of, toward, IsFunnelTo}
use Rattle.path_tree.specs.Listed.{IsTriangleBeyond, IsFunnelAt, Listed, point_of, listed_points}

-- an order outward from a triangle with the start in it
pub from_start : (corners : List Point) (start : Point) (tris : List Tri) (home : ℕ) (order : List Outward) → Fits corners tris
    → home < length tris → IsInTri corners (tri_at tris home) (whole start) → IsOutward tris home order
    → IsFromStart corners start tris order
from_start corners start tris home order fits within in_start outward = record {
  fits = fits;
  some = omega (arith, within, outward.count);
  outward = subst (λ k. IsOutward tris k order) (sym outward.first) outward;
  home = subst (λ k. IsInTri corners (tri_at tris k) (whole start)) (sym outward.first) in_start;
}

module _ (corners : List Point) (start : Point) (tris : List Tri) (order : List Outward) (from : IsFromStart corners start tris order) where
  -- triangles at two places differ
  pub apart : (p q : ℕ) → q < p → p < length order → ¬ (at_place order p ≡ at_place order q)
  apart p q less below same =
      let e : p ≡ q = from.outward.once p q below (omega (arith, less, below)) same in
      omega (arith, less, e)

  module _ (p : ℕ) (later : 0 < p) (below : p < length order) where
    -- the one from which it is reached is at an earlier place,
    pub earlier : toward order p < p
    earlier = (from.outward.joined p later below).earlier

    pub toward_below : toward order p < length order
    toward_below = omega (arith, earlier, below)

    -- the side is of these two, from either one,
    pub shared_at : IsSideOfTwo tris (left_of tris order p) (right_of tris order p) (at_place order p) (at_place order (toward order p))
    shared_at =
        let joined = from.outward.joined p later below in
        side_of_both corners tris from.fits (left_of tris order p) (right_of tris order p) (at_place order p) (at_place order (toward order p)) (from.outward.in_list p below)
        (from.outward.in_list (toward order p) toward_below) (apart p (toward order p) earlier below)
        (has_side_numbered (tri_at tris (at_place order p)) (outward_at order p).side joined.side) joined.shared

    pub shared_back : IsSideOfTwo tris (right_of tris order p) (left_of tris order p) (at_place order (toward order p)) (at_place order p)
    shared_back =
        let joined = from.outward.joined p later below in
        side_of_both corners tris from.fits (right_of tris order p) (left_of tris order p) (at_place order (toward order p)) (at_place order p)
        (from.outward.in_list (toward order p) toward_below) (from.outward.in_list p below)
        (λ same. apart p (toward order p) earlier below (sym same)) joined.shared
        (has_side_numbered (tri_at tris (at_place order p)) (outward_at order p).side joined.side)

    -- the triangle is beyond it,
    pub beyond_at : IsTriangleBeyond tris (at_place order p) (left_of tris order p) (right_of tris order p) (third_of tris order p)
    beyond_at =
        beyond_of corners tris from.fits (left_of tris order p) (right_of tris order p) (at_place order p) (at_place order (toward order p)) (third_of tris order p) shared_at
        (third_numbered (tri_at tris (at_place order p)) (outward_at order p).side (from.outward.joined p later below).side)

    -- and its corners are vertices
    pub ends_at : (left_of tris order p < length corners) × (right_of tris order p < length corners)
    ends_at = ends_below corners tris from.fits (at_place order p) (left_of tris order p) (right_of tris order p) (from.outward.in_list p below) shared_at.has

    pub third_below : third_of tris order p < length corners
    third_below = (ends_below corners tris from.fits (at_place order p) (right_of tris order p) (third_of tris order p) (from.outward.in_list p below) beyond_at.right).1

    -- What the corners of the earlier triangles have, those of that triangle have, but for the third one.
    pub corner_had : (Had : ℕ → Type 0) → ((q i : ℕ) → q < p → HasCorner (tri_at tris (at_place order q)) i → Had i)
        → (q i : ℕ) → q < p + 1 → HasCorner (tri_at tris (at_place order q)) i → i ≢ third_of tris order p → Had i
    corner_had Had all q i less has other = elim (cases_eq q p) [
      | inl same ↦
          let joined = from.outward.joined p later below in
          let here = subst (λ r. HasCorner (tri_at tris (at_place order r)) i) same has in
          let shared = side_corners (tri_at tris (at_place order (toward order p))) (right_of tris order p) (left_of tris order p) joined.shared in
          let had = λ (j : ℕ) (corner : HasCorner (tri_at tris (at_place order (toward order p))) j) (e : j ≡ i).
          subst Had e (all (toward order p) j earlier corner) in
          elim (corner_cases (tri_at tris (at_place order p)) (outward_at order p).side i joined.side here) [
            | inl begin ↦ had (left_of tris order p) shared.1 begin
            | inr (inl end) ↦ had (right_of tris order p) shared.0 end
            | inr (inr third) ↦ absurd (other (sym third))
          ]
      | inr differ ↦ all q i (omega (arith, less, differ)) has
    ]

module _ (corners : List Point) (start : Point) (tris : List Tri) (order : List Outward) (from : IsFromStart corners start tris order) where
  -- where there is a later place, there are four corners or more
  pub later_digits : (p : ℕ) → 0 < p → p < length order → 3 ≤ binary_digits (length corners)
  later_digits p later below =
      three_digits (length corners) (omega (arith, later, below, from.outward.count, two_fewer corners tris from.fits))

  -- a funnel there has its apex, and fewer points than there are corners
  pub apex_in : (p : ℕ) (f : Listed) → IsFunnelTo corners start tris order p f → f.apex < length f.list
  apex_in p f w = omega (arith, w.funnel.funnel.apex_within, length-map f.list (point_of corners start))

  pub few_points : (p : ℕ) (f : Listed) → p < length order → IsFunnelTo corners start tris order p f → length f.list + 1 ≤ length corners
  few_points p f below w = omega (arith, w.few, from.outward.count, two_fewer corners tris from.fits, below)

  -- so their number has no more digits
  pub few_digits : (p : ℕ) (f : Listed) → p < length order → IsFunnelTo corners start tris order p f
      → (binary_digits (length f.list) ≤ binary_digits (length corners)) × (binary_digits (length f.list + 1) ≤ binary_digits (length corners))
  few_digits p f below w =
      let few = few_points p f below w in (
        binary_digits_mono (length f.list) (length corners) (omega (arith, few)),
        binary_digits_mono (length f.list + 1) (length corners) few,
      )

  module _ (p : ℕ) (later : 0 < p) (below : p < length order) where
    abbrev q : ℕ
    q = toward order p

    -- From home the first funnel is the one,
    pub funnel_from_home : q ≡ 0 → (left right : ℕ) (f : Listed) → left ≡ left_of tris order p → right ≡ right_of tris order p
        → ((some : List Tri) (home next : ℕ) → Fits corners some → IsInTri corners (tri_at some home) (whole start)
        → IsSideOfTwo some right left home next → IsFunnelAt corners start left right 1 f)
        → IsFunnelTo corners start tris order p f
    funnel_from_home home left right f left_is right_is first =
        let side = subst (λ k. IsSideOfTwo tris (right_of tris order p) (left_of tris order p) (at_place order k) (at_place order p)) home
        (shared_back corners start tris order from p later below) in
        let there = subst (λ i. IsSideOfTwo tris right i (at_place order 0) (at_place order p)) (sym left_is)
        (subst (λ j. IsSideOfTwo tris j (left_of tris order p) (at_place order 0) (at_place order p)) (sym right_is) side) in
        funnel_later corners start (left_of tris order p) (right_of tris order p) 1 p f (omega (arith, later))
        (subst (λ i. IsFunnelAt corners start i (right_of tris order p) 1 f) left_is
        (subst (λ j. IsFunnelAt corners start left j 1 f) right_is (first tris (at_place order 0) (at_place order p) from.fits from.home there)))

    module _ (inner : 0 < q) where
      within : q < length order
      within = toward_below corners start tris order from p later below

      -- and from a later place the next on the right or on the left.
      goes : ((left_of tris order p ≡ left_of tris order q) × (right_of tris order p ≡ third_of tris order q))
          ⊎ ((left_of tris order p ≡ third_of tris order q) × (right_of tris order p ≡ right_of tris order q))
      goes =
          let before = earlier corners start tris order from p later below in
          let joined = from.outward.joined q inner within in
          goes_on corners tris from.fits (left_of tris order q) (right_of tris order q) (at_place order q) (at_place order (toward order q))
          (third_of tris order q) (left_of tris order p) (right_of tris order p) (at_place order p)
          (shared_at corners start tris order from q inner within)
          (third_numbered (tri_at tris (at_place order q)) (outward_at order q).side joined.side)
          (shared_at corners start tris order from p later below)
          (apart corners start tris order from p (toward order q) (omega (arith, joined.earlier, before)) below)

      -- The side does not end where it begins,
      not_one : ¬ (left_of tris order p ≡ right_of tris order p)
      not_one e =
          let has = (shared_at corners start tris order from p later below).has in
          let end = right_of tris order p in
          let loop = subst (λ i. HasSide (tri_at tris (at_place order p)) i end) e has in
          (fitting_sides corners tris from.fits).one_way end end (at_place order p) (from.outward.in_list p below) loop loop

      -- From the funnel there, and the place from which the third corner is reached,
      module _ (old : Listed) (w : IsFunnelTo corners start tris order q old) (h : ℕ)
          (reached : IsReachedFrom (listed_points corners start old.list) old.apex h (whole (vertex corners (third_of tris order q))))
          (right m : ℕ) (right_is : right ≡ right_of tris order p) (third_is : m ≡ third_of tris order q) (f : Listed) where
        -- what the steps ask,
        beyond : IsTriangleBeyond tris (at_place order q) (left_of tris order q) (right_of tris order q) m
        beyond =
            subst (IsTriangleBeyond tris (at_place order q) (left_of tris order q) (right_of tris order q)) (sym third_is)
            (beyond_at corners start tris order from q inner within)

        reached_there : IsReachedFrom (listed_points corners start old.list) old.apex h (whole (vertex corners m))
        reached_there =
            subst (λ k. IsReachedFrom (listed_points corners start old.list) old.apex h (whole (vertex corners k))) (sym third_is) reached

        -- the step on the right is the one where the side ends at the third corner,
        pub funnel_on_right : right ≡ m
            → (IsTriangleBeyond tris (at_place order q) (left_of tris order q) (right_of tris order q) m
            → IsReachedFrom (listed_points corners start old.list) old.apex h (whole (vertex corners m))
            → IsSideOfTwo tris m (left_of tris order q) (at_place order q) (at_place order p)
            → IsFunnelAt corners start (left_of tris order q) m (q + 1) f)
            → IsFunnelTo corners start tris order p f
        funnel_on_right same next =
            let end : m ≡ right_of tris order p = sym same ∙ right_is in
            let left : left_of tris order p ≡ left_of tris order q = elim goes [
              | inl w ↦ w.0
              | inr w ↦ absurd (not_one (w.0 ∙ sym third_is ∙ end))
            ] in
            let side = subst (λ i. IsSideOfTwo tris m i (at_place order q) (at_place order p)) left
            (subst (λ j. IsSideOfTwo tris j (left_of tris order p) (at_place order q) (at_place order p)) (sym end)
            (shared_back corners start tris order from p later below)) in
            funnel_later corners start (left_of tris order p) (right_of tris order p) (q + 1) p f
            (omega (arith, earlier corners start tris order from p later below))
            (subst (λ i. IsFunnelAt corners start i (right_of tris order p) (q + 1) f) (sym left)
            (subst (λ j. IsFunnelAt corners start (left_of tris order q) j (q + 1) f) end (next beyond reached_there side)))

        -- and otherwise it is that on the left
        pub funnel_on_left : ¬ (right ≡ m)
            → (IsTriangleBeyond tris (at_place order q) (left_of tris order q) (right_of tris order q) m
            → IsReachedFrom (listed_points corners start old.list) old.apex h (whole (vertex corners m))
            → IsSideOfTwo tris (right_of tris order q) m (at_place order q) (at_place order p)
            → IsFunnelAt corners start m (right_of tris order q) (q + 1) f)
            → IsFunnelTo corners start tris order p f
        funnel_on_left other next =
            let both : (left_of tris order p ≡ third_of tris order q) × (right_of tris order p ≡ right_of tris order q) =
            elim goes [ inl w ↦ absurd (other (right_is ∙ w.1 ∙ sym third_is)) | inr w ↦ w ] in
            let begin : left_of tris order p ≡ m = both.0 ∙ sym third_is in
            let side = subst (λ i. IsSideOfTwo tris (right_of tris order q) i (at_place order q) (at_place order p)) begin
            (subst (λ j. IsSideOfTwo tris j (left_of tris order p) (at_place order q) (at_place order p)) both.1
            (shared_back corners start tris order from p later below)) in
            funnel_later corners start (left_of tris order p) (right_of tris order p) (q + 1) p f
            (omega (arith, earlier corners start tris order from p later below))
            (subst (λ i. IsFunnelAt corners start i (right_of tris order p) (q + 1) f) (sym begin)
            (subst (λ j. IsFunnelAt corners start m j (q + 1) f) (sym both.1) (next beyond reached_there side)))
