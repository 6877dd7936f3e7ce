-- A step past no vertex along a walk of triangles: it comes from one to the next over the side between them, and so to its end.
-- In a simple ring each step past no vertex that a point of the ring is not on is seen from that point in one of four ways.
use Rattle.std.proofs.Common.{◌≡◌, ◌⊎◌, inl, inr, refl, sym, subst, ℕ, zero, suc, ◌+◌, ◌-◌, ◌<◌, List, length, get_or, arith, ◌∙◌}
use Rattle.std.specs.List.{range_with_len}
use Rattle.plane.proofs.Points.{whole_is_point}
use Rattle.plane.proofs.Segments.{on_same_point}
use Rattle.plane.specs.Prelude.{IsPoint, On, Point, Triple, whole}
use Rattle.rings.proofs.Inside.{sees_turned_iff}
use Rattle.rings.proofs.Simple.{same_or_not}
use Rattle.rings.proofs.Turned.{between_turned}
use Rattle.rings.specs.From.{IsPredecessor}
use Rattle.rings.specs.Full.{IsVertexBetween}
use Rattle.rings.specs.Prelude.{IsIn, Sees, turned_round, vertex}
use Rattle.ring_laws.proofs.Simple.{kept_ring}
use Rattle.meshes.proofs.Parts.{paved, side_in}
use Rattle.meshes.proofs.Sides.{ends_below}
use Rattle.meshes.proofs.Sight.{sleeve_law}
use Rattle.meshes.proofs.Triangulations.{triangulation}
use Rattle.meshes.specs.Prelude.{Fits, HasSide, HasSideBetween, IsInTri, IsSideOfTwo, IsWalk, tri_at}
use Rattle.meshes.specs.declared.tri.Tri.{Tri}
use Rattle.meshes.specs.Laws.{walk_tri}
use Rattle.funnels.proofs.DeadEnds.{some_triangle}
use Rattle.hulls.proofs.Entrances.{Entrance, IsBetween, IsTrail, crosses, last_of, side_crossed, in_kept, of_kept, path_turned, trail_to}
use Rattle.hulls.proofs.StepsSeen.InnerPoints.{not_named}
use Rattle.hulls.proofs.StepsSeen.OnWay.{ComesToBoth, IsClear, IsOnWay, at_last, goes_on, seen}
use Rattle.hulls.specs.Joined.{IsOnPath}
use Rattle.hulls.specs.Laws.{StepsLaw}
use Rattle.hulls.specs.Steps.{IsOpenStep, IsSeenFrom, away, from_left, from_right, towards}

module _ (corners : List Point) (tris : List Tri) (fits : Fits corners tris) (b : Point) (home : ℕ) (within : home < length tris)
    (in_b : IsInTri corners (tri_at tris home) (whole b)) (x y : Point) (step : IsClear corners b x y) where
  -- ---- over a side

  -- a point of a side is in its triangle,
  in_side : (k i j : ℕ) → k < length tris → HasSideBetween (tri_at tris k) i j → (z : Triple) → IsPoint z
      → On z (whole (vertex corners i)) (whole (vertex corners j)) → IsInTri corners (tri_at tris k) z
  in_side = side_in corners (range_with_len 0 (length corners)) tris (paved fits)

  -- and an inner one is between the ends of the side
  inner_of_side : (k i j : ℕ) → k < length tris → HasSide (tri_at tris k) i j → (z : Triple) → IsBetween x y z
      → On z (whole (vertex corners i)) (whole (vertex corners j)) → IsBetween (vertex corners i) (vertex corners j) z
  inner_of_side k i j below has z between on =
      let ends = ends_below corners tris fits k i j below has in
      let not = λ (v : ℕ) (in_ring : v < length corners).
      not_named corners b x y step.clear step.off (vertex corners v) (inr (v, in_ring, refl)) z between in
      record { rational = between.rational; on = on; not_first = not i ends.0; not_last = not j ends.1 }

  module _ (walk : List ℕ) (w : IsWalk tris walk) (first : IsInTri corners (walk_tri tris walk 0) (whole x))
      (last : IsInTri corners (walk_tri tris walk (length walk - 1)) (whole y)) (sees : Sees corners (whole x) (whole y)) where
    -- a trail to the triangle at a place of the walk, and how far the step is there
    record IsAt (m : ℕ) : Type 0 where
      trail : List Entrance
      is_trail : IsTrail corners tris b home trail
      leads : last_of home trail ≡ get_or walk m 0
      way : IsOnWay corners tris fits b home within in_b x y step trail

    -- there the walk is at the end, or goes on over the next side
    next_place : (m : ℕ) → m + 1 < length walk → IsAt m → ComesToBoth corners b x y ⊎ IsAt (m + 1)
    next_place m more at =
        let (i, j, shared) = side_crossed corners tris fits walk w m more in
        let meet = (sleeve_law corners tris fits walk w (whole x) (whole y) (whole_is_point x) (whole_is_point y) first last).0 sees m i j
        (record { has_next = more; of_this = inl shared.has; of_next = inr shared.other_has }) in
        let z = meet.point in
        let here = λ (v : Triple) (at_v : IsPoint v) (on : On v (whole (vertex corners i)) (whole (vertex corners j))).
        subst (λ k. IsInTri corners (tri_at tris k) v) (sym at.leads)
        (in_side (get_or walk m 0) i j (w.in_list m (omega (arith, more))) (inl shared.has) v at_v on) in
        let there = λ (v : Triple) (at_v : IsPoint v) (on : On v (whole (vertex corners i)) (whole (vertex corners j))).
        in_side (get_or walk (m + 1) 0) i j (w.in_list (m + 1) more) (inr shared.other_has) v at_v on in
        let goes = crosses corners tris fits b home in_b at.trail at.is_trail i j (get_or walk (m + 1) 0)
        (subst (λ k. IsSideOfTwo tris i j k (get_or walk (m + 1) 0)) (sym at.leads) shared) in
        let place = λ (v : Triple) (inside : IsInTri corners (tri_at tris (get_or walk (m + 1) 0)) v).
        subst (λ k. IsInTri corners (tri_at tris k) v) (sym goes.leads) inside in
        elim (same_or_not z (whole y)) [
          | inl same ↦
              inl (at_last corners tris fits b home within in_b x y step at.trail at.is_trail at.way
              (here (whole y) (whole_is_point y) (on_same_point meet.rational same meet.on_second)))
          | inr not_last ↦ elim (same_or_not z (whole x)) [
            | inl same ↦
                inr (record {
                  trail = goes.next;
                  is_trail = goes.is_trail;
                  leads = goes.leads;
                  way = inl (place (whole x) (there (whole x) (whole_is_point x) (on_same_point meet.rational same meet.on_second)));
                })
            | inr not_first ↦
                let between : IsBetween x y z =
                record { rational = meet.rational; on = meet.on_first; not_first = not_first; not_last = not_last } in
                let come = goes_on corners tris fits b home within in_b x y step at.trail at.is_trail at.way z between
                (here z meet.rational meet.on_second) in
                inr (record {
                  trail = goes.next;
                  is_trail = goes.is_trail;
                  leads = goes.leads;
                  way = inr (
                    z,
                    record {
                      between = between;
                      inside = place z (there z meet.rational meet.on_second);
                      gate = come.gate;
                      is_gate = goes.keeps z come.gate
                          (inner_of_side (get_or walk m 0) i j (w.in_list m (omega (arith, more))) shared.has z between meet.on_second) come.is_gate;
                      first = come.first;
                    },
                  );
                })
          ]
        ]

    -- so it comes to the end
    comes_to_end : (d m : ℕ) → m + d + 1 ≡ length walk → IsAt m → ComesToBoth corners b x y
    comes_to_end zero m e at =
        let same : length walk - 1 ≡ m = omega (arith, e) in
        at_last corners tris fits b home within in_b x y step at.trail at.is_trail at.way
        (subst (λ k. IsInTri corners (tri_at tris k) (whole y)) (sym at.leads)
        (subst (λ n. IsInTri corners (walk_tri tris walk n) (whole y)) same last))
    comes_to_end (suc d) m e at = elim (next_place m (omega (arith, e)) at) [
      | inl both ↦ both
      | inr next ↦ comes_to_end d (m + 1) (omega (arith, e)) next
    ]

    -- from a trail to its first triangle
    pub along_walk : (trail : List Entrance) → IsTrail corners tris b home trail → last_of home trail ≡ get_or walk 0 0 → ComesToBoth corners b x y
    along_walk trail is leads =
        comes_to_end (length walk - 1) 0 (omega (arith, w.some))
        (record { trail = trail; is_trail = is; leads = leads; way = inl (subst (λ k. IsInTri corners (tri_at tris k) (whole x)) (sym leads) first) })

-- ---- a ring that triangles fit

-- a step is seen in one of four ways there
seen_in_mesh : (corners : List Point) (tris : List Tri) → Fits corners tris → (b x y : Point) → IsIn corners (whole b) → IsOpenStep corners x y
    → ¬ On (whole b) (whole x) (whole y) → IsSeenFrom corners b x y
seen_in_mesh corners tris fits b x y in_b step off =
    let (home, within, home_b) = some_triangle corners tris fits (whole b) (whole_is_point b) in_b in
    let (k, k_below, k_x) = some_triangle corners tris fits (whole x) (whole_is_point x) step.x_in in
    let (l, l_below, l_y) = some_triangle corners tris fits (whole y) (whole_is_point y) step.y_in in
    let (trail, is, leads) = trail_to corners tris fits b home within home_b k k_below in
    let one = fits.tree k l k_below l_below in
    let clear : IsClear corners b x y = record { differ = step.differ; clear = step.clear; off = off } in
    seen corners b x y clear
    (along_walk corners tris fits b home within home_b x y clear one.walk one.between.is_walk
    (subst (λ n. IsInTri corners (tri_at tris n) (whole x)) (sym one.between.first) k_x)
    (subst (λ n. IsInTri corners (tri_at tris n) (whole y)) (sym one.between.last) l_y) step.sees trail is (leads ∙ sym one.between.first))

-- ---- a ring turned round

module _ (ring : List Point) where
  -- what comes before a point in it does so in the ring,
  before_turned : (b t n : Point) → IsPredecessor (turned_round ring) b t n → IsPredecessor ring b t n
  before_turned b t n before =
      record { path = before.path; is_path = path_turned ring b t before.path before.is_path; more = before.more; is = before.is }

  -- what is on a path is on it in the ring,
  on_path_turned : (b t v : Point) → IsOnPath (turned_round ring) b t v → IsOnPath ring b t v
  on_path_turned b t v on =
      record { path = on.path; is_path = path_turned ring b t on.path on.is_path; place = on.place; within = on.within; on = on.on }

  -- so what is seen in it is seen in the ring
  seen_turned : (b x y : Point) → IsSeenFrom (turned_round ring) b x y → IsSeenFrom ring b x y
  seen_turned b x y (away on) = away (on_path_turned b y x on)
  seen_turned b x y (towards on) = towards (on_path_turned b x y on)
  seen_turned b x y (from_left p q first last left also) = from_left p q (before_turned b x p first) (before_turned b y q last) left also
  seen_turned b x y (from_right p q first last right also) = from_right p q (before_turned b x p first) (before_turned b y q last) right also

-- a step is one in the ring that is kept
step_kept : (ring kept : List Point) → (kept ≡ ring) ⊎ (kept ≡ turned_round ring) → (x y : Point) → IsOpenStep ring x y → IsOpenStep kept x y
step_kept ring kept (inl same) x y step = subst (λ (vs : List Point). IsOpenStep vs x y) (sym same) step
step_kept ring kept (inr same) x y step = record {
  x_in = in_kept ring kept (inr same) (whole x) step.x_in;
  y_in = in_kept ring kept (inr same) (whole y) step.y_in;
  differ = step.differ;
  sees = subst (λ (vs : List Point). Sees vs (whole x) (whole y)) (sym same) ((sees_turned_iff ring (whole x) (whole y)).1 step.sees);
  clear = λ v between. step.clear v (between_turned ring x y v (subst (λ (vs : List Point). IsVertexBetween vs x y v) same between));
}

-- the law, as it is stated
pub steps : StepsLaw
steps ring some simple b in_b x y step off =
    let (kept, is) = kept_ring ring some simple in
    let (tris, fits) = triangulation kept is.some is.simple is.counterclockwise in
    of_kept ring kept is.one_of (λ vs. IsSeenFrom vs b x y) (seen_turned ring b x y)
    (seen_in_mesh kept tris fits b x y (in_kept ring kept is.one_of (whole b) in_b) (step_kept ring kept is.one_of x y step) off)
