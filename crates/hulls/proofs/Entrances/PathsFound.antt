-- Along each walk over the triangles of a mesh from one with a point b goes a trail, so there is one to each triangle.
-- A simple ring and the ring that is kept of it, counterclockwise, have the same paths; so in a simple ring there is a path between each two
-- points.
-- The gate of a point comes before it on the path from b, where it is another point; so there is a path to each point of the ring.
use Rattle.std.proofs.Common.{◌≡◌, sym, subst, ◌∙◌, List, [], length, get_or, ℕ, zero, suc, ◌+◌, ◌-◌, ◌<◌, add-one, arith, inl, inr, ◌∷◌}
use Rattle.std.proofs.Common.{◌++◌, ◌⊎◌}
use Rattle.std.specs.List.{range_with_len}
use Rattle.std.proofs.lemmas.List.{get_or_push, length-append}
use Rattle.plane.proofs.Order.{point_or_other}
use Rattle.plane.proofs.Points.{whole_is_point}
use Rattle.plane.specs.Point.{Point, Triple, whole}
use Rattle.rings.proofs.Inside.{in_turned_iff}
use Rattle.rings.specs.Prelude.{IsIn, IsPath, origin, point_at, turned_round, vertex}
use Rattle.rings.specs.From.{IsPredecessor}
use Rattle.ring_laws.proofs.Simple.{kept_ring, taut_turned_iff}
use Rattle.meshes.proofs.Sight.{shared_from}
use Rattle.meshes.proofs.Triangulations.{triangulation}
use Rattle.meshes.specs.Prelude.{Fits, IsInTri, IsSideOfTwo, IsWalk, tri_at}
use Rattle.meshes.specs.declared.tri.Tri.{Tri}
use Rattle.funnels.proofs.Chains.{chain_to}
use Rattle.funnels.proofs.DeadEnds.{some_triangle}
use Rattle.funnels.proofs.OneChain.{bent_is_path}
use Rattle.funnels.proofs.Trees.{before_at_home, before_reached, path_of_one, way_begins, way_to}
use Rattle.funnels.proofs.Vertices.{fitted_long, fitted_simple}
use Rattle.hulls.proofs.Entrances.NextEntrances.{crosses, has_gate}
use Rattle.hulls.proofs.Entrances.Trails.{Entrance, IsTrail, last_of, IsEntered, IsGate}
use Rattle.hulls.specs.Laws.{PathsLaw}

module _ (corners : List Point) (tris : List Tri) (fits : Fits corners tris) (walk : List ℕ) (w : IsWalk tris walk) where
  -- a walk goes on over a shared side
  pub side_crossed : (m : ℕ) → m + 1 < length walk → (i : ℕ) × (j : ℕ) × IsSideOfTwo tris i j (get_or walk m 0) (get_or walk (m + 1) 0)
  side_crossed m more =
      let share = w.sharing m more in (
        share.i,
        share.j,
        shared_from corners (range_with_len 0 (length corners)) tris fits share.i share.j (get_or walk m 0) (get_or walk (m + 1) 0)
            (w.in_list m (omega (arith, more))) (w.in_list (m + 1) more) (w.once m (m + 1) (omega arith) more) share.of_first share.of_second,
      )

  module _ (b : Point) (home : ℕ) (in_b : IsInTri corners (tri_at tris home) (whole b)) (starts : get_or walk 0 0 ≡ home) where
    -- so a trail goes along it
    pub trail_along : (m : ℕ) → m < length walk → (trail : List Entrance) × IsTrail corners tris b home trail × (last_of home trail ≡ get_or walk m 0)
    trail_along zero within = ([], tt, sym starts)
    trail_along (suc m) within =
        let (trail, is, leads) = trail_along m (omega (arith, within)) in
        let (i, j, shared) = side_crossed m (omega (arith, within)) in
        let goes = crosses corners tris fits b home in_b trail is i j (get_or walk (m + 1) 0)
        (subst (λ k. IsSideOfTwo tris i j k (get_or walk (m + 1) 0)) (sym leads) shared) in
        (goes.next, goes.is_trail, goes.leads ∙ (λ t. get_or walk (add-one m t) 0))

-- there is a trail to each triangle
pub trail_to : (corners : List Point) (tris : List Tri) (fits : Fits corners tris) (b : Point) (home : ℕ) → home < length tris
    → IsInTri corners (tri_at tris home) (whole b) → (k : ℕ) → k < length tris
    → (trail : List Entrance) × IsTrail corners tris b home trail × (last_of home trail ≡ k)
trail_to corners tris fits b home within in_b k below =
    let one = fits.tree home k within below in
    let some = one.between.is_walk.some in
    let (trail, is, leads) = trail_along corners tris fits one.walk one.between.is_walk b home in_b one.between.first (length one.walk - 1)
    (omega (arith, some)) in
    (trail, is, leads ∙ one.between.last)

module _ (corners : List Point) (tris : List Tri) (fits : Fits corners tris) (b : Point) (home : ℕ) (within : home < length tris)
    (in_b : IsInTri corners (tri_at tris home) (whole b)) where
  -- the gate comes before a point
  pub before_gate : (trail : List Entrance) → IsTrail corners tris b home trail → (y g : Point)
      → IsInTri corners (tri_at tris (last_of home trail)) (whole y) → IsGate b trail (whole y) g → ¬ (g ≡ y) → IsPredecessor corners b y g
  before_gate [] is y g in_y gate differ =
      subst (IsPredecessor corners b y) gate
      (before_at_home corners tris fits home within b y in_b in_y (λ e. differ (sym gate ∙ e)))
  before_gate (e ∷ trail) is y g in_y gate differ =
      let w = is.0 in
      let (h, reached, is_g) = gate in
      subst (IsPredecessor corners b y) is_g
      (before_reached corners tris fits e.triangle w.shared.other_in_list e.left e.right e.third w.shared.other_has w.to_third w.from_third
      (last_of home trail, e.triangle, inr w.shared) w.before e.points e.apex w.funnel b w.begins h y in_y reached (λ e. differ (sym is_g ∙ e)))

  -- there is a path to each point of a funnel,
  path_to_place : (m : ℕ) (e : Entrance) → IsEntered corners tris b m e → (h : ℕ) → h < length e.points
      → (path : List Point) × IsPath corners b (point_at e.points h) path
  path_to_place m e w h below =
      let three = fitted_long corners tris fits in
      let simple = fitted_simple corners tris fits in
      let way = way_to w.before e.points e.apex h in
      let chain = way ++ point_at e.points h ∷ [] in
      let bent = chain_to corners e.points e.apex (vertex corners e.left) (vertex corners e.right) w.funnel.funnel w.funnel.sight
      w.before w.funnel.bent h below in
      let first : point_at chain 0 ≡ b = way_begins w.before e.points e.apex h ∙ w.begins in
      let last : point_at chain (length chain - 1) ≡ point_at e.points h =
      get_or_push way (point_at e.points h) origin (length chain - 1) (omega (arith, length-append way (point_at e.points h ∷ []))) in (
        chain,
        bent_is_path corners three simple chain bent b (point_at e.points h) first last,
      )

  -- to each point of the last triangle of a trail,
  path_on : (trail : List Entrance) → IsTrail corners tris b home trail → (y : Point)
      → IsInTri corners (tri_at tris (last_of home trail)) (whole y) → IsIn corners (whole y) → (path : List Point) × IsPath corners b y path
  path_on [] is y in_y inside = elim (point_or_other b y) [
    | inl same ↦ (
      b ∷ [],
      subst (λ t. IsPath corners b t (b ∷ [])) same
          (path_of_one corners (fitted_long corners tris fits) (fitted_simple corners tris fits) b
          (subst (λ (p : Point). IsIn corners (whole p)) (sym same) inside)),
    )
    | inr differ ↦
        let before = before_at_home corners tris fits home within b y in_b in_y differ in
        (before.path, before.is_path)
  ]
  path_on (e ∷ trail) is y in_y inside =
      let (g, gate) = has_gate corners tris b home (e ∷ trail) is (whole y) in
      elim (point_or_other g y) [
        | inl same ↦
            let (h, reached, is_g) = gate in
            let (path, is_path) = path_to_place (last_of home trail) e is.0 h reached.within in
            (path, subst (λ t. IsPath corners b t path) (is_g ∙ same) is_path)
        | inr differ ↦
            let before = before_gate (e ∷ trail) is y g in_y gate differ in
            (before.path, before.is_path)
      ]

-- and to each point of the ring
pub path_between : (corners : List Point) (tris : List Tri) → Fits corners tris → (b y : Point) → IsIn corners (whole b) → IsIn corners (whole y)
    → (path : List Point) × IsPath corners b y path
path_between corners tris fits b y inside_b inside_y =
    let (home, within, in_b) = some_triangle corners tris fits (whole b) (whole_is_point b) inside_b in
    let (k, below, in_y) = some_triangle corners tris fits (whole y) (whole_is_point y) inside_y in
    let (trail, is, leads) = trail_to corners tris fits b home within in_b k below in
    path_on corners tris fits b home within in_b trail is y (subst (λ n. IsInTri corners (tri_at tris n) (whole y)) (sym leads) in_y) inside_y

-- what is said of the ring that is kept holds of the ring, if it goes from a ring turned round to the ring
pub of_kept : (ring kept : List Point) → (kept ≡ ring) ⊎ (kept ≡ turned_round ring) → (P : List Point → Type 0)
    → (P (turned_round ring) → P ring) → P kept → P ring
of_kept ring kept one_of P turned p = elim one_of [
  | inl e ↦ subst P e p
  | inr e ↦ turned (subst P e p)
]

-- so a path there is one in the ring
pub path_turned : (ring : List Point) (s t : Point) (path : List Point) → IsPath (turned_round ring) s t path → IsPath ring s t path
path_turned ring s t path is =
    λ chain. let same = taut_turned_iff ring s t chain in (λ h. (is chain).0 (same.1 h), λ e. same.0 ((is chain).1 e))

-- and a point of the ring is in it
pub in_kept : (ring kept : List Point) → (kept ≡ ring) ⊎ (kept ≡ turned_round ring) → (x : Triple) → IsIn ring x → IsIn kept x
in_kept ring kept one_of x inside = elim one_of [
  | inl e ↦ subst (λ (vs : List Point). IsIn vs x) (sym e) inside
  | inr e ↦ subst (λ (vs : List Point). IsIn vs x) (sym e) ((in_turned_iff x ring).1 inside)
]

-- there are paths
pub paths : PathsLaw
paths ring some simple s t in_s in_t =
    let (kept, is) = kept_ring ring some simple in
    let (tris, fits) = triangulation kept is.some is.simple is.counterclockwise in
    let (path, is_path) = path_between kept tris fits s t (in_kept ring kept is.one_of (whole s) in_s) (in_kept ring kept is.one_of (whole t) in_t) in
    (path, of_kept ring kept is.one_of (λ vs. IsPath vs s t path) (path_turned ring s t path) is_path)
