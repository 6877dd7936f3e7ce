-- What comes before a point beyond the diagonal on its path: the point of the funnel from which it is reached.
-- A point of a funnel that is the source's has the source's own number: no corner's name stands for the start.
use Rattle.std.proofs.Common.{◌≡◌, inl, sym, List, ℕ, slice_index, subst, refl, ap, ◌∙◌, [], ◌∷◌, ◌++◌, length, min, ◌-◌, ◌<◌, arith}
use Rattle.std.proofs.lemmas.List.{get_or_push, length-append, length-map}
use Rattle.plane.specs.Point.{Point, whole}
use Rattle.rings.specs.Chain.{point_at}
use Rattle.rings.specs.From.{IsPredecessor}
use Rattle.rings.specs.Ring.{vertex, origin}
use Rattle.meshes.specs.Fits.{Fits, IsInTri}
use Rattle.meshes.specs.Side.{tri_at}
use Rattle.meshes.specs.declared.tri.Tri.{Tri}
use Rattle.funnels.proofs.Chains.{chain_to}
use Rattle.funnels.proofs.OneChain.{no_closed_chain}
use Rattle.funnels.proofs.Trees.{before_corner, before_reached, length_leftward, length_rightward, way_begins, way_to}
use Rattle.funnels.proofs.Vertices.{fitted_long, fitted_simple}
use Rattle.funnels.specs.Funnel.{IsReachedFrom}
use Rattle.funnels.specs.OpenFunnel.{left_behind, right_behind}
use Rattle.path_tree.proofs.FunnelNumbers.{place_within, point_there}
use Rattle.path_tree.specs.Listed.{IsTriangleBeyond, IsFunnelAt, Listed, point_of, listed_points}

module _ (corners : List Point) (start : Point) (tris : List Tri) (k i j m d : ℕ) (fits : Fits corners tris)
    (beyond : IsTriangleBeyond tris k i j m) (f : Listed) (w : IsFunnelAt corners start i j d f) (h : ℕ) where
  -- the point of the number at the place
  abbrev there : Point
  there = point_of corners start (slice_index f.list h)

  -- comes before a point of the triangle that is reached from it, where that is another,
  pub before_point : (y : Point) → IsInTri corners (tri_at tris k) (whole y)
      → IsReachedFrom (listed_points corners start f.list) f.apex h (whole y) → ¬ (there ≡ y) → IsPredecessor corners start y there
  before_point y inside reached differ =
      let is = point_there corners start f.list h (place_within corners start f.list f.apex h _ reached) in
      subst (IsPredecessor corners start y) is
      (before_reached corners tris fits k beyond.diagonal.in_list i j m beyond.diagonal.has beyond.right beyond.left
      (k, beyond.from, inl beyond.diagonal) w.before (listed_points corners start f.list) f.apex w.funnel start w.begins h y inside reached
      (subst (λ p. ¬ (p ≡ y)) (sym is) differ))

  -- and before the third corner, which always is
  pub before_third : IsReachedFrom (listed_points corners start f.list) f.apex h (whole (vertex corners m))
      → IsPredecessor corners start (vertex corners m) there
  before_third reached =
      let is = point_there corners start f.list h (place_within corners start f.list f.apex h _ reached) in
      subst (IsPredecessor corners start (vertex corners m)) is
      (before_corner corners tris fits k beyond.diagonal.in_list i j m beyond.diagonal.has beyond.right beyond.left
      (k, beyond.from, inl beyond.diagonal) w.before (listed_points corners start f.list) f.apex w.funnel start w.begins h reached)

-- a list with no points is the empty one
empty : (xs : List Point) → length xs ≡ 0 → xs ≡ []
empty [] none = refl
empty (x ∷ xs) none = absurd (omega (arith, none))

module _ (corners : List Point) (start : Point) (tris : List Tri) (i j d : ℕ) (fits : Fits corners tris) (f : Listed)
    (w : IsFunnelAt corners start i j d f) (h : ℕ) (within : h < length f.list) where
  -- the points, and those on the way to the one at the place
  abbrev ns : List Point
  ns = listed_points corners start f.list

  abbrev way : List Point
  way = way_to w.before ns f.apex h

  -- where that is the source's, there are none
  none_on_way : point_of corners start (slice_index f.list h) ≡ start → length way ≡ 0
  none_on_way same =
      let chain = way ++ point_at ns h ∷ [] in
      let count = length-append way (point_at ns h ∷ []) in
      let bent = chain_to corners ns f.apex (vertex corners i) (vertex corners j) w.funnel.funnel w.funnel.sight w.before w.funnel.bent h
      (omega (arith, within, length-map f.list (point_of corners start))) in
      let last : point_at chain (length chain - 1) ≡ start =
      get_or_push way (point_at ns h) origin (length chain - 1) (omega (arith, count)) ∙ point_there corners start f.list h within ∙ same in
      let one = no_closed_chain corners (fitted_long corners tris fits) (fitted_simple corners tris fits) chain bent
      (way_begins w.before ns f.apex h ∙ w.begins ∙ sym last) in
      omega (arith, one, count)

  -- so the place is the apex's, with nothing before it
  pub number_of_source : point_of corners start (slice_index f.list h) ≡ start → slice_index f.list h ≡ length corners
  number_of_source same =
      let none = none_on_way same in
      let left = left_behind ns f.apex (f.apex - h) in
      let right = right_behind ns (min f.apex h) (h - min f.apex h) in
      let all = length-append (w.before ++ left) right in
      let front = length-append w.before left in
      let left_count = length_leftward (point_at ns) f.apex (f.apex - h) in
      let right_count = length_rightward (point_at ns) (min f.apex h) (h - min f.apex h) in
      let place : h ≡ f.apex = omega (arith, none, all, front, left_count, right_count) in
      ap (slice_index f.list) place ∙ w.source (empty w.before (omega (arith, none, all, front)))
