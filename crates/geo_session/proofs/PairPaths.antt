-- The path between two vertices: it has no more points than the ring, and what is told of it.
use Rattle.std.proofs.Common.{◌≡◌, ◌∙◌, sym, ap, ℕ, ◌<◌, ◌≤◌, List, get_or, length, map, arith}
use Rattle.std.proofs.lemmas.List.{get_or-map, length-map}
use Rattle.plane.specs.Point.{Point}
use Rattle.rings.specs.Chain.{IsPath, point_at}
use Rattle.rings.specs.Ring.{origin, vertex}
use Rattle.meshes.specs.Fits.{Fits}
use Rattle.meshes.specs.declared.tri.Tri.{Tri}
use Rattle.funnels.proofs.Trees.{path_differs}
use Rattle.funnels.proofs.Vertices.{fitted_long, fitted_simple}
use Rattle.plane.proofs.Lists.{few_numbers}
use Rattle.geo_text.specs.declared.version.Version.{Version}
use Rattle.ring_check.specs.Oriented.{Oriented, given_index, given_of}
use Rattle.pair_cut.specs.Pairs.{IsPairPath}
use Rattle.geo_session.proofs.GivenFull.{shown_given}
use Rattle.geo_session.proofs.GivenTree.{vertex_given}
use Rattle.geo_session.specs.Shown.{IsShown, IsShownPath}

module _ (corners : List Point) (tris : List Tri) (fits : Fits corners tris) (i j : ℕ) (names : List ℕ) (is : IsPairPath corners i j names) where
  point_is : (k : ℕ) → k < length names → point_at (map (vertex corners) names) k ≡ vertex corners (get_or names k 0)
  point_is k within = get_or-map (vertex corners) names k 0 origin within

  -- it comes to no vertex twice, so its points are no more than the vertices
  pub pair_few : length names ≤ length corners
  pair_few =
      few_numbers names (length corners) (λ k within. is.in_ring k 0 within)
      (λ k l less within same.
      path_differs corners (fitted_long corners tris fits) (fitted_simple corners tris fits) (vertex corners i) (vertex corners j) (map (vertex corners) names) is.path k l less
      (omega (arith, within, length-map names (vertex corners)))
      (point_is k (omega (arith, less, within)) ∙ ap (vertex corners) same ∙ sym (point_is l within)))

module _ (ring : Oriented) (i j from to : ℕ) (i_below : i < length ring.corners) (j_below : j < length ring.corners) (first : from ≡ given_index ring i)
    (last : to ≡ given_index ring j) where
  -- what is told of it in the ring is told of it in the list that the ring was made of
  pub pair_told : (version : Version) (chain points : List Point) → IsPath ring.corners (vertex ring.corners from) (vertex ring.corners to) chain
      → IsShown version ring.corners chain points → IsShownPath version (given_of ring) (vertex (given_of ring) i) (vertex (given_of ring) j) points
  pair_told version chain points is_path is_shown =
      rw (vertex_given ring i i_below, vertex_given ring j j_below, ← first, ← last)
      (shown_given ring version (vertex ring.corners from) (vertex ring.corners to) points (record { chain = chain; is_path = is_path; is_shown = is_shown }))
