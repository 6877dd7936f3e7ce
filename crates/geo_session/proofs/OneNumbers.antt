-- The numbers of a round are one list, and so are the guards.
use Rattle.std.proofs.Common.{◌≡◌, ◌∙◌, sym, ap₂, subst, ℕ, List, arith}
use Rattle.std.proofs.lemmas.List.{length-map}
use Rattle.std.specs.Prelude.{map, slice_index}
use Rattle.plane.specs.Point.{Point}
use Rattle.rings.specs.Chain.{point_at}
use Rattle.ring_check.specs.Oriented.{oriented}
use Rattle.cut_tri.proofs.TriangleLists.{same_triangles}
use Rattle.guards3.specs.Guards.{OneGuardsLaw}
use Rattle.rel_hull.proofs.Closing.{only_round}
use Rattle.rel_hull.specs.Round.{IsRound}
use Rattle.geo_session.proofs.HullTable.{some_numbers}
use Rattle.geo_session.proofs.OneHull.{one_firsts}
use Rattle.geo_session.specs.Guards.{GuardRing}
use Rattle.geo_session.specs.Round.{AreRound}

-- ---- the round of some points

module _ (ring points : List Point) where
  -- the first numbers are one list, and so are the places among them
  pub one_numbers : (round other : List ℕ) → AreRound ring points round → AreRound ring points other → round ≡ other
  one_numbers round other h g =
      let numbers : h.numbers ≡ g.numbers = one_firsts points h.numbers g.numbers h.firsts g.firsts in
      let is : IsRound ring (map (point_at points) g.numbers) h.places =
      subst (λ (ns : List ℕ). IsRound ring (map (point_at points) ns) h.places) numbers h.is_round in
      let some = some_numbers points g.numbers g.firsts g.some in
      let places : h.places ≡ g.places = only_round ring (map (point_at points) g.numbers)
      (omega (arith, length-map g.numbers (point_at points), some)) h.places g.places is g.is_round in
      h.are ∙ ap₂ (λ (ns ps : List ℕ). map (slice_index ns) ps) numbers places ∙ sym g.are

-- ---- the guards of a ring

module _ (one_guards : OneGuardsLaw) where
  -- each triangle of the cut is in both lists, so the guards are one list
  pub one_guarding : (ring : List Point) (guards other : List ℕ) → GuardRing ring guards → GuardRing ring other → guards ≡ other
  one_guarding ring guards other h g =
      let kept = oriented ring in
      one_guards kept h.tris g.tris h.fits (same_triangles kept.corners h.tris g.tris h.cut g.cut) guards other h.are_guards g.are_guards
