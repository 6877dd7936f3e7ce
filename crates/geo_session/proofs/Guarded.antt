-- The guards of a ring are those of the list that the ring was made of.
use Rattle.std.proofs.Common.{◌≡◌, ◌∙◌, sym, ap, subst, Bool, true, false, if◌then◌else◌, ℕ, ◌/◌, ◌≤◌, List, length, arith}
use Rattle.std.proofs.lemmas.Int.{ints}
use Rattle.plane.specs.Point.{Point}
use Rattle.rings.proofs.Turned.{doubled_area-turned_round, turned_round-turned_round}
use Rattle.rings.specs.Orientation.{IsCounterclockwise, is_clockwise, turned_round}
use Rattle.meshes.specs.Fits.{Fits}
use Rattle.meshes.specs.declared.tri.Tri.{Tri}
use Rattle.ring_check.specs.Oriented.{Oriented, given_of, oriented}
use Rattle.cut_tri.specs.Cut.{IsCutTriangulation}
use Rattle.guards3.specs.Guards.{AreGuards, SeeAll}
use Rattle.geo_session.proofs.GivenSize.{length_either}
use Rattle.geo_session.specs.Guards.{GuardRing}

-- a counterclockwise ring that is turned round runs clockwise
turned_is_clockwise : (ring : List Point) → IsCounterclockwise ring → is_clockwise (turned_round ring) ≡ true
turned_is_clockwise ring way = grind (arith, ints, doubled_area-turned_round ring)

is_not_clockwise : (ring : List Point) → IsCounterclockwise ring → is_clockwise ring ≡ false
is_not_clockwise ring way = grind (arith, ints)

-- this is kept of a list, where it runs clockwise or not
abbrev kept : List Point → Bool → Oriented
kept points clockwise = record { corners = if clockwise then turned_round points else points; is_turned = clockwise }

-- so of the list that a counterclockwise ring was made of the ring is kept
oriented_either : (corners : List Point) (turned : Bool) → IsCounterclockwise corners
    → oriented (if turned then turned_round corners else corners) ≡ record { corners = corners; is_turned = turned }
oriented_either corners true way =
    ap (kept (turned_round corners)) (turned_is_clockwise corners way)
    ∙ ap (λ (ps : List Point). record { corners = ps; is_turned = true }) (turned_round-turned_round corners)
oriented_either corners false way = ap (kept corners) (is_not_clockwise corners way)

oriented_given : (ring : Oriented) → IsCounterclockwise ring.corners → oriented (given_of ring) ≡ ring
oriented_given ring way = oriented_either ring.corners ring.is_turned way

-- ---- guards by the triangles of the cut

module _ (ring : Oriented) (way : IsCounterclockwise ring.corners) (tris : List Tri) (fits : Fits ring.corners tris)
    (cut : IsCutTriangulation ring.corners tris) where
  pub guard_ring : (guards : List ℕ) → AreGuards ring tris guards → length guards ≤ length ring.corners / 3 → SeeAll (given_of ring) guards
      → GuardRing (given_of ring) guards
  guard_ring guards are few seen =
      let same : ring ≡ oriented (given_of ring) = sym (oriented_given ring way) in
      record {
        tris = tris;
        fits = subst (λ (r : Oriented). Fits r.corners tris) same fits;
        cut = subst (λ (r : Oriented). IsCutTriangulation r.corners tris) same cut;
        are_guards = subst (λ (r : Oriented). AreGuards r tris guards) same are;
        few = rw (length_either ring.is_turned ring.corners) few;
        seen = seen;
      }
