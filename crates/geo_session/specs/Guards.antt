-- What guards answer. Fisk 1978.
use Rattle.std.specs.Prelude.{◌/◌, ◌≤◌, ℕ, List, length}
use Rattle.plane.specs.Point.{Point}
use Rattle.meshes.specs.Fits.{Fits}
use Rattle.meshes.specs.declared.tri.Tri.{Tri}
use Rattle.ring_check.specs.Oriented.{oriented}
use Rattle.cut_tri.specs.Cut.{IsCutTriangulation}
use Rattle.guards3.specs.Guards.{AreGuards, SeeAll}

-- the numbers are the guards of a ring, by its cut triangulation; they are at most a third of the vertices, and each rational point of the
-- ring is seen by one of them
pub record GuardRing (ring : List Point) (guards : List ℕ) : Type 0 where
  pub tris : List Tri
  pub fits : Fits (oriented ring).corners tris
  pub cut : IsCutTriangulation (oriented ring).corners tris
  pub are_guards : AreGuards (oriented ring) tris guards
  pub few : length guards ≤ length ring / 3
  pub seen : SeeAll ring guards
