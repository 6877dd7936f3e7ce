-- The state of a sweep before an event. No public clause cites this module.
use Rattle.std.specs.List.{range_with_len}
use Rattle.std.specs.Prelude.{ℕ, ◌<◌, ◌≤◌, List, length}
use Rattle.plane.specs.Point.{Point}
use Rattle.meshes.specs.Fits.{IsTriOf}
use Rattle.meshes.specs.Side.{tri_at}
use Rattle.meshes.specs.declared.tri.Tri.{Tri}
use Rattle.sweep_tri.specs.Frontier.{IsFrontier}
use Rattle.sweep_tri.specs.Gaps.{fronts, gap_at}
use Rattle.sweep_tri.specs.Open.{IsOpenGap}
use Rattle.sweep_tri.specs.Sums.{AreBalanced}
use Rattle.sweep_tri.specs.declared.gap.Gap.{Gap}

-- the gaps between the edges that the sweep line meets, and the triangles of the regions that are closed
pub record IsSwept (corners : List Point) (ranks : List ℕ) (k : ℕ) (gaps : List Gap) (tris : List Tri) : Type 0 where
  pub few : length gaps ≤ k
  pub gaps_open : (j : ℕ) → j < length gaps → IsOpenGap corners ranks k (gap_at gaps j)
  pub frontier : IsFrontier corners ranks k (fronts gaps)
  pub triangles : (t : ℕ) → t < length tris → IsTriOf corners (range_with_len 0 (length corners)) (tri_at tris t)
  pub balanced : AreBalanced ranks k gaps tris
