use Rattle.std.proofs.Common.{◌≡◌, ◌+◌, ◌*◌, ◌<◌, ◌≤◌, ℕ}
use Rattle.flip_tri.specs.Flips.{AreFlips}
use Rattle.flip_tri.specs.Shared.{HasNoFlipOver}
use Rattle.flip_tri.proofs.flips.Flips.flip_at.Given as goal

abbrev pub invariant-loop-side : goal.invariant-loop-side
invariant-loop-side g l = record {
  tris : l.self.tris.items ≡ l.fn.self.tris.items;
  flips : AreFlips l.ring.corners l.self.tris.items l.self.neighbours.items;
  settled : (side : ℕ) → side < l.side → HasNoFlipOver l.ring.corners l.self.tris.items l.near side;
  steps : l.steps ≤ l.fn.steps + 4 * l.side;
}
