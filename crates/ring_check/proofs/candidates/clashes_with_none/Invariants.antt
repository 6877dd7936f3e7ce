use Rattle.std.proofs.Common.{ℕ, ◌+◌, ◌*◌, ◌-◌, ◌<◌, ◌≤◌, length}
use Rattle.std.specs.Prelude.{slice_index}
use Rattle.edge_index.specs.Candidates.{edges_of}
use Rattle.rings.specs.Simple.{Clash}
use Rattle.ring_check.proofs.candidates.clashes_with_none.Given as goal

abbrev pub invariant-loop-candidate : goal.invariant-loop-candidate
invariant-loop-candidate g l =
    let edges = edges_of l.index in record {
      none : (m : ℕ) → m < l.place → m < length edges → l.i < slice_index edges m → Clash l.points l.i (slice_index edges m) → ⊥;
      steps : l.steps + 17 * (length edges - l.place) ≤ l.fn.steps + (257 + 17 * length edges);
    }

abbrev pub decreases-loop-candidate : goal.decreases-loop-candidate
decreases-loop-candidate g l = length (edges_of l.index) - l.place
