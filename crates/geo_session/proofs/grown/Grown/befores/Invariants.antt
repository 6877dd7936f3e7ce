use Rattle.std.proofs.Common.{◌≡◌, ℕ, ◌<◌, ◌≤◌, length, slice_index_or, vec_capacity}
use Rattle.rings.specs.Ring.{vertex}
use Rattle.ring_check.specs.Oriented.{given_of}
use Rattle.geo_reply.specs.declared.reply.Before.TheVariants as before
use Rattle.geo_session.specs.Tree.{IsFrom}
use Rattle.geo_session.proofs.grown.Grown.befores.Given as goal

abbrev pub invariant-loop-i : goal.invariant-loop-i
invariant-loop-i l = record {
  count : length l.befores.items ≡ l.i;
  each : (k : ℕ) → k < l.i → IsFrom (given_of l.ring) l.self.source (vertex (given_of l.ring) k) (slice_index_or l.befores.items k before.Nothing);
  room : length l.ring.corners ≤ vec_capacity l.befores;
}
