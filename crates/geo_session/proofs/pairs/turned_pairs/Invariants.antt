use Rattle.std.proofs.Common.{◌≡◌, ◌≤◌, length, map, take, vec_capacity}
use Rattle.geo_session.proofs.GivenSights.{given_pair}
use Rattle.geo_session.proofs.pairs.turned_pairs.Given as goal

abbrev pub invariant-loop-i : goal.invariant-loop-i
invariant-loop-i l = record {
  put : l.turned.items ≡ map (given_pair l.ring) (take l.i-index l.pairs);
  room : length l.pairs ≤ vec_capacity l.turned;
}
