use Rattle.std.proofs.Common.{◌≡◌, ◌≤◌, length, map, slice_index_or, take, vec_capacity, vec_len}
use Rattle.geo_session.proofs.span.at_places.Given as goal

abbrev pub invariant-loop-place : goal.invariant-loop-place
invariant-loop-place g l = record {
  are : (d : g.row.T.Denot) → l.found.items ≡ map (λ place. slice_index_or l.items place d) (take l.place-index l.places);
  count : vec_len l.found ≡ l.place-index;
  room : length l.places ≤ vec_capacity l.found;
}
