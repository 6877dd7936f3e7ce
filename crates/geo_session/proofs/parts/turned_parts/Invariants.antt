use Rattle.std.proofs.Common.{◌≡◌, ◌≤◌, length, map, take, vec_capacity}
use Rattle.rings.specs.Visible.{turned_part}
use Rattle.geo_session.proofs.parts.turned_parts.Given as goal

abbrev pub invariant-loop-part : goal.invariant-loop-part
invariant-loop-part l = record {
  put : l.turned.items ≡ map (turned_part l.size) (take l.part-index l.parts);
  room : length l.parts ≤ vec_capacity l.turned;
}
