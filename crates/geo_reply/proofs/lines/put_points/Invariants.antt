use Rattle.std.proofs.Common.{◌≡◌, ◌++◌, ◌+◌, ◌*◌, ◌≤◌, length, take, vec_capacity}
use Rattle.std.specs.Prelude.{flat_map}
use Rattle.geo_text.specs.Texts.{index_text, pt_text}
use Rattle.geo_reply.proofs.lines.put_points.Given as goal

abbrev pub invariant-loop-point : goal.invariant-loop-point
invariant-loop-point g l = record {
  put : l.out.items ≡ l.fn.out.items ++ (index_text (length l.points) ++ flat_map pt_text (take l.point-index l.points));
  few : l.steps ≤ l.fn.steps + 64 * l.point-index;
  room : vec_capacity l.fn.out ≤ vec_capacity l.out;
  long : length l.out.items ≤ length l.fn.out.items + 11 + 18 * l.point-index;
}
