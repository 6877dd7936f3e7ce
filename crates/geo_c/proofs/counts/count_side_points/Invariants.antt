use Rattle.std.proofs.Common.{◌≡◌, ◌≤◌, ◌*◌, length, take}
use Rattle.std.specs.Prelude.{flat_map}
use Rattle.geo_c.specs.Contents.{side_points}
use Rattle.geo_c.proofs.counts.count_side_points.Given as goal

-- those of the sides so far, each of which has fewer than 2^32
abbrev pub invariant-loop-side : goal.invariant-loop-side
invariant-loop-side l = record {
  count : l.count ≡ length (flat_map side_points (take l.side-index l.sides));
  few : l.count ≤ 4294967295 * l.side-index;
}
