use Rattle.std.proofs.Common.{◌≡◌, ◌+◌, drop, take}
use Rattle.std.specs.List.{All}
use Rattle.plane.specs.Point.{IsInLimit}
use Rattle.geo_text.specs.Reading.{range_fault as fault_of_range}
use Rattle.geo_text.proofs.coordinates.range_fault.Given as goal

-- those so far are within the limit
abbrev pub invariant-loop-place : goal.invariant-loop-place
invariant-loop-place l = record {
  fault : fault_of_range l.limit 1 l.numbers ≡ fault_of_range l.limit (l.place + 1) (drop l.place l.numbers);
  within : All IsInLimit (take l.place l.numbers);
}
