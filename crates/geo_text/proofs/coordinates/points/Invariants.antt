use Rattle.std.proofs.Common.{◌≡◌, ◌++◌, ◌*◌, drop}
use Rattle.geo_text.proofs.coordinates.points.Given as goal
use Rattle.geo_text.specs.Reading.{pairs_of}

abbrev pub invariant-loop-k : goal.invariant-loop-k
invariant-loop-k l = l.points.items ++ pairs_of (drop (2 * l.k) l.numbers) ≡ pairs_of l.numbers
