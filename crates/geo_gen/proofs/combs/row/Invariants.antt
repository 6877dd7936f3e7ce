use Rattle.std.proofs.Common.{◌≡◌, map}
use Rattle.std.specs.List.{range_with_len}
use Rattle.geo_gen.specs.Comb.{above}
use Rattle.geo_gen.proofs.combs.row.Given as goal

abbrev pub invariant-loop-i : goal.invariant-loop-i
invariant-loop-i l = l.points.items ≡ map (λ i. above i l.fn.y) (range_with_len 0 l.i)
