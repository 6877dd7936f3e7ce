use Rattle.std.proofs.Common.{◌≡◌, map, take}
use Rattle.rings.specs.Ring.{vertex}
use Rattle.polygon_tests.proofs.monotone_pieces.outline_of.Given as goal

abbrev pub invariant-loop-i : goal.invariant-loop-i
invariant-loop-i l = l.outline.items ≡ map (λ i. vertex l.points i) (take l.i-index l.piece)
