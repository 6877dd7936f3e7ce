use Rattle.std.proofs.Common.{◌-◌}
use Rattle.triangle_boxes.proofs.hierarchy.+put.Given as goal

abbrev pub decreases-put : goal.decreases-put
decreases-put g l = l.end - l.first
