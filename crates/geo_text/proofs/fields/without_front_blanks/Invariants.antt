use Rattle.std.proofs.Common.{◌≡◌, length}
use Rattle.geo_text.proofs.fields.without_front_blanks.Given as goal
use Rattle.geo_text.specs.Records.{without_front_blanks}

abbrev pub invariant-loop-rest : goal.invariant-loop-rest
invariant-loop-rest l = without_front_blanks l.rest ≡ without_front_blanks l.field

abbrev pub decreases-loop-rest : goal.decreases-loop-rest
decreases-loop-rest l = length l.rest
