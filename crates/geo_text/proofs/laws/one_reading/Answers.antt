use Rattle.geo_text.proofs.Commands.{one_reading_law}
use Rattle.geo_text.proofs.laws.one_reading.Goals as goal

pub returns : goal.returns
returns c = one_reading_law
