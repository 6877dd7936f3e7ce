use Rattle.geo_run.proofs.NoFault.{never_rises}
use Rattle.geo_run.proofs.sure.sure_sink_main.Goals as goal

pub returns-clause-untouched : goal.returns-clause-untouched
returns-clause-untouched g c = λ free. (c.geo_main.ensures.untouched free).0

pub returns-clause-comb_complete : goal.returns-clause-comb_complete
returns-clause-comb_complete g c = λ k asks. c.geo_main.ensures.comb_complete k asks never_rises
