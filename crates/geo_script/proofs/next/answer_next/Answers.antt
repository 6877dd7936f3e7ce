use Rattle.geo_script.specs.RecordSteps.{some}
use Rattle.geo_script.proofs.next.answer_next.Goals as goal

pub returns-in_err-answer-clause-paced : goal.returns-in_err-answer-clause-paced
returns-in_err-answer-clause-paced g c = some c.in-Some.reading (rw c.in-Some.is at c.in_ok-reading.ensures.takes) c.answer.ensures.paced

pub returns-clause-paced : goal.returns-clause-paced
returns-clause-paced g c = some c.in-Some.reading (rw c.in-Some.is at c.in_ok-reading.ensures.takes) c.answer.ensures.paced
