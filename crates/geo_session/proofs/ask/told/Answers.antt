use Rattle.geo_session.proofs.Asks.{plain}
use Rattle.geo_session.proofs.ask.told.Goals as goal

pub returns-in-Ok : goal.returns-in-Ok
returns-in-Ok c = λ version held asked is h. rw c.unchanged.ensures (plain version held asked c.in-Ok.reply is (rw c.in-Ok.is at h))

pub returns-in-Err : goal.returns-in-Err
returns-in-Err c = λ version held asked is h. tt
