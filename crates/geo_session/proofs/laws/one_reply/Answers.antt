use Rattle.guards3.proofs.OneGuards.{one_guards_law}
use Rattle.pair_cut.proofs.PairOrder.{one_sights}
use Rattle.geo_session.proofs.OneReply.{one_reply}
use Rattle.geo_session.proofs.laws.one_reply.Goals as goal

pub returns : goal.returns
returns c = one_reply one_guards_law one_sights
