use Rattle.std.proofs.Common.{sym}
use Rattle.shared_walks.proofs.KeptFronts.{fronts_pushed}
use Rattle.shared_walks.proofs.walks.Walks.leave_copy.Goals as goal

pub returns-in_ok-push : goal.returns-in_ok-push
returns-in_ok-push c = record {
  fronts = fronts_pushed _ _ _ _ _ c.in_ok-push.ensures.items c.requires.fronts (c.in_ok-copy.ensures _ _ (sym c.len.ensures.number) c.requires.front);
}
