use Rattle.ring_check.proofs.StatusEdits.{edges_as}
use Rattle.ring_check.proofs.status.insert_both.Goals as goal

pub place_of-place-requires-clause-edges : goal.place_of-place-requires-clause-edges
place_of-place-requires-clause-edges g c = edges_as c.args.events.now.are.all_ranks c.args.status.now c.requires.stacked.edges
