use Rattle.ring_check.proofs.StatusEdits.{edges_as}
use Rattle.ring_check.proofs.TwoEdits.{edges_two_removed, two_removed}
use Rattle.ring_check.proofs.status.remove_two.Goals as goal

pub fits-requires : goal.fits-requires
fits-requires g c =
    let e = c.args.events.now in
    rw c.remove_two.ensures
    (edges_as e.are.all_ranks _ (edges_two_removed e.points.now e.ranks.now c.args.status.now c.args.place c.requires.stacked c.requires.place))

pub returns-clause-stacked : goal.returns-clause-stacked
returns-clause-stacked g c = λ h.
    let e = c.args.events.now in
    rw c.remove_two.ensures
    (two_removed e.points.now e.ranks.now c.args.status.now c.args.place c.requires.stacked c.requires.place
    (rw c.remove_two.ensures at (c.fits.ensures.fits h)))
