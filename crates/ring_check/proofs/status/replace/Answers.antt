use Rattle.std.proofs.Common.{◌∙◌, ◌<◌, sym, length, arith, refl}
use Rattle.rings.proofs.Sweeps.{replaced}
use Rattle.ring_check.proofs.StatusEdits.{edges_as, edges_replaced, times_replaced}
use Rattle.ring_check.proofs.status.replace.Goals as goal

pub returns-then-fits-clause-stacked : goal.returns-then-fits-clause-stacked
returns-then-fits-clause-stacked g c = λ h.
    let e = c.args.events.now in
    let size = e.are.all_ranks in
    rw c.set.ensures
    (replaced e.points.now e.ranks.now c.args.status.now c.place_of-place.result c.requires.stacked c.args.f (omega (arith, size, c.requires.f))
    (rw c.set.ensures at (c.if-fits.ensures.fits refl))
    (rw c.set.ensures at (c.fits-then-fits.ensures.fits h)))

pub returns-then-fits-clause-times : goal.returns-then-fits-clause-times
returns-then-fits-clause-times g c = λ _ x.
    let within : c.place_of-place.result < length c.args.status.now = omega (arith, c.place_of-place.ensures.place, c.if-place-len.false, c.len.ensures) in
    rw c.set.ensures
    (times_replaced c.args.status.now c.place_of-place.result c.args.e c.args.f x within (sym c.at.ensures ∙ c.if-at-e.false))

pub place_of-place-requires-clause-edges : goal.place_of-place-requires-clause-edges
place_of-place-requires-clause-edges g c = edges_as c.args.events.now.are.all_ranks c.args.status.now c.requires.stacked.edges

pub fits-requires : goal.fits-requires
fits-requires g c =
    rw c.set.ensures
    (edges_replaced c.args.events.now.are.all_ranks c.args.status.now c.requires.stacked.edges c.place_of-place.result c.args.f c.requires.f)

pub fits-requires-then-fits : goal.fits-requires-then-fits
fits-requires-then-fits g c =
    rw c.set.ensures
    (edges_replaced c.args.events.now.are.all_ranks c.args.status.now c.requires.stacked.edges c.place_of-place.result c.args.f c.requires.f)
