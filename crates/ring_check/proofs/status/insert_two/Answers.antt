use Rattle.std.proofs.Common.{◌≡◌, ap, length, arith, refl}
use Rattle.std.specs.List.{insert}
use Rattle.ring_check.proofs.StatusEdits.{edges_as}
use Rattle.ring_check.proofs.TwoEdits.{edges_two_inserted, size_new, two_inserted}
use Rattle.ring_check.proofs.status.insert_two.Goals as goal

pub fit_three-requires-clause-edges : goal.fit_three-requires-clause-edges
fit_three-requires-clause-edges g c =
    let e = c.args.events.now in
    let size = e.are.all_ranks in
    rw (c.if-not-insert_two.ensures.inserted refl)
    (edges_as size _ (edges_two_inserted e.points.now e.ranks.now c.args.status.now c.args.place c.requires.stacked c.requires.place
    c.args.e c.args.f (omega (arith, size, c.requires.e)) (omega (arith, size, c.requires.f))))

pub fit_three-requires-clause-place : goal.fit_three-requires-clause-place
fit_three-requires-clause-place g c =
    let e = c.args.events.now in
    let size = e.are.all_ranks in
    let more = size_new e.points.now e.ranks.now c.args.status.now c.args.place c.requires.stacked c.requires.place
    c.args.e c.args.f (omega (arith, size, c.requires.e)) (omega (arith, size, c.requires.f)) in
    omega (arith, more, ap length (c.if-not-insert_two.ensures.inserted refl), c.insert_two.ensures.small, c.requires.place)

pub returns-clause-stacked : goal.returns-clause-stacked
returns-clause-stacked g c = λ h.
    let e = c.args.events.now in
    let size = e.are.all_ranks in
    let items : c.insert_two.new.self ≡ insert (insert c.args.status.now c.args.place c.args.f) c.args.place c.args.e
    = c.if-not-insert_two.ensures.inserted refl in
    rw items
    (two_inserted e.points.now e.ranks.now c.args.status.now c.args.place c.requires.stacked c.requires.place
    c.args.e c.args.f (omega (arith, size, c.requires.e)) (omega (arith, size, c.requires.f))
    (rw items at (c.fit_three.ensures.first h)) (rw items at (c.fit_three.ensures.second h)) (rw items at (c.fit_three.ensures.third h)))
