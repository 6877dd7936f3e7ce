use Rattle.std.proofs.Common.{◌≤◌, ◌-◌, arith, length}
use Rattle.half_cut.proofs.Beside.{of_first}
use Rattle.half_cut.proofs.Links.{kept_alone, kept_and_one}
use Rattle.half_cut.proofs.tail.keep.Goals as goal
use Rattle.half_cut.proofs.tail.keep.Goals.{in-None, in-Some}

pub returns-clause-linked : goal.returns-clause-linked
returns-clause-linked c =
    let cs = c.args.corners.now.items in
    let ls = c.args.lines.now.items in
    let rest : c.args.count ≤ length cs = omega (arith, c.requires.rest) in
    elim c.match-back.branch [
      | in-Some w ↦
          let on = rw w.in-Some.is at c.requires.goes_on in
          rw (
            c.push_back_reserved-2.ensures.items,
            w.lines-is,
            w.corners-is,
            w.push_back_reserved.ensures.items,
            w.truncate-in-Some.ensures.items,
            c.truncate.ensures.items,
          )
          (kept_and_one cs ls c.args.count c.args.line c.requires.linked c.requires.some rest c.requires.differ w.in-Some.corner on.0 on.1)
      | in-None w ↦
          let on = rw w.in-None.is at c.requires.goes_on in
          rw (c.push_back_reserved-2.ensures.items, w.lines-is, w.corners-is, w.truncate-in-None.ensures.items, c.truncate.ensures.items)
          (kept_alone cs ls c.args.count c.args.line c.requires.linked c.requires.some rest c.requires.differ on)
    ]

pub returns-clause-lines : goal.returns-clause-lines
returns-clause-lines c =
    let ls = c.args.lines.now.items in
    let rest : c.args.count ≤ length ls = omega (arith, c.requires.rest, c.requires.linked.as_many) in
    elim c.match-back.branch [
      | in-Some w ↦
          rw (c.push_back_reserved-2.ensures.items, w.lines-is, w.truncate-in-Some.ensures.items) (of_first ls c.args.line c.args.count rest)
      | in-None w ↦
          rw (c.push_back_reserved-2.ensures.items, w.lines-is, w.truncate-in-None.ensures.items)
          (of_first ls c.args.line (c.args.count - 1) (omega (arith, rest)))
    ]
