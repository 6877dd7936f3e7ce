use Rattle.half_cut.proofs.Beside.{of_more}
use Rattle.half_cut.proofs.Links.{closed_more}
use Rattle.half_cut.proofs.tail.close.Goals as goal

pub returns-in-Some-clause-linked : goal.returns-in-Some-clause-linked
returns-in-Some-clause-linked c =
    let comes = rw c.in-Some.is at c.requires.comes_round in
    rw (c.push_back_reserved.ensures.items, c.push_back_reserved-in-Some.ensures.items)
    (closed_more c.args.corners.now.items c.args.lines.now.items c.in-Some.corner c.args.line c.requires.linked c.requires.some
    c.requires.differ
    comes.0 comes.1 comes.2)

pub returns-in-Some-clause-lines : goal.returns-in-Some-clause-lines
returns-in-Some-clause-lines c = rw c.push_back_reserved-in-Some.ensures.items (of_more c.args.lines.now.items c.args.line)
