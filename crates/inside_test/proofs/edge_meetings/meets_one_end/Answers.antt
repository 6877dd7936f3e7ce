use Rattle.inside_test.proofs.Meetings.{encloses_one_end}
use Rattle.inside_test.proofs.edge_meetings.meets_one_end.Goals as goal

pub returns-clause-encloses : goal.returns-clause-encloses
returns-clause-encloses g c =
    encloses_one_end c.args.a.now c.args.b.now c.args.c.now c.args.d.now c.turns.result c.turns-2.result c.turns.ensures.turns
    c.turns-2.ensures.turns
