use Rattle.edge_index.proofs.LineNumbers.{greatest_read, least_read}
use Rattle.edge_index.proofs.Multiples.{greatest_multiple, least_multiple}
use Rattle.edge_index.proofs.cover.multiples.Goals as goal

pub returns-clause-least_is : goal.returns-clause-least_is
returns-clause-least_is c =
    let s = c.args in
    rw c.min.ensures.value (least_read s.by s.low s.high c.ranges.by c.ranges.low c.ranges.high c.requires.first c.requires.second)

pub returns-clause-greatest_is : goal.returns-clause-greatest_is
returns-clause-greatest_is c =
    let s = c.args in
    rw c.max.ensures.value (greatest_read s.by s.low s.high c.ranges.by c.ranges.low c.ranges.high c.requires.first c.requires.second)

pub returns-clause-least : goal.returns-clause-least
returns-clause-least c = λ z from to.
    let s = c.args in
    rw (returns-clause-least_is c) (least_multiple s.by s.low s.high z from to)

pub returns-clause-greatest : goal.returns-clause-greatest
returns-clause-greatest c = λ z from to.
    let s = c.args in
    rw (returns-clause-greatest_is c) (greatest_multiple s.by s.low s.high z from to)
