use Rattle.std.proofs.Common.{arith}
use Rattle.ring_check.proofs.EdgeEnds.{if_less, if_not_less}
use Rattle.ring_check.proofs.events.previous.Goals as goal

pub returns-then-v-gt0-clause-number : goal.returns-then-v-gt0-clause-number
returns-then-v-gt0-clause-number c = if_less _ c.if-v-gt0.true

pub returns-then-v-gt0-clause-below : goal.returns-then-v-gt0-clause-below
returns-then-v-gt0-clause-below c = omega (arith, c.requires)

pub returns-else-v-gt0-clause-number : goal.returns-else-v-gt0-clause-number
returns-else-v-gt0-clause-number c = if_not_less _ c.if-v-gt0.false

pub returns-else-v-gt0-clause-below : goal.returns-else-v-gt0-clause-below
returns-else-v-gt0-clause-below c = let size = c.args.events.now.are.all_ranks in omega (arith, c.requires, size)
