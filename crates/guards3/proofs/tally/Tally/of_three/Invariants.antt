use Rattle.guards3.proofs.ClassMembers.{class_at}
use Rattle.guards3.proofs.Tallies.{IsTallyBelow}
use Rattle.guards3.proofs.tally.Tally.of_three.Given as goal

abbrev pub invariant-loop-number : goal.invariant-loop-number
invariant-loop-number l = record {
  first : IsTallyBelow (class_at l.ring l.classes) 0 l.number l.first;
  second : IsTallyBelow (class_at l.ring l.classes) 1 l.number l.second;
  third : IsTallyBelow (class_at l.ring l.classes) 2 l.number l.third;
}
