use Rattle.std.proofs.Common.{◌≡◌}
use Rattle.guards3.proofs.ClassMembers.{class_at, of_class}
use Rattle.guards3.proofs.members.members.Given as goal

abbrev pub invariant-loop-number : goal.invariant-loop-number
invariant-loop-number l = l.found.items ≡ of_class (class_at l.ring l.classes) l.class l.number
