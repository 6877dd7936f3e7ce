use Rattle.polygon_tests.proofs.ring_lists.KnownRows.{l_clockwise, l_other, l_shape, square, u_shape}
use Rattle.polygon_tests.proofs.guard_classes.meshes_have_guards.Goals as goal

pub has_guards-requires-2-clause-suit : goal.has_guards-requires-2-clause-suit
has_guards-requires-2-clause-suit g c = square

pub has_guards-requires-3-clause-suit : goal.has_guards-requires-3-clause-suit
has_guards-requires-3-clause-suit g c = l_shape

pub has_guards-requires-4-clause-suit : goal.has_guards-requires-4-clause-suit
has_guards-requires-4-clause-suit g c = l_other

pub has_guards-requires-5-clause-suit : goal.has_guards-requires-5-clause-suit
has_guards-requires-5-clause-suit g c = l_clockwise

pub has_guards-requires-6-clause-suit : goal.has_guards-requires-6-clause-suit
has_guards-requires-6-clause-suit g c = u_shape
