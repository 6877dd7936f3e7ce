use Rattle.std.proofs.Common.{◌≡◌, ◌++◌}
use Rattle.std.specs.Slice.Iter.{windows_rest, windows_size}
use Rattle.mono_fill.specs.Sides.{fan}
use Rattle.mono_fill.specs.Stacks.{Extends}
use Rattle.mono_fill.proofs.stack.Stack.fan.Given as goal

abbrev pub invariant-loop-pair : goal.invariant-loop-pair
invariant-loop-pair l = record {
  size : windows_size l.pair-iterator ≡ 2;
  fan : l.out.items ++ fan l.self.side l.x (windows_rest l.pair-iterator) ≡ l.fn.out.items ++ fan l.self.side l.x l.self.vertices.items;
  extended : Extends l.fn.out.items l.out.items;
}
