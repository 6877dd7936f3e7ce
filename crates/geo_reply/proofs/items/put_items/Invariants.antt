use Rattle.std.proofs.Common.{◌≡◌, ◌++◌, ◌+◌, ◌≤◌, length, take}
use Rattle.std.specs.List.{sum_by}
use Rattle.std.specs.Prelude.{flat_map}
use Rattle.geo_reply.proofs.items.put_items.Given as goal
use Rattle.geo_reply.specs.ReplyText.{count_text}

abbrev pub invariant-loop-item : goal.invariant-loop-item
invariant-loop-item g l = record {
  put : l.out.items ≡ l.fn.out.items ++ (count_text l.word (length l.items) ++ flat_map g.T.Item.line (take l.item-index l.items));
  few : l.steps ≤ l.fn.steps + sum_by g.T.Item.line_steps (take l.item-index l.items);
}
