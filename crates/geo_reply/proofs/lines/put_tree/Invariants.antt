use Rattle.std.proofs.Common.{◌≡◌, ◌++◌, length, take}
use Rattle.std.specs.Prelude.{codes}
use Rattle.geo_reply.proofs.lines.put_tree.Given as goal
use Rattle.geo_reply.specs.ReplyText.{count_text, froms_text}

abbrev pub invariant-loop-i : goal.invariant-loop-i
invariant-loop-i l = l.out.items ≡ l.fn.out.items ++ (count_text (codes "tree") (length l.befores) ++ froms_text 0 (take l.i l.befores))
