use Rattle.std.proofs.Common.{◌≡◌, ◌++◌, length, take}
use Rattle.std.specs.Prelude.{codes, flat_map}
use Rattle.geo_text.specs.Texts.{index_text}
use Rattle.geo_reply.proofs.lines.put_sights.Given as goal
use Rattle.geo_reply.specs.ReplyText.{sight_text}

abbrev pub invariant-loop-pair : goal.invariant-loop-pair
invariant-loop-pair l =
    l.out.items ≡ l.fn.out.items ++ (codes "sights" ++ index_text (length l.pairs) ++ codes "\n" ++ flat_map sight_text (take l.pair-index l.pairs))
