use Rattle.std.proofs.Common.{◌≡◌, ◌++◌, length, take}
use Rattle.std.specs.Prelude.{flat_map}
use Rattle.geo_text.specs.Texts.{index_text}
use Rattle.geo_reply.proofs.lines.put_numbers.Given as goal

abbrev pub invariant-loop-number : goal.invariant-loop-number
invariant-loop-number l =
    l.out.items ≡ l.fn.out.items ++ (l.word ++ index_text (length l.numbers) ++ flat_map index_text (take l.number-index l.numbers))
