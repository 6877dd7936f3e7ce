use Rattle.std.proofs.Common.{◌∙◌}
use Rattle.geo_reply.proofs.Fronts.{front_fault, front_kept, front_same}
use Rattle.geo_reply.proofs.lines.put_numbers.Goals as goal

pub returns-in_err-put_word-clause-front : goal.returns-in_err-put_word-clause-front
returns-in_err-put_word-clause-front c =
    front_same _ c.args.out.now.items c.put_word.new.out.items c.in_err-put_word.ensures.err

pub returns-in_err-put_index-clause-front : goal.returns-in_err-put_index-clause-front
returns-in_err-put_index-clause-front c =
    front_kept _ c.args.out.now.items _ c.put_index.new.out.items (c.in_err-put_index.ensures.err ∙ c.in_ok-put_word.ensures.ok)

pub returns-in_err-put_index-2-clause-front : goal.returns-in_err-put_index-2-clause-front
returns-in_err-put_index-2-clause-front c =
    front_kept _ c.args.out.now.items _ c.put_index-in-loop-number.new.out.items (c.in_err-put_index-2.ensures.err ∙ c.loop-number.invariant)

pub returns-clause-front : goal.returns-clause-front
returns-clause-front c =
    front_fault c.put_line_end.result c.args.out.now.items _ c.loop-number.out.items c.put_line_end.new.out.items c.loop-number.invariant c.put_line_end.ensures.err
