use Rattle.std.proofs.Common.{length, refl}
use Rattle.std.specs.Prelude.{codes}
use Rattle.geo_reply.proofs.FromLines.{froms_none, froms_pushed}
use Rattle.geo_reply.proofs.lines.put_tree.Goals as goal
use Rattle.geo_reply.specs.ReplyText.{count_text}
use Rattle.geo_text.proofs.LineFronts.{front_after}

pub returns-in_err-put_from-clause-front : goal.returns-in_err-put_from-clause-front
returns-in_err-put_from-clause-front c =
    front_after _ c.args.out.now.items _ c.loop-i.out.items c.put_from.new.out.items c.loop-i.invariant c.in_err-put_from.ensures.front

pub loop-i-init : goal.loop-i-init
loop-i-init c =
    froms_none c.args.befores.now c.args.out.now.items (count_text (codes "tree") (length c.args.befores.now)) c.put_count.new.out.items
    c.in_ok-put_count.ensures.ok

pub loop-i-preserved : goal.loop-i-preserved
loop-i-preserved c =
    froms_pushed c.args.befores.now c.args.out.now.items (count_text (codes "tree") (length c.args.befores.now)) c.loop-i.i c.loop-i.out.items
    c.loop-i.invariant _ _ c.put_from.new.out.items c.loop-i-test.true refl c.in_ok-put_from.ensures.ok
