use Rattle.std.proofs.Common.{ap, arith, length}
use Rattle.std.proofs.lemmas.List.Sums.{sum_by-take-le, sum_by_more, sum_by_more_le}
use Rattle.geo_reply.proofs.Fronts.{err_since, ok_of_err}
use Rattle.geo_text.proofs.LineFronts.{front_after}
use Rattle.geo_reply.proofs.MapFront.{flat_none, flat_pushed, flat_whole}
use Rattle.geo_reply.proofs.items.put_items.Goals as goal
use Rattle.geo_reply.specs.ReplyText.{count_text}

pub returns-in_err-put_count-clause-ok : goal.returns-in_err-put_count-clause-ok
returns-in_err-put_count-clause-ok g c = ok_of_err _ c.from_residual.result c.from_residual.ensures.0

pub returns-in_err-put_count-clause-front : goal.returns-in_err-put_count-clause-front
returns-in_err-put_count-clause-front g c = err_since c.from_residual.result c.in_err-put_count.ensures.front

pub returns-in_err-put-clause-ok : goal.returns-in_err-put-clause-ok
returns-in_err-put-clause-ok g c = ok_of_err _ c.from_residual-in_err-put.result c.from_residual-in_err-put.ensures.0

pub returns-in_err-put-clause-front : goal.returns-in_err-put-clause-front
returns-in_err-put-clause-front g c =
    front_after _ c.args.out.now.items _ c.loop-item.out.items c.put.new.out.items c.loop-item.invariant.put c.in_err-put.ensures.front

pub loop-item-init : goal.loop-item-init
loop-item-init g c = record {
  put = flat_none g.T.Item.line c.args.items.now c.args.out.now.items (count_text c.args.word.now (length c.args.items.now)) c.put_count.new.out.items
      c.in_ok-put_count.ensures.ok;
  few = omega arith;
}

pub loop-item-preserved : goal.loop-item-preserved
loop-item-preserved g c = record {
  put = flat_pushed g.T.Item.line c.args.items.now c.args.out.now.items (count_text c.args.word.now (length c.args.items.now)) c.loop-item.item-index
      c.loop-item.out.items c.loop-item.invariant.put c.item-item.result c.put.new.out.items c.loop-item-test.true c.item-item.is c.in_ok-put.ensures.ok;
  few =
      let more = sum_by_more g.T.Item.line_steps c.args.items.now c.loop-item.item-index c.item-item.result c.loop-item-test.true in
      let one = ap g.T.Item.line_steps c.item-item.is in
      omega (arith, c.loop-item.invariant.few, c.in_ok-put.ensures.steps, more, one);
}

pub returns-clause-ok : goal.returns-clause-ok
returns-clause-ok g c =
    flat_whole g.T.Item.line c.args.items.now c.args.out.now.items (count_text c.args.word.now (length c.args.items.now)) c.loop-item.item-index
    c.loop-item.out.items c.loop-item.invariant.put (omega (arith, c.loop-item-test.false))

pub returns-clause-front : goal.returns-clause-front
returns-clause-front g c = tt

pub returns-in_err-put-clause-steps : goal.returns-in_err-put-clause-steps
returns-in_err-put-clause-steps g c =
    let more = sum_by_more_le g.T.Item.line_steps c.args.items.now c.loop-item.item-index c.item-item.result c.loop-item-test.true in
    let one = ap g.T.Item.line_steps c.item-item.is in
    omega (arith, c.loop-item.invariant.few, c.put.ensures.steps, more, one)

pub returns-clause-steps : goal.returns-clause-steps
returns-clause-steps g c =
    let all = sum_by-take-le g.T.Item.line_steps c.args.items.now c.loop-item.item-index in omega (arith, c.loop-item.invariant.few, all)
