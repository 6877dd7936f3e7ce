use Rattle.std.proofs.Common.{◌∙◌, arith, length}
use Rattle.std.proofs.lemmas.Result.{on_ok_weaker}
use Rattle.geo_text.specs.Texts.{index_text, pt_text}
use Rattle.std.specs.Prelude.{codes}
use Rattle.geo_reply.proofs.Fronts.{front_fault, front_kept, front_same, then_written}
use Rattle.geo_reply.proofs.MapFront.{flat_none, flat_pushed, flat_whole}
use Rattle.geo_reply.proofs.lines.put_points.Goals as goal

pub returns-in_err-put_index-clause-front : goal.returns-in_err-put_index-clause-front
returns-in_err-put_index-clause-front g c = front_same _ c.args.out.now.items c.put_index.new.out.items c.in_err-put_index.ensures.err

pub returns-in_err-put_pt-clause-front : goal.returns-in_err-put_pt-clause-front
returns-in_err-put_pt-clause-front g c =
    front_kept _ c.args.out.now.items _ c.put_pt.new.out.items (c.in_err-put_pt.ensures.err ∙ c.loop-point.invariant.put)

pub returns-clause-front : goal.returns-clause-front
returns-clause-front g c =
    front_fault c.put_line_end.result c.args.out.now.items _ c.loop-point.out.items c.put_line_end.new.out.items c.loop-point.invariant.put
    c.put_line_end.ensures.err

pub loop-point-init : goal.loop-point-init
loop-point-init g c = record {
  put = flat_none pt_text c.args.points.now c.args.out.now.items (index_text (length c.args.points.now)) c.put_index.new.out.items c.in_ok-put_index.ensures.ok;
  few = omega arith;
  room = c.put_index.ensures.capacity;
  long = omega (arith, c.in_ok-put_index.ensures.longer);
}

pub loop-point-preserved : goal.loop-point-preserved
loop-point-preserved g c = record {
  put = flat_pushed pt_text c.args.points.now c.args.out.now.items (index_text (length c.args.points.now)) c.loop-point.point-index
      c.loop-point.out.items c.loop-point.invariant.put c.point-item.result c.put_pt.new.out.items c.loop-point-test.true c.point-item.is
      c.in_ok-put_pt.ensures.ok;
  few = omega (arith, c.loop-point.invariant.few, c.in_ok-put_pt.ensures.steps);
  room = omega (arith, c.loop-point.invariant.room, c.put_pt.ensures.capacity);
  long = omega (arith, c.loop-point.invariant.long, c.in_ok-put_pt.ensures.longer);
}

pub returns-clause-ok : goal.returns-clause-ok
returns-clause-ok g c =
    let all = flat_whole pt_text c.args.points.now c.args.out.now.items (index_text (length c.args.points.now)) c.loop-point.point-index
    c.loop-point.out.items c.loop-point.invariant.put (omega (arith, c.loop-point-test.false)) in
    on_ok_weaker c.put_line_end.result
    (λ written. then_written c.args.out.now.items _ c.loop-point.out.items (codes "\n") c.put_line_end.new.out.items all written) c.put_line_end.ensures.ok

pub returns-clause-steps : goal.returns-clause-steps
returns-clause-steps g c = omega (arith, c.loop-point.invariant.few, c.loop-point.auto.point-index-end)
