use Rattle.std.proofs.Common.{ap, ◌∙◌, sym, ◌∷◌, [], append_assoc, append-nil, arith}
use Rattle.std.specs.Slice.Iter.{windows_rest, windows_size}
use Rattle.mono_fill.specs.Sides.{fan}
use Rattle.mono_fill.proofs.Fans.{extends_more, fan_short, fan_window}
use Rattle.mono_fill.proofs.stack.Stack.fan.Goals as goal

pub loop-pair-preserved : goal.loop-pair-preserved
loop-pair-preserved c =
    let step = c.in-Some.ensures.steps in
    let side = c.args.self.now.side in
    let rest = windows_rest c.loop-pair.pair-iterator in
    let e = fan_window side c.args.x rest c.in-Some.pair.now _ c.loop-pair.invariant.size step.1.0 step.1.1 in
    let f = append_assoc c.loop-pair.out.items (c.triangle.result ∷ []) (fan side c.args.x (windows_rest c.next.new.self)) in
    record {
      size = step.0 ∙ c.loop-pair.invariant.size;
      fan = cc (c.in_ok-push.ensures.items, step.1.2);
      extended = rw c.in_ok-push.ensures.items (extends_more _ _ c.triangle.result c.loop-pair.invariant.extended);
    }

pub loop-pair-init : goal.loop-pair-init
loop-pair-init c =
    let given = c.windows-pair-items.ensures in
    record {
      size = ap windows_size c.into_iter-pair-iterator.ensures.into_iter_gives ∙ given.size;
      fan = cc;
      extended = ([], sym (append-nil _));
    }

pub returns : goal.returns
returns c =
    let step = c.in-None.ensures.steps in
    let e = fan_short c.args.self.now.side c.args.x (windows_rest c.loop-pair.pair-iterator) (omega (arith, step.1.0, c.loop-pair.invariant.size)) in
    record { fan = sym (append-nil c.loop-pair.out.items) ∙ cc; extended = c.loop-pair.invariant.extended }

pub returns-in_err-push-clause-extended : goal.returns-in_err-push-clause-extended
returns-in_err-push-clause-extended c = rw c.in_err-push.ensures.items c.loop-pair.invariant.extended
