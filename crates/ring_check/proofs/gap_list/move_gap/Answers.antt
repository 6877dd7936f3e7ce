use Rattle.std.proofs.Common.{◌∙◌, ap, ◌+◌, ◌-◌, ◌++◌, take, drop, arith, rules, length-take-le, length-drop}
use Rattle.ring_check.proofs.GapMoves.{moved_down, moved_up, part_written}
use Rattle.ring_check.proofs.gap_list.move_gap.Goals as goal

pub returns-then-place-low-clause-items : goal.returns-then-place-low-clause-items
returns-then-place-low-clause-items c =
    let was = c.deref_mut.ensures.value in
    let from = c.deref.ensures.value in
    let is = c.copy_from_slice.ensures.after in
    let long = length-take-le (c.args.low - c.args.place) (drop c.args.place c.args.front.now.items)
    (omega (arith, c.requires.same, c.requires.low, length-drop c.args.place c.args.front.now.items)) in
    rw (was, is, from)
    (ap (λ l. take c.args.place c.args.front.now.items ++ drop (c.args.place + c.args.skip) l)
    (part_written c.args.back.now.items (take (c.args.low - c.args.place) (drop c.args.place c.args.front.now.items)) (c.args.place + c.args.skip) (c.args.low + c.args.skip - (c.args.place + c.args.skip))
    c.args.back.now.len (omega (arith, c.if-place-low.true, c.requires.low)) (omega (arith, long, c.if-place-low.true)) (search rules))
    ∙ moved_down c.args.front.now.items c.args.back.now.items c.args.low c.args.place c.args.skip
    (omega (arith, c.if-place-low.true)) (omega (arith, c.requires.same, c.requires.low)) c.requires.low)

pub returns-else-place-low-clause-items : goal.returns-else-place-low-clause-items
returns-else-place-low-clause-items c =
    let was = c.deref_mut-else-place-low.ensures.value in
    let from = c.deref-else-place-low.ensures.value in
    let is = c.copy_from_slice-else-place-low.ensures.after in
    let long = length-take-le (c.args.place + c.args.skip - (c.args.low + c.args.skip)) (drop (c.args.low + c.args.skip) c.args.back.now.items)
    (omega (arith, c.requires.place, length-drop (c.args.low + c.args.skip) c.args.back.now.items)) in
    rw (was, is, from)
    (ap (λ l. take c.args.place l ++ drop (c.args.place + c.args.skip) c.args.back.now.items)
    (part_written c.args.front.now.items (take (c.args.place + c.args.skip - (c.args.low + c.args.skip)) (drop (c.args.low + c.args.skip) c.args.back.now.items)) c.args.low (c.args.place - c.args.low)
    c.args.front.now.len (omega (arith, c.if-place-low.false, c.requires.place, c.requires.same)) (omega (arith, long, c.if-place-low.false)) (search rules))
    ∙ moved_up c.args.front.now.items c.args.back.now.items c.args.low c.args.place c.args.skip
    (omega (arith, c.if-place-low.false)) (omega (arith, c.requires.same, c.requires.place)) c.requires.place)
