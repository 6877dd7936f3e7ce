use Rattle.std.proofs.Common.{ap, arith}
use Rattle.rings.proofs.Sweeps.{both_enter, both_leave, u_follows, v_follows}
use Rattle.rings.specs.Status.{one}
use Rattle.ring_check.proofs.sweep.passes.Goals as goal

pub returns-in-true-true-clause-status : goal.returns-in-true-true-clause-status
returns-in-true-true-clause-status g c = λ h.
    let e = c.args.events.now in
    both_leave e.points.now e.order.now e.ranks.now e.are e.three c.args.k c.requires.event c.args.status.now c.remove_both.new.status
    c.requires.status (c.remove_both.ensures.stacked h)
    (rw c.previous-u.ensures.number at c.in-true-true.is-0) (rw c.next-w.ensures.number at c.in-true-true.is-1)
    (λ x. omega (arith, c.remove_both.ensures.times h x, ap (one x) c.previous-u.ensures.number))

pub returns-in-true-false-clause-status : goal.returns-in-true-false-clause-status
returns-in-true-false-clause-status g c = λ h.
    let e = c.args.events.now in
    v_follows e.points.now e.order.now e.ranks.now e.are e.three c.args.k c.requires.event c.args.status.now c.replace.new.status
    c.requires.status (c.replace.ensures.stacked h)
    (rw c.previous-u.ensures.number at c.in-true-false.is-0) (rw c.next-w.ensures.number at c.in-true-false.is-1)
    (λ x. rw c.previous-u.ensures.number at (c.replace.ensures.times h x))

pub returns-in-false-true-clause-status : goal.returns-in-false-true-clause-status
returns-in-false-true-clause-status g c = λ h.
    let e = c.args.events.now in
    u_follows e.points.now e.order.now e.ranks.now e.are e.three c.args.k c.requires.event c.args.status.now c.replace-in-false-true.new.status
    c.requires.status (c.replace-in-false-true.ensures.stacked h)
    (rw c.previous-u.ensures.number at c.in-false-true.is-0) (rw c.next-w.ensures.number at c.in-false-true.is-1)
    (λ x. rw c.previous-u.ensures.number at (c.replace-in-false-true.ensures.times h x))

pub returns-in-false-false-clause-status : goal.returns-in-false-false-clause-status
returns-in-false-false-clause-status g c = λ h.
    let e = c.args.events.now in
    both_enter e.points.now e.order.now e.ranks.now e.are e.three c.args.k c.requires.event c.args.status.now c.insert_both.new.status
    c.requires.status (c.insert_both.ensures.stacked h)
    (rw c.previous-u.ensures.number at c.in-false-false.is-0) (rw c.next-w.ensures.number at c.in-false-false.is-1)
    (λ x. omega (arith, c.insert_both.ensures.times h x, ap (one x) c.previous-u.ensures.number))
