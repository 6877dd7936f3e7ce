use Rattle.std.proofs.Common.{◌≡◌, ◌≢◌, ◌∙◌, sym, ap, ℕ, ◌+◌, ◌<◌, length, get_or, arith}
use Rattle.std.proofs.lemmas.List.{get_or-set_other, length-set}
use Rattle.guards3.proofs.GivenClasses.{given_more, next_given}
use Rattle.guards3.proofs.parting.give_classes.Goals as goal
use Rattle.guards3.proofs.parting.give_classes.Goals.{then-mark-eq0, else-mark-eq0}
use Rattle.guards3.specs.Parting.{IsByMarks, class_after}

pub loop-k-preserved : goal.loop-k-preserved
loop-k-preserved c =
    let marks = c.args.classes.now in
    let classes = c.loop-k.classes in
    let k = c.loop-k.k in
    let before = c.loop-k.invariant in
    let next = c.if-mark-eq0.next in
    let within : k + 2 < length marks = omega (arith, c.loop-k-test.true, before.count) in
    let is : next ≡ class_after c.loop-k.before c.loop-k.here c.loop-k.mark = elim c.if-mark-eq0.branch [
      | then-mark-eq0 w ↦ let zero = w.if-mark-eq0.true in w.next-is ∙ grind arith
      | else-mark-eq0 w ↦ let not = w.if-mark-eq0.false in w.next-is ∙ grind arith
    ] in
    let small : (next < 3) × (c.loop-k.here ≢ next) = elim c.if-mark-eq0.branch [
      | then-mark-eq0 w ↦ (omega (arith, w.next-is, before.before_below), λ e. before.differ (sym w.next-is ∙ sym e))
      | else-mark-eq0 w ↦
          (omega (arith, w.next-is), λ e. omega (arith, w.next-is, e, before.before_below, before.here_below, before.differ))
    ] in
    let given : (f : ℕ → ℕ) → IsByMarks marks f → next ≡ f (k + 2) =
    λ f by. is ∙ next_given marks f by k within c.loop-k.before c.loop-k.here c.loop-k.mark (before.before f by) (before.here f by) before.mark in
    record {
      count = length-set classes (k + 2) next ∙ before.count;
      before_below = before.here_below;
      here_below = small.0;
      differ = small.1;
      mark = before.marks (k + 2) (omega arith) ∙ ap (λ i. get_or marks i 0) (omega arith);
      before = before.here;
      here = λ f by. given f by ∙ ap f (omega arith);
      given = λ f by i below.
          given_more marks f by k within classes before.count (before.given f by) next (given f by) i (omega (arith, below));
      marks = λ i from.
          get_or-set_other classes (k + 2) i next 0 (λ e. omega (arith, e, from)) ∙ before.marks i (omega (arith, from));
    }

pub returns-clause-given : goal.returns-clause-given
returns-clause-given c = λ f by i below.
    let done = c.loop-k-test.false in
    c.loop-k.invariant.given f by i (omega (arith, below, done, c.loop-k.invariant.count))
