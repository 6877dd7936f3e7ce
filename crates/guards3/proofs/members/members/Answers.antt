use Rattle.std.proofs.Common.{sym, ap, ◌∙◌, ◌++◌, ◌∷◌, []}
use Rattle.guards3.proofs.ClassMembers.{class_at, of_class_more, of_class_same}
use Rattle.guards3.proofs.members.members.Goals as goal
use Rattle.guards3.proofs.members.members.Goals.{then-class_at-class+in_ok-push, else-class_at-class}

pub loop-number-preserved : goal.loop-number-preserved
loop-number-preserved c =
    let f = class_at c.args.ring.now c.args.classes.now in
    let class = c.args.class in
    let n = c.loop-number.number in
    elim c.if-class_at-class.branch [
      | then-class_at-class+in_ok-push w ↦
          let more = of_class_more f class n (sym c.class_at.ensures ∙ w.if-class_at-class.true) in
          rw (w.found-is, more) (w.in_ok-push.ensures.items ∙ ap (λ xs. xs ++ n ∷ []) c.loop-number.invariant)
      | else-class_at-class w ↦
          let same = of_class_same f class n (λ e. w.if-class_at-class.false (c.class_at.ensures ∙ e)) in
          rw (w.found-is, same) c.loop-number.invariant
    ]
