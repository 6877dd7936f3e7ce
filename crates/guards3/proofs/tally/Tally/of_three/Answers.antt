use Rattle.std.proofs.Common.{◌≡◌, ◌≢◌, sym, subst, ◌∙◌, ℕ, length, arith}
use Rattle.guards3.proofs.ClassMembers.{class_at, of_class}
use Rattle.guards3.proofs.Tallies.{IsTallyBelow, tally_more, tally_same}
use Rattle.guards3.proofs.tally.Tally.of_three.Goals as goal
use Rattle.guards3.proofs.tally.Tally.of_three.Goals.{then-class-eq0, else-class-eq0+then-class-eq1}
use Rattle.guards3.proofs.tally.Tally.of_three.Goals.{else-class-eq0+else-class-eq1+then-class-eq2, else-class-eq0+else-class-eq1+else-class-eq2}
use Rattle.guards3.specs.Tally.{IsTallyOf}
use Rattle.guards3.specs.declared.tally.Tally.{Tally}

pub loop-number-preserved : goal.loop-number-preserved
loop-number-preserved c =
    let f = class_at c.args.ring.now c.args.classes.now in
    let n = c.loop-number.number in
    let before = c.loop-number.invariant in
    elim c.if-class-eq0.branch [
      | then-class-eq0 w ↦
          let has : f n ≡ 0 = sym c.class_at-class.ensures ∙ w.if-class-eq0.true in
          rw (w.first-is, w.second-is, w.third-is) (record {
            first = tally_more f 0 n c.loop-number.first before.first w.with-first.result has w.with-first.ensures.class w.with-first.ensures.more;
            second = tally_same f 1 n c.loop-number.second before.second (λ e. omega (arith, e, has));
            third = tally_same f 2 n c.loop-number.third before.third (λ e. omega (arith, e, has));
          })
      | else-class-eq0+then-class-eq1 w ↦
          let has : f n ≡ 1 = sym c.class_at-class.ensures ∙ w.if-class-eq1.true in
          rw (w.first-is, w.second-is, w.third-is) (record {
            first = tally_same f 0 n c.loop-number.first before.first (λ e. omega (arith, e, has));
            second = tally_more f 1 n c.loop-number.second before.second w.with-second.result has w.with-second.ensures.class w.with-second.ensures.more;
            third = tally_same f 2 n c.loop-number.third before.third (λ e. omega (arith, e, has));
          })
      | else-class-eq0+else-class-eq1+then-class-eq2 w ↦
          let has : f n ≡ 2 = sym c.class_at-class.ensures ∙ w.if-class-eq2.true in
          rw (w.first-is, w.second-is, w.third-is) (record {
            first = tally_same f 0 n c.loop-number.first before.first (λ e. omega (arith, e, has));
            second = tally_same f 1 n c.loop-number.second before.second (λ e. omega (arith, e, has));
            third = tally_more f 2 n c.loop-number.third before.third w.with-third.result has w.with-third.ensures.class w.with-third.ensures.more;
          })
      | else-class-eq0+else-class-eq1+else-class-eq2 w ↦
          let not : (f n ≢ 0) × (f n ≢ 1) × (f n ≢ 2) = (
            λ e. w.if-class-eq0.false (c.class_at-class.ensures ∙ e),
            λ e. w.if-class-eq1.false (c.class_at-class.ensures ∙ e),
            λ e. w.if-class-eq2.false (c.class_at-class.ensures ∙ e),
          ) in
          rw (w.first-is, w.second-is, w.third-is) (record {
            first = tally_same f 0 n c.loop-number.first before.first not.0;
            second = tally_same f 1 n c.loop-number.second before.second not.1;
            third = tally_same f 2 n c.loop-number.third before.third not.2;
          })
    ]

-- in the end all vertices were counted
tally_of_all : (f : ℕ → ℕ) (class n m : ℕ) (tally : Tally) → n ≡ m → IsTallyBelow f class n tally → IsTallyOf (of_class f tally.class m) tally
tally_of_all f class n m tally all so_far =
    subst (λ k. IsTallyOf (of_class f k m) tally) (sym so_far.of) (subst (λ k. IsTallyOf (of_class f class k) tally) all so_far.is_tally)

pub returns-clause-second : goal.returns-clause-second
returns-clause-second c =
    let all : c.loop-number.number ≡ length c.args.ring.now.corners = omega (arith, c.loop-number-test.false, c.loop-number.auto.number-end, c.len-number-end.ensures.number) in
    tally_of_all (class_at c.args.ring.now c.args.classes.now) 1 c.loop-number.number (length c.args.ring.now.corners) c.loop-number.second all c.loop-number.invariant.second

pub returns-clause-third : goal.returns-clause-third
returns-clause-third c =
    let all : c.loop-number.number ≡ length c.args.ring.now.corners = omega (arith, c.loop-number-test.false, c.loop-number.auto.number-end, c.len-number-end.ensures.number) in
    tally_of_all (class_at c.args.ring.now c.args.classes.now) 2 c.loop-number.number (length c.args.ring.now.corners) c.loop-number.third all c.loop-number.invariant.third
