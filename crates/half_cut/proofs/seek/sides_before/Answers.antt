use Rattle.std.proofs.Common.{◌≡◌, ◌∙◌, ap, subst, ◌+◌, ◌%◌, length, arith}
use Rattle.exact_plane.proofs.Halves.{half_paid}
use Rattle.half_cut.proofs.seek.sides_before.Goals as goal
use Rattle.half_cut.specs.Outline.{Line, line_at}
use Rattle.half_cut.specs.Seek.{ComesBefore}

pub loop-low-preserved-then-comes_before : goal.loop-low-preserved-then-comes_before
loop-low-preserved-then-comes_before g c =
    let ls = c.args.lines.now.items in
    let before = c.loop-low.invariant in
    let read = c.side.ensures ∙ ap (λ k. line_at ls k) c.round.ensures in
    record {
      ordered = omega arith;
      inside = before.inside;
      last = λ _.
          subst (λ k. ComesBefore (line_at ls ((c.args.from + k) % length ls)) c.args.line.now) (omega arith)
          (subst (λ (l : Line). ComesBefore l c.args.line.now) read (c.comes_before.ensures.before.0 c.if-comes_before.true));
      next = before.next;
      steps = λ d below. half_paid _ _ _ _ _ (omega arith) (omega arith) c.comes_before.ensures.steps (before.steps d below);
    }

pub loop-low-preserved : goal.loop-low-preserved
loop-low-preserved g c =
    let ls = c.args.lines.now.items in
    let before = c.loop-low.invariant in
    let read = c.side.ensures ∙ ap (λ k. line_at ls k) c.round.ensures in
    record {
      ordered = omega arith;
      inside = omega (arith, before.inside);
      last = before.last;
      next = λ _.
          subst (λ (l : Line). ¬ ComesBefore l c.args.line.now) read
          (λ h. absurd (cc (c.comes_before.ensures.before.1 h, c.if-comes_before.false)));
      steps = λ d below. half_paid _ _ _ _ _ (omega arith) (omega arith) c.comes_before.ensures.steps (before.steps d below);
    }

pub returns-clause-before : goal.returns-clause-before
returns-clause-before g c =
    let same : c.loop-low.high ≡ c.loop-low.low = omega arith in
    record {
      within = omega (arith, c.loop-low.invariant.inside);
      last = c.loop-low.invariant.last;
      next = rw same at c.loop-low.invariant.next;
    }
