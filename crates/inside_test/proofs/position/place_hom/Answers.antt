use Rattle.std.proofs.Common.{true, false, refl, arith}
use Rattle.inside_test.proofs.Odd.{in_of_odd, odd_end, odd_start, out_of_even}
use Rattle.inside_test.proofs.position.place_hom.Goals as goal
use Rattle.inside_test.proofs.position.place_hom.Goals.{in-None+in-Some-odd_by_edges, in-Some}

pub loop-first-init : goal.loop-first-init
loop-first-init g c = (odd_start c.args.ring.now.corners c.args.p.now, omega arith, omega arith)

pub loop-first-preserved : goal.loop-first-preserved
loop-first-preserved g c =
    let p = c.args.p.now in
    let (before, _, steps) = c.loop-first.invariant in
    let levels = c.of-levels.ensures in
    elim c.match-odd_by_box.branch [
      | in-Some w ↦ (
        rw w.odd-is (w.in-Some.ensures.odd p levels.levels levels.rational c.loop-first.is_odd before),
        omega arith,
        grind (arith, steps, w.steps-is),
      )
      | in-None+in-Some-odd_by_edges w ↦ (
        rw w.odd-is (w.in-Some-odd_by_edges.ensures.odd c.loop-first.is_odd before),
        omega arith,
        grind (arith, steps, w.steps-is, w.in-Some-odd_by_edges.ensures.steps),
      )
    ]

pub returns-then-is_odd : goal.returns-then-is_odd
returns-then-is_odd g c =
    let all = odd_end c.args.ring.now.corners c.args.p.now c.loop-first.first true (omega arith) (rw c.if-is_odd.true at c.loop-first.invariant.0) in
    let inside = in_of_odd c.args.ring.now.corners c.args.p.now all in
    record {
      edge = (λ e. absurd (cc e), λ on. absurd (all.on_none on));
      inside = (λ _. (inside, all.on_none), λ _. refl);
      outside = (λ e. absurd (cc e), λ out. absurd (out inside));
      steps = omega (arith, c.loop-first.invariant.1, c.loop-first.invariant.2);
    }

pub returns-else-is_odd : goal.returns-else-is_odd
returns-else-is_odd g c =
    let all = odd_end c.args.ring.now.corners c.args.p.now c.loop-first.first false (omega arith) (rw c.if-is_odd.false at c.loop-first.invariant.0) in
    let outside = out_of_even c.args.ring.now.corners c.args.p.now all in
    record {
      edge = (λ e. absurd (cc e), λ on. absurd (all.on_none on));
      inside = (λ e. absurd (cc e), λ h. absurd (outside h.0));
      outside = (λ _. outside, λ _. refl);
      steps = omega (arith, c.loop-first.invariant.1, c.loop-first.invariant.2);
    }
