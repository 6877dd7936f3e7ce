use Rattle.std.proofs.Common.{◌∙◌, ◌≡◌, length, sym, subst, ap, arith}
use Rattle.std.proofs.lemmas.Bool.{false≢true}
use Rattle.exact_plane.proofs.Halves.{half_paid}
use Rattle.shared_seq.proofs.Digits.{binary_digits_enough}
use Rattle.shared_seq.specs.Digits.{binary_digits}
use Rattle.sweep_tri.proofs.Search.{high_moves, low_moves}
use Rattle.sweep_tri.proofs.Slots.{gaps_count}
use Rattle.sweep_tri.specs.Frontier.{IsAbove}
use Rattle.sweep_tri.specs.Gaps.{low_front}
use Rattle.sweep_tri.specs.declared.gap.Gap.{Gap}
use Rattle.sweep_tri.proofs.status.Status.place.Goals as goal

pub loop-low-init : goal.loop-low-init
loop-low-init g c =
    let gaps = c.args.self.now in
    let count : c.len-high.result ≡ length gaps = omega (arith, c.len-high.ensures, gaps_count c.self.inside.slots.items c.self.inside.numbers.items, ap length c.self.view_is, c.self.inside.numbers.ok) in
    record {
      between = record {
        ordered = omega arith;
        inside = omega (arith, count);
        above = λ j below. absurd (omega (arith, below));
        not_above = λ j from within. absurd (omega (arith, from, within, count));
      };
      steps = (binary_digits (length gaps), omega (arith, count, binary_digits_enough (length gaps)), omega arith);
    }

pub loop-low-preserved-then-is_over : goal.loop-low-preserved-then-is_over
loop-low-preserved-then-is_over g c =
    let corners = g.T.Turns.corners c.args.board.now in
    let had = c.loop-low.invariant in
    let less = c.loop-low-test.true in
    let above = subst (λ (gap : Gap). IsAbove corners (low_front gap) c.args.v) c.get.ensures.gap (c.is_over.ensures.above.0 c.if-is_over.true) in
    record {
      between = low_moves corners c.args.self.now c.args.v c.requires.sorted _ _ had.between _ (omega (arith, less)) above;
      steps = half_paid _ _ _ _ _ (omega (arith, less)) (omega (arith, less)) (omega (arith, c.is_over.ensures.steps)) had.steps;
    }

pub loop-low-preserved : goal.loop-low-preserved
loop-low-preserved g c =
    let corners = g.T.Turns.corners c.args.board.now in
    let had = c.loop-low.invariant in
    let less = c.loop-low-test.true in
    record {
      between = high_moves corners c.args.self.now c.args.v c.requires.sorted _ _ had.between _ (omega arith) (omega (arith, less))
          (λ above. false≢true (sym c.if-is_over.false ∙ c.is_over.ensures.above.1
          (subst (λ (gap : Gap). IsAbove corners (low_front gap) c.args.v) (sym c.get.ensures.gap) above)));
      steps = half_paid _ _ _ _ _ (omega (arith, less)) (omega (arith, less)) (omega (arith, c.is_over.ensures.steps)) had.steps;
    }
