use Rattle.std.proofs.Common.{◌≡◌, sym, ap, subst, ◌∙◌, ℕ, ◌<◌, ◌++◌, ◌∷◌, [], length, Bool, List, arith}
use Rattle.std.proofs.lemmas.List.Elements.{All-from_get_or}
use Rattle.std.proofs.lemmas.List.FromFn.{get_or-range_with_len, length-range_with_len}
use Rattle.std.specs.List.{range_with_len}
use Rattle.plane.proofs.Lists.{in_range, range_more}
use Rattle.flip_tri.proofs.waiting.Waiting.all.Goals as goal
use Rattle.flip_tri.specs.Flips.{AreWaiting}

-- all numbers below a count wait
all_wait : (n count : ℕ) (marks : List Bool) → n ≡ count → length marks ≡ count → AreWaiting (range_with_len 0 n) marks
all_wait n count marks end size = record {
  below = All-from_get_or (λ k. k < length marks) (range_with_len 0 n) 0
      (λ i h. omega (arith, h, end, size, length-range_with_len 0 n, get_or-range_with_len 0 n i 0));
  marked = λ k h marked. in_range n k (omega (arith, h, end, size));
}

pub loop-number-preserved : goal.loop-number-preserved
loop-number-preserved c =
    c.in_ok-push.ensures.items ∙ ap (λ xs. xs ++ c.loop-number.number ∷ []) c.loop-number.invariant ∙ sym (range_more c.loop-number.number)

pub invariant_of-result : goal.invariant_of-result
invariant_of-result c =
    subst (λ ns. AreWaiting ns c.in_ok-marks.marks.items) (sym c.loop-number.invariant)
    (all_wait c.loop-number.number c.args.count c.in_ok-marks.marks.items (omega (arith, c.loop-number.auto.number-end, c.loop-number-test.false))
    (omega (arith, c.in_ok-marks.marks.ok.0, c.in_ok-marks.ensures.len)))

pub returns-clause-numbers : goal.returns-clause-numbers
returns-clause-numbers c = c.loop-number.invariant ∙ ap (range_with_len 0) (omega (arith, c.loop-number.auto.number-end, c.loop-number-test.false))
