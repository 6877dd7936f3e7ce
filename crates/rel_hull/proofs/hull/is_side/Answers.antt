use Rattle.std.proofs.Common.{ℕ, ◌+◌, arith, below_more, refl, slice_index, subst}
use Rattle.std.proofs.lemmas.List.Elements.{Contains-get_or}
use Rattle.rel_hull.proofs.Costs.{one_more, within_rounds}
use Rattle.rel_hull.proofs.Outer.{contained_at}
use Rattle.rel_hull.proofs.hull.is_side.Goals as goal
use Rattle.rel_hull.specs.Told.{IsLeftOf}

pub is_left-requires-clause-third : goal.is_left-requires-clause-third
is_left-requires-clause-third g c = c.requires.outer.below _ (Contains-get_or c.args.outer.now c.loop-u.u-index 0 c.loop-u-test.true)

pub loop-u-preserved : goal.loop-u-preserved
loop-u-preserved g c = record {
  left =
      below_more (λ (k : ℕ). IsLeftOf c.args.chains.now c.args.s c.args.t (slice_index c.args.outer.now k)) c.loop-u.u-index c.loop-u.invariant.left
      (c.is_left.ensures.left.0 c.if-not-is_left.false);
  steps = λ d below. one_more _ _ _ c.loop-u.u-index (d + 8) (c.loop-u.invariant.steps d below) (c.is_left.ensures.steps d below);
}

pub returns-then-not-is_left-clause-steps : goal.returns-then-not-is_left-clause-steps
returns-then-not-is_left-clause-steps g c d below =
    within_rounds _ _ (c.loop-u.u-index + 1) _ _
    (one_more _ _ _ c.loop-u.u-index (d + 8) (c.loop-u.invariant.steps d below) (c.is_left.ensures.steps d below)) (omega (arith, c.loop-u-test.true))

pub returns-clause-side : goal.returns-clause-side
returns-clause-side g c = (
  λ _ u inside.
      subst (λ (point : ℕ). IsLeftOf c.args.chains.now c.args.s c.args.t point) (contained_at c.args.outer.now u inside)
      (c.loop-u.invariant.left inside.0 (omega (arith, inside.1))),
  λ _. refl,
)
