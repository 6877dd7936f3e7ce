use Rattle.std.proofs.Common.{◌≡◌, inl, inr, ℕ, ◌+◌, arith, subst, sym}
use Rattle.std.proofs.lemmas.Bool.{cases_eq}
use Rattle.std.proofs.lemmas.List.Elements.{Contains-get_or}
use Rattle.rel_hull.proofs.Costs.{one_more}
use Rattle.rel_hull.proofs.Outer.{contained_at}
use Rattle.rel_hull.proofs.TableSides.{end_kept, end_taken}
use Rattle.rel_hull.proofs.hull.side_end.Goals as goal
use Rattle.rel_hull.proofs.hull.side_end.Goals.{else-comes_first, then-comes_first}
use Rattle.rel_hull.specs.Table.{HasChainsBelow}
use Rattle.rel_hull.specs.Told.{IsToldSide}

pub comes_first-requires-clause-second : goal.comes_first-requires-clause-second
comes_first-requires-clause-second g c = elim (cases_eq c.loop-t.end c.args.s) [
  | inl same ↦ rw same c.requires.start
  | inr apart ↦ c.requires.outer.below c.loop-t.end (c.loop-t.invariant.other apart)
]

pub comes_first-requires-clause-third : goal.comes_first-requires-clause-third
comes_first-requires-clause-third g c = c.requires.outer.below _ (Contains-get_or c.args.outer.now c.loop-t.t-index 0 c.loop-t-test.true)

pub loop-t-preserved : goal.loop-t-preserved
loop-t-preserved g c =
    let inside = Contains-get_or c.args.outer.now c.loop-t.t-index 0 c.loop-t-test.true in
    let invariant = c.loop-t.invariant in
    let steps = λ (d : ℕ) (short : HasChainsBelow d c.args.chains.now).
    one_more _ _ _ c.loop-t.t-index (d + 8) (invariant.steps d short) (c.comes_first.ensures.steps d short) in
    elim c.if-comes_first.branch [
      | then-comes_first w ↦
          rw w.end-is
          (record {
            other = λ _. inside;
            steps = steps;
            first = end_taken c.args.chains.now c.args.outer.now c.args.s c.loop-t.end c.loop-t.t-index inside invariant.first
                (c.comes_first.ensures.first.0 w.if-comes_first.true);
          })
      | else-comes_first w ↦
          rw w.end-is
          (record {
            other = invariant.other;
            steps = steps;
            first = end_kept c.args.chains.now c.args.outer.now c.args.s c.loop-t.end c.loop-t.t-index inside invariant.first invariant.other
                (λ comes. absurd (cc (c.comes_first.ensures.first.1 comes, w.if-comes_first.false)));
          })
    ]

pub returns-clause-end : goal.returns-clause-end
returns-clause-end g c = λ t told.
    let inside = told.second in
    let at = contained_at c.args.outer.now t inside in
    subst (λ (n : ℕ). c.loop-t.end ≡ n) at
    (c.loop-t.invariant.first inside.0 (omega (arith, inside.1)) (subst (λ (n : ℕ). IsToldSide c.args.chains.now c.args.outer.now (c.args.s, n)) (sym at) told))
