use Rattle.std.proofs.Common.{◌≡◌, ◌∙◌, inl, inr, true, false, ℕ, List, arith, below_more, slice_index, subst, sym}
use Rattle.std.proofs.lemmas.Bool.{cases_lt, false≢true}
use Rattle.std.specs.Option.{is_some}
use Rattle.std.specs.Prelude.{MatchOption, None, Option, Some}
use Rattle.rel_hull.proofs.Costs.{one_more}
use Rattle.rel_hull.proofs.Outer.{contained_at, not_less}
use Rattle.rel_hull.proofs.rounds.first_start.Goals as goal
use Rattle.rel_hull.specs.Table.{Table}
use Rattle.rel_hull.specs.Told.{IsOneEnd, StartsTold}

-- where an end is found, a side starts,
starts_of : (table : Table) (outer : List ℕ) (s : ℕ) (end : Option ℕ)
    → MatchOption end (¬ StartsTold table outer s) (IsOneEnd table outer s) → is_some end ≡ true → StartsTold table outer s
starts_of table outer s None is e = absurd (false≢true e)
starts_of table outer s (Some t) is e = (t, is.told)

-- and else none does
none_starts : (table : Table) (outer : List ℕ) (s : ℕ) (end : Option ℕ)
    → MatchOption end (¬ StartsTold table outer s) (IsOneEnd table outer s) → is_some end ≡ false → ¬ StartsTold table outer s
none_starts table outer s None is e = is
none_starts table outer s (Some t) is e = absurd (false≢true (sym e))

pub returns-then-is_some-clause-start : goal.returns-then-is_some-clause-start
returns-then-is_some-clause-start g c =
    let outer = c.args.outer.now in
    record {
      starts = starts_of c.args.chains.now outer (slice_index outer c.loop-s.s-index) c.side_from.result c.side_from.ensures.end
          (sym c.is_some.ensures ∙ c.if-is_some.true);
      least = λ r starts.
          let inside = starts.1.first in
          let at = contained_at outer r inside in
          elim (cases_lt inside.0 c.loop-s.s-index) [
            | inl before ↦ absurd (c.loop-s.invariant.none inside.0 before (subst (StartsTold c.args.chains.now outer) (sym at) starts))
            | inr after ↦
                rw at at
                (not_less outer c.args.chains.now.count c.requires.below c.requires.ascending c.loop-s.s-index inside.0 after (omega (arith, inside.1)))
          ];
    }

pub loop-s-preserved : goal.loop-s-preserved
loop-s-preserved g c =
    let outer = c.args.outer.now in
    record {
      steps = λ d short. one_more _ _ _ c.loop-s.s-index _ (c.loop-s.invariant.steps d short) (c.side_from.ensures.steps d short);
      none = below_more (λ (k : ℕ). ¬ StartsTold c.args.chains.now outer (slice_index outer k)) c.loop-s.s-index c.loop-s.invariant.none
          (none_starts c.args.chains.now outer (slice_index outer c.loop-s.s-index) c.side_from.result c.side_from.ensures.end
          (sym c.is_some.ensures ∙ c.if-is_some.false));
    }

pub returns-clause-start : goal.returns-clause-start
returns-clause-start g c = λ s starts.
    let outer = c.args.outer.now in
    let inside = starts.1.first in
    c.loop-s.invariant.none inside.0 (omega (arith, inside.1)) (subst (StartsTold c.args.chains.now outer) (sym (contained_at outer s inside)) starts)
