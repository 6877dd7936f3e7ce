use Rattle.std.proofs.Common.{◌∙◌, inl, inr, ℕ, ◌<◌, below_more, length, subst, sym, arith}
use Rattle.std.proofs.lemmas.Bool.{cases_lt}
use Rattle.std.proofs.lemmas.List.{get_or_default}
use Rattle.std.specs.Prelude.{slice_index}
use Rattle.edge_index.specs.Candidates.{edges_of}
use Rattle.rings.specs.Simple.{Clash, HasEqualEnds}
use Rattle.ring_check.proofs.SharedPoints.{clear_of_left_out}
use Rattle.ring_check.proofs.candidates.clashes_with_none.Goals as goal

pub loop-candidate-preserved : goal.loop-candidate-preserved
loop-candidate-preserved g c =
    let ring = c.args.points.now in
    let i = c.args.i in
    let edges = edges_of c.args.index.now in
    let at = c.in-Some.at in
    let had = c.loop-candidate.invariant in
    let found = c.in-Some.ensures in
    let differ : HasEqualEnds ring i → ⊥ = λ equal. absurd (cc (c.has_equal_ends.ensures.equal.1 equal, c.if-has_equal_ends.false)) in
    record {
      none = below_more (λ (m : ℕ). m < length edges → i < slice_index edges m → Clash ring i (slice_index edges m) → ⊥) at
          (λ m less inside above clash. elim (cases_lt m c.loop-candidate.place) [
            | inl before ↦ had.none m before inside above clash
            | inr not ↦ clear_of_left_out ring i _ differ (found.passed ring c.requires.index c.of-edge.ensures.probe m not less) above clash
          ])
          (λ _. subst (λ e. i < e → Clash ring i e → ⊥) (sym found.edge) (λ above clash. differ (c.clash_above.ensures.clear c.if-clash_above.false above clash)));
      steps = omega (arith, had.steps, c.clash_above.ensures.steps, found.inside);
    }

pub returns-clause-clear : goal.returns-clause-clear
returns-clause-clear g c = λ _ l above below.
    let ring = c.args.points.now in
    let i = c.args.i in
    let edges = edges_of c.args.index.now in
    let differ : HasEqualEnds ring i → ⊥ = λ equal. absurd (cc (c.has_equal_ends.ensures.equal.1 equal, c.if-has_equal_ends.false)) in
    let (k, inside, is) = c.requires.index.edges.each l below in
    let clear : i < slice_index edges k → Clash ring i (slice_index edges k) → ⊥ = elim (cases_lt k c.loop-candidate.place) [
      | inl before ↦ c.loop-candidate.invariant.none k before inside
      | inr not ↦ clear_of_left_out ring i _ differ (c.in_default.ensures.none ring c.requires.index c.of-edge.ensures.probe k not inside)
    ] in
    subst (λ e. i < e → Clash ring i e → ⊥) (get_or_default edges k 0 l inside ∙ is) clear above
