use Rattle.std.proofs.Common.{◌∙◌, ◌<◌, ◌≤◌, ◌+◌, All, arith, get_or, length, pos, rules, subst, sym, unsigned_abs}
use Rattle.std.proofs.lemmas.List.{take_all}
use Rattle.std.proofs.lemmas.List.Elements.{All-more}
use Rattle.plane.specs.Point.{IsInLimit}
use Rattle.geo_text.proofs.Faults.{range_at_end, range_found, range_passed}
use Rattle.geo_text.proofs.coordinates.range_fault.Goals as goal

pub loop-place-preserved : goal.loop-place-preserved
loop-place-preserved c =
    let numbers = c.args.numbers.now in
    let place = c.loop-place.place in
    let small : unsigned_abs (get_or numbers place (pos 0)) ≤ c.args.limit = search rules in
    record {
      fault = c.loop-place.invariant.fault ∙ range_passed c.args.limit (place + 1) numbers place c.loop-place-test.true small;
      within = All-more IsInLimit numbers place (pos 0) c.loop-place-test.true c.loop-place.invariant.within (omega (arith, small, c.requires.limit));
    }

pub returns-then-unsigned_abs-limit-clause-fault : goal.returns-then-unsigned_abs-limit-clause-fault
returns-then-unsigned_abs-limit-clause-fault c =
    let numbers = c.args.numbers.now in
    let place = c.loop-place.place in
    let great : c.args.limit < unsigned_abs (get_or numbers place (pos 0)) = search rules in
    sym (c.loop-place.invariant.fault ∙ range_found c.args.limit (place + 1) numbers place c.loop-place-test.true great)

pub returns-clause-fault : goal.returns-clause-fault
returns-clause-fault c =
    let ended : length c.args.numbers.now ≤ c.loop-place.place = omega (arith, c.loop-place-test.false) in
    sym (c.loop-place.invariant.fault ∙ range_at_end c.args.limit (c.loop-place.place + 1) c.args.numbers.now c.loop-place.place ended)

pub returns-clause-none : goal.returns-clause-none
returns-clause-none c =
    let ended : length c.args.numbers.now ≤ c.loop-place.place = omega (arith, c.loop-place-test.false) in
    subst (All IsInLimit) (take_all c.loop-place.place c.args.numbers.now ended) c.loop-place.invariant.within
