use Rattle.std.proofs.Common.{◌≡◌, ◌≢◌, ◌∙◌, sym, ◌+◌, ◌-◌, ◌/◌, ◌<◌, length, arith, rules}
use Rattle.std.proofs.lemmas.List.{get_or_read}
use Rattle.rel_hull.proofs.Costs.{one_halving}
use Rattle.rel_hull.proofs.comparison.halved_front.Goals as goal
use Rattle.rings.specs.Ring.{origin}

pub loop-k-preserved-then-eq : goal.loop-k-preserved-then-eq
loop-k-preserved-then-eq g c =
    let held = c.loop-k.invariant in
    let middle = c.loop-k.k + (c.loop-k.end - c.loop-k.k) / 2 in
    let within : middle < length c.args.ab.now = omega (arith, held.within, c.loop-k-test.true) in
    let within_other : middle < length c.args.ac.now = omega (arith, held.within_other, c.loop-k-test.true) in
    let first = get_or_read c.args.ab.now middle c.index-ab-middle.result within c.index-ab-middle.is origin in
    let second = get_or_read c.args.ac.now middle c.index-ac-middle.result within_other c.index-ac-middle.is origin in
    let equal : c.index-ab-middle.result ≡ c.index-ac-middle.result = search rules in
    record {
      some = omega arith;
      below = omega (arith, c.loop-k-test.true);
      within = held.within;
      within_other = held.within_other;
      same = c.requires.fronts middle within within_other (sym first ∙ equal ∙ second);
      apart = held.apart;
      steps = λ d short.
          rw c.order.ensures.steps
          (one_halving (c.loop-k.end - c.loop-k.k) _ _ _ (omega (arith, c.loop-k-test.true)) (omega (arith, c.loop-k-test.true)) (held.steps d short));
    }

pub loop-k-preserved : goal.loop-k-preserved
loop-k-preserved g c =
    let held = c.loop-k.invariant in
    let middle = c.loop-k.k + (c.loop-k.end - c.loop-k.k) / 2 in
    let within : middle < length c.args.ab.now = omega (arith, held.within, c.loop-k-test.true) in
    let within_other : middle < length c.args.ac.now = omega (arith, held.within_other, c.loop-k-test.true) in
    let first = get_or_read c.args.ab.now middle c.index-ab-middle.result within c.index-ab-middle.is origin in
    let second = get_or_read c.args.ac.now middle c.index-ac-middle.result within_other c.index-ac-middle.is origin in
    let differ : c.index-ab-middle.result ≢ c.index-ac-middle.result = search rules in
    record {
      some = held.some;
      below = omega arith;
      within = omega (arith, within);
      within_other = omega (arith, within_other);
      same = held.same;
      apart = λ _ _ same. differ (first ∙ same ∙ sym second);
      steps = λ d short.
          rw c.order.ensures.steps
          (one_halving (c.loop-k.end - c.loop-k.k) _ _ _ (omega (arith, c.loop-k-test.true)) (omega (arith, c.loop-k-test.true)) (held.steps d short));
    }
