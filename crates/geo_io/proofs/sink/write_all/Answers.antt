use Rattle.std.proofs.Common.{◌∙◌, arith}
use Rattle.std.proofs.lemmas.List.{take_rest}
use Rattle.std.proofs.lemmas.Result.{err_from_is_err_and}
use Rattle.geo_io.proofs.HandedOver.{more_handed, no_rest, front_handed}
use Rattle.geo_io.proofs.sink.write_all.Goals as goal

pub returns-in_err-count-clause-front : goal.returns-in_err-count-clause-front
returns-in_err-count-clause-front g c =
    let end = err_from_is_err_and c.from_residual.result c.from_residual.ensures.1 in
    rw end.1 (front_handed _ _ _ _ c.loop-rest.invariant.handed _ c.in_err-count.ensures.front)

pub loop-rest-preserved : goal.loop-rest-preserved
loop-rest-preserved g c =
    let so_far = c.loop-rest.invariant.handed in
    let call = c.in_ok-count.ensures in
    record {
      handed = rw take_rest (more_handed _ _ _ _ so_far _ _ call.takes);
      counts = call.counts ∙ c.loop-rest.invariant.counts;
      untouched = λ none. absurd (omega (arith, no_rest _ _ _ _ so_far none, call.least, call.bound));
    }
