use Rattle.std.proofs.Common.{inr, map, string_bytes}
use Rattle.geo_run.proofs.Refusals.{taken_wants_memory, usage_is_not_taken}
use Rattle.geo_words.specs.Words.{comb}
use Rattle.geo_run.proofs.run.geo_main.Goals as goal

pub returns-in_err-read_words-clause-usage : goal.returns-in_err-read_words-clause-usage
returns-in_err-read_words-clause-usage g c =
    usage_is_not_taken (map string_bytes c.args.words.now) c.read_words.result c.in_err-read_words.field-0.0 c.from_residual.result c.in_err-read_words.was c.from_residual.ensures.1 c.read_words.ensures.usage

pub returns-in_err-read_words-clause-comb_complete : goal.returns-in_err-read_words-clause-comb_complete
returns-in_err-read_words-clause-comb_complete g c = λ k asks still.
    inr (taken_wants_memory (map string_bytes c.args.words.now) c.read_words.result c.in_err-read_words.field-0.0 c.from_residual.result c.in_err-read_words.was c.from_residual.ensures.1
    c.read_words.ensures.usage (comb k asks))

pub returns-in-Comb-clause-refused : goal.returns-in-Comb-clause-refused
returns-in-Comb-clause-refused g c = λ free.
    let asks = rw c.in-Comb.is at c.in_ok-read_words.ensures.ok in
    absurd (free (comb c.in-Comb.k asks))

pub returns-in-Comb-clause-untouched : goal.returns-in-Comb-clause-untouched
returns-in-Comb-clause-untouched g c = λ free.
    let asks = rw c.in-Comb.is at c.in_ok-read_words.ensures.ok in
    absurd (free (comb c.in-Comb.k asks))
