use Rattle.std.proofs.Common.{◌∙◌, map, string_bytes, subst, sym}
use Rattle.clap.specs.Words.{found_of}
use Rattle.geo_words.proofs.Value.{Asks, taken_asks}
use Rattle.geo_words.proofs.Taken.{refused_is_not_taken}
use Rattle.geo_words.proofs.words.read_words.Goals as goal

pub returns-in_err-matches-clause-usage : goal.returns-in_err-matches-clause-usage
returns-in_err-matches-clause-usage c =
    refused_is_not_taken (map string_bytes c.args.words.now) c.in_err-matches.field-0.0 c.from_residual.result c.in_err-matches.ensures.fails c.from_residual.ensures.1

pub returns-in-Some-clause-ok : goal.returns-in-Some-clause-ok
returns-in-Some-clause-ok c =
    let words = map string_bytes c.args.words.now in
    subst (Asks words) c.in-Some.is
    (taken_asks words (found_of c.in_ok-matches.matches) c.in_ok-matches.ensures.matches c.get_one.result c.get_one.ensures.none c.get_one.ensures.value
    (sym c.has_dashes.ensures ∙ c.if-has_dashes.false) c.in_ok-matches.ensures.fails)

pub returns-clause-ok : goal.returns-clause-ok
returns-clause-ok c =
    let words = map string_bytes c.args.words.now in
    subst (Asks words) c.in-None.is
    (taken_asks words (found_of c.in_ok-matches.matches) c.in_ok-matches.ensures.matches c.get_one.result c.get_one.ensures.none c.get_one.ensures.value
    (sym c.has_dashes.ensures ∙ c.if-has_dashes.false) c.in_ok-matches.ensures.fails)
