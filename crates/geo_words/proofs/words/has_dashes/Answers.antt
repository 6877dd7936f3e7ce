use Rattle.std.proofs.Common.{◌∙◌, bytes_eq, codes, string_bytes, rules, tests}
use Rattle.std.proofs.lemmas.Iterator.{YieldsList-from_slice}
use Rattle.std.proofs.lemmas.Iterator.Search.{any_from_yields_List}
use Rattle.clap.proofs.WalkLemmas.{list_any-map}
use Rattle.geo_words.proofs.words.has_dashes.Goals as goal

pub returns : goal.returns
returns c =
    let words = c.args.words.now in
    any_from_yields_List (λ word. bytes_eq (string_bytes word) (codes "--")) _ _ _ c.any.ensures.ran (YieldsList-from_slice words cc) (λ x b q k. search (rules, tests))
    ∙ list_any-map (λ word. bytes_eq word (codes "--")) string_bytes words
