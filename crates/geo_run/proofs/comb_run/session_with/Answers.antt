use Rattle.std.proofs.Common.{◌∙◌}
use Rattle.geo_gen.specs.Comb.{comb_list}
use Rattle.geo_run.proofs.Combs.{held_once_answered}
use Rattle.geo_run.proofs.comb_run.session_with.Goals as goal

pub returns : goal.returns
returns g c =
    let told = rw (c.of.ensures ∙ c.requires.comb) at c.in_ok-answer.ensures.ok in
    held_once_answered (comb_list c.args.k) _ _ _ _ c.comb_ring.ensures.simple told
