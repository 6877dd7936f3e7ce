use Rattle.geo_gen.specs.Comb.{comb_goal, comb_list, comb_start}
use Rattle.geo_run.proofs.Combs.{answers_path, is_answered}
use Rattle.geo_run.proofs.comb_run.path_through.Goals as goal

pub unwrap-requires : goal.unwrap-requires
unwrap-requires g c =
    is_answered c.args.session.now.state (comb_list c.args.k) comb_start (comb_goal c.args.k) c.comb_start.result c.comb_goal.result c.in_ok-found.found
    c.in_ok-found.ensures.answer c.requires.held c.comb_start.ensures c.comb_goal.ensures c.comb_ring.ensures.start c.comb_ring.ensures.goal

pub returns-clause-path : goal.returns-clause-path
returns-clause-path g c =
    answers_path c.args.session.now.state (comb_list c.args.k) comb_start (comb_goal c.args.k) c.comb_start.result c.comb_goal.result c.in_ok-found.found
    c.in_ok-found.ensures.answer c.requires.held c.comb_start.ensures c.comb_goal.ensures c.unwrap.result c.unwrap.ensures
