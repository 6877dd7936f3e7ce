use Rattle.std.proofs.Common.{◌≡◌, rules}
use Rattle.geo_c.specs.Held.{talk_of}
use Rattle.geo_c.proofs.Together.{same_talks_on_ok}
use Rattle.geo_c.proofs.handle.GeoSession.answer.Goals as goal

pub returns-clause-together : goal.returns-clause-together
returns-clause-together g c =
    let was : c.deref_mut.result.now.dialog ≡ talk_of c.args.self.now.held = search rules in
    let is : talk_of c.put.new.self.held ≡ c.answer-end.new.self = search rules in
    same_talks_on_ok _ _ c.args.piece.now _ _ was is c.answer-end.result c.answer-end.ensures.together
