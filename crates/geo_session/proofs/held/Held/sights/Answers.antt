use Rattle.std.specs.Prelude.{Some}
use Rattle.geo_text.specs.declared.command.Command.TheVariants as command
use Rattle.geo_session.specs.Asking.{seen_of}
use Rattle.geo_session.proofs.Asks.{sights_refused}
use Rattle.geo_session.proofs.Paces.{unpaced}
use Rattle.geo_session.proofs.held.Held.sights.Goals as goal

pub returns-then-is_large-clause-asked : goal.returns-then-is_large-clause-asked
returns-then-is_large-clause-asked g c =
    λ version. rw c.unchanged.ensures (sights_refused version c.args.self.now (c.is_large.ensures.0 c.if-is_large.true))

pub returns-then-is_large-clause-paced : goal.returns-then-is_large-clause-paced
returns-then-is_large-clause-paced g c = λ version. unpaced (seen_of version (Some c.args.self.now)) command.Sights c.args.steps.now
