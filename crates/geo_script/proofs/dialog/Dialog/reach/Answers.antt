use Rattle.std.proofs.Common.{ap, ◌∙◌, sym, w64}
use Rattle.std.proofs.lemmas.Int.{to_z-of_z}
use Rattle.geo_text.specs.declared.command.Command.TheVariants as command
use Rattle.geo_session.specs.Path.{path_of}
use Rattle.geo_session.specs.Reply.{IsFound}
use Rattle.geo_script.specs.Dialog.{Talk}
use Rattle.geo_script.proofs.Limited.{one_point}
use Rattle.geo_script.proofs.dialog.Dialog.reach.Goals as goal

pub returns-in-Ok-clause-answer : goal.returns-in-Ok-clause-answer
returns-in-Ok-clause-answer g c =
    let state = c.args.self.now.state in
    one_point state.version c.args.x c.args.y c.in-Ok.point (λ t. IsFound state (command.Reach t) path_of) c.reach.result
    (sym c.in-Ok.is ∙ (rw (c.limits.ensures, to_z-of_z w64 c.args.x c.ranges.x, to_z-of_z w64 c.args.y c.ranges.y) at c.point.ensures))
    (rw (ap (λ (talk : Talk). talk.state) c.self.view_is) at c.reach.ensures.answer)
