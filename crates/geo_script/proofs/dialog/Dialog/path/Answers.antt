use Rattle.std.proofs.Common.{FitsSigned, ap, ◌∙◌, rules, sym, w64}
use Rattle.std.proofs.lemmas.Int.{to_z-of_z}
use Rattle.plane.specs.declared.limits.TheConstants.{MAX_CORNERS}
use Rattle.geo_text.specs.declared.command.Command.TheVariants as command
use Rattle.geo_session.specs.Path.{path_of}
use Rattle.geo_session.specs.Reply.{IsFound}
use Rattle.geo_script.specs.Dialog.{Talk}
use Rattle.geo_script.proofs.Limited.{few_points, second_past, two_points}
use Rattle.geo_script.proofs.dialog.Dialog.path.Goals as goal

pub returns-in-Err-point-clause-answer : goal.returns-in-Err-point-clause-answer
returns-in-Err-point-clause-answer g c =
    let fits_a : FitsSigned w64 c.args.from.0 = search rules in
    let fits_b : FitsSigned w64 c.args.from.1 = search rules in
    let fits_c : FitsSigned w64 c.args.to.0 = search rules in
    let fits_d : FitsSigned w64 c.args.to.1 = search rules in
    second_past c.args.self.now.state.version c.args.from.0 c.args.from.1 c.args.to.0 c.args.to.1 c.in-Ok.s c.in-Err-point.bad _
    (sym c.in-Ok.is ∙ (rw (c.limits-limits.ensures, to_z-of_z w64 c.args.from.0 fits_a, to_z-of_z w64 c.args.from.1 fits_b) at c.point.ensures))
    (sym c.in-Err-point.is ∙ (rw (c.limits-limits.ensures, to_z-of_z w64 c.args.to.0 fits_c, to_z-of_z w64 c.args.to.1 fits_d) at c.point-2.ensures))

pub returns-clause-answer : goal.returns-clause-answer
returns-clause-answer g c =
    let fits_a : FitsSigned w64 c.args.from.0 = search rules in
    let fits_b : FitsSigned w64 c.args.from.1 = search rules in
    let fits_c : FitsSigned w64 c.args.to.0 = search rules in
    let fits_d : FitsSigned w64 c.args.to.1 = search rules in
    let state = c.args.self.now.state in
    two_points state.version c.args.from.0 c.args.from.1 c.args.to.0 c.args.to.1 c.in-Ok.s c.in-Ok-point.t (λ s t. IsFound state (command.Path s t) path_of) c.path.result
    (sym c.in-Ok.is ∙ (rw (c.limits-limits.ensures, to_z-of_z w64 c.args.from.0 fits_a, to_z-of_z w64 c.args.from.1 fits_b) at c.point.ensures))
    (sym c.in-Ok-point.is ∙ (rw (c.limits-limits.ensures, to_z-of_z w64 c.args.to.0 fits_c, to_z-of_z w64 c.args.to.1 fits_d) at c.point-2.ensures))
    (rw (ap (λ (talk : Talk). talk.state) c.self.view_is) at c.path.ensures.answer)

pub returns-clause-few : goal.returns-clause-few
returns-clause-few g c = few_points c.self.inside.session.state.version MAX_CORNERS c.path.result c.path.ensures.few
