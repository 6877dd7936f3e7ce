use Rattle.geo_script.proofs.Unprepared.{unprepared_paced}
use Rattle.geo_script.proofs.dialog.Dialog.ask.Goals as goal

pub returns-in_err-reply-clause-steps : goal.returns-in_err-reply-clause-steps
returns-in_err-reply-clause-steps g c =
    let paced = unprepared_paced c.self.inside.session c.in_ok-reading.reading c.args.steps.now c.reply.new.steps c.reply.ensures.paced in
    rw (← c.self.view_is) (rw (c.in_ok-reading.ensures.command, c.version.ensures) at paced)

pub returns-clause-steps : goal.returns-clause-steps
returns-clause-steps g c =
    let paced = unprepared_paced c.self.inside.session c.in_ok-reading.reading c.args.steps.now c.reply.new.steps c.reply.ensures.paced in
    rw (← c.self.view_is) (rw (c.in_ok-reading.ensures.command, c.version.ensures) at paced)
