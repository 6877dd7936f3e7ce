use Rattle.std.proofs.Common.{◌≡◌, refl, rules}
use Rattle.geo_text.specs.Version.{version_of}
use Rattle.geo_reply.proofs.Fronts.{err_since, ok_of_err}
use Rattle.geo_reply.specs.ReplyText.{reply_text}
use Rattle.geo_session.proofs.Paces.{takes_lines, takes_no_lines, unwritten_paced, written_paced}
use Rattle.geo_session.specs.Asking.{seen_of}
use Rattle.geo_session.proofs.session.Session.answer.Goals as goal

pub returns-in_err-asked-clause-ok : goal.returns-in_err-asked-clause-ok
returns-in_err-asked-clause-ok g c = ok_of_err _ c.from_residual.result c.from_residual.ensures.0

pub returns-in_err-asked-clause-prepared : goal.returns-in_err-asked-clause-prepared
returns-in_err-asked-clause-prepared g c = ok_of_err _ c.from_residual.result c.from_residual.ensures.0

pub returns-in_err-asked-clause-same_session : goal.returns-in_err-asked-clause-same_session
returns-in_err-asked-clause-same_session g c = err_since c.from_residual.result refl

pub returns-in_err-asked-clause-same_out : goal.returns-in_err-asked-clause-same_out
returns-in_err-asked-clause-same_out g c = err_since c.from_residual.result refl

pub returns-in_err-asked-clause-steps : goal.returns-in_err-asked-clause-steps
returns-in_err-asked-clause-steps g c =
    let is : c.version.result ≡ version_of c.self.inside.two = search rules in
    rw (← c.self.view_is)
    (unwritten_paced (seen_of (version_of c.self.inside.two) c.self.inside.held) c.from_residual.result c.args.out.now.items c.args.out.now.items c.args.steps.now
    c.ask.new.steps c.ask.new.steps c.args.command (rw is at c.ask.ensures.paced) refl (ok_of_err _ c.from_residual.result c.from_residual.ensures.0))

pub returns-in_err-put_reply-clause-ok : goal.returns-in_err-put_reply-clause-ok
returns-in_err-put_reply-clause-ok g c = ok_of_err _ c.from_residual-in_err-put_reply.result c.from_residual-in_err-put_reply.ensures.0

pub returns-in_err-put_reply-clause-prepared : goal.returns-in_err-put_reply-clause-prepared
returns-in_err-put_reply-clause-prepared g c = ok_of_err _ c.from_residual-in_err-put_reply.result c.from_residual-in_err-put_reply.ensures.0

pub returns-in_err-put_reply-clause-same_session : goal.returns-in_err-put_reply-clause-same_session
returns-in_err-put_reply-clause-same_session g c = err_since c.from_residual-in_err-put_reply.result refl

pub returns-in_err-put_reply-clause-same_out : goal.returns-in_err-put_reply-clause-same_out
returns-in_err-put_reply-clause-same_out g c = err_since c.from_residual-in_err-put_reply.result c.in_err-put_reply.ensures.same

pub returns-in_err-put_reply-clause-steps : goal.returns-in_err-put_reply-clause-steps
returns-in_err-put_reply-clause-steps g c =
    let is : c.version.result ≡ version_of c.self.inside.two = search rules in
    rw (← c.self.view_is)
    (written_paced (seen_of (version_of c.self.inside.two) c.self.inside.held) c.from_residual-in_err-put_reply.result c.args.out.now.items
    c.put_reply.new.out.items c.args.steps.now c.ask.new.steps c.put_reply.new.steps c.args.command c.in_ok-asked.asked.reply
    (rw is at c.in_ok-asked.ensures.asked.is_reply) (rw is at c.in_ok-asked.ensures.paced) c.in_err-put_reply.ensures.steps
    (ok_of_err _ c.from_residual-in_err-put_reply.result c.from_residual-in_err-put_reply.ensures.0)
    (err_since c.from_residual-in_err-put_reply.result c.in_err-put_reply.ensures.memory))

pub commit-requires : goal.commit-requires
commit-requires g c = c.in_ok-asked.ensures.asked.suits

pub returns-clause-ok : goal.returns-clause-ok
returns-clause-ok g c =
    let is : c.version.result ≡ version_of c.self.inside.two = search rules in
    let asked = rw is at c.in_ok-asked.ensures.asked in
    rw (← c.self.view_is, c.commit.ensures.version, c.commit.ensures.held)
    (record {
      text = reply_text c.in_ok-asked.asked.reply;
      answer = record { answered = c.in_ok-asked.asked.reply; is_reply = asked.is_reply; told = refl; left = asked.state };
      appended = c.in_ok-put_reply.ensures.ok;
    })

pub returns-clause-prepared : goal.returns-clause-prepared
returns-clause-prepared g c = rw (← c.self.view_is, c.commit.ensures.held) c.in_ok-asked.ensures.asked.prepared

pub returns-clause-same_session : goal.returns-clause-same_session
returns-clause-same_session g c = tt

pub returns-clause-same_out : goal.returns-clause-same_out
returns-clause-same_out g c = tt

pub returns-clause-steps : goal.returns-clause-steps
returns-clause-steps g c =
    let is : c.version.result ≡ version_of c.self.inside.two = search rules in
    rw (← c.self.view_is)
    (written_paced (seen_of (version_of c.self.inside.two) c.self.inside.held) _ c.args.out.now.items c.put_reply.new.out.items c.args.steps.now c.ask.new.steps
    c.put_reply.new.steps c.args.command c.in_ok-asked.asked.reply (rw is at c.in_ok-asked.ensures.asked.is_reply) (rw is at c.in_ok-asked.ensures.paced)
    c.in_ok-put_reply.ensures.steps c.in_ok-put_reply.ensures.ok tt)

pub returns-in_err-asked-clause-within : goal.returns-in_err-asked-clause-within
returns-in_err-asked-clause-within g c =
    let is : c.version.result ≡ version_of c.self.inside.two = search rules in
    rw (← c.self.view_is)
    (takes_no_lines (seen_of (version_of c.self.inside.two) c.self.inside.held) c.args.command c.args.steps.now c.ask.new.steps c.ask.new.steps
    (rw is at c.ask.ensures.paced) refl)

pub returns-in_err-put_reply-clause-within : goal.returns-in_err-put_reply-clause-within
returns-in_err-put_reply-clause-within g c =
    let is : c.version.result ≡ version_of c.self.inside.two = search rules in
    rw (← c.self.view_is)
    (takes_lines (seen_of (version_of c.self.inside.two) c.self.inside.held) c.args.command c.args.steps.now c.ask.new.steps c.put_reply.new.steps
    (rw is at c.in_ok-asked.ensures.paced) c.in_ok-asked.asked.reply (rw is at c.in_ok-asked.ensures.asked.is_reply) c.in_err-put_reply.ensures.steps)

pub returns-clause-within : goal.returns-clause-within
returns-clause-within g c =
    let is : c.version.result ≡ version_of c.self.inside.two = search rules in
    rw (← c.self.view_is)
    (takes_lines (seen_of (version_of c.self.inside.two) c.self.inside.held) c.args.command c.args.steps.now c.ask.new.steps c.put_reply.new.steps
    (rw is at c.in_ok-asked.ensures.paced) c.in_ok-asked.asked.reply (rw is at c.in_ok-asked.ensures.asked.is_reply) c.in_ok-put_reply.ensures.steps)
