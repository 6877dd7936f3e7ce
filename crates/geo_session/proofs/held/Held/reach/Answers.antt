use Rattle.std.proofs.Common.{refl}
use Rattle.ring_check.specs.Oriented.{given_of}
use Rattle.geo_reply.specs.declared.reply.Reply.TheVariants as reply
use Rattle.geo_session.proofs.GivenFull.{shown_given}
use Rattle.geo_session.proofs.Within.{one_in, one_out}
use Rattle.geo_session.proofs.held.Held.reach.Goals as goal

pub returns-in_default-clause-answer : goal.returns-in_default-clause-answer
returns-in_default-clause-answer g c = rw (← c.self.view_is, c.in_default.is) refl

pub returns-in-Err-clause-answer : goal.returns-in-Err-clause-answer
returns-in-Err-clause-answer g c =
    let found = rw (c.in-Err.is, ← c.self.view_is) at c.find.ensures.found in
    rw (← c.self.view_is, c.in-Some.is) (one_out (given_of c.self.inside.ring) _ c.args.t.now c.in-Err.bad found.0 found.1)

pub returns-clause-answer : goal.returns-clause-answer
returns-clause-answer g c =
    let ring = c.self.inside.ring in
    let found = rw (c.in-Ok.is, ← c.self.view_is) at c.find.ensures.found in
    rw (← c.self.view_is, c.in-Some.is)
    (one_in (given_of ring) _ c.args.t.now (reply.Path c.in_ok-points.points.items) found.0 (record {
      value = c.in_ok-points.points.items;
      holds = shown_given ring c.args.version c.in-Some.grown.source c.args.t.now c.in_ok-points.points.items (record {
        chain = c.in_ok-chain.chain.items;
        is_path = c.in_ok-chain.ensures.path;
        is_shown = rw (← c.self.view_is) at c.in_ok-points.ensures.shown;
      });
      told = refl;
    }))

pub shown-requires : goal.shown-requires
shown-requires g c =
    let found = rw (c.in-Ok.is, ← c.self.view_is) at c.find.ensures.found in
    let tree = rw c.in-Some.is at c.self.invariant.tree in
    rw (← c.self.view_is)
    (record { s = c.in-Some.grown.source; t = c.args.t.now; start = tree.home; goal = found.1; is_path = c.in_ok-chain.ensures.path })
