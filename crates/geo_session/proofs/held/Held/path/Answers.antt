use Rattle.std.proofs.Common.{refl}
use Rattle.ring_check.specs.Oriented.{given_of}
use Rattle.geo_reply.specs.declared.reply.Reply.TheVariants as reply
use Rattle.geo_text.specs.declared.version.Version.TheVariants as version
use Rattle.geo_session.proofs.GivenFull.{shown_given}
use Rattle.geo_session.proofs.PathAlong.{leads}
use Rattle.geo_session.proofs.Within.{first_out, second_out, two_in}
use Rattle.geo_session.proofs.held.Held.path.Goals as goal

pub returns-in-Err-clause-answer : goal.returns-in-Err-clause-answer
returns-in-Err-clause-answer g c =
    let found = rw c.in-Err.is at c.find.ensures.found in
    first_out (given_of c.args.self.now.ring) _ c.args.s.now c.args.t.now c.in-Err.bad found.0 found.1

pub returns-in-Err-find-clause-answer : goal.returns-in-Err-find-clause-answer
returns-in-Err-find-clause-answer g c =
    let first = rw c.in-Ok.is at c.find.ensures.found in
    let second = rw c.in-Err-find.is at c.find-2.ensures.found in
    second_out (given_of c.args.self.now.ring) _ c.args.s.now c.args.t.now c.in-Err-find.bad first.0 second.0 second.1

pub chain_along-requires : goal.chain_along-requires
chain_along-requires g c =
    let first = rw (c.in-Ok.is, ← c.self.view_is) at c.find.ensures.found in
    let second = rw (c.in-Ok-find.is, ← c.self.view_is) at c.find-2.ensures.found in
    rw (← c.self.view_is)
    (leads c.self.inside.ring.corners c.self.inside.mesh c.in_ok-sleeve.sleeve c.in-Ok.from c.in-Ok-find.to c.args.s.now c.args.t.now
    c.in_ok-sleeve.ensures.of_mesh c.in_ok-sleeve.ensures.between first.1 second.1)

pub full_along-requires : goal.full_along-requires
full_along-requires g c =
    let first = rw (c.in-Ok.is, ← c.self.view_is) at c.find.ensures.found in
    let second = rw (c.in-Ok-find.is, ← c.self.view_is) at c.find-2.ensures.found in
    rw (← c.self.view_is, c.deref.ensures.value)
    (record {
      s = c.args.s.now;
      t = c.args.t.now;
      leads = leads c.self.inside.ring.corners c.self.inside.mesh c.in_ok-sleeve.sleeve c.in-Ok.from c.in-Ok-find.to c.args.s.now c.args.t.now
          c.in_ok-sleeve.ensures.of_mesh c.in_ok-sleeve.ensures.between first.1 second.1;
      is_path = rw (← c.self.view_is) at c.in_ok-chain.ensures.path;
    })

pub returns-in-One-clause-answer : goal.returns-in-One-clause-answer
returns-in-One-clause-answer g c =
    let ring = c.args.self.now.ring in
    let first = rw c.in-Ok.is at c.find.ensures.found in
    let second = rw c.in-Ok-find.is at c.find-2.ensures.found in
    let chain = c.in_ok-chain.chain.items in
    rw c.in-One.is
    (two_in (given_of ring) _ c.args.s.now c.args.t.now (reply.Path chain) first.0 second.0 (record {
      value = chain;
      holds = shown_given ring version.One c.args.s.now c.args.t.now chain (record { chain = chain; is_path = c.in_ok-chain.ensures.path; is_shown = refl });
      told = refl;
    }))

pub returns-clause-answer : goal.returns-clause-answer
returns-clause-answer g c =
    let ring = c.args.self.now.ring in
    let first = rw c.in-Ok.is at c.find.ensures.found in
    let second = rw c.in-Ok-find.is at c.find-2.ensures.found in
    let full = c.in_ok-full-in-Two.full.items in
    rw c.in-Two.is
    (two_in (given_of ring) _ c.args.s.now c.args.t.now (reply.Path full) first.0 second.0 (record {
      value = full;
      holds = shown_given ring version.Two c.args.s.now c.args.t.now full (record {
        chain = c.in_ok-chain.chain.items;
        is_path = c.in_ok-chain.ensures.path;
        is_shown = rw c.deref.ensures.value at c.in_ok-full-in-Two.ensures.full;
      });
      told = refl;
    }))
