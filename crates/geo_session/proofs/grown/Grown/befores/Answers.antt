use Rattle.std.proofs.Common.{◌≡◌, ◌∙◌, ◌+◌, ap, arith, length}
use Rattle.std.proofs.lemmas.List.{length_push}
use Rattle.rings.specs.Ring.{vertex}
use Rattle.ring_check.specs.Oriented.{given_of}
use Rattle.geo_reply.specs.declared.reply.Before.TheVariants as before
use Rattle.geo_session.proofs.AskedVertices.{length_given}
use Rattle.geo_session.proofs.Spanned.{each_push}
use Rattle.geo_session.specs.Tree.{IsFrom}
use Rattle.geo_session.proofs.grown.Grown.befores.Goals as goal

pub loop-i-init : goal.loop-i-init
loop-i-init c = record {
  count = ap length c.in_ok-befores.ensures.items;
  each = λ k below. absurd (omega (arith, below));
  room = omega (arith, c.in_ok-befores.ensures.capacity, c.len.ensures.number);
}

pub loop-i-preserved : goal.loop-i-preserved
loop-i-preserved c =
    let ring = given_of c.args.ring.now in
    let old = c.loop-i.befores.items in
    record {
      count = rw c.push_reserved.ensures.items (length_push old c.before_at.result ∙ ap (λ n. n + 1) c.loop-i.invariant.count);
      each = rw c.push_reserved.ensures.items
          (each_push (λ k found. IsFrom ring c.args.self.now.source (vertex ring k) found) old c.before_at.result before.Nothing c.loop-i.i
          c.loop-i.invariant.count c.loop-i.invariant.each c.before_at.ensures);
      room = rw c.push_reserved.ensures.capacity c.loop-i.invariant.room;
    }

pub returns-clause-from : goal.returns-clause-from
returns-clause-from c =
    let end : c.loop-i.i ≡ length (given_of c.args.ring.now) =
    omega (arith, c.loop-i-test.false, c.loop-i.auto.i-end, c.len-i-end.ensures.number, length_given c.args.ring.now) in
    record { one_each = c.loop-i.invariant.count ∙ end; each = rw end at c.loop-i.invariant.each }

pub returns-clause-few : goal.returns-clause-few
returns-clause-few c =
    omega (arith, c.loop-i.invariant.count, c.loop-i.auto.i-end, c.len-i-end.ensures.number, c.len-i-end.ensures.size.1)

pub push_reserved-requires : goal.push_reserved-requires
push_reserved-requires c =
    omega (arith, c.loop-i.invariant.count, c.loop-i.invariant.room, c.loop-i-test.true, c.len-i-end.ensures.number, c.loop-i.befores.ok.0)
