use Rattle.std.proofs.Common.{◌∙◌, ◌+◌, ap, arith, slice_index_or}
use Rattle.std.proofs.lemmas.List.{get_or_read}
use Rattle.geo_reply.proofs.MapFront.{map_pushed, map_whole}
use Rattle.geo_session.proofs.span.at_places.Goals as goal

pub loop-place-init : goal.loop-place-init
loop-place-init g c = record { are = λ d. c.in_ok-found.ensures.items; count = c.in_ok-found.ensures.len; room = c.in_ok-found.ensures.capacity }

pub push_reserved-requires : goal.push_reserved-requires
push_reserved-requires g c =
    omega (arith, c.loop-place.invariant.count, c.loop-place-test.true, c.loop-place.invariant.room)

pub loop-place-preserved : goal.loop-place-preserved
loop-place-preserved g c =
    let items = c.args.items.now in
    let places = c.args.places.now in
    let i = c.loop-place.place-index in
    let item = c.index-items-place.result in
    record {
      are = λ d. map_pushed (λ place. slice_index_or items place d) places i c.loop-place.found.items (c.loop-place.invariant.are d) 0 item _ c.loop-place-test.true
          (get_or_read items (slice_index_or places i 0) item (c.requires i c.loop-place-test.true) c.index-items-place.is d)
          c.push_reserved.ensures.items;
      count = c.push_reserved.ensures.len ∙ ap (λ k. k + 1) c.loop-place.invariant.count;
      room = rw c.push_reserved.ensures.capacity c.loop-place.invariant.room;
    }

pub returns-clause-items : goal.returns-clause-items
returns-clause-items g c = λ d.
    map_whole (λ place. slice_index_or c.args.items.now place d) c.args.places.now c.loop-place.place-index c.loop-place.found.items
    (c.loop-place.invariant.are d) (omega (arith, c.loop-place-test.false))

pub returns-clause-count : goal.returns-clause-count
returns-clause-count g c = omega (arith, c.loop-place.invariant.count, c.loop-place.auto.place-index-end, c.loop-place-test.false)
