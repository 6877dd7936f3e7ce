use Rattle.std.proofs.Common.{◌≡◌, arith, rules}
use Rattle.std.proofs.lemmas.List.{get_or_read}
use Rattle.geo_session.proofs.HullTable.{place_located, walked}
use Rattle.geo_session.proofs.held.Held.told_side.Goals as goal

pub chain-requires-clause-first : goal.chain-requires-clause-first
chain-requires-clause-first g c = rw c.requires.span.1.table.count c.requires.ends.0

pub chain-requires-clause-second : goal.chain-requires-clause-second
chain-requires-clause-second g c = rw c.requires.span.1.table.count c.requires.ends.1

pub index-requires-3 : goal.index-requires-3
index-requires-3 g c =
    let numbers = c.args.span.now.numbers.items in
    let at = get_or_read numbers c.args.pair.0 c.index.result.now c.requires.ends.0 c.index.ensures 0 in
    let below = place_located c.args.self.now.ring.corners c.args.self.now.tris c.requires.span.0 c.args.span.now c.requires.span.1 c.args.pair.0 c.requires.ends.0 in
    rw at (omega (arith, below, c.args.span.now.tris.ok.0))

pub index-requires-4 : goal.index-requires-4
index-requires-4 g c =
    let numbers = c.args.span.now.numbers.items in
    let at = get_or_read numbers c.args.pair.1 c.index-2.result.now c.requires.ends.1 c.index-2.ensures 0 in
    let below = place_located c.args.self.now.ring.corners c.args.self.now.tris c.requires.span.0 c.args.span.now c.requires.span.1 c.args.pair.1 c.requires.ends.1 in
    rw at (omega (arith, below, c.args.span.now.tris.ok.0))

pub shown-requires : goal.shown-requires
shown-requires g c =
    let ring = c.args.self.now.ring.corners in
    let tris = c.args.self.now.tris in
    let span = c.args.span.now in
    let points = c.requires.span.0 in
    let is = c.requires.span.1 in
    let at_s = get_or_read span.numbers.items c.args.pair.0 c.index.result.now c.requires.ends.0 c.index.ensures 0 in
    let at_t = get_or_read span.numbers.items c.args.pair.1 c.index-2.result.now c.requires.ends.1 c.index-2.ensures 0 in
    let from = get_or_read span.tris.items c.index.result.now c.index-3.result.now
    (rw at_s (place_located ring tris points span is c.args.pair.0 c.requires.ends.0)) c.index-3.ensures 0 in
    let to = get_or_read span.tris.items c.index-2.result.now c.index-4.result.now
    (rw at_t (place_located ring tris points span is c.args.pair.1 c.requires.ends.1)) c.index-4.ensures 0 in
    let same : c.in_ok-chain.chain.items ≡ c.chain.result.now = search rules in
    rw (same, c.chain.ensures.chain, from, to, at_s, at_t) (walked ring tris points span is c.args.pair.0 c.args.pair.1 c.requires.ends.0 c.requires.ends.1)
