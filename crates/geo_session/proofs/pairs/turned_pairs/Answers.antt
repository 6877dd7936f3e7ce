use Rattle.std.proofs.Common.{◌≡◌, ◌∙◌, ap, subst, arith, length, map, take}
use Rattle.std.proofs.Math.Seq.{take-length}
use Rattle.std.specs.Prelude.{IsPermutation}
use Rattle.geo_session.proofs.GivenSights.{given_pair, sight_at, sights_given}
use Rattle.geo_session.proofs.pairs.turned_pairs.Goals as goal

pub given_index-i-requires : goal.given_index-i-requires
given_index-i-requires c =
    let is = sight_at c.args.ring.now c.args.pairs.now c.requires.sights c.loop-i.i-index c.loop-i-test.true in omega (arith, is.order, is.in_ring)

pub given_index-j-requires : goal.given_index-j-requires
given_index-j-requires c = (sight_at c.args.ring.now c.args.pairs.now c.requires.sights c.loop-i.i-index c.loop-i-test.true).in_ring

pub returns : goal.returns
returns c =
    let ring = c.args.ring.now in
    let pairs = c.args.pairs.now in
    let sorted = c.sort_unstable.new.self.items in
    let end : c.loop-i.i-index ≡ length pairs = omega (arith, c.loop-i.auto.i-index-end, c.loop-i-test.false) in
    let all : c.loop-i.turned.items ≡ map (given_pair ring) pairs =
    c.loop-i.invariant.put ∙ ap (λ n. map (given_pair ring) (take n pairs)) end ∙ ap (map (given_pair ring)) (take-length pairs) in
    sights_given ring pairs c.requires.sights sorted (subst (λ xs. IsPermutation xs sorted) all c.sort_unstable.ensures.permutation) c.sort_unstable.ensures.sorted
