use Rattle.std.proofs.Common.{◌≡◌, w64, arith, rules}
use Rattle.std.proofs.lemmas.Int.{ints, to_z-of_z}
use Rattle.exact_plane.proofs.Registers.{read}
use Rattle.edge_index.proofs.Multiples.{long_read}
use Rattle.edge_index.proofs.SlabNumbers.{in_between}
use Rattle.edge_index.proofs.slab.Slab.with.Goals as goal

pub returns-clause-old : goal.returns-clause-old
returns-clause-old c = λ v h.
    let self = c.args.self.now in
    let least = long_read self.least (omega (arith, ints, self.least_fits)) in
    let greatest = long_read self.greatest (omega (arith, ints, self.greatest_fits)) in
    let is_least : read c.min.result ≡ c.min.result = to_z-of_z w64 c.min.result (search rules) in
    let is_greatest : read c.max.result ≡ c.max.result = to_z-of_z w64 c.max.result (search rules) in
    let set = c.between.ensures in
    in_between self c.between.result v set.across set.up
    (omega (arith, ints, set.least, is_least, c.min.ensures.self_bound, least, h.from))
    (omega (arith, ints, set.greatest, is_greatest, c.max.ensures.self_bound, greatest, h.to))
