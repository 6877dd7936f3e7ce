use Rattle.std.proofs.Common.{◌≡◌, ◌+◌, ◌-◌, ◌*◌, ◌<◌, length, subst, arith}
use Rattle.std.proofs.lemmas.Nat.{mul-le}
use Rattle.plane.specs.Point.{whole}
use Rattle.plane.specs.Region.{IsCornerList}
use Rattle.rings.specs.Ring.{vertex}
use Rattle.star_kernel.proofs.EdgeOrders.{read_edge}
use Rattle.star_kernel.proofs.HalfPlanes.{all_edges, first_more, none_listed, nothing_left_first, one_cut}
use Rattle.star_kernel.proofs.half_planes.cut_by_rest.Goals as goal
use Rattle.star_kernel.specs.HalfPlanes.{IsLeftOfFirst, edge_number_at}

pub loop-i-init : goal.loop-i-init
loop-i-init g c = record {
  cut = none_listed c.args.ring.now.corners c.args.first c.in_ok-edges.edges.items c.args.region.corners c.requires.cut;
  few = omega (arith, c.requires.few);
  steps = λ d below. omega (arith, c.by_direction.ensures.steps);
}

pub returns-then-count-eq0-clause-kernel : goal.returns-then-count-eq0-clause-kernel
returns-then-count-eq0-clause-kernel g c =
    let facts = c.len-corners.ensures in
    let edges = c.in_ok-edges.edges.items in
    let within : c.loop-i.i < length edges = grind (arith, c.loop-i-test.true, c.len-i-end.ensures, c.in_ok-edges.edges.ok.0) in
    nothing_left_first c.args.ring.now.corners facts.size.0 facts.simple facts.counterclockwise c.requires.bounds c.args.first edges
    c.in_ok-edges.ensures.edges c.loop-i.i (omega (arith, within)) c.loop-i.region.corners
    (omega (arith, c.count.ensures.number, c.if-count-eq0.true)) c.loop-i.invariant.cut

pub returns-then-count-eq0-clause-steps : goal.returns-then-count-eq0-clause-steps
returns-then-count-eq0-clause-steps g c d below =
    let edges = c.in_ok-edges.edges.items in
    let within : c.loop-i.i < length edges = grind (arith, c.loop-i-test.true, c.len-i-end.ensures, c.in_ok-edges.edges.ok.0) in
    let m = length c.args.ring.now.corners - c.args.first in
    let many : length edges ≡ m = omega (arith, c.in_ok-edges.ensures.edges.as_many) in
    let paid = mul-le c.loop-i.i (2 * d + 15) m (2 * d + 15) (omega (arith, within, many)) (omega arith) in
    let sum = c.loop-i.invariant.steps d below in
    omega (arith, sum, paid)

pub cut_along-requires-clause-number : goal.cut_along-requires-clause-number
cut_along-requires-clause-number g c =
    let edges = c.in_ok-edges.edges.items in
    let within : c.loop-i.i < length edges = grind (arith, c.loop-i-test.true, c.len-i-end.ensures, c.in_ok-edges.edges.ok.0) in
    (read_edge c.args.first (length c.args.ring.now.corners) edges c.in_ok-edges.ensures.edges c.loop-i.i within c.index.result.now c.index.ensures).1

pub cut_along-requires-clause-few : goal.cut_along-requires-clause-few
cut_along-requires-clause-few g c =
    let edges = c.in_ok-edges.edges.items in
    let within : c.loop-i.i < length edges = grind (arith, c.loop-i-test.true, c.len-i-end.ensures, c.in_ok-edges.edges.ok.0) in
    omega (arith, c.loop-i.invariant.few, within, c.in_ok-edges.ensures.edges.as_many, c.len-corners.ensures.size.1)

pub returns-in_err-cut_along-clause-steps : goal.returns-in_err-cut_along-clause-steps
returns-in_err-cut_along-clause-steps g c d below =
    let edges = c.in_ok-edges.edges.items in
    let within : c.loop-i.i < length edges = grind (arith, c.loop-i-test.true, c.len-i-end.ensures, c.in_ok-edges.edges.ok.0) in
    let m = length c.args.ring.now.corners - c.args.first in
    let many : length edges ≡ m = omega (arith, c.in_ok-edges.ensures.edges.as_many) in
    let cut = c.cut_along.ensures.steps d (omega (arith, c.loop-i.invariant.few, within, c.in_ok-edges.ensures.edges.as_many, below)) in
    let paid = mul-le (c.loop-i.i + 1) (2 * d + 15) m (2 * d + 15) (omega (arith, within, many)) (omega arith) in
    let sum = c.loop-i.invariant.steps d below in
    omega (arith, sum, cut, paid)

pub loop-i-preserved : goal.loop-i-preserved
loop-i-preserved g c =
    let ring = c.args.ring.now.corners in
    let first = c.args.first in
    let edges = c.in_ok-edges.edges.items in
    let k = c.loop-i.i in
    let within : k < length edges = grind (arith, c.loop-i-test.true, c.len-i-end.ensures, c.in_ok-edges.edges.ok.0) in
    let read = read_edge first (length ring) edges c.in_ok-edges.ensures.edges k within c.index.result.now c.index.ensures in
    let number = edge_number_at edges k in
    let before = c.loop-i.invariant in
    let cut = c.in_ok-cut_along.ensures in
    record {
      cut = one_cut (IsLeftOfFirst ring first edges k) (IsLeftOfFirst ring first edges (k + 1)) (whole (vertex ring number))
          (whole (vertex ring (number + 1))) (first_more ring first edges k) c.loop-i.region.corners c.cut_along.new.region.corners before.cut
          (rw read.0 at cut.cut);
      few = omega (arith, before.few, cut.few);
      steps = λ d below.
          let paid = cut.steps d (omega (arith, before.few, within, c.in_ok-edges.ensures.edges.as_many, below)) in
          let sum = before.steps d below in
          omega (arith, sum, paid);
    }

pub returns-clause-kernel : goal.returns-clause-kernel
returns-clause-kernel g c =
    let ring = c.args.ring.now.corners in
    let first = c.args.first in
    let edges = c.in_ok-edges.edges.items in
    let facts = c.len-corners.ensures in
    let last : c.loop-i.i ≡ length edges = grind (arith, c.loop-i-test.false, c.loop-i.auto.i-end, c.len-i-end.ensures, c.in_ok-edges.edges.ok.0) in
    all_edges ring facts.size.0 facts.simple facts.counterclockwise c.requires.bounds first edges c.in_ok-edges.ensures.edges
    c.loop-i.region.corners
    (subst (λ i. IsCornerList (IsLeftOfFirst ring first edges i) c.loop-i.region.corners) last c.loop-i.invariant.cut)

pub returns-clause-steps : goal.returns-clause-steps
returns-clause-steps g c d below =
    let edges = c.in_ok-edges.edges.items in
    let last : c.loop-i.i ≡ length edges = grind (arith, c.loop-i-test.false, c.loop-i.auto.i-end, c.len-i-end.ensures, c.in_ok-edges.edges.ok.0) in
    let m = length c.args.ring.now.corners - c.args.first in
    let many : length edges ≡ m = omega (arith, c.in_ok-edges.ensures.edges.as_many) in
    let paid = mul-le c.loop-i.i (2 * d + 15) m (2 * d + 15) (omega (arith, last, many)) (omega arith) in
    let sum = c.loop-i.invariant.steps d below in
    omega (arith, sum, paid)
