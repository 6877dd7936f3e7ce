use Rattle.std.proofs.Common.{◌≤◌, arith, length, refl}
use Rattle.std.proofs.lemmas.List.{length-map}
use Rattle.plane.specs.declared.limits.TheConstants.{MAX_CORNERS}
use Rattle.rings.specs.Chain.{IsPath}
use Rattle.rings.specs.Ring.{vertex}
use Rattle.geo_session.proofs.PairPaths.{pair_few, pair_told}
use Rattle.geo_session.proofs.held.Held.joined.Goals as goal

pub shown_at-requires-clause-path : goal.shown_at-requires-clause-path
shown_at-requires-clause-path g c =
    rw (← c.self.view_is, c.in_ok-chain.ensures, c.deref.ensures.value)
    (c.in_ok-names.ensures.path c.self.inside.ring.corners (rw (← c.self.view_is) at c.requires.made)).path

pub returns-clause-shown : goal.returns-clause-shown
returns-clause-shown g c =
    let ring = c.self.inside.ring in
    let chain = c.in_ok-chain.chain.items in
    let from = c.given_index-from.result in
    let to = c.given_index-to.result in
    let path : IsPath ring.corners (vertex ring.corners from) (vertex ring.corners to) chain =
    rw (c.in_ok-chain.ensures, c.deref.ensures.value) (c.in_ok-names.ensures.path ring.corners (rw (← c.self.view_is) at c.requires.made)).path in
    rw (← c.self.view_is)
    (record {
      value = c.of.result;
      holds = rw c.of.ensures
          (pair_told ring c.args.pair.0 c.args.pair.1 from to (rw (← c.self.view_is) at c.requires.first) (rw (← c.self.view_is) at c.requires.second)
          c.given_index-from.ensures.number c.given_index-to.ensures.number c.args.version chain c.in_ok-points.points.items path
          (rw (← c.self.view_is) at c.in_ok-points.ensures.shown));
      told = refl;
    })

pub of-requires : goal.of-requires
of-requires g c =
    let ring = c.self.inside.ring.corners in
    let names = c.in_ok-names.names.items in
    let few = pair_few ring c.self.inside.mesh c.self.invariant.fits _ _ names
    (c.in_ok-names.ensures.path ring (rw (← c.self.view_is) at c.requires.made)) in
    let short : length c.in_ok-chain.chain.items ≤ MAX_CORNERS =
    rw (c.in_ok-chain.ensures, c.deref.ensures.value) (omega (arith, few, length-map names (vertex ring), c.len-few_vertices.ensures.size.1)) in
    let long = c.in_ok-points.ensures.few short in
    omega (arith, long)
