use Rattle.std.proofs.Common.{◌≡◌, ◌∙◌, ◌<◌, ap, refl, arith, length}
use Rattle.geo_c.specs.Held.{talk_of}
use Rattle.geo_c.proofs.Filling.{least_of}
use Rattle.geo_c.proofs.Places.{all_places, no_places, one_place}
use Rattle.geo_c.proofs.many.tell_places.Goals as goal

pub points-init : goal.points-init
points-init g c = record { same = refl; told = no_places (talk_of c.args.session.now.held) c.args.points.now c.args.places.now }

pub points-preserved : goal.points-preserved
points-preserved g c =
    let all = c.points.invariant in
    let fits = least_of (length c.args.points.now) (length c.args.places.now) c.min-i-end.result c.min-i-end.ensures in
    let few : c.points.i < length c.args.points.now = omega (arith, c.points-test.true, fits.0) in
    let room : c.points.i < length c.args.places.now = omega (arith, c.points-test.true, fits.1) in
    record {
      same = c.tell_place.ensures.same ∙ all.same;
      told = one_place (talk_of c.args.session.now.held) (talk_of c.points.session.held) c.args.points.now c.args.places.now c.points.places c.points.i
          c.index-points-i.result c.tell_place.result few room c.index-points-i.is (ap talk_of all.same) all.told c.tell_place.ensures.place;
    }

pub returns-clause-places : goal.returns-clause-places
returns-clause-places g c =
    let ended : c.points.i ≡ c.min-i-end.result = omega (arith, c.points.auto.i-end, c.points-test.false) in
    all_places (talk_of c.args.session.now.held) c.args.points.now c.args.places.now c.points.places c.points.i (ended ∙ c.min-i-end.ensures) c.points.invariant.told
