use Rattle.std.proofs.Common.{◌≡◌, ◌-◌, refl, length, arith}
use Rattle.std.proofs.lemmas.List.{get_or_read}
use Rattle.rings.specs.Chain.{point_at}
use Rattle.rings.specs.Ring.{origin}
use Rattle.geo_session.proofs.BentPairs.{bent_pair}
use Rattle.geo_session.proofs.held.Held.is_path.Goals as goal

pub returns-in_ok-sees-clause-bent : goal.returns-in_ok-sees-clause-bent
returns-in_ok-sees-clause-bent g c = λ seen.
    let ring = c.args.self.now.ring.corners in
    let points = c.args.points.now in
    let first : c.index-points-0.result ≡ point_at points 0 = get_or_read points 0 _ (omega arith) c.index-points-0.is origin in
    let place : length points - 1 ≡ 1 = omega arith in
    let last : c.index-points-points.result ≡ point_at points 1 =
    rw place at (get_or_read points (length points - 1) _ (omega arith) c.index-points-points.is origin) in
    bent_pair ring points (omega arith)
    (rw (← first, ← last) (λ same. absurd (cc (c.is_same.ensures.same.1 same, c.if-not-is_same.true))))
    (rw (← first, ← last) ((c.in_ok-sees.ensures.sees ring refl).0 seen))
