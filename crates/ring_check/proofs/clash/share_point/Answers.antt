use Rattle.std.proofs.Common.{◌<◌, arith}
use Rattle.ring_check.proofs.SharedPoints.{apart_after, apart_round, fails_where, shared_after, shared_round}
use Rattle.ring_check.proofs.clash.share_point.Goals as goal

pub returns-then-j-i-clause-shared : goal.returns-then-j-i-clause-shared
returns-then-j-i-clause-shared g c =
    let ring = c.args.points.now in
    let elsewhere = rw (c.corner-a.ensures, c.corner-b.ensures, c.corner-d.ensures, c.if-j-i.true) at c.meet_only_at.ensures.elsewhere in
    let only = rw (c.corner-a.ensures, c.corner-b.ensures, c.corner-d.ensures, c.if-j-i.true) at c.meet_only_at.ensures.only in
    rw c.if-j-i.true
    (fails_where _ (λ no. shared_after ring c.requires.three c.args.i (elsewhere no)) (λ yes. apart_after ring c.requires.three c.args.i (only.0 yes)))

pub returns-then-j-points-clause-shared : goal.returns-then-j-points-clause-shared
returns-then-j-points-clause-shared g c =
    let ring = c.args.points.now in
    let far : 1 < c.args.j = omega arith in
    let elsewhere = rw (c.corner-a.ensures, c.corner-b.ensures, c.corner-c.ensures, c.if-i-eq0.true) at c.meet_only_at-then-j-points.ensures.elsewhere in
    let only = rw (c.corner-a.ensures, c.corner-b.ensures, c.corner-c.ensures, c.if-i-eq0.true) at c.meet_only_at-then-j-points.ensures.only in
    rw c.if-i-eq0.true
    (fails_where _ (λ no. shared_round ring c.requires.three c.args.j c.if-j-points.true far (elsewhere no)) (λ yes. apart_round ring c.requires.three c.args.j c.if-j-points.true (only.0 yes)))
