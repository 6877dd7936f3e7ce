use Rattle.std.proofs.Common.{◌≡◌, ◌+◌, arith}
use Rattle.rings.specs.Chain.{point_at}
use Rattle.taut_check.proofs.Leaving.{leaves_alone, leaves_unseen, stays_where_seen}
use Rattle.taut_check.proofs.chain.is_leaving.Goals as goal

pub returns-then-k-points-clause-leaving : goal.returns-then-k-points-clause-leaving
returns-then-k-points-clause-leaving g c = λ ring of seen.
    let at_to : c.point-to.result ≡ point_at c.args.points.now (c.args.k + 1) = grind (arith, c.point-to.ensures) in
    leaves_unseen ring c.args.points.now c.args.k _ _ _ c.point-from.ensures at_to (omega arith) (c.in_ok-sees.ensures.sees ring of)

pub returns-then-k-gt0-clause-leaving : goal.returns-then-k-gt0-clause-leaving
returns-then-k-gt0-clause-leaving g c = λ ring of seen. (
  λ h. absurd (cc h),
  λ leaves. absurd (stays_where_seen ring c.args.points.now c.args.k (omega arith) seen (omega arith) leaves),
)

pub returns-clause-leaving : goal.returns-clause-leaving
returns-clause-leaving g c = λ ring of seen.
    leaves_alone ring c.args.points.now c.args.k _ _ c.point-from.ensures (omega arith) (c.in_ok-sees-2.ensures.sees ring of)
