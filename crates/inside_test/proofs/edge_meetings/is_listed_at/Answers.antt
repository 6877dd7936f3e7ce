use Rattle.std.proofs.Common.{◌≡◌, rules}
use Rattle.std.specs.declared.cmp.Ordering.TheVariants.{Equal}
use Rattle.inside_test.proofs.PointLists.{listed_at}
use Rattle.inside_test.proofs.edge_meetings.is_listed_at.Goals as goal

pub returns-then-i-points : goal.returns-then-i-points
returns-then-i-points c h =
    let equal : c.order.result ≡ Equal = search rules in
    listed_at c.args.points.now c.args.i c.index-points-i.result c.args.p.now.point c.if-i-points.true c.index-points-i.is (c.order.ensures.equal.0 equal)
