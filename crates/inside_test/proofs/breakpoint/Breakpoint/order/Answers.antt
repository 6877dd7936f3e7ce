use Rattle.inside_test.proofs.Sizes.{compared_by_parts, made_is}
use Rattle.inside_test.proofs.breakpoint.Breakpoint.order.Goals as goal

pub returns : goal.returns
returns c =
    let p = c.args.self.now in
    let q = c.args.other.now in
    let tells =
    compared_by_parts p.point q.point p.x p.y p.w q.x q.y q.w _ _ _ (made_is p.point p.x p.y p.w p.x_is p.y_is p.w_is)
    (made_is q.point q.x q.y q.w q.x_is q.y_is q.w_is) p.sized q.sized c.compare-by_x.ensures c.compare.ensures c.then.ensures in
    record { less = tells.less; equal = tells.equal }
