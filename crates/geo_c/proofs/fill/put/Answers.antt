use Rattle.std.proofs.Common.{refl}
use Rattle.geo_c.proofs.Putting.{put_more}
use Rattle.geo_c.proofs.fill.put.Goals as goal

pub returns-then-next-out : goal.returns-then-next-out
returns-then-next-out g c = λ items before so. put_more items before c.args.out.now c.args.next.now so c.args.item _ _ c.if-next-out.true refl refl
