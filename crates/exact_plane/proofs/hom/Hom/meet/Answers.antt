use Rattle.std.proofs.Common.{arith}
use Rattle.std.proofs.lemmas.Int.{ints}
use Rattle.plane.proofs.Meetings.{cross_product_reversed}
use Rattle.plane.proofs.Turns.{straight_swap_first}
use Rattle.plane.specs.Point.{whole}
use Rattle.exact_plane.proofs.Meetings.{below_zero}
use Rattle.exact_plane.proofs.hom.Hom.meet.Goals as goal

pub meeting-requires-in-Less : goal.meeting-requires-in-Less
meeting-requires-in-Less g c =
    let reversed = cross_product_reversed c.args.a.now c.args.b.now c.args.c.now c.args.d.now in
    let negative = below_zero c.cross_product.result _ c.cross_product.ensures.small c.cmp.ensures c.in-Less.is in
    omega (arith, ints, reversed, negative, c.cross_product.ensures.value)

pub returns-in-Less-clause-on_second : goal.returns-in-Less-clause-on_second
returns-in-Less-clause-on_second g c =
    straight_swap_first (whole c.args.d.now) (whole c.args.c.now) c.meeting-in-Less.result c.meeting-in-Less.ensures.on_second
