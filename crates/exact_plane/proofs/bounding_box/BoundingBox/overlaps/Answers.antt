use Rattle.exact_plane.proofs.Registers.{short_is}
use Rattle.exact_plane.proofs.bounding_box.BoundingBox.overlaps.Goals as goal

pub returns-then-ranges_overlap : goal.returns-then-ranges_overlap
returns-then-ranges_overlap c =
    let a = c.args.self.now in
    let b = c.args.other.now in
    let in_x = rw (short_is a.west a.west_fits, short_is a.east a.east_fits, short_is b.west b.west_fits, short_is b.east b.east_fits) at c.ranges_overlap.ensures in
    let in_y = rw (short_is a.south a.south_fits, short_is a.north a.north_fits, short_is b.south b.south_fits, short_is b.north b.north_fits) at c.ranges_overlap-then-ranges_overlap.ensures in
    (λ h. record { in_x = in_x.0 c.if-ranges_overlap.true; in_y = in_y.0 h }, λ o. in_y.1 o.in_y)
