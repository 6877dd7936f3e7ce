use Rattle.std.proofs.Common.{◌≡◌}
use Rattle.std.proofs.lemmas.Int.{to_z-of_z}
use mir.Syntax.{w32}
use Rattle.exact_plane.proofs.Intervals.{greater_read, lesser_read}
use Rattle.exact_plane.proofs.Registers.{short}
use Rattle.exact_plane.proofs.pt.intervals_meet.Goals as goal

pub returns-then-is_at_most_either : goal.returns-then-is_at_most_either
returns-then-is_at_most_either c =
    let fits = c.ranges in
    let third : short c.args.c ≡ c.args.c = to_z-of_z w32 c.args.c fits.c in
    let fourth : short c.args.d ≡ c.args.d = to_z-of_z w32 c.args.d fits.d in
    let first = rw (lesser_read _ _ _ fits.a fits.b c.min.ensures.value, third, fourth) at c.is_at_most_either.ensures in
    let second = rw (greater_read _ _ _ fits.a fits.b c.max.ensures.value, third, fourth) at c.is_at_least_either.ensures in
    (λ test. record { first_reaches = first.0 c.if-is_at_most_either.true; second_reaches = second.0 test }, λ meet. second.1 meet.second_reaches)
