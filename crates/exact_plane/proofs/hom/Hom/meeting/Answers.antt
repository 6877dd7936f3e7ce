use Rattle.exact_plane.proofs.Meetings.{computed_meeting}
use Rattle.exact_plane.proofs.hom.Hom.meeting.Goals as goal

pub returns-clause-on_second : goal.returns-clause-on_second
returns-clause-on_second c =
    let share = c.cross_product.ensures in
    let weight = c.cross_product-2.ensures in
    computed_meeting _ _ _ _ _ _ _ share.small weight.small share.value weight.value c.along.ensures.point
