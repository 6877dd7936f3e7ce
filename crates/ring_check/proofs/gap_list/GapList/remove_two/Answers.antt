use Rattle.std.proofs.Common.{◌∙◌, ap, arith, length, length-append, length-take-le, length-drop, take, drop, ◌+◌}
use Rattle.ring_check.proofs.GapMoves.{grown_over}
use Rattle.ring_check.proofs.gap_list.GapList.remove_two.Goals as goal

pub returns : goal.returns
returns c =
    let s = c.self.inside in
    let room = c.self.invariant in
    let near = c.clamp-near.ensures in
    let low = length-take-le s.low s.front.items (omega (arith, room.0, room.1)) in
    let size = length-append (take s.low s.front.items) (drop (s.low + s.skip) s.back.items) in
    let rest = length-drop (s.low + s.skip) s.back.items in
    grown_over c.move_gap.new.front.items c.move_gap.new.back.items c.args.self.now c.args.place c.clamp-near.result s.skip
    (omega (arith, near)) (omega (arith, near))
    (omega (arith, near, c.move_gap.ensures.front, room.0, room.1, low, size, rest, ap length c.self.view_is, c.requires))
    (c.move_gap.ensures.items ∙ c.self.view_is) (omega (arith, c.requires))
