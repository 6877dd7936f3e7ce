use Rattle.std.proofs.Common.{◌≡◌, ◌∙◌, sym, arith, length}
use Rattle.plane.specs.Convex.{corner}
use Rattle.half_cut.proofs.Links.{on_at}
use Rattle.half_cut.proofs.Tails as tail
use Rattle.half_cut.proofs.tail.cut_tail.Goals as goal
use Rattle.half_cut.proofs.tail.cut_tail.Goals.{else-is_some, then-is_some}
use Rattle.half_cut.specs.Outline.{IsOnLine}

pub keep-requires-clause-goes_on : goal.keep-requires-clause-goes_on
keep-requires-clause-goes_on g c =
    let t = c.requires.tail in
    let found = c.meeting-back.ensures.meeting in
    elim c.if-is_some.branch [
      | then-is_some w ↦ rw w.line-is (tail.goes_on_side t c.side.ensures found (sym c.is_some.ensures ∙ w.if-is_some.true))
      | else-is_some w ↦ rw w.line-is (tail.goes_on_whole t c.side.ensures found)
    ]

pub keep-requires-2-clause-goes_on : goal.keep-requires-2-clause-goes_on
keep-requires-2-clause-goes_on g c = tail.goes_on_whole c.requires.tail c.side.ensures c.meeting-back.ensures.meeting

pub close-requires-clause-comes_round : goal.close-requires-clause-comes_round
close-requires-clause-comes_round g c =
    let t = c.requires.tail in
    let found = c.meeting-back.ensures.meeting in
    tail.comes_round_whole t c.side.ensures found (omega arith) c.side-2.ensures (omega arith) c.meeting-front.ensures.meeting
    c.keep-2.new.corners.items c.keep-2.new.lines.items (rw c.keep-2.ensures.corners (tail.first_stays t c.side.ensures found)) c.keep-2.ensures.last

pub returns-then-len-eq2-clause-cut : goal.returns-then-len-eq2-clause-cut
returns-then-len-eq2-clause-cut g c =
    rw c.keep.ensures.corners (tail.segment_left c.requires.tail c.side.ensures c.meeting-back.ensures.meeting (omega arith))

pub returns-then-len-eq2-clause-linked : goal.returns-then-len-eq2-clause-linked
returns-then-len-eq2-clause-linked g c =
    let t = c.requires.tail in
    let found = c.meeting-back.ensures.meeting in
    let on : IsOnLine c.if-is_some.line (corner c.args.corners.now.items 0) = elim c.if-is_some.branch [
      | then-is_some w ↦ rw w.line-is (tail.side_comes_back t c.side.ensures found (omega arith))
      | else-is_some w ↦ rw w.line-is (tail.cut_comes_back t c.side.ensures found (omega arith) (sym c.is_some.ensures ∙ w.if-is_some.false))
    ] in
    let same : corner c.keep.new.corners.items 0 ≡ corner c.args.corners.now.items 0 = rw c.keep.ensures.corners (tail.first_stays t c.side.ensures found) in
    record { linked = c.keep.ensures.linked; closes = λ _. on_at c.keep.ensures.last same on }

pub returns-clause-cut : goal.returns-clause-cut
returns-clause-cut g c =
    rw (c.close.ensures.corners, c.keep-2.ensures.corners)
    (tail.polygon_left c.requires.tail c.side.ensures c.meeting-back.ensures.meeting (omega arith) c.side-2.ensures (omega arith)
    c.meeting-front.ensures.meeting)

pub returns-clause-side : goal.returns-clause-side
returns-clause-side g c three =
    let place : c.len-begin.result ≡ length c.keep-2.new.corners.items = omega arith in
    rw (place, c.close.ensures.corners, c.keep-2.ensures.corners)
    (tail.cut_side c.requires.tail c.side.ensures c.meeting-back.ensures.meeting (omega arith) c.side-2.ensures (omega arith)
    c.meeting-front.ensures.meeting)
