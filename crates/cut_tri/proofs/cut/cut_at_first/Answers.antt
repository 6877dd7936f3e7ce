use Rattle.std.proofs.Common.{sym, ◌∙◌}
use Rattle.cut_tri.proofs.Candidates.{is_farthest}
use Rattle.cut_tri.proofs.DiagonalCuts.{parts_cut}
use Rattle.cut_tri.proofs.EarCuts.{ear_cut, triangle_cut}
use Rattle.cut_tri.proofs.LeastTurns.{left_at_first}
use Rattle.cut_tri.proofs.cut.cut_at_first.Goals as goal

pub farthest-requires-clause-left : goal.farthest-requires-clause-left
farthest-requires-clause-left g c =
    rw c.deref-2.ensures.value (left_at_first c.args.ring.now.corners c.args.piece.items c.requires.piece c.requires.least)

pub returns-then-len-eq3-clause-cut : goal.returns-then-len-eq3-clause-cut
returns-then-len-eq3-clause-cut g c =
    let xs = c.args.piece.items in
    rw (c.corner_of-tri.ensures, c.deref.ensures.value)
    (triangle_cut c.args.ring.now.corners xs c.requires.piece c.requires.least (sym c.args.piece.ok.0 ∙ sym c.len.ensures ∙ c.if-len-eq3.true))

pub returns-in-None-clause-cut : goal.returns-in-None-clause-cut
returns-in-None-clause-cut g c =
    let xs = c.args.piece.items in
    let none = rw c.deref-2.ensures.value at c.in-None.ensures.none in
    rw (c.corner_of-tri.ensures, c.deref.ensures.value, c.remove.ensures.items)
    (ear_cut c.args.ring.now.corners xs c.requires.piece c.requires.least (λ e. c.if-len-eq3.false (c.len.ensures ∙ c.args.piece.ok.0 ∙ e)) none)

pub returns-in_ok-second-in-Some-clause-cut : goal.returns-in_ok-second-in-Some-clause-cut
returns-in_ok-second-in-Some-clause-cut g c =
    let xs = c.args.piece.items in
    let far = rw c.deref-2.ensures.value at c.in-Some.ensures.farthest in
    let second = rw c.deref-in-Some.ensures.value at c.in_ok-second-in-Some.ensures in
    rw (c.truncate.ensures.items, second)
    (parts_cut c.args.ring.now.corners xs c.in-Some.place c.requires.piece c.requires.least (is_farthest c.args.ring.now.corners xs c.in-Some.place far))
