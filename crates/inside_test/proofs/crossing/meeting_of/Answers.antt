use Rattle.rings.specs.Edge.{edge}
use Rattle.inside_test.proofs.ApartEdges.{not_on_above}
use Rattle.inside_test.proofs.CrossedEdges.{not_crossed_unpassed}
use Rattle.inside_test.proofs.Passed.{above_of_true, meeting_backward, meeting_by_turn, no_rise_from_above, no_rise_to_below, not_above_of_false, rise_of}
use Rattle.inside_test.proofs.Touched.{on_touched, touched_of_on}
use Rattle.inside_test.proofs.crossing.meeting_of.Goals as goal

pub returns-in-true-true-clause-meeting : goal.returns-in-true-true-clause-meeting
returns-in-true-true-clause-meeting g c =
    let a = c.args.a.now in
    let b = c.args.b.now in
    let p = c.args.p.now in
    let first = c.in-true-true.is-0 in
    let last = c.in-true-true.is-1 in
    record {
      on = (
        λ h. absurd (cc h),
        λ on. absurd (not_on_above a.at b.at p c.requires.rational (above_of_true a p c.requires.first first) (above_of_true b p c.requires.last last) on),
      );
      crossed = λ h. absurd (cc h);
      missed = λ _. not_crossed_unpassed (edge a.at b.at) p (no_rise_from_above a b p c.requires.first c.requires.last first)
          (no_rise_from_above b a p c.requires.last c.requires.first last);
    }

pub returns-in-false-true-clause-meeting : goal.returns-in-false-true-clause-meeting
returns-in-false-true-clause-meeting g c =
    let a = c.args.a.now in
    let b = c.args.b.now in
    let p = c.args.p.now in
    let rise = rise_of a b p c.requires.first c.requires.last c.in-false-true.is-0 c.in-false-true.is-1 in
    let meeting = c.meeting_of_rise-in-false-true.ensures in
    meeting_by_turn a.at b.at p c.requires.rational rise c.meeting_of_rise-in-false-true.result _ c.turn_of_rise-in-false-true.ensures.turn meeting.on meeting.crossed meeting.missed

pub returns-in-true-false-clause-meeting : goal.returns-in-true-false-clause-meeting
returns-in-true-false-clause-meeting g c =
    let a = c.args.a.now in
    let b = c.args.b.now in
    let p = c.args.p.now in
    let rise = rise_of b a p c.requires.last c.requires.first c.in-true-false.is-1 c.in-true-false.is-0 in
    let meeting = c.meeting_of_rise.ensures in
    meeting_backward c.meeting_of_rise.result a.at b.at p
    (meeting_by_turn b.at a.at p c.requires.rational rise c.meeting_of_rise.result _ c.turn_of_rise.ensures.turn
    meeting.on meeting.crossed meeting.missed)

pub returns-in-false-false-clause-meeting : goal.returns-in-false-false-clause-meeting
returns-in-false-false-clause-meeting g c =
    let a = c.args.a.now in
    let b = c.args.b.now in
    let p = c.args.p.now in
    let first = c.in-false-false.is-0 in
    let last = c.in-false-false.is-1 in
    let (from_test, to_test) = c.is_touched.ensures.touched p c.requires.levels in
    let (on, back) = c.meeting_below.ensures.on in
    record {
      on = (
        λ h. on_touched a.at b.at p c.requires.rational (from_test (on h)),
        λ k. back (to_test (touched_of_on a.at b.at p c.requires.rational (not_above_of_false a p c.requires.first first) (not_above_of_false b p c.requires.last last) k)),
      );
      crossed = λ h. absurd (c.meeting_below.ensures.not_crossed h);
      missed = λ _. not_crossed_unpassed (edge a.at b.at) p (no_rise_to_below a b p c.requires.first c.requires.last last)
          (no_rise_to_below b a p c.requires.last c.requires.first first);
    }
