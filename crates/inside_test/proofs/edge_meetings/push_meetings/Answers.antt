use Rattle.std.proofs.Common.{◌≢◌, pos, refl, arith}
use Rattle.std.proofs.lemmas.Result.{on_ok_weaker}
use Rattle.plane.specs.Line.{cross_product}
use Rattle.plane.specs.Point.{whole}
use Rattle.inside_test.proofs.Meetings.{encloses_crossing, encloses_parallel, meeting_on_first}
use Rattle.inside_test.proofs.PointLists.{extends_listed, extends_trans}
use Rattle.inside_test.proofs.edge_meetings.push_meetings.Goals as goal
use Rattle.inside_test.specs.Breakpoints.{breakpoint_points}

pub returns-in-Some : goal.returns-in-Some
returns-in-Some g c =
    let a = c.args.a.now in
    let b = c.args.b.now in
    let m = c.in-Some.m in
    let old = breakpoint_points c.args.points.now.items in
    let new = breakpoint_points c.push_unlisted.new.points.items in
    let at_m = c.push_unlisted.ensures.rational in
    let crossing : cross_product a b c.args.c.now c.args.d.now ≢ pos 0 = λ e. cc (c.in-Some.ensures.none.1 e) in
    let first = c.in-Some.ensures.on_first in
    let second = c.in-Some.ensures.on_second in
    let meet = c.segments_meet.ensures.meet.0 c.if-not-segments_meet.false in
    let on = meeting_on_first a b c.args.c.now c.args.d.now m at_m crossing first second meet in
    record {
      extends = extends_listed (whole a) (whole b) c.push_unlisted.result old new m (at_m, on) c.push_unlisted.ensures.ok c.push_unlisted.ensures.err;
      enclosed = on_ok_weaker c.push_unlisted.result
          (encloses_crossing a b c.args.c.now c.args.d.now m at_m crossing first second old new) c.push_unlisted.ensures.ok;
      few = omega (arith, c.push_unlisted.ensures.few);
      steps = omega (arith, c.segments_meet.ensures.steps_most, c.meets_one_end.ensures.steps, c.push_unlisted.ensures.steps);
    }

pub returns-in_ok-push_if_on-in-None : goal.returns-in_ok-push_if_on-in-None
returns-in_ok-push_if_on-in-None g c =
    let a = c.args.a.now in
    let b = c.args.b.now in
    let old = breakpoint_points c.args.points.now.items in
    let between = breakpoint_points c.push_if_on.new.points.items in
    let new = breakpoint_points c.push_if_on-in-None.new.points.items in
    let parallel = c.in-None.ensures.none.0 refl in
    let first = c.push_if_on.ensures.extends in
    let second = c.push_if_on-in-None.ensures.extends in
    let first_few = c.push_if_on.ensures.few in
    let second_few = c.push_if_on-in-None.ensures.few in
    record {
      extends = extends_trans (whole a) (whole b) old between new first second;
      enclosed = on_ok_weaker c.push_if_on-in-None.result
          (λ has_d. encloses_parallel a b c.args.c.now c.args.d.now new parallel
          (second.kept (whole a) (first.kept (whole a) c.requires.has_first)) (second.kept (whole b) (first.kept (whole b) c.requires.has_last))
          (λ on. second.kept (whole c.args.c.now) (c.in_ok-push_if_on-in-None.ensures.listed on)) has_d)
          c.push_if_on-in-None.ensures.listed;
      few = omega (arith, first_few, second_few);
      steps = omega (arith, c.segments_meet.ensures.steps_most, c.meets_one_end.ensures.steps, c.push_if_on.ensures.steps, c.push_if_on-in-None.ensures.steps);
    }
