use Rattle.std.proofs.Common.{refl, sym, ap, subst, ◌∙◌, ◌+◌, ◌≤◌, length}
use Rattle.std.specs.Prelude.{slice_index}
use Rattle.sweep_tri.proofs.Passes.{ending_closes, finish_inside, merging_closes_above, merging_closes_below, merging_some, on_ok_both}
use Rattle.sweep_tri.proofs.Passes.{swept_of_end, swept_of_merge, swept_same, up_some}
use Rattle.sweep_tri.proofs.event.Sweep.finish.Goals as goal
use Rattle.sweep_tri.specs.Gaps.{highest, up_front}
use Rattle.sweep_tri.specs.declared.gap.Gap.{Gap}

pub get-requires : goal.get-requires
get-requires g c = finish_inside c.requires.next c.args.j c.requires.place c.requires.finishes

pub up_front-requires : goal.up_front-requires
up_front-requires g c =
    let inside = finish_inside c.requires.next c.args.j c.requires.place c.requires.finishes in
    subst (λ (gap : Gap). 2 ≤ length (highest gap.low gap.high).upper) (sym c.get.ensures.gap) (up_some c.requires.next c.args.j inside)

pub end-requires-clause-place : goal.end-requires-clause-place
end-requires-clause-place g c = finish_inside c.requires.next c.args.j c.requires.place c.requires.finishes

pub end-requires-clause-closed : goal.end-requires-clause-closed
end-requires-clause-closed g c =
    ending_closes c.requires.next c.args.j c.requires.place c.requires.finishes
    (ap (λ (gap : Gap). (up_front gap).to) (sym c.get.ensures.gap) ∙ sym c.up_front.ensures.to ∙ c.if-up_front-v.true)

pub merge-requires-clause-first : goal.merge-requires-clause-first
merge-requires-clause-first g c =
    merging_some c.requires.next c.args.j c.requires.place c.requires.finishes
    (λ to. c.if-up_front-v.false (c.up_front.ensures.to ∙ ap (λ (gap : Gap). (up_front gap).to) c.get.ensures.gap ∙ to))

pub merge-requires-clause-place : goal.merge-requires-clause-place
merge-requires-clause-place g c = finish_inside c.requires.next c.args.j c.requires.place c.requires.finishes

pub merge-requires-clause-closed_below : goal.merge-requires-clause-closed_below
merge-requires-clause-closed_below g c =
    merging_closes_below c.requires.next c.args.j c.requires.place c.requires.finishes
    (λ to. c.if-up_front-v.false (c.up_front.ensures.to ∙ ap (λ (gap : Gap). (up_front gap).to) c.get.ensures.gap ∙ to))

pub merge-requires-clause-closed_above : goal.merge-requires-clause-closed_above
merge-requires-clause-closed_above g c =
    merging_closes_above c.requires.next c.args.j c.requires.place c.requires.finishes
    (λ to. c.if-up_front-v.false (c.up_front.ensures.to ∙ ap (λ (gap : Gap). (up_front gap).to) c.get.ensures.gap ∙ to))

pub returns-then-up_front-v-clause-swept : goal.returns-then-up_front-v-clause-swept
returns-then-up_front-v-clause-swept g c =
    on_ok_both c.end.result c.end.ensures.gaps c.end.ensures.filled
    (λ is filled. swept_same (g.T.Turns.corners c.args.ring.now.board.now) c.args.ring.now.rank.now (slice_index c.args.ring.now.rank.now c.args.v + 1) is refl
    (swept_of_end c.requires.next c.args.j c.requires.place c.requires.finishes
    (ap (λ (gap : Gap). (up_front gap).to) (sym c.get.ensures.gap) ∙ sym c.up_front.ensures.to ∙ c.if-up_front-v.true) c.end.new.self.tris.items filled))

pub returns-else-up_front-v-clause-swept : goal.returns-else-up_front-v-clause-swept
returns-else-up_front-v-clause-swept g c =
    on_ok_both c.merge.result c.merge.ensures.gaps c.merge.ensures.filled
    (λ is filled. swept_same (g.T.Turns.corners c.args.ring.now.board.now) c.args.ring.now.rank.now (slice_index c.args.ring.now.rank.now c.args.v + 1) is refl
    (swept_of_merge c.requires.next c.args.j c.requires.place c.requires.finishes
    (λ to. c.if-up_front-v.false (c.up_front.ensures.to ∙ ap (λ (gap : Gap). (up_front gap).to) c.get.ensures.gap ∙ to)) c.merge.new.self.tris.items filled))
