use Rattle.std.proofs.Common.{◌≡◌, ◌+◌, ap, ◌∙◌, set}
use Rattle.std.proofs.lemmas.Result.{on_ok_weaker}
use Rattle.std.specs.List.{insert}
use Rattle.sweep_tri.proofs.Work.{replaced_twice}
use Rattle.sweep_tri.specs.Gaps.{gap_at}
use Rattle.sweep_tri.specs.Meeting.{gap_of, split_above, split_below}
use Rattle.sweep_tri.proofs.event.Sweep.split.Goals as goal

pub returns-clause-gaps : goal.returns-clause-gaps
returns-clause-gaps c =
    let gaps = c.args.self.now.status in
    let j = c.args.j in
    let fork = c.args.fork in
    let gap = gap_at gaps j in
    let below = gap_of (split_below c.args.rank.now gap.low gap.high fork.vertex fork.below) in
    let above = gap_of (split_above c.args.rank.now gap.low gap.high fork.vertex fork.above) in
    let below_is : c.in_ok-below.below ≡ below = rw c.replace-gap.ensures.gap at c.in_ok-below.ensures.below in
    let above_is : c.in_ok-below.above ≡ above = rw c.replace-gap.ensures.gap at c.in_ok-below.ensures.above in
    let now : c.replace.new.self ≡ set gaps j below =
    replaced_twice gaps c.replace-gap.new.self c.replace.new.self j c.none.result c.in_ok-below.below
    c.replace-gap.ensures.gaps c.replace.ensures.gaps ∙ ap (set gaps j) below_is in
    on_ok_weaker c.insert.result
    (λ is. is ∙ ap (λ gs. insert gs (j + 1) c.in_ok-below.above) now ∙ ap (insert (set gaps j below) (j + 1)) above_is)
    c.insert.ensures.gaps
