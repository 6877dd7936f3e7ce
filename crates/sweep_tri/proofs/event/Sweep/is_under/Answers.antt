use Rattle.std.proofs.Common.{◌≡◌, ◌↔◌, ap, ◌∙◌, IsTrue, rules}
use Rattle.exact_plane.specs.declared.direction.Direction.TheVariants.{Right}
use Rattle.sweep_tri.proofs.Search.{under_by_turn}
use Rattle.sweep_tri.specs.Gaps.{gap_at, up_front}
use Rattle.sweep_tri.specs.declared.gap.Gap.{Gap}
use Rattle.sweep_tri.proofs.event.Sweep.is_under.Goals as goal

pub returns-clause-under : goal.returns-clause-under
returns-clause-under g c =
    let board = c.args.board.now in
    let gap = gap_at c.args.self.now.status c.args.j in
    let turns : IsTrue c.eq.result ↔ (c.turn-turn.result ≡ Right) = search rules in
    let from_is : c.up_front-from.result.0 ≡ (up_front gap).from
    = c.up_front-from.ensures.from ∙ ap (λ (h : Gap). (up_front h).from) c.get.ensures.gap in
    let to_is : c.up_front-from.result.1 ≡ (up_front gap).to = c.up_front-from.ensures.to ∙ ap (λ (h : Gap). (up_front h).to) c.get.ensures.gap in
    let turn_is = rw (from_is, to_is) at c.turn-turn.ensures.turn in
    let under = under_by_turn (g.T.Turns.corners board) (g.T.Turns.start board) (g.T.Turns.goal board) (up_front gap) c.args.v
    c.requires.from c.requires.to c.requires.v c.turn-turn.result turn_is in
    (λ h. under.0 (turns.0 h), λ h. turns.1 (under.1 h))
