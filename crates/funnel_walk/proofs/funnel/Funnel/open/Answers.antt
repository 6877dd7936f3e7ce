use Rattle.std.proofs.Common.{sym, ap, ◌∙◌, arith}
use Rattle.std.proofs.lemmas.Bool.{false≢true}
use Rattle.funnel_walk.proofs.FirstNamed.{left_first, right_last, start_between, starts_alone}
use Rattle.funnel_walk.proofs.Opened.{not_at_both, opens_at_left, opens_at_right, opens_between, diagonal_below}
use Rattle.funnel_walk.proofs.funnel.Funnel.open.Goals as goal
use Rattle.funnel_walk.proofs.funnel.Funnel.open.Goals.{else-not-same, then-not-same}
use Rattle.funnel_walk.specs.declared.funnel.Funnel.{Funnel}

pub same-requires-clause-b : goal.same-requires-clause-b
same-requires-clause-b g c = rw c.left.ensures (diagonal_below _ _ c.requires.fits _ c.requires.of_mesh 0 c.requires.some).0

pub same-requires-2-clause-b : goal.same-requires-2-clause-b
same-requires-2-clause-b g c = rw c.right.ensures (diagonal_below _ _ c.requires.fits _ c.requires.of_mesh 0 c.requires.some).1

pub returns-then-not-same-2-clause-walked : goal.returns-then-not-same-2-clause-walked
returns-then-not-same-2-clause-walked g c =
    let cap = c.args.self.now.names.capacity in
    let at_left = rw c.left.ensures at c.same.ensures.same in
    let at_right = rw c.right.ensures at c.same-2.ensures.same in
    elim c.if-not-same.branch [
      | then-not-same w ↦
          let names = start_between c.clear.new.self c.push_back.new.self cap c.clear.ensures c.requires.room c.push_back.ensures.items w.push_front.new.self
          c.if-not-same.self.names c.push_back-then-not-same-2.new.self _ _ (ap (λ (f : Funnel). f.names) w.self-is) w.push_front.ensures.items c.push_back-then-not-same-2.ensures.items in
          rw (ap (λ b. b.items) names, ap (λ (f : Funnel). f.apex) w.self-is, c.left.ensures, c.right.ensures)
          (opens_between _ c.args.mesh.now c.requires.fits c.args.sleeve.now c.requires.of_mesh c.requires.some _ _
          c.requires.start (λ e. false≢true (sym w.if-not-same.true ∙ at_left.1 e))
          (λ e. false≢true (sym c.if-not-same-2.true ∙ at_right.1 e)))
      | else-not-same w ↦
          let names = right_last c.clear.new.self c.push_back.new.self cap c.clear.ensures c.requires.room c.push_back.ensures.items
          c.if-not-same.self.names c.push_back-then-not-same-2.new.self _ (ap (λ (f : Funnel). f.names) w.self-is) c.push_back-then-not-same-2.ensures.items in
          rw (ap (λ b. b.items) names, ap (λ (f : Funnel). f.apex) w.self-is, c.right.ensures)
          (opens_at_left _ c.args.mesh.now c.requires.fits c.args.sleeve.now c.requires.of_mesh c.requires.some _ _
          c.requires.start (at_left.0 w.if-not-same.false))
    ]

pub returns-then-not-same-2-clause-few : goal.returns-then-not-same-2-clause-few
returns-then-not-same-2-clause-few g c =
    let cap = c.args.self.now.names.capacity in
    elim c.if-not-same.branch [
      | then-not-same w ↦
          let names = start_between c.clear.new.self c.push_back.new.self cap c.clear.ensures c.requires.room c.push_back.ensures.items w.push_front.new.self
          c.if-not-same.self.names c.push_back-then-not-same-2.new.self _ _ (ap (λ (f : Funnel). f.names) w.self-is) w.push_front.ensures.items c.push_back-then-not-same-2.ensures.items in
          rw (ap (λ b. b.items) names) (omega arith)
      | else-not-same w ↦
          let names = right_last c.clear.new.self c.push_back.new.self cap c.clear.ensures c.requires.room c.push_back.ensures.items
          c.if-not-same.self.names c.push_back-then-not-same-2.new.self _ (ap (λ (f : Funnel). f.names) w.self-is) c.push_back-then-not-same-2.ensures.items in
          rw (ap (λ b. b.items) names) (omega arith)
    ]

pub returns-else-not-same-2-clause-walked : goal.returns-else-not-same-2-clause-walked
returns-else-not-same-2-clause-walked g c =
    let cap = c.args.self.now.names.capacity in
    let on_right = (rw c.right.ensures at c.same-2.ensures.same).0 c.if-not-same-2.false in
    elim c.if-not-same.branch [
      | then-not-same w ↦
          let names = (ap (λ (f : Funnel). f.names) w.self-is) ∙ left_first c.clear.new.self c.push_back.new.self cap c.clear.ensures c.requires.room c.push_back.ensures.items
          w.push_front.new.self _ w.push_front.ensures.items in
          rw (ap (λ b. b.items) names, ap (λ (f : Funnel). f.apex) w.self-is, c.left.ensures)
          (opens_at_right _ c.args.mesh.now c.requires.fits c.args.sleeve.now c.requires.of_mesh c.requires.some _ _ c.requires.start on_right)
      | else-not-same w ↦
          absurd (not_at_both _ c.args.mesh.now c.requires.fits c.args.sleeve.now c.requires.of_mesh c.requires.some _
          (g.T.Turns.goal c.args.board.now) c.requires.start ((rw c.left.ensures at c.same.ensures.same).0 w.if-not-same.false) on_right)
    ]

pub returns-else-not-same-2-clause-few : goal.returns-else-not-same-2-clause-few
returns-else-not-same-2-clause-few g c =
    let cap = c.args.self.now.names.capacity in
    elim c.if-not-same.branch [
      | then-not-same w ↦
          let names = (ap (λ (f : Funnel). f.names) w.self-is) ∙ left_first c.clear.new.self c.push_back.new.self cap c.clear.ensures c.requires.room c.push_back.ensures.items
          w.push_front.new.self _ w.push_front.ensures.items in
          rw (ap (λ b. b.items) names) (omega arith)
      | else-not-same w ↦
          let names = (ap (λ (f : Funnel). f.names) w.self-is) ∙ starts_alone c.clear.new.self c.push_back.new.self cap c.clear.ensures c.requires.room c.push_back.ensures.items in
          rw (ap (λ b. b.items) names) (omega arith)
    ]
