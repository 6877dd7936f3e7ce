use Rattle.std.proofs.Common.{◌≡◌, ◌∙◌, subst, ◌+◌, ◌-◌, ◌≤◌, length, arith}
use Rattle.std.proofs.lemmas.Bool.{false≢true}
use Rattle.meshes.specs.Sleeve.{diagonal_at}
use Rattle.shared_walks.proofs.FoundPaths.{finds_on}
use Rattle.shared_walks.proofs.KeptFronts.{fronts_pushed}
use Rattle.shared_walks.proofs.walks.Walks.walk_along.Goals as goal
use Rattle.shared_walks.proofs.walks.Walks.walk_along.Goals.{then-is_stop+in_ok-serve+in_ok-leave_copy, else-is_stop}
use Rattle.shared_walks.specs.Several.{AreServed, listed}

pub loop-i-preserved : goal.loop-i-preserved
loop-i-preserved g c =
    let inv = c.loop-i.invariant in
    let within = c.loop-i-test.true in
    let count = c.len-i-end.ensures.number in
    elim c.if-is_stop.branch [
      | then-is_stop+in_ok-serve+in_ok-leave_copy w ↦
          let next = w.advance.ensures in
          let last : length c.args.sleeve.now.diagonals ≤ c.loop-i.i + 1 → c.loop-i.i ≡ length c.args.sleeve.now.diagonals - 1 =
          λ ended. omega (arith, ended, within, count) in
          rw (w.fronts-is, w.found-is, w.steps-is, w.front-is) (record {
            behind = omega (arith, next.at);
            front = next.front;
            on = next.on;
            fronts = w.in_ok-leave_copy.ensures.fronts;
            finds = finds_on _ _ _ _ _ _ _ _ inv.finds _ _ _ w.in_ok-serve.ensures.found _ _ (omega (arith, next.steps, next.at));
            served = λ ended. subst (λ i. AreServed c.args.self.now.stops.now.mesh.now c.args.self.now.stops.now.tris.now (diagonal_at c.args.sleeve.now i).left
                (diagonal_at c.args.sleeve.now i).right (length c.args.self.now.stops.now.points.now) (listed w.serve.new.found.items)) (next.at ∙ last ended)
                w.in_ok-serve.ensures.served;
          })
      | else-is_stop w ↦ rw (w.fronts-is, w.found-is, w.steps-is, w.front-is) (record {
        behind = omega (arith, inv.behind);
        front = inv.front;
        on = inv.on;
        fronts = inv.fronts;
        finds = inv.finds;
        served = λ ended. absurd (false≢true (w.if-is_stop.ensures.last (omega (arith, ended, within, count))));
      })
    ]

pub returns-in_ok-push-clause-fronts : goal.returns-in_ok-push-clause-fronts
returns-in_ok-push-clause-fronts g c = fronts_pushed _ _ _ _ _ c.in_ok-push.ensures.items c.loop-i.invariant.fronts c.loop-i.invariant.front

pub returns-in_ok-push-clause-served : goal.returns-in_ok-push-clause-served
returns-in_ok-push-clause-served g c = c.loop-i.invariant.served (omega (arith, c.loop-i-test.false, c.len-i-end.ensures.number))

pub returns-else-are_some-clause-served : goal.returns-else-are_some-clause-served
returns-else-are_some-clause-served g c = c.loop-i.invariant.served (omega (arith, c.loop-i-test.false, c.len-i-end.ensures.number))
