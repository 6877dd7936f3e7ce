use Rattle.std.proofs.Common.{ℕ, ◌+◌, arith, length, slice_index}
use Rattle.std.proofs.lemmas.List.{get_or_default, get_or_past, length_push}
use Rattle.rel_hull.proofs.Costs.{one_more, within_rounds}
use Rattle.rel_hull.proofs.TableSides.{next_row, no_sides, sides_more, sides_rebound, sides_same}
use Rattle.rel_hull.proofs.hull.sides_among.Goals as goal
use Rattle.rel_hull.proofs.hull.sides_among.Goals.{in-Some+in_ok-push, in_default}
use Rattle.rel_hull.specs.Table.{HasChainsBelow}

pub loop-s-init : goal.loop-s-init
loop-s-init g c = record {
  sides = rw c.new-sides.ensures.items (no_sides c.args.chains.now c.args.chains.now.count c.args.outer.now c.requires);
  few = rw c.new-sides.ensures.items (omega arith);
  steps = λ d below. omega arith;
}

pub loop-s-preserved : goal.loop-s-preserved
loop-s-preserved g c =
    let table = c.args.chains.now in
    let outer = c.args.outer.now in
    let j = c.loop-s.s-index in
    let pairs = c.loop-s.sides.items in
    let before = rw (get_or_default outer j table.count 0 c.loop-s-test.true) at c.loop-s.invariant.sides in
    let few = c.loop-s.invariant.few in
    let next = next_row table table.count outer c.requires j c.loop-s-test.true in
    let paid = λ (d : ℕ) (short : HasChainsBelow d table).
    one_more _ _ _ j _ (c.loop-s.invariant.steps d short) (c.side_from.ensures.steps d short) in
    elim c.match-side_from.branch [
      | in-Some+in_ok-push w ↦
          rw (w.sides-is, w.in_ok-push.ensures.items)
          (record {
            sides = sides_rebound table outer _ _ _ next (sides_more table outer (slice_index outer j) pairs before w.in-Some.t w.in-Some.ensures.end);
            few = omega (arith, few, length_push pairs (slice_index outer j, w.in-Some.t));
            steps = paid;
          })
      | in_default w ↦
          rw w.sides-is
          (record {
            sides = sides_rebound table outer _ _ _ next (sides_same table outer (slice_index outer j) pairs before w.in_default.ensures.end);
            few = omega (arith, few);
            steps = paid;
          })
    ]

pub returns-clause-sides : goal.returns-clause-sides
returns-clause-sides g c = rw (get_or_past c.args.outer.now c.loop-s.s-index c.args.chains.now.count c.loop-s-test.false) at c.loop-s.invariant.sides

pub returns-in_err-push-clause-steps : goal.returns-in_err-push-clause-steps
returns-in_err-push-clause-steps g c d short =
    let so_far = one_more _ _ _ c.loop-s.s-index _ (c.loop-s.invariant.steps d short) (c.side_from.ensures.steps d short) in
    omega (arith, within_rounds _ _ (c.loop-s.s-index + 1) (length c.args.outer.now) _ so_far (omega (arith, c.loop-s-test.true)))

pub returns-clause-steps : goal.returns-clause-steps
returns-clause-steps g c d short =
    omega (arith, within_rounds _ _ c.loop-s.s-index (length c.args.outer.now) _ (c.loop-s.invariant.steps d short) c.loop-s.auto.s-index-end)
